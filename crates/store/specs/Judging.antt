-- Whether a store's lines are one ascending ring: what a whole text comes to. Lines count from 0.
use Rattle.std.specs.Prelude.{Bool, List, ℕ, eqb, ltb, length, Result, Ok, Err}
use Rattle.seqs.specs.Choose.{pick, either, opposite}
use Rattle.paper.specs.Strings.{in_gap}
use Rattle.rows.specs.declared.Row.{Row}
use Rattle.rows.specs.Pairs.{Break, break_at, no_break, first_break}
use Rattle.store.specs.declared.Fault.{Fault}
use Rattle.store.specs.declared.Fault.TheVariants.{Unreadable, TooMany, Broken}
use Rattle.store.specs.Texts.{text_read}

-- lines that can all be read, and are not too many: the first pair of them that breaks the ring, else how many they are
abbrev pub judged_by : Break → (n : ℕ) → Result ℕ Fault
judged_by (break_at i j) n = Err (Broken i j)
judged_by no_break n = Ok n

abbrev pub ring_judged : List Row → Result ℕ Fault
ring_judged rs = judged_by (first_break rs) (length rs)

-- a text: the first line that cannot be read; else how many lines there are, where that is more than `most`; else their ring
unfoldable pub judged : List ℕ → (most : ℕ) → Result ℕ Fault
judged t most =
    let r = text_read t in
    let n = length r.rows in
    pick r.whole (pick (ltb most n) (Err (TooMany n)) (ring_judged r.rows)) (Err (Unreadable n))

-- ── as the code looks at a pair ──

-- whether line i, of item A that leads to A', breaks with line j of item q, by the numbers alone; A' stands in a line, or not
abbrev pub broken_by : (q i j A A' : ℕ) (stands : Bool) → Bool
broken_by q i j A A' stands = pick (eqb i j) (opposite stands) (either (eqb q A) (in_gap q A A'))
