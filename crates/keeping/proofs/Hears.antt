-- A reply that is all that can be known, with a memorandum behind it or none, is heard as the one awaited.
use mathlib.Core.Path.{◌≡◌, refl, sym, ap, ◌∙◌}
use mathlib.Core.Bool.{Bool, true, false}
use mathlib.Core.List.{List, ◌++◌}
use Prim.Native.Nat.{ℕ, ◌+◌, ◌-◌, ◌%◌, ◌<◌}
use native.Mathlib.Omega.{arith}
use borrow.Author.Tests.{eq-eqb, lt-ltb}
use lib.ListN.{length, take, drop, replicate, length-append}
use lib.Seq.{take_at, drop_at}
use Rattle.seqs.specs.Choose.{pick, both}
use Rattle.seqs.specs.Bytes.{Bytes, same_refl, digest_at}
use Rattle.hexadecimal.specs.Hex.{bytes_of, digits_of}
use Rattle.hexadecimal.proofs.Laws.{bytes_of_digits, digits_all, digits_length}
use Rattle.paper.specs.declared.Revision.{Revision}
use Rattle.paper.specs.Strings.{Dig}
use Rattle.asking.specs.declared.Talk.{Talk}
use Rattle.asking.specs.declared.Part.{Part}
use Rattle.asking.specs.Parts.{part_at}
use Rattle.hearing.specs.declared.End.TheVariants.{GoesOn}
use Rattle.hearing.specs.Awaiting.{Awaited, awaited_at, is_line, fits_reply, replies, as_awaited}
use Rattle.hearing.specs.Hearing.{committing, concluding, next_step, last_digest, heard_as, answered_by, accepts, leaves_heard, committed_leaves, committed_nodes, nodes_heard, heard_from}
use Rattle.saying.specs.Spoken.{next_talk}

is_line_lem : (b : List ℕ) → Bytes b → is_line (digits_of b) ≡ true
is_line_lem b h =
    let even : length (digits_of b) % 2 ≡ 0 = omega (arith, digits_length b) in
    rw (eq-eqb (length (digits_of b) % 2) 0 even) (digits_all b h)

fits_reply_lem : (w : Awaited) (d : List ℕ) → length d ≡ pick w.memo 32 0 → fits_reply w (w.known ++ d) ≡ true
unfolding fits_reply
fits_reply_lem w d n =
    let long : length (w.known ++ d) ≡ length w.known + pick w.memo 32 0 =
    length-append w.known d ∙ ap (λ (k : ℕ). length w.known + k) n in
    rw (eq-eqb _ _ long, take_at w.known d (length w.known) refl) (same_refl w.known)

pub as_awaited_lem : (t : Talk) (b d : List ℕ) → Bytes b → b ≡ (awaited_at t).known ++ d → length d ≡ pick (awaited_at t).memo 32 0
    → as_awaited t (digits_of b) ≡ true
unfolding replies
as_awaited_lem t b d h e n =
    rw (is_line_lem b h, bytes_of_digits b h) (ap (fits_reply (awaited_at t)) e ∙ fits_reply_lem (awaited_at t) d n)

-- ── what is then heard ──

-- the 32 bytes behind what is known
last_is : (k d : List ℕ) → length d ≡ 32 → last_digest (k ++ d) ≡ d
unfolding digest_at
last_is k d n =
    let at : length (k ++ d) - 32 ≡ length k = omega (arith, length-append k d) in
    ap (λ (i : ℕ). take 32 (drop i (k ++ d) ++ replicate 32 0)) at
    ∙ ap (λ (l : List ℕ). take 32 (l ++ replicate 32 0)) (drop_at k d (length k) refl) ∙ take_at d (replicate 32 0) 32 n

module _ (t : Talk) where
  abbrev part : Part
  part = part_at t.plan.script t.step

  -- nothing of memory changes by a line that does not commit
  pub leaves_stay : (l : List ℕ) → committing part ≡ false → (m : List ℕ) → leaves_heard t l m ≡ m
  unfolding leaves_heard accepts
  leaves_stay l c m = by_test (as_awaited t l)
    where
      by_test : (b : Bool) → pick (both b (committing part)) (committed_leaves t.plan m) m ≡ m
      by_test true = rw c
      by_test false = refl

  pub nodes_stay : (D : List ℕ → Dig) (l : List ℕ) → committing part ≡ false → (m : List ℕ) → nodes_heard D t l m ≡ m
  unfolding nodes_heard accepts
  nodes_stay D l c m = by_test (as_awaited t l)
    where
      by_test : (b : Bool) → pick (both b (committing part)) (committed_nodes D t.plan m) m ≡ m
      by_test true = rw c
      by_test false = refl

  -- the wish goes on with the memorandum
  pub heard_on : (D : List ℕ → Dig) (k : ℕ) (c : Revision) (leaves nodes b d : List ℕ) → Bytes b → b ≡ (awaited_at t).known ++ d
      → (awaited_at t).memo ≡ true → length d ≡ 32 → committing part ≡ false → concluding part ≡ false → t.step < 255
      → heard_from D t k c (digits_of b) leaves nodes ≡ heard_as GoesOn false k c (next_talk t d)
  unfolding heard_from answered_by next_step
  heard_on D k c leaves nodes b d h e memo n plain more small =
      let size : length d ≡ pick (awaited_at t).memo 32 0 = n ∙ sym (ap (λ (v : Bool). pick v 32 0) memo) in
      let d-is : last_digest (bytes_of (digits_of b)) ≡ d = ap last_digest (bytes_of_digits b h ∙ e) ∙ last_is (awaited_at t).known d n in
      rw (as_awaited_lem t b d h e size, plain, more, lt-ltb t.step 255 small)
      (ap (λ (x : Dig). heard_as GoesOn false k c (record { plan = t.plan; step = t.step + 1; older = t.memo; memo = x })) d-is)
