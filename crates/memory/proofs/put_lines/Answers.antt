use mathlib.Core.Path.{◌≡◌, refl, sym, ap, ◌∙◌}
use Prim.Native.Nat.{ℕ, ◌+◌, ◌-◌, ◌*◌, ◌<◌, ◌≤◌}
use native.Mathlib.Omega.{arith}
use Rattle.std.specs.Prelude.{Some}
use lib.ListN.{length, take, drop}
use Rattle.sha256.specs.Hash.{sha256}
use Rattle.slots.specs.Nodes.{leaf_put}
use Rattle.slots.proofs.Turns.{leaf_length}
use Rattle.rows.specs.declared.Row.{Row}
use Rattle.rows.specs.Rows.{row_digest, row_put}
use Rattle.rows.specs.Pairs.{row_of}
use Rattle.store.specs.Lines.{line_read}
use Rattle.store.specs.Texts.{text_read}
use Rattle.store.proofs.Judging.{whole_size, line_there}
use Rattle.memory.specs.Memory.{leaves_put, digests_put}
use Rattle.memory.proofs.Puts.{row_length, leaves_turn, digests_turn, leaves_end, digests_end}
use borrow.Author.Rules.{rules}
use Rattle.memory.proofs.put_lines.Goals as goal
use Rattle.memory.proofs.put_lines.Goals.{In-loop-i, After-read_line}

-- line i stands behind i lines of one length
within : (c : In-loop-i) → 97 * c.loop-i.i + 97 ≤ length c.args.text.now
within c = omega (arith, c.requires.n_value, whole_size c.args.text.now c.requires.text_value)

-- and says leaf i
leaf_read : (c : After-read_line) → c.read_line.result ≡ Some (row_of (text_read c.args.text.now).rows c.loop-i.i)
leaf_read c =
    let t = c.args.text.now in
    let i = c.loop-i.i in
    let size : 97 * i + 96 - 97 * i ≡ 96 = omega arith in
    c.read_line.ensures ∙ ap (λ (n : ℕ). line_read (take n (drop (97 * i) t))) size
    ∙ line_there t c.requires.text_value i (omega (arith, c.requires.n_value))

pub overflow_mul-at : goal.overflow_mul-at
overflow_mul-at c = search (rules, within (goal.at.overflow_mul-at c).In-loop-i)

pub overflow_add-at : goal.overflow_add-at
overflow_add-at c = search (rules, within (goal.at.overflow_add-at c).In-loop-i)

pub slice_bounds-read_line-end : goal.slice_bounds-read_line-end
slice_bounds-read_line-end c = search (rules, within (goal.at.slice_bounds-read_line-end c).In-loop-i)

pub unwrap-row-requires : goal.unwrap-row-requires
unwrap-row-requires c = rw (leaf_read (goal.at.unwrap-row-requires c).After-read_line) refl

pub loop-i-init : goal.loop-i-init
loop-i-init c = (refl, refl, refl, refl)

pub loop-i-preserved : goal.loop-i-preserved
loop-i-preserved c =
    let k = c.loop-i in
    let rs = (text_read c.args.text.now).rows in
    let less : k.i < length rs = omega (arith, c.loop-i-test.true, c.requires.n_value) in
    let row : c.unwrap-row.result ≡ row_of rs k.i = cc (leaf_read (goal.at.loop-i-preserved c).After-read_line, c.unwrap-row.ensures) in
    let leaf = c.put.ensures.leaves_after ∙ ap (row_put k.leaves k.i) row in
    let node = c.put.ensures.nodes_after ∙ ap (λ (r : Row). leaf_put sha256 k.nodes k.i (row_digest sha256 r)) row in (
      ap length leaf ∙ row_length k.leaves k.i _ ∙ k.invariant.0,
      ap length node ∙ leaf_length sha256 k.nodes k.i _ ∙ k.invariant.1,
      k.invariant.2 ∙ leaves_turn rs k.i k.leaves less ∙ ap (leaves_put (drop (k.i + 1) rs) (k.i + 1)) (sym leaf),
      k.invariant.3 ∙ digests_turn sha256 rs k.i k.nodes less ∙ ap (digests_put sha256 (drop (k.i + 1) rs) (k.i + 1)) (sym node),
    )

pub shape_of-leaves : goal.shape_of-leaves
shape_of-leaves c = c.loop-i.invariant.0

pub shape_of-nodes : goal.shape_of-nodes
shape_of-nodes c = c.loop-i.invariant.1

pub returns : goal.returns
returns c =
    let k = c.loop-i in
    let rs = (text_read c.args.text.now).rows in
    let all : length rs ≤ k.i = omega (arith, c.loop-i-test.false, c.requires.n_value) in
    record {
      leaves_after = sym (k.invariant.2 ∙ leaves_end rs k.i k.leaves all);
      nodes_after = sym (k.invariant.3 ∙ digests_end sha256 rs k.i k.nodes all);
    }
