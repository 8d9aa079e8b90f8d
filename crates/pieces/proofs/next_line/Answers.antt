use mathlib.Core.Path.{◌≡◌, refl, sym, ap, ◌∙◌}
use mathlib.Core.Bool.{false}
use mathlib.Core.List.{List}
use Prim.Native.Nat.{ℕ, ◌+◌, ◌<◌}
use native.Mathlib.Omega.{arith}
use borrow.Author.Tests.{eq-eqb, ne_eqb, lt-ltb, le-ltb}
use lib.ListN.{length, drop, get_or, length-set}
use Rattle.pieces.specs.Feeding.{feed_byte, feed_bytes}
use Rattle.pieces.specs.Cutting.{Sought, seeking, sought_in, cut_of}
use Rattle.pieces.proofs.Laws.{at_place, stays, feed_next, feed_end}
use Rattle.pieces.proofs.next_line.Goals as goal
use Rattle.pieces.proofs.next_line.Goals.{At-loop-i, then-n-line, else-n-line}

-- at the head of the loop: the piece, where the search stands, and one byte more
module _ (l : At-loop-i) where
  abbrev piece : List ℕ
  piece = l.args.piece.now

  abbrev here : Sought
  here = at_place l.loop-i.i l.loop-i.line l.loop-i.n false

  next : l.loop-i.i < length piece
      → sought_in piece l.args.at l.args.line.now l.args.held
      ≡ feed_bytes seeking (drop (l.loop-i.i + 1) piece) (feed_byte seeking here (get_or piece l.loop-i.i 0))
  next h = l.loop-i.invariant.1 ∙ feed_next seeking piece l.loop-i.i here h refl

pub loop-i-init : goal.loop-i-init
loop-i-init c = (refl, refl)

-- the search came to t
told : (s t : Sought) → s ≡ t → (cut_of t ≡ cut_of s) × (t.held.space ≡ s.held.space)
told s t e = (ap cut_of (sym e), ap (λ (x : Sought). x.held.space) (sym e))

pub returns-then-b-eq10 : goal.returns-then-b-eq10
returns-then-b-eq10 c =
    let l = (goal.at.returns-then-b-eq10 c).At-loop-i in
    let i = c.loop-i.i in
    let end = next l (omega arith) ∙ rw (eq-eqb _ _ c.if-b-eq10.true) (stays seeking (drop (i + 1) (piece l)) _ refl) in
    let both = told _ (seeking.line_end (here l)) end in
    record { value = both.0; line_after = both.1 }

pub loop-i-preserved : goal.loop-i-preserved
loop-i-preserved c =
    let e = c.loop-i.invariant.0 in
    let q = ne_eqb _ _ c.if-b-eq10.false in
    let f = next (goal.at.loop-i-preserved c).At-loop-i (omega arith) in
    elim c.if-n-line.branch [
      | then-n-line w ↦ rw (w.line-is, w.n-is) (simp length-set e, f ∙ rw (q, lt-ltb _ _ w.if-n-line.true))
      | else-n-line w ↦ rw (w.line-is, w.n-is) (e, f ∙ rw (q, le-ltb _ _ w.if-n-line.false))
    ]

pub returns : goal.returns
returns c =
    let l = (goal.at.returns c).At-loop-i in
    let both = told _ (here l) (c.loop-i.invariant.1 ∙ feed_end seeking (piece l) c.loop-i.i (here l) c.loop-i-test.false) in
    record { value = both.0; line_after = both.1 }
