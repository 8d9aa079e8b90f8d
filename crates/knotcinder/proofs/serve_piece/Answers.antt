use Rattle.std.proofs.Common.{◌≡◌, refl, ◌∙◌, ◌-◌, ◌++◌, arith, List, ℕ, length, take, drop, length-append, length-drop}
use Rattle.std.proofs.Math.Seq.{take_at, length-take-le}
use Rattle.session.specs.Serving.{session_with}
use Rattle.session.proofs.Whole.{Call, served}
use Rattle.module.proofs.Laws.{taken}
use Rattle.knotcinder.proofs.Laws.{came_next, through, standing_reached, reached_next, due_served}
use Rattle.knotcinder.proofs.serve_piece.Goals as goal
use Rattle.knotcinder.proofs.serve_piece.Goals.{After-serve-o}

-- a call of `serve`: where what was held was kept before it, where the turn began, and what the call did
module _ (t : After-serve-o) where
  abbrev piece : List ℕ
  piece = t.args.piece.now

  abbrev part : List ℕ
  part = take (t.serve-o.result.next - t.loop-at.at) (drop t.loop-at.at piece)

  calls : Call t.loop-at.left.registers piece t.loop-at.at t.loop-at.line t.loop-at.left.held t.serve-o.result
      t.serve-o.new.line t.serve-o.new.out part
  calls =
      let k = t.loop-at in
      served k.left.registers piece k.at k.line k.left.held k.out t.serve-o.result _ _ k.invariant.held k.invariant.longer
      t.loop-at-test.true k.invariant.room t.serve-o.ensures

  -- what was held is kept, in a space of the same length
  held_long : length t.copy_from_slice.new.self ≡ t.loop-at.left.held
  held_long =
      let k = t.loop-at in
      omega (arith, t.copy_from_slice.auto.self, length-take-le k.left.held k.kept (omega (arith, k.invariant.held, k.invariant.keeps)))

  is_kept : take t.loop-at.left.held (t.copy_from_slice.new.self ++ drop t.loop-at.left.held t.loop-at.kept)
      ≡ take t.loop-at.left.held t.loop-at.line
  is_kept =
      let k = t.loop-at in
      take_at t.copy_from_slice.new.self (drop k.left.held k.kept) k.left.held held_long ∙ t.copy_from_slice.ensures.after

  kept_long : length (t.copy_from_slice.new.self ++ drop t.loop-at.left.held t.loop-at.kept) ≡ length t.loop-at.kept
  kept_long =
      let k = t.loop-at in
      let h = held_long in
      simp (length-append, length-drop) (omega (arith, k.invariant.held, k.invariant.keeps))

pub loop-at-init : goal.loop-at-init
loop-at-init c =
    let b = c.requires.held_in_bounds in
    record {
      line = refl;
      longer = omega arith;
      kept = refl;
      keeps = omega arith;
      out = refl;
      room = omega arith;
      held = omega arith;
      came = refl;
      reached = standing_reached c.requires.standing;
    }

pub slice_bounds-say-count : goal.slice_bounds-say-count
slice_bounds-say-count c = let o = calls (goal.at.slice_bounds-say-count c).After-serve-o in omega (arith, o.onward)

pub slice_bounds-say-start : goal.slice_bounds-say-start
slice_bounds-say-start c = let o = calls (goal.at.slice_bounds-say-start c).After-serve-o in omega (arith, o.onward)

pub slice_bounds-say-end-in-loop-at-2 : goal.slice_bounds-say-end-in-loop-at-2
slice_bounds-say-end-in-loop-at-2 c = let o = calls (goal.at.slice_bounds-say-end-in-loop-at-2 c).After-serve-o in omega (arith, o.upto)

pub slice_bounds-say-end-in-loop-at-3 : goal.slice_bounds-say-end-in-loop-at-3
slice_bounds-say-end-in-loop-at-3 c = let o = calls (goal.at.slice_bounds-say-end-in-loop-at-3 c).After-serve-o in omega (arith, o.within)

pub slice_bounds-say-end-in-loop-at-4 : goal.slice_bounds-say-end-in-loop-at-4
slice_bounds-say-end-in-loop-at-4 c =
    let o = calls (goal.at.slice_bounds-say-end-in-loop-at-4 c).After-serve-o in
    taken _ _ (omega (arith, o.within))

pub say-requires : goal.say-requires
say-requires c =
    let t = (goal.at.say-requires c).After-serve-o in
    let k = c.loop-at in
    let o = calls t in
    due_served k.invariant.reached c.args.piece.now k.line _ _ k.at c.serve-o.result.next k.left.held c.serve-o.result.filled
    (is_kept t) o.onward o.upto o.bytes

pub loop-at-smaller : goal.loop-at-smaller
loop-at-smaller c = let o = calls (goal.at.loop-at-smaller c).After-serve-o in omega (arith, o.onward, o.upto)

pub loop-at-preserved : goal.loop-at-preserved
loop-at-preserved c =
    let t = (goal.at.loop-at-preserved c).After-serve-o in
    let k = c.loop-at in
    let i = k.invariant in
    let o = calls t in
    let line = c.serve-o.auto.line in
    let out = c.serve-o.auto.out in
    let kept = kept_long t in
    record {
      line = line ∙ i.line;
      longer = omega (arith, line, i.longer);
      kept = kept ∙ i.kept;
      keeps = omega (arith, line, kept, i.keeps);
      out = out ∙ i.out;
      room = omega (arith, out, i.room);
      held = omega (arith, line, o.fits);
      came = came_next c.args.piece.now _ _ _ k.at c.serve-o.result.next (omega (arith, o.onward)) i.came o.session;
      reached = reached_next (part t) (session_with k.left.registers k.line k.left.held) _ o.session i.reached;
    }

pub returns : goal.returns
returns c =
    let k = c.loop-at in
    through c.args.piece.now _ _ k.line _ k.at k.left k.invariant.came (omega (arith, k.invariant.held, k.invariant.line))
    c.loop-at-test.false
