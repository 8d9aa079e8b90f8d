use Rattle.std.proofs.Common.{refl, ◌∙◌, arith}
use Rattle.knotcinder.proofs.Laws.{standing_first, standing_next}
use Rattle.knotcinder.proofs.run.Goals as goal

pub loop-init : goal.loop-init
loop-init c =
    let r = c.requires in
    record {
      held = omega arith;
      longer = r.0;
      keeps = r.1;
      room = r.2;
      input = refl;
      line = refl;
      kept = refl;
      out = refl;
      standing = standing_first _ _ c.fresh.ensures;
    }

pub end-requires : goal.end-requires
end-requires c =
    let i = c.loop.invariant in
    record { held_in_bounds = (i.held, i.longer, i.room); standing = i.standing }

pub serve_piece-requires : goal.serve_piece-requires
serve_piece-requires c =
    let i = c.loop.invariant in
    record { held_in_bounds = (i.held, i.longer, i.keeps, i.room); standing = i.standing }

pub loop-preserved : goal.loop-preserved
loop-preserved c =
    let i = c.loop.invariant in
    let o = c.serve_piece in
    record {
      held = omega (arith, c.in_ok-left.ensures.fits, o.auto.line);
      longer = omega (arith, o.auto.line, i.longer);
      keeps = omega (arith, o.auto.line, o.auto.kept, i.keeps);
      room = omega (arith, o.auto.out, i.room);
      input = c.read.auto.buf ∙ i.input;
      line = o.auto.line ∙ i.line;
      kept = o.auto.kept ∙ i.kept;
      out = o.auto.out ∙ i.out;
      standing = standing_next i.standing c.in_ok-left.ensures;
    }
