-- The frame of the part at the step.
use Rattle.std.proofs.Common.{◌≡◌, ap, sym, ◌∙◌, List, ℕ, length}
use Rattle.seqs.specs.Over.{written}
use Rattle.hexadecimal.specs.Hex.{line_of}
use Rattle.runs.specs.Frames.{frame_of}
use Rattle.asking.specs.declared.Part.{Part}
use Rattle.asking.specs.Saying.{request_as, request_at}
use Rattle.asking.proofs.Lying.{line_fits, line_not}
use Rattle.asking.proofs.line.Goals as goal
use Rattle.asking.proofs.line.Goals.{After-as_slice-bytes}

is : (c : After-as_slice-bytes) → c.as_slice-bytes.result.now ≡ frame_of (request_at c.args.nodes.now c.args.t)
unfolding request_at
is c =
    c.as_slice-bytes.ensures ∙ c.frame_of-frame.ensures
    ∙ ap (λ (p : Part). frame_of (request_as c.args.nodes.now c.args.t p)) c.part_at.ensures

pub returns-then-write : goal.returns-then-write
returns-then-write c =
    let frame = is (goal.at.returns-then-write c).After-as_slice-bytes in
    record {
      value = line_fits (length c.args.out.now) frame (sym c.write.ensures.value ∙ c.if-write.true);
      out_after = c.write.ensures.space_after ∙ ap (λ (l : List ℕ). written (line_of l) c.args.out.now) frame;
    }

pub returns-else-write : goal.returns-else-write
returns-else-write c =
    let frame = is (goal.at.returns-else-write c).After-as_slice-bytes in
    record {
      value = line_not (length c.args.out.now) frame (sym c.write.ensures.value ∙ c.if-write.false);
      out_after = c.write.ensures.space_after ∙ ap (λ (l : List ℕ). written (line_of l) c.args.out.now) frame;
    }
