-- What the module's answer to a line returns, beside what it leaves in the reply space.
use Rattle.std.specs.Prelude.{length}
use Rattle.paper.specs.declared.Registers.{Registers}
use Rattle.paper.specs.Strings.{cost}
use Rattle.paper.specs.Module.{Told, reply_line}
use Rattle.replies.specs.Outcomes.{number_told}
use Rattle.module.specs.declared.Answered.{Answered}
use Rattle.module.specs.declared.Replied.{Replied}

-- the registers, the number of a refusal, the length of the reply's line, and the blocks worked (§3.7.1, §10.1.1)
abbrev pub answered_of : Told → Answered
answered_of t =
    record {
      registers = t.after;
      reply = record { refused = number_told t.refusal; length = length (reply_line t); blocks = cost t.formed };
    }

-- what came back where the registers lie, beside those registers (§2.2.1, §10.1.6)
abbrev pub answered_with : Registers → Replied → Answered
answered_with s o = record { registers = s; reply = o }
