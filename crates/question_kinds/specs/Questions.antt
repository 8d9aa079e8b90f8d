-- What an ask comes to, as the bytes that it lists.
use Rattle.std.specs.Prelude.{List, ℕ, Result, Ok, Err}
use Rattle.paper.specs.declared.Refusal.{Refusal}
use Rattle.paper.specs.Answers.{finding_bytes}
use Rattle.question_kinds.specs.declared.AskReply.{AskReply}

abbrev pub told : Result AskReply Refusal → Result (List ℕ) Refusal
told (Ok reply) = Ok (finding_bytes reply.finding)
told (Err e) = Err e
