-- Without room nothing is written; with room the line's outcome is told, and its bytes are the reply's line.
use Rattle.std.proofs.Common.{ap, refl, Some, ◌∙◌}
use Rattle.std.specs.Option.{unwrap_or}
use Rattle.replies.specs.declared.Outcome.{Outcome}
use Rattle.module.proofs.Laws.{promised_without_room, promised_with_room}
use Rattle.module.proofs.answer.Goals as goal

pub returns-then-reply-lt-REPLY_ROOM : goal.returns-then-reply-lt-REPLY_ROOM
returns-then-reply-lt-REPLY_ROOM c =
    let a = c.args in
    let n = c.default.ensures in
    promised_without_room a.r a.line.now a.reply.now _ c.if-reply-lt-REPLY_ROOM.true
    (λ i. record { registers = a.r; reply = record { refused = Some (c.number.ensures i); length = n.1.0 i; blocks = n.1.1 i } })

pub returns : goal.returns
returns c =
    let a = c.args in
    let o = c.answer_line-o in
    let m = c.as_slice.ensures in
    promised_with_room a.r a.line.now a.reply.now c.as_slice.result.now o.result _ _ o.ensures
    (m.is ∙ ap (λ (x : Outcome). x.reply) o.ensures) (rw m.is m.short) c.if-reply-lt-REPLY_ROOM.false
    refl (ap (λ (x : Outcome). x.refused) o.ensures) (c.unwrap_or-length.ensures ∙ ap (λ z. unwrap_or z 0) c.write_reply.ensures.value)
    refl c.write_reply.ensures.space_after
