-- The bytes written are the text of the leaves.
use Rattle.std.proofs.Common.{sym, ◌∙◌, ◌*◌}
use borrow.Author.Tests.{leb-true}
use Rattle.rows.specs.Rows.{rows_from}
use Rattle.store.specs.Texts.{text_of}
use Rattle.store.proofs.Saved.{text_long}
use Rattle.keeper.proofs.Laws.{saved_front}
use Rattle.keeper.proofs.disk.keep_changed.Goals as goal

pub write_store-requires : goal.write_store-requires
write_store-requires c =
    let a = c.args in
    saved_front (text_of (rows_from a.leaves.now a.count 0)) a.text.now _ (97 * a.count) (text_long a.leaves.now a.count 0)
    (leb-true _ _ (sym c.save.ensures.value ∙ c.if-save.true)) c.save.ensures.space_after
