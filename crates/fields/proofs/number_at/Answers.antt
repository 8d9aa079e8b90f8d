-- The eight bytes from there on, each 0 past the end, are the digits of the number.
use Rattle.std.proofs.Common.{◌∙◌}
use Rattle.fields.proofs.Bytes.{number_by}
use Rattle.fields.proofs.number_at.Goals as goal

pub returns : goal.returns
returns c = c.from_be_bytes.ensures ∙ number_by _ _ _ c.bytes_at.ensures
