-- What the private functions of this crate promise one another: known bytes, as what is awaited.
use Rattle.hearing.specs.declared.Known.{Known}
use Rattle.hearing.specs.Awaiting.{Awaited}

abbrev pub known_of : Known → Awaited
known_of k = record { known = k.bytes; memo = k.memo }
