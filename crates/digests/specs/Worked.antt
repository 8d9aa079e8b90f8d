-- A digest with the blocks worked for it: the sum over the strings that its definition forms.
use Rattle.std.specs.Prelude.{List, [], ◌∷◌}
use Rattle.sha256.specs.Hash.{sha256}
use Rattle.paper.specs.Strings.{Dig, Str, digest_of, cost}
use Rattle.digests.specs.declared.Digest.{Digest}

abbrev pub worked : Dig → List Str → Digest
worked d formed = record { bytes = d; blocks = cost formed }

-- one string's digest
abbrev pub hashed : Str → Digest
hashed s = worked (digest_of sha256 s) (s ∷ [])
