-- A fault among well-formed strings is an ending that one can show: two strings that differ as bytes and have one digest, or
-- a string with an all-zero digest.
use mathlib.Core.List.{List}
use mathlib.Core.Logic.{◌⊎◌, inl, inr}
use Prim.Native.Nat.{ℕ}
use Rattle.paper.specs.Strings.{Dig, Str, StringFits, digest_of}
use Rattle.paper.specs.Collisions.{Collision}
use Rattle.paper.proofs.Encoding.{enc_injective}
use Rattle.rings.specs.Endings.{ZeroDigest}
use Rattle.rings.specs.Meanings.{◌∈◌, Fault, collides, vanishes}

pub fault_shows : {D : List ℕ → Dig} {F : List Str} → ((s : Str) → s ∈ F → StringFits s) → Fault (digest_of D) F
    → Collision D F ⊎ ZeroDigest D F
fault_shows w (collides s t i j n e) =
    inl (record {
      one = s;
      other = t;
      one_formed = i;
      other_formed = j;
      differ = λ b. n (enc_injective s t (w s i) (w t j) b);
      agree = e;
    })
fault_shows w (vanishes s i e) = inr (record { string = s; string_formed = i; zero_digest = e })
