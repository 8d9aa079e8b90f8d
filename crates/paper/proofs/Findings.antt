-- What a finding's bytes show is that finding: `finding_in` reads what `finding_bytes` writes.
use mathlib.Core.Path.{◌≡◌}
use mathlib.Core.List.{[], ◌∷◌}
use lib.ListN.{take, drop}
use Rattle.seqs.specs.Bytes.{be64, number_of, number_be64}
use Rattle.paper.specs.declared.Finding.{Finding}
use Rattle.paper.specs.declared.Finding.TheVariants.{Recorded, Listed, Gap}
use Rattle.paper.specs.Strings.{nums, numbers, FieldsFit}
use Rattle.paper.specs.Answers.{finding_bytes, finding_in}

-- its numbers are such as 8 bytes hold
abbrev pub SoundFinding : Finding → Type 0
SoundFinding (Recorded A r) = FieldsFit (nums (A.0 ∷ numbers r))
SoundFinding (Listed A) = FieldsFit (nums (A.0 ∷ []))
SoundFinding (Gap A A') = FieldsFit (nums (A.0 ∷ A'.0 ∷ []))

pub finding_back : (f : Finding) → SoundFinding f → finding_in (finding_bytes f) ≡ f
unfolding finding_in be64
finding_back (Recorded A r) h =
    let b = finding_bytes (Recorded A r) in
    let at-A : number_of (take 8 (drop 1 b)) ≡ A.0 = number_be64 A.0 h.0 in
    let at_1 : number_of (take 8 (drop 9 b)) ≡ r.revision.0 = number_be64 r.revision.0 h.1.0 in
    let at-2 : number_of (take 8 (drop 17 b)) ≡ r.mass.0 = number_be64 r.mass.0 h.1.1.0 in
    let at-3 : number_of (take 8 (drop 25 b)) ≡ r.offset.0 = number_be64 r.offset.0 h.1.1.1.0 in
    let at-4 : number_of (take 8 (drop 33 b)) ≡ r.rigging.0 = number_be64 r.rigging.0 h.1.1.1.1.0 in
    λ i.
    Recorded (record { 0 = at-A i })
    (record {
      revision = record { 0 = at_1 i };
      mass = record { 0 = at-2 i };
      offset = record { 0 = at-3 i };
      rigging = record { 0 = at-4 i };
    })
finding_back (Listed A) h =
    let at-A : number_of (take 8 (drop 1 (finding_bytes (Listed A)))) ≡ A.0 = number_be64 A.0 h.0 in
    λ i. Listed (record { 0 = at-A i })
finding_back (Gap A A') h =
    let b = finding_bytes (Gap A A') in
    let at-A : number_of (take 8 (drop 1 b)) ≡ A.0 = number_be64 A.0 h.0 in
    let at-A' : number_of (take 8 (drop 9 b)) ≡ A'.0 = number_be64 A'.0 h.1.0 in
    λ i. Gap (record { 0 = at-A i }) (record { 0 = at-A' i })
