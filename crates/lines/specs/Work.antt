-- What the private functions of this crate promise one another: check 3 in numbers. `proofs/Fitting` shows that it
-- comes to what `paper` says of a frame.
use Rattle.std.specs.Prelude.{◌≡◌, Bool, List, [], ◌∷◌, ℕ, ◌+◌, ◌*◌, ◌/◌, ◌^◌, eqb, leb, length, get_or, Result, MatchResult}
use Rattle.seqs.specs.Choose.{pick, both, opposite}
use Rattle.seqs.specs.Bytes.{number_at}
use Rattle.paper.specs.declared.Kind.{Kind}
use Rattle.paper.specs.declared.Refusal.{Refusal}
use Rattle.paper.specs.Requests.{kind_of, known}
use Rattle.paper.specs.Numbers.{refusal_number, kind_number}
use Rattle.lines.specs.declared.Shape.{Shape}

-- what the two checks look at
abbrev pub shape_of : List ℕ → Shape
shape_of f = record { kind = kind_of f; size = length f; n = get_or f 65 0; sides = number_at f 66 }

-- the length of each kind's frame, by the kind; of a path the shortest
abbrev pub lengths : List ℕ
lengths = 0 ∷ 74 ∷ 97 ∷ 257 ∷ 321 ∷ 321 ∷ 161 ∷ 9 ∷ 153 ∷ 97 ∷ 161 ∷ 97 ∷ 169 ∷ 145 ∷ 121 ∷ 9 ∷ 33 ∷ []

-- a path's frame
abbrev pub path_fits : (size n sides : ℕ) → Bool
path_fits size n sides = both (eqb size (74 + 32 * n)) (both (leb n 64) (eqb (sides / 2 ^ n) 0))

-- a frame of kind k with so many bytes, its byte 65 being n and the number behind that sides
unfoldable pub fitting : (k size n sides : ℕ) → Bool
fitting k size n sides = pick (eqb k 1) (path_fits size n sides) (eqb size (get_or lengths k 0))

-- the first of refusals 2 and 3 of such a frame, and else 0
unfoldable pub refusal_by : (k size n sides : ℕ) → ℕ
refusal_by k size n sides = pick (opposite (known k)) 2 (pick (opposite (fitting k size n sides)) 3 0)

-- such a frame's kind, or the refusal
abbrev pub KindFound : Shape → Result Kind Refusal → Type 0
KindFound s r =
    MatchResult r
    (λ k. (kind_number k ≡ s.kind) × (refusal_by s.kind s.size s.n s.sides ≡ 0))
    (λ e. refusal_number e ≡ refusal_by s.kind s.size s.n s.sides)
