-- What is written reads back: the line of a request whose numbers and digests have their widths is a line of digits with a
-- known kind, a frame that fits, and the frame of that very request. Shown row by row of the table of kinds.
use mathlib.Core.Path.{◌≡◌, refl, ap, subst, ◌∙◌}
use mathlib.Core.Bool.{Bool, true, false}
use mathlib.Core.List.{List, [], ◌∷◌, append-nil}
use Prim.Native.Nat.{ℕ, ◌+◌, ◌%◌, ◌^◌, ◌≤◌, ◌<◌}
use native.Mathlib.Omega.{arith}
use borrow.Author.Tests.{eq-eqb, ne_eqb, le-ltb, leb-true, ltb-true}
use lib.Dec.{leb, ltb}
use lib.ListN.{length, get_or}
use Rattle.seqs.specs.Choose.{both, both_true, ◌and◌}
use Rattle.seqs.specs.Bytes.{Bytes, number_be64}
use Rattle.hexadecimal.specs.Hex.{bytes_of, digits_of}
use Rattle.hexadecimal.proofs.Laws.{bytes_of_digits, digits_all, digits_length}
use Rattle.paper.specs.Strings.{Dig}
use Rattle.paper.specs.Requests as Q
use Rattle.paper.specs.Requests.{Request, Carried, a_digest, sides_in, KindRow, kinds, kind_of, known, row_of, takes_all, fits, request_of, most_siblings}
use Rattle.paper.specs.Refusals.{is_hex, longest_frame, longest_line}
use Rattle.runs.specs.Frames.{together, path_bytes, parts_of, frame_of}
use Rattle.runs.specs.Sizes.{InEightBytes, ValuesFit, RecordFits}
use Rattle.runs.proofs.Parts.{AllDigests, ShapedAll, most, shaped_row, part_at, shaped_number, shaped_digest, shaped_record, shaped_values, sides_small, sides_back, shaped_path, siblings_back, record_back, values_back}

-- ── requests that a line can carry ──

abbrev pub Sendable : Request → Type 0
Sendable (Q.path x x' sides l) = AllDigests (x ∷ x' ∷ []) × AllDigests l × (length l ≤ most_siblings) × (sides < 2 ^ length l)
Sendable (Q.witness x y m) = AllDigests (x ∷ y ∷ m ∷ [])
Sendable (Q.join x y x' y' m1 z z' m2) = AllDigests (x ∷ y ∷ x' ∷ y' ∷ m1 ∷ z ∷ z' ∷ m2 ∷ [])
Sendable (Q.pair x1 y x1' y' m1 x2 z x2' z' m2) = AllDigests (x1 ∷ y ∷ x1' ∷ y' ∷ m1 ∷ x2 ∷ z ∷ x2' ∷ z' ∷ m2 ∷ [])
Sendable (Q.raise x1 x2 y x1' x2' y' m1 z z' m2) = AllDigests (x1 ∷ x2 ∷ y ∷ x1' ∷ x2' ∷ y' ∷ m1 ∷ z ∷ z' ∷ m2 ∷ [])
Sendable (Q.swap x1 x2 y y' m) = AllDigests (x1 ∷ x2 ∷ y ∷ y' ∷ m ∷ [])
Sendable (Q.first A) = InEightBytes A
Sendable (Q.place A A' B' ω y y' m) = InEightBytes A × InEightBytes A' × InEightBytes B' × AllDigests (ω ∷ y ∷ y' ∷ m ∷ [])
Sendable (Q.turn x y m) = AllDigests (x ∷ y ∷ m ∷ [])
Sendable (Q.chain x y m1 z m2) = AllDigests (x ∷ y ∷ m1 ∷ z ∷ m2 ∷ [])
Sendable (Q.adopt y y' m) = AllDigests (y ∷ y' ∷ m ∷ [])
Sendable (Q.set_to A A' old v y y' m) =
    InEightBytes A × InEightBytes A' × RecordFits old × ValuesFit v × AllDigests (y ∷ y' ∷ m ∷ [])
Sendable (Q.clear A A' old y y' m) = InEightBytes A × InEightBytes A' × RecordFits old × AllDigests (y ∷ y' ∷ m ∷ [])
Sendable (Q.ask q A A' r y m) = InEightBytes q × InEightBytes A × InEightBytes A' × RecordFits r × AllDigests (y ∷ m ∷ [])
Sendable (Q.ask_none q) = InEightBytes q
Sendable (Q.unlock k) = AllDigests (k ∷ [])

-- ── the frame of such a request ──

pub record ReadsBack (q : Request) : Type 0 where
  pub bytes : Bytes (frame_of q)
  pub short : length (frame_of q) ≤ longest_frame
  pub kind_known : known (kind_of (frame_of q)) ≡ true
  pub fit : fits (frame_of q) ≡ true
  pub read : request_of (frame_of q) ≡ q

-- the kind is in the table, and what it carries leaves the frame short
abbrev listed : (kind : ℕ) → Bool
listed k = both (known k) (ltb (most (row_of k).carries) longest_frame)

-- by its row
by_row : (q : Request) → listed (parts_of q).kind ≡ true → ShapedAll (row_of (parts_of q).kind).carries (parts_of q).parts
    → (row_of (parts_of q).kind).reads (λ i. get_or (parts_of q).parts i []) ≡ q → ReadsBack q
unfolding fits request_of known kinds
by_row q k h e =
    let kind = (parts_of q).kind in
    let row : KindRow = row_of kind in
    let ps = (parts_of q).parts in
    let in_table = both_true (known kind) (ltb (most row.carries) longest_frame) k in
    let low = leb-true kind (length kinds) (both_true (leb 1 kind) (leb kind (length kinds)) in_table.0).1 in
    let all = shaped_row row.carries ps h in
    record {
      bytes = (omega arith, all.bytes);
      short = omega (arith, all.short, ltb-true (most row.carries) longest_frame in_table.1);
      kind_known = in_table.0;
      fit = rw (
        all.fair,
        eq-eqb (length (frame_of q)) (1 + takes_all row.carries (together ps)) (omega (arith, all.long)),
      ) refl;
      read = (λ j. row.reads (λ i. part_at row.carries ps i h j)) ∙ e;
    }

-- a row of digests alone
abbrev digests_only : List Dig → List Carried
digests_only [] = []
digests_only (d ∷ l) = a_digest ∷ digests_only l

shaped_digests : (l : List Dig) → AllDigests l → ShapedAll (digests_only l) l
shaped_digests [] h = tt
shaped_digests (d ∷ l) h = (shaped_digest d h.0, shaped_digests l h.1)

of_digests : (q : Request) → AllDigests (parts_of q).parts → listed (parts_of q).kind ≡ true
    → digests_only (parts_of q).parts ≡ (row_of (parts_of q).kind).carries
    → (row_of (parts_of q).kind).reads (λ i. get_or (parts_of q).parts i []) ≡ q → ReadsBack q
of_digests q h k c e =
    by_row q k (subst (λ (cs : List Carried). ShapedAll cs (parts_of q).parts) c (shaped_digests (parts_of q).parts h)) e

pub reads_back : (q : Request) → Sendable q → ReadsBack q
unfolding kinds known
reads_back (Q.path x x' sides l) h =
    by_row (Q.path x x' sides l) refl
    (shaped_digest x h.0.0 and shaped_digest x' h.0.1.0 and shaped_path sides l h.1 h.2 h.3 and tt)
    (rw (siblings_back sides l h.1)
    (ap (λ (n : ℕ). Q.path x x' n l)
    (subst (λ (b : List ℕ). sides_in b ≡ sides) (append-nil (path_bytes sides l))
    (sides_back sides (length l) (together l) [] (sides_small (length l) sides h.2 h.3)))))
reads_back (Q.witness x y m) h = of_digests (Q.witness x y m) h refl refl refl
reads_back (Q.join x y x' y' m1 z z' m2) h = of_digests (Q.join x y x' y' m1 z z' m2) h refl refl refl
reads_back (Q.pair x1 y x1' y' m1 x2 z x2' z' m2) h = of_digests (Q.pair x1 y x1' y' m1 x2 z x2' z' m2) h refl refl refl
reads_back (Q.raise x1 x2 y x1' x2' y' m1 z z' m2) h = of_digests (Q.raise x1 x2 y x1' x2' y' m1 z z' m2) h refl refl refl
reads_back (Q.swap x1 x2 y y' m) h = of_digests (Q.swap x1 x2 y y' m) h refl refl refl
reads_back (Q.first A) h =
    by_row (Q.first A) refl (shaped_number A and tt) (ap (λ (n : ℕ). Q.first n) (number_be64 A h))
reads_back (Q.place A A' B' ω y y' m) h =
    let e₁ = number_be64 A h.0 in
    let e₂ = number_be64 A' h.1 in
    let e₃ = number_be64 B' h.2 in
    by_row (Q.place A A' B' ω y y' m) refl
    (shaped_number A and shaped_number A' and shaped_number B' and shaped_digests (ω ∷ y ∷ y' ∷ m ∷ []) h.3)
    (λ i. Q.place (e₁ i) (e₂ i) (e₃ i) ω y y' m)
reads_back (Q.turn x y m) h = of_digests (Q.turn x y m) h refl refl refl
reads_back (Q.chain x y m1 z m2) h = of_digests (Q.chain x y m1 z m2) h refl refl refl
reads_back (Q.adopt y y' m) h = of_digests (Q.adopt y y' m) h refl refl refl
reads_back (Q.set_to A A' old v y y' m) h =
    let e₁ = number_be64 A h.0 in
    let e₂ = number_be64 A' h.1 in
    let e₃ = record_back old h.2 in
    let e₄ = values_back v h.3 in
    by_row (Q.set_to A A' old v y y' m) refl
    (shaped_number A and shaped_number A' and shaped_record old and shaped_values v and shaped_digests (y ∷ y' ∷ m ∷ []) h.4)
    (λ i. Q.set_to (e₁ i) (e₂ i) (e₃ i) (e₄ i) y y' m)
reads_back (Q.clear A A' old y y' m) h =
    let e₁ = number_be64 A h.0 in
    let e₂ = number_be64 A' h.1 in
    let e₃ = record_back old h.2 in
    by_row (Q.clear A A' old y y' m) refl
    (shaped_number A and shaped_number A' and shaped_record old and shaped_digests (y ∷ y' ∷ m ∷ []) h.3)
    (λ i. Q.clear (e₁ i) (e₂ i) (e₃ i) y y' m)
reads_back (Q.ask q A A' r y m) h =
    let e₁ = number_be64 q h.0 in
    let e₂ = number_be64 A h.1 in
    let e₃ = number_be64 A' h.2 in
    let e₄ = record_back r h.3 in
    by_row (Q.ask q A A' r y m) refl
    (shaped_number q and shaped_number A and shaped_number A' and shaped_record r and shaped_digests (y ∷ m ∷ []) h.4)
    (λ i. Q.ask (e₁ i) (e₂ i) (e₃ i) (e₄ i) y m)
reads_back (Q.ask_none q) h =
    by_row (Q.ask_none q) refl (shaped_number q and tt) (ap (λ (n : ℕ). Q.ask_none n) (number_be64 q h))
reads_back (Q.unlock k) h = of_digests (Q.unlock k) h refl refl refl

-- ── its line ──

pub line_is_hex : (q : Request) → ReadsBack q → (is_hex (digits_of (frame_of q))).fails ≡ false
line_is_hex q h =
    let f = frame_of q in
    let n = digits_length f in
    rw (
      ne_eqb (length (digits_of f)) 0 (λ e. omega arith),
      ne_eqb (length (digits_of f) % 2) 1 (λ e. omega arith),
      le-ltb longest_line (length (digits_of f)) (omega (arith, h.short)),
      digits_all f h.bytes,
    ) refl

pub line_is_frame : (q : Request) → ReadsBack q → bytes_of (digits_of (frame_of q)) ≡ frame_of q
line_is_frame q h = bytes_of_digits (frame_of q) h.bytes
