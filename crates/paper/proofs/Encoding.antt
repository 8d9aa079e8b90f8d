-- The bytes of a string tell the string: the encoding is injective on strings whose numbers are below 2 ^ 64 and
-- whose digests have 32 bytes.
use mathlib.Core.Path.{◌≡◌, refl, sym, ap, ◌∙◌}
use mathlib.Core.List.{List, [], ◌∷◌, List-discrete}
use Prim.Native.Nat.{ℕ, zero, suc}
use native.Mathlib.Decide.{ℕ_discrete}
use native.Mathlib.Omega.{arith}
use lib.ListN.{length, take, drop, length-append}
use lib.Seq.{take_at, drop_at}
use Rattle.seqs.specs.Bytes.{be64, be64_length, number_of, number_be64}
use Rattle.paper.specs.declared.Record.{Record}
use Rattle.paper.specs.Strings.{Dig, u1, v1, u2, ei, Str, leaf, node, entry, memo_string, Field, number_field, digest_field, Field-discrete, fields_of, tag_of, spread, widths, enc, length_of, FieldsFit, StringFits}

-- a field's kind is its shape: what is known of it before its bytes are read
data Shape : Type 0 where
  n : Shape
  d : Shape

abbrev shapes : List Field → List Shape
shapes [] = []
shapes (number_field x ∷ l) = n ∷ shapes l
shapes (digest_field x ∷ l) = d ∷ shapes l

-- fields of known shapes out of their bytes
abbrev cut : List Shape → List ℕ → List Field
cut [] l = []
cut (n ∷ s) l = number_field (number_of (take 8 l)) ∷ cut s (drop 8 l)
cut (d ∷ s) l = digest_field (take 32 l) ∷ cut s (drop 32 l)

cut_spread : (fs : List Field) → FieldsFit fs → cut (shapes fs) (spread fs) ≡ fs
cut_spread [] h = refl
cut_spread (number_field x ∷ fs) h =
    rw (
      take_at (be64 x) (spread fs) 8 (be64_length x),
      drop_at (be64 x) (spread fs) 8 (be64_length x),
      number_be64 x h.0,
      cut_spread fs h.1,
    )
cut_spread (digest_field x ∷ fs) h =
    rw (take_at x (spread fs) 32 h.0, drop_at x (spread fs) 32 h.0, cut_spread fs h.1)

-- the shapes of a tag's fields
abbrev shapes_of : ℕ → List Shape
shapes_of zero = []
shapes_of (suc zero) = n ∷ n ∷ d ∷ []
shapes_of (suc (suc zero)) = d ∷ d ∷ []
shapes_of (suc (suc (suc zero))) = n ∷ n ∷ n ∷ n ∷ []
shapes_of (suc (suc (suc (suc zero)))) = d ∷ d ∷ d ∷ d ∷ d ∷ []
shapes_of (suc (suc (suc (suc (suc zero))))) = d ∷ d ∷ d ∷ []
shapes_of (suc (suc (suc (suc (suc (suc zero)))))) = d ∷ d ∷ d ∷ d ∷ d ∷ d ∷ d ∷ []
shapes_of (suc (suc (suc (suc (suc (suc (suc t))))))) = d ∷ d ∷ d ∷ []

shapes_of_tag : (s : Str) → shapes (fields_of s) ≡ shapes_of (tag_of s)
shapes_of_tag (leaf A A' ω) = refl
shapes_of_tag (node u v) = refl
shapes_of_tag (entry r) = refl
shapes_of_tag (memo_string (u1 x y x' y') k) = refl
shapes_of_tag (memo_string (v1 x y) k) = refl
shapes_of_tag (memo_string (u2 x1 x2 y x1' x2' y') k) = refl
shapes_of_tag (memo_string (ei y y') k) = refl

-- a string out of its tag and fields
abbrev at : ℕ → List Field → Field
at i [] = number_field 0
at zero (f ∷ l) = f
at (suc i) (f ∷ l) = at i l

abbrev number_of_lem : Field → ℕ
number_of_lem (number_field x) = x
number_of_lem (digest_field x) = 0

abbrev digest_of_lem : Field → Dig
digest_of_lem (number_field x) = []
digest_of_lem (digest_field x) = x

abbrev record_of_lem : List Field → Record
record_of_lem l =
    record {
      revision = record { 0 = number_of_lem (at 0 l) };
      mass = record { 0 = number_of_lem (at 1 l) };
      offset = record { 0 = number_of_lem (at 2 l) };
      rigging = record { 0 = number_of_lem (at 3 l) };
    }

abbrev make : ℕ → List Field → Str
make zero l = node [] []
make (suc zero) l = leaf (number_of_lem (at 0 l)) (number_of_lem (at 1 l)) (digest_of_lem (at 2 l))
make (suc (suc zero)) l = node (digest_of_lem (at 0 l)) (digest_of_lem (at 1 l))
make (suc (suc (suc zero))) l = entry (record_of_lem l)
make (suc (suc (suc (suc zero)))) l =
    memo_string (u1 (digest_of_lem (at 0 l)) (digest_of_lem (at 1 l)) (digest_of_lem (at 2 l)) (digest_of_lem (at 3 l))) (digest_of_lem (at 4 l))
make (suc (suc (suc (suc (suc zero))))) l = memo_string (v1 (digest_of_lem (at 0 l)) (digest_of_lem (at 1 l))) (digest_of_lem (at 2 l))
make (suc (suc (suc (suc (suc (suc zero)))))) l =
    memo_string
    (u2 (digest_of_lem (at 0 l)) (digest_of_lem (at 1 l)) (digest_of_lem (at 2 l)) (digest_of_lem (at 3 l)) (digest_of_lem (at 4 l))
    (digest_of_lem (at 5 l)))
    (digest_of_lem (at 6 l))
make (suc (suc (suc (suc (suc (suc (suc t))))))) l = memo_string (ei (digest_of_lem (at 0 l)) (digest_of_lem (at 1 l))) (digest_of_lem (at 2 l))

made : (s : Str) → make (tag_of s) (fields_of s) ≡ s
made (leaf A A' ω) = refl
made (node u v) = refl
made (entry r) = refl
made (memo_string (u1 x y x' y') k) = refl
made (memo_string (v1 x y) k) = refl
made (memo_string (u2 x1 x2 y x1' x2' y') k) = refl
made (memo_string (ei y y') k) = refl

-- so two strings are the same or they are not
pub Str-discrete : Discrete Str
Str-discrete s t = go (ℕ_discrete (tag_of s) (tag_of t)) (List-discrete by_field (fields_of s) (fields_of t))
  where
    go : Dec (tag_of s ≡ tag_of t) → Dec (fields_of s ≡ fields_of t) → Dec (s ≡ t)
    go (yes e) (yes f) = yes (sym (made s) ∙ (λ i. make (e i) (f i)) ∙ made t)
    go (yes e) (no k) = no (λ p. k (ap fields_of p))
    go (no k) f = no (λ p. k (ap tag_of p))

    by_field : Discrete Field
    by_field = Field-discrete ℕ_discrete (List-discrete ℕ_discrete)

-- a string out of its bytes
abbrev back : List ℕ → Str
back [] = node [] []
back (t ∷ l) = make t (cut (shapes_of t) l)

back_enc : (s : Str) → StringFits s → back (enc s) ≡ s
unfolding enc
back_enc s h =
    ap (λ (k : List Shape). make (tag_of s) (cut k (spread (fields_of s)))) (sym (shapes_of_tag s))
    ∙ ap (make (tag_of s)) (cut_spread (fields_of s) h) ∙ made s

pub enc_injective : (s t : Str) → StringFits s → StringFits t → enc s ≡ enc t → s ≡ t
enc_injective s t h k e = sym (back_enc s h) ∙ ap back e ∙ back_enc t k

-- the bytes are as many as the table's last column says
spread_length : (fs : List Field) → FieldsFit fs → length (spread fs) ≡ widths fs
spread_length [] h = refl
spread_length (number_field x ∷ fs) h = simp length-append (omega (arith, be64_length x, spread_length fs h.1))
spread_length (digest_field x ∷ fs) h = simp length-append (omega (arith, h.0, spread_length fs h.1))

pub enc_length : (s : Str) → StringFits s → length (enc s) ≡ length_of s
unfolding enc
enc_length s h = omega (arith, spread_length (fields_of s) h)
