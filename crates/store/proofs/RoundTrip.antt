-- Both round trips of a line and of a text.
use mathlib.Core.Path.{◌≡◌, refl, sym, ap, ap₂, subst, ◌∙◌}
use mathlib.Core.Bool.{true, true≢false}
use mathlib.Core.List.{List, [], ◌∷◌, ◌++◌, append_assoc}
use Rattle.std.specs.Prelude.{Option, Some, None}
use Prim.Native.Nat.{ℕ, zero, suc, ◌+◌, ◌≤◌}
use native.Mathlib.Omega.{arith}
use borrow.Author.Tests.{eq-eqb}
use lib.ListN.{length, take, drop, length-drop, take-append-drop, drop_of_length-le}
use lib.Seq.{drop-drop}
use Rattle.seqs.specs.Choose.{◌and◌, Every}
use Rattle.seqs.specs.Bytes.{Bytes, be64, number_of, number_at, number_at_lem, number_be64, be64_bytes, bytes_append, number_below, be64_number}
use Rattle.hexadecimal.specs.Hex.{bytes_of, digits_of, line_of}
use Rattle.hexadecimal.proofs.Laws.{value_small, bytes_of_digits, digits_of_bytes, digits_all, digits_length, bytes_length}
use Rattle.rows.specs.declared.Row.{Row}
use Rattle.store.specs.Lines.{row_bytes, row_in, line_read, line_of_row}
use Rattle.store.specs.Texts.{TextRead, line_then, text_read, text_of, front_line}
use Rattle.store.specs.RoundTrip.{RowFits, Storable, RoundTrips}
use Rattle.store.proofs.Texts.{first_line, digits_no_end, read_as, fronted, text_leaf, text_stops}

-- ── a leaf and its bytes ──

pub bytes_long : (r : Row) → length (row_bytes r) ≡ 48
unfolding row_bytes be64
bytes_long r = refl

bytes_small : (r : Row) → Bytes (row_bytes r)
unfolding row_bytes
bytes_small r =
    bytes_append (be64 _) _ (be64_bytes _)
    (bytes_append (be64 _) _ (be64_bytes _)
    (bytes_append (be64 _) _ (be64_bytes _)
    (bytes_append (be64 _) _ (be64_bytes _) (bytes_append (be64 _) _ (be64_bytes _) (bytes_append (be64 _) _ (be64_bytes _) tt)))))

row_back : (r : Row) → Storable r → row_in (row_bytes r) ≡ r
unfolding row_in row_bytes be64
row_back r s =
    let h = s.fits in
    let at : (i : ℕ) → i + 8 ≤ 48 → number_at (row_bytes r) i ≡ number_of (take 8 (drop i (row_bytes r))) = λ i k. sym (number_at_lem (row_bytes r) i k) in
    let a = at 0 (omega arith) ∙ number_be64 r.item.0 h.0 in
    let b = at 8 (omega arith) ∙ number_be64 r.next.0 h.1.0 in
    let c = at 16 (omega arith) ∙ number_be64 r.entry.revision.0 h.1.1.0 in
    let d = at 24 (omega arith) ∙ number_be64 r.entry.mass.0 h.1.1.1.0 in
    let e = at 32 (omega arith) ∙ number_be64 r.entry.offset.0 h.1.1.1.1.0 in
    let f = at 40 (omega arith) ∙ number_be64 r.entry.rigging.0 h.1.1.1.1.1.0 in
    λ i.
    record {
      item = record { 0 = a i };
      next = record { 0 = b i };
      entry = record {
        revision = record { 0 = c i };
        mass = record { 0 = d i };
        offset = record { 0 = e i };
        rigging = record { 0 = f i };
      };
    }

-- 48 bytes are the bytes of their leaf
eight_more : (b : List ℕ) (at : ℕ) → Bytes b → at + 8 ≤ length b → be64 (number_at b at) ++ drop (at + 8) b ≡ drop at b
eight_more b at h room =
    ap (λ (l : List ℕ). l ++ drop (at + 8) b) (be64_number b at h room)
    ∙ ap (λ (l : List ℕ). take 8 (drop at b) ++ l) (sym (drop-drop 8 at b)) ∙ take-append-drop 8 (drop at b)

bytes_back : (b : List ℕ) → Bytes b → length b ≡ 48 → row_bytes (row_in b) ≡ b
unfolding row_in row_bytes
bytes_back b h n =
    let end : length b ≤ 48 = omega arith in
    let more : (at : ℕ) (l : List ℕ) → at + 8 ≤ 48 → l ≡ drop (at + 8) b → be64 (number_at b at) ++ l ≡ drop at b =
    λ at l k e. ap (λ (x : List ℕ). be64 (number_at b at) ++ x) e ∙ eight_more b at h (omega arith) in
    more 0 _ (omega arith)
    (more 8 _ (omega arith)
    (more 16 _ (omega arith)
    (more 24 _ (omega arith) (more 32 _ (omega arith) (more 40 [] (omega arith) (sym (drop_of_length-le b end)))))))

-- ── a line ──

line_bytes_lem : (l : List ℕ) → Bytes (bytes_of l)
line_bytes_lem [] = tt
line_bytes_lem (a ∷ []) = tt
line_bytes_lem (a ∷ b ∷ l) = (omega (arith, value_small a, value_small b), line_bytes_lem l)

written_reads : (r : Row) → Storable r → line_read (digits_of (row_bytes r)) ≡ Some r
unfolding line_read
written_reads r s =
    let b = row_bytes r in
    let n : length (digits_of b) ≡ 96 = digits_length b ∙ omega (arith, bytes_long r) in
    let back : row_in (bytes_of (digits_of b)) ≡ r = ap row_in (bytes_of_digits b (bytes_small r)) ∙ row_back r s in
    rw (eq-eqb (length (digits_of b)) 96 n, digits_all b (bytes_small r), back, s.stands)

read_writes : (l : List ℕ) (r : Row) → line_read l ≡ Some r → digits_of (row_bytes r) ≡ l
read_writes l r h =
    let k = read_as l r h in
    ap (λ (x : Row). digits_of (row_bytes x)) k.is
    ∙ ap digits_of (bytes_back (bytes_of l) (line_bytes_lem l) (bytes_length l ∙ omega (arith, k.long)))
    ∙ digits_of_bytes l (omega (arith, k.long)) k.digits

row_fits : (b : List ℕ) → Bytes b → RowFits (row_in b)
unfolding row_in
row_fits b h =
    number_below b 0 h and number_below b 8 h and number_below b 16 h and number_below b 24 h and number_below b 32 h
    and number_below b 40 h and tt

read_storable : (l : List ℕ) (r : Row) → line_read l ≡ Some r → Storable r
read_storable l r h =
    let k = read_as l r h in
    subst Storable (sym k.is) (record { fits = row_fits (bytes_of l) (line_bytes_lem l); stands = k.stands })

-- ── a text ──

none_read : text_read [] ≡ record { rows = []; whole = true }
unfolding text_read
none_read = refl

line_first : (b t : List ℕ) → line_of b ++ t ≡ digits_of b ++ (0x0a ∷ t)
unfolding line_of
line_first b t = append_assoc (digits_of b) (0x0a ∷ []) t

text_reads : (rs : List Row) → Every Storable rs → text_read (text_of rs) ≡ record { rows = rs; whole = true }
text_reads [] h = none_read
text_reads (r ∷ rs) h =
    let b = row_bytes r in
    ap text_read (line_first b (text_of rs)) ∙ first_line (digits_of b) (text_of rs) (digits_no_end (digits_of b) (digits_all b (bytes_small r)))
    ∙ ap₂ line_then (written_reads r h.0) (text_reads rs h.1)

-- a text, by the line at its front: n bounds its length
text_written : (n : ℕ) (t : List ℕ) → length t ≤ n → (text_read t).whole ≡ true → text_of (text_read t).rows ≡ t
text_written zero [] h w = ap (λ (x : TextRead). text_of x.rows) none_read
text_written (suc n) [] h w = ap (λ (x : TextRead). text_of x.rows) none_read
text_written zero (b ∷ t) h w = absurd (omega arith)
text_written (suc n) (b ∷ t) h w = by_front (front_line (b ∷ t)) refl (λ u k v. text_written n u k v)
  where
    by_front : (x : Option Row) → front_line (b ∷ t) ≡ x → ((u : List ℕ) → length u ≤ n → (text_read u).whole ≡ true → text_of (text_read u).rows ≡ u)
        → text_of (text_read (b ∷ t)).rows ≡ b ∷ t
    by_front (Some r) e k =
        let f = fronted (b ∷ t) r e in
        let l = text_leaf (b ∷ t) r e in
        let rest = k (drop 97 (b ∷ t)) (omega (arith, length-drop 97 (b ∷ t))) (sym (ap (λ (x : TextRead). x.whole) l) ∙ w) in
        ap (λ (x : TextRead). text_of x.rows) l ∙ ap (λ (x : List ℕ). line_of_row r ++ x) rest
        ∙ line_first (row_bytes r) (drop 97 (b ∷ t))
        ∙ ap (λ (x : List ℕ). x ++ (0x0a ∷ drop 97 (b ∷ t))) (read_writes (take 96 (b ∷ t)) r f.read) ∙ sym f.parts
    by_front None e k =
        absurd (true≢false (sym w ∙ ap (λ (x : TextRead). x.whole) (text_stops (b ∷ t) (omega arith) e)))

storable : (n : ℕ) (t : List ℕ) → length t ≤ n → Every Storable (text_read t).rows
storable zero [] h = subst (λ (x : TextRead). Every Storable x.rows) (sym none_read) tt
storable (suc n) [] h = subst (λ (x : TextRead). Every Storable x.rows) (sym none_read) tt
storable zero (b ∷ t) h = absurd (omega arith)
storable (suc n) (b ∷ t) h = by_front (front_line (b ∷ t)) refl (λ u k. storable n u k)
  where
    by_front : (x : Option Row) → front_line (b ∷ t) ≡ x → ((u : List ℕ) → length u ≤ n → Every Storable (text_read u).rows)
        → Every Storable (text_read (b ∷ t)).rows
    by_front (Some r) e k =
        subst (λ (x : TextRead). Every Storable x.rows) (sym (text_leaf (b ∷ t) r e))
        (read_storable (take 96 (b ∷ t)) r (fronted (b ∷ t) r e).read, k (drop 97 (b ∷ t)) (omega (arith, length-drop 97 (b ∷ t))))
    by_front None e k = subst (λ (x : TextRead). Every Storable x.rows) (sym (text_stops (b ∷ t) (omega arith) e)) tt

pub round_trips : RoundTrips
round_trips =
    record {
      written_reads = written_reads;
      read_writes = read_writes;
      read_storable = read_storable;
      text_reads = text_reads;
      text_writes = λ t. text_written (length t) t (omega arith);
      text_storable = λ t. storable (length t) t (omega arith);
    }
