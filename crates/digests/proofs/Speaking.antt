-- Tag and digests one behind the other, and the secret behind them: a memorandum's string.
use mathlib.Core.Path.{◌≡◌, refl, sym, ap, ◌∙◌}
use mathlib.Core.List.{List, [], ◌∷◌, ◌++◌, append_assoc, append-nil}
use Prim.Native.Nat.{ℕ, zero, suc, ◌+◌, ◌*◌, ◌≤◌, ◌<◌}
use native.Mathlib.Nat.{not-suc-le-zero, le_of_suc-le-suc}
use native.Mathlib.Numerals.{add-one}
use native.Mathlib.Omega.{arith}
use lib.ListN.{length, take, drop, get_or, replicate, length-take, length-append, take-append-drop}
use lib.Seq.{take_at, take-suc}
use Rattle.seqs.specs.Over.{put_at, Front, front_next}
use Rattle.sha256.specs.Hash.{sha256}
use Rattle.sha256.specs.Padding.{blocks}
use Rattle.paper.specs.Strings.{Dig, Memo, memo_string, memo_tag, memo_digests, digs, spread, widths, enc, length_of, cost}
use Rattle.digests.specs.declared.Says.{Says}
use Rattle.digests.specs.Worked.{hashed}
use Rattle.digests.specs.Speaking.{AllWhole, Spoken, made_of, OneSaying}

-- one digest more
spread_next : (l : List Dig) (d : Dig) → spread (digs (l ++ (d ∷ []))) ≡ spread (digs l) ++ d
spread_next [] d = append-nil d
spread_next (e ∷ l) d = ap (λ (m : List ℕ). e ++ m) (spread_next l d) ∙ sym (append_assoc e (spread (digs l)) d)

digests_width : (l : List Dig) → widths (digs l) ≡ 32 * length l
digests_width [] = refl
digests_width (d ∷ l) = omega (arith, digests_width l)

pub whole_at : (l : List Dig) → AllWhole l → (i : ℕ) → i < length l → length (get_or l i []) ≡ 32
whole_at [] all i h = absurd (not-suc-le-zero h)
whole_at (d ∷ l) all zero h = all.0
whole_at (d ∷ l) all (suc i) h = whole_at l all.1 i (le_of_suc-le-suc h)

-- the digests put so far, from the first to the one at place i
pub one_more_lem : (tag : ℕ) (l : List Dig) (i : ℕ) → i < length l
    → (tag ∷ spread (digs (take i l))) ++ get_or l i [] ≡ tag ∷ spread (digs (take (i + 1) l))
one_more_lem tag l i h =
    ap (λ (m : List ℕ). tag ∷ m)
    (sym (ap (λ (m : List Dig). spread (digs m)) (ap (λ (n : ℕ). take n l) (add-one i) ∙ take-suc l i [] h)
    ∙ spread_next (take i l) (get_or l i [])))

-- the secret put behind what is said
pub made_bytes : (s : Says) (k : Dig) {b : List ℕ} → length k ≡ 32 → length s.bytes ≡ 287 → s.length ≤ 255
    → b ≡ put_at s.bytes s.length k → take (s.length + 32) b ≡ take s.length s.bytes ++ k
made_bytes s k {b} size room few e =
    let n : ℕ = s.length in
    let front : Front s.bytes s.bytes (take n s.bytes) n =
    record { here = sym (take-append-drop n s.bytes); long = simp length-take (omega arith) } in
    let whole = front_next b k 32 (n + 32) front e size refl (omega arith) in
    ap (take (n + 32)) whole.here ∙ take_at (take n s.bytes ++ k) _ (n + 32) whole.long

-- what a memorandum says, with the secret behind it, is its string
pub made_of_lem : {s : Says} {t : Memo} → Spoken s t → (k : Dig) → made_of s k ≡ hashed (memo_string t k)
unfolding made_of enc
made_of_lem {s} {t} p k =
    let l : List Dig = memo_digests t in
    let long : length (l ++ (k ∷ [])) ≡ length l + 1 = length-append l (k ∷ []) in
    let size : s.length + 32 ≡ length_of (memo_string t k) = omega (arith, p.is.long, digests_width (l ++ (k ∷ [])), long) in
    let count : blocks (length_of (memo_string t k)) ≡ cost (memo_string t k ∷ []) = omega arith in
    let bytes = ap (λ (m : List ℕ). m ++ k) p.is.here ∙ ap (λ (m : List ℕ). memo_tag t ∷ m) (sym (spread_next l k)) in
    let each = ap blocks size ∙ count in
    λ i. record { bytes = sha256 (bytes i); blocks = each i }

pub made_of_all : {s : Says} {t : Memo} → Spoken s t → (k : Dig) → made_of s k ≡ hashed (memo_string t k)
made_of_all p k = made_of_lem p k

pub one_saying : OneSaying
one_saying s s' t p p' =
    let size : s.length ≡ s'.length = p.is.long ∙ sym p'.is.long in
    let front = p.is.here ∙ sym p'.is.here in
    let behind = p.is.rest ∙ ap (λ (n : ℕ). drop n (replicate 287 0)) size ∙ sym p'.is.rest in
    let bytes =
    sym (take-append-drop s.length s.bytes) ∙ (λ i. front i ++ behind i) ∙ take-append-drop s'.length s'.bytes in
    λ i. record { bytes = bytes i; length = size i }
