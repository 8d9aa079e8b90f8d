-- A memorandum by how it is made. What is proved of memoranda goes through these laws; else only `same_memorandum` (rings, Memos),
-- `well_memo` (runs, Formed) and the entries of a book (runs, Book) look into how one is made.
use mathlib.Core.Path.{◌≡◌, refl, sym, ap, ◌∙◌}
use mathlib.Core.List.{List, [], ◌∷◌, ◌++◌, Memᴰ, List-discrete}
use Prim.Native.Nat.{ℕ}
use native.Mathlib.Decide.{ℕ_discrete}
use lib.ListN.{length, take, drop}
use lib.Seq.{take_at, drop_at}
use Rattle.paper.specs.Strings.{Dig, Memo, u1, Str, memo_string, enc, digest_of, memorandum, memorandum_forms}
use Rattle.paper.specs.Collisions.{Collision}

-- ── what the strings of two changes tell ──

abbrev pub tail : List ℕ → List ℕ
tail [] = []
tail (a ∷ l) = l

-- the third of three digests
third : (x y z r : List ℕ) → length x ≡ 32 → length y ≡ 32 → length z ≡ 32
    → take 32 (drop 32 (drop 32 (x ++ (y ++ (z ++ r))))) ≡ z
third x y z r n m o =
    rw (drop_at x (y ++ (z ++ r)) 32 n, drop_at y (z ++ r) 32 m) (take_at z r 32 o)

memo_tells : (x y x' y' a b a' b' k l : Dig) → length x ≡ 32 → length y ≡ 32 → length x' ≡ 32 → length a ≡ 32 → length b ≡ 32
    → length a' ≡ 32 → enc (memo_string (u1 x y x' y') k) ≡ enc (memo_string (u1 a b a' b') l) → x' ≡ a'
unfolding enc
memo_tells x y x' y' a b a' b' k l n m o n' m' o' e =
    sym (third x y x' (y' ++ (k ++ [])) n m o)
    ∙ ap (λ (s : List ℕ). take 32 (drop 32 (drop 32 (tail s)))) e
    ∙ third a b a' (b' ++ (l ++ [])) n' m' o'

module _ (D : List ℕ → Dig) where
  -- two strings with one digest collide, or what they say is the same and leads on
  pub or_same : (fs : List Str) (a b : Str) → Memᴰ a fs → Memᴰ b fs → digest_of D a ≡ digest_of D b
      → (enc a ≡ enc b → Collision D fs) → Collision D fs
  or_same fs a b i j e next = by_bytes (List-discrete ℕ_discrete (enc a) (enc b))
    where
      by_bytes : Dec (enc a ≡ enc b) → Collision D fs
      by_bytes (yes h) = next h
      by_bytes (no h) = record { one = a; other = b; one_formed = i; other_formed = j; differ = h; agree = e }

  -- ── a memorandum ──

  -- the strings of one are among fs
  abbrev pub MadeOf : List Str → Memo → Dig → Type 0
  MadeOf fs t k = (x : Str) → Memᴰ x (memorandum_forms D t k) → Memᴰ x fs

  -- it is the digest of one of them
  pub is_digest : (t : Memo) (k : Dig) → (x : Str) × Memᴰ x (memorandum_forms D t k) × (digest_of D x ≡ memorandum D t k)
  is_digest t k = (memo_string t k, Memᴰ.head refl, refl)

  -- so what holds of every digest holds of it
  pub of_digests : (P : Dig → Type 0) → ((l : List ℕ) → P (D l)) → (t : Memo) (k : Dig) → P (memorandum D t k)
  of_digests P h t k = h (enc (memo_string t k))

  pub memorandum_32 : ((l : List ℕ) → length (D l) ≡ 32) → (t : Memo) (k : Dig) → length (memorandum D t k) ≡ 32
  memorandum_32 D32 t k = of_digests (λ d. length d ≡ 32) D32 t k

  -- two changes with one memorandum have one new half, which leads on, or their strings collide
  pub one_new_half : (fs : List Str) (x y x' y' a b a' b' k l : Dig) → length x ≡ 32 → length y ≡ 32 → length x' ≡ 32 → length a ≡ 32
      → length b ≡ 32 → length a' ≡ 32 → MadeOf fs (u1 x y x' y') k → MadeOf fs (u1 a b a' b') l
      → memorandum D (u1 x y x' y') k ≡ memorandum D (u1 a b a' b') l → (x' ≡ a' → Collision D fs) → Collision D fs
  one_new_half fs x y x' y' a b a' b' k l n m o n' m' o' i j e next =
      or_same fs (memo_string (u1 x y x' y') k) (memo_string (u1 a b a' b') l) (i _ (Memᴰ.head refl)) (j _ (Memᴰ.head refl)) e
      (λ h. next (memo_tells x y x' y' a b a' b' k l n m o n' m' o' h))
