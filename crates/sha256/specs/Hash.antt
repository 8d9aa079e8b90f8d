-- The digest (§1.2.2). FIPS 180-4, section 6.2: the SHA-256 hash computation.
use Rattle.std.specs.Prelude.{ℕ, zero, suc, ◌-◌, ◌/◌, List, [], ◌∷◌, ◌++◌, length, nat_lt, slice_index}
use Rattle.seqs.specs.Choose.{pick}
use Rattle.seqs.specs.Bytes.{be32}
use Rattle.sha256.specs.declared.State.{State}
use Rattle.sha256.specs.Words.{◌⊞◌, Ch, Maj, big_sigma0, big_sigma1, small_sigma0, small_sigma1}
use Rattle.sha256.specs.Constants.{K, H0}
use Rattle.sha256.specs.Padding.{pad, M}

-- 6.2.2, step 1: the word that the words 2, 7, 15 and 16 places before it give
unfoldable pub scheduled : ℕ → ℕ → ℕ → ℕ → ℕ
scheduled w2 w7 w15 w16 = small_sigma1 w2 ⊞ w7 ⊞ small_sigma0 w15 ⊞ w16

-- word t of the schedule of block i, ws being the words before it
unfoldable pub W : List ℕ → ℕ → List ℕ → ℕ → ℕ
W p i ws t =
    pick (nat_lt t 16)
    (M p i t)
    (scheduled (slice_index ws (t - 2)) (slice_index ws (t - 7)) (slice_index ws (t - 15)) (slice_index ws (t - 16)))

-- the first n words of that schedule
unfoldable pub schedule : List ℕ → ℕ → ℕ → List ℕ
schedule p i zero = []
schedule p i (suc t) = schedule p i t ++ (W p i (schedule p i t) t ∷ [])

-- step 3: T1 and T2
unfoldable pub T1 : State → ℕ → ℕ → ℕ
T1 s k w = s.h ⊞ big_sigma1 s.e ⊞ Ch s.e s.f s.g ⊞ k ⊞ w

unfoldable pub T2 : State → ℕ
T2 s = big_sigma0 s.a ⊞ Maj s.a s.b s.c

-- one turn of step 3, with the constant k and the word w
unfoldable pub after_turn : State → ℕ → ℕ → State
after_turn s k w =
    record {
      a = T1 s k w ⊞ T2 s;
      b = s.a;
      c = s.b;
      d = s.c;
      e = s.d ⊞ T1 s k w;
      f = s.e;
      g = s.f;
      h = s.g;
    }

-- steps 2 and 3: the working variables after the turns t = 0 to n - 1, begun at s
unfoldable pub rounds : ℕ → List ℕ → State → State
rounds zero ws s = s
rounds (suc t) ws s = after_turn (rounds t ws s) (slice_index K t) (slice_index ws t)

-- step 4: the hash value and the working variables added, word by word
abbrev pub added : State → State → State
added s v =
    record {
      a = v.a ⊞ s.a;
      b = v.b ⊞ s.b;
      c = v.c ⊞ s.c;
      d = v.d ⊞ s.d;
      e = v.e ⊞ s.e;
      f = v.f ⊞ s.f;
      g = v.g ⊞ s.g;
      h = v.h ⊞ s.h;
    }

-- 6.2.2: the hash value after the first n blocks of the padded message p
unfoldable pub hash : List ℕ → ℕ → State
hash p zero = H0
hash p (suc i) = added (hash p i) (rounds 64 (schedule p i 64) (hash p i))

-- the message digest: the eight words of the last hash value
abbrev pub words_as_bytes : State → List ℕ
words_as_bytes s =
    be32 s.a ++ (be32 s.b ++ (be32 s.c ++ (be32 s.d
    ++ (be32 s.e ++ (be32 s.f ++ (be32 s.g ++ be32 s.h))))))

-- the SHA-256 digest of a message of bytes, as 32 bytes
unfoldable pub sha256 : List ℕ → List ℕ
sha256 m = words_as_bytes (hash (pad m) (length (pad m) / 64))
