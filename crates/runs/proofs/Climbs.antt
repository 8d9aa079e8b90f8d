-- Laws of ways: what a path along a way folds to, that its sides fit, that a way cut into paths rises to the same digest, and
-- that all digests on the way have 32 bytes.
use mathlib.Core.Path.{◌≡◌, refl, ap, ◌∙◌}
use mathlib.Core.Bool.{Bool, true, false}
use mathlib.Core.List.{List, [], ◌∷◌, ◌++◌}
use Prim.Native.Nat.{ℕ, zero, suc, ◌+◌, ◌*◌, ◌/◌, ◌%◌, ◌^◌, ◌≤◌, ◌<◌}
use native.Mathlib.Nat.{pow-suc}
use native.Mathlib.Omega.{arith}
use lib.ListN.{length, replicate}
use Rattle.seqs.specs.Choose.{pick, Every}
use Rattle.seqs.specs.Bytes.{Bytes, all_zero}
use Rattle.paper.specs.declared.Record.{Record}
use Rattle.paper.specs.Strings.{Dig, nought, node, entry, enc, digest_of, blank, record_hash, H, up, fold_up}
use Rattle.paper.specs.Requests.{most_siblings}
use Rattle.rings.specs.Trees.{points, Tree, empty, tip, branch, hash_of}
use Rattle.runs.specs.Ways.{on_left, on_right, Way, sides_of, siblings_of, rise, in_paths, Fork, Edit, risen, parents, risen_two}
use Rattle.runs.proofs.Parts.{IsDigest, AllDigests}

-- ── sides ──

pub siblings_length : (D : List ℕ → Dig) (p : Way) → length (siblings_of D p) ≡ length p
siblings_length D [] = refl
siblings_length D (on_left S ∷ p) = omega (arith, siblings_length D p)
siblings_length D (on_right S ∷ p) = omega (arith, siblings_length D p)

-- no bit of the sides from n up (§5.2.3)
pub sides_fit : (D : List ℕ → Dig) (p : Way) → sides_of p < 2 ^ length (siblings_of D p)
sides_fit D [] = omega arith
sides_fit D (on_left S ∷ p) = omega (arith, sides_fit D p, pow-suc 2 (length (siblings_of D p)))
sides_fit D (on_right S ∷ p) = omega (arith, sides_fit D p, pow-suc 2 (length (siblings_of D p)))

-- what paper's fold makes of a path along the way
pub fold_rises : (D : List ℕ → Dig) (p : Way) (x : Dig) → fold_up D x (sides_of p) (siblings_of D p) ≡ rise D p x
fold_rises D [] x = refl
fold_rises D (on_left S ∷ p) x =
    let e : (1 + 2 * sides_of p) % 2 ≡ 1 = omega arith in
    let f : (1 + 2 * sides_of p) / 2 ≡ sides_of p = omega arith in
    (λ i. fold_up D (up D x (hash_of D S) (e i)) (f i) (siblings_of D p)) ∙ fold_rises D p (H D (hash_of D S) x)
fold_rises D (on_right S ∷ p) x =
    let e : 2 * sides_of p % 2 ≡ 0 = omega arith in
    let f : 2 * sides_of p / 2 ≡ sides_of p = omega arith in
    (λ i. fold_up D (up D x (hash_of D S) (e i)) (f i) (siblings_of D p)) ∙ fold_rises D p (H D x (hash_of D S))

pub rise_append : (D : List ℕ → Dig) (p q : Way) (x : Dig) → rise D (p ++ q) x ≡ rise D q (rise D p x)
rise_append D [] q x = refl
rise_append D (on_left S ∷ p) q x = rise_append D p q (H D (hash_of D S) x)
rise_append D (on_right S ∷ p) q x = rise_append D p q (H D x (hash_of D S))

-- ── a way cut into paths ──

-- paths one above the other
abbrev pub whole : List Way → Way
whole [] = []
whole (p ∷ ps) = p ++ whole ps

abbrev pub AllShort : List Way → Type 0
AllShort = Every (λ p. length p ≤ most_siblings)

pub cut_whole : (room : ℕ) (p : Way) → (in_paths room p).lowest ++ whole (in_paths room p).higher ≡ p
cut_whole room [] = refl
cut_whole zero (v ∷ p) = ap (λ (q : Way). v ∷ q) (cut_whole _ p)
cut_whole (suc room) (v ∷ p) = ap (λ (q : Way). v ∷ q) (cut_whole room p)

pub cut_short : (room : ℕ) (p : Way) → room ≤ most_siblings → (length (in_paths room p).lowest ≤ room) × AllShort (in_paths room p).higher
cut_short room [] h = (omega arith, tt)
cut_short zero (v ∷ p) h = let t = cut_short 63 p (omega arith) in (omega arith, (omega (arith, t.0), t.1))
cut_short (suc room) (v ∷ p) h = let t = cut_short room p (omega arith) in (omega (arith, t.0), t.1)

-- ── digests of 32 bytes ──

zeros_bytes : (n : ℕ) → Bytes (replicate n 0)
zeros_bytes zero = tt
zeros_bytes (suc n) = (omega arith, zeros_bytes n)

pub nought_digest : IsDigest nought
nought_digest = record { wide = refl; bytes = zeros_bytes 32 }

pick_digest : (b : Bool) (u v : Dig) → IsDigest u → IsDigest v → IsDigest (pick b u v)
pick_digest true u v h k = h
pick_digest false u v h k = k

pub record IsEdit (e : Edit) : Type 0 where
  pub old : IsDigest e.was
  pub new : IsDigest e.becomes

module _ {D : List ℕ → Dig} (DD : (l : List ℕ) → IsDigest (D l)) where
  pub record_digest : (r : Record) → IsDigest (record_hash D r)
  unfolding record_hash
  record_digest r = pick_digest (blank r) nought (digest_of D (entry r)) nought_digest (DD (enc (entry r)))

  parent_digest : (u v : Dig) → IsDigest u → IsDigest v → IsDigest (H D u v)
  unfolding H
  parent_digest u v h k =
      pick_digest (all_zero v) u (pick (all_zero u) v (digest_of D (node u v))) h
      (pick_digest (all_zero u) v (digest_of D (node u v)) k (DD (enc (node u v))))

  pub tree_digest : (T : Tree) → IsDigest (hash_of D T)
  tree_digest empty = nought_digest
  tree_digest (tip (points a b w)) = DD _
  tree_digest (branch l r) = parent_digest (hash_of D l) (hash_of D r) (tree_digest l) (tree_digest r)

  pub siblings_digests : (p : Way) → AllDigests (siblings_of D p)
  siblings_digests [] = tt
  siblings_digests (on_left S ∷ p) = (tree_digest S, siblings_digests p)
  siblings_digests (on_right S ∷ p) = (tree_digest S, siblings_digests p)

  pub rise_digest : (p : Way) (x : Dig) → IsDigest x → IsDigest (rise D p x)
  rise_digest [] x h = h
  rise_digest (on_left S ∷ p) x h = rise_digest p (H D (hash_of D S) x) (parent_digest (hash_of D S) x (tree_digest S) h)
  rise_digest (on_right S ∷ p) x h = rise_digest p (H D x (hash_of D S)) (parent_digest x (hash_of D S) h (tree_digest S))

  -- both digests of an edit

  pub risen_is : (p : Way) (e : Edit) → IsEdit e → IsEdit (risen D p e)
  risen_is p e h = record { old = rise_digest p e.was h.old; new = rise_digest p e.becomes h.new }

  pub parents_are : (a b : Edit) → IsEdit a → IsEdit b → IsEdit (parents D a b)
  parents_are a b h k =
      record {
        old = parent_digest a.was b.was h.old k.old;
        new = parent_digest a.becomes b.becomes h.new k.new;
      }

  pub risen_two_is : (f : Fork) (a b : Edit) → IsEdit a → IsEdit b → IsEdit (risen_two D f a b)
  risen_two_is f a b h k =
      risen_is f.above (parents D (risen D f.left a) (risen D f.right b))
      (parents_are (risen D f.left a) (risen D f.right b) (risen_is f.left a h) (risen_is f.right b k))
