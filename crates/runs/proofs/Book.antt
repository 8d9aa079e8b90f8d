-- The book of a run: each memorandum in it is the digest of a string that was formed, and what that string says is so.
use mathlib.Core.Path.{◌≡◌, refl, sym, subst, ◌∙◌}
use mathlib.Core.Bool.{Bool, true, false}
use mathlib.Core.List.{List, [], ◌∷◌, ◌++◌, append-nil}
use mathlib.Core.Logic.{◌⊎◌, inl, inr}
use Prim.Native.Nat.{ℕ}
use Rattle.seqs.specs.Choose.{pick, either}
use Rattle.seqs.specs.Bytes.{same, same_true}
use Rattle.paper.specs.Strings.{Dig, Memo, Str, digest_of, memorandum, memorandum_forms}
use Rattle.rings.specs.Changes.{Step}
use Rattle.rings.specs.Meanings.{Within, Fault, MemoMeans}
use Rattle.rings.proofs.Nodes.{◌>>=◌, instead}
use Rattle.rings.proofs.Memos.{means_more, same_memorandum}
use Rattle.runs.specs.Also.{Backed, AllBacked}
use Rattle.runs.specs.Run.{Issue, BookReading, earliest, last, entered, steps_for, is_issued}

pub entered_none : (by : BookReading) (b : List Issue) → entered by b [] ≡ b
entered_none earliest b = append-nil b
entered_none last b = refl

module _ (D : List ℕ → Dig) where
  -- an entry by the strings of its memorandum
  pub entry_by : {F : List Str} (t : Memo) (k : Dig) (c : List Step) → Within (memorandum_forms D t k) F → MemoMeans (digest_of D) F t c
      → Backed D F (record { memorandum = memorandum D t k; does = c })
  entry_by t k c i m =
      record { says = t; key = k; formed = i; memorandum_is = refl; means = m }

  pub book_more : {F G : List Str} (b : List Issue) → Within F G → AllBacked D F b → AllBacked D G b
  book_more [] s h = tt
  book_more {F} {G} (i ∷ b) s h = (backed h.0, book_more b s h.1)
    where
      backed : Backed D F i → Backed D G i
      backed e =
          record {
            says = e.says;
            key = e.key;
            formed = λ x j. s x (e.formed x j);
            memorandum_is = e.memorandum_is;
            means = means_more (digest_of D) e.says i.does s e.means;
          }

  book_add : {F : List Str} (b : List Issue) (i : Issue) → AllBacked D F b → Backed D F i → AllBacked D F (b ++ (i ∷ []))
  book_add [] i h e = (e, tt)
  book_add (j ∷ b) i h e = (h.0, book_add b i h.1 e)

  -- an entry more, or none, whichever way the book is read
  pub book_enter : {F : List Str} (by : BookReading) (b : List Issue) (i : Issue) → AllBacked D F b → Backed D F i
      → AllBacked D F (entered by b (i ∷ []))
  book_enter earliest b i h e = book_add b i h e
  book_enter last b i h e = (e, h)

  -- A memorandum whose strings are formed: what it says is so and stands for what the book has, or the book does not have it,
  -- or a fault can be shown.
  pub look : {F : List Str} (m : Dig) (t : Memo) (k : Dig) (b : List Issue) → AllBacked D F b → Within (memorandum_forms D t k) F
      → memorandum D t k ≡ m → (Fault (digest_of D) F ⊎ (is_issued m b ≡ false)) ⊎ MemoMeans (digest_of D) F t (steps_for m b)
  look m t k [] h i e = inl (inr refl)
  look {F} m t k (j ∷ b) h i e = here (same j.memorandum m) refl (look m t k b h.1 i e)
    where
      hit : j.memorandum ≡ m → (Fault (digest_of D) F ⊎ (true ≡ false)) ⊎ MemoMeans (digest_of D) F t j.does
      hit p = do
        q ← instead inl
            (same_memorandum D h.0.says t h.0.key k h.0.formed i (h.0.memorandum_is ∙ p ∙ sym e))
        inr (subst (λ (u : Memo). MemoMeans (digest_of D) F u j.does) q.0 h.0.means)

      here : (c : Bool) → same j.memorandum m ≡ c
          → (Fault (digest_of D) F ⊎ (is_issued m b ≡ false)) ⊎ MemoMeans (digest_of D) F t (steps_for m b)
          → (Fault (digest_of D) F ⊎ (either c (is_issued m b) ≡ false)) ⊎ MemoMeans (digest_of D) F t (pick c j.does (steps_for m b))
      here true p r = hit (same_true j.memorandum m p)
      here false p r = r
