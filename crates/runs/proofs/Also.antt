-- The root settles the list, the endings are the only way out, and what the earliest line meant stays; with `Readings`, granted
-- wishes are the run's own too.
use mathlib.Core.Path.{◌≡◌, refl, sym, ◌∙◌}
use mathlib.Core.Bool.{Bool, true, false, true≢false}
use mathlib.Core.List.Memᴰ
use mathlib.Core.List.{List, [], ◌∷◌, ◌++◌}
use mathlib.Core.Logic.{◌⊎◌, inl, inr}
use Prim.Native.Nat.{ℕ}
use lib.ListN.{length}
use Rattle.seqs.specs.Choose.{pick, either}
use Rattle.seqs.specs.Bytes.{same}
use Rattle.sha256.specs.Hash.{sha256}
use Rattle.sha256.proofs.Digests.{sha256_length}
use Rattle.paper.specs.Strings.{Dig, digest_of}
use Rattle.rings.proofs.Nodes.{◌>>=◌, instead}
use Rattle.rings.proofs.Memos.{stands_more}
use Rattle.rings.proofs.Endings.{fault_shows}
use Rattle.rings.proofs.InPaper.{same_list}
use Rattle.runs.specs.Run.{Issue, steps_for, is_issued, issued_by, told_at, after}
use Rattle.runs.specs.Safety.{SafeOrEnded}
use Rattle.runs.specs.Also.{onwards, NothingToShow, RootSettlesList, NoOtherWayOut, HonestReplayed, EarliestStays, MemorandaMean, AlsoFor, AlsoHolds}
use Rattle.runs.proofs.Formed.{well_at, well_append}
use Rattle.runs.proofs.Sides.{side}
use Rattle.runs.proofs.Runs.{run, stands_of, safety}
use Rattle.runs.proofs.Readings.{readings_agree}
use Rattle.runs.proofs.Entries.{book_grows}
use Rattle.runs.proofs.Masses.{masses_sensible}
use Rattle.runs.proofs.Ended.{ending_is, honest_ends_nothing, not_ended_before_open, not_ended_by_opening}

module _ (D : List ℕ → Dig) (D32 : (l : List ℕ) → length (D l) ≡ 32) where
  -- ── the root settles the list ──

  root_settles : RootSettlesList D
  root_settles k k' ts us e = do
    let F = (after D k ts).formed
    let G = (after D k' us).formed
    let well = well_append F G (side D D32 k ts).well (side D D32 k' us).well
    c ← instead inl (run D D32 k ts)
    d ← instead inr (run D D32 k' us)
    inr (instead (fault_shows (λ s i. well_at (F ++ G) s well i))
        (same_list D D32 (F ++ G) c.0.tree d.0.tree (after D k ts).items (after D k' us).items
        (c.0.root ∙ e ∙ sym d.0.root) (stands_more (digest_of D) (λ s i. Memᴰ.append_left G i) c.0.stands)
        (stands_more (digest_of D) (λ s i. Memᴰ.append_right F i) d.0.stands)))

-- ── the only ways out ──

module _ (D : List ℕ → Dig) where
  no_other_way_out : SafeOrEnded D → NoOtherWayOut D
  no_other_way_out safe k ts n m =
      elim (safe k ts) [ inl e ↦ absurd (elim ((ending_is D k ts).only e) [ inl x ↦ n x | inr x ↦ m x ]) | inr s ↦ s ]

  -- ── what the earliest line meant ──

  stands_append : (m : Dig) (a b : List Issue) → is_issued m a ≡ true → steps_for m (a ++ b) ≡ steps_for m a
  stands_append m [] b h = absurd (true≢false (sym h))
  stands_append m (i ∷ a) b h = by_test (same i.memorandum m) h (stands_append m a b)
    where
      by_test : (c : Bool) → either c (is_issued m a) ≡ true → (is_issued m a ≡ true → steps_for m (a ++ b) ≡ steps_for m a)
          → pick c i.does (steps_for m (a ++ b)) ≡ pick c i.does (steps_for m a)
      by_test true h f = refl
      by_test false h f = f h

  earliest_stays : EarliestStays D
  earliest_stays k ts t m h = stands_append m (after D k ts).book
      (issued_by D (after D k ts) (told_at D (after D k ts) t).effect) h

-- ── granted wishes, replayed ──

honest_replayed : (D : List ℕ → Dig) → ((l : List ℕ) → length (D l) ≡ 32) → HonestReplayed D
honest_replayed D D32 k ts us T x g =
    sorted_out (instead (honest_ends_nothing D k ts us g.honest) (do
      e ← readings_agree D D32 k ts us
      c ← run D D32 k (onwards us ts)
      inr (record {
        items = sym e ∙ g.items;
        stands = stands_of D D32 (after D k (onwards us ts)) c.0 (side D D32 k (onwards us ts)).well;
      })))
  where
    sorted_out : {A B C : Type 0} → (A ⊎ B) ⊎ C → A ⊎ (B ⊎ C)
    sorted_out (inl (inl a)) = inl a
    sorted_out (inl (inr b)) = inr (inl b)
    sorted_out (inr c) = inr (inr c)

-- ── things shown ──

nothing_to_show : (D : List ℕ → Dig) → NothingToShow D
nothing_to_show D tells nonzero F (inl c) = c.differ (tells _ _ c.agree)
nothing_to_show D tells nonzero F (inr z) = nonzero _ z.zero_digest

-- ── what the memoranda mean ──

memoranda_mean : (D : List ℕ → Dig) → ((l : List ℕ) → length (D l) ≡ 32) → MemorandaMean D
memoranda_mean D D32 k ts = do
  c ← run D D32 k ts
  inr c.0.book

also_for : (D : List ℕ → Dig) → ((l : List ℕ) → length (D l) ≡ 32) → AlsoFor D
also_for D D32 =
    record {
      nothing_to_show = nothing_to_show D;
      root_settles = root_settles D D32;
      readings_agree = readings_agree D D32;
      ending_is = ending_is D;
      no_other_way_out = no_other_way_out D (safety.at_any D D32);
      not_ended_before_open = not_ended_before_open D D32;
      not_ended_by_opening = not_ended_by_opening D D32;
      honest_ends_nothing = honest_ends_nothing D;
      honest_replayed = honest_replayed D D32;
      book_grows = book_grows D D32;
      memoranda_mean = memoranda_mean D D32;
      earliest_stays = earliest_stays D;
      masses_sensible = masses_sensible D;
    }

pub also : AlsoHolds
also =
    record {
      at_sha256 = also_for sha256 sha256_length;
      at_any = also_for;
    }
