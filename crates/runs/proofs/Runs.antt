-- Any line keeps the invariant or ends the run. Hence, after any lines, a run has ended or is safe: `safety` (demand 3, first
-- half).
use mathlib.Core.Path.{◌≡◌, refl, sym, subst}
use mathlib.Core.List.Memᴰ
use mathlib.Core.List.{List, [], ◌∷◌, ◌++◌}
use mathlib.Core.Logic.{◌⊎◌, inl, inr}
use Prim.Native.Nat.{ℕ}
use lib.ListN.{length}
use Rattle.sha256.specs.Hash.{sha256}
use Rattle.sha256.proofs.Digests.{sha256_length}
use Rattle.paper.specs.Strings.{Dig, digest_of}
use Rattle.paper.specs.Requests.{Request}
use Rattle.paper.specs.Refusals.{refused_by}
use Rattle.paper.specs.Answers.{answer}
use Rattle.paper.specs.Module.{Told, told_by}
use Rattle.rings.specs.Trees.{empty}
use Rattle.rings.specs.Meanings.{Fault}
use Rattle.rings.proofs.Nodes.{◌>>=◌, instead}
use Rattle.rings.proofs.Endings.{fault_shows}
use Rattle.rings.proofs.InPaper.{holds_ring}
use Rattle.runs.specs.Run.{LineTurn, BookReading, of_runs, World, start, told_at, landed, after}
use Rattle.runs.specs.Endings.{Ending, by_collision, by_zero_digest, by_forgery, earlier}
use Rattle.runs.specs.Safety.{TreeStands, LegalEffect, AllFair, SafeOrEnded, Safety}
use Rattle.runs.proofs.Lines.{asked, kind_in, Sorted, refusal, acceptance, sorted}
use Rattle.runs.proofs.Formed.{Well, well_at}
use Rattle.runs.proofs.Carried.{Forgery, Given}
use Rattle.runs.proofs.Safe.{Core, TrueFor, kept_core, accepted}
use Rattle.runs.proofs.Replies.{true_answer}
use Rattle.runs.proofs.Sides.{side}
use Rattle.runs.proofs.Sizes.{listed_fits}

module _ (D : List ℕ → Dig) (D32 : (l : List ℕ) → length (D l) ≡ 32) where
  -- ── what a line comes to, by its answer ──

  abbrev pub Out : BookReading → World → Request → Told → Type 0
  Out by w q a =
      (Fault (digest_of D) (a.formed ++ w.formed) ⊎ ((a.refusal ≡ 0) × Forgery D w q))
      ⊎ (Core D D32 (landed D by w a) × (a.refusal ≡ 0 → TrueFor D w.items q) × LegalEffect D w a.effect)

  -- ── any line ──

  pub line_out : (by : BookReading) (w : World) (t : LineTurn) → Core D D32 w → Out by w (asked t) (told_at D w t)
  line_out by w t c = by_sort (sorted D w.registers t.line t.space)
    where
      by_sort : Sorted D w.registers t.line t.space → Out by w (asked t) (told_at D w t)
      by_sort (refusal n fs z e r) =
          let a = told_by D w.registers (kind_in t) (asked t) (refused_by n fs) in
          subst (Out by w (asked t)) (sym e) (inr (kept_core D D32 by w a refl refl refl c, (λ o. absurd (z o)), tt))
      by_sort (acceptance fs e h j n i) = subst (Out by w (asked t)) (sym e) (do
        let own = (answer D w.registers (asked t)).forms
        let given : Given D w ((own ++ fs) ++ w.formed) (asked t) = record {
          passes = n;
          of_answer = λ x m. Memᴰ.append_left w.formed (Memᴰ.append_left fs m);
          of_number = λ k x m. Memᴰ.append_left w.formed (Memᴰ.append_right own (i k x m));
          wide = h;
        }
        r ← instead (λ x. elim x [ inl f ↦ inl f | inr f ↦ inr (refl, f) ]) (accepted D D32 by w (kind_in t) fs c (asked t) given)
        inr (r.0, (λ z. r.1), r.2))

  -- ── the run ──

  core_start : (k : Dig) → Core D D32 (start D k)
  core_start k =
      record {
        tree = empty;
        root = refl;
        stands = record { tree_in = tt; ascending = tt; known = tt; permuted = λ x. refl };
        book = tt;
        counter = refl;
      }

  -- a fault among the strings of a run is one of its endings
  pub shown : (k : Dig) (ts : List LineTurn) → Fault (digest_of D) (after D k ts).formed → Ending D k ts
  shown k ts f =
      elim (fault_shows {D = D} (λ s i. well_at (after D k ts).formed s (side D D32 k ts).well i) f) [
        | inl c ↦ by_collision c
        | inr z ↦ by_zero_digest z
      ]

  pub run : (k : Dig) (ts : List LineTurn) → Ending D k ts ⊎ (Core D D32 (after D k ts) × AllFair D k ts)
  run k [] = inr (core_start k, tt)
  run k (t ∷ ts) = do
    x ← instead (earlier t) (run k ts)
    y ← instead ends (line_out of_runs (after D k ts) t x.0)
    inr (y.0, (record { true_answer = λ z. true_answer D (after D k ts) t z (y.1 z); legal = y.2 }, x.1))
    where
      ends : Fault (digest_of D) (after D k (t ∷ ts)).formed ⊎ (((told_at D (after D k ts) t).refusal ≡ 0) × Forgery D (after D k ts)
          (asked t)) → Ending D k (t ∷ ts)
      ends (inl f) = shown k (t ∷ ts) f
      ends (inr x) = by_forgery t (record { accepted = x.0; memorandum = x.1.0; carries = x.1.1; unissued = x.1.2 })

  pub stands_of : (w : World) → Core D D32 w → Well w.formed → TreeStands D w
  stands_of w c well =
      record {
        tree = c.tree;
        root = c.root;
        ascending = c.stands.ascending;
        holds = holds_ring D D32 w.formed c.stands;
        fits = listed_fits D D32 w c well;
        counter = c.counter;
      }

safe_or_ended : (D : List ℕ → Dig) → ((l : List ℕ) → length (D l) ≡ 32) → SafeOrEnded D
safe_or_ended D D32 k ts = do
  x ← run D D32 k ts
  let s = side D D32 k ts
  inr (record { stands = stands_of D D32 (after D k ts) x.0 s.well; fair = x.1; closed = s.closed })

pub safety : Safety
safety = record { at_sha256 = safe_or_ended sha256 sha256_length; at_any = safe_or_ended }
