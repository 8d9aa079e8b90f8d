-- The honest keeper: every wish that the tablet does not refuse is granted, and tablet and module are together again.
use mathlib.Core.Path.{◌≡◌, refl, sym, ap, subst, ◌∙◌}
use mathlib.Core.List.{List}
use Rattle.std.specs.Prelude.{Ok, IsOk}
use Rattle.plans.specs.declared.Plan.{Plan}
use Prim.Native.Nat.{ℕ, suc, ◌+◌, ◌-◌, ◌<◌, ◌≤◌}
use native.Mathlib.Omega.{arith}
use lib.ListN.{length}
use Rattle.seqs.specs.Bytes.{Bytes}
use Rattle.sha256.specs.Hash.{sha256}
use Rattle.sha256.proofs.Digests.{sha256_length}
use Rattle.paper.specs.declared.Registers.{Registers}
use Rattle.paper.specs.Strings.{Dig}
use Rattle.paper.specs.Refusals.{top}
use Rattle.runs.specs.Run.{World}
use Rattle.runs.specs.Sizes.{InEightBytes}
use Rattle.runs.proofs.Reach.{Ready}
use Rattle.runs.proofs.Live.{sha256_bytes}
use Rattle.wishes.specs.declared.Wish.{Wish}
use Rattle.wishes.specs.declared.Wish.TheVariants.{Insert, Remove, Set, Clear, Ask}
use Rattle.hearing.specs.Hearing.{accepts, not_awaited, leaves_heard, nodes_heard, heard_from}
use Rattle.keeping.specs.Talking.{Tablet, set_out, Conversed, converse}
use Rattle.keeping.specs.Granting.{WishFits, most_lines, begins, Grants, Together, StartTogether, OtherRepliesTold, KeepsHonestly, HonestKeeper}
use Rattle.keeping.proofs.Allowed.{no_word, was_begun, below_top_lem}
use Rattle.keeping.proofs.Questions.{ask_granted}
use Rattle.keeping.proofs.Records.{set_granted, clear_granted}
use Rattle.keeping.proofs.Places.{insert_granted, remove_granted}
use Rattle.keeping.proofs.Legal.{refuses_just}

module _ (D : List ℕ → Dig) (D32 : (l : List ℕ) → length (D l) ≡ 32) (DB : (l : List ℕ) → Bytes (D l)) (w : World) (x : Tablet)
    (t : Together D w x) where
  ready : Ready D w
  ready = record { digests = λ l. record { wide = D32 l; bytes = DB l }; opened = t.opened }

  -- ── together again ──

  -- by a register that says the same as before, and a counter of 8 bytes
  again : (v : Wish) (c : Conversed D) (s' : Registers) → Grants D w v c → c.world.registers ≡ s' → s'.opened ≡ w.registers.opened
      → InEightBytes s'.counter.0 → Together D c.world c.wish.tablet
  again v c s' g e opened narrow =
      record {
        opened = ap (λ (r : Registers). r.opened) e ∙ opened ∙ t.opened;
        narrow = subst (λ (r : Registers). InEightBytes r.counter.0) (sym e) narrow;
        counted = g.counted;
        agrees = g.agrees;
      }

  -- a record change is not refused, so the counter is below its top
  raised_narrow : w.registers.counter.0 < top → InEightBytes (w.registers.counter.0 + 1)
  raised_narrow h = omega (arith, h)

  together_again : (v : Wish) → IsOk (begins D x v) → (c : Conversed D) → Grants D w v c → Together D c.world c.wish.tablet
  together_again (Insert A) e c g = again (Insert A) c _ g g.registers refl t.narrow
  together_again (Remove A) e c g = again (Remove A) c _ g g.registers refl t.narrow
  together_again (Set A v) e c g =
      again (Set A v) c _ g g.registers refl
      (raised_narrow (below_top_lem t.agrees t.narrow (no_word D x (Set A v) e).1.1.1.1.1.1.1.0))
  together_again (Clear A) e c g =
      again (Clear A) c _ g g.registers refl
      (raised_narrow (below_top_lem t.agrees t.narrow (no_word D x (Clear A) e).1.1.1.1.1.1.1.0))
  together_again (Ask q) e c g = again (Ask q) c _ g g.registers refl t.narrow

  -- ── each wish ──

  abbrev In : Wish → Plan → ℕ → Type 0
  In v p n = Grants D w v (converse D n w (set_out x p))

  granted : (v : Wish) → WishFits v → (p : Plan) → begins D x v ≡ Ok p → (n : ℕ) → most_lines v ≤ n → In v p n
  granted (Insert A) fits p e n enough =
      let all : suc (suc (suc (suc (suc (suc (suc (suc (n - 8)))))))) ≡ n = omega arith in
      subst (In (Insert A) p) all (insert_granted t.agrees ready t.counted A fits p e (n - 8))
  granted (Remove A) fits p e n enough =
      let all : suc (suc (suc (suc (suc (suc (suc (suc (suc (suc (suc (suc (suc (suc (n - 14)))))))))))))) ≡ n = omega arith in
      subst (In (Remove A) p) all (remove_granted t.agrees ready t.counted A p e (n - 14))
  granted (Set A v) fits p e n enough =
      let all : suc (suc (n - 2)) ≡ n = omega arith in
      subst (In (Set A v) p) all (set_granted t.agrees ready t.counted t.narrow A v fits.1 p e (n - 2))
  granted (Clear A) fits p e n enough =
      let all : suc (suc (n - 2)) ≡ n = omega arith in
      subst (In (Clear A) p) all (clear_granted t.agrees ready t.counted t.narrow A p e (n - 2))
  granted (Ask q) fits p e n enough =
      let all : suc (suc (suc (n - 3))) ≡ n = omega arith in
      subst (In (Ask q) p) all (ask_granted t.agrees ready t.counted q fits p e (n - 3))

start_together : (D : List ℕ → Dig) → StartTogether D
start_together D s x rs opened narrow holds root counter =
    record {
      opened = opened;
      narrow = narrow;
      counted = refl;
      agrees = record { rows = rs; holds = holds; items = refl; root = root; counter = counter };
    }

-- a line that is not awaited
other_told : (D : List ℕ → Dig) → OtherRepliesTold D
unfolding heard_from not_awaited leaves_heard nodes_heard accepts
other_told D u l e = rw e (refl, refl)

keeps_honestly : (D : List ℕ → Dig) → ((l : List ℕ) → length (D l) ≡ 32) → ((l : List ℕ) → Bytes (D l)) → KeepsHonestly D
keeps_honestly D D32 DB =
    record {
      anywhere = start_together D;
      every_wish = λ w x t v fits p e n enough.
          let g = granted D D32 DB w x t v fits p e n enough in
          record { grants = g; together = together_again D D32 DB w x t v (was_begun e) _ g };
      refuses_just = refuses_just D;
      other_replies = other_told D;
    }

pub honest_keeper : HonestKeeper
honest_keeper = record { at_sha256 = keeps_honestly sha256 sha256_length sha256_bytes; at_any = keeps_honestly }
