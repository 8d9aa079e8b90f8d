-- At a world that stands, open and below the top, every legal wish is granted by its honest lines; so after any run until it has
-- ended: `liveness` (demand 3, second half).
use mathlib.Core.Path.{◌≡◌, refl, sym, ap, subst, ◌∙◌}
use mathlib.Core.List.{List, ◌++◌}
use mathlib.Core.Logic.{inr}
use Prim.Native.Nat.{ℕ, ◌+◌, ◌<◌}
use native.Mathlib.Nat.{mod-lt}
use native.Mathlib.Omega.{arith}
use lib.ListN.{length}
use Rattle.seqs.specs.Choose.{◌and◌}
use Rattle.seqs.specs.Bytes.{Bytes, be32, bytes_append}
use Rattle.sha256.specs.Hash.{sha256}
use Rattle.sha256.proofs.Digests.{sha256_length}
use Rattle.paper.specs.declared.Registers.{Registers}
use Rattle.paper.specs.Strings.{Dig, empty_record, record_hash}
use Rattle.paper.specs.Refusals.{top, next_record, cleared_record}
use Rattle.rings.specs.Trees.{Tree, leaves, hash_of, SameLeaves}
use Rattle.rings.specs.Lists.{AscendingFrom, ring}
use Rattle.rings.proofs.Nodes.{◌>>=◌}
use Rattle.rings.proofs.Items.{insert_ascending, remove_ascending, put_ascending}
use Rattle.runs.specs.Run.{LineTurn, Items, World, after}
use Rattle.runs.specs.Sizes.{ItemsFit}
use Rattle.runs.specs.Wishes.{Wish, insert_item, remove_item, swap_places, set_record, clear_record, ask_about, LegalWish}
use Rattle.runs.specs.Outcomes.{items_after, registers_after, LeavesMoved}
use Rattle.runs.specs.Frames.{turns_of}
use Rattle.runs.specs.Honest.{honest_lines}
use Rattle.runs.specs.TreesAfter.{tree_after}
use Rattle.runs.specs.Liveness.{latest_first, Spaced, last_reply, AnsweredTruly, AllGrantable, LiveOrEnded, lines_for, Granted, FunctionsGrant, LivenessFor, Liveness}
use Rattle.runs.proofs.Sizes.{item_fits, insert_fits, remove_fits, put_fits, none_fits_lem, none_well_formed, next_fits, next_well_formed}
use Rattle.runs.proofs.Runs.{safety}
use Rattle.runs.proofs.Spaces.{some_turns, fed_same, honest_same, reply_same}
use Rattle.runs.proofs.Fed.{Brings}
use Rattle.runs.proofs.Standing.{Ground}
use Rattle.runs.proofs.SetClear.{set_brings, clear_brings}
use Rattle.runs.proofs.Asks.{ask_answers}
use Rattle.runs.proofs.Moves.{swap_brings, insert_brings}
use Rattle.runs.proofs.Removes.{remove_brings}
use Rattle.runs.proofs.Grown.{rewritten_holds, swapped_holds, with_holds, without_holds}
use Rattle.runs.proofs.Exchanged.{swap_keeps_shape, swap_exchanges}

module _ (D : List ℕ → Dig) (D32 : (l : List ℕ) → length (D l) ≡ 32) (DB : (l : List ℕ) → Bytes (D l)) where
  module _ (w : World) (T : Tree) (g : Ground D w T) (below : w.registers.counter.0 < top) where
    abbrev s : Registers
    s = w.registers

    -- granted by the lines of `honest_lines`, whatever their reply spaces
    abbrev GrantedBy : Wish → Type 0
    GrantedBy x = (us : List LineTurn) → Spaced (lines_for D w T x) us → Granted D w T x us

    -- Lines that bring about the list and the registers wanted grant a wish, where the tree wanted has that list's ring.
    grants : (x : Wish) (n : ℕ)
        → (let U = tree_after D s T w.items x in
        let l = items_after s w.items x in
        let s' = registers_after s (hash_of D U) x in
        Brings D w (honest_lines D s T w.items x) s' l n → hash_of D U ≡ s'.root → s'.counter.0 ≡ n → AscendingFrom 0 l
        → SameLeaves (leaves U) (ring (record_hash D) l) → ItemsFit l → LeavesMoved x T U
        → AnsweredTruly D x w.items (last_reply D w (turns_of (honest_lines D s T w.items x))) → GrantedBy x)
    grants x n b root counter up holds fits moved answered us spaced =
        let U = tree_after D s T w.items x in
        let qs = honest_lines D s T w.items x in
        let e = fed_same D w qs us spaced in
        let items_are = ap (λ (v : World). v.items) e ∙ b.items_are in
        let registers_are = ap (λ (v : World). v.registers) e ∙ b.registers_are in
        let changed_are = ap (λ (v : World). v.changed) e ∙ b.changed_are in
        record {
          grants = record {
            honest = honest_same D w qs us spaced b.fair;
            items = items_are;
            stands = record {
              tree = U;
              root = root ∙ sym (ap (λ (r : Registers). r.root) registers_are);
              ascending = subst (AscendingFrom 0) (sym items_are) up;
              holds = subst (λ (l : Items). SameLeaves (leaves U) (ring (record_hash D) l)) (sym items_are) holds;
              fits = subst ItemsFit (sym items_are) fits;
              counter = ap (λ (r : Registers). r.counter.0) registers_are ∙ counter ∙ sym changed_are;
            };
            registers = registers_are;
            moved = moved;
            answered = subst (AnsweredTruly D x w.items) (sym (reply_same D w qs us spaced)) answered;
          };
          tree = refl;
        }

    -- each kind of wish
    granted : (x : Wish) → LegalWish w.items x → GrantedBy x
    granted (insert_item A) h =
        grants (insert_item A) w.changed (insert_brings g A h.1 h.0 h.2) refl g.counter
        (insert_ascending 0 A empty_record w.items h.0 h.2 g.ascending) (with_holds g A h.0 h.2)
        (insert_fits A empty_record w.items (item_fits A empty_record h.1 none_fits_lem none_well_formed) g.fits) tt tt
    granted (remove_item A) h =
        grants (remove_item A) w.changed (remove_brings g A h) refl g.counter
        (remove_ascending 0 A w.items g.ascending) (without_holds g A h) (remove_fits A w.items g.fits) tt tt
    granted (swap_places A B) h =
        grants (swap_places A B) w.changed (swap_brings g A B h.0 h.1 h.2) refl g.counter
        g.ascending (swapped_holds g A B h.0 h.1 h.2) g.fits
        (swap_keeps_shape g A B h.0 h.1 h.2, swap_exchanges g A B h.0 h.1 h.2) tt
    granted (set_record A v) h =
        let new = next_record s v in
        grants (set_record A v) (w.changed + 1)
        (set_brings g A v h.0.0 h.0.1 h.1 h.2 below) refl
        (ap (λ (n : ℕ). n + 1) g.counter) (put_ascending 0 A new w.items g.ascending)
        (rewritten_holds g A h.0.0 new h.0.1)
        (put_fits A new w.items (next_fits s v below h.1) (next_well_formed s v) g.fits) tt tt
    granted (clear_record A) h =
        grants (clear_record A) (w.changed + 1) (clear_brings g A h.0 h.1 h.2 below) refl
        (ap (λ (n : ℕ). n + 1) g.counter) (put_ascending 0 A cleared_record w.items g.ascending)
        (rewritten_holds g A h.0 cleared_record h.1)
        (put_fits A cleared_record w.items none_fits_lem none_well_formed g.fits) tt tt
    granted (ask_about q) h =
        let a = ask_answers g q h.1 h.0 in
        grants (ask_about q) w.changed a.brings g.root g.counter g.ascending g.holds g.fits tt a.reply

  functions_grant : FunctionsGrant D
  functions_grant w t opened below x h =
      granted (latest_first w) t.tree
      (record {
        ready = record { digests = λ l. record { wide = D32 l; bytes = DB l }; opened = opened };
        root = t.root;
        ascending = t.ascending;
        holds = t.holds;
        counter = t.counter;
        fits = t.fits;
      }) below x h

  all_grantable : AllGrantable D
  all_grantable w t opened below x h =
      record {
        lines = lines_for D (latest_first w) t.tree x;
        grant = λ us spaced. (functions_grant w t opened below x h us spaced).grants;
      }

  live_or_ended : LiveOrEnded D
  live_or_ended k ts opened below = do
    safe ← safety.at_any D D32 k ts
    inr (record {
      stands = safe.stands;
      grants = λ t x h. all_grantable (after D k ts) t opened below x h;
    })

  liveness_for : LivenessFor D
  liveness_for = record { anywhere = all_grantable; after_runs = live_or_ended; by_functions = functions_grant }

-- ── SHA-256 ──

be32_bytes : (n : ℕ) → Bytes (be32 n)
be32_bytes n = mod-lt _ (omega arith) and mod-lt _ (omega arith) and mod-lt _ (omega arith) and mod-lt _ (omega arith) and tt

words_bytes : (a b c d e f g h : ℕ)
    → Bytes (be32 a ++ (be32 b ++ (be32 c ++ (be32 d ++ (be32 e ++ (be32 f ++ (be32 g ++ be32 h)))))))
words_bytes a b c d e f g h =
    let more : (n : ℕ) (l : List ℕ) → Bytes l → Bytes (be32 n ++ l) = λ n l k. bytes_append (be32 n) l (be32_bytes n) k in
    let l₂ = be32 g ++ be32 h in
    let l₃ = be32 f ++ l₂ in
    let l₄ = be32 e ++ l₃ in
    let l₅ = be32 d ++ l₄ in
    let l₆ = be32 c ++ l₅ in
    let l₇ = be32 b ++ l₆ in
    more a l₇ (more b l₆ (more c l₅ (more d l₄ (more e l₃ (more f l₂ (more g (be32 h) (be32_bytes h)))))))

pub sha256_bytes : (m : List ℕ) → Bytes (sha256 m)
unfolding sha256
sha256_bytes m = words_bytes _ _ _ _ _ _ _ _

pub liveness : Liveness
liveness =
    record {
      at_sha256 = liveness_for sha256 sha256_length sha256_bytes;
      at_any = liveness_for;
      taken = some_turns;
    }
