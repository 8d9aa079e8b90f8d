-- A piece gone through to its end, and one whose replies could not be written; where a session stands behind it; and that what is
-- written are replies.
use mathlib.Core.Path.{◌≡◌, refl, sym, ap, subst, ◌∙◌}
use mathlib.Core.Bool.{Bool, true, false}
use mathlib.Core.List.{List, [], ◌∷◌, ◌++◌}
use Prim.Native.Nat.{ℕ, ◌+◌, ◌-◌, ◌<◌, ◌≤◌}
use native.Mathlib.Omega.{arith}
use lib.ListN.{length, take, drop, length-take, length-drop}
use lib.Seq.{take_all, take-add}
use Rattle.pieces.specs.Feeding.{ends_line, feed_byte, feed_bytes}
use Rattle.pieces.specs.Cutting.{line_held}
use Rattle.pieces.specs.Whole.{last_line, ended_in}
use Rattle.pieces.proofs.Laws.{feed_append}
use Rattle.paper.specs.declared.Registers.{Registers}
use Rattle.paper.specs.Strings.{nought}
use Rattle.paper.specs.Module.{unopened}
use Rattle.session.specs.Replies.{told_of, replies_to}
use Rattle.session.specs.Serving.{SessionAt, session_with, carrying}
use Rattle.session.proofs.Whole.{registers_append}
use Rattle.knotcinder.specs.declared.Left.{Left}
use Rattle.knotcinder.specs.Loop.{ReachedByLines, Due, Standing, Through}

-- ── a piece ──

-- behind a part of the piece p more
pub came_next : (p : List ℕ) (c c' c'' : SessionAt) (at next : ℕ) → at ≤ next → c' ≡ feed_bytes carrying (take at p) c
    → c'' ≡ feed_bytes carrying (take (next - at) (drop at p)) c' → c'' ≡ feed_bytes carrying (take next p) c
came_next p c c' c'' at next h e f =
    let z : at + (next - at) ≡ next = omega arith in
    let part = take (next - at) (drop at p) in
    let both : take at p ++ part ≡ take next p = sym (take-add at (next - at) p) ∙ ap (λ (k : ℕ). take k p) z in
    f ∙ ap (feed_bytes carrying part) e ∙ sym (feed_append carrying (λ _. refl) (take at p) part c)
    ∙ ap (λ (l : List ℕ). feed_bytes carrying l c) both

pub through : (p : List ℕ) (s : Registers) (d d' : List ℕ) (n at : ℕ) (o : Left)
    → session_with o.registers d' o.held ≡ feed_bytes carrying (take at p) (session_with s d n) → o.held ≤ length d → length p ≤ at
    → Through s p d n o d'
through p s d d' n at o e f h = record { fits = f; came = e ∙ rw (take_all at p h) }

-- ── where a session stands ──

pub standing_first : (s : Registers) (d : List ℕ) → s ≡ unopened nought → Standing s d 0
standing_first s d e = record { input = []; space = d; leads = rw e }

pub standing_next : {s : Registers} {p d : List ℕ} {n : ℕ} {o : Left} {d' : List ℕ}
    → Standing s d n → Through s p d n o d' → Standing o.registers d' o.held
standing_next {p = p} t g =
    record {
      input = t.input ++ p;
      space = t.space;
      leads =
          feed_append carrying (λ _. refl) t.input p (session_with (unopened nought) t.space 0)
          ∙ ap (feed_bytes carrying p) t.leads ∙ sym g.came;
    }

-- ── what is written ──

reached_by : (b : ℕ) (c : SessionAt) (v : Bool) → ends_line b ≡ v → ReachedByLines c.registers
    → ReachedByLines (feed_byte carrying c b).registers
reached_by b c true e f =
    let l = line_held c.held in
    rw e (record {
      lines = f.lines ++ (l ∷ []);
      after = ap (λ (x : Registers). (told_of x l).after) f.after ∙ sym (registers_append (unopened nought) f.lines (l ∷ []));
    })
reached_by b c false e f = rw e f

reached_in : (s : List ℕ) (c : SessionAt) → ReachedByLines c.registers → ReachedByLines (feed_bytes carrying s c).registers
reached_in [] c f = f
reached_in (b ∷ s) c f = reached_in s (feed_byte carrying c b) (reached_by b c (ends_line b) refl f)

pub reached_next : (s : List ℕ) (c c' : SessionAt) → c' ≡ feed_bytes carrying s c → ReachedByLines c.registers
    → ReachedByLines c'.registers
reached_next s c c' e f = subst (λ (x : SessionAt). ReachedByLines x.registers) (sym e) (reached_in s c f)

pub standing_reached : {s : Registers} {d : List ℕ} {n : ℕ} → Standing s d n → ReachedByLines s
standing_reached {s = s} {d = d} {n = n} t =
    reached_next t.input (session_with (unopened nought) t.space 0) (session_with s d n) (sym t.leads)
    (record { lines = []; after = refl })

module _ {s : Registers} (reached : ReachedByLines s) where
  -- behind a call of `serve`, with what was held before it kept
  pub due_served : (p d kept out : List ℕ) (at next n w : ℕ) → kept ≡ take n d → at < next → next ≤ length p
      → take w out ≡ replies_to s (ended_in (take n d) (take (next - at) (drop at p)))
      → Due s kept (take (next - at) (drop at p)) (take w out)
  due_served p d kept out at next n w f on upto bytes =
      let part = take (next - at) (drop at p) in
      record {
        reached = reached;
        onward = simp (length-take, length-drop) (omega arith);
        bytes = bytes ∙ ap (λ (l : List ℕ). replies_to s (ended_in l part)) (sym f);
      }

  -- at the end of the input, with something held
  pub due_last : (l out : List ℕ) (w : ℕ) → 0 < length l → take w out ≡ replies_to s (last_line l) → Due s l (0x0a ∷ []) (take w out)
  due_last [] out w h e = absurd (omega arith)
  due_last (b ∷ l) out w h e = record { reached = reached; onward = omega arith; bytes = e }
