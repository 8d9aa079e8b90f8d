-- How much more reply space there is than is asked for (§7.4.4) makes no difference to what lines come to.
use mathlib.Core.Path.{◌≡◌, refl, sym, ap, subst, ◌∙◌}
use mathlib.Core.Bool.{Bool}
use mathlib.Core.List.{List, [], ◌∷◌, ◌++◌}
use Prim.Native.Nat.{ℕ, ◌≤◌}
use native.Mathlib.Omega.{arith}
use borrow.Author.Tests.{le-ltb}
use Rattle.hexadecimal.specs.Hex.{bytes_of}
use Rattle.paper.specs.declared.Registers.{Registers}
use Rattle.paper.specs.Strings.{Dig}
use Rattle.paper.specs.Requests.{Request, kind_of, request_of}
use Rattle.paper.specs.Refusals.{plain, order, reply_room, is_hex, needs, judge, carried_memoranda}
use Rattle.paper.specs.Module.{Told, frame_checks, told_by, answer_to}
use Rattle.runs.specs.Run.{LineTurn, last, World, told_at, landed, next}
use Rattle.runs.specs.Frames.{lines_of, turn_of, turns_of}
use Rattle.runs.specs.Liveness.{AllIssued, Spaced, fed, HonestTurns, last_reply}

-- just 195 will do
pub some_turns : (lines : List (List ℕ)) → (us : List LineTurn) × Spaced lines us
some_turns [] = ([], tt)
some_turns (l ∷ ls) =
    let r = some_turns ls in
    (record { line = l; space = reply_room } ∷ r.0, (refl, omega arith, r.1))

module _ (D : List ℕ → Dig) where
  -- ── one line ──

  room_enough : (s : Registers) (line : List ℕ) (space : ℕ) → reply_room ≤ space
      → answer_to D s line space ≡ answer_to D s line reply_room
  unfolding answer_to
  room_enough s line space h =
      let f = bytes_of line in
      ap (λ (b : Bool). told_by D s (kind_of f) (request_of f)
      (judge order [] (plain 15 b ∷ is_hex line ∷ (frame_checks f ++ needs D s (request_of f))))) (le-ltb space reply_room h)

  told_same : (w : World) (q : Request) (t : LineTurn) → t.line ≡ (turn_of q).line → reply_room ≤ t.space
      → told_at D w t ≡ told_at D w (turn_of q)
  told_same w q t e h =
      room_enough w.registers t.line t.space h ∙ ap (λ (l : List ℕ). answer_to D w.registers l reply_room) e

  next_same : (w : World) (q : Request) (t : LineTurn) → t.line ≡ (turn_of q).line → reply_room ≤ t.space
      → next D last w t ≡ next D last w (turn_of q)
  next_same w q t e h = ap (landed D last w) (told_same w q t e h)

  -- ── lines fed in turn ──

  pub fed_same : (w : World) (qs : List Request) (us : List LineTurn) → Spaced (lines_of qs) us → fed D w us ≡ fed D w (turns_of qs)
  fed_same w [] [] h = refl
  fed_same w [] (t ∷ us) h = absurd h
  fed_same w (q ∷ qs) [] h = absurd h
  fed_same w (q ∷ qs) (t ∷ us) h =
      ap (λ (v : World). fed D v us) (next_same w q t h.0 h.1) ∙ fed_same (next D last w (turn_of q)) qs us h.2

  pub honest_same : (w : World) (qs : List Request) (us : List LineTurn) → Spaced (lines_of qs) us → HonestTurns D w (turns_of qs)
      → HonestTurns D w us
  honest_same w [] [] h k = tt
  honest_same w [] (t ∷ us) h k = absurd h
  honest_same w (q ∷ qs) [] h k = absurd h
  honest_same w (q ∷ qs) (t ∷ us) h k = (
    ap (λ (a : Told). a.refusal) (told_same w q t h.0 h.1) ∙ k.0,
    subst (λ (l : List ℕ). AllIssued (carried_memoranda D w.registers (request_of (bytes_of l))) w.book) (sym h.0) k.1,
    subst (λ (v : World). HonestTurns D v us) (sym (next_same w q t h.0 h.1))
        (honest_same (next D last w (turn_of q)) qs us h.2 k.2),
  )

  pub reply_same : (w : World) (qs : List Request) (us : List LineTurn) → Spaced (lines_of qs) us
      → last_reply D w us ≡ last_reply D w (turns_of qs)
  reply_same w [] [] h = refl
  reply_same w [] (t ∷ us) h = absurd h
  reply_same w (q ∷ qs) [] h = absurd h
  reply_same w (q ∷ []) (t ∷ []) h = ap (λ (a : Told). a.says) (told_same w q t h.0 h.1)
  reply_same w (q ∷ []) (t ∷ u ∷ us) h = absurd h.2
  reply_same w (q ∷ r ∷ qs) (t ∷ []) h = absurd h.2
  reply_same w (q ∷ r ∷ qs) (t ∷ u ∷ us) h =
      ap (λ (v : World). last_reply D v (u ∷ us)) (next_same w q t h.0 h.1)
      ∙ reply_same (next D last w (turn_of q)) (r ∷ qs) (u ∷ us) h.2
