-- Lines that end in an EI put first into the book, and what follows on them: turn, which reverses it, and adopt, which does
-- it. Since the EI stands first, it is read as the line that issued it last meant it.
use mathlib.Core.Path.{◌≡◌, refl, ap, subst}
use mathlib.Core.Bool.{Bool, true, false}
use mathlib.Core.List.{List, [], ◌∷◌, ◌++◌}
use Prim.Native.Nat.{ℕ, ◌<◌}
use native.Mathlib.Omega.{arith}
use borrow.Author.Tests.{ne_eqb}
use lib.Dec.{eqb}
use Rattle.seqs.specs.Choose.{pick, opposite, ◌and◌}
use Rattle.seqs.specs.Bytes.{same, same_refl}
use Rattle.paper.specs.declared.Registers.{Registers}
use Rattle.paper.specs.Strings.{Dig, nought, Memo, Str, leaf, in_gap}
use Rattle.paper.specs.Requests as Q
use Rattle.paper.specs.Requests.{Request}
use Rattle.paper.specs.Refusals.{none_fits, needs, carried_memoranda}
use Rattle.paper.specs.Answers as Does
use Rattle.paper.specs.Answers.{ListChange, rooted, answer_issuing, answer}
use Rattle.rings.specs.Changes.{Step, insertion, removal, do_steps, reversed}
use Rattle.runs.specs.Run.{Issue, meaning, World}
use Rattle.runs.specs.Sizes.{InEightBytes}
use Rattle.runs.specs.Ways.{Fork, left_one, right_one, Edit}
use Rattle.runs.specs.Honest.{say_u2, say_ei, turned_round, note, turn_round, take_over, relinked, gone, on_left_foot, on_right_foot, without, placed, alone}
use Rattle.runs.specs.Liveness.{AllIssued}
use Rattle.runs.proofs.Accepted.{NoneFails}
use Rattle.runs.proofs.Parts.{IsDigest}
use Rattle.runs.proofs.Frames.{Sendable}
use Rattle.runs.proofs.Climbs.{nought_digest, IsEdit, risen_two_is}
use Rattle.runs.proofs.Fed.{at, Leads, leads_on, leads_one, issued_first, note_fits, note_fits_second, head_issued, head_stands, Brings, brings_also, brings}
use Rattle.runs.proofs.Reach.{Ready, is_open_lem, note_digest, fits_own, two_places_lem}

pub not_zero_lem : (n : ℕ) → 0 < n → eqb n 0 ≡ false
not_zero_lem n h = ne_eqb n 0 (λ e. omega arith)

-- the root passes the check of the root
pub at_root_lem : (y r : Dig) → y ≡ r → opposite (same y r) ≡ false
at_root_lem y r e = rw (e, same_refl r) refl

module _ (D : List ℕ → Dig) where
  -- lines that change nothing but the book, whose first entry then is a memorandum that stands for the steps c
  pub record Heads (w : World) (qs : List Request) (t : Memo) (c : List Step) : Type 0 where
    pub formed : List Str
    pub book : List Issue
    pub leads : Leads D w qs (at w formed (record { memorandum = note D w.registers t; does = c } ∷ book))

  pub heads_line : (w : World) (q : Request) (shown : List ℕ) (before : List Str) (t : Memo) (c : ListChange) → Sendable q
      → NoneFails (needs D w.registers q) → AllIssued (carried_memoranda D w.registers q) w.book
      → answer D w.registers q ≡ answer_issuing D w.registers shown before t c → Heads w (q ∷ []) t (meaning w.book c)
  heads_line w q shown before t c ok n i e =
      let r = issued_first D w q ok n i shown before t c e in
      record { formed = r.0; book = w.book; leads = r.1 }

  -- behind other lines that change nothing but the book
  pub heads_behind : {w : World} {a b : List Request} {u : Memo} {c : List Step} {F : List Str} {B : List Issue}
      → Leads D w a (at w F B) → Heads (at w F B) b u c → Heads w (a ++ b) u c
  heads_behind g h = record { formed = h.formed; book = h.book; leads = leads_on D g h.leads }

module _ {D : List ℕ → Dig} {w : World} (r : Ready D w) where
  abbrev s : Registers
  s = w.registers

  abbrev DD : (l : List ℕ) → IsDigest (D l)
  DD = r.digests

  -- ── 09 turn ──

  pub turn_last : (qs : List Request) (y : Edit) (c : List Step) → IsEdit y → Heads D w qs (say_ei y) c
      → Heads D w (qs ++ (turn_round D s y ∷ [])) (say_ei (turned_round y)) (reversed c)
  turn_last qs y c hy h =
      let m = note D s (say_ei y) in
      let q = turn_round D s y in
      let b : List Issue = record { memorandum = m; does = c } ∷ h.book in
      let v = at w h.formed b in
      heads_behind D h.leads
      (subst (λ (d : List Step). Heads D v (q ∷ []) (say_ei (turned_round y)) (reversed d)) (head_stands D m c h.book)
      (heads_line D v q [] [] (say_ei (turned_round y)) (Does.reverses m) (hy.old and hy.new and note_digest r (say_ei y) and tt)
      (is_open_lem r and fits_own r (say_ei y) and tt) (head_issued D m c h.book, tt) refl))

  -- ── 0b adopt ──

  pub adopt_last : (qs : List Request) (y : Edit) (c : List Step) → IsEdit y → y.was ≡ s.root → Heads D w qs (say_ei y) c
      → Brings D w (qs ++ (take_over D s y ∷ [])) (rooted s y.becomes) (do_steps c w.items) w.changed
  adopt_last qs y c hy e h =
      let m = note D s (say_ei y) in
      let q = take_over D s y in
      let b : List Issue = record { memorandum = m; does = c } ∷ h.book in
      let v = at w h.formed b in
      let e' = ap (λ (b : List Step). do_steps b w.items) (head_stands D m c h.book) in
      brings_also D refl refl e'
      (brings D (leads_on D h.leads
      (leads_one D v q (hy.old and hy.new and note_digest r (say_ei y) and tt)
      (is_open_lem r and fits_own r (say_ei y) and at_root_lem y.was s.root e and tt)
      (head_issued D m c h.book, tt))))

  -- ── 07 first ──

  pub alone_is : (A : ℕ) → IsEdit (alone D s A)
  alone_is A = record { old = nought_digest; new = DD _ }

  pub first_line : (A : ℕ) → InEightBytes A → 0 < A → Heads D w (Q.first A ∷ []) (say_ei (alone D s A)) (insertion A ∷ [])
  first_line A small positive =
      heads_line D w (Q.first A) [] (leaf A A nought ∷ []) (say_ei (alone D s A)) (Does.adds A) small
      (is_open_lem r, (not_zero_lem A positive, tt)) tt refl

  -- ── 08 place ──

  -- a U2 in either order is one of the two things that place asks for, in the order tried
  fits_either : (c : Bool) (a b y : Edit)
      → none_fits D s.secret (say_u2 a b y ∷ say_u2 b a y ∷ []) (note D s (say_u2 (pick c b a) (pick c a b) y)) ≡ false
  fits_either true a b y = note_fits_second D s.secret (say_u2 a b y) (say_u2 b a y)
  fits_either false a b y = note_fits D s.secret (say_u2 a b y) (say_u2 b a y ∷ [])

  -- edits at the feet of a fork
  pub feet_are : (f : Fork) (a b : Edit) → IsEdit a → IsEdit b → IsEdit (left_one f a b) × IsEdit (right_one f a b)
  feet_are f a b h k = by_side f.crossed
    where
      by_side : (c : Bool) → IsEdit (pick c b a) × IsEdit (pick c a b)
      by_side true = (k, h)
      by_side false = (h, k)

  place_feet : (f : Fork) (B A B' : ℕ) (ω : Dig) → IsEdit (on_left_foot D s f B A B' ω) × IsEdit (on_right_foot D s f B A B' ω)
  place_feet f B A B' ω =
      feet_are f (relinked D s B A B' ω) (gone D s A B') (record { old = DD _; new = DD _ })
      (record { old = DD _; new = nought_digest })

  pub without_is : (f : Fork) (B A B' : ℕ) (ω : Dig) → IsEdit (without D s f B A B' ω)
  without_is f B A B' ω = let h = place_feet f B A B' ω in risen_two_is DD f _ _ h.0 h.1

  -- U2 and place
  pub place_lines : (f : Fork) (B A B' : ℕ) (ω : Dig) → InEightBytes B → InEightBytes A → InEightBytes B' → IsDigest ω → 0 < B
      → 0 < A → 0 < B' → in_gap A B B' ≡ true → Heads D w (placed D s f B A B' ω) (say_ei (without D s f B A B' ω)) (removal A ∷ [])
  place_lines f B A B' ω sB sA sB' hω pB pA pB' gap =
      let a = on_left_foot D s f B A B' ω in
      let b = on_right_foot D s f B A B' ω in
      let h = place_feet f B A B' ω in
      let y = without D s f B A B' ω in
      let hy = without_is f B A B' ω in
      let t = say_u2 a b y in
      let g = two_places_lem r w.formed w.book f a b h.0 h.1 in
      heads_behind D g.leads
      (heads_line D (at w g.formed g.book) (Q.place B A B' ω y.was y.becomes (note D s t)) [] [] (say_ei y)
      (Does.removes A)
      (sB, sA, sB', (hω and hy.old and hy.new and note_digest r t and tt))
      (is_open_lem r and not_zero_lem B pB and not_zero_lem A pA and not_zero_lem B' pB' and rw gap refl
      and fits_either f.crossed (relinked D s B A B' ω) (gone D s A B') y and tt)
      (g.got, tt) refl)
