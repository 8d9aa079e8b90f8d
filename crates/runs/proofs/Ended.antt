-- What an ending is: something shown among the strings formed, or a forged memorandum of some line. No line at a module that is
-- not open ends a run, and no honest line.
use mathlib.Core.Path.{◌≡◌, refl, sym, subst, ◌∙◌}
use mathlib.Core.Bool.{Bool, true, false, true≢false}
use mathlib.Core.List.Memᴰ
use mathlib.Core.List.{List, [], ◌∷◌, Memᴰ}
use mathlib.Core.Logic.{◌⊎◌, inl, inr}
use Prim.Native.Nat.{ℕ}
use lib.ListN.{length}
use Rattle.paper.specs.declared.Registers.{Registers}
use Rattle.paper.specs.Strings.{Dig, Str}
use Rattle.paper.specs.Refusals.{carried_memoranda}
use Rattle.rings.specs.Meanings.{Within}
use Rattle.runs.specs.Run.{LineTurn, last, of_runs, Issue, is_issued, World, told_at, next, after}
use Rattle.runs.specs.Endings.{Forged, Ending, by_collision, by_zero_digest, by_forgery, earlier}
use Rattle.runs.specs.Liveness.{latest_first, AllIssued, HonestTurns}
use Rattle.runs.specs.Also.{onwards, Shown, AnyForged, EndingIs, NotEndedBeforeOpen, NotEndedByOpening, HonestEndsNothing}
use Rattle.runs.proofs.Lines.{asked}
use Rattle.runs.proofs.Sides.{at_shut, stays_open, side}
use Rattle.runs.proofs.Readings.{Alike, alike_latest, alike_next}

-- ── the ways out ──

module _ (D : List ℕ → Dig) where
  shown_more : (F G : List Str) → Within F G → Shown D F → Shown D G
  shown_more F G s (inl c) =
      inl (record {
        one = c.one;
        other = c.other;
        one_formed = s c.one c.one_formed;
        other_formed = s c.other c.other_formed;
        differ = c.differ;
        agree = c.agree;
      })
  shown_more F G s (inr z) =
      inr (record { string = z.string; string_formed = s z.string z.string_formed; zero_digest = z.zero_digest })

  ways_out : {k : Dig} {ts : List LineTurn} → Ending D k ts → Shown D (after D k ts).formed ⊎ AnyForged D k ts
  ways_out (by_collision c) = inl (inl c)
  ways_out (by_zero_digest z) = inl (inr z)
  ways_out (by_forgery t f) = inr (inl f)
  ways_out {k} (earlier {ts = ts} t e) = later (ways_out e)
    where
      more : Within (after D k ts).formed (after D k (t ∷ ts)).formed
      more s i = Memᴰ.append_right (told_at D (after D k ts) t).formed i

      later : Shown D (after D k ts).formed ⊎ AnyForged D k ts → Shown D (after D k (t ∷ ts)).formed ⊎ AnyForged D k (t ∷ ts)
      later (inl x) = inl (shown_more (after D k ts).formed (after D k (t ∷ ts)).formed more x)
      later (inr x) = inr (inr x)

  none_shown : Shown D [] → ⊥
  none_shown (inl c) = elim c.one_formed [ ]
  none_shown (inr z) = elim z.string_formed [ ]

  shown_ends : (k : Dig) (ts : List LineTurn) → Shown D (after D k ts).formed → Ending D k ts
  shown_ends k ts (inl c) = by_collision c
  shown_ends k ts (inr z) = by_zero_digest z

  forged_ends : (k : Dig) (ts : List LineTurn) → AnyForged D k ts → Ending D k ts
  forged_ends k (t ∷ ts) (inl f) = by_forgery t f
  forged_ends k (t ∷ ts) (inr x) = earlier t (forged_ends k ts x)
  forged_ends k [] x' = elim x' [ ]

  pub ending_is : EndingIs D
  ending_is k ts =
      record { only = ways_out; each = λ x. elim x [ inl s ↦ shown_ends k ts s | inr f ↦ forged_ends k ts f ] }

  -- ── honest lines ──

  issued_in_lem : (m : Dig) (ms : List Dig) (b : List Issue) → Memᴰ m ms → AllIssued ms b → is_issued m b ≡ true
  issued_in_lem m (n ∷ ms) b (Memᴰ.head e) h = subst (λ (x : Dig). is_issued x b ≡ true) (sym e) h.0
  issued_in_lem m (n ∷ ms) b (Memᴰ.tail i) h = issued_in_lem m ms b i h.1
  issued_in_lem m [] b x'' h = elim x'' [ ]

  -- what an honest line carries was issued, by whichever reading
  not_forged : (v w : World) (t : LineTurn) → Alike v w → AllIssued (carried_memoranda D v.registers (asked t)) v.book
      → Forged D w t → ⊥
  not_forged v w t a h f =
      let i = subst (λ (r : Registers). Memᴰ f.memorandum (carried_memoranda D r (asked t))) (sym a.registers) f.carries in
      true≢false (sym (issued_in_lem f.memorandum _ v.book i h) ∙ a.issued f.memorandum ∙ f.unissued)

  stays_formed : (k : Dig) (us ts : List LineTurn) → Within (after D k ts).formed (after D k (onwards us ts)).formed
  stays_formed k [] ts s i = i
  stays_formed k (t ∷ us) ts s i = stays_formed k us (t ∷ ts) s (Memᴰ.append_right (told_at D (after D k ts) t).formed i)

  honest_on : (k : Dig) (us ts : List LineTurn) (v : World) → Alike v (after D k ts) → HonestTurns D v us → Ending D k (onwards us ts)
      → Ending D k ts ⊎ Shown D (after D k (onwards us ts)).formed
  honest_on k [] ts v a h e = inl e
  honest_on k (t ∷ us) ts v a h e =
      by_rest (honest_on k us (t ∷ ts) (next D last v t) (alike_next D last of_runs v (after D k ts) t a) h.2 e)
    where
      by_way : Shown D (after D k (t ∷ ts)).formed ⊎ AnyForged D k (t ∷ ts)
          → Ending D k ts ⊎ Shown D (after D k (onwards us (t ∷ ts))).formed
      by_way (inl x) = inr (shown_more _ _ (stays_formed k us (t ∷ ts)) x)
      by_way (inr (inl f)) = absurd (not_forged v (after D k ts) t a h.1 f)
      by_way (inr (inr x)) = inl (forged_ends k ts x)

      by_rest : Ending D k (t ∷ ts) ⊎ Shown D (after D k (onwards us (t ∷ ts))).formed
          → Ending D k ts ⊎ Shown D (after D k (onwards us (t ∷ ts))).formed
      by_rest (inl x) = by_way (ways_out x)
      by_rest (inr x) = inr x

  pub honest_ends_nothing : HonestEndsNothing D
  honest_ends_nothing k ts us h e = honest_on k us ts (latest_first (after D k ts)) (alike_latest (after D k ts)) h e

-- ── before opening, and by it ──

module _ (D : List ℕ → Dig) (D32 : (l : List ℕ) → length (D l) ≡ 32) where
  was_shut : (k : Dig) (ts : List LineTurn) (t : LineTurn) → (after D k (t ∷ ts)).registers.opened ≡ false
      → (after D k ts).registers.opened ≡ false
  was_shut k ts t o = by_open (after D k ts).registers.opened refl
    where
      by_open : (b : Bool) → (after D k ts).registers.opened ≡ b → b ≡ false
      by_open true e = absurd (true≢false (sym (stays_open D D32 (after D k ts) t e) ∙ o))
      by_open false e = refl

  shut_not_forged : (k : Dig) (ts : List LineTurn) (t : LineTurn) → (after D k ts).registers.opened ≡ false → Forged D (after D k ts) t → ⊥
  shut_not_forged k ts t o f =
      let none = (at_shut D D32 k (after D k ts) t (side D D32 k ts) o).carries_none f.accepted in
      elim (subst (Memᴰ f.memorandum) none f.carries) [ ]

  none_forged : (k : Dig) (ts : List LineTurn) → (after D k ts).registers.opened ≡ false → AnyForged D k ts → ⊥
  none_forged k [] o x = x
  none_forged k (t ∷ ts) o x =
      let shut = was_shut k ts t o in
      elim x [ inl f ↦ shut_not_forged k ts t shut f | inr y ↦ none_forged k ts shut y ]

  pub not_ended_by_opening : NotEndedByOpening D
  not_ended_by_opening k ts t o e = by_way (ways_out D e)
    where
      none : (after D k (t ∷ ts)).formed ≡ []
      none = rw (at_shut D D32 k (after D k ts) t (side D D32 k ts) o).forms_none ((side D D32 k ts).closed o).formed

      by_way : Shown D (after D k (t ∷ ts)).formed ⊎ AnyForged D k (t ∷ ts) → ⊥
      by_way (inl x) = none_shown D (subst (Shown D) none x)
      by_way (inr (inl f)) = shut_not_forged k ts t o f
      by_way (inr (inr x)) = none_forged k ts o x

  pub not_ended_before_open : NotEndedBeforeOpen D
  not_ended_before_open k [] o e = none_shown D (elim (ways_out D e) [ inl x ↦ x | inr x ↦ absurd x ])
  not_ended_before_open k (t ∷ ts) o e = not_ended_by_opening k ts t (was_shut k ts t o) e
