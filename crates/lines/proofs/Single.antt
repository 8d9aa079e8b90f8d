-- Two outcomes are equal: what is told in numbers tells the kind, the refusal and the whole outcome.
use mathlib.Core.Path.{◌≡◌, refl, sym, ap, ◌∙◌}
use mathlib.Core.List.{[], ◌∷◌}
use Prim.Native.Nat.{ℕ}
use lib.ListN.{get_or}
use Rattle.std.specs.Prelude.{Option, None, Some, Result, Ok, Err}
use Rattle.paper.specs.declared.Kind.{Kind}
use Rattle.paper.specs.declared.Refusal.{Refusal}
use Rattle.paper.specs.Numbers.{refusal_number, kind_number}
use Rattle.lines.specs.declared.Frame as Declared
use Rattle.lines.specs.Reading.{Read, Wrote, read_told, frame_after, wrote_told, line_after, number_or_zero}
use Rattle.lines.specs.Laws.{OneReading, OneWriting, OneRefusal}

-- ── the numbers are pairwise different: each has one kind, and one refusal ──

abbrev kind_at : ℕ → Kind
kind_at n =
    get_or
    (Kind.Path ∷ Kind.Path ∷ Kind.Witness ∷ Kind.Join ∷ Kind.Pair ∷ Kind.Raise ∷ Kind.Swap ∷ Kind.First ∷ Kind.Place ∷ Kind.Turn ∷ Kind.Chain
    ∷ Kind.Adopt ∷ Kind.Set ∷ Kind.Clear ∷ Kind.Ask ∷ Kind.AskNone ∷ Kind.Open ∷ [])
    n Kind.Path

numbered_kind : (k : Kind) → kind_at (kind_number k) ≡ k
numbered_kind Kind.Path = refl
numbered_kind Kind.Witness = refl
numbered_kind Kind.Join = refl
numbered_kind Kind.Pair = refl
numbered_kind Kind.Raise = refl
numbered_kind Kind.Swap = refl
numbered_kind Kind.First = refl
numbered_kind Kind.Place = refl
numbered_kind Kind.Turn = refl
numbered_kind Kind.Chain = refl
numbered_kind Kind.Adopt = refl
numbered_kind Kind.Set = refl
numbered_kind Kind.Clear = refl
numbered_kind Kind.Ask = refl
numbered_kind Kind.AskNone = refl
numbered_kind Kind.Open = refl

pub one_kind : (k k' : Kind) → kind_number k ≡ kind_number k' → k ≡ k'
one_kind k k' e = sym (numbered_kind k) ∙ ap kind_at e ∙ numbered_kind k'

abbrev told_at : ℕ → Option Refusal
told_at n =
    get_or
    (None ∷ Some Refusal.Line ∷ Some Refusal.Kind ∷ Some Refusal.Frame ∷ Some Refusal.Zero ∷ Some Refusal.Malformed ∷ Some Refusal.Gap
    ∷ Some Refusal.Top ∷ Some Refusal.First ∷ Some Refusal.Second ∷ Some Refusal.Stale ∷ Some Refusal.Empty ∷ Some Refusal.Secret
    ∷ Some Refusal.Unopened ∷ Some Refusal.Opened ∷ Some Refusal.Room ∷ Some Refusal.Mass ∷ [])
    n None

numbered_refusal : (e : Refusal) → told_at (refusal_number e) ≡ Some e
numbered_refusal Refusal.Line = refl
numbered_refusal Refusal.Kind = refl
numbered_refusal Refusal.Frame = refl
numbered_refusal Refusal.Zero = refl
numbered_refusal Refusal.Malformed = refl
numbered_refusal Refusal.Gap = refl
numbered_refusal Refusal.Top = refl
numbered_refusal Refusal.First = refl
numbered_refusal Refusal.Second = refl
numbered_refusal Refusal.Stale = refl
numbered_refusal Refusal.Empty = refl
numbered_refusal Refusal.Secret = refl
numbered_refusal Refusal.Unopened = refl
numbered_refusal Refusal.Opened = refl
numbered_refusal Refusal.Room = refl
numbered_refusal Refusal.Mass = refl

numbered_told : (o : Option Refusal) → told_at (number_or_zero o) ≡ o
numbered_told None = refl
numbered_told (Some e) = numbered_refusal e

pub one_refusal : OneRefusal
one_refusal o o' e = sym (numbered_told o) ∙ ap told_at e ∙ numbered_told o'

pub one_number : (e e' : Refusal) → refusal_number e ≡ refusal_number e' → e ≡ e'
one_number e e' h = let s : Some e ≡ Some e' = one_refusal (Some e) (Some e') h in cc

-- ── so what is told is told of one outcome ──

read_once : (r r' : Result Declared.Frame Refusal) → read_told r ≡ read_told r' → r ≡ r'
read_once (Ok f) (Ok f') h =
    let k : kind_number f.kind ≡ kind_number f'.kind = cc in
    let n : f.length ≡ f'.length = cc in
    let same = one_kind f.kind f'.kind k in
    λ i. Ok (record { kind = same i; length = n i })
read_once (Ok f) (Err e) h = cc
read_once (Err e) (Ok f) h = cc
read_once (Err e) (Err e') h =
    let k : refusal_number e ≡ refusal_number e' = cc in
    ap (λ (x : Refusal). Err x) (one_number e e' k)

wrote_once : (r r' : Result ℕ Refusal) → wrote_told r ≡ wrote_told r' → r ≡ r'
wrote_once (Ok n) (Ok n') h = cc
wrote_once (Ok n) (Err e) h = cc
wrote_once (Err e) (Ok n) h = cc
wrote_once (Err e) (Err e') h =
    let k : refusal_number e ≡ refusal_number e' = cc in
    ap (λ (x : Refusal). Err x) (one_number e e' k)

pub one_reading : OneReading
one_reading line space after after' r r' p p' =
    let told : read_told r ≡ read_told r' = p.returned ∙ sym p'.returned in
    (read_once r r' told, p.left ∙ ap (λ (x : Read). frame_after x line space) told ∙ sym p'.left)

pub one_writing : OneWriting
one_writing frame space after after' r r' p p' =
    let told : wrote_told r ≡ wrote_told r' = p.returned ∙ sym p'.returned in
    (wrote_once r r' told, p.left ∙ ap (λ (x : Wrote). line_after x frame space) told ∙ sym p'.left)
