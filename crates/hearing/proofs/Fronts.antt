-- The numbers of kinds and refusals; and a reply beside known bytes.
use Rattle.std.proofs.Common.{◌≡◌, refl, ap, ◌∙◌, ℕ, zero, suc, ◌+◌, ◌<◌, ◌≤◌, Bool, true, false, Some, None, Result, Ok, Err, List, length, take, drop, slice_index_or, arith, length-take, nat_eq}
use Rattle.std.specs.Result.{result_ok}
use lib.Seq.{get_or-take}
use Rattle.seqs.specs.Choose.{both}
use Rattle.seqs.specs.Bytes.{same, same_step, same_end}
use Rattle.paper.specs.declared.Kind.{Kind}
use Rattle.paper.specs.declared.Refusal.{Refusal}
use Rattle.paper.specs.declared.NotListed.{NotListed}
use Rattle.paper.specs.Refusals.{order}
use Rattle.paper.specs.Numbers.{kind_number, refusal_number, is_one_of, RefusalOf}
use Rattle.hearing.specs.Awaiting.{refusal_of}

pub few_kinds : (k : Kind) → kind_number k ≤ 16
few_kinds Kind.Path = omega arith
few_kinds Kind.Witness = omega arith
few_kinds Kind.Join = omega arith
few_kinds Kind.Pair = omega arith
few_kinds Kind.Raise = omega arith
few_kinds Kind.Swap = omega arith
few_kinds Kind.First = omega arith
few_kinds Kind.Place = omega arith
few_kinds Kind.Turn = omega arith
few_kinds Kind.Chain = omega arith
few_kinds Kind.Adopt = omega arith
few_kinds Kind.Set = omega arith
few_kinds Kind.Clear = omega arith
few_kinds Kind.Ask = omega arith
few_kinds Kind.AskNone = omega arith
few_kinds Kind.Open = omega arith

-- ── the refusal of a number ──

refusal_numbered : (r : Refusal) → Some r ≡ refusal_of (refusal_number r)
refusal_numbered Refusal.Line = refl
refusal_numbered Refusal.Kind = refl
refusal_numbered Refusal.Frame = refl
refusal_numbered Refusal.Zero = refl
refusal_numbered Refusal.Malformed = refl
refusal_numbered Refusal.Gap = refl
refusal_numbered Refusal.Top = refl
refusal_numbered Refusal.First = refl
refusal_numbered Refusal.Second = refl
refusal_numbered Refusal.Stale = refl
refusal_numbered Refusal.Empty = refl
refusal_numbered Refusal.Secret = refl
refusal_numbered Refusal.Unopened = refl
refusal_numbered Refusal.Opened = refl
refusal_numbered Refusal.Room = refl
refusal_numbered Refusal.Mass = refl

none_listed : (n : ℕ) → is_one_of order n ≡ false → None ≡ refusal_of n
none_listed zero h = refl
none_listed (suc zero) h = cc
none_listed (suc (suc zero)) h = cc
none_listed (suc (suc (suc zero))) h = cc
none_listed (suc (suc (suc (suc zero)))) h = cc
none_listed (suc (suc (suc (suc (suc zero))))) h = cc
none_listed (suc (suc (suc (suc (suc (suc zero)))))) h = cc
none_listed (suc (suc (suc (suc (suc (suc (suc zero))))))) h = cc
none_listed (suc (suc (suc (suc (suc (suc (suc (suc zero)))))))) h = cc
none_listed (suc (suc (suc (suc (suc (suc (suc (suc (suc zero))))))))) h = cc
none_listed (suc (suc (suc (suc (suc (suc (suc (suc (suc (suc zero)))))))))) h = cc
none_listed (suc (suc (suc (suc (suc (suc (suc (suc (suc (suc (suc zero))))))))))) h = cc
none_listed (suc (suc (suc (suc (suc (suc (suc (suc (suc (suc (suc (suc zero)))))))))))) h = cc
none_listed (suc (suc (suc (suc (suc (suc (suc (suc (suc (suc (suc (suc (suc zero))))))))))))) h = cc
none_listed (suc (suc (suc (suc (suc (suc (suc (suc (suc (suc (suc (suc (suc (suc zero)))))))))))))) h = cc
none_listed (suc (suc (suc (suc (suc (suc (suc (suc (suc (suc (suc (suc (suc (suc (suc zero))))))))))))))) h = cc
none_listed (suc (suc (suc (suc (suc (suc (suc (suc (suc (suc (suc (suc (suc (suc (suc (suc zero)))))))))))))))) h = cc
none_listed (suc (suc (suc (suc (suc (suc (suc (suc (suc (suc (suc (suc (suc (suc (suc (suc (suc n))))))))))))))))) h = refl

pub refusal_listed : (n : ℕ) (r : Result Refusal NotListed) → RefusalOf n r → result_ok r ≡ refusal_of n
refusal_listed n (Ok r) h = refusal_numbered r ∙ ap refusal_of h
refusal_listed n (Err e) h = none_listed n h.1

-- ── a comparison, byte by byte ──

module _ (l m : List ℕ) (h : length m ≤ length l) where
  pub front_step : (i : ℕ) (t : Bool) → i < length m → nat_eq (slice_index_or l i 0) (slice_index_or m i 0) ≡ t
      → same (drop i (take (length m) l)) (drop i m) ≡ both t (same (drop (i + 1) (take (length m) l)) (drop (i + 1) m))
  front_step i t less e =
      same_step (take (length m) l) m i t (simp length-take (omega arith)) less (rw (get_or-take (length m) l i 0 less) e)

  pub front_end : (i : ℕ) → length m ≤ i → same (drop i (take (length m) l)) (drop i m) ≡ true
  front_end i g = same_end (take (length m) l) m i (simp length-take (omega arith)) g
