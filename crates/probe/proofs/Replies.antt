-- The reply by the tests on the line.
use Rattle.std.proofs.Common.{◌≡◌, refl, sym, ap, ◌∙◌, Bool, true, false, List, ◌++◌, ℕ, ◌/◌, ◌%◌, length, take, drop, arith, Option, None, Some, append-nil}
use lib.ListN.{drop_of_length-le}
use Rattle.std.proofs.Math.Seq.{take_at}
use Rattle.seqs.specs.Over.{written, written_fits}
use Rattle.hexadecimal.proofs.Laws.{bytes_length, line_length}
use Rattle.hexadecimal.specs.Hex.{bytes_of, line_of}
use Rattle.sha256.specs.Hash.{sha256}
use Rattle.sha256.proofs.Digests.{sha256_length}
use Rattle.probe.specs.Answer.{is_message, answer_of, message_in, told}

-- a remainder by 2 that is not 1 is 0
pub even : (n : ℕ) → (n % 2 ≡ 1 → ⊥) → n % 2 ≡ 0
even n h = omega arith

none_by : (room : ℕ) (line : List ℕ) (b : Bool) → is_message room line ≡ b → message_in room line ≡ None → answer_of room line ≡ told None
unfolding message_in answer_of
none_by room line true e h = let z : ◌≡◌ {A = Option ℕ} (Some (length line / 2)) None = sym (rw e) ∙ h in cc
none_by room line false e h = rw e

pub no_message : (room : ℕ) (line : List ℕ) → message_in room line ≡ None → answer_of room line ≡ told None
no_message room line = none_by room line (is_message room line) refl

-- m is the space that the message was read into, and said that of its digest's line
message_by : (room n : ℕ) (line d m reply said : List ℕ) (b : Bool) → is_message room line ≡ b → message_in room line ≡ Some n
    → m ≡ bytes_of line ++ drop n d → length reply ≡ 65 → said ≡ written (line_of (sha256 (take n m))) reply → said ≡ answer_of room line
unfolding message_in answer_of
message_by room n line d m reply said false e h g r w = let z : ◌≡◌ {A = Option ℕ} None (Some n) = sym (rw e) ∙ h in cc
message_by room n line d m reply said true e h g r w =
    let z : ◌≡◌ {A = Option ℕ} (Some (length line / 2)) (Some n) = sym (rw e) ∙ h in
    let k : length line / 2 ≡ n = cc in
    let b = bytes_of line in
    let taken : take n m ≡ b = ap (take n) g ∙ take_at b (drop n d) n (bytes_length line ∙ k) in
    let long : length (line_of (sha256 b)) ≡ 65 = omega (arith, line_length (sha256 b), sha256_length b) in
    w ∙ ap (λ (x : List ℕ). written (line_of (sha256 x)) reply) taken
    ∙ written_fits (line_of (sha256 b)) reply 65 long (omega arith)
    ∙ ap (λ (x : List ℕ). line_of (sha256 b) ++ x) (drop_of_length-le reply {i = 65} (omega arith)) ∙ append-nil _ ∙ sym (rw e)

pub message : (room n : ℕ) (line d m reply said : List ℕ) → message_in room line ≡ Some n → m ≡ bytes_of line ++ drop n d
    → length reply ≡ 65 → said ≡ written (line_of (sha256 (take n m))) reply → said ≡ answer_of room line
message room n line d m reply said = message_by room n line d m reply said (is_message room line) refl
