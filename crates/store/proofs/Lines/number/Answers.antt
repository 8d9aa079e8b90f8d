-- The bytes of 16 digits are the first eight of those that stand from the place on.
use mathlib.Core.Path.{◌≡◌, refl, sym, ap, ◌∙◌}
use mathlib.Core.List.{List, [], ◌∷◌, append-nil}
use Prim.Native.Nat.{ℕ, zero, suc, ◌+◌, ◌-◌, ◌*◌, ◌≤◌}
use native.Mathlib.Omega.{arith}
use lib.ListN.{length, take, drop, replicate, length-drop, length-take}
use lib.Seq.{take_all}
use Rattle.seqs.specs.Bytes.{number_of, number_at, number_at_lem}
use Rattle.seqs.specs.Over.{written, written_fits}
use Rattle.hexadecimal.specs.Hex.{bytes_of, value_of}
use Rattle.hexadecimal.proofs.Laws.{bytes_length}
use Rattle.store.proofs.Lines.number.Goals as goal

bytes_front : (n m : ℕ) (l : List ℕ) → m ≡ 2 * n → bytes_of (take m l) ≡ take n (bytes_of l)
bytes_front zero m l e = rw e refl
bytes_front (suc n) zero l e = absurd (omega arith)
bytes_front (suc n) (suc zero) l e = absurd (omega arith)
bytes_front (suc n) (suc (suc m)) [] e = refl
bytes_front (suc n) (suc (suc m)) (a ∷ []) e = refl
bytes_front (suc n) (suc (suc m)) (a ∷ b ∷ l) e = ap (λ (x : List ℕ). (16 * value_of a + value_of b) ∷ x) (bytes_front n m l (omega arith))

-- the number at the front of eight bytes and more
number_front : (b : List ℕ) → 8 ≤ length b → number_at (take 8 b) 0 ≡ number_at b 0
number_front b h =
    let long : length (take 8 b) ≡ 8 = simp length-take (omega arith) in
    sym (number_at_lem (take 8 b) 0 (omega (arith, long))) ∙ ap number_of (take_all 8 (take 8 b) (omega (arith, long))) ∙ number_at_lem b 0 h

pub returns : goal.returns
returns c =
    let rest : List ℕ = drop c.args.at c.args.self.now.text.now in
    let sixteen : c.args.at + 16 - c.args.at ≡ 16 = omega arith in
    let many : 16 ≤ length rest = simp length-drop (omega (arith, c.requires)) in
    let b = bytes_of rest in
    let enough : 8 ≤ length b = omega (arith, bytes_length rest, many) in
    let eight : length (take 8 b) ≡ 8 = simp length-take (omega (arith, enough)) in
    let read = c.read.ensures.space_after ∙ ap (λ (n : ℕ). written (bytes_of (take n rest)) (replicate 8 0)) sixteen
    ∙ ap (λ (l : List ℕ). written l (replicate 8 0)) (bytes_front 8 16 rest refl)
    ∙ written_fits (take 8 b) (replicate 8 0) 8 eight (omega arith) ∙ append-nil (take 8 b) in
    c.number_at.ensures ∙ ap (λ (l : List ℕ). number_at l 0) read ∙ number_front b enough
