-- Choices by a test, for definitions that go by `ltb`, `leb` and `eqb` as papers go by "if"; what holds of every element of a list;
-- and what is left where a `match` has an arm for each of some numbers in a row.
use Rattle.std.specs.Prelude.{Bool, true, false, ◌&&◌, ◌≡◌, refl, List, [], ◌∷◌, ℕ, zero, suc, ◌+◌, ◌≤◌}
use Rattle.std.proofs.Common.{arith}

-- the first of two where the test is true, else the second
abbrev pub pick {ℓ} : {A : Type ℓ} → Bool → A → A → A
pick true a b = a
pick false a b = b

-- one of two tests is true
abbrev pub either : Bool → Bool → Bool
either true b = true
either false b = b

-- the test is false
abbrev pub opposite : Bool → Bool
opposite true = false
opposite false = true

-- both tests are true
abbrev pub both : Bool → Bool → Bool
both true b = b
both false b = false

pub both_true : (p q : Bool) → both p q ≡ true → (p ≡ true) × (q ≡ true)
both_true true q h = (refl, h)
both_true false q h = (h, cc)

-- the library's word for it
pub both_and : (p q : Bool) → (p && q) ≡ both p q
both_and true q = refl
both_and false q = refl

pub both_right : (p : Bool) → both p true ≡ p
both_right true = refl
both_right false = refl

pub both_no : (p : Bool) → both p false ≡ false
both_no true = refl
both_no false = refl

pub either_yes : (p : Bool) → either p true ≡ true
either_yes true = refl
either_yes false = refl

pub either_no : (p : Bool) → either p false ≡ p
either_no true = refl
either_no false = refl

-- ── facts in a row ──

infixr 30 ◌and◌
-- one, and then the others: a proof of nested pairs without their brackets
pub ◌and◌ : {A B : Type 0} → A → B → A × B
a and b = (a, b)

-- something holds of every element of a list, as a table's statement of each of its rows
abbrev pub Every : {A : Type 0} → (A → Type 0) → List A → Type 0
Every P [] = Unit {0}
Every P (x ∷ l) = P x × Every P l

-- k is none of the n numbers from `first` on, as the last arm of such a `match` has it
abbrev pub NoneOf : (first n k : ℕ) → Type 0
NoneOf first zero k = Unit {0}
NoneOf first (suc n) k = NoneOf first n k × (k ≡ first + n → ⊥)

pub past_all : (first n k : ℕ) → NoneOf first n k → first ≤ k → first + n ≤ k
past_all first zero k b h = omega arith
past_all first (suc n) k b h = let past = past_all first n k b.0 h in omega (arith, b.1)
