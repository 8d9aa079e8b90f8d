-- Wishes as people write them: a name and its numbers, decimal, one space between any two.
use Rattle.std.specs.Prelude.{List, [], ◌∷◌, ◌++◌, Option, Some, None, ℕ, eqb}
use Rattle.seqs.specs.Choose.{pick}
use Rattle.seqs.specs.Bytes.{same}
use Rattle.decimals.specs.Decimals.{decimal_in}
use Rattle.wishes.specs.declared.Wish.TheVariants.{Insert, Remove, Set, Clear, Ask}
use Rattle.words.specs.declared.Word.{Word}
use Rattle.words.specs.declared.Word.TheVariants.{Wish, Counter}

-- ── the words of a line ──

-- bytes in front of the first of some words
abbrev pub before : List ℕ → List (List ℕ) → List (List ℕ)
before p [] = p ∷ []
before p (w ∷ ws) = (p ++ w) ∷ ws

-- a line cut at each space; there is a word, if only an empty one, before, between and behind them
abbrev pub words_of : List ℕ → List (List ℕ)
words_of [] = [] ∷ []
words_of (c ∷ l) = pick (eqb c 32) ([] ∷ words_of l) (before (c ∷ []) (words_of l))

-- ── names ──

-- insert, remove, set, clear, ask and counter
abbrev pub insert_name : List ℕ
insert_name = 105 ∷ 110 ∷ 115 ∷ 101 ∷ 114 ∷ 116 ∷ []

abbrev pub remove_name : List ℕ
remove_name = 114 ∷ 101 ∷ 109 ∷ 111 ∷ 118 ∷ 101 ∷ []

abbrev pub set_name : List ℕ
set_name = 115 ∷ 101 ∷ 116 ∷ []

abbrev pub clear_name : List ℕ
clear_name = 99 ∷ 108 ∷ 101 ∷ 97 ∷ 114 ∷ []

abbrev pub ask_name : List ℕ
ask_name = 97 ∷ 115 ∷ 107 ∷ []

abbrev pub counter_name : List ℕ
counter_name = 99 ∷ 111 ∷ 117 ∷ 110 ∷ 116 ∷ 101 ∷ 114 ∷ []

-- ── what they say ──

abbrev pub by_name : (name : List ℕ) → ℕ → Option Word
by_name v n =
    pick (same v insert_name) (Some (Wish (Insert (record { 0 = n }))))
    (pick (same v remove_name) (Some (Wish (Remove (record { 0 = n }))))
    (pick (same v clear_name) (Some (Wish (Clear (record { 0 = n }))))
    (pick (same v ask_name) (Some (Wish (Ask (record { 0 = n }))))
    (pick (same v counter_name) (Some (Counter (record { 0 = n })))
    None))))

-- by a number, where there is one
abbrev pub given : Option ℕ → (ℕ → Option Word) → Option Word
given (Some n) f = f n
given None f = None

abbrev pub by_one : (name : List ℕ) → Option ℕ → Option Word
by_one v d = given d (by_name v)

-- an item, and the mass, the offset and the rigging code that it is to have
abbrev pub setting : (A mass offset rigging : ℕ) → Option Word
setting A m o r =
    Some (Wish (Set (record { 0 = A }) (record { mass = record { 0 = m }; offset = record { 0 = o }; rigging = record { 0 = r } })))

abbrev pub setting_of : (a mass offset rigging : Option ℕ) → Option Word
setting_of a b c d = given a (λ n. given b (λ m. given c (λ o. given d (λ r. setting n m o r))))

abbrev pub by_four : (name : List ℕ) (a mass offset rigging : Option ℕ) → Option Word
by_four v a b c d = pick (same v set_name) (setting_of a b c d) None

abbrev pub saying_of : List (List ℕ) → Option Word
saying_of [] = None
saying_of (v ∷ []) = None
saying_of (v ∷ a ∷ []) = by_one v (decimal_in a)
saying_of (v ∷ a ∷ b ∷ []) = None
saying_of (v ∷ a ∷ b ∷ c ∷ []) = None
saying_of (v ∷ a ∷ b ∷ c ∷ d ∷ []) = by_four v (decimal_in a) (decimal_in b) (decimal_in c) (decimal_in d)
saying_of (v ∷ a ∷ b ∷ c ∷ d ∷ e ∷ ws) = None

-- a line, without its 0A
unfoldable pub word_in : List ℕ → Option Word
word_in l = saying_of (words_of l)
