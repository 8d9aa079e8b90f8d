-- What people are told: the bytes of each line, which begins with `# ` and ends with 0A.
use Rattle.std.specs.Prelude.{List, [], ◌∷◌, ◌++◌, ℕ}
use Rattle.paper.specs.declared.Finding.{Finding}
use Rattle.paper.specs.declared.Finding.TheVariants.{Recorded, Listed, Gap}
use Rattle.paper.specs.Strings.{numbers}
use Rattle.decimals.specs.Spelling.{numeral_of}
use Rattle.wishes.specs.Words.{word_name}
use Rattle.words.specs.declared.Telling.{Telling}
use Rattle.words.specs.declared.Telling.TheVariants.{Done, Found, NoItem, Refused, ModuleRefused, Otherwise, What}

-- ── a text and numbers ──

-- a space and a number behind a text
abbrev pub with_number : List ℕ → ℕ → List ℕ
with_number t n = (t ++ (32 ∷ [])) ++ numeral_of n

abbrev pub numbered : List ℕ → List ℕ → List ℕ
numbered t [] = t
numbered t (n ∷ ns) = numbered (with_number t n) ns

abbrev pub ended : List ℕ → List ℕ
ended t = t ++ (10 ∷ [])

-- ── the words ──

-- `# done`
abbrev pub done_text : List ℕ
done_text = 35 ∷ 32 ∷ 100 ∷ 111 ∷ 110 ∷ 101 ∷ []

-- `# record`
abbrev pub record_text : List ℕ
record_text = 35 ∷ 32 ∷ 114 ∷ 101 ∷ 99 ∷ 111 ∷ 114 ∷ 100 ∷ []

-- `# empty`
abbrev pub empty_text : List ℕ
empty_text = 35 ∷ 32 ∷ 101 ∷ 109 ∷ 112 ∷ 116 ∷ 121 ∷ []

-- `# gap`
abbrev pub gap_text : List ℕ
gap_text = 35 ∷ 32 ∷ 103 ∷ 97 ∷ 112 ∷ []

-- `# none`
abbrev pub none_text : List ℕ
none_text = 35 ∷ 32 ∷ 110 ∷ 111 ∷ 110 ∷ 101 ∷ []

-- `# refused `
abbrev pub refused_text : List ℕ
refused_text = 35 ∷ 32 ∷ 114 ∷ 101 ∷ 102 ∷ 117 ∷ 115 ∷ 101 ∷ 100 ∷ 32 ∷ []

-- `# module refused`
abbrev pub module_text : List ℕ
module_text = 35 ∷ 32 ∷ 109 ∷ 111 ∷ 100 ∷ 117 ∷ 108 ∷ 101 ∷ 32 ∷ 114 ∷ 101 ∷ 102 ∷ 117 ∷ 115 ∷ 101 ∷ 100 ∷ []

-- `# module spoke otherwise`
abbrev pub otherwise_text : List ℕ
otherwise_text =
    35 ∷ 32 ∷ 109 ∷ 111 ∷ 100 ∷ 117 ∷ 108 ∷ 101 ∷ 32 ∷ 115 ∷ 112 ∷ 111 ∷ 107 ∷ 101 ∷ 32
    ∷ 111 ∷ 116 ∷ 104 ∷ 101 ∷ 114 ∷ 119 ∷ 105 ∷ 115 ∷ 101 ∷ []

-- `# what?`
abbrev pub what_text : List ℕ
what_text = 35 ∷ 32 ∷ 119 ∷ 104 ∷ 97 ∷ 116 ∷ 63 ∷ []

-- ── what is told ──

abbrev pub found_text : Finding → List ℕ
found_text (Recorded A r) = numbered record_text (A.0 ∷ numbers r)
found_text (Listed A) = numbered empty_text (A.0 ∷ [])
found_text (Gap A A') = numbered gap_text (A.0 ∷ A'.0 ∷ [])

abbrev pub told_text : Telling → List ℕ
told_text Done = done_text
told_text (Found f) = found_text f
told_text (NoItem q) = numbered none_text (q.0 ∷ [])
told_text (Refused n) = refused_text ++ word_name n
told_text (ModuleRefused n) = numbered module_text (n ∷ [])
told_text Otherwise = otherwise_text
told_text What = what_text

unfoldable pub told : Telling → List ℕ
told t = ended (told_text t)
