-- Demand 3, first half: what holds after each line of any run until it has ended.
use Rattle.std.specs.Prelude.{◌≡◌, true, false, ◌⊎◌, ℕ, ◌+◌, length, take, drop}
use mathlib.Core.List.{List, [], ◌∷◌, Memᴰ}
use Rattle.seqs.specs.Bytes.{be64, number_of}
use Rattle.sha256.specs.Hash.{sha256}
use Rattle.hexadecimal.specs.Hex.{bytes_of}
use Rattle.paper.specs.declared.Record.{Record}
use Rattle.paper.specs.declared.Finding.{Finding}
use Rattle.paper.specs.declared.Finding.TheVariants.{Recorded, Listed as Empty, Gap}
use Rattle.paper.specs.Strings.{Dig, empty_record, blank, in_gap, record_hash}
use Rattle.paper.specs.Requests.{kind_of}
use Rattle.paper.specs.Refusals.{cleared_record}
use Rattle.paper.specs.Answers.{Effect, none', issues, adopts, changes, finding_bytes, finding_in}
use Rattle.paper.specs.Module.{unopened}
use Rattle.rings.specs.Trees.{Tree, points, leaves, hash_of, SameLeaves}
use Rattle.rings.specs.Lists.{AscendingFrom, OnList, Unlisted, ring}
use Rattle.rings.specs.Changes.{LegalSteps}
use Rattle.runs.specs.Run.{LineTurn, Items, steps_for, World, told_at, after}
use Rattle.runs.specs.Sizes.{SensibleMass, ItemsFit}
use Rattle.runs.specs.Endings.{Ending}

-- the number q that a question's frame carries behind its kind
abbrev pub question_in : List ℕ → ℕ
question_in f = number_of (take 8 (drop 1 f))

module _ (D : List ℕ → Dig) where
  -- there is a tree with that root, its leaves are one ascending ring (§8.3.1) and hold exactly the replayed list (§8.3.2); the counter
  -- says how many record changes there were (§8.3.3); and what is listed fits lines
  pub record TreeStands (w : World) : Type 0 where
    pub tree : Tree
    pub root : hash_of D tree ≡ w.registers.root
    pub ascending : AscendingFrom 0 w.items
    pub holds : SameLeaves (leaves tree) (ring (record_hash D) w.items)
    pub fits : ItemsFit w.items
    pub counter : w.registers.counter.0 ≡ w.changed

  -- A and A' are neighbours: the ring has a leaf from A to A'
  abbrev pub Neighbours : (A A' : ℕ) → Items → Type 0
  Neighbours A A' l = (r : Record) × OnList A r l × Memᴰ (points A A' (record_hash D r)) (ring (record_hash D) l)

  -- §8.3.4: an accepted answer is true of the list
  abbrev pub TrueFinding : (q : ℕ) → Finding → Items → Type 0
  TrueFinding q (Recorded A r) l = (q ≡ A.0) × (blank r ≡ false) × OnList A.0 r l
  TrueFinding q (Empty A) l = (q ≡ A.0) × OnList A.0 empty_record l
  TrueFinding q (Gap A A') l = (in_gap q A.0 A'.0 ≡ true) × Unlisted q l × Neighbours A.0 A'.0 l

  -- An accepted question and its reply, as bytes: the line's frame f and what the reply says. An ask is answered by 8e and a
  -- finding, and nothing more, that is true of q; an ask of none by 8f and q, where nothing is listed.
  pub record TrueAnswer (f says : List ℕ) (l : Items) : Type 0 where
    pub ask : kind_of f ≡ 0x0e
        → (says ≡ 0x8e ∷ finding_bytes (finding_in (drop 1 says))) × TrueFinding (question_in f) (finding_in (drop 1 says)) l
    pub ask_of_none : kind_of f ≡ 0x0f → (says ≡ 0x8f ∷ be64 (question_in f)) × (l ≡ [])

  -- each adopted change was legal where it was adopted; a record changes only at a listed item, into one whose revision is the
  -- raised counter and whose mass is not silly (§7.3.4) or into none, and is emptied only where there was one
  abbrev pub LegalEffect : World → Effect → Type 0
  LegalEffect w none' = Unit {0}
  LegalEffect w (issues t c) = Unit {0}
  LegalEffect w (adopts m) = LegalSteps (steps_for m w.book) w.items
  LegalEffect w (changes A r) =
      (s : Record) × OnList A s w.items × (blank r ≡ true → blank s ≡ false)
      × (((r.revision.0 ≡ w.registers.counter.0 + 1) × SensibleMass r.mass.0) ⊎ (r ≡ cleared_record))

  -- one line at its world
  pub record FairLine (w : World) (t : LineTurn) : Type 0 where
    pub true_answer : (told_at D w t).refusal ≡ 0 → TrueAnswer (bytes_of t.line) (told_at D w t).says w.items
    pub legal : LegalEffect w (told_at D w t).effect

  -- every line so far
  abbrev pub AllFair : (secret : Dig) → List LineTurn → Type 0
  AllFair k [] = Unit {0}
  AllFair k (t ∷ ts) = FairLine (after D k ts) t × AllFair k ts

  -- before opening nothing is formed, issued or changed
  pub record Untouched (secret : Dig) (w : World) : Type 0 where
    pub registers : w.registers ≡ unopened secret
    pub formed : w.formed ≡ []
    pub issued : w.book ≡ []
    pub listed : w.items ≡ []
    pub changed : w.changed ≡ 0

  pub record SafeRun (secret : Dig) (ts : List LineTurn) : Type 0 where
    pub stands : TreeStands (after D secret ts)
    pub fair : AllFair secret ts
    pub closed : (after D secret ts).registers.opened ≡ false → Untouched secret (after D secret ts)

  -- after any lines, however damaged
  abbrev pub SafeOrEnded : Type 0
  SafeOrEnded = (secret : Dig) (ts : List LineTurn) → Ending D secret ts ⊎ SafeRun secret ts

-- for SHA-256, and for any digest of 32 bytes
pub record Safety : Type 0 where
  pub at_sha256 : SafeOrEnded sha256
  pub at_any : (D : List ℕ → Dig) → ((l : List ℕ) → length (D l) ≡ 32) → SafeOrEnded D
