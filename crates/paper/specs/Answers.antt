-- The column "answers" of the table of kinds (§5.1.1 to §5.1.16): the reply, the new registers, the strings that the answer
-- forms (§3.7.6), and what the line does beyond its reply (docs/PROTOCOL.md, section 7).
use Rattle.std.specs.Prelude.{true, List, [], ◌∷◌, ◌++◌, ℕ, ◌+◌, eqb, get_or, take, drop}
use Rattle.seqs.specs.Choose.{pick}
use Rattle.seqs.specs.Bytes.{be64, number_of}
use Rattle.paper.specs.declared.Item.{Item}
use Rattle.paper.specs.declared.Record.{Record}
use Rattle.paper.specs.declared.Registers.{Registers}
use Rattle.paper.specs.declared.Finding.{Finding}
use Rattle.paper.specs.declared.Finding.TheVariants.{Recorded, Listed, Gap}
use Rattle.paper.specs.Strings.{Dig, nought, Memo, u1, v1, u2, ei, Str, leaf, nums, numbers, spread, blank, parent_forms, digest_of, memorandum, memorandum_forms, H, fold_up, fold_forms}
use Rattle.paper.specs.Requests.{Request, path, witness, join, pair, raise, swap, first, place, turn, chain, adopt, set_to, clear, ask, ask_none, unlock, record_in}
use Rattle.paper.specs.Refusals.{next_record, cleared_record}

-- ── what a line does beyond its reply ──

-- what an issued memorandum stands for: no change of the list (§7.2.3), an item more (§7.2.1) or less (§7.2.2), the reverse of
-- what another stands for (§7.2.4), or what two stand for, in order (§7.2.5)
pub data ListChange : Type 0 where
  nothing : ListChange
  adds : (A : ℕ) → ListChange
  removes : (A : ℕ) → ListChange
  reverses : (m : Dig) → ListChange
  both_in_order : (m1 m2 : Dig) → ListChange

-- what an accepted line does: nothing (§7.2.8), issue a memorandum (§7.1.1), change the list by one (§7.2.6), change a record (§7.2.7)
pub data Effect : Type 0 where
  none' : Effect
  issues : Memo → ListChange → Effect
  adopts : (m : Dig) → Effect
  changes : (A : ℕ) → Record → Effect

-- ── findings ──

-- §5.2.14, one of three findings: A with its record, A listed with none, or q in the gap
unfoldable pub finding_of : (q A A' : ℕ) → Record → Finding
finding_of q A A' r =
    pick (eqb q A)
    (pick (blank r) (Listed (record { 0 = A })) (Recorded (record { 0 = A }) r))
    (Gap (record { 0 = A }) (record { 0 = A' }))

-- §5.2.14, §10.1.7: a finding's bytes, its number in one byte and then its numbers
abbrev pub finding_bytes : Finding → List ℕ
finding_bytes (Recorded A r) = 1 ∷ spread (nums (A.0 ∷ numbers r))
finding_bytes (Listed A) = 2 ∷ spread (nums (A.0 ∷ []))
finding_bytes (Gap A A') = 3 ∷ spread (nums (A.0 ∷ A'.0 ∷ []))

-- and back: the finding that some bytes show, by the same numbers; of numbers that 8 bytes hold, what was written
-- (`proofs/Findings`)
unfoldable pub finding_in : List ℕ → Finding
finding_in l =
    let first = get_or l 0 0 in
    let A : Item = record { 0 = number_of (take 8 (drop 1 l)) } in
    pick (eqb first 1) (Recorded A (record_in (drop 9 l)))
    (pick (eqb first 2) (Listed A) (Gap A (record { 0 = number_of (take 8 (drop 9 l)) })))

-- ── registers ──

-- one register changed, and every other as it was
abbrev pub rooted : Registers → Dig → Registers
rooted s y = record { root = y; counter = s.counter; secret = s.secret; opened = s.opened }

abbrev pub counted_up : Registers → Registers
counted_up s = record { root = s.root; counter = record { 0 = s.counter.0 + 1 }; secret = s.secret; opened = s.opened }

abbrev pub with_secret : Registers → Dig → Registers
with_secret s k = record { root = s.root; counter = s.counter; secret = k; opened = s.opened }

abbrev pub shown_open : Registers → Registers
shown_open s = record { root = s.root; counter = s.counter; secret = s.secret; opened = true }

-- another root and the counter raised (§5.2.11); the secret handed in (§1.2.4)
abbrev pub raised : Registers → Dig → Registers
raised s y = counted_up (rooted s y)

abbrev pub unlocked : Registers → Dig → Registers
unlocked s k = shown_open (with_secret s k)

-- ── answers ──
pub record AnswerParts : Type 0 where
  pub lists : List ℕ
  pub after : Registers
  pub forms : List Str
  pub effect : Effect

module _ (D : List ℕ → Dig) where
  -- an answer that lists some digests and then the memorandum that it issues, which is its 32 bytes (§5.2.15)
  abbrev pub answer_issuing : Registers → (shown : List ℕ) (before : List Str) → Memo → ListChange → AnswerParts
  answer_issuing s shown before t c =
      record {
        lists = shown ++ memorandum D t s.secret;
        after = s;
        forms = memorandum_forms D t s.secret ++ before;
        effect = issues t c;
      }

  abbrev pub answer : Registers → Request → AnswerParts
  answer s (path x x' sides l) =
      let y = fold_up D x sides l in
      let y' = fold_up D x' sides l in
      answer_issuing s (y ++ y') (fold_forms D x' sides l ++ fold_forms D x sides l) (u1 x y x' y') nothing
  answer s (witness x y m) = answer_issuing s [] [] (v1 x y) nothing
  answer s (join x y x' y' m1 z z' m2) = answer_issuing s [] [] (u1 x z x' z') nothing
  answer s (pair x1 y x1' y' m1 x2 z x2' z' m2) =
      answer_issuing s [] (parent_forms y' z' ++ parent_forms y z) (u2 x1 x2 (H D y z) x1' x2' (H D y' z')) nothing
  answer s (raise x1 x2 y x1' x2' y' m1 z z' m2) = answer_issuing s [] [] (u2 x1 x2 z x1' x2' z') nothing
  answer s (swap x1 x2 y y' m) = answer_issuing s [] [] (ei y y') nothing
  answer s (first A) = answer_issuing s [] (leaf A A nought ∷ []) (ei nought (digest_of D (leaf A A nought))) (adds A)
  answer s (place A A' B' ω y y' m) = answer_issuing s [] [] (ei y y') (removes A')
  answer s (turn x y m) = answer_issuing s [] [] (ei y x) (reverses m)
  answer s (chain x y m1 z m2) = answer_issuing s [] [] (ei x z) (both_in_order m1 m2)
  answer s (adopt y y' m) = record { lists = y'; after = rooted s y'; forms = []; effect = adopts m }
  answer s (set_to A A' old v y y' m) =
      record {
        lists = y' ++ be64 (s.counter.0 + 1);
        after = raised s y';
        forms = [];
        effect = changes A (next_record s v);
      }
  answer s (clear A A' old y y' m) =
      record {
        lists = y' ++ be64 (s.counter.0 + 1);
        after = raised s y';
        forms = [];
        effect = changes A cleared_record;
      }
  answer s (ask q A A' r y m) =
      record { lists = finding_bytes (finding_of q A A' r); after = s; forms = []; effect = none' }
  answer s (ask_none q) = record { lists = be64 q; after = s; forms = []; effect = none' }
  answer s (unlock k) = record { lists = []; after = unlocked s k; forms = []; effect = none' }
