-- Honest lines (§8.3.8; 7.4): until the run ends, while the module is open and below the counter's top, every legal wish has lines
-- that are accepted and do just that.
--
-- `Grantable` says that there are such lines: `AllGrantable` at any world that a tree stands for, `LiveOrEnded` after any run until
-- it has ended. Believing those takes nothing of `Frames`, `Ways`, `Honest` and `TreesAfter`; that their functions give such lines is
-- a law of its own, `FunctionsGrant`.
use Rattle.std.specs.Prelude.{◌≡◌, true, List, [], ◌∷◌, reverse, ◌⊎◌, ℕ, ◌≤◌, ◌<◌, length}
use Rattle.seqs.specs.Bytes.{Bytes, be64}
use Rattle.sha256.specs.Hash.{sha256}
use Rattle.hexadecimal.specs.Hex.{bytes_of}
use Rattle.paper.specs.declared.Finding.{Finding}
use Rattle.paper.specs.Strings.{Dig}
use Rattle.paper.specs.Requests.{request_of}
use Rattle.paper.specs.Refusals.{reply_room, top, carried_memoranda}
use Rattle.paper.specs.Answers.{finding_bytes}
use Rattle.rings.specs.Trees.{Tree, hash_of}
use Rattle.runs.specs.Run.{LineTurn, Items, last, Issue, is_issued, World, told_at, next, after}
use Rattle.runs.specs.Endings.{Ending}
use Rattle.runs.specs.Safety.{TreeStands, TrueFinding}
use Rattle.runs.specs.Wishes.{Wish, insert_item, remove_item, swap_places, set_record, clear_record, ask_about, LegalWish}
use Rattle.runs.specs.Outcomes.{items_after, registers_after, LeavesMoved}
use Rattle.runs.specs.Frames.{lines_of}
use Rattle.runs.specs.Honest.{honest_lines}
use Rattle.runs.specs.TreesAfter.{tree_after}

-- §7.4.3: each memorandum read by the last line that issued it, so the same world, its book with the latest line first
abbrev pub latest_first : World → World
latest_first w =
    record {
      registers = w.registers;
      formed = w.formed;
      book = reverse w.book;
      items = w.items;
      changed = w.changed;
    }

-- all of some memoranda are in a book: they were issued (§7.4.1)
abbrev pub AllIssued : List Dig → List Issue → Type 0
AllIssued [] b = Unit {0}
AllIssued (m ∷ ms) b = (is_issued m b ≡ true) × AllIssued ms b

-- §7.4.4: turns that take these lines, each with reply space of 195 bytes or more
abbrev pub Spaced : (lines : List (List ℕ)) → List LineTurn → Type 0
Spaced [] [] = Unit {0}
Spaced [] (t ∷ us) = ⊥
Spaced (l ∷ ls) [] = ⊥
Spaced (l ∷ ls) (t ∷ us) = (t.line ≡ l) × (reply_room ≤ t.space) × Spaced ls us

module _ (D : List ℕ → Dig) where
  -- ── lines fed in turn ──

  abbrev pub fed : World → List LineTurn → World
  fed w [] = w
  fed w (t ∷ ts) = fed (next D last w t) ts

  -- each is accepted where it comes, and carries only memoranda issued before it
  abbrev pub HonestTurns : World → List LineTurn → Type 0
  HonestTurns w [] = Unit {0}
  HonestTurns w (t ∷ ts) =
      ((told_at D w t).refusal ≡ 0) × AllIssued (carried_memoranda D w.registers (request_of (bytes_of t.line))) w.book
      × HonestTurns (next D last w t) ts

  -- the reply to the last of them, as bytes
  abbrev pub last_reply : World → List LineTurn → List ℕ
  last_reply w [] = []
  last_reply w (t ∷ []) = (told_at D w t).says
  last_reply w (t ∷ u ∷ ts) = last_reply (next D last w t) (u ∷ ts)

  -- ── what is wanted ──

  -- a reply to a question on q that is true of the list
  pub data TrueReply (q : ℕ) (l : Items) (says : List ℕ) : Type 0 where
    finding_given : (f : Finding) → TrueFinding D q f l → says ≡ 0x8e ∷ finding_bytes f → TrueReply q l says
    nothing_listed : l ≡ [] → says ≡ 0x8f ∷ be64 q → TrueReply q l says

  -- changes only have to be done
  abbrev pub AnsweredTruly : Wish → Items → (says : List ℕ) → Type 0
  AnsweredTruly (insert_item A) l says = Unit {0}
  AnsweredTruly (remove_item A) l says = Unit {0}
  AnsweredTruly (swap_places A B) l says = Unit {0}
  AnsweredTruly (set_record A v) l says = Unit {0}
  AnsweredTruly (clear_record A) l says = Unit {0}
  AnsweredTruly (ask_about q) l says = TrueReply q l says

  -- Turns that do just what is wanted at a world that the tree T stands for: a tree stands for the list again, the list, the
  -- registers and the places of leaves are those of `Outcomes`, and a question is answered truly.
  pub record GrantsWish (w : World) (T : Tree) (x : Wish) (us : List LineTurn) : Type 0 where
    pub honest : HonestTurns w us
    pub items : (fed w us).items ≡ items_after w.registers w.items x
    pub stands : TreeStands D (fed w us)
    pub registers : (fed w us).registers ≡ registers_after w.registers (hash_of D stands.tree) x
    pub moved : LeavesMoved x T stands.tree
    pub answered : AnsweredTruly x w.items (last_reply w us)

  -- ── there are such lines ──

  -- lines as bytes, without their 0A, that do so whatever their reply spaces
  pub record Grantable (w : World) (T : Tree) (x : Wish) : Type 0 where
    pub lines : List (List ℕ)
    pub grant : (us : List LineTurn) → Spaced lines us → GrantsWish w T x us

  -- at any world that a tree stands for, however it came about
  abbrev pub AllGrantable : Type 0
  AllGrantable =
      (w : World) (s : TreeStands D w) → w.registers.opened ≡ true → w.registers.counter.0 < top → (x : Wish)
      → LegalWish w.items x → Grantable (latest_first w) s.tree x

  -- after any run: a tree stands for the world, and from every such tree every legal wish is granted
  pub record LiveAt (w : World) : Type 0 where
    pub stands : TreeStands D w
    pub grants : (s : TreeStands D w) (x : Wish) → LegalWish w.items x → Grantable (latest_first w) s.tree x

  abbrev pub LiveOrEnded : Type 0
  LiveOrEnded =
      (secret : Dig) (ts : List LineTurn) → (after D secret ts).registers.opened ≡ true
      → (after D secret ts).registers.counter.0 < top → Ending D secret ts ⊎ LiveAt (after D secret ts)

  -- ── functions that give them ──

  -- the honest lines for a wish, from a world and a tree that stands for it
  abbrev pub lines_for : World → Tree → Wish → List (List ℕ)
  lines_for w T x = lines_of (honest_lines D w.registers T w.items x)

  -- they grant it, and the tree after them is that of `TreesAfter`
  pub record Granted (w : World) (T : Tree) (x : Wish) (us : List LineTurn) : Type 0 where
    pub grants : GrantsWish w T x us
    pub tree : grants.stands.tree ≡ tree_after D w.registers T w.items x

  abbrev pub FunctionsGrant : Type 0
  FunctionsGrant =
      (w : World) (s : TreeStands D w) → w.registers.opened ≡ true → w.registers.counter.0 < top → (x : Wish)
      → LegalWish w.items x → (us : List LineTurn) → Spaced (lines_for (latest_first w) s.tree x) us
      → Granted (latest_first w) s.tree x us

  pub record LivenessFor : Type 0 where
    pub anywhere : AllGrantable
    pub after_runs : LiveOrEnded
    pub by_functions : FunctionsGrant

-- for SHA-256, and for any digest of 32 bytes; and any lines can be taken with such spaces, so that `Grantable` says something
pub record Liveness : Type 0 where
  pub at_sha256 : LivenessFor sha256
  pub at_any : (D : List ℕ → Dig) → ((l : List ℕ) → length (D l) ≡ 32) → ((l : List ℕ) → Bytes (D l)) → LivenessFor D
  pub taken : (lines : List (List ℕ)) → (us : List LineTurn) × Spaced lines us
