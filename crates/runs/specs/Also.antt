-- What else holds of runs: the root settles the list; both readings of memoranda come to one list, so that honest lines do for
-- the replay of runs what they do by their own reading; the endings are the only way out, and neither opening nor honest lines
-- are one; the book grows by the memoranda that replies list, and each means what it says; what is read by the earliest line stays as
-- that line meant it; and no record on the list has a silly mass.
use Rattle.std.specs.Prelude.{◌≡◌, true, false, List, [], ◌∷◌, ◌++◌, ◌⊎◌, ℕ, ◌-◌, ◌≤◌, ◌<◌, length, drop}
use Rattle.seqs.specs.Choose.{Every}
use Rattle.sha256.specs.Hash.{sha256}
use Rattle.hexadecimal.specs.Hex.{bytes_of}
use Rattle.paper.specs.declared.Record.{Record}
use Rattle.paper.specs.Strings.{Dig, nought, Memo, Str, blank, digest_of, memorandum, memorandum_forms}
use Rattle.paper.specs.Requests.{kind_of}
use Rattle.paper.specs.Collisions.{Collision}
use Rattle.rings.specs.Trees.{Tree}
use Rattle.rings.specs.Lists.{OnList}
use Rattle.rings.specs.Endings.{ZeroDigest}
use Rattle.rings.specs.Meanings.{Within, MemoMeans}
use Rattle.runs.specs.Run.{LineTurn, Items, Issue, steps_for, is_issued, World, told_at, after}
use Rattle.runs.specs.Endings.{Forged, Ending}
use Rattle.runs.specs.Safety.{TreeStands, SafeRun}
use Rattle.runs.specs.Sizes.{SensibleMass}
use Rattle.runs.specs.Wishes.{Wish}
use Rattle.runs.specs.Outcomes.{items_after}
use Rattle.runs.specs.Liveness.{latest_first, fed, HonestTurns, GrantsWish}

-- further lines, in order, behind those of a run, the latest first
abbrev pub onwards : (further run : List LineTurn) → List LineTurn
onwards [] ts = ts
onwards (t ∷ us) ts = onwards us (t ∷ ts)

-- the last bytes of some
abbrev pub last_of : (n : ℕ) → List ℕ → List ℕ
last_of n l = drop (length l - n) l

module _ (D : List ℕ → Dig) where
  -- two different strings with one digest among some, or one whose digest is all zero
  abbrev pub Shown : List Str → Type 0
  Shown F = Collision D F ⊎ ZeroDigest D F

  -- A thing shown is a thing: of a digest that tells every string from every other and is never zero nothing can be shown.
  abbrev pub NothingToShow : Type 0
  NothingToShow =
      ((a b : List ℕ) → D a ≡ D b → a ≡ b) → ((l : List ℕ) → D l ≡ nought → ⊥) → (F : List Str) → Shown F → ⊥

  -- two runs with one root have one list, or one of them has ended, or among the strings that they formed something can be
  -- shown
  abbrev pub RootSettlesList : Type 0
  RootSettlesList =
      (k k' : Dig) (ts us : List LineTurn) → (after D k ts).registers.root ≡ (after D k' us).registers.root
      → (Ending D k ts ⊎ Ending D k' us)
      ⊎ (Shown ((after D k ts).formed ++ (after D k' us).formed) ⊎ ((after D k ts).items ≡ (after D k' us).items))

  -- Any further lines come to the same list whether each memorandum is read by the earliest line that issued it or by the
  -- last, or the run ends. So what honest lines do by the one reading they do by the other, and so does a run from its start.
  abbrev pub ReadingsAgree : Type 0
  ReadingsAgree =
      (k : Dig) (ts us : List LineTurn)
      → Ending D k (onwards us ts) ⊎ ((fed D (latest_first (after D k ts)) us).items ≡ (after D k (onwards us ts)).items)

  -- a line of the run was accepted with a memorandum that no earlier line issued
  abbrev pub AnyForged : (secret : Dig) → List LineTurn → Type 0
  AnyForged k [] = ⊥
  AnyForged k (t ∷ ts) = Forged D (after D k ts) t ⊎ AnyForged k ts

  -- An ending is just that: something shown among the strings formed, or a forged memorandum of some line.
  pub record WaysOut (k : Dig) (ts : List LineTurn) : Type 0 where
    pub only : Ending D k ts → Shown (after D k ts).formed ⊎ AnyForged k ts
    pub each : Shown (after D k ts).formed ⊎ AnyForged k ts → Ending D k ts

  abbrev pub EndingIs : Type 0
  EndingIs = (k : Dig) (ts : List LineTurn) → WaysOut k ts

  -- without a collision or an all-zero digest among the strings formed, and without a forged memorandum, a run is safe
  abbrev pub NoOtherWayOut : Type 0
  NoOtherWayOut =
      (k : Dig) (ts : List LineTurn) → (Shown (after D k ts).formed → ⊥) → (AnyForged k ts → ⊥) → SafeRun D k ts

  -- A run that is not open has not ended, and the line that opens it, or any other line at a module that is not open, does not
  -- end it: so no run of one line has ended, whatever the line is.
  abbrev pub NotEndedBeforeOpen : Type 0
  NotEndedBeforeOpen = (k : Dig) (ts : List LineTurn) → (after D k ts).registers.opened ≡ false → Ending D k ts → ⊥

  abbrev pub NotEndedByOpening : Type 0
  NotEndedByOpening =
      (k : Dig) (ts : List LineTurn) (t : LineTurn) → (after D k ts).registers.opened ≡ false → Ending D k (t ∷ ts) → ⊥

  -- Honest lines end no run: where one has ended behind them, it had before, or something can be shown among the strings.
  abbrev pub HonestEndsNothing : Type 0
  HonestEndsNothing =
      (k : Dig) (ts us : List LineTurn) → HonestTurns D (latest_first (after D k ts)) us → Ending D k (onwards us ts)
      → Ending D k ts ⊎ Shown (after D k (onwards us ts)).formed

  -- Granted wishes seen by the replay of runs, whichever lines grant them: the run had ended before those lines, or among the
  -- strings something can be shown, or behind them the run's own list is the one wanted and a tree stands for it.
  pub record ReplayComesTo (k : Dig) (ts us : List LineTurn) (l : Items) : Type 0 where
    pub items : (after D k (onwards us ts)).items ≡ l
    pub stands : TreeStands D (after D k (onwards us ts))

  abbrev pub HonestReplayed : Type 0
  HonestReplayed =
      (k : Dig) (ts us : List LineTurn) (T : Tree) (x : Wish) → GrantsWish D (latest_first (after D k ts)) T x us
      → Ending D k ts
      ⊎ (Shown (after D k (onwards us ts)).formed
      ⊎ ReplayComesTo k ts us (items_after (after D k ts).registers (after D k ts).items x))

  -- §7.1.2: a memorandum goes on standing for what its earliest line does, whatever lines follow
  abbrev pub EarliestStays : Type 0
  EarliestStays =
      (k : Dig) (ts : List LineTurn) (t : LineTurn) (m : Dig) → is_issued m (after D k ts).book ≡ true
      → steps_for m (after D k (t ∷ ts)).book ≡ steps_for m (after D k ts).book

  -- §7.1.1: an accepted line of kinds 01 to 0a enters one memorandum behind those issued
  -- before, the last 32 bytes of its reply; no other line enters any.
  pub record LineEnters (w : World) (t : LineTurn) (book : List Issue) : Type 0 where
    pub issuing : (told_at D w t).refusal ≡ 0 → kind_of (bytes_of t.line) ≤ 0x0a
        → (i : Issue) × (i.memorandum ≡ last_of 32 (told_at D w t).says) × (book ≡ w.book ++ (i ∷ []))
    pub other : 0x0a < kind_of (bytes_of t.line) → book ≡ w.book
    pub refused : ((told_at D w t).refusal ≡ 0 → ⊥) → book ≡ w.book

  abbrev pub BookGrows : Type 0
  BookGrows = (k : Dig) (ts : List LineTurn) (t : LineTurn) → LineEnters (after D k ts) t (after D k (t ∷ ts)).book

  -- Every memorandum issued so far means what it says: it was made of what it says and a secret, its strings were formed, and what
  -- it says is so by the strings formed, an EI standing for what the line that issued it does; or the run has ended.
  pub record Backed (F : List Str) (i : Issue) : Type 0 where
    pub says : Memo
    pub key : Dig
    pub formed : Within (memorandum_forms D says key) F
    pub memorandum_is : memorandum D says key ≡ i.memorandum
    pub means : MemoMeans (digest_of D) F says i.does

  abbrev pub AllBacked : List Str → List Issue → Type 0
  AllBacked F = Every (Backed F)

  abbrev pub MemorandaMean : Type 0
  MemorandaMean = (k : Dig) (ts : List LineTurn) → Ending D k ts ⊎ AllBacked (after D k ts).formed (after D k ts).book

  -- §5.2.16: every record on the list, where it stands for one at all, has a mass that is not silly, whatever lines were sent, after an
  -- ending too. So no finding that is true of the list shows a silly one.
  abbrev pub MassesSensible : Type 0
  MassesSensible = (k : Dig) (ts : List LineTurn) (A : ℕ) (r : Record) → OnList A r (after D k ts).items → blank r ≡ false
      → SensibleMass r.mass.0

  pub record AlsoFor : Type 0 where
    pub nothing_to_show : NothingToShow
    pub root_settles : RootSettlesList
    pub readings_agree : ReadingsAgree
    pub ending_is : EndingIs
    pub no_other_way_out : NoOtherWayOut
    pub not_ended_before_open : NotEndedBeforeOpen
    pub not_ended_by_opening : NotEndedByOpening
    pub honest_ends_nothing : HonestEndsNothing
    pub honest_replayed : HonestReplayed
    pub book_grows : BookGrows
    pub memoranda_mean : MemorandaMean
    pub earliest_stays : EarliestStays
    pub masses_sensible : MassesSensible

-- for SHA-256, and for any digest of 32 bytes
pub record AlsoHolds : Type 0 where
  pub at_sha256 : AlsoFor sha256
  pub at_any : (D : List ℕ → Dig) → ((l : List ℕ) → length (D l) ≡ 32) → AlsoFor D
