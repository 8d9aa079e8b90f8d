-- Lines cut out of pieces of input, in a space of any size.
use Rattle.std.specs.Prelude.{Bool, true, false, List, ℕ, ◌+◌, ltb, length, take, drop, set}
use Rattle.seqs.specs.Choose.{pick}
use Rattle.pieces.specs.Feeding.{Taker, feed_bytes}
use Rattle.pieces.specs.declared.Cut.{Cut}
use Rattle.pieces.specs.declared.Cut.TheVariants.{Line, More}

-- ── what is held of a line ──

-- a space, and how many of its bytes are a line's, as far as it has come
pub record Holding : Type 0 where
  pub space : List ℕ
  pub count : ℕ

abbrev pub line_held : Holding → List ℕ
line_held h = take h.count h.space

-- of the next line nothing yet
abbrev pub nothing_held : Holding → Holding
nothing_held h = record { space = h.space; count = 0 }

-- A byte more goes behind those held. One that finds no room is dropped, so that a space of one byte more than the longest
-- good line tells a longer one by its length.
abbrev pub one_more_held : Holding → ℕ → Holding
one_more_held h b = pick (ltb h.count (length h.space)) (record { space = set h.space h.count b; count = h.count + 1 }) h

-- ── the search for the next line ──

-- Where it stands: the place in the piece, what is held, and whether the line ended.
pub record Sought : Type 0 where
  pub place : ℕ
  pub held : Holding
  pub ended : Bool

-- it stops behind the line's end
abbrev pub seeking : Taker Sought
seeking =
    record {
      line_end = λ t. record { place = t.place + 1; held = t.held; ended = true };
      line_byte = λ t b. record { place = t.place + 1; held = one_more_held t.held b; ended = false };
      stops = λ t. t.ended;
    }

-- in a piece p from place `at` on, with n bytes held in the space d
abbrev pub sought_in : (p : List ℕ) (at : ℕ) (d : List ℕ) (n : ℕ) → Sought
sought_in p at d n =
    feed_bytes seeking (drop at p) (record { place = at; held = record { space = d; count = n }; ended = false })

-- what that is told as
abbrev pub cut_of : Sought → Cut
cut_of t = pick t.ended (Line t.place t.held.count) (More t.held.count)
