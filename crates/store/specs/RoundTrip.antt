-- What is written to a store is read back, and what is read from one is written back: a line, and a whole text.
use Rattle.std.specs.Prelude.{◌≡◌, true, List, ℕ, ◌<◌, ◌^◌, Some}
use Rattle.seqs.specs.Choose.{Every}
use Rattle.hexadecimal.specs.Hex.{digits_of}
use Rattle.rows.specs.declared.Row.{Row}
use Rattle.rows.specs.Rows.{numbers_in}
use Rattle.store.specs.Lines.{row_bytes, may_stand, line_read}
use Rattle.store.specs.Texts.{text_read, text_of}

-- numbers that eight bytes hold, as every number in the code is
abbrev pub RowFits : Row → Type 0
RowFits r = Every (λ n. n < 2 ^ 64) (numbers_in r)

-- a leaf that a store can hold
pub record Storable (r : Row) : Type 0 where
  pub fits : RowFits r
  pub stands : may_stand r ≡ true

pub record RoundTrips : Type 0 where
  -- a line, without its 0A
  pub written_reads : (r : Row) → Storable r → line_read (digits_of (row_bytes r)) ≡ Some r
  pub read_writes : (l : List ℕ) (r : Row) → line_read l ≡ Some r → digits_of (row_bytes r) ≡ l
  pub read_storable : (l : List ℕ) (r : Row) → line_read l ≡ Some r → Storable r
  -- a text
  pub text_reads : (rs : List Row) → Every Storable rs → text_read (text_of rs) ≡ record { rows = rs; whole = true }
  pub text_writes : (t : List ℕ) → (text_read t).whole ≡ true → text_of (text_read t).rows ≡ t
  pub text_storable : (t : List ℕ) → Every Storable (text_read t).rows
