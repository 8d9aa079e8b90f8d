-- The request of a kind's frame by the places of its fields: the kind's row of the paper's table, read off the bytes
-- that lie there, a missing byte counting as 0. `proofs/Places` shows that a frame that fits is that request.
use Rattle.std.specs.Prelude.{List, [], ◌∷◌, ◌++◌, ℕ, zero, suc, ◌+◌, ◌*◌, take, drop, replicate}
use Rattle.seqs.specs.Bytes.{number_of}
use Rattle.paper.specs.Strings.{Dig}
use Rattle.paper.specs.Requests.{Request, Carried, row_of, takes}

-- w bytes from a place on
unfoldable pub bytes_at : List ℕ → (at w : ℕ) → List ℕ
bytes_at f at w = take w (drop at f ++ replicate w 0)

-- the bytes of the i-th thing carried, the first of them lying at a place
abbrev pub part_at : List ℕ → List Carried → (at i : ℕ) → List ℕ
part_at f [] at i = []
part_at f (c ∷ cs) at zero = bytes_at f at (takes c (drop at f))
part_at f (c ∷ cs) at (suc i) = part_at f cs (at + takes c (drop at f)) i

-- the request of a kind, whose fields lie behind the kind's byte
unfoldable pub request_at : ℕ → List ℕ → Request
request_at k f = let row = row_of k in row.reads (part_at f row.carries 1)

-- the i-th number of those behind the kind's byte, and the i-th digest of those from a place on
abbrev pub item_in : List ℕ → (i : ℕ) → ℕ
item_in f i = number_of (bytes_at f (1 + 8 * i) 8)

abbrev pub digest_in : List ℕ → (from i : ℕ) → Dig
digest_in f from i = bytes_at f (from + 32 * i) 32
