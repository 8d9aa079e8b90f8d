-- What a frame is answered whose own checks are not looked at: as the request that lies in it. `proofs/Frames` shows that it is the
-- paper's answer where the frame passes them.
use Rattle.std.specs.Prelude.{List, ℕ, ◌*◌, eqb, ltb, get_or}
use Rattle.seqs.specs.Choose.{pick}
use Rattle.seqs.specs.Bytes.{number_at}
use Rattle.paper.specs.declared.Registers.{Registers}
use Rattle.paper.specs.Requests.{Request, path, most_siblings, digests_in, kind_of, known}
use Rattle.replies.specs.declared.Outcome.{Outcome}
use Rattle.replies.specs.Outcomes.{outcome_for, refusal}
use Rattle.places.specs.Places.{bytes_at, digest_in, request_at}

-- a path's n, or 64 where it is more, and its request with so many siblings
unfoldable pub levels_in : List ℕ → ℕ
levels_in f = pick (ltb (get_or f 65 0) most_siblings) (get_or f 65 0) most_siblings

unfoldable pub path_request_in : List ℕ → Request
path_request_in f = let n = levels_in f in path (digest_in f 1 0) (digest_in f 1 1) (number_at f 66) (digests_in n (bytes_at f 74 (32 * n)))

unfoldable pub request_in : (kind : ℕ) → List ℕ → Request
request_in k f = pick (eqb k 1) (path_request_in f) (request_at k f)

unfoldable pub answer_fitting : Registers → List ℕ → Outcome
answer_fitting s f = let k = kind_of f in pick (known k) (outcome_for s k (request_in k f)) (refusal s 2 0)
