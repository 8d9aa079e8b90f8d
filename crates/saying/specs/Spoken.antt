-- The lines of a wish as requests, one after the other, each made with the memoranda that the ones before it issue.
use Rattle.std.specs.Prelude.{List, [], ◌∷◌, ℕ, zero, suc, ◌+◌}
use Rattle.paper.specs.declared.Registers.{Registers}
use Rattle.paper.specs.Strings.{Dig, nought, memorandum}
use Rattle.paper.specs.Requests.{Request}
use Rattle.paper.specs.Answers.{Effect, none', issues, adopts, changes, answer}
use Rattle.asking.specs.declared.Talk.{Talk}
use Rattle.asking.specs.Saying.{request_at}

-- the next step of a talk, with the memorandum of the last reply
abbrev pub next_talk : Talk → Dig → Talk
next_talk t d = record { plan = t.plan; step = t.step + 1; older = t.memo; memo = d }

module _ (D : List ℕ → Dig) (s : Registers) where
  -- the memorandum that an accepted line issues, where it does
  abbrev pub issued_in : Effect → Dig
  issued_in none' = nought
  issued_in (issues t c) = memorandum D t s.secret
  issued_in (adopts m) = nought
  issued_in (changes A r) = nought

  abbrev pub issued_for : Request → Dig
  issued_for q = issued_in (answer D s q).effect

  -- n lines from a talk on, over the nodes m
  abbrev pub spoken : (m : List ℕ) (n : ℕ) → Talk → List Request
  spoken m zero t = []
  spoken m (suc n) t = request_at m t ∷ spoken m n (next_talk t (issued_for (request_at m t)))
