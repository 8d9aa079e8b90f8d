-- Each arm has its row of the table. The last is reached where t is none of the others' numbers, so by 63 alone.
use Rattle.std.proofs.Common.{◌≡◌, ℕ, ◌<◌, ◌≤◌, get_or, refl, arith, rules}
use Rattle.seqs.specs.Choose.{past_all}
use Rattle.sha256.specs.Constants.{K}
use Rattle.sha256.proofs.rounds.constant.Goals as goal

last_row : (t : ℕ) → 63 ≤ t → t < 64 → 0xc671_78f2 ≡ get_or K t 0
last_row t h l = let e : t ≡ 63 = omega arith in rw e refl

pub returns-in-63-to-max : goal.returns-in-63-to-max
returns-in-63-to-max c = last_row c.args.t (past_all 0 63 c.args.t c.in-63-to-max.in-63-to-max-own.rest (search rules)) c.requires
