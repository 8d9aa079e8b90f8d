-- What is said is what the line led to.
use Rattle.std.proofs.Common.{◌≡◌, ◌≤◌, sym, ◌∙◌, length, arith, rules}
use Rattle.sha256.specs.Hash.{sha256}
use Rattle.turns.specs.Turns.{Said, turn_of}
use Rattle.keeper.proofs.Laws.{fitting, saved_front, ok_some}
use Rattle.keeper.proofs.Keeper.answer.Goals as goal
use Rattle.keeper.proofs.Keeper.answer.Goals.{In_ok-length}

module _ (c : In_ok-length) where
  abbrev said : Said
  said = turn_of sha256 c.args.self.now.desk c.args.line.now c.args.self.now.leaves c.args.self.now.nodes

  fits : (length said.text ≡ c.in_ok-length.length) × (c.in_ok-length.length ≤ length c.args.self.now.out)
  fits =
      fitting said.text (length c.args.self.now.out) c.in_ok-length.length
      (sym c.answer-turn.ensures.said_as.length ∙ ok_some c.answer-turn.result.length _ c.in_ok-length.length (sym c.ok_or-2.ensures.value ∙ c.in_ok-length.was))

pub shared_ref_as_front-say : goal.shared_ref_as_front-say
shared_ref_as_front-say c =
    let room : length c.args.self.now.out ≡ 4096 = search rules in
    omega (arith, room, (fits (goal.at.shared_ref_as_front-say c).In_ok-length).1)

pub say-requires : goal.say-requires
say-requires c =
    let f = fits (goal.at.say-requires c).In_ok-length in
    let s = said (goal.at.say-requires c).In_ok-length in
    record {
      leaves = c.args.self.now.leaves;
      nodes = c.args.self.now.nodes;
      is = saved_front s.text c.args.self.now.out _ c.in_ok-length.length f.0 f.1 c.answer-turn.ensures.said_as.text;
    }
