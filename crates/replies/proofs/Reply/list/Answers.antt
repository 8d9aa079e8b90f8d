-- The bytes are put where those that are there end.
use Rattle.std.proofs.Common.{◌≡◌, refl, List, ℕ, ◌+◌, ◌-◌, ◌++◌, length, take, drop, replicate, sym, ap, ◌∙◌, arith, le-leb}
use Rattle.std.proofs.lemmas.Bool.{lt-leb}
use Rattle.std.proofs.lemmas.List.{take_at}
use Rattle.seqs.specs.Over.{Front, front_next}
use Rattle.replies.specs.declared.Reply.TheInside.{Inside}
use Rattle.replies.specs.Outcomes.{listed}
use Rattle.replies.proofs.Reply.list.Goals as goal
use Rattle.replies.proofs.Reply.list.Goals.{After-put}

module _ (c : After-put) where
  abbrev r : Inside
  r = c.self.inside

  abbrev more : List ℕ
  more = c.args.more.now

  there : Front (replicate 97 0) c.put.new.buffer (take r.length r.bytes ++ more) (r.length + length more)
  there =
      let h = c.self.invariant in
      let begun : Front (replicate 97 0) r.bytes (take r.length r.bytes) r.length = record { here = sym h.filled; long = h.long } in
      front_next _ _ (length more) _ begun c.put.ensures refl refl (omega (arith, h.short, c.if-more-self.true))

  said : take (r.length + length more) c.put.new.buffer ≡ take r.length r.bytes ++ more
  said = ap (take (r.length + length more)) there.here ∙ take_at _ _ (r.length + length more) there.long

pub invariant_of-self : goal.invariant_of-self
invariant_of-self c =
    let p = (goal.at.invariant_of-self c).After-put in
    let r = c.self.inside in
    record {
      long = ap length (said p) ∙ (there p).long;
      short = omega (arith, c.self.invariant.short, c.if-more-self.true);
      filled = ap (λ (l : List ℕ). l ++ drop (r.length + length c.args.more.now) (replicate 97 0)) (said p) ∙ sym (there p).here;
    }

pub returns-then-more-self : goal.returns-then-more-self
unfolding listed
returns-then-more-self c =
    let l = ap length c.self.view_is in
    said (goal.at.returns-then-more-self c).After-put ∙ ap (λ (l : List ℕ). l ++ c.args.more.now) c.self.view_is
    ∙ sym (rw (le-leb (length c.args.more.now) (97 - length c.args.self.now) (omega (arith, l, c.self.invariant.long, c.if-more-self.true))) refl)

pub returns-else-more-self : goal.returns-else-more-self
unfolding listed
returns-else-more-self c =
    let l = ap length c.self.view_is in
    sym (rw (lt-leb (length c.args.more.now) (97 - length c.args.self.now) (omega (arith, l, c.self.invariant.long, c.if-more-self.false))) refl)
