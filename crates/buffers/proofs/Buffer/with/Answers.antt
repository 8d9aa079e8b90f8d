-- The bytes are put where those that are there end.
use Rattle.std.proofs.Common.{◌≡◌, refl, List, ℕ, ◌+◌, ◌-◌, ◌++◌, ◌≤◌, length, take, drop, replicate, sym, ap, ◌∙◌, arith}
use Rattle.std.proofs.lemmas.List.{take_at, length-replicate}
use Rattle.seqs.specs.Over.{Front, front_next, put_at}
use Rattle.buffers.specs.declared.Buffer.TheInside.{Inside}
use Rattle.buffers.specs.Buffers.{Within}
use Rattle.buffers.proofs.Buffer.with.Goals as goal

module _ (N : ℕ) (b : Inside N) (w : Within N b) (more after : List ℕ) (size : length {A = ℕ} (replicate N 0) ≡ N) (room : length more ≤ N - b.len)
    (p : after ≡ put_at b.bytes b.len more) where
  there : Front (replicate N 0) after (take b.len b.bytes ++ more) (b.len + length more)
  there =
      let begun : Front (replicate N 0) b.bytes (take b.len b.bytes) b.len = record { here = sym w.filled; long = w.long } in
      front_next _ _ (length more) _ begun p refl refl (omega (arith, w.short, room, size))

  said : take (b.len + length more) after ≡ take b.len b.bytes ++ more
  said = ap (take (b.len + length more)) there.here ∙ take_at _ _ (b.len + length more) there.long

  whole : Within N (record { bytes = after; len = b.len + length more })
  whole =
      record {
        long = ap length said ∙ there.long;
        short = omega (arith, w.short, room);
        filled = ap (λ (l : List ℕ). l ++ drop (b.len + length more) (replicate N 0)) said ∙ sym there.here;
      }

pub invariant_of-self : goal.invariant_of-self
invariant_of-self g c =
    whole g.row.N c.self.inside c.self.invariant c.args.more.now c.put.new.buffer (length-replicate g.row.N 0) c.if-more-self.true c.put.ensures

pub returns-then-more-self-clause-fits : goal.returns-then-more-self-clause-fits
returns-then-more-self-clause-fits g c =
    λ h.
    said g.row.N c.self.inside c.self.invariant c.args.more.now c.put.new.buffer (length-replicate g.row.N 0) c.if-more-self.true c.put.ensures
    ∙ ap (λ (l : List ℕ). l ++ c.args.more.now) c.self.view_is
