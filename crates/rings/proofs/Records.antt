-- The hash of a known record tells the record, or a fault can be shown.
use mathlib.Core.Path.{◌≡◌, refl, sym, ap, ◌∙◌}
use mathlib.Core.List.{List}
use mathlib.Core.Logic.{◌⊎◌, inl, inr, ◌≢◌}
use borrow.Author.Tests.{ne_eqb}
use Rattle.paper.specs.declared.Record.{Record}
use Rattle.paper.specs.Strings.{Dig, nought, empty_record, Str, entry}
use Rattle.rings.specs.Meanings.{Within, hash_record, RecordKnown, known_empty, known_recorded, Fault, vanishes}
use Rattle.rings.proofs.Nodes.{◌>>=◌, same_string}

module _ (D : Str → Dig) where
  pub hash_empty : hash_record D empty_record ≡ nought
  unfolding hash_record
  hash_empty = refl

  hash_recorded : (r : Record) → r.revision.0 ≢ 0 → hash_record D r ≡ D (entry r)
  unfolding hash_record
  hash_recorded r n = rw (ne_eqb r.revision.0 0 n) refl

  pub known_more : {F G : List Str} (r : Record) → Within F G → RecordKnown D F r → RecordKnown D G r
  known_more r s (known_empty e) = known_empty e
  known_more r s (known_recorded n m) = known_recorded n (s (entry r) m)

  pub same_record : {F : List Str} (r s : Record) → RecordKnown D F r → RecordKnown D F s → hash_record D r ≡ hash_record D s
      → Fault D F ⊎ (r ≡ s)
  same_record r s (known_empty p) (known_empty q) e = inr (p ∙ sym q)
  same_record r s (known_empty p) (known_recorded n m) e =
      inl (vanishes (entry s) m (sym (hash_recorded s n) ∙ sym e ∙ ap (hash_record D) p ∙ hash_empty))
  same_record r s (known_recorded n m) (known_empty q) e =
      inl (vanishes (entry r) m (sym (hash_recorded r n) ∙ e ∙ ap (hash_record D) q ∙ hash_empty))
  same_record r s (known_recorded n m) (known_recorded n' m') e = do
    p ← same_string D m m' (sym (hash_recorded r n) ∙ e ∙ hash_recorded s n')
    inr (cc)

  -- a record whose hash is 0 is the empty one
  pub no_record_lem : {F : List Str} (r : Record) → RecordKnown D F r → hash_record D r ≡ nought → Fault D F ⊎ (r ≡ empty_record)
  no_record_lem r k e = same_record r empty_record k (known_empty refl) (e ∙ sym hash_empty)
