-- Steps on the list one after another, and reversed.
use mathlib.Core.Path.{◌≡◌, refl, sym, ap, ◌∙◌}
use mathlib.Core.List.{List, [], ◌∷◌, ◌++◌, append_assoc, append-nil}
use Rattle.paper.specs.declared.Record.{Record}
use Rattle.rings.specs.Lists.{ListItem}
use Rattle.rings.specs.Changes.{Step, insertion, removal, do_step, do_steps, undoing, reversed, LegalSteps}

pub steps_append : (c d : List Step) (ls : List (ListItem Record)) → do_steps (c ++ d) ls ≡ do_steps d (do_steps c ls)
steps_append [] d ls = refl
steps_append (s ∷ c) d ls = steps_append c d (do_step s ls)

pub legal_append : (c d : List Step) (ls : List (ListItem Record)) → LegalSteps c ls → LegalSteps d (do_steps c ls)
    → LegalSteps (c ++ d) ls
legal_append [] d ls h k = k
legal_append (s ∷ c) d ls h k = (h.0, legal_append c d (do_step s ls) h.1 k)

pub reversed_append : (c d : List Step) → reversed (c ++ d) ≡ reversed d ++ reversed c
reversed_append [] d = sym (append-nil (reversed d))
reversed_append (s ∷ c) d =
    ap (λ (e : List Step). e ++ (undoing s ∷ [])) (reversed_append c d)
    ∙ append_assoc (reversed d) (reversed c) (undoing s ∷ [])

pub reversed_reversed : (c : List Step) → reversed (reversed c) ≡ c
reversed_reversed [] = refl
reversed_reversed (insertion a ∷ c) =
    reversed_append (reversed c) (removal a ∷ []) ∙ ap (λ (e : List Step). insertion a ∷ e) (reversed_reversed c)
reversed_reversed (removal a ∷ c) =
    reversed_append (reversed c) (insertion a ∷ []) ∙ ap (λ (e : List Step). removal a ∷ e) (reversed_reversed c)
