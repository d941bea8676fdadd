use Rattle.std.proofs.Common.{◌∙◌, ℕ, List, ap, sym}
use Rattle.doc_tree.specs.declared.Tree.{Tree}
use Rattle.policy_values.specs.Lists.{place_of}
use Rattle.policy_values.proofs.InPlace.{found_at, found_nowhere}
use Rattle.policy_values.proofs.steps.taken.Goals as goal

pub returns-in_default : goal.returns-in_default
returns-in_default c = found_nowhere c.args.key.now c.args.pairs.items (sym (c.in_default.ensures.place ∙ ap (λ (qs : List (List ℕ × Tree)). place_of c.args.key.now qs) c.as_slice.ensures.value))

pub returns : goal.returns
returns c =
    found_at c.args.key.now c.args.pairs.items c.in-Some.i c.swap_remove-key.result (sym (c.in-Some.ensures.place ∙ ap (λ (qs : List (List ℕ × Tree)). place_of c.args.key.now qs) c.as_slice.ensures.value))
    c.swap_remove-key.ensures.value
