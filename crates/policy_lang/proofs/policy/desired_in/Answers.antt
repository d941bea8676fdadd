use Rattle.std.proofs.Common.{◌∙◌, Option, option_map, sym, ap, Bor}
use Rattle.std.specs.Prelude.{unwrap_or}
use Rattle.doc_tree.specs.Shape.{Shape, nothing, shape}
use Rattle.doc_tree.specs.declared.Tree.{Tree}
use Rattle.doc_tree.proofs.lemmas.Trees.{shape-Null}
use Rattle.policy_lang.proofs.policy.desired_in.Goals as goal

pub returns-in_ok-copy_tree-in-Some : goal.returns-in_ok-copy_tree-in-Some
returns-in_ok-copy_tree-in-Some c =
    c.in_ok-copy_tree-in-Some.ensures ∙ ap (λ (o : Option Shape). unwrap_or o nothing) (ap (option_map (λ (t : Bor Tree). shape t.now)) (sym c.in-Some.is) ∙ c.get.ensures)

pub returns-in-None : goal.returns-in-None
returns-in-None c = shape-Null ∙ ap (λ (o : Option Shape). unwrap_or o nothing) (ap (option_map (λ (t : Bor Tree). shape t.now)) (sym c.in-None.is) ∙ c.get.ensures)
