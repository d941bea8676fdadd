use Rattle.std.proofs.Common.{ℕ, List, arith, subst}
use Rattle.std.proofs.lemmas.List.{take_all}
use Rattle.net_model.specs.Links.{is_named}
use Rattle.net_model.specs.Words.{is_among}
use Rattle.link_step.specs.Dependents.{MarksAll}
use Rattle.link_step.proofs.Walking.{marks_next}
use Rattle.link_step.proofs.dependents.mark_each.Goals as goal

pub loop-name-preserved : goal.loop-name-preserved
loop-name-preserved c = λ d.
    marks_next c.args.links.now d c.args.names.now c.loop-name.name-index c.name-item.result c.args.marks.now c.loop-name.marks c.mark.new.marks c.args.left.now.items c.loop-name.left.items c.mark.new.left.items c.loop-name-test.true
    (c.loop-name.invariant d)
    (subst (λ (n : List ℕ). MarksAll c.args.links.now d (is_named n) c.loop-name.marks c.mark.new.marks c.loop-name.left.items c.mark.new.left.items) c.name-item.is (c.in_ok-mark.ensures d))

pub returns : goal.returns
returns c = λ d.
    subst (λ (ns : List (List ℕ)). MarksAll c.args.links.now d (λ l. is_among ns l.name) c.args.marks.now c.loop-name.marks c.args.left.now.items c.loop-name.left.items)
    (take_all c.loop-name.name-index c.args.names.now (omega (arith, c.loop-name-test.false))) (c.loop-name.invariant d)
