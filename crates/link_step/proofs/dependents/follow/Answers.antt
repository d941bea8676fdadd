use Rattle.std.proofs.Common.{◌≡◌, ◌∙◌, ℕ, List, get_or, ap, subst}
use Rattle.std.proofs.lemmas.Result.{on_ok_weaker}
use Rattle.reach.proofs.lemmas.Marks.{any_default}
use Rattle.net_model.specs.Links.{is_port_of}
use Rattle.net_model.specs.Dependence.{depends_on}
use Rattle.net_model.specs.Words.{is_among}
use Rattle.net_model.specs.declared.link.Link.{Link}
use Rattle.net_model.proofs.lemmas.Found.{names_differ-rises}
use Rattle.link_step.specs.Dependents.{MarksAll}
use Rattle.link_step.proofs.Walking.{marks_dependents}
use Rattle.link_step.proofs.dependents.follow.Goals as goal

pub returns : goal.returns
returns c =
    let links : List Link = c.args.net.now.links in
    let first : c.deref.result.now ≡ links = c.deref.ensures.value ∙ c.links-links.ensures in
    let second : c.deref-2.result.now ≡ links = c.deref-2.ensures.value ∙ c.links-links.ensures in
    let link : Link = c.index-link.result.now in
    on_ok_weaker c.mark_each.result
    (λ each d.
    let is : link ≡ get_or links c.args.place d = c.index-link.ensures ∙ ap (λ (ls : List Link). get_or ls c.args.place link) c.links-links.ensures ∙ any_default links c.args.place link d c.requires.inside in
    let one = subst (λ (ls : List Link). MarksAll ls d (λ l. is_port_of l.name link) c.args.marks.now c.mark_controller.new.marks c.args.left.now.items c.mark_controller.new.left.items) first (c.in_ok-mark_controller.ensures d) in
    let two = subst (λ (ls : List Link). MarksAll ls d (λ l. is_among c.over.result.now l.name) c.mark_controller.new.marks c.mark_each.new.marks c.mark_controller.new.left.items c.mark_each.new.left.items) second (each d) in
    let over_two = subst (λ (ns : List (List ℕ)). MarksAll links d (λ l. is_among ns l.name) c.mark_controller.new.marks c.mark_each.new.marks c.mark_controller.new.left.items c.mark_each.new.left.items) c.over.ensures.names two in
    subst (λ (x : Link). MarksAll links d (λ l. depends_on l x) c.args.marks.now c.mark_each.new.marks c.args.left.now.items c.mark_each.new.left.items) is
    (marks_dependents links d (names_differ-rises links c.laws.ensures.net.in_order.links) link c.args.marks.now c.mark_controller.new.marks c.mark_each.new.marks c.args.left.now.items c.mark_controller.new.left.items c.mark_each.new.left.items one over_two))
    c.mark_each.ensures
