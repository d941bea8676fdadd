use Rattle.std.proofs.Common.{◌≡◌, ◌∙◌, ℕ, List, true, sym, ap, subst}
use Rattle.net_model.specs.Words.{rises}
use Rattle.net_model.specs.Order.{name_cmp}
use Rattle.net_model.specs.Links.{named_passes}
use Rattle.net_model.specs.Lists.{NetData}
use Rattle.net_model.specs.declared.link.Link.{Link}
use Rattle.link_step.specs.Hanging.{is_affected, affected_on}
use Rattle.link_step.proofs.Names.{sorted_names}
use Rattle.link_step.proofs.Hangers.{affected_rises, among_affected}
use Rattle.link_step.proofs.Upwards.{none_affected}
use Rattle.link_step.proofs.hanging.affected_on.Goals as goal

pub returns-then-not-is_affected_at-clause-names : goal.returns-then-not-is_affected_at-clause-names
returns-then-not-is_affected_at-clause-names c =
    let here : c.deref.result.now ≡ c.args.parts.now.links = c.deref.ensures.value ∙ ap (λ (n : NetData). n.links) c.parts.view_is in
    c.new.ensures.items
    ∙ sym (none_affected c.args.parts.now c.requires c.args.root.now c.args.which
    (sym (c.if-not-is_affected_at.ensures ∙ ap (λ (ls : List Link). named_passes (is_affected c.args.which) ls c.args.root.now) here)))

named : (c : goal.After-sort) → c.sort.new.names.items ≡ affected_on c.args.which c.args.parts.now.links c.args.root.now
named c =
    let links : List Link = c.args.parts.now.links in
    let root : List ℕ = c.args.root.now in
    sorted_names c.in_ok-names.names.items c.sort.new.names.items (affected_on c.args.which links root) c.in_ok-names.ensures.once c.sort.ensures.moved c.sort.ensures.sorted (affected_rises c.args.which links root c.requires.in_order.links)
    (λ n. c.in_ok-names.ensures.each n ∙ sym (among_affected c.args.which links root n))

pub returns-clause-names : goal.returns-clause-names
returns-clause-names c = named c

pub returns-clause-in_order : goal.returns-clause-in_order
returns-clause-in_order c =
    subst (λ (ns : List (List ℕ)). rises name_cmp ns ≡ true) (sym {A = List (List ℕ)} (named c)) (affected_rises c.args.which c.args.parts.now.links c.args.root.now c.requires.in_order.links)
