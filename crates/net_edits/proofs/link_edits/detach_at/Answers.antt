use Rattle.std.proofs.Common.{◌≡◌, ◌∙◌, List, true, ap, sym, subst, slice_set}
use Rattle.net_model.specs.Words.{rises}
use Rattle.net_model.specs.Order.{link_cmp}
use Rattle.net_model.specs.Edits.{edit_link, detached}
use Rattle.net_model.specs.declared.link.Link.{Link}
use Rattle.net_model.proofs.lemmas.Editing.{edited_none}
use Rattle.net_model.proofs.lemmas.Detaching.{rises_at}
use Rattle.net_edits.proofs.link_edits.detach_at.Goals as goal
use Rattle.net_edits.proofs.link_edits.detach_at.Goals.{After-detach}

edited : (c : After-detach) → slice_set c.args.links.now c.in-At.i c.detach.new.link ≡ edit_link c.args.name.now (detached c.args.port.now) c.args.links.now
edited c = ap (slice_set c.args.links.now c.in-At.i) c.detach.ensures ∙ c.in-At.ensures.edits (detached c.args.port.now) c.index-links-i.result

pub returns-in-At-clause-edit : goal.returns-in-At-clause-edit
returns-in-At-clause-edit c = edited c

pub returns-in-At-clause-rise : goal.returns-in-At-clause-rise
returns-in-At-clause-rise c =
    subst (λ (ls : List Link). rises link_cmp ls ≡ true) (sym {A = List Link} (edited c)) (rises_at c.args.port.now c.args.name.now c.args.links.now c.requires)

pub returns-in-Gap-clause-edit : goal.returns-in-Gap-clause-edit
returns-in-Gap-clause-edit c = sym (edited_none c.args.name.now (detached c.args.port.now) c.args.links.now c.in-Gap.ensures.none)
