use Rattle.std.proofs.Common.{◌≡◌, ◌∙◌, List, ap, sym, refl, slice_set}
use Rattle.net_model.specs.Words.{rises}
use Rattle.net_model.specs.Order.{link_cmp}
use Rattle.net_model.specs.Edits.{changed, edit_link, address_removed}
use Rattle.net_model.specs.declared.link.Link.{Link}
use Rattle.net_model.proofs.lemmas.Editing.{edited_none}
use Rattle.net_lists.proofs.lemmas.LinkLists.{changed_keeps}
use Rattle.net_model.proofs.lemmas.Maps.{rises_map}
use Rattle.net_lists.proofs.lemmas.Counting.{count_less}
use Rattle.net_edits.proofs.address_edits.take_named.Goals as goal
use Rattle.net_edits.proofs.address_edits.take_named.Goals.{After-take_address}

edited : (c : After-take_address) → slice_set c.args.links.now c.in-Some.i c.take_address.new.link ≡ edit_link c.args.name.now (address_removed c.args.addr.now) c.args.links.now
edited c = ap (slice_set c.args.links.now c.in-Some.i) c.take_address.ensures.link ∙ c.in-Some.ensures.edits (address_removed c.args.addr.now) c.index-links-i.result

pub returns-in-Some-clause-edit : goal.returns-in-Some-clause-edit
returns-in-Some-clause-edit c = edited c

pub returns-in-Some-clause-rise : goal.returns-in-Some-clause-rise
returns-in-Some-clause-rise c =
    let g : Link → Link = address_removed c.args.addr.now in
    ap (λ (ls : List Link). rises link_cmp ls) (edited c) ∙ rises_map (changed c.args.name.now g) (changed_keeps (λ (l : Link). l.name) c.args.name.now g (λ l. refl)) c.args.links.now ∙ c.requires

pub returns-in-Some-clause-gone : goal.returns-in-Some-clause-gone
returns-in-Some-clause-gone c = count_less c.args.links.now c.in-Some.i c.index-links-i.result c.take_address.new.link c.take_address.result c.in-Some.ensures.inside c.take_address.ensures.gone

pub returns-in-None-clause-edit : goal.returns-in-None-clause-edit
returns-in-None-clause-edit c = sym (edited_none c.args.name.now (address_removed c.args.addr.now) c.args.links.now c.in-None.ensures)
