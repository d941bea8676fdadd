use Rattle.std.proofs.Common.{◌∙◌, ap, sym, slice_set}
use Rattle.net_model.specs.Edits.{address_put}
use Rattle.net_model.proofs.lemmas.Editing.{edited_none}
use Rattle.net_lists.proofs.lemmas.Counting.{count_more, put_one}
use Rattle.net_edits.proofs.address_edits.give_named.Goals as goal

pub returns-in_ok-give-in-Some-clause-ok : goal.returns-in_ok-give-in-Some-clause-ok
returns-in_ok-give-in-Some-clause-ok c = ap (slice_set c.args.links.now c.in-Some.i) c.in_ok-give-in-Some.ensures.ok ∙ c.in-Some.ensures.edits (address_put c.args.addr.now) c.index-links-i.result

pub returns-in_ok-give-in-Some-clause-more : goal.returns-in_ok-give-in-Some-clause-more
returns-in_ok-give-in-Some-clause-more c =
    count_more c.args.links.now c.in-Some.i c.index-links-i.result c.give.new.link 1 c.in-Some.ensures.inside (put_one c.args.addr.now _ c.give.new.link c.in_ok-give-in-Some.ensures.ok)

pub returns-in-None-clause-ok : goal.returns-in-None-clause-ok
returns-in-None-clause-ok c = sym (edited_none c.args.name.now (address_put c.args.addr.now) c.args.links.now c.in-None.ensures)
