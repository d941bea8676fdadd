use Rattle.std.proofs.Common.{◌∙◌, ap, sym, slice_set}
use Rattle.net_model.specs.Edits.{taken_down}
use Rattle.net_model.proofs.lemmas.Editing.{edited_none}
use Rattle.net_lists.proofs.lemmas.Counting.{count_less}
use Rattle.net_edits.proofs.address_edits.lower_named.Goals as goal

pub returns-in-Some-clause-edit : goal.returns-in-Some-clause-edit
returns-in-Some-clause-edit c = ap (slice_set c.args.links.now c.in-Some.i) c.take_down.ensures.link ∙ c.in-Some.ensures.edits taken_down c.index-links-i.result

pub returns-in-Some-clause-gone : goal.returns-in-Some-clause-gone
returns-in-Some-clause-gone c = count_less c.args.links.now c.in-Some.i c.index-links-i.result c.take_down.new.link c.take_down.result c.in-Some.ensures.inside c.take_down.ensures.gone

pub returns-in-None-clause-edit : goal.returns-in-None-clause-edit
returns-in-None-clause-edit c = sym (edited_none c.args.name.now taken_down c.args.links.now c.in-None.ensures)
