use Rattle.std.proofs.Common.{◌∙◌, ap, sym, slice_set}
use Rattle.net_model.specs.Edits.{attached}
use Rattle.net_model.proofs.lemmas.Editing.{edited_none}
use Rattle.net_edits.proofs.link_edits.attach_at.Goals as goal

pub returns-in-At : goal.returns-in-At
returns-in-At c = ap (slice_set c.args.links.now c.in-At.i) c.attach.ensures ∙ c.in-At.ensures.edits (attached c.args.controller.now) c.index-links-i.result

pub returns-in-Gap : goal.returns-in-Gap
returns-in-Gap c = sym (edited_none c.args.port.now (attached c.args.controller.now) c.args.links.now c.in-Gap.ensures.none)
