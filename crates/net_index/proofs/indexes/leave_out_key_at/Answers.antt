use Rattle.std.proofs.Common.{◌∙◌, Some, ap, sym}
use Rattle.net_model.specs.declared.link.Link.{Link}
use Rattle.net_model.proofs.lemmas.VlanKeys.{named_lost, unnamed_lost}
use Rattle.net_index.proofs.indexes.leave_out_key_at.Goals as goal

pub returns-in-At : goal.returns-in-At
returns-in-At c =
    let l : Link = c.index-links-i.result in
    named_lost c.args.name.now l c.args.links.now c.args.seen.now c.leave_out_seen.new.seen (c.in-At.ensures.found l ∙ ap Some (sym c.index-links-i.is)) c.leave_out_seen.ensures

pub returns-in-Gap : goal.returns-in-Gap
returns-in-Gap c = unnamed_lost c.args.name.now c.args.links.now c.args.seen.now c.in-Gap.ensures.none
