use Rattle.std.proofs.Common.{◌∙◌, List, ap}
use Rattle.net_model.specs.Edits.{edit_link, detached}
use Rattle.net_model.specs.declared.link.Link.{Link}
use Rattle.net_model.proofs.lemmas.Detaching.{both_detached}
use Rattle.net_edits.proofs.link_edits.detach_both.Goals as goal

pub returns : goal.returns
returns c =
    let port = c.args.port.now in
    c.detach_at-2.ensures.edit
    ∙ ap (λ (ls : List Link). edit_link port (detached port) ls) c.detach_at.ensures.edit
    ∙ both_detached port c.args.controller.now c.args.links.now c.requires.alone
