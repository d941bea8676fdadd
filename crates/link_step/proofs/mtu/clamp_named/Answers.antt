use Rattle.std.proofs.Common.{◌∙◌, true, ap, sym, slice_set}
use Rattle.net_model.proofs.lemmas.Found.{names_differ-rises}
use Rattle.kernel_laws.proofs.lemmas.InPlace.{set_is_edit, edit_none}
use Rattle.kernel_model.specs.Settings.{with_mtu}
use Rattle.link_step.proofs.mtu.clamp_named.Goals as goal

pub returns-in-Some : goal.returns-in-Some
returns-in-Some c =
    let links = c.args.links.now in
    ap (slice_set links c.in-Some.i) c.clamp.ensures
    ∙ set_is_edit c.args.over.now (with_mtu c.args.name.now c.args.mtu true) links c.in-Some.i c.index-links-i.result (names_differ-rises links c.requires) c.in-Some.ensures.inside (c.in-Some.ensures.named c.index-links-i.result)

pub returns-in-None : goal.returns-in-None
returns-in-None c = sym (edit_none c.args.over.now (with_mtu c.args.name.now c.args.mtu true) c.args.links.now c.in-None.ensures)
