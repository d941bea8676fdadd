use Rattle.std.proofs.Common.{◌∙◌, ◌++◌, List, sym, ap}
use Rattle.std.proofs.lemmas.Bool.{and_from}
use Rattle.net_model.specs.Address.{Block}
use Rattle.net_image.specs.Form.{byte, counted}
use Rattle.net_image.specs.Fields.{prefix}
use Rattle.net_image.specs.Links.{bond_part, bridge_part, port_options, front, link, link_parts}
use Rattle.net_image.proofs.lemmas.Fitting.{behind}
use Rattle.net_image.proofs.write_link.push_link.Goals as goal

pub returns-clause-bytes : goal.returns-clause-bytes
unfolding link
returns-clause-bytes c =
    let l = c.args.of.now in
    let a = c.push_front.new.out.items in
    let b = c.push_bond_part.new.out.items in
    let d = c.push_bridge_part.new.out.items in
    let e = c.push_port_options.new.out.items in
    let addrs = counted byte prefix in
    behind c.args.out.now.items a _ (front.write (link_parts l).0) _ c.in_ok-push_front.ensures.bytes (behind a b _ ((bond_part l.kind).write l.bond) _ c.in_ok-push_bond_part.ensures.bytes
    (behind b d _ ((bridge_part l.kind).write l.bridge) _ c.in_ok-push_bridge_part.ensures.bytes (behind d e _ (port_options.write l.port) (addrs.write l.addrs) c.in_ok-push_port_options.ensures.bytes
    (c.in_ok-push_prefixes.ensures.bytes ∙ ap (λ (x : List Block). e ++ addrs.write x) (c.deref.ensures.value ∙ c.items.ensures)))))

pub returns-clause-fits : goal.returns-clause-fits
unfolding link
returns-clause-fits c =
    and_from _ _ c.in_ok-push_front.ensures.fits (and_from _ _ c.in_ok-push_bond_part.ensures.fits (and_from _ _ c.in_ok-push_bridge_part.ensures.fits
    (and_from _ _ c.in_ok-push_port_options.ensures.fits (ap (counted byte prefix).fits (sym (c.deref.ensures.value ∙ c.items.ensures)) ∙ c.in_ok-push_prefixes.ensures.fits))))
