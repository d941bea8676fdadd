use Rattle.std.proofs.Common.{◌∙◌, ◌++◌, List, refl, sym, ap}
use Rattle.std.proofs.lemmas.Bool.{and_from}
use Rattle.net_model.specs.declared.dns.Dns.{Dns}
use Rattle.net_model.specs.declared.link.Link.{Link}
use Rattle.net_model.specs.declared.route.Route.{Route}
use Rattle.net_model.specs.Rule.{RuleParts}
use Rattle.net_image.specs.Form.{number, counted}
use Rattle.net_image.specs.Links.{link}
use Rattle.net_image.specs.Image.{route, rule, dns, lists, version_2}
use Rattle.net_image.proofs.lemmas.Fitting.{behind}
use Rattle.net_image.proofs.write_net.push_lists.Goals as goal

pub returns-clause-bytes : goal.returns-clause-bytes
unfolding lists
returns-clause-bytes c =
    let n = c.args.net.now in
    let a = c.push_mark.new.out.items in
    let b = c.push_links_counted.new.out.items in
    let d = c.push_routes.new.out.items in
    let e = c.push_rules.new.out.items in
    let ls = counted (number 2) link in
    let rs = counted (number 2) route in
    let us = counted (number 2) rule in
    behind c.args.out.now.items a _ version_2 _ c.in_ok-push_mark.ensures.bytes
    (behind a b _ (ls.write n.links) _ (c.in_ok-push_links_counted.ensures.bytes ∙ ap (λ (x : List Link). a ++ ls.write x) (c.deref.ensures.value ∙ c.links.ensures))
    (behind b d _ (rs.write n.routes) _ (c.in_ok-push_routes.ensures.bytes ∙ ap (λ (x : List Route). b ++ rs.write x) (c.deref-2.ensures.value ∙ c.routes.ensures))
    (behind d e _ (us.write n.rules) (dns.write n.dns) (c.in_ok-push_rules.ensures.bytes ∙ ap (λ (x : List RuleParts). d ++ us.write x) (c.deref-3.ensures.value ∙ c.rules.ensures))
    (c.in_ok-push_dns.ensures.bytes ∙ ap (λ (x : Dns). e ++ dns.write x) c.dns.ensures))))

pub returns-clause-fits : goal.returns-clause-fits
unfolding lists
returns-clause-fits c =
    and_from _ _ refl (and_from _ _ (ap (counted (number 2) link).fits (sym (c.deref.ensures.value ∙ c.links.ensures)) ∙ c.in_ok-push_links_counted.ensures.fits)
    (and_from _ _ (ap (counted (number 2) route).fits (sym (c.deref-2.ensures.value ∙ c.routes.ensures)) ∙ c.in_ok-push_routes.ensures.fits)
    (and_from _ _ (ap (counted (number 2) rule).fits (sym (c.deref-3.ensures.value ∙ c.rules.ensures)) ∙ c.in_ok-push_rules.ensures.fits) (ap dns.fits (sym c.dns.ensures) ∙ c.in_ok-push_dns.ensures.fits))))
