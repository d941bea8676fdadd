-- Options that differ show what the link is.
use Rattle.std.proofs.Common.{◌≡◌, ℕ, Bool, true, false, List, Option, Some, None, refl, sym, ap, ◌∙◌}
use Rattle.net_model.specs.Links.{find_link, is_bond, is_bridge}
use Rattle.net_model.specs.Options.{default_bond, default_bridge}
use Rattle.net_model.specs.NetData.{NetData, IsNet}
use Rattle.net_model.specs.Facts.{ControllerFacts}
use Rattle.net_model.specs.declared.link.Link.{Link}
use Rattle.net_model.proofs.lemmas.FactsHold.{facts}
use Rattle.net_model.proofs.lemmas.Same.{default_bond_exact, default_bridge_exact, default_port_exact}
use Rattle.kernel_laws.specs.Takes.{IsThere}
use Rattle.link_planner.specs.Growing.{IsOnWay, IsToward, IsWhole}
use Rattle.link_planner.proofs.Editing.{way_of}

-- what is only false if something is refuted holds
pub shown : (b : Bool) → (b ≡ false → ⊥) → b ≡ true
shown true off = refl
shown false off = absurd (off refl)

module _ (target net : NetData) (good : IsNet target) (is : IsNet net) (toward : IsToward target net) (n : List ℕ) (link there : Link) (found : find_link n net.links ≡ Some link) (at : find_link n target.links ≡ Some there) where
  way : IsOnWay target link there
  way = way_of target net toward n link there found at

  -- what is no bond has the same options of a bond in both
  pub unused_bond : is_bond link.kind ≡ false → link.bond ≡ there.bond
  unused_bond off =
      let here : link.bond ≡ default_bond = (default_bond_exact link.bond).0 (((facts net is).link n link found).bond_unused off) in
      let other : there.bond ≡ default_bond = (default_bond_exact there.bond).0 (((facts target good).link n there at).bond_unused (ap is_bond way.kind ∙ off)) in
      here ∙ sym other

  -- what is no bridge has the same options of a bridge in both
  pub unused_bridge : is_bridge link.kind ≡ false → link.bridge ≡ there.bridge
  unused_bridge off =
      let here : link.bridge ≡ default_bridge = (default_bridge_exact link.bridge).0 (((facts net is).link n link found).bridge_unused off) in
      let other : there.bridge ≡ default_bridge = (default_bridge_exact there.bridge).0 (((facts target good).link n there at).bridge_unused (ap is_bridge way.kind ∙ off)) in
      here ∙ sym other

  -- the bridge of which a port whose options differ is one
  pub port_bridge : IsWhole target net → link.controller ≡ there.controller → (link.port ≡ there.port → ⊥) → (c : List ℕ) × (link.controller ≡ Some c) × IsThere c net.links (λ b. is_bridge b.kind ≡ true)
  port_bridge whole attached differs = of there.controller refl
    where
      of : (o : Option (List ℕ)) → there.controller ≡ o → (c : List ℕ) × (link.controller ≡ Some c) × IsThere c net.links (λ b. is_bridge b.kind ≡ true)
      of None e =
          absurd (differs ((default_port_exact link.port).0 (((facts net is).link n link found).port_unused (attached ∙ e)) ∙ sym ((default_port_exact there.port).0 (((facts target good).link n there at).port_unused e))))
      of (Some c) e =
          let control : ControllerFacts target.links there c = (facts target good).controller n there c at e in
          let now : ControllerFacts net.links link c = (facts net is).controller n link c found (attached ∙ e) in
          let control_way : IsOnWay target now.link control.link = way_of target net toward c now.link control.link now.there control.there in (
            c,
            attached ∙ e,
            (
              now.link,
              now.there,
              shown (is_bridge now.link.kind) (λ off. differs ((default_port_exact link.port).0 (now.port_unused off) ∙ sym ((default_port_exact there.port).0 (control.port_unused (ap is_bridge control_way.kind ∙ off))))),
            ),
          )
