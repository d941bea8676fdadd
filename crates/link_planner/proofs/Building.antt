-- Where each phase has reached what it is for, the links are those of target.
use Rattle.std.proofs.Common.{◌≡◌, ℕ, Bool, List, [], Option, Some, None, refl, sym, ap, subst, ◌∙◌, lit<}
use Rattle.std.specs.Prelude.{option_map}
use Rattle.net_model.specs.Links.{find_link}
use Rattle.net_model.specs.NetData.{NetData}
use Rattle.net_model.specs.declared.mac.Mac.{Mac}
use Rattle.net_model.specs.declared.link.Kind.{Kind}
use Rattle.net_model.specs.declared.link.Link.{Link}
use Rattle.net_model.specs.declared.options.BondOpts.{BondOpts}
use Rattle.net_model.specs.declared.options.BridgeOpts.{BridgeOpts}
use Rattle.net_model.specs.declared.options.PortOpts.{PortOpts}
use Rattle.net_model.proofs.lemmas.FactsHold.{facts}
use Rattle.link_planner.specs.declared.phase.Phase.TheVariants.{CreateLinks, LowerMtus, SetMacs, SetBridges, AttachPorts, SetPorts, SetPrimaries, TakeLinksUp}
use Rattle.link_planner.specs.Drafts.{DraftData, Holds}
use Rattle.link_planner.specs.Growing.{IsOnWay, IsNearer}
use Rattle.link_planner.specs.Phases.{MayBuildUp, Grows}
use Rattle.link_planner.specs.LinkPlans.{without_addrs, HasSameLinks, ReachesLinks}
use Rattle.link_planner.proofs.Editing.{way_of}
use Rattle.link_planner.proofs.Nearer.{nearer_more}

abbrev bare : List ℕ → Kind → Bool → ℕ → Mac → Option (List ℕ) → BondOpts → BridgeOpts → PortOpts → Link
bare n k u t m c b r p = record { name = n; kind = k; up = u; mtu = t; mac = m; controller = c; bond = b; bridge = r; port = p; addrs = [] }

module _ (d : DraftData) (h : Holds d) (stands : MayBuildUp 13 d) where
  same_link : (n : List ℕ) (l t : Link) → find_link n d.net.links ≡ Some l → find_link n d.target.links ≡ Some t → without_addrs l ≡ without_addrs t
  same_link n l t found at =
      let way : IsOnWay d.target l t = way_of d.target d.net stands.toward n l t found at in
      ap (λ x. bare x l.kind l.up l.mtu l.mac l.controller l.bond l.bridge l.port) ((facts d.net h.net).named n l found ∙ sym ((facts d.target h.target).named n t at))
      ∙ ap (λ x. bare t.name x l.up l.mtu l.mac l.controller l.bond l.bridge l.port) (sym way.kind)
      ∙ ap (λ x. bare t.name t.kind x l.mtu l.mac l.controller l.bond l.bridge l.port) (stands.done TakeLinksUp refl (lit< tt) n l t found at)
      ∙ ap (λ x. bare t.name t.kind t.up x l.mac l.controller l.bond l.bridge l.port) (stands.done LowerMtus refl (lit< tt) n l t found at)
      ∙ ap (λ x. bare t.name t.kind t.up t.mtu x l.controller l.bond l.bridge l.port) (stands.done SetMacs refl (lit< tt) n l t found at)
      ∙ ap (λ x. bare t.name t.kind t.up t.mtu t.mac x l.bond l.bridge l.port) (stands.done AttachPorts refl (lit< tt) n l t found at)
      ∙ ap (λ x. bare t.name t.kind t.up t.mtu t.mac t.controller x l.bridge l.port) (stands.done SetPrimaries refl (lit< tt) n l t found at)
      ∙ ap (λ x. bare t.name t.kind t.up t.mtu t.mac t.controller t.bond x l.port) (stands.done SetBridges refl (lit< tt) n l t found at)
      ∙ ap (λ x. bare t.name t.kind t.up t.mtu t.mac t.controller t.bond t.bridge x) (stands.done SetPorts refl (lit< tt) n l t found at)

  same_links : HasSameLinks d.target d.net
  same_links n = of (find_link n d.net.links) (find_link n d.target.links) refl refl
    where
      of : (o q : Option Link) → find_link n d.net.links ≡ o → find_link n d.target.links ≡ q → option_map without_addrs o ≡ option_map without_addrs q
      of None None e f = refl
      of None (Some t) e f =
          let l = stands.done CreateLinks refl (lit< tt) n t f in
          absurd (let wrong : (let o : Option Link = None in o) ≡ Some l.0 = sym e ∙ l.1 in cc)
      of (Some l) None e f =
          let t = stands.toward.links n l e in
          absurd (let wrong : (let o : Option Link = None in o) ≡ Some t.0 = sym f ∙ t.1 in cc)
      of (Some l) (Some t) e f = ap (λ x. let o : Option Link = Some x in o) (same_link n l t e f)

  pub links_reached : (before : NetData) → IsNearer d.target before d.net → ReachesLinks before d.target d.net
  links_reached before nearer = record {
    links = same_links;
    addrs = λ n l t b found at h. (way_of d.target d.net stands.toward n l t found at).addrs b h;
    routes = stands.toward.routes;
    rules = nearer.rules;
    dns = nearer.dns;
  }

-- the way from one draft to another
abbrev pub Way : DraftData → DraftData → Type 0
Way old d = IsNearer d.target old.net d.net

pub way_begun : (old d : DraftData) → Grows old d → Way old d
way_begun old d grows = grows.nearer

pub way_more : (a b c : DraftData) → Way a b → c.target ≡ b.target → Grows b c → Way a c
way_more a b c way same grows = nearer_more c.target a.net b.net c.net (subst (λ t. IsNearer t a.net b.net) (sym same) way) grows.nearer
