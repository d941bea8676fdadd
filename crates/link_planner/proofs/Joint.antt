-- Where all that is in the way has gone, what is left is on its way to target.
use Rattle.std.proofs.Common.{◌≡◌, inl, inr, ℕ, true, false, List, Option, Some, None, refl, sym, ap, ◌∙◌, lit<}
use Rattle.net_model.specs.Links.{find_link, is_ethernet}
use Rattle.net_model.specs.NetData.{NetData, IsNet}
use Rattle.net_model.specs.Facts.{ControllerFacts}
use Rattle.net_model.specs.declared.link.Link.{Link}
use Rattle.net_model.proofs.lemmas.FactsHold.{facts}
use Rattle.link_planner.specs.declared.phase.Phase.TheVariants.{DetachPorts, TakeLinksDown, DeleteLinks}
use Rattle.link_planner.specs.Drafts.{DraftData, Holds, Advances}
use Rattle.link_planner.specs.Kept.{is_kept}
use Rattle.link_planner.specs.Phases.{MayTakeAway}
use Rattle.link_planner.specs.Shrinking.{IsLess, IsShrunk, IsFree, IsLow, HasStayed}
use Rattle.link_planner.specs.Growing.{IsToward}
use Rattle.link_planner.specs.LinkPlans.{IsReady}
use Rattle.link_planner.proofs.lemmas.Advancing.{of_ends}
use Rattle.link_planner.proofs.Keeping.{kept_both, kept_targeted}
use Rattle.link_planner.proofs.SameKinds.{one_kind}
use Rattle.link_planner.proofs.Starting.{device_kept}

-- the link of target that a kept one has there
kept_there : (start target : NetData) → IsNet start → IsNet target → (n : List ℕ) (k : Link) → find_link n start.links ≡ Some k → is_kept start target n ≡ true → (t : Link) × (find_link n target.links ≡ Some t) × (t.kind ≡ k.kind)
kept_there start target first good n k found kept = of (find_link n target.links) refl
  where
    of : (o : Option Link) → find_link n target.links ≡ o → (t : Link) × (find_link n target.links ≡ Some t) × (t.kind ≡ k.kind)
    of None e = absurd (let no : true ≡ false = sym kept ∙ kept_targeted start target first good n e in cc)
    of (Some t) e = (t, e, one_kind t.kind k.kind (sym (kept_both start target first good n k t found e) ∙ kept))

module _ (start target before net : NetData) (first : IsNet start) (good : IsNet target) (is : IsNet net) (ready : IsReady start target before) (shrunk : IsShrunk before net) (devices_kept : (n : List ℕ) (k : Link) → find_link n start.links ≡ Some k → is_ethernet k.kind ≡ true → is_kept start target n ≡ true)
    (free : (n : List ℕ) → IsFree start target net n) (low : (n : List ℕ) → IsLow start target net n) (stayed : (n : List ℕ) → HasStayed start target net n) where
  -- where the link was at the start, and that it is kept
  record Origin (n : List ℕ) (l : Link) : Type 0 where
    mid : Link
    mid_found : find_link n before.links ≡ Some mid
    less : IsLess mid l
    kept : is_kept start target n ≡ true
    there : Link
    at : find_link n target.links ≡ Some there
    kind : there.kind ≡ l.kind

  origin : (n : List ℕ) (l : Link) → find_link n net.links ≡ Some l → Origin n l
  origin n l found =
      let m = shrunk.links n l found in
      let k = ready.shrunk.links n m.0 m.1 in
      let is_kept' : is_kept start target n ≡ true = elim (stayed n l found) [
        | inl kept ↦ kept
        | inr device ↦ devices_kept n k.0 k.1 (ap is_ethernet (sym k.2.kind) ∙ ap is_ethernet (sym m.2.kind) ∙ device)
      ] in
      let t = kept_there start target first good n k.0 k.1 is_kept' in
      record { mid = m.0; mid_found = m.1; less = m.2; kept = is_kept'; there = t.0; at = t.1; kind = t.2 ∙ sym k.2.kind ∙ sym m.2.kind }

  on_way : IsToward target net
  on_way = record {
    links = λ n l found.
        let o : Origin n l = origin n l found in (
          o.there,
          o.at,
          record {
            kind = o.kind;
            up = λ h. (low n l o.there o.kept found o.at h).0;
            controller = λ c has.
                let f : ControllerFacts net.links l c = (facts net is).controller n l c found has in
                let p : Origin c f.link = origin c f.link f.there in
                free n l o.there c o.kept found o.at has p.kept;
            bond_port = λ h c b has fb bond. ((low n l o.there o.kept found o.at h).1 c b has fb bond).0;
            addrs = λ b h. ready.addrs n o.mid o.there b o.kept o.mid_found o.at (o.less.addrs b h);
          },
        );
    routes = λ r h. ready.routes r (shrunk.routes r h);
  }

-- where the three phases have reached all names
pub cleared : (m : ℕ) (old d : DraftData) → Advances m old d → Holds d → IsReady old.start old.target old.net → IsShrunk old.net d.net → MayTakeAway 3 d → IsToward d.target d.net
cleared m old d advances h ready shrunk stands =
    let now : IsReady d.start d.target old.net = of_ends (λ s t. IsReady s t old.net) m old d advances ready in
    on_way d.start d.target old.net d.net h.start h.target h.net now shrunk (device_kept d.start d.target now.devices) (stands.done DetachPorts refl (lit< tt)) (stands.done TakeLinksDown refl (lit< tt)) (stands.done DeleteLinks refl (lit< tt))
