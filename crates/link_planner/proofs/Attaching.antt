-- A port that is attached to the controller that it has in target.
use Rattle.std.proofs.Common.{◌≡◌, ℕ, true, false, List, [], ◌∷◌, Option, Some, None, Ok, refl, sym, ap, ◌∙◌, lit<}
use Rattle.std.specs.Prelude.{option_map}
use Rattle.std.specs.List.{list_any}
use Rattle.net_model.specs.Address.{Block}
use Rattle.net_model.specs.Links.{find_link, is_bond, is_bond_or_bridge, takes}
use Rattle.net_model.specs.Valid.{same_block}
use Rattle.net_model.specs.NetData.{NetData}
use Rattle.net_model.specs.Options.{default_port}
use Rattle.net_model.specs.Facts.{ControllerFacts}
use Rattle.net_model.specs.declared.link.Link.{Link}
use Rattle.net_model.specs.declared.call.Call.TheVariants.{Attach}
use Rattle.net_model.proofs.lemmas.FactsHold.{facts}
use Rattle.net_model.proofs.lemmas.Same.{same_block_exact, default_port_exact}
use Rattle.net_model.specs.Edits.{attached}
use Rattle.kernel_model.specs.Addresses.{has_block}
use Rattle.kernel_model.specs.Kernel.{step, after}
use Rattle.kernel_laws.specs.Frames.{Leads}
use Rattle.kernel_laws.specs.Laws.{StandsWithin}
use Rattle.net_model.proofs.lemmas.ByName.{or_left}
use Rattle.kernel_laws.proofs.lemmas.StepKeeps.{attaches_within}
use Rattle.kernel_laws.proofs.lemmas.Leading.{has_frame}
use Rattle.kernel_laws.proofs.lemmas.Taking.{is_accepted}
use Rattle.link_planner.specs.declared.phase.Phase.TheVariants.{AttachPorts}
use Rattle.link_planner.specs.Drafts.{DraftData, Holds}
use Rattle.link_planner.specs.Pairs.{ArePair}
use Rattle.link_planner.specs.Phases.{MayBuildUp, IsNext}
use Rattle.link_planner.specs.Growing.{IsOnWay, IsToward, SameController}
use Rattle.link_planner.proofs.Editing.{IsEdit, edited, way_of}
use Rattle.link_planner.proofs.Phasing.{whole_at}

-- each link of a network on its way stands within target
within_target : (target net : NetData) → IsToward target net → StandsWithin net.links target.links
within_target target net toward = record { each = λ n l found. let w = toward.links n l found in (w.0, w.1, w.2.kind, w.2.controller) }

module _ (d : DraftData) (h : Holds d) (stands : MayBuildUp 9 d) (n c : List ℕ) (link there : Link) (pair : ArePair d n link there) (has : there.controller ≡ Some c) (other : link.controller ≡ Some c → ⊥) where
  way : IsOnWay d.target link there
  way = way_of d.target d.net stands.toward n link there pair.here pair.at

  control : ControllerFacts d.target.links there c
  control = (facts d.target h.target).controller n there c pair.at has

  now : (l : Link) × (find_link c d.net.links ≡ Some l)
  now = whole_at 9 d (lit< tt) stands c control.link control.there

  now_way : IsOnWay d.target now.0 control.link
  now_way = way_of d.target d.net stands.toward c now.0 control.link now.1 control.there

  free : link.controller ≡ None
  free = of link.controller refl
    where
      of : (o : Option (List ℕ)) → link.controller ≡ o → o ≡ None
      of None e = refl
      of (Some o) e = let same : Some o ≡ Some c = sym (way.controller o e) ∙ has in absurd (other (e ∙ same))

  down : is_bond now.0.kind ≡ true → link.up ≡ false
  down bond = elim link.up as (λ v. link.up ≡ v → v ≡ false) [
    | false ↦ λ _. refl
    | true ↦ λ e. absurd (other (way.bond_port e c control.link has control.there (ap is_bond now_way.kind ∙ bond)))
  ] refl

  empty : is_bond_or_bridge now.0.kind ≡ true → link.addrs ≡ []
  empty h = none link.addrs (λ b on. ap (has_block b) (sym (control.without_addresses (ap is_bond_or_bridge now_way.kind ∙ h))) ∙ way.addrs b on)
    where
      none : (bs : List Block) → ((b : Block) → has_block b bs ≡ true → has_block b [] ≡ true) → bs ≡ []
      none [] all = refl
      none (b ∷ bs) all = absurd (let no : false ≡ true = all b (or_left (same_block b b) (list_any (same_block b) bs) ((same_block_exact b b).1 refl)) in cc)

  taken : step (Attach n c) d.net ≡ Ok (after (Attach n c) d.net)
  taken = is_accepted (Attach n c) d.net h.net (record {
    link = link;
    there = pair.here;
    control = now.0;
    controller_there = now.1;
    off_cycle = attaches_within n c there d.net d.target h.net h.target (within_target d.target d.net stands.toward) pair.at has;
    free = free;
    takes_it = ap (λ k. takes k link.kind) (sym now_way.kind) ∙ ap (takes control.link.kind) (sym way.kind) ∙ control.takes_it;
    down = down;
    without_addresses = empty;
  })

  leads : Leads (Attach n c) d.net (after (Attach n c) d.net)
  leads = has_frame (Attach n c) d.net (after (Attach n c) d.net) h.net taken

  -- a link without a controller has the options of a port at their defaults
  plain : link.port ≡ default_port
  plain = (default_port_exact link.port).0 (((facts d.net h.net).link n link pair.here).port_unused free)

  pub attach_next : IsNext AttachPorts d n (Attach n c)
  attach_next =
      let e : IsEdit SameController d n (Attach n c) =
      edited SameController d h n link there pair stands.toward (Attach n c) (attached c) taken refl (ap (option_map (λ (x : Link). x.controller)) pair.at ∙ ap Some has) leads.0 leads.1 (λ same. other (ap (λ (l : Link). l.controller) same ∙ has))
      (record { kind = way.kind; up = way.up; controller = λ d e. has ∙ e; bond_port = λ u d b h fb bond. sym has ∙ h; addrs = way.addrs })
      (record { mtu = λ h. h; enough_mtu = λ h. h; mac = λ h. h; near_bond = λ h. h; bond = λ h. h; bridge = λ h. h; controller = λ _. sym has; port = λ h. sym plain ∙ h; up = λ h. h }) (sym has) in
      record { safe = e.safe; moves = e.grows; done = e.done; counted = refl }
