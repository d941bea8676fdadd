-- Options of a bridge that are set.
use Rattle.std.proofs.Common.{◌≡◌, ℕ, true, List, Ok, refl, ap, ◌∙◌}
use Rattle.std.specs.Prelude.{option_map}
use Rattle.net_model.specs.Links.{is_bridge}
use Rattle.net_model.specs.declared.link.Link.{Link}
use Rattle.net_model.specs.declared.call.Call.TheVariants.{SetBridge}
use Rattle.net_model.proofs.lemmas.ByName.{found_passing}
use Rattle.net_model.proofs.lemmas.FactsHold.{facts}
use Rattle.kernel_model.specs.Settings.{with_bridge}
use Rattle.kernel_model.specs.Kernel.{step, after}
use Rattle.kernel_laws.specs.Frames.{Leads}
use Rattle.kernel_laws.proofs.lemmas.Leading.{has_frame}
use Rattle.kernel_laws.proofs.lemmas.Taking.{is_accepted}
use Rattle.link_planner.specs.declared.phase.Phase.TheVariants.{SetBridges}
use Rattle.link_planner.specs.Drafts.{DraftData, Holds}
use Rattle.link_planner.specs.Pairs.{ArePair}
use Rattle.link_planner.specs.Growing.{IsOnWay, SameBridge}
use Rattle.link_planner.specs.Phases.{MayBuildUp, IsNext}
use Rattle.link_planner.proofs.Editing.{IsEdit, edited, way_of}
use Rattle.link_planner.proofs.Unused.{shown, unused_bridge}

pub bridge_next : (d : DraftData) → Holds d → (n : List ℕ) (l t : Link) → ArePair d n l t → MayBuildUp 8 d → (l.bridge ≡ t.bridge → ⊥) → IsNext SetBridges d n (SetBridge n t.bridge)
bridge_next d h n l t pair stands differs =
    let bridge : is_bridge l.kind ≡ true = shown (is_bridge l.kind) (λ off. differs (unused_bridge d.target d.net h.target h.net stands.toward n l t pair.here pair.at off)) in
    let taken : step (SetBridge n t.bridge) d.net ≡ Ok (after (SetBridge n t.bridge) d.net) = is_accepted (SetBridge n t.bridge) d.net h.net (((facts d.target h.target).link n t pair.at).bridge_right, (l, pair.here, bridge)) in
    let leads : Leads (SetBridge n t.bridge) d.net (after (SetBridge n t.bridge) d.net) = has_frame (SetBridge n t.bridge) d.net (after (SetBridge n t.bridge) d.net) h.net taken in
    let w : IsOnWay d.target l t = way_of d.target d.net stands.toward n l t pair.here pair.at in
    let e : IsEdit SameBridge d n (SetBridge n t.bridge) =
    edited SameBridge d h n l t pair stands.toward (SetBridge n t.bridge) (with_bridge t.bridge) taken refl (ap (option_map (λ (x : Link). x.bridge)) pair.at) leads.0 leads.1 (λ same. differs (ap (λ (x : Link). x.bridge) same))
    (record { kind = w.kind; up = w.up; controller = w.controller; bond_port = w.bond_port; addrs = w.addrs })
    (record { mtu = λ h. h; enough_mtu = λ h. h; mac = λ h. h; near_bond = λ h. h; bond = λ h. h; bridge = λ _. refl; controller = λ h. h; port = λ h. h; up = λ h. h }) refl in
    record { safe = e.safe; moves = e.grows; done = e.done; counted = found_passing (λ (x : Link). is_bridge x.kind) d.target.links n t pair.at (ap is_bridge w.kind ∙ bridge) }
