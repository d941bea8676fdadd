-- A MAC that is set.
use Rattle.std.proofs.Common.{◌≡◌, ℕ, List, Ok, refl, ap}
use Rattle.std.specs.Prelude.{option_map}
use Rattle.net_model.specs.declared.link.Link.{Link}
use Rattle.net_model.specs.declared.call.Call.TheVariants.{SetMac}
use Rattle.kernel_model.specs.Settings.{with_mac}
use Rattle.kernel_model.specs.Kernel.{step, after}
use Rattle.kernel_laws.specs.Frames.{Leads}
use Rattle.kernel_laws.proofs.lemmas.Leading.{has_frame}
use Rattle.kernel_laws.proofs.lemmas.Taking.{is_accepted}
use Rattle.link_planner.specs.declared.phase.Phase.TheVariants.{SetMacs}
use Rattle.link_planner.specs.Drafts.{DraftData, Holds}
use Rattle.link_planner.specs.Pairs.{ArePair}
use Rattle.link_planner.specs.Growing.{IsOnWay, SameMac}
use Rattle.link_planner.specs.Phases.{MayBuildUp, IsNext}
use Rattle.link_planner.proofs.Editing.{IsEdit, edited, way_of}

pub mac_next : (d : DraftData) → Holds d → (n : List ℕ) (l t : Link) → ArePair d n l t → MayBuildUp 6 d → (l.mac ≡ t.mac → ⊥) → IsNext SetMacs d n (SetMac n t.mac)
mac_next d h n l t pair stands differs =
    let taken : step (SetMac n t.mac) d.net ≡ Ok (after (SetMac n t.mac) d.net) = is_accepted (SetMac n t.mac) d.net h.net (l, pair.here, tt) in
    let leads : Leads (SetMac n t.mac) d.net (after (SetMac n t.mac) d.net) = has_frame (SetMac n t.mac) d.net (after (SetMac n t.mac) d.net) h.net taken in
    let w : IsOnWay d.target l t = way_of d.target d.net stands.toward n l t pair.here pair.at in
    let e : IsEdit SameMac d n (SetMac n t.mac) =
    edited SameMac d h n l t pair stands.toward (SetMac n t.mac) (with_mac t.mac) taken refl (ap (option_map (λ (x : Link). x.mac)) pair.at) leads.0 leads.1 (λ same. differs (ap (λ (x : Link). x.mac) same))
    (record { kind = w.kind; up = w.up; controller = w.controller; bond_port = w.bond_port; addrs = w.addrs })
    (record { mtu = λ h. h; enough_mtu = λ h. h; mac = λ _. refl; near_bond = λ h. h; bond = λ h. h; bridge = λ h. h; controller = λ h. h; port = λ h. h; up = λ h. h }) refl in
    record { safe = e.safe; moves = e.grows; done = e.done; counted = refl }
