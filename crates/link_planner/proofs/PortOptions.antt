-- Options of a bridge's port that are set.
use Rattle.std.proofs.Common.{◌≡◌, ℕ, true, List, Some, Ok, refl, ap, lit<}
use Rattle.std.specs.Prelude.{option_map}
use Rattle.net_model.specs.Links.{is_bridge}
use Rattle.net_model.specs.declared.link.Link.{Link}
use Rattle.net_model.specs.declared.call.Call.TheVariants.{SetPort}
use Rattle.net_model.proofs.lemmas.FactsHold.{facts}
use Rattle.kernel_model.specs.Ports.{with_port}
use Rattle.kernel_model.specs.Kernel.{step, after}
use Rattle.kernel_laws.specs.Frames.{Leads}
use Rattle.kernel_laws.specs.Takes.{IsThere}
use Rattle.kernel_laws.proofs.lemmas.Leading.{has_frame}
use Rattle.kernel_laws.proofs.lemmas.Taking.{is_accepted}
use Rattle.link_planner.specs.declared.phase.Phase.TheVariants.{AttachPorts, SetPorts}
use Rattle.link_planner.specs.Drafts.{DraftData, Holds}
use Rattle.link_planner.specs.Pairs.{ArePair}
use Rattle.link_planner.specs.Growing.{IsOnWay, SamePort}
use Rattle.link_planner.specs.Phases.{MayBuildUp, IsNext}
use Rattle.link_planner.proofs.Editing.{IsEdit, edited, way_of}
use Rattle.link_planner.proofs.Phasing.{whole_at}
use Rattle.link_planner.proofs.Unused.{port_bridge}

pub port_next : (d : DraftData) → Holds d → (n : List ℕ) (l t : Link) → ArePair d n l t → MayBuildUp 10 d → (l.port ≡ t.port → ⊥) → IsNext SetPorts d n (SetPort n t.port)
port_next d h n l t pair stands differs =
    let same : l.controller ≡ t.controller = stands.done AttachPorts refl (lit< tt) n l t pair.here pair.at in
    let bridge : (c : List ℕ) × (l.controller ≡ Some c) × IsThere c d.net.links (λ b. is_bridge b.kind ≡ true) = port_bridge d.target d.net h.target h.net stands.toward n l t pair.here pair.at (whole_at 10 d (lit< tt) stands) same differs in
    let taken : step (SetPort n t.port) d.net ≡ Ok (after (SetPort n t.port) d.net) = is_accepted (SetPort n t.port) d.net h.net (((facts d.target h.target).link n t pair.at).port_right, (l, pair.here, bridge)) in
    let leads : Leads (SetPort n t.port) d.net (after (SetPort n t.port) d.net) = has_frame (SetPort n t.port) d.net (after (SetPort n t.port) d.net) h.net taken in
    let w : IsOnWay d.target l t = way_of d.target d.net stands.toward n l t pair.here pair.at in
    let e : IsEdit SamePort d n (SetPort n t.port) =
    edited SamePort d h n l t pair stands.toward (SetPort n t.port) (with_port t.port) taken refl (ap (option_map (λ (x : Link). x.port)) pair.at) leads.0 leads.1 (λ same. differs (ap (λ (x : Link). x.port) same))
    (record { kind = w.kind; up = w.up; controller = w.controller; bond_port = w.bond_port; addrs = w.addrs })
    (record { mtu = λ h. h; enough_mtu = λ h. h; mac = λ h. h; near_bond = λ h. h; bond = λ h. h; bridge = λ h. h; controller = λ h. h; port = λ _. refl; up = λ h. h }) refl in
    record { safe = e.safe; moves = e.grows; done = e.done; counted = refl }
