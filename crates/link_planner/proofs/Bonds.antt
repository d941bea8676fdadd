-- Options of a bond that are set.
use Rattle.std.proofs.Common.{◌≡◌, inl, inr, ℕ, true, List, Some, None, Ok, refl, sym, ap, ◌∙◌, lit<}
use Rattle.std.specs.Prelude.{option_map}
use Rattle.net_model.specs.Links.{is_bond, ports_of}
use Rattle.net_model.specs.Options.{bond_ok}
use Rattle.net_model.specs.declared.link.Link.{Link}
use Rattle.net_model.specs.declared.link.Kind.TheVariants.{Bond}
use Rattle.net_model.specs.declared.call.Call.TheVariants.{SetBond}
use Rattle.net_model.specs.declared.options.BondMode.{BondMode}
use Rattle.net_model.specs.declared.options.BondOpts.{BondOpts}
use Rattle.net_model.proofs.lemmas.ByName.{found_passing}
use Rattle.net_model.proofs.lemmas.FactsHold.{facts}
use Rattle.kernel_model.specs.Settings.{with_bond}
use Rattle.kernel_model.specs.Kernel.{step, after}
use Rattle.kernel_laws.specs.Frames.{Leads}
use Rattle.kernel_laws.proofs.lemmas.Leading.{has_frame}
use Rattle.kernel_laws.proofs.lemmas.Taking.{is_accepted}
use Rattle.plan_model.specs.Wants.{Wants}
use Rattle.link_planner.specs.declared.phase.Phase.TheVariants.{AttachPorts, SetBonds, SetPrimaries}
use Rattle.link_planner.specs.Drafts.{DraftData, Holds}
use Rattle.link_planner.specs.Pairs.{ArePair}
use Rattle.link_planner.specs.Growing.{IsOnWay, IsToward, HasPort, NearBond, Fits, AlmostSameBond, SameBond}
use Rattle.link_planner.specs.Phases.{MayBuildUp, IsNext}
use Rattle.link_planner.proofs.Editing.{IsEdit, edited, way_of}
use Rattle.link_planner.proofs.Phasing.{whole_at}
use Rattle.link_planner.proofs.Primaries.{bond_mode, bond_still, fitting_stays, port_among, primary_port}
use Rattle.link_planner.proofs.Unused.{shown, unused_bond}

-- of options near target's, whose primary is a port of the bond already, and which are target's where the bond has those
module _ (d : DraftData) (h : Holds d) (toward : IsToward d.target d.net) (n : List ℕ) (l t : Link) (pair : ArePair d n l t)
    (o : BondOpts) (near : NearBond t.bond o) (ready : (p : List ℕ) → o.primary ≡ Some p → HasPort d.net n p) (stays : l.bond ≡ t.bond → o ≡ t.bond) (differs : l.bond ≡ o → ⊥) where
  way : IsOnWay d.target l t
  way = way_of d.target d.net toward n l t pair.here pair.at

  other : l.bond ≡ t.bond → ⊥
  other same = differs (same ∙ sym (stays same))

  differing_bond : is_bond l.kind ≡ true
  differing_bond = shown (is_bond l.kind) (λ off. other (unused_bond d.target d.net h.target h.net toward n l t pair.here pair.at off))

  mode : (m : BondMode) × (l.kind ≡ Bond m)
  mode = bond_mode l.kind differing_bond

  right : bond_ok mode.0 o (ports_of d.net.links n) ≡ true
  right =
      bond_still mode.0 t.bond o (ports_of d.target.links t.name) (ports_of d.net.links n) (((facts d.target h.target).link n t pair.at).bond_right mode.0 (way.kind ∙ mode.1)) near
      (λ p has. let k = ready p has in port_among d.net.links n p k.0 k.1 k.2)

  taken : step (SetBond n o) d.net ≡ Ok (after (SetBond n o) d.net)
  taken = is_accepted (SetBond n o) d.net h.net (l, pair.here, (mode.0, mode.1, right))

  leads : Leads (SetBond n o) d.net (after (SetBond n o) d.net)
  leads = has_frame (SetBond n o) d.net (after (SetBond n o) d.net) h.net taken

  -- these are target's options, or those without the primary
  wanted : NearBond t.bond o → Wants d.start d.target (SetBond n o)
  wanted (inl same) = inl (ap (option_map (λ (x : Link). x.bond)) pair.at ∙ ap Some (sym same))
  wanted (inr without) = inr (ap (option_map (λ (x : Link). record x.bond { primary = None })) pair.at ∙ ap Some (sym without))

  bond_edit : (R : Link → Link → Type 0) → R (with_bond o l) t → IsEdit R d n (SetBond n o)
  bond_edit R reached =
      edited R d h n l t pair toward (SetBond n o) (with_bond o) taken refl (wanted near) leads.0 leads.1 (λ same. other (ap (λ (x : Link). x.bond) same))
      (record { kind = way.kind; up = way.up; controller = way.controller; bond_port = way.bond_port; addrs = way.addrs })
      (record { mtu = λ h. h; enough_mtu = λ h. h; mac = λ h. h; near_bond = λ _. near; bond = stays; bridge = λ h. h; controller = λ h. h; port = λ h. h; up = λ h. h }) reached

pub bond_next : (d : DraftData) → Holds d → (n : List ℕ) (l t : Link) → ArePair d n l t → MayBuildUp 7 d → (o : BondOpts) → Fits d.net n t.bond o → (l.bond ≡ o → ⊥) → IsNext SetBonds d n (SetBond n o)
bond_next d h n l t pair stands o fits differs =
    let stays : l.bond ≡ t.bond → o ≡ t.bond = fitting_stays d.net h.net n l pair.here t.bond o fits in
    let e : IsEdit AlmostSameBond d n (SetBond n o) = bond_edit d h stands.toward n l t pair o fits.near fits.ready stays differs AlmostSameBond fits.near in
    record {
      safe = e.safe;
      moves = e.grows;
      done = e.done;
      counted = found_passing (λ (x : Link). is_bond x.kind) d.target.links n t pair.at (ap is_bond (way d h stands.toward n l t pair o fits.near fits.ready stays differs).kind ∙ differing_bond d h stands.toward n l t pair o fits.near fits.ready stays differs);
    }

-- where all ports are attached, the primary of target is a port of the bond
pub primary_next : (d : DraftData) → Holds d → (n : List ℕ) (l t : Link) → ArePair d n l t → MayBuildUp 11 d → (l.bond ≡ t.bond → ⊥) → IsNext SetPrimaries d n (SetBond n t.bond)
primary_next d h n l t pair stands differs =
    let ready : (p : List ℕ) → t.bond.primary ≡ Some p → HasPort d.net n p = λ p has.
    let there = primary_port d.target h.target n t pair.at p has in
    let here = whole_at 11 d (lit< tt) stands p there.0 there.1 in
    (here.0, here.1, stands.done AttachPorts refl (lit< tt) p here.0 there.0 here.1 there.1 ∙ there.2) in
    let e : IsEdit SameBond d n (SetBond n t.bond) = bond_edit d h stands.toward n l t pair t.bond (inl refl) ready (λ _. refl) differs SameBond refl in
    record { safe = e.safe; moves = e.grows; done = e.done; counted = refl }
