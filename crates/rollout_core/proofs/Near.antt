-- How what holds of a node goes on from one call to the next.
use Rattle.std.proofs.Common.{◌≡◌, inl, inr, ◌∙◌, ℕ, ◌≤◌, Bool, true, refl, ap, sym, Option, Some, None, arith}
use Rattle.document_model.specs.declared.Doc.{Doc}
use Rattle.host_core.specs.HostView.{State, HostView}
use Rattle.checkpoint_cell.specs.Settled.{Standing, standing, settled, settled_from, Alike}
use Rattle.engine_model.specs.Sound.{Fit}
use Rattle.engine_model.specs.Stations.{Stands, Near, Within, Before, BeforeAsRead, Kept, Leads, entry_of, left_by}
use Rattle.engine_model.proofs.lemmas.Leading.{alike_is, near_on, near_wider}
use Rattle.rollout_model.specs.declared.node.NodeState.{NodeState}
use Rattle.rollout_model.specs.declared.node.NodeState.TheVariants.{Fresh, Starting, Opened, Probed, Committed, Restored, Doubt}
use Rattle.rollout_core.specs.Places.{Station, AtRest, ReadsAs, BegunBy, NodeHolds}

-- without a checkpoint what stands settles to itself
pub settled_alone : (now : ℕ) (a : Standing) → a.cell ≡ None → settled now a ≡ Some a
settled_alone now a none = ap (settled_from now a) none

-- two of that kind that settle alike are the same
pub alone_same : (a b : Standing) → a.cell ≡ None → b.cell ≡ None → Alike a b → b ≡ a
alone_same a b none too like = let e : Some a ≡ Some b = sym (settled_alone 0 a none) ∙ like 0 ∙ settled_alone 0 b too in cc

-- all of it is near more
pub widen : (left P Q : Stands) → ((a : Standing) → P a → Q a) → Within left P → Within left Q
widen left P Q wider within stands is = near_wider P Q wider stands (within stands is)

-- what is near what is near these is near these
pub near_bind : (P Q : Stands) → ((a : Standing) → P a → Near Q a) → (b : Standing) → Near P b → Near Q b
near_bind P Q each b near = near_on Q near.station b (each near.station near.is) near.like

pub within_bind : (left P Q : Stands) → ((a : Standing) → P a → Near Q a) → Within left P → Within left Q
within_bind left P Q each within stands is = near_bind P Q each stands (within stands is)

-- a place is near itself
pub near_self : (P : Stands) (a : Standing) → P a → Near P a
near_self P a is = record { station = a; is = is; like = alike_is a a refl }

module _ (P : Stands) (old new : HostView) where
  -- nothing more is left than before
  pub through : Within (left_by old) P → Within (left_by new) (Before (entry_of old)) → Within (left_by new) P
  through before within = within_bind (left_by new) (left_by old) P before within

  pub through_read : Within (left_by old) P → Within (left_by new) (BeforeAsRead (entry_of old)) → Within (left_by new) P
  through_read before within = within_bind (left_by new) (BeforeAsRead (entry_of old)) P (λ a is. before a is.0) within

module _ (doc : Doc) (timeout : ℕ) (stood : Standing) where
  -- where a node may be between two steps it may be at each moment
  pub place_station : (begun : Option ℕ) (good : Bool) (state : NodeState) (a : Standing) → AtRest doc timeout stood begun good state a → Station doc timeout stood begun good a
  place_station begun good Fresh a is = inl is
  place_station begun good Starting a is = is
  place_station begun good Opened a is = inr (inl is)
  place_station begun good Probed a is = inr (inl is.1)
  place_station begun good Committed a is = inr (inr is)
  place_station begun good Restored a is = inl is
  place_station begun good Doubt a is = is

  -- once found good it stays so
  pub station_good : (begun : Option ℕ) (good later : Bool) → (good ≡ true → later ≡ true) → (a : Standing) → Station doc timeout stood begun good a → Station doc timeout stood begun later a
  station_good begun good later up a is = elim is [
    | inl here ↦ inl here
    | inr more ↦ elim more [ inl waits ↦ inr (inl waits) | inr merged ↦ inr (inr (up merged.0, merged.1)) ]
  ]

  -- a node that wasn't begun is as before
  pub station_begun : (begun : Option ℕ) (good : Bool) → (a : Standing) → Station doc timeout stood None good a → Station doc timeout stood begun good a
  station_begun begun good a is = elim is [
    | inl here ↦ inl here
    | inr more ↦ elim more [ inl none ↦ absurd none | inr merged ↦ inr (inr merged) ]
  ]

module _ (doc : Doc) (timeout : ℕ) (first old new : HostView) (begun : Option ℕ) (good : Bool) (state : NodeState) (before : NodeHolds doc timeout begun good state first old) where
  abbrev stood : Standing
  stood = standing first.state

  module _ (since : Option ℕ) (later : Bool) (wider : (a : Standing) → Station doc timeout stood begun good a → Station doc timeout stood since later a) (Q : Stands) (kept : Kept Q old new)
      (each : (a : Standing) → Q a → Near (Station doc timeout stood since later) a) where
    abbrev S : Stands
    S = Station doc timeout stood since later

    from_left : (r s : State) → old.stops.may_leave r → Leads Q r s → Near S (standing s)
    from_left r s may leads = elim leads.like [
      | inl like ↦
          let near = before.left (standing r) (r, may, refl) in
          near_on S (standing r) (standing s)
          (near_wider (AtRest doc timeout stood begun good state) S (λ a is. wider a (place_station doc timeout stood begun good state a is)) (standing r) near) like
      | inr near ↦ near_bind Q S each (standing s) near
    ]

    on_way : (s : State) → new.stops.left_since first.stops.moment s → Near S (standing s)
    on_way s left = elim (kept.during.since first.stops.moment s before.moment left) [
      | inl was ↦ near_wider (Station doc timeout stood begun good) S wider (standing s) (before.during s was)
      | inr from ↦ from_left from.0 s from.1 from.2
    ]

    fit_on_way : (s : State) → new.stops.left_since first.stops.moment s → Fit s
    fit_on_way s left = elim (kept.during.since first.stops.moment s before.moment left) [
      | inl was ↦ before.fits s was
      | inr from ↦ from.2.fit (before.sound.fit from.0 from.1)
    ]

    -- a call that leaves this of a node
    pub goes_on : (to : NodeState) → BegunBy to since → ReadsAs doc timeout stood since later to (standing new.state) → Within (left_by new) (AtRest doc timeout stood since later to) → old.faults ≤ new.faults
        → NodeHolds doc timeout since later to first new
    goes_on to by reads left faults = record {
      empty = before.empty;
      begun_by = by;
      sound = kept.sound;
      reads = reads;
      left = left;
      during = on_way;
      fits = fit_on_way;
      later = omega (arith, before.later, faults);
      moment = omega (arith, before.moment, kept.during.later);
    }
