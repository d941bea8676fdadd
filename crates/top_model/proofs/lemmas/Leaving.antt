-- What stops leave at each moment of a call.
use Rattle.std.proofs.Common.{inl, inr, refl, arith}
use Rattle.host_core.specs.HostView.{State, HostView}
use Rattle.host_core.specs.Stops.{IsLawful}
use Rattle.checkpoint_cell.specs.Settled.{Standing, standing}
use Rattle.engine_model.specs.Stations.{Stands, Near, Either, Leads, Kept, left_by}

-- near one of some stations it is near one of more
pub wider : (P Q : Stands) → ((x : Standing) → P x → Q x) → (s : Standing) → Near P s → Near Q s
wider P Q more s near = record { station = near.station; is = more near.station near.is; like = near.like }

module _ (stations : Stands) (old new : HostView) (lawful : IsLawful old.stops) (kept : Kept stations old new) where
  -- after a step
  led : (s before : State) → old.stops.may_leave before → Leads stations before s → Near (Either (left_by old) stations) (standing s)
  led s before left leads = elim (leads.like) as (λ v. Near (Either (left_by old) stations) (standing s)) [
    | inl alike ↦ record { station = standing before; is = inl (before, left, refl); like = alike }
    | inr near ↦ wider stations (Either (left_by old) stations) (λ x is. inr is) (standing s) near
  ]

  -- each pair left since the entry settles like what could be left there, or like a station
  pub on_the_way : (s : State) → new.stops.left_since old.stops.moment s → Near (Either (left_by old) stations) (standing s)
  on_the_way s left = elim (kept.during.since old.stops.moment s (omega arith) left) as (λ v. Near (Either (left_by old) stations) (standing s)) [
    | inl before ↦ record { station = standing s; is = inl (s, lawful.only_now s before, refl); like = λ now. refl }
    | inr after ↦ led s after.0 after.1 after.2
  ]
