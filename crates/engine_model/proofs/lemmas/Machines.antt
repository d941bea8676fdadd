-- What is left, seen from what was read.
use Rattle.std.proofs.Common.{◌≡◌, inl, inr, refl, sym, ap, ◌∙◌}
use Rattle.host_core.specs.HostView.{State, HostView}
use Rattle.host_core.specs.Stops.{Steps, Stays}
use Rattle.checkpoint_cell.specs.Cell.{cell_of}
use Rattle.checkpoint_cell.specs.Steps.{Holds}
use Rattle.checkpoint_cell.specs.Settled.{Standing, standing, settled, Alike}
use Rattle.engine_model.specs.Sound.{Sound}
use Rattle.engine_model.specs.Stations.{Stands, Only, Kept, Ends, FromRead, entry_of, at, left_by, Within, Before, BeforeAsRead, Either}
use Rattle.engine_model.proofs.lemmas.Leading.{alike_is, near_wider, saved_alike}

-- ---- what is left, seen from what was read

module _ (old new : HostView) where
  -- nothing more than before
  pub before_within : Steps Stays old.stops new.stops → Within (left_by new) (Before (entry_of old))
  before_within steps stands left =
      let from = steps.now left.0 left.1 in
      record { station = standing from.0; is = (from.0, from.1, refl); like = alike_is (standing from.0) stands (ap standing (sym from.2) ∙ left.2) }

  -- nothing more than before, with the checkpoint as it reads
  pub read_within : Steps Stays old.stops new.stops → Holds (cell_of old.state.cell) new → Within (left_by new) (BeforeAsRead (entry_of old))
  read_within steps holds stands left =
      let from = steps.now left.0 left.1 in
      let cell : cell_of from.0.cell ≡ cell_of old.state.cell = ap (λ (s : State). cell_of s.cell) (sym from.2) ∙ ap cell_of (holds.sure left.0 left.1) ∙ holds.cell in
      record { station = standing from.0; is = ((from.0, from.1, refl), cell); like = alike_is (standing from.0) stands (ap standing (sym from.2) ∙ left.2) }

  -- this alone is left
  pub ends_within : (after : Standing) → Ends after new → Within (left_by new) (Only after)
  ends_within after ends stands left = record { station = after; is = refl; like = alike_is after stands (sym (ends left.0 left.1) ∙ left.2) }

  -- and so it reads
  pub ends_reads : (after : Standing) → new.stops.may_leave new.state → Ends after new → Within (Only (standing new.state)) (Only after)
  ends_reads after here ends stands is = record { station = after; is = refl; like = alike_is after stands (sym (ends new.state here) ∙ sym is) }

  -- what reads as before settles alike
  pub same_reads : new.state ≡ old.state → (stands : Standing) → stands ≡ standing new.state → Alike (standing old.state) stands
  same_reads same stands is = alike_is (standing old.state) stands (ap standing (sym same) ∙ sym is)

  module _ (P : Stands) (left_old : old.stops.may_leave old.state) (going : FromRead P old new) where
    -- what is left is what read before, or a station
    pub going_within : Within (left_by new) (Either (BeforeAsRead (entry_of old)) P)
    going_within stands left = elim (going left.0 left.1) [
      | inl like ↦ record { station = standing old.state; is = inl ((old.state, left_old, refl), refl); like = λ now. like now ∙ ap (settled now) left.2 }
      | inr near ↦ record { station = near.station; is = inr near.is; like = λ now. near.like now ∙ ap (settled now) left.2 }
    ]

    -- it is what could be left before, or a station
    pub going_before : Within (left_by new) (Either (Before (entry_of old)) P)
    going_before stands left = near_wider (Either (BeforeAsRead (entry_of old)) P) (Either (Before (entry_of old)) P) (λ a is. elim is [ inl b ↦ inl b.0 | inr p ↦ inr p ]) stands (going_within stands left)

    -- it reads as before, or as a station
    pub going_reads : new.stops.may_leave new.state → Within (Only (standing new.state)) (Either (BeforeAsRead (at (standing old.state))) P)
    going_reads here stands is = elim (going new.state here) [
      | inl like ↦ record { station = standing old.state; is = inl (refl, refl); like = λ now. like now ∙ ap (settled now) (sym is) }
      | inr near ↦ record { station = near.station; is = inr near.is; like = λ now. near.like now ∙ ap (settled now) (sym is) }
    ]

    -- it reads as before, or as a station, whatever the checkpoint
    pub going_reads_before : new.stops.may_leave new.state → Within (Only (standing new.state)) (Either (Before (at (standing old.state))) P)
    going_reads_before here stands is = near_wider (Either (BeforeAsRead (at (standing old.state))) P) (Either (Before (at (standing old.state))) P) (λ a is. elim is [ inl b ↦ inl b.0 | inr p ↦ inr p ]) stands (going_reads here stands is)

-- from a barrier on all that is left settles like what is read
pub from_read : (P : Stands) (old mid new : HostView) → old.stops.may_leave old.state → Sound old → Steps Stays old.stops mid.stops → Holds (cell_of old.state.cell) mid → Kept P mid new → FromRead P old new
from_read P old mid new here sound steps holds kept s left =
    let from = kept.during.now s left in
    let r = from.0 in
    let was = steps.now r from.1 in
    let cell : cell_of r.cell ≡ cell_of old.state.cell = ap cell_of (holds.sure r from.1) ∙ holds.cell in
    let alike : Alike (standing old.state) (standing r) = elim sound.one [
      | inl (net, all) ↦
          let same : r.net ≡ old.state.net = ap (λ (p : State). p.net) was.2 ∙ all was.0 was.1 ∙ sym (all old.state here) in
          alike_is (standing old.state) (standing r) (λ i. record { net = sym same i; cell = sym cell i })
      | inr (saved, all) ↦
          let is = all old.state here in
          λ now. sym (saved_alike is.0 is.1 saved (standing old.state) is.2 now) ∙ saved_alike is.0 is.1 saved (standing r) (cell ∙ is.2) now
    ] in
    elim from.2.like [
      | inl like ↦ inl (λ now. alike now ∙ like now)
      | inr near ↦ inr near
    ]

-- from what was read over fewer stations, so over more
pub going_as : (P Q : Stands) (old new : HostView) → ((a : Standing) → P a → Q a) → FromRead P old new → FromRead Q old new
going_as P Q old new wider going s left = elim (going s left) [ inl like ↦ inl like | inr near ↦ inr (near_wider P Q wider (standing s) near) ]
