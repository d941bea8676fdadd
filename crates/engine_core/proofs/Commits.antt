-- What a commit keeps.
use Rattle.std.proofs.Common.{◌≡◌, inl, inr, ℕ, sym, ap, ◌∙◌, Option, Some, None, false}
use Rattle.host_core.specs.HostView.{State, HostView, HasNet}
use Rattle.host_core.specs.Stops.{Steps, Stays}
use Rattle.checkpoint_cell.specs.declared.Phase.{Phase}
use Rattle.checkpoint_cell.specs.declared.Phase.TheVariants.{Applying, Waiting}
use Rattle.checkpoint_cell.specs.Cell.{Checkpoint, cell_of, applying, is_due}
use Rattle.checkpoint_cell.specs.Steps.{CellIn, Holds, NoneOr}
use Rattle.engine_model.specs.Sound.{Sound}
use Rattle.engine_model.specs.Stations.{Waits, Kept, Ends, committed, IsCommitted}
use Rattle.engine_model.proofs.lemmas.Leading.{cell_kept, kept_stays, kept_on, sound_stays}
use Rattle.engine_model.proofs.lemmas.Restores.{clearing, ends_held}
use Rattle.engine_model.proofs.lemmas.Settles.{SetAs}

pub waits_as : (now : ℕ) (cell : Option Checkpoint) (phase : Phase) (made deadline : ℕ) → SetAs cell phase made deadline → phase ≡ Waiting → is_due made deadline now ≡ false → Waits now cell
waits_as now cell phase made deadline set waiting in_time = record {
  checkpoint = set.checkpoint;
  is = set.is;
  waiting = set.phase_is ∙ waiting;
  in_time = (λ i. is_due (set.made_is i) (set.deadline_is i) now) ∙ in_time;
}

-- where a change waits, each pair has the one network
one_net : (now : ℕ) (host : HostView) → host.stops.may_leave host.state → Sound host → Waits now (cell_of host.state.cell) → HasNet host.state.net host
one_net now host here sound waits = elim sound.one [
  | inl (net, all) ↦ (λ s left. all s left ∙ sym (all host.state here))
  | inr (saved, all) ↦
      let is = all host.state here in
      let same : Some waits.checkpoint ≡ Some (applying is.0 is.1 saved) = sym waits.is ∙ is.2 in
      let phase : waits.checkpoint ≡ applying is.0 is.1 saved = cc in
      let wrong : Waiting ≡ Applying = sym waits.waiting ∙ ap (λ (c : Checkpoint). c.phase) phase in
      absurd (cc)
]

pub commits_after : (now : ℕ) (old mid new : HostView) → old.stops.may_leave old.state → Sound old → (waits : Waits now (cell_of old.state.cell)) → Steps Stays old.stops mid.stops → Holds (Some waits.checkpoint) mid
    → Steps (CellIn (NoneOr waits.checkpoint)) mid.stops new.stops → Kept (IsCommitted now old.state) mid new
commits_after now old mid new here sound waits first holds second =
    let w = (sound.fit old.state here).whole waits.checkpoint waits.is in
    let nets : HasNet (Some w.net) mid = λ s left. let from = first.now s left in ap (λ (p : State). p.net) from.2 ∙ one_net now old here sound waits from.0 from.1 ∙ w.is_net in
    cell_kept (IsCommitted now old.state) w.net (Some waits.checkpoint) (NoneOr waits.checkpoint) mid new (ends_held w.net (Some waits.checkpoint) mid nets holds) (sound_stays old mid sound first) second
    (clearing (IsCommitted now old.state) w.net w.saved waits.checkpoint w.devices w.is_saved (waits, λ i. record { net = sym w.is_net i; cell = None }))

pub commits : (now : ℕ) (old mid new : HostView) → old.stops.may_leave old.state → Sound old → (waits : Waits now (cell_of old.state.cell)) → Steps Stays old.stops mid.stops → Holds (Some waits.checkpoint) mid
    → Steps (CellIn (NoneOr waits.checkpoint)) mid.stops new.stops → Kept (IsCommitted now old.state) old new
commits now old mid new here sound waits first holds second =
    kept_on (IsCommitted now old.state) old mid new (kept_stays (IsCommitted now old.state) old mid sound first) (commits_after now old mid new here sound waits first holds second)

pub commits_done : (now : ℕ) (old mid new : HostView) → old.stops.may_leave old.state → Sound old → Waits now (cell_of old.state.cell) → Steps Stays old.stops mid.stops
    → Steps (λ r s. s.net ≡ r.net) mid.stops new.stops → Holds None new → Ends (committed old.state) new
commits_done now old mid new here sound waits first second holds s left =
    let from = second.now s left in
    let start = first.now from.0 from.1 in
    let net : s.net ≡ old.state.net = from.2 ∙ ap (λ (p : State). p.net) start.2 ∙ one_net now old here sound waits start.0 start.1 in
    λ i. record { net = net i; cell = (ap cell_of (holds.sure s left) ∙ holds.cell) i }
