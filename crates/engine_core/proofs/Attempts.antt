-- What the parts of a change keep.
use Rattle.std.proofs.Common.{◌≡◌, ◌≢◌, inl, inr, ℕ, [], refl, sym, ap, ◌∙◌, Bool, true, Option, Some, None}
use Rattle.net_model.specs.Hardware.{hardware}
use Rattle.net_model.specs.NetData.{NetData}
use Rattle.host_core.specs.HostView.{HostView}
use Rattle.checkpoint_cell.specs.declared.Phase.TheVariants.{Waiting}
use Rattle.checkpoint_cell.specs.Cell.{Checkpoint, applying, in_phase}
use Rattle.checkpoint_cell.specs.Steps.{NoneOr, EitherPhase}
use Rattle.checkpoint_cell.specs.Settled.{Standing}
use Rattle.engine_model.specs.Undone.{undone, stand}
use Rattle.engine_model.specs.Sound.{Sound}
use Rattle.engine_model.specs.Stations.{Near, Only, Ends}
use Rattle.checkpoint_cell.specs.Settled.{restored_to}
use Rattle.engine_core.specs.Attempts.{IsOnWay, done}
use Rattle.engine_model.proofs.lemmas.Leading.{alike_is, Good, saved_alike, alike_undone}

-- a checkpoint that may be put
pub putting : (made deadline : ℕ) (from : NetData) (after : Option Checkpoint) → NoneOr (applying made deadline from) after → Good (Only (restored_to from)) from None after
putting made deadline from after (inl none) = record {
  like = inl (alike_is (stand from None) (stand from after) (λ i. stand from (sym none i)));
  whole = λ c is. let e : None ≡ Some c = sym none ∙ is in absurd (cc);
}
putting made deadline from after (inr set) = record {
  like = inr (record { station = restored_to from; is = refl; like = saved_alike made deadline from (stand from after) set });
  whole = λ c is. let e : Some (applying made deadline from) ≡ Some c = sym set ∙ is in let same : applying made deadline from ≡ c = cc in (from, ap (λ (k : Checkpoint). k.net) (sym same), refl);
}

-- a change that may be let wait
pub marking : (made deadline : ℕ) (from to : NetData) → hardware to.links ≡ hardware from.links → (after : Option Checkpoint) → EitherPhase (applying made deadline from) after
    → Good (IsOnWay true made deadline from to) to (Some (applying made deadline from)) after
marking made deadline from to devices after (inl applies) = record {
  like = inr (record { station = restored_to from; is = inl refl; like = saved_alike made deadline from (stand to after) applies });
  whole = λ c is. let e : Some (applying made deadline from) ≡ Some c = sym applies ∙ is in let same : applying made deadline from ≡ c = cc in (from, ap (λ (k : Checkpoint). k.net) (sym same), devices);
}
marking made deadline from to devices after (inr waits) = record {
  like = inr (record { station = done true made deadline from to; is = inr (refl, refl); like = alike_is (done true made deadline from to) (stand to after) (λ i. stand to (sym waits i)) });
  whole = λ c is. let e : Some (in_phase Waiting (applying made deadline from)) ≡ Some c = sym waits ∙ is in let same : in_phase Waiting (applying made deadline from) ≡ c = cc in (from, ap (λ (k : Checkpoint). k.net) (sym same), devices);
}

pub filled : (from : NetData) (host : HostView) → host.stops.may_leave host.state → Sound host → Ends (restored_to from) host → host.state.cell ≢ []
filled from host here sound ends = (sound.fit host.state here).filled from (ap (λ (p : Standing). p.net) (ends host.state here))

-- all that is on the way goes back to the network before
pub way_back : (no_commit : Bool) (made deadline : ℕ) (from to : NetData) (s : Standing) → Near (IsOnWay no_commit made deadline from to) s → undone s ≡ Some (restored_to from)
way_back no_commit made deadline from to s near =
    let there : undone near.station ≡ Some (restored_to from) = elim near.is [
      | inl is ↦ ap undone is
      | inr (waits, is) ↦ ap undone is
    ] in
    sym (alike_undone near.station s near.like) ∙ there
