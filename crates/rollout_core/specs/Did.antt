-- What a step of a rollout did, and what was told of it.
use Rattle.std.specs.Prelude.{◌≡◌, ⊤, ℕ, true, false, List, [], ◌∷◌, ◌++◌, slice_get, slice_set, option_to_list, Some, Result}
use Rattle.document_model.specs.declared.Doc.{Doc}
use Rattle.host_core.specs.declared.Host.{Ghosts as HostGhosts}
use Rattle.engine_model.specs.Machine.{Asked, asked}
use Rattle.engine_model.specs.declared.answers.ApplyOpts.{ApplyOpts}
use Rattle.engine_model.specs.declared.answers.Applied.{Applied}
use Rattle.engine_model.specs.declared.answers.ApplyFault.{ApplyFault}
use Rattle.engine_model.specs.declared.answers.CommitFault.{CommitFault}
use Rattle.engine_model.specs.declared.answers.BackFault.{BackFault}
use Rattle.engine_model.specs.declared.answers.Checked.{Checked}
use Rattle.engine_model.specs.declared.answers.CheckFault.{CheckFault}
use Rattle.rollout_model.specs.declared.node.Event.{Event}
use Rattle.rollout_model.specs.declared.node.Event.TheVariants as ev
use Rattle.rollout_model.specs.declared.node.Action.{Action}
use Rattle.rollout_model.specs.declared.node.Action.TheVariants.{Start, Probe, Commit, Rollback, Finish}
use Rattle.rollout_core.specs.Answers.{opening, probing, closing, returning}
use Rattle.rollout_core.specs.Calls.{Applies, Looks, Commits, TakesBack}
use Rattle.rollout_core.specs.declared.told.Told.{Told}

-- the events that were told, in order
abbrev pub events_of : Told → List Event
events_of told = option_to_list told.first ++ option_to_list told.second

-- a change waits until it is committed, and is verified before
abbrev pub waits : ℕ → ApplyOpts
waits timeout = record { no_commit = true; no_verify = false; timeout = timeout }

-- what is asked of each node at this moment
abbrev pub change : Doc → ℕ → ℕ → Asked
change doc timeout now = asked doc (waits timeout) now

-- one host is called; each other one is the very same
pub record OnHost {H : Type 0} (i : ℕ) (old new : List H) (P : H → H → Type 0) : Type 0 where
  pub before : H
  pub after : H
  pub is_before : slice_get old i ≡ Some before
  pub is_after : new ≡ slice_set old i after
  pub called : P before after

-- an action was carried out on the hosts, and gave these events
abbrev pub Did : {H : Type 0} → HostGhosts H → Asked → Action → List H → List H → List Event → Type 0
Did H a (Start i) old new events = (answer : Result Applied ApplyFault)
    × OnHost i old new (λ before after. Applies H.tells H.honest (H.told before) (H.told after) a answer) × (events ≡ ev.Start i ∷ opening i answer ∷ [])
Did H a (Probe i) old new events = (answer : Result Checked CheckFault)
    × OnHost i old new (λ before after. Looks H.tells H.honest (H.told before) (H.told after) answer) × (events ≡ probing a.now i answer ∷ [])
Did H a (Commit i) old new events = (answer : Result ⊤ CommitFault)
    × OnHost i old new (λ before after. Commits H.tells H.honest (H.told before) (H.told after) a.now answer) × (events ≡ closing i answer ∷ [])
Did H a (Rollback i) old new events = (answer : Result ⊤ BackFault)
    × OnHost i old new (λ before after. TakesBack H.tells H.honest (H.told before) (H.told after) answer) × (events ≡ returning i answer ∷ [])
Did H a Finish old new events = (new ≡ old) × (events ≡ [])
