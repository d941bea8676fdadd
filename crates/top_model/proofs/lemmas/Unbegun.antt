-- A command that began nothing, in one step or in several, left the host as it was.
use Rattle.std.proofs.Common.{◌⊎◌, inl, inr, ◌∙◌}
use Rattle.host_core.specs.HostView.{HostView}
use Rattle.engine_model.specs.Failing.{IsUnbegun}
use Rattle.engine_model.specs.Faults.{HasTaken}
use Rattle.engine_model.proofs.lemmas.Leading.{both}
use Rattle.engine_model.proofs.lemmas.Refusals.{unmade_on}
use Rattle.top_model.specs.Runs.{Run, reads}
use Rattle.top_model.specs.Answered.{Unchanged, UnchangedOrTaken}

-- nothing was begun, and then again nothing
pub unbegun_on : (tells : Type 0) (old mid new : HostView) → IsUnbegun tells old mid → IsUnbegun tells mid new → IsUnbegun tells old new
unbegun_on tells old mid new one two = record {
  stops = both old.stops mid.stops new.stops one.stops two.stops;
  same = λ t. two.same t ∙ one.same t;
  unmade = unmade_on old.kernel mid.kernel new.kernel one.unmade two.unmade;
}

-- the host is as it was
pub unchanged : (r : Run) → IsUnbegun r.host_tells r.host r.host_after → Unchanged r
unchanged r idle = record { state = idle.same; stops = idle.stops }

-- or a change was to be taken back first
pub unchanged_or_taken : (r : Run) → (r.host_tells → HasTaken r.now (reads r).cell) ⊎ IsUnbegun r.host_tells r.host r.host_after → UnchangedOrTaken r
unchanged_or_taken r (inl taken) = inl taken
unchanged_or_taken r (inr idle) = inr (unchanged r idle)
