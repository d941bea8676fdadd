-- Two reads one after another touch nothing.
use Rattle.std.proofs.Common.{◌∙◌}
use Rattle.host_core.specs.Stops.{Stays}
use Rattle.host_core.specs.HostView.{HostView, Untouched}
use Rattle.host_core.proofs.lemmas.Moments.{follow}

pub untouched_twice : (tells : Type 0) (old mid new : HostView) → Untouched tells old mid → Untouched tells mid new → Untouched tells old new
untouched_twice tells old mid new one two = record {
  kernel = record {
    kernel = two.kernel.kernel ∙ one.kernel.kernel;
    settled = λ settled. two.kernel.settled (one.kernel.settled settled);
    fresh = λ told. two.kernel.fresh told ∙ one.kernel.fresh told;
    net = λ told. two.kernel.net told ∙ one.kernel.net told;
  };
  cell = λ told. two.cell told ∙ one.cell told;
  stops = follow Stays Stays Stays old.stops mid.stops new.stops one.stops two.stops (λ r s left same. same) (λ q r s begin left a b. b ∙ a);
}
