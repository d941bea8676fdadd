-- Reads one after another touch nothing.
use Rattle.std.proofs.Common.{◌∙◌, ◌≤◌, ℕ, arith}
use Rattle.host_core.specs.Stops.{Stops, Steps, Stays}
use Rattle.host_core.specs.DiskView.{Areas, DiskView, Untouched}
use Rattle.host_core.proofs.lemmas.Moments.{follow}

pub stays_twice : (old mid new : Stops Areas) → Steps Stays old mid → Steps Stays mid new → Steps Stays old new
stays_twice old mid new one two = follow Stays Stays Stays old mid new one two (λ r s left same. same) (λ q r s begin left a b. b ∙ a)

pub untouched_twice : (tells : Type 0) (old mid new : DiskView) → Untouched tells old mid → Untouched tells mid new → Untouched tells old new
untouched_twice tells old mid new one two = record {
  areas = λ told. two.areas told ∙ one.areas told;
  stops = stays_twice old.stops mid.stops new.stops one.stops two.stops;
}

pub later_twice : (old mid new : ℕ) → old ≤ mid → mid ≤ new → old ≤ new
later_twice old mid new one two = omega (arith, one, two)
