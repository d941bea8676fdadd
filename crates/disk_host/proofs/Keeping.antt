-- What a host keeps, whole and part by part.
use Rattle.std.proofs.Common.{ℕ, Bool, List, Option, Some, None, refl, ap, ◌∙◌}
use Rattle.std.specs.Option.{ForSome}
use Rattle.net_model.specs.NetData.{NetData}
use Rattle.net_image.proofs.lemmas.Reading.{map_some}
use Rattle.call_journal.specs.Area.{Held, held, kernel_held}
use Rattle.disk_host.specs.Kept.{IsKept, IsKnown, IsTold}
use Rattle.disk_host.specs.declared.kept.Kept.{Kept}

kept_of : (kept : Kept) (area : List ℕ) → IsTold kept area → IsKept kept area
kept_of kept area (second, parts) =
    let m = map_some (kernel_held area) (λ (k : Held). (k.first_image, k.net, k.gate, k.spare)) (kept.first_image, kept.net, kept.gate, kept.spare) parts in
    record { second = second; held = m.1 ∙ ap (λ (t : Bool × NetData × Option ℕ × ℕ). Some (held t.0 t.1 t.2 t.3)) m.2 }

-- what is told part by part is known
pub known_of : (kept : Option Kept) (area : List ℕ) (tells : Type 0) → ForSome kept (λ k. tells → IsTold k area) → tells → IsKnown kept area
known_of None area tells is t = tt
known_of (Some k) area tells is t = kept_of k area (is k refl t)
