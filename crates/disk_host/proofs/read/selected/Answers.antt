use Rattle.std.proofs.Common.{ℕ, ap, refl, arith}
use Rattle.std.specs.Prelude.{◌==◌}
use Rattle.std.proofs.lemmas.List.{get_or-replicate}
use Rattle.image_slot.proofs.lemmas.Fills.{filled_alike}
use Rattle.disk_host.proofs.read.selected.Goals as goal

pub returns-clause-selected : goal.returns-clause-selected
returns-clause-selected g c = λ tells.
    ap (λ (k : ℕ). k == 1) (filled_alike 0 1 _ _ _ _ refl (λ i lt. get_or-replicate 1 i 0 0 lt) (c.in_ok-read_at.ensures.filled tells) 0 (omega arith))
