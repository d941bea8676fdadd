use Rattle.std.proofs.Common.{ℕ, ap}
use Rattle.std.specs.Prelude.{◌==◌}
use Rattle.disk_host.proofs.Makes.{gate_read}
use Rattle.disk_host.proofs.making.is_open.Goals as goal

pub returns-clause-opens : goal.returns-clause-opens
returns-clause-opens g c = λ tells. ap (λ (k : ℕ). k == 1) (gate_read _ _ _ (c.in_ok-read_at.ensures.filled tells))
