-- Bytes that are as they were.
use Rattle.std.proofs.Common.{ℕ, List, length, take, refl, ap, arith}
use Rattle.std.proofs.lemmas.List.{take_all}
use Rattle.host_core.specs.Bytes.{Torn}

-- nothing is torn
pub torn_same : (at len : ℕ) (bytes : List ℕ) → Torn at len bytes bytes
torn_same at len bytes = record {
  before = ap (λ (l : List ℕ). take at l) (take_all (length bytes) bytes (omega arith));
  after = refl;
  no_shorter = omega arith;
  no_longer = omega arith;
}
