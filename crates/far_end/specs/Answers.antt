-- What the far end answers, in the words of a peer.
use Rattle.std.specs.Prelude.{◌≡◌, ◌≤◌, ℕ, List, take, Option, None, Result, IfOk}
use Rattle.net_model.specs.declared.call.Call.{Call}
use Rattle.host_core.specs.Faults.{HasCause}
use Rattle.host_core.specs.declared.faults.Failed.{Failed}
use Rattle.peer_core.specs.PeerView.{PeerView, Untouched}
use Rattle.peer_core.specs.Protocol.{IsDump, IsRequest, Dumped, Calls, Answered}
use Rattle.far_end.specs.declared.far_end.FarEnd.{FarEnd}

-- a request that is neither a dump nor a call isn't answered, and the host is the very same
abbrev pub AnswersOnly : {H : Type 0} → List ℕ → Option (List ℕ) → FarEnd H → FarEnd H → Type 0
AnswersOnly request answer old new = (IsDump request → ⊥) → ((call : Call) → IsRequest call request → ⊥) → (answer ≡ None) × (new.host ≡ old.host)

-- the answer to a dump, in a buffer that has so many bytes
pub record AnswersDump (tells : Type 0) (old new : PeerView) (room : ℕ) (answer : List ℕ) (result : Result ℕ Failed) : Type 0 where
  pub bound : IfOk result (λ n. n ≤ room)
  pub untouched : Untouched tells old new
  pub dumped : IfOk result (λ n. Dumped tells old new (take n answer))
  pub cause : HasCause old.faults new.faults result

-- the answer to a call
pub record AnswersCall (honest : Type 0) (call : Call) (old new : PeerView) (room : ℕ) (answer : List ℕ) (result : Result ℕ Failed) : Type 0 where
  pub bound : IfOk result (λ n. n ≤ room)
  pub calls : Calls honest honest call old new
  pub answered : IfOk result (λ n. Answered honest honest call old new (take n answer))
  pub cause : HasCause old.faults new.faults result
