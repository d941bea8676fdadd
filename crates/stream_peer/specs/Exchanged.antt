-- What a peer over files says of a request with its answer, or without one.
use Rattle.std.specs.Prelude.{◌≡◌, ℕ, List, Option, Some, None}
use Rattle.host_core.specs.Faults.{one_more}
use Rattle.stream_peer.specs.declared.peer.StreamPeer.{StreamPeer}

-- the files are given up: no request is sent any more
abbrev pub IsOver : {D : Type 0} → StreamPeer D → Type 0
IsOver peer = peer.frames ≡ None

-- the peer's own faults after an answer, or after none
abbrev pub faults_after : Option (List ℕ) → ℕ → ℕ
faults_after (Some answer) faults = faults
faults_after None faults = one_more faults

pub record Exchanged {D : Type 0} (answer : Option (List ℕ)) (old new : StreamPeer D) : Type 0 where
  -- one fault where no answer came, and none else
  pub counted : new.faults ≡ faults_after answer old.faults
  pub disk : new.disk ≡ old.disk
  -- where no answer came once, none comes any more
  pub ends : answer ≡ None → IsOver new
  pub ended : IsOver old → answer ≡ None
