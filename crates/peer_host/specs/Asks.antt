-- What a host over a peer asks, and what each answer is read as.
use Rattle.std.specs.Prelude.{◌≡◌, ◌⊎◌, ℕ, List, Some, None, Result, IfOk, OnOk, IsErrOf}
use Rattle.net_model.specs.NetData.{NetData}
use Rattle.net_model.specs.declared.call.Call.{Call}
use Rattle.net_image.specs.Image.{net_of}
use Rattle.host_core.specs.Faults.{one_more}
use Rattle.host_core.specs.declared.host.CallFault.{CallFault}
use Rattle.host_core.specs.declared.host.CallFault.TheVariants.{Refused as CallRefused, Failed as CallFailed, OutOfMemory as CallUnasked}
use Rattle.host_core.specs.declared.host.DumpFault.{DumpFault}
use Rattle.host_core.specs.declared.host.DumpFault.TheVariants.{Damaged, Failed as DumpFailed, OutOfMemory as DumpStarved}
use Rattle.host_core.specs.declared.host.MakeFault.{MakeFault}
use Rattle.host_core.specs.declared.host.MakeFault.TheVariants.{Exists, Failed as MakeFailed, OutOfMemory as MakeStarved}
use Rattle.peer_core.specs.Protocol.{dump_request, call_request, done, refused_with, no_network, network_of, SaysNoCall, SaysNoNet}
use Rattle.peer_core.specs.declared.peer.Peer.{Ghosts}
use Rattle.peer_host.specs.declared.asking.Missed.{Missed}
use Rattle.peer_host.specs.declared.asking.Missed.TheVariants.{Failed, Unreadable, NoNetwork, OutOfMemory}
use Rattle.peer_host.specs.declared.asking.Unanswered.{Unanswered}
use Rattle.peer_host.specs.declared.asking.Unanswered.TheVariants.{Failed as NoAnswer, Unreadable as NoSense, Refused, OutOfMemory as NotAsked}
use Rattle.peer_host.specs.declared.host.PeerHost.{PeerHost}

-- one request was made, which was answered so
abbrev pub Asked : {P : Type 0} (G : Ghosts P) → List ℕ → List ℕ → P → P → Type 0
Asked G request answer old new = G.exchanged request (Some answer) old new

-- one request was made, and the peer failed
abbrev pub AskedInVain : {P : Type 0} (G : Ghosts P) → List ℕ → P → P → Type 0
AskedInVain G request old new = G.exchanged request None old new

-- ---- a peer that is asked

-- the network is asked for
pub record AsksNet {P : Type 0} (G : Ghosts P) (old new : P) (result : Result NetData Missed) : Type 0 where
  pub network : IfOk result (λ net. (image : List ℕ) × Asked G dump_request (network_of image) old new × (net_of image ≡ Some net))
  pub none : IsErrOf result NoNetwork → Asked G dump_request no_network old new
  pub failed : IsErrOf result Failed → AskedInVain G dump_request old new
  pub unreadable : IsErrOf result Unreadable → (answer : List ℕ) × Asked G dump_request answer old new × SaysNoNet answer
  -- memory is taken before the peer is asked, and again for the network of its answer
  pub memory : IsErrOf result OutOfMemory → (new ≡ old) ⊎ ((image : List ℕ) × Asked G dump_request (network_of image) old new)

-- a call is asked for
pub record AsksThis {P : Type 0} (G : Ghosts P) (call : Call) (old new : P) (result : Result (Unit {0}) Unanswered) : Type 0 where
  pub accepted : OnOk result (Asked G (call_request call) done old new)
  pub refused : (k : ℕ) → IsErrOf result (Refused k) → Asked G (call_request call) (refused_with k) old new
  pub failed : IsErrOf result NoAnswer → AskedInVain G (call_request call) old new
  pub unreadable : IsErrOf result NoSense → (answer : List ℕ) × Asked G (call_request call) answer old new × SaysNoCall answer
  pub memory : IsErrOf result NotAsked → new ≡ old

-- ---- a host that asks its peer

-- One failure: the peer failed, which it counts itself; or an answer came that says nothing, which is a fault of the
-- host's own.
abbrev pub Fails : {P : Type 0} (G : Ghosts P) → List ℕ → (List ℕ → Type 0) → PeerHost P G → PeerHost P G → Type 0
Fails G request SaysNothing old new = (AskedInVain G request old.peer new.peer × (new.faults ≡ old.faults))
    ⊎ ((answer : List ℕ) × Asked G request answer old.peer new.peer × SaysNothing answer × (new.faults ≡ one_more old.faults))

-- a dump asks for the network
pub record AsksDump {P : Type 0} (G : Ghosts P) (old new : PeerHost P G) (result : Result NetData DumpFault) : Type 0 where
  pub network : IfOk result (λ net. (image : List ℕ) × Asked G dump_request (network_of image) old.peer new.peer × (net_of image ≡ Some net))
  pub none : IsErrOf result Damaged → Asked G dump_request no_network old.peer new.peer
  pub failed : IsErrOf result DumpFailed → Fails G dump_request SaysNoNet old new
  pub memory : IsErrOf result DumpStarved → (new.peer ≡ old.peer) ⊎ ((image : List ℕ) × Asked G dump_request (network_of image) old.peer new.peer)
  pub quiet : (IsErrOf result DumpFailed → ⊥) → new.faults ≡ old.faults

-- a making asks for the network too, and succeeds never: a peer's first network is its own
pub record AsksMake {P : Type 0} (G : Ghosts P) (old new : PeerHost P G) (result : Result (Unit {0}) MakeFault) : Type 0 where
  pub never : OnOk result ⊥
  pub exists : IsErrOf result Exists → (image : List ℕ) × (net : NetData) × Asked G dump_request (network_of image) old.peer new.peer × (net_of image ≡ Some net)
  pub failed : IsErrOf result MakeFailed → Fails G dump_request (λ answer. (image : List ℕ) → answer ≡ network_of image → net_of image ≡ None) old new
  pub memory : IsErrOf result MakeStarved → (new.peer ≡ old.peer) ⊎ ((image : List ℕ) × Asked G dump_request (network_of image) old.peer new.peer)
  pub quiet : (IsErrOf result MakeFailed → ⊥) → new.faults ≡ old.faults

-- a kernel call is one request with its line
pub record AsksCall {P : Type 0} (G : Ghosts P) (call : Call) (old new : PeerHost P G) (result : Result (Unit {0}) CallFault) : Type 0 where
  pub accepted : OnOk result (Asked G (call_request call) done old.peer new.peer)
  pub refused : (k : ℕ) → IsErrOf result (CallRefused k) → Asked G (call_request call) (refused_with k) old.peer new.peer
  pub failed : IsErrOf result CallFailed → Fails G (call_request call) SaysNoCall old new
  -- all memory is taken before the peer is asked
  pub memory : IsErrOf result CallUnasked → new.peer ≡ old.peer
  pub quiet : (IsErrOf result CallFailed → ⊥) → new.faults ≡ old.faults
