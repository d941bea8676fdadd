-- What a peer is asked, and what its answers say.
use Rattle.std.specs.Prelude.{◌≡◌, ◌≢◌, ℕ, List, [], ◌∷◌, take, codes, Option, Some, None, Result, Ok, Err}
use Rattle.net_model.specs.NetData.{NetData}
use Rattle.net_model.specs.declared.call.Call.{Call}
use Rattle.net_image.specs.Image.{net_of}
use Rattle.ip_batch.specs.Reader.{batch_of}
use Rattle.ip_batch.specs.Batch.{batch_text}
use Rattle.host_core.specs.declared.faults.Failed.{Failed}
use Rattle.host_core.specs.HostView.{Accepts, Refuses, MaybeCalled, SameCell}
use Rattle.host_core.specs.Stops.{Steps}
use Rattle.peer_core.specs.PeerView.{PeerView, HasNet, IsSure, Untouched}
use Rattle.peer_core.specs.declared.words.TheConstants.{DONE, REFUSED, NO_NETWORK, NETWORK}

-- ---- requests

-- the network is asked for
abbrev pub dump_request : List ℕ
dump_request = codes "dump\n"

abbrev pub IsDump : List ℕ → Type 0
IsDump request = request ≡ dump_request

-- the call is asked for: the request is the line that stands for it
abbrev pub IsRequest : Call → List ℕ → Type 0
IsRequest call request = batch_of request ≡ Ok (call ∷ [])

-- the line of a call, as a plan prints it
abbrev pub call_request : Call → List ℕ
call_request call = batch_text (call ∷ [])

-- ---- answers

-- the call was done
abbrev pub done : List ℕ
done = DONE ∷ []

-- the call was refused with this number
abbrev pub refused_with : ℕ → List ℕ
refused_with k = REFUSED ∷ k ∷ []

-- there is no network
abbrev pub no_network : List ℕ
no_network = NO_NETWORK ∷ []

-- the network that has this image
abbrev pub network_of : List ℕ → List ℕ
network_of image = NETWORK ∷ image

-- the answer that stands at the front of a buffer, or none where the peer failed
abbrev pub answer_of : Result ℕ Failed → List ℕ → Option (List ℕ)
answer_of (Ok n) buffer = Some (take n buffer)
answer_of (Err failed) buffer = None

-- the answer says nothing of a call
abbrev pub SaysNoCall : List ℕ → Type 0
SaysNoCall answer = (answer ≢ done) × ((k : ℕ) → answer ≢ refused_with k)

-- the answer says nothing of a network: neither that there is none nor which it is
abbrev pub SaysNoNet : List ℕ → Type 0
SaysNoNet answer = (answer ≢ no_network) × ((image : List ℕ) → answer ≡ network_of image → net_of image ≡ None)

-- ---- what answers say

-- an answer to a dump
pub record Dumped (tells : Type 0) (old new : PeerView) (answer : List ℕ) : Type 0 where
  pub network : tells → (image : List ℕ) (net : NetData) → answer ≡ network_of image → net_of image ≡ Some net → old.state.net ≡ Some net
  -- it is in doubt no more
  pub sure : tells → (image : List ℕ) (net : NetData) → answer ≡ network_of image → net_of image ≡ Some net → HasNet (Some net) new
  pub none : tells → answer ≡ no_network → old.state.net ≡ None

-- a call, whole or not done, whatever is answered
pub record Calls (tells honest : Type 0) (call : Call) (old new : PeerView) : Type 0 where
  pub maybe : honest → MaybeCalled call old.state new.state
  pub cell : tells → SameCell old.state new.state
  pub stops : honest → Steps (MaybeCalled call) old.stops new.stops
  pub stops_cell : Steps SameCell old.stops new.stops

-- an answer to a call
pub record Answered (tells honest : Type 0) (call : Call) (old new : PeerView) (answer : List ℕ) : Type 0 where
  pub accepted : honest → answer ≡ done → Accepts call old.state.net new.state.net
  pub sure : tells → answer ≡ done → IsSure new
  pub refused : honest → (k : ℕ) → answer ≡ refused_with k → Refuses call old.state.net k
  pub same : (k : ℕ) → answer ≡ refused_with k → Untouched tells old new
