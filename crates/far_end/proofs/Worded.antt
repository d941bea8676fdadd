-- What a host answers, in the words of a peer.
use Rattle.std.proofs.Common.{◌≡◌, ◌∙◌, ◌≤◌, arith, IfOk, inl, refl, sym, ap, subst, ℕ, List, [], ◌∷◌, drop, get_or, Option, Some, None, Result, Ok, Err, Vec}
use Rattle.std.specs.declared.alloc.Global.{Global}
use Rattle.net_model.specs.NetData.{NetData}
use Rattle.net_model.specs.declared.call.Call.{Call}
use Rattle.net_image.specs.Image.{net_of}
use Rattle.host_core.specs.HostView.{HostView, State, Accepts, Refuses, MaybeCalled, SameCell, IsLawfulHost}
use Rattle.host_core.specs.Stops.{Steps, Stays}
use Rattle.host_core.proofs.lemmas.Moments.{weaken, follow}
use Rattle.host_core.proofs.lemmas.Counts.{rose_after}
use Rattle.peer_core.specs.PeerView.{PeerView, Untouched}
use Rattle.peer_core.specs.Protocol.{Dumped, Calls, Answered, network_of, no_network, done, refused_with}
use Rattle.far_end.specs.Told.{seen}
use Rattle.far_end.specs.Replies.{IsNetworkOf, SaysNet, DumpReplies, IsOutcome, CallReplies}
use Rattle.far_end.specs.declared.answering.Silence.{Silence}
use Rattle.far_end.specs.declared.answering.Outcome.{Outcome}
use Rattle.far_end.specs.declared.answering.Outcome.TheVariants.{Done, Refused}

-- bytes stand for the network that is there
record Answer (net : Option NetData) (bytes : List ℕ) : Type 0 where
  the_net : NetData
  net_is : net ≡ Some the_net
  spelled : IsNetworkOf the_net bytes

says_net : (net : Option NetData) (bytes : Vec ℕ Global) → SaysNet net (Some bytes) → Answer net bytes.items
says_net (Some n) bytes is = record { the_net = n; net_is = refl; spelled = is }
says_net None bytes is = absurd is

says_none : (net : Option NetData) → SaysNet net None → net ≡ None
says_none (Some n) is = is
says_none None is = refl

-- two answers that begin otherwise aren't the same
other_sign : (a b : ℕ) (x y : List ℕ) → a ∷ x ≡ b ∷ y → a ≡ b
other_sign a b x y same = ap (λ (l : List ℕ). get_or l 0 0) same

module _ (honest tells : Type 0) (leads : honest → tells) (old new : HostView) (f g : ℕ) where
  pub untouched_by : (result : Result (Option (Vec ℕ Global)) Silence) → DumpReplies honest tells old new result → Untouched honest (seen f old) (seen g new)
  untouched_by result reply = record { state = λ h. reply.state (leads h); stops = reply.stops }

  -- the image of the network
  pub dumped_some : (bytes : Vec ℕ Global) (answer : List ℕ) → IsLawfulHost tells new → DumpReplies honest tells old new (Ok (Some bytes)) → answer ≡ bytes.items
      → Dumped honest (seen f old) (seen g new) answer
  dumped_some bytes answer lawful reply put = record {
    network = found;
    sure = λ h image net is read s left.
        lawful.no_doubt (leads h) (reply.settles refl) s left ∙ ap (λ (a : State). a.net) (reply.state (leads h)) ∙ found h image net is read;
    none = λ h is.
        let said = says_net old.state.net bytes (reply.says h (leads h)) in
        let both : network_of said.spelled.image ≡ no_network = sym (put ∙ said.spelled.is) ∙ is in
        let e : 61 ≡ 48 = other_sign 61 48 said.spelled.image [] both in absurd cc;
  }
    where
      found : honest → (image : List ℕ) (net : NetData) → answer ≡ network_of image → net_of image ≡ Some net → old.state.net ≡ Some net
      found h image net is read =
          let said = says_net old.state.net bytes (reply.says h (leads h)) in
          let both : network_of image ≡ network_of said.spelled.image = sym is ∙ put ∙ said.spelled.is in
          let same : image ≡ said.spelled.image = ap (drop 1) both in
          said.net_is ∙ sym said.spelled.read ∙ sym (ap net_of same) ∙ read

  -- that there is none
  pub dumped_none : (answer : List ℕ) → DumpReplies honest tells old new (Ok None) → answer ≡ no_network → Dumped honest (seen f old) (seen g new) answer
  dumped_none answer reply put = record {
    network = λ h image net is read. let e : 48 ≡ 61 = other_sign 48 61 [] image (sym put ∙ is) in absurd cc;
    sure = λ h image net is read. let e : 48 ≡ 61 = other_sign 48 61 [] image (sym put ∙ is) in absurd cc;
    none = λ h is. says_none old.state.net (reply.says h (leads h));
  }

  module _ (call : Call) where
    pub calls_by : (result : Result Outcome Silence) → CallReplies honest tells call old new result → Calls honest honest call (seen f old) (seen g new)
    calls_by result reply = record { maybe = reply.maybe; cell = λ h. reply.cell (leads h); stops = reply.stops; stops_cell = reply.stops_cell }

    pub answered_done : (answer : List ℕ) → IsLawfulHost tells new → CallReplies honest tells call old new (Ok Done) → answer ≡ done
        → Answered honest honest call (seen f old) (seen g new) answer
    answered_done answer lawful reply put = record {
      accepted = λ h is. reply.outcome h;
      sure = λ h is. record { net = lawful.no_doubt (leads h) reply.settled; there = lawful.has_net (leads h) reply.settled };
      refused = λ h k is. let e : 43 ≡ 45 = other_sign 43 45 [] (k ∷ []) (sym put ∙ is) in absurd cc;
      same = λ k is. let e : 43 ≡ 45 = other_sign 43 45 [] (k ∷ []) (sym put ∙ is) in absurd cc;
    }

    pub answered_refused : (k : ℕ) (answer : List ℕ) → CallReplies honest tells call old new (Ok (Refused k)) → answer ≡ refused_with k
        → Answered honest honest call (seen f old) (seen g new) answer
    answered_refused k answer reply put = record {
      accepted = λ h is. let e : 45 ≡ 43 = other_sign 45 43 (k ∷ []) [] (sym put ∙ is) in absurd cc;
      sure = λ h is. let e : 45 ≡ 43 = other_sign 45 43 (k ∷ []) [] (sym put ∙ is) in absurd cc;
      refused = λ h m is. subst (λ (n : ℕ). Refuses call old.state.net n) (number m (sym put ∙ is)) (reply.outcome.0 h);
      same = λ m is. record { state = λ h. reply.outcome.1 (leads h); stops = reply.outcome.2 };
    }
      where
        number : (m : ℕ) → refused_with k ≡ refused_with m → k ≡ m
        number m same = ap (λ (l : List ℕ). get_or l 1 0) same

-- what stays as it was may have been called
pub idle_calls : (honest : Type 0) (call : Call) (old new : PeerView) → Untouched honest old new → Calls honest honest call old new
idle_calls honest call old new same = record {
  maybe = λ h. record { cell = ap (λ (a : State). a.cell) (same.state h); net = inl (ap (λ (a : State). a.net) (same.state h)) };
  cell = λ h. ap (λ (a : State). a.cell) (same.state h);
  stops = λ h. weaken Stays (MaybeCalled call) old.stops new.stops same.stops (λ r s left is. record { cell = ap (λ (a : State). a.cell) is; net = inl (ap (λ (a : State). a.net) is) });
  stops_cell = weaken Stays SameCell old.stops new.stops same.stops (λ r s left is. ap (λ (a : State). a.cell) is);
}

-- a call behind a dump
pub after_dump : (honest tells : Type 0) (leads : honest → tells) (call : Call) (old mid new : HostView) (result : Result Outcome Silence)
    → (tells → mid.state ≡ old.state) → Steps Stays old.stops mid.stops → old.faults ≤ mid.faults
    → CallReplies honest tells call mid new result → CallReplies honest tells call old new result
after_dump honest tells leads call old mid new result same steps later reply = record {
  maybe = λ h. subst (λ (s : State). MaybeCalled call s new.state) (same (leads h)) (reply.maybe h);
  cell = λ t. subst (λ (s : State). SameCell s new.state) (same t) (reply.cell t);
  stops = λ h. follow Stays (MaybeCalled call) (MaybeCalled call) old.stops mid.stops new.stops steps (reply.stops h)
      (λ r s left is. record { cell = ap (λ (a : State). a.cell) is; net = inl (ap (λ (a : State). a.net) is) })
      (λ q r s begin left is called. subst (λ (a : State). MaybeCalled call a s) is called);
  stops_cell = follow Stays SameCell SameCell old.stops mid.stops new.stops steps reply.stops_cell
      (λ r s left is. ap (λ (a : State). a.cell) is)
      (λ q r s begin left is called. called ∙ ap (λ (a : State). a.cell) is);
  outcome = outcome_from result reply.outcome;
  settled = reply.settled;
  cause = record { later = omega (arith, later, reply.cause.later); failed = λ e. rose_after old.faults mid.faults new.faults later (reply.cause.failed e) };
}
  where
    outcome_from : (r : Result Outcome Silence) → IfOk r (IsOutcome honest tells call mid new) → IfOk r (IsOutcome honest tells call old new)
    outcome_from (Err e) is = tt
    outcome_from (Ok Done) is = λ h. subst (λ (s : State). Accepts call s.net new.state.net) (same (leads h)) (is h)
    outcome_from (Ok (Refused k)) is = (
      λ h. subst (λ (s : State). Refuses call s.net k) (same (leads h)) (is.0 h),
      λ t. is.1 t ∙ same t,
      follow Stays Stays Stays old.stops mid.stops new.stops steps is.2 (λ r s left e. e) (λ q r s begin left a b. b ∙ a),
    )
