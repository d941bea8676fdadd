-- What is picked of a host is what a stop may leave of it.
use Rattle.std.proofs.Common.{◌≡◌, ◌≤◌, ◌++◌, ◌∙◌, inl, inr, ℕ, List, [], ◌∷◌, length, take, drop, map, reverse, refl, sym, subst, arith}
use Rattle.std.proofs.lemmas.List.{length-append, length-reverse, length-take-le}
use Rattle.host_core.specs.HostView.{State}
use Rattle.host_memory.specs.declared.record.HostEvent.{HostEvent}
use Rattle.host_memory.specs.declared.record.HostEvent.TheVariants.{Changed, Wrote, Synced, FailedSync}
use Rattle.host_memory.specs.HostRecord.{Left, LeftSince}
use Rattle.host_memory.specs.HostStopped.{touch_of, net_before}
use Rattle.host_memory.specs.Touches.{IsTouched, undone, bytes_stopped}
use Rattle.host_memory.proofs.lemmas.Picks.{LeftOf, left_now, in_two, left_stopped}

-- what may be left of the checkpoint area may be left with the network
with_net : (now : State) (events : List HostEvent) → IsTouched now.cell (map (touch_of 0) events) → (cell : List ℕ)
    → LeftOf now.cell (map (touch_of 0) events) cell → Left now events (record { net = now.net; cell = cell })
with_net now [] is cell c = λ i. record { net = now.net; cell = c i }
with_net now (Changed before ∷ events) is cell c =
    inr (record { net = before; cell = cell }, with_net (record now { net = before }) events is cell c, refl, refl)
with_net now (Wrote at len before ∷ events) is cell c =
    inr (record { net = now.net; cell = c.0 }, with_net (record now { cell = before.items }) events is.1 c.0 c.1, record { net = refl; cell = c.2 })
with_net now (Synced ∷ events) is cell c =
    (with_net now events is cell (subst (λ (l : List ℕ). LeftOf now.cell (map (touch_of 0) events) l) (sym c) (left_now now.cell (map (touch_of 0) events) is)), c)
with_net now (FailedSync ∷ events) is cell c = with_net now events is cell c

-- the state before these events
abbrev state_before : State → List HostEvent → State
state_before now later = record { net = net_before now.net later; cell = undone now.cell (map (touch_of 0) later) }

touched_before : (now : State) (later earlier : List HostEvent) → IsTouched now.cell (map (touch_of 0) (later ++ earlier))
    → IsTouched (state_before now later).cell (map (touch_of 0) earlier)
touched_before now [] earlier is = is
touched_before now (Changed before ∷ later) earlier is = touched_before (record now { net = before }) later earlier is
touched_before now (Wrote at len before ∷ later) earlier is = touched_before (record now { cell = before.items }) later earlier is.1
touched_before now (Synced ∷ later) earlier is = touched_before now later earlier is
touched_before now (FailedSync ∷ later) earlier is = touched_before now later earlier is

among : (now : State) (events : List HostEvent) (s : State) → Left now events s → LeftSince (length events) now events s
among now [] s left = left
among now (event ∷ events) s left = inl left

more : (later earlier : List HostEvent) → length earlier ≤ length (later ++ earlier)
more later earlier = omega (arith, length-append later earlier)

-- what a stop before the later events may leave counts among what was left since
left_before : (now : State) (later earlier : List HostEvent) (s : State) → Left (state_before now later) earlier s → LeftSince (length earlier) now (later ++ earlier) s
left_before now [] earlier s left = among now earlier s left
left_before now (Changed before ∷ later) earlier s left = inr (more later earlier, left_before (record now { net = before }) later earlier s left)
left_before now (Wrote at len before ∷ later) earlier s left = inr (more later earlier, left_before (record now { cell = before.items }) later earlier s left)
left_before now (Synced ∷ later) earlier s left = inr (more later earlier, left_before now later earlier s left)
left_before now (FailedSync ∷ later) earlier s left = inr (more later earlier, left_before now later earlier s left)

module _ (after pick : ℕ) (now : State) (events : List HostEvent) (is : IsTouched now.cell (map (touch_of 0) (reverse events))) where
  abbrev picked : State
  picked = record { net = net_before now.net (reverse (drop after events)); cell = bytes_stopped (touch_of 0) after pick now.cell events }

  -- a stop behind so many events may leave what is picked
  pub picked_left : Left (state_before now (reverse (drop after events))) (reverse (take after events)) picked
  picked_left =
      with_net (state_before now (reverse (drop after events))) (reverse (take after events))
      (touched_before now (reverse (drop after events)) (reverse (take after events)) (subst (λ (l : List HostEvent). IsTouched now.cell (map (touch_of 0) l)) (in_two after events) is))
      picked.cell (left_stopped (touch_of 0) after now.cell events is pick)

  -- and counts among what was left since
  pub picked_since : after ≤ length events → LeftSince after now (reverse events) picked
  picked_since le =
      let many : length (reverse (take after events)) ≡ after = length-reverse (take after events) ∙ length-take-le after events le in
      let since = left_before now (reverse (drop after events)) (reverse (take after events)) picked picked_left in
      subst (λ (t : ℕ). LeftSince t now (reverse events) picked) many (subst (λ (l : List HostEvent). LeftSince (length (reverse (take after events))) now l picked) (sym (in_two after events)) since)
