-- What is picked of a disk is what a stop may leave of it.
use Rattle.std.proofs.Common.{◌≡◌, ◌≤◌, ◌++◌, ◌∙◌, inl, inr, ℕ, zero, suc, List, [], ◌∷◌, length, take, drop, map, reverse, refl, sym, subst, arith}
use Rattle.std.proofs.lemmas.List.{length-append, length-reverse, length-take-le}
use Rattle.host_core.specs.DiskView.{Areas}
use Rattle.case_outside.specs.declared.disk.DiskEvent.{DiskEvent}
use Rattle.case_outside.specs.declared.disk.DiskEvent.TheVariants.{Wrote, Synced, FailedSync}
use Rattle.case_outside.specs.DiskRecord.{put_area, Left, LeftSince, IsConsistent}
use Rattle.case_outside.specs.DiskStopped.{touch_of}
use Rattle.host_memory.specs.Touches.{IsTouched, undone, bytes_stopped}
use Rattle.host_memory.proofs.lemmas.Picks.{LeftOf, left_now, in_two, left_stopped}

-- the writes to each area led from what was there before them
kernel_touched : (now : Areas) (events : List DiskEvent) → IsConsistent now events → IsTouched now.kernel (map (touch_of 0) events)
kernel_touched now [] is = tt
kernel_touched now (Wrote zero at len before ∷ events) is = (is.1.0, kernel_touched (put_area 0 before.items now) events is.1.1)
kernel_touched now (Wrote (suc zero) at len before ∷ events) is = kernel_touched (put_area 1 before.items now) events is.1.1
kernel_touched now (Wrote (suc (suc n)) at len before ∷ events) is = absurd (omega (arith, is.0))
kernel_touched now (Synced zero ∷ events) is = kernel_touched now events is.1
kernel_touched now (Synced (suc zero) ∷ events) is = kernel_touched now events is.1
kernel_touched now (Synced (suc (suc n)) ∷ events) is = absurd (omega (arith, is.0))
kernel_touched now (FailedSync ∷ events) is = kernel_touched now events is

cell_touched : (now : Areas) (events : List DiskEvent) → IsConsistent now events → IsTouched now.cell (map (touch_of 1) events)
cell_touched now [] is = tt
cell_touched now (Wrote zero at len before ∷ events) is = cell_touched (put_area 0 before.items now) events is.1.1
cell_touched now (Wrote (suc zero) at len before ∷ events) is = (is.1.0, cell_touched (put_area 1 before.items now) events is.1.1)
cell_touched now (Wrote (suc (suc n)) at len before ∷ events) is = absurd (omega (arith, is.0))
cell_touched now (Synced zero ∷ events) is = cell_touched now events is.1
cell_touched now (Synced (suc zero) ∷ events) is = cell_touched now events is.1
cell_touched now (Synced (suc (suc n)) ∷ events) is = absurd (omega (arith, is.0))
cell_touched now (FailedSync ∷ events) is = cell_touched now events is

-- what may be left of each area may be left of both together
both_left : (now : Areas) (events : List DiskEvent) → IsConsistent now events → (kernel cell : List ℕ)
    → LeftOf now.kernel (map (touch_of 0) events) kernel → LeftOf now.cell (map (touch_of 1) events) cell → Left now events (record { kernel = kernel; cell = cell })
both_left now [] is kernel cell k c = λ i. record { kernel = k i; cell = c i }
both_left now (Wrote zero at len before ∷ events) is kernel cell k c =
    inr (record { kernel = k.0; cell = cell }, both_left (put_area 0 before.items now) events is.1.1 k.0 cell k.1 c, record { torn = k.2; same = refl })
both_left now (Wrote (suc zero) at len before ∷ events) is kernel cell k c =
    inr (record { kernel = kernel; cell = c.0 }, both_left (put_area 1 before.items now) events is.1.1 kernel c.0 k c.1, record { torn = c.2; same = refl })
both_left now (Wrote (suc (suc n)) at len before ∷ events) is kernel cell k c = absurd (omega (arith, is.0))
both_left now (Synced zero ∷ events) is kernel cell k c =
    let stays = subst (λ (l : List ℕ). LeftOf now.kernel (map (touch_of 0) events) l) (sym k) (left_now now.kernel (map (touch_of 0) events) (kernel_touched now events is.1)) in
    (both_left now events is.1 kernel cell stays c, k)
both_left now (Synced (suc zero) ∷ events) is kernel cell k c =
    let stays = subst (λ (l : List ℕ). LeftOf now.cell (map (touch_of 1) events) l) (sym c) (left_now now.cell (map (touch_of 1) events) (cell_touched now events is.1)) in
    (both_left now events is.1 kernel cell k stays, c)
both_left now (Synced (suc (suc n)) ∷ events) is kernel cell k c = absurd (omega (arith, is.0))
both_left now (FailedSync ∷ events) is kernel cell k c = both_left now events is kernel cell k c

-- the areas before these events
abbrev areas_before : Areas → List DiskEvent → Areas
areas_before now later = record { kernel = undone now.kernel (map (touch_of 0) later); cell = undone now.cell (map (touch_of 1) later) }

consistent_before : (now : Areas) (later earlier : List DiskEvent) → IsConsistent now (later ++ earlier) → IsConsistent (areas_before now later) earlier
consistent_before now [] earlier is = is
consistent_before now (Wrote zero at len before ∷ later) earlier is = consistent_before (put_area 0 before.items now) later earlier is.1.1
consistent_before now (Wrote (suc zero) at len before ∷ later) earlier is = consistent_before (put_area 1 before.items now) later earlier is.1.1
consistent_before now (Wrote (suc (suc n)) at len before ∷ later) earlier is = absurd (omega (arith, is.0))
consistent_before now (Synced zero ∷ later) earlier is = consistent_before now later earlier is.1
consistent_before now (Synced (suc zero) ∷ later) earlier is = consistent_before now later earlier is.1
consistent_before now (Synced (suc (suc n)) ∷ later) earlier is = absurd (omega (arith, is.0))
consistent_before now (FailedSync ∷ later) earlier is = consistent_before now later earlier is

among : (now : Areas) (events : List DiskEvent) (s : Areas) → Left now events s → LeftSince (length events) now events s
among now [] s left = left
among now (event ∷ events) s left = inl left

more : (later earlier : List DiskEvent) → length earlier ≤ length (later ++ earlier)
more later earlier = omega (arith, length-append later earlier)

-- what a stop before the later events may leave counts among what was left since
left_before : (now : Areas) (later earlier : List DiskEvent) → IsConsistent now (later ++ earlier) → (s : Areas)
    → Left (areas_before now later) earlier s → LeftSince (length earlier) now (later ++ earlier) s
left_before now [] earlier is s left = among now earlier s left
left_before now (Wrote zero at len before ∷ later) earlier is s left = inr (more later earlier, left_before (put_area 0 before.items now) later earlier is.1.1 s left)
left_before now (Wrote (suc zero) at len before ∷ later) earlier is s left = inr (more later earlier, left_before (put_area 1 before.items now) later earlier is.1.1 s left)
left_before now (Wrote (suc (suc n)) at len before ∷ later) earlier is s left = absurd (omega (arith, is.0))
left_before now (Synced zero ∷ later) earlier is s left = inr (more later earlier, left_before now later earlier is.1 s left)
left_before now (Synced (suc zero) ∷ later) earlier is s left = inr (more later earlier, left_before now later earlier is.1 s left)
left_before now (Synced (suc (suc n)) ∷ later) earlier is s left = absurd (omega (arith, is.0))
left_before now (FailedSync ∷ later) earlier is s left = inr (more later earlier, left_before now later earlier is s left)

module _ (after pick : ℕ) (now : Areas) (events : List DiskEvent) (is : IsConsistent now (reverse events)) where
  abbrev picked : Areas
  picked = record { kernel = bytes_stopped (touch_of 0) after pick now.kernel events; cell = bytes_stopped (touch_of 1) after pick now.cell events }

  -- a stop behind so many events may leave what is picked
  pub picked_left : Left (areas_before now (reverse (drop after events))) (reverse (take after events)) picked
  picked_left =
      let before = consistent_before now (reverse (drop after events)) (reverse (take after events)) (subst (λ (l : List DiskEvent). IsConsistent now l) (in_two after events) is) in
      both_left (areas_before now (reverse (drop after events))) (reverse (take after events)) before picked.kernel picked.cell
      (left_stopped (touch_of 0) after now.kernel events (kernel_touched now (reverse events) is) pick)
      (left_stopped (touch_of 1) after now.cell events (cell_touched now (reverse events) is) pick)

  -- and counts among what was left since
  pub picked_since : after ≤ length events → LeftSince after now (reverse events) picked
  picked_since le =
      let many : length (reverse (take after events)) ≡ after = length-reverse (take after events) ∙ length-take-le after events le in
      let since = left_before now (reverse (drop after events)) (reverse (take after events)) (subst (λ (l : List DiskEvent). IsConsistent now l) (in_two after events) is) picked picked_left in
      subst (λ (t : ℕ). LeftSince t now (reverse events) picked) many (subst (λ (l : List DiskEvent). LeftSince (length (reverse (take after events))) now l picked) (sym (in_two after events)) since)
