-- What one more event does to the record.
use Rattle.std.proofs.Common.{◌≡◌, ◌⊎◌, ◌≤◌, ◌+◌, inl, inr, ⊎_elim, ℕ, Bool, true, false, List, [], ◌∷◌, ◌++◌, length, reverse, Option, refl, sym, ap, ◌∙◌, subst, arith}
use Rattle.std.specs.Prelude.{Result, Ok, Err, IsTrue, OnOk, OnErr}
use Rattle.std.proofs.lemmas.List.{reverse-append}
use Rattle.std.proofs.lemmas.Result.{on_ok_weaker}
use Rattle.net_model.specs.NetData.{NetData}
use Rattle.net_model.specs.declared.Call.{Call}
use Rattle.host_core.specs.Bytes.{Torn}
use Rattle.host_core.specs.HostView.{State, CellTorn, MaybeCalled, SameCell, Accepts}
use Rattle.host_core.specs.Stops.{Steps, After, Stays, Keeps}
use Rattle.host_memory.specs.declared.record.HostEvent.{HostEvent}
use Rattle.host_memory.specs.declared.record.HostEvent.TheVariants.{Changed, Wrote, Synced, FailedSync}
use Rattle.host_memory.specs.HostRecord.{undone, Left, LeftSince, stops_of, reads, one_net, IsWritten, IsAsBefore, IsSyncTried, IsCalled, IsUncalled}
use Rattle.host_core.proofs.lemmas.Moments.{stays, weaken}
use Rattle.host_memory.specs.Fused.{IsEvent}
use Rattle.host_memory.proofs.lemmas.Torn.{torn_same}

module _ (event : HostEvent) (events : List HostEvent) (old new : State) (was : undone event new ≡ old) where
  pub push : (step : State → State → Type 0) → ((s : State) → Left new (event ∷ events) s → After (stops_of old events) step s)
      → Steps step (stops_of old events) (stops_of new (event ∷ events))
  push step leads = record {
    later = omega arith;
    now = leads;
    since = λ t s le left. ⊎_elim (λ now. inr (leads s now)) (λ then. inl (subst (λ (o : State). LeftSince t o events s) was then.1)) left;
    keeps = λ t s le left. inr (le, subst (λ (o : State). LeftSince t o events s) (sym was) left);
  }

module _ (events : List HostEvent) (old new : State) where
  pub wrote : (at len : ℕ) (before : _) → undone (Wrote at len before) new ≡ old → CellTorn at len old new
      → Steps (CellTorn at len) (stops_of old events) (stops_of new (Wrote at len before ∷ events))
  wrote at len before was step = push (Wrote at len before) events old new was (CellTorn at len) leads
    where
      leads : (s : State) → Left new (Wrote at len before ∷ events) s → After (stops_of old events) (CellTorn at len) s
      leads s (inl is) = (old, reads old events, subst (λ (n : State). CellTorn at len old n) (sym is) step)
      leads s (inr (r, left, later)) = (r, subst (λ (o : State). Left o events r) was left, later)

  pub called : (call : Call) (before : Option NetData) → undone (Changed before) new ≡ old → Accepts call old.net new.net
      → Steps (MaybeCalled call) (stops_of old events) (stops_of new (Changed before ∷ events))
  called call before was accepts = push (Changed before) events old new was (MaybeCalled call) leads
    where
      step : (r s : State) → r.net ≡ old.net → s.net ≡ new.net → s.cell ≡ r.cell → MaybeCalled call r s
      step r s from to cell = record { cell = cell; net = inr (subst (λ (n : Option NetData). Accepts call n s.net) (sym from) (subst (λ (n : Option NetData). Accepts call old.net n) (sym to) accepts)) }

      leads : (s : State) → Left new (Changed before ∷ events) s → After (stops_of old events) (MaybeCalled call) s
      leads s (inl is) = (old, reads old events, step old s refl (λ i. (is i).net) ((λ i. (is i).cell) ∙ (λ i. (was i).cell)))
      leads s (inr (r, left, cell, net)) =
          let there = subst (λ (o : State). Left o events r) was left in
          (r, there, step r s (one_net old events r there) net cell)

  pub called_cell : (before : Option NetData) → undone (Changed before) new ≡ old
      → Steps SameCell (stops_of old events) (stops_of new (Changed before ∷ events))
  called_cell before was = push (Changed before) events old new was SameCell leads
    where
      leads : (s : State) → Left new (Changed before ∷ events) s → After (stops_of old events) SameCell s
      leads s (inl is) = (old, reads old events, (λ i. (is i).cell) ∙ (λ i. (was i).cell))
      leads s (inr (r, left, cell, net)) = (r, subst (λ (o : State). Left o events r) was left, cell)

pub synced : (events : List HostEvent) (now : State) → Steps Stays (stops_of now events) (stops_of now (Synced ∷ events))
synced events now = push Synced events now now refl Stays (λ s left. (s, left.0, refl))

tried : (events : List HostEvent) (now : State) → Steps Stays (stops_of now events) (stops_of now (FailedSync ∷ events))
tried events now = push FailedSync events now now refl Stays (λ s left. (s, left, refl))

pub newest : (before after : List HostEvent) (event : HostEvent) → after ≡ before ++ event ∷ [] → reverse after ≡ event ∷ reverse before
newest before after event is = ap reverse is ∙ reverse-append before (event ∷ [])

module _ (before after : List HostEvent) (old new : State) where
  same_state : new.net ≡ old.net → new.cell ≡ old.cell → new ≡ old
  same_state net cell = λ i. record { net = net i; cell = cell i }

  -- nothing happened
  pub unchanged : (step : State → State → Type 0) → ((s : State) → step s s) → after ≡ before → new ≡ old → Steps step (stops_of old (reverse before)) (stops_of new (reverse after))
  unchanged step same events state =
      subst (λ (l : List HostEvent). Steps step (stops_of old (reverse before)) (stops_of new (reverse l))) (sym events)
      (subst (λ (n : State). Steps step (stops_of old (reverse before)) (stops_of n (reverse before))) (sym state)
      (weaken Stays step (stops_of old (reverse before)) (stops_of old (reverse before)) (stays (stops_of old (reverse before)))
      (λ r s left is. subst (λ (n : State). step r n) (sym is) (same r))))

  -- a write, recorded or not, is a step that may tear its range
  pub write_pushed : (at len : ℕ) → IsWritten at len old.cell before after ⊎ IsAsBefore old.cell new.cell before after → new.net ≡ old.net → Torn at len old.cell new.cell
      → Steps (CellTorn at len) (stops_of old (reverse before)) (stops_of new (reverse after))
  write_pushed at len (inl rec) net torn =
      subst (λ (l : List HostEvent). Steps (CellTorn at len) (stops_of old (reverse before)) (stops_of new l)) (sym (newest before after (Wrote at len rec.before) rec.pushed))
      (wrote (reverse before) old new at len rec.before (λ i. record { net = net i; cell = rec.items i }) (record { net = net; cell = torn }))
  write_pushed at len (inr kept) net torn = unchanged (CellTorn at len) (λ s. record { net = refl; cell = torn_same at len s.cell }) kept.events (same_state net kept.bytes)

  -- a call, done or not, leaves the network as it was or as it is after the call
  pub call_pushed : (call : Call) → IsCalled call old.net new.net before after ⊎ IsUncalled old.net new.net before after → new.cell ≡ old.cell
      → Steps (MaybeCalled call) (stops_of old (reverse before)) (stops_of new (reverse after))
  call_pushed call (inl done) cell =
      subst (λ (l : List HostEvent). Steps (MaybeCalled call) (stops_of old (reverse before)) (stops_of new l)) (sym (newest before after (Changed old.net) done.pushed))
      (called (reverse before) old new call old.net (λ i. record { net = old.net; cell = cell i }) done.accepts)
  call_pushed call (inr kept) cell = unchanged (MaybeCalled call) (λ s. record { cell = refl; net = inl refl }) kept.events (same_state kept.net cell)

  -- the same of the network and the area
  pub maybe_called : (call : Call) → IsCalled call old.net new.net before after ⊎ IsUncalled old.net new.net before after → new.cell ≡ old.cell → MaybeCalled call old new
  maybe_called call (inl done) cell = record { cell = cell; net = inr done.accepts }
  maybe_called call (inr kept) cell = record { cell = cell; net = inl kept.net }

  pub call_cell_pushed : (call : Call) → IsCalled call old.net new.net before after ⊎ IsUncalled old.net new.net before after → new.cell ≡ old.cell
      → Steps SameCell (stops_of old (reverse before)) (stops_of new (reverse after))
  call_cell_pushed call (inl done) cell =
      subst (λ (l : List HostEvent). Steps SameCell (stops_of old (reverse before)) (stops_of new l)) (sym (newest before after (Changed old.net) done.pushed))
      (called_cell (reverse before) old new old.net (λ i. record { net = old.net; cell = cell i }))
  call_cell_pushed call (inr kept) cell = unchanged SameCell (λ s. refl) kept.events (same_state kept.net cell)

-- a call that isn't done changes nothing
pub uncalled : (call : Call) (before after : List HostEvent) (old new : State) → IsUncalled old.net new.net before after → new.cell ≡ old.cell
    → (new ≡ old) × Steps Stays (stops_of old (reverse before)) (stops_of new (reverse after))
uncalled call before after old new kept cell =
    (same_state before after old new kept.net cell, unchanged before after old new Stays (λ s. refl) kept.events (same_state before after old new kept.net cell))

-- a sync, recorded or not, leaves no more than before
pub sync_pushed : (done : Bool) (before after : List HostEvent) (now : State) → IsSyncTried done before after → Steps Stays (stops_of now (reverse before)) (stops_of now (reverse after))
sync_pushed true before after now is =
    subst (λ (l : List HostEvent). Steps Stays (stops_of now (reverse before)) (stops_of now l)) (sym (newest before after Synced is)) (synced (reverse before) now)
sync_pushed false before after now (inl is) = unchanged before after now now Stays (λ s. refl) is refl
sync_pushed false before after now (inr is) =
    subst (λ (l : List HostEvent). Steps Stays (stops_of now (reverse before)) (stops_of now l)) (sym (newest before after FailedSync is)) (tried (reverse before) now)

-- one that failed leaves no less either
pub sync_kept : (before after : List HostEvent) (now : State) → IsSyncTried false before after → Keeps (stops_of now (reverse before)) (stops_of now (reverse after))
sync_kept before after now (inl is) s left = subst (λ (l : List HostEvent). Left now (reverse l) s) (sym is) left
sync_kept before after now (inr is) s left = subst (λ (l : List HostEvent). Left now l s) (sym (newest before after FailedSync is)) left

pub sync_sure : (before after : List HostEvent) (now : State) → after ≡ before ++ Synced ∷ [] → (s : State) → Left now (reverse after) s → s.cell ≡ now.cell
sync_sure before after now is s left = (subst (λ (l : List HostEvent). Left now l s) (newest before after Synced is) left).1

not_done : IsTrue false → ⊥
not_done is = cc

one_event : (before after : List HostEvent) (event : HostEvent) → after ≡ before ++ event ∷ [] → length (reverse after) ≡ length (reverse before) + 1
one_event before after event is =
    let all : length (reverse after) ≡ length (event ∷ reverse before) = ap length (newest before after event is) in
    omega (arith, all)

no_event : (before after : List HostEvent) → after ≡ before → length (reverse after) ≡ length (reverse before)
no_event before after is = ap (λ (l : List HostEvent). length (reverse l)) is

-- a write is one event, also where it failed, unless memory was refused
pub write_event : {T E : Type 0} (result : Result T E) (done : Bool) (at len : ℕ) (before after : List HostEvent) (old new : State)
    → OnOk result (IsTrue done) → (IsTrue done → IsWritten at len old.cell before after) → IsWritten at len old.cell before after ⊎ IsAsBefore old.cell new.cell before after
    → IsEvent result (stops_of old (reverse before)) (stops_of new (reverse after))
write_event result done at len before after old new ok recorded either = record {
  one = on_ok_weaker result (λ (is : IsTrue done). one_event before after _ (recorded is).pushed) ok;
  at_most = most either;
}
  where
    most : IsWritten at len old.cell before after ⊎ IsAsBefore old.cell new.cell before after → length (reverse after) ≤ length (reverse before) + 1
    most (inl rec) = let is = one_event before after _ rec.pushed in omega (arith, is)
    most (inr kept) = let is = no_event before after kept.events in omega (arith, is)

-- and so is a sync
pub sync_event : {T E : Type 0} (result : Result T E) (done : Bool) (before after : List HostEvent) (now : State)
    → OnOk result (IsTrue done) → IsSyncTried done before after
    → IsEvent result (stops_of now (reverse before)) (stops_of now (reverse after))
sync_event result true before after now ok tried =
    let is = one_event before after Synced tried in
    record { one = on_ok_weaker result (λ (done : IsTrue true). is) ok; at_most = omega (arith, is) }
sync_event result false before after now ok tried = record { one = on_ok_weaker result (λ (done : IsTrue false). absurd (not_done done)) ok; at_most = most tried }
  where
    most : IsSyncTried false before after → length (reverse after) ≤ length (reverse before) + 1
    most (inl is) = let same = no_event before after is in omega (arith, same)
    most (inr is) = let more = one_event before after FailedSync is in omega (arith, more)

not_both : {T E : Type 0} (result : Result T E) (error : E) (value : T) → result ≡ Err error → result ≡ Ok value → ⊥
not_both result error value failed ok = cc

-- what a stop may leave stays as it was where the sync is answered as failed
pub sync_keeps : {T E : Type 0} (value : T) (result : Result T E) (done : Bool) (before after : List HostEvent) (now : State)
    → (IsTrue done → result ≡ Ok value) → IsSyncTried done before after
    → OnErr result (Keeps (stops_of now (reverse before)) (stops_of now (reverse after)))
sync_keeps value (Ok _) done before after now ok tried = tt
sync_keeps value (Err error) true before after now ok tried = absurd (not_both (Err error) error value refl (ok refl))
sync_keeps value (Err error) false before after now ok tried = sync_kept before after now tried
