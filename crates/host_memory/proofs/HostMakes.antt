-- What the making of a first network leaves.
use Rattle.std.proofs.Common.{◌≡◌, ◌≢◌, ◌⊎◌, inl, inr, ℕ, true, false, List, [], ◌∷◌, ◌++◌, take, get_or, map, reverse, Some, None, Option, IsSome, Result, Ok, Err, OnOk, OnErr, Vec, refl, sym, ap, ◌∙◌, subst, arith}
use Rattle.std.proofs.lemmas.List.{append_assoc}
use Rattle.std.specs.declared.alloc.Global.{Global}
use Rattle.net_model.specs.NetData.{NetData}
use Rattle.host_core.specs.Bytes.{Torn, Written}
use Rattle.host_core.specs.HostView.{State, CellTorn, Closing, Storing, MaybeMade}
use Rattle.host_core.specs.Stops.{Stops, Steps, After, Stays}
use Rattle.host_core.proofs.lemmas.Moments.{weaken, follow}
use Rattle.host_memory.specs.declared.record.HostEvent.{HostEvent}
use Rattle.host_memory.specs.declared.record.HostEvent.TheVariants.{Changed, Wrote, Synced}
use Rattle.host_memory.specs.HostRecord.{undone, Left, stops_of, reads, one_net, WasClosed, WasOpen, IsClosing}
use Rattle.host_memory.specs.HostStopped.{touch_of}
use Rattle.host_memory.specs.HostMakes.{Makes, IsUnmade}
use Rattle.host_memory.specs.Touches.{IsTouched}
use Rattle.host_memory.proofs.lemmas.Torn.{torn_same}
use Rattle.host_memory.proofs.HostPushes.{push, newest, unchanged, write_pushed, sync_pushed, sync_sure}

first_of : (byte default : ℕ) (bytes : List ℕ) → take 1 bytes ≡ byte ∷ [] → get_or bytes 0 default ≡ byte
first_of byte default [] is = let e : [] ≡ byte ∷ [] = is in absurd (cc)
first_of byte default (b ∷ bytes) is = let e : b ∷ [] ≡ byte ∷ [] = is in cc

-- a gate that was written 0 is closed
closed : (old new : List ℕ) → Written 0 (0 ∷ []) old new → get_or new 0 1 ≢ 1
closed old new written = λ is. absurd (omega (arith, is, first_of 0 1 new written.stands))

-- nothing happened yet, or the closing is under way
abbrev pub Began : State → State → Type 0
Began old new = (new ≡ old) ⊎ Closing old new

-- the network was stored, and the checkpoint area stays
record NetStored (first : NetData) (old new : State) : Type 0 where
  pub net : new.net ≡ Some first
  pub cell : new.cell ≡ old.cell

module _ (first : NetData) (before : List HostEvent) (mid new : State) (none : mid.net ≡ None) (stored : new.net ≡ Some first) (cell : new.cell ≡ mid.cell) where
  net_stored : Steps (NetStored first) (stops_of mid (reverse before)) (stops_of new (reverse (before ++ Changed None ∷ [])))
  net_stored =
      subst (λ (l : List HostEvent). Steps (NetStored first) (stops_of mid (reverse before)) (stops_of new l)) (sym (newest before _ (Changed None) refl))
      (push (Changed None) (reverse before) mid new was (NetStored first) leads)
    where
      was : undone (Changed None) new ≡ mid
      was = λ i. record { net = sym none i; cell = cell i }

      leads : (s : State) → Left new (Changed None ∷ reverse before) s → After (stops_of mid (reverse before)) (NetStored first) s
      leads s (inl same) = (mid, reads mid (reverse before), record { net = (λ i. (same i).net) ∙ stored; cell = (λ i. (same i).cell) ∙ cell })
      leads s (inr (r, left, c, net)) = (r, subst (λ (o : State). Left o (reverse before) r) was left, record { net = net ∙ stored; cell = c })

  -- behind the closing the network is stored
  module _ (old : Stops State) (shut : get_or mid.cell 0 1 ≢ 1) (sure : (r : State) → Left mid (reverse before) r → r.cell ≡ mid.cell) where
    storing : (q r s : State) → Left mid (reverse before) r → Began q r → NetStored first r s → Storing first q s
    storing q r s left began is = record {
      net = inr is.net;
      closed = subst (λ (l : List ℕ). get_or l 0 1 ≢ 1) (sym (is.cell ∙ sure r left)) shut;
      gate = subst (λ (l : List ℕ). Torn 0 1 q.cell l) (sym is.cell) (torn began);
      kept = λ shut. is.cell ∙ stays began shut;
    }
      where
        torn : Began q r → Torn 0 1 q.cell r.cell
        torn (inl same) = subst (λ (x : State). Torn 0 1 q.cell x.cell) (sym same) (torn_same 0 1 q.cell)
        torn (inr closing) = closing.gate

        stays : Began q r → get_or q.cell 0 1 ≢ 1 → r.cell ≡ q.cell
        stays (inl same) shut = λ i. (same i).cell
        stays (inr closing) shut = absurd (shut closing.was_open)

    pub stored_after : Steps Began old (stops_of mid (reverse before)) → Steps (MaybeMade first) old (stops_of new (reverse (before ++ Changed None ∷ [])))
    stored_after began = follow Began (NetStored first) (MaybeMade first) old (stops_of mid (reverse before)) (stops_of new (reverse (before ++ Changed None ∷ []))) began net_stored
        (λ q r left step. elim step [ inl same ↦ inl same | inr closing ↦ inr (inl closing) ])
        (λ q r s begin left step is. inr (inr (storing q r s left step is)))

module _ (before : List HostEvent) (gate : Vec ℕ Global) (old mid : State) where
  abbrev synced : List HostEvent
  synced = before ++ Synced ∷ []

  abbrev wrote : List HostEvent
  wrote = synced ++ Wrote 0 1 gate ∷ []

  -- a gate that is open is synced, written, and synced again
  opening : old.net ≡ None → get_or old.cell 0 1 ≡ 1 → gate.items ≡ old.cell → mid.net ≡ old.net → Torn 0 1 old.cell mid.cell
      → Steps Began (stops_of old (reverse before)) (stops_of mid (reverse (wrote ++ Synced ∷ [])))
  opening none is held net torn =
      follow Began Stays Began (stops_of old (reverse before)) (stops_of mid (reverse wrote)) (stops_of mid (reverse (wrote ++ Synced ∷ [])))
      (follow Stays (CellTorn 0 1) Began (stops_of old (reverse before)) (stops_of old (reverse synced)) (stops_of mid (reverse wrote))
      (sync_pushed true before synced old refl)
      (write_pushed synced wrote old mid 0 1 (inl (record { before = gate; items = held; pushed = refl })) net torn)
      (λ q r left same. inl same)
      (λ q r s begin left same step. inr (subst (λ (x : State). Closing x s) same (record {
        net = step.net ∙ one_net old (reverse synced) r left ∙ none;
        was_open = ap (λ (l : List ℕ). get_or l 0 1) (sync_sure before synced old refl r left) ∙ is;
        gate = step.cell;
      }))))
      (sync_pushed true wrote (wrote ++ Synced ∷ []) mid refl)
      (λ q r left step. step)
      (λ q r s begin left step same. subst (λ (x : State). Began q x) (sym same) step)

-- a gate that is closed is synced
shut_already : (before : List HostEvent) (old : State) → Steps Began (stops_of old (reverse before)) (stops_of old (reverse (before ++ Synced ∷ [])))
shut_already before old = weaken Stays Began (stops_of old (reverse before)) (stops_of old (reverse (before ++ Synced ∷ []))) (sync_pushed true before (before ++ Synced ∷ []) old refl) (λ r s left same. inl same)

module _ (first : NetData) (before after closing : List HostEvent) (old new : State) (none : old.net ≡ None) (stored : new.net ≡ Some first) (is : after ≡ before ++ (closing ++ Changed None ∷ [])) where
  -- the last events of a making are a sync and the storing
  last_two : (rest : List HostEvent) → after ≡ (rest ++ Synced ∷ []) ++ Changed None ∷ [] → reverse after ≡ Changed None ∷ (Synced ∷ reverse rest)
  last_two rest two = newest (rest ++ Synced ∷ []) after (Changed None) two ∙ ap (λ (l : List HostEvent). Changed None ∷ l) (newest rest _ Synced refl)

  surely : (rest : List HostEvent) → after ≡ (rest ++ Synced ∷ []) ++ Changed None ∷ [] → (s : State) → Left new (reverse after) s → s.cell ≡ new.cell
  surely rest two s left = by (subst (λ (l : List HostEvent). Left new l s) (last_two rest two) left)
    where
      by : Left new (Changed None ∷ (Synced ∷ reverse rest)) s → s.cell ≡ new.cell
      by (inl same) = λ i. (same i).cell
      by (inr (r, there, c, net)) = c ∙ there.1

  made_closed : WasClosed old.cell new.cell closing → Makes first old new before after
  made_closed was =
      record {
        none = none;
        net = stored;
        stops = subst (λ (l : List HostEvent). Steps (MaybeMade first) (stops_of old (reverse before)) (stops_of new (reverse l))) (sym two)
            (stored_after first (before ++ Synced ∷ []) old new none stored was.bytes (stops_of old (reverse before)) was.closed (sync_sure before (before ++ Synced ∷ []) old refl) (shut_already before old));
        storing = record {
          net = inr stored;
          closed = subst (λ (l : List ℕ). get_or l 0 1 ≢ 1) (sym was.bytes) was.closed;
          gate = subst (λ (l : List ℕ). Torn 0 1 old.cell l) (sym was.bytes) (torn_same 0 1 old.cell);
          kept = λ shut. was.bytes;
        };
        sure = surely before two;
        consistent = λ touched. subst (λ (l : List HostEvent). IsTouched new.cell (map (touch_of 0) l)) (sym (last_two before two))
            (subst (λ (l : List ℕ). IsTouched l (map (touch_of 0) (reverse before))) (sym was.bytes) touched);
      }
    where
      two : after ≡ (before ++ Synced ∷ []) ++ Changed None ∷ []
      two = is ∙ ap (λ (l : List HostEvent). before ++ (l ++ Changed None ∷ [])) was.pushed ∙ sym (append_assoc before (Synced ∷ []) (Changed None ∷ []))

  made_open : WasOpen old.cell new.cell closing → Makes first old new before after
  made_open was =
      record {
        none = none;
        net = stored;
        stops = subst (λ (l : List HostEvent). Steps (MaybeMade first) (stops_of old (reverse before)) (stops_of new (reverse l))) (sym two)
            (stored_after first (rest ++ Synced ∷ []) mid new none stored refl (stops_of old (reverse before)) (closed old.cell new.cell was.written) (sync_sure rest (rest ++ Synced ∷ []) mid refl)
            (opening before was.before old mid none was.opened was.items refl was.written.torn));
        storing = record {
          net = inr stored;
          closed = closed old.cell new.cell was.written;
          gate = was.written.torn;
          kept = λ shut. absurd (shut was.opened);
        };
        sure = surely rest two;
        consistent = λ touched. subst (λ (l : List HostEvent). IsTouched new.cell (map (touch_of 0) l)) (sym (last_two rest two ∙ ap (λ (l : List HostEvent). Changed None ∷ (Synced ∷ l)) (newest (before ++ Synced ∷ []) rest (Wrote 0 1 was.before) refl ∙ ap (λ (l : List HostEvent). Wrote 0 1 was.before ∷ l) (newest before _ Synced refl))))
            (subst (λ (l : List ℕ). Torn 0 1 l new.cell) (sym was.items) was.written.torn, subst (λ (l : List ℕ). IsTouched l (map (touch_of 0) (reverse before))) (sym was.items) touched);
      }
    where
      mid : State
      mid = record { net = old.net; cell = new.cell }

      rest : List HostEvent
      rest = (before ++ Synced ∷ []) ++ Wrote 0 1 was.before ∷ []

      two : after ≡ (rest ++ Synced ∷ []) ++ Changed None ∷ []
      two = is ∙ ap (λ (l : List HostEvent). before ++ (l ++ Changed None ∷ [])) was.pushed
          ∙ sym (append_assoc rest (Synced ∷ []) (Changed None ∷ []) ∙ append_assoc (before ++ Synced ∷ []) (Wrote 0 1 was.before ∷ []) (Synced ∷ (Changed None ∷ [])) ∙ append_assoc before (Synced ∷ []) (Wrote 0 1 was.before ∷ (Synced ∷ (Changed None ∷ []))))

  -- a making over a closed gate, or over an open one
  pub makes : IsClosing old.cell new.cell closing → Makes first old new before after
  makes (inl was) = made_closed was
  makes (inr was) = made_open was

-- ---- what a making leaves where it was answered that it was made or that it wasn't

no_net : (net : Option NetData) → net ≡ None → IsSome net → ⊥
no_net None none some = let e : false ≡ true = some in absurd (cc)
no_net (Some n) none some = let e : Some n ≡ None = none in absurd (cc)

-- what a making leaves, made or not
pub record Leaves (first : NetData) (old new : State) (before after : List HostEvent) : Type 0 where
  pub maybe : MaybeMade first old new
  pub stops : Steps (MaybeMade first) (stops_of old (reverse before)) (stops_of new (reverse after))
  pub stays : IsSome old.net → Steps Stays (stops_of old (reverse before)) (stops_of new (reverse after)) × (new ≡ old)
  pub has_net : old.net ≢ None → new.net ≢ None

module _ (old new : State) (before after : List HostEvent) (kept : IsUnmade old new before after) where
  same_state : new ≡ old
  same_state = λ i. record { net = kept.net i; cell = kept.cell i }

  unmade : Steps Stays (stops_of old (reverse before)) (stops_of new (reverse after)) × (new ≡ old)
  unmade = (unchanged before after old new Stays (λ s. refl) kept.events same_state, same_state)

module _ {E : Type 0} (first : NetData) (old new : State) (before after : List HostEvent) where
  pub leaves : (answer : Result (Unit {0}) E) → OnOk answer (Makes first old new before after) → OnErr answer (IsUnmade old new before after)
      → Leaves first old new before after
  leaves (Ok done) made same = record {
    maybe = inr (inr made.storing);
    stops = made.stops;
    stays = λ some. absurd (no_net old.net made.none some);
    has_net = λ some. absurd (some made.none);
  }
  leaves (Err fault) made same = record {
    maybe = inl (same_state old new before after same);
    stops = unchanged before after old new (MaybeMade first) (λ s. inl refl) same.events (same_state old new before after same);
    stays = λ some. unmade old new before after same;
    has_net = λ some none. some (sym same.net ∙ none);
  }

  -- where it wasn't made, nothing changed
  pub at_fault : (answer : Result (Unit {0}) E) → OnErr answer (IsUnmade old new before after) → (fault : E) → answer ≡ Err fault
      → Steps Stays (stops_of old (reverse before)) (stops_of new (reverse after)) × (new ≡ old)
  at_fault (Ok done) same fault is = absurd (cc)
  at_fault (Err other) same fault is = unmade old new before after same
