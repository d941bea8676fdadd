-- Which events the answers of calls are.
use Rattle.std.proofs.Common.{◌≡◌, inl, inr, ◌∙◌, ℕ, Bool, true, false, List, [], ◌∷◌, refl, sym, subst, Result, Ok, Err}
use Rattle.std.specs.Prelude.{⊤, if◌then◌else◌, ◌==◌}
use Rattle.std.proofs.lemmas.Bool.{ne_eqb}
use Rattle.engine_model.specs.Machine.{Asked}
use Rattle.engine_model.specs.declared.answers.Left.TheVariants.{NotBegun, RolledBack, Pending}
use Rattle.engine_model.specs.declared.answers.Applied.{Applied}
use Rattle.engine_model.specs.declared.answers.ApplyFault.{ApplyFault}
use Rattle.engine_model.specs.declared.answers.ApplyFault.TheVariants as ap_
use Rattle.engine_model.specs.declared.answers.CommitFault.{CommitFault}
use Rattle.engine_model.specs.declared.answers.CommitFault.TheVariants as co
use Rattle.engine_model.specs.declared.answers.BackFault.{BackFault}
use Rattle.engine_model.specs.declared.answers.BackFault.TheVariants as ba
use Rattle.engine_model.specs.declared.answers.Checked.{Checked}
use Rattle.engine_model.specs.declared.answers.CheckFault.{CheckFault}
use Rattle.engine_model.specs.declared.answers.CheckFault.TheVariants as ch
use Rattle.host_core.specs.declared.Host.{Ghosts as HostGhosts}
use Rattle.rollout_model.specs.Rolls.{answers, OneOf, Carries}
use Rattle.rollout_model.specs.Steps.{node_of}
use Rattle.rollout_model.specs.declared.node.Event.{Event}
use Rattle.rollout_model.specs.declared.node.Event.TheVariants as ev
use Rattle.rollout_model.specs.declared.node.Action.{Action}
use Rattle.rollout_model.specs.declared.node.Action.TheVariants.{Start, Probe, Commit, Rollback, Finish}
use Rattle.rollout_core.specs.Answers.{opening, opening_fault, in_time, probing, closing, returning}
use Rattle.rollout_core.specs.Did.{Did}
use Rattle.rollout_core.specs.Trace.{is_start_of, is_good_of}

-- what an event of one node is, beside its kind
pub record OfNode (i : ℕ) (event : Event) : Type 0 where
  pub node : node_of event ≡ i
  pub starts : is_start_of i event ≡ false

module _ (i : ℕ) where
  abbrev Four : Event → Type 0
  Four e = OneOf (answers (Start i)) e

  refused_one : Four (ev.Refused i)
  refused_one = inr (inl refl)

  unclear_one : Four (ev.Unclear i)
  unclear_one = inr (inr (inl refl))

  fault_one : (fault : ApplyFault) → Four (opening_fault i fault)
  fault_one (ap_.Pending deadline) = refused_one
  fault_one (ap_.MergeRefused refused) = refused_one
  fault_one (ap_.HostFault NotBegun) = refused_one
  fault_one (ap_.HostFault RolledBack) = refused_one
  fault_one (ap_.HostFault Pending) = unclear_one
  fault_one (ap_.KernelRefused k n RolledBack) = refused_one
  fault_one (ap_.KernelRefused k n NotBegun) = unclear_one
  fault_one (ap_.KernelRefused k n Pending) = unclear_one
  fault_one (ap_.NotVerified found RolledBack) = refused_one
  fault_one (ap_.NotVerified found NotBegun) = unclear_one
  fault_one (ap_.NotVerified found Pending) = unclear_one
  fault_one ap_.InDoubt = unclear_one
  fault_one (ap_.Damaged area) = unclear_one
  fault_one (ap_.HardwareDiffers names) = unclear_one
  fault_one ap_.OutOfMemory = inr (inr (inr (inl refl)))

  pub opening_one : (answer : Result Applied ApplyFault) → OneOf (answers (Start i)) (opening i answer)
  opening_one (Ok applied) = inl refl
  opening_one (Err fault) = fault_one fault

  good_or_bad : (b : Bool) → OneOf (answers (Probe i)) (if b then ev.Good i else ev.Bad i)
  good_or_bad true = inl refl
  good_or_bad false = inr (inl refl)

  pub probing_one : (now : ℕ) (answer : Result Checked CheckFault) → OneOf (answers (Probe i)) (probing now i answer)
  probing_one now (Ok checked) = good_or_bad (in_time now checked.cell)
  probing_one now (Err ch.HostFault) = inr (inr (inl refl))
  probing_one now (Err (ch.Damaged area)) = inr (inr (inl refl))
  probing_one now (Err (ch.HardwareDiffers names)) = inr (inr (inl refl))
  probing_one now (Err ch.OutOfMemory) = inr (inr (inr (inl refl)))

  pub closing_one : (answer : Result ⊤ CommitFault) → OneOf (answers (Commit i)) (closing i answer)
  closing_one (Ok done) = inl refl
  closing_one (Err (co.Expired made deadline)) = inr (inl refl)
  closing_one (Err co.NoCheckpoint) = inr (inr (inl refl))
  closing_one (Err (co.Unfinished made deadline)) = inr (inr (inl refl))
  closing_one (Err co.HostFault) = inr (inr (inl refl))
  closing_one (Err co.InDoubt) = inr (inr (inl refl))

  pub returning_one : (answer : Result ⊤ BackFault) → OneOf (answers (Rollback i)) (returning i answer)
  returning_one (Ok done) = inl refl
  returning_one (Err ba.OutOfMemory) = inr (inr (inl refl))
  returning_one (Err ba.NoCheckpoint) = inr (inl refl)
  returning_one (Err (ba.HostFault left)) = inr (inl refl)
  returning_one (Err (ba.KernelRefused k n left)) = inr (inl refl)
  returning_one (Err (ba.Damaged area)) = inr (inl refl)
  returning_one (Err (ba.HardwareDiffers names)) = inr (inl refl)

-- what was done gives events that carry out the action
pub carried : {H : Type 0} (G : HostGhosts H) (a : Asked) (action : Action) (old new : List H) (events : List Event) → Did G a action old new events → Carries action events
carried G a (Start i) old new events did = (opening i did.0, opening_one i did.0, did.2)
carried G a (Probe i) old new events did = (probing a.now i did.0, probing_one i a.now did.0, did.2)
carried G a (Commit i) old new events did = (closing i did.0, closing_one i did.0, did.2)
carried G a (Rollback i) old new events did = (returning i did.0, returning_one i did.0, did.2)
carried G a Finish old new events did = did.1

-- ---- of which node they are, and that they start none and but a look finds none good

four_of : (P : Event → Type 0) (a b c d : Event) → P a → P b → P c → P d → (e : Event) → OneOf (a ∷ b ∷ c ∷ d ∷ []) e → P e
four_of P a b c d pa pb pc pd e one = elim one [
  | inl is ↦ subst P (sym is) pa
  | inr two ↦ elim two [
    | inl is ↦ subst P (sym is) pb
    | inr three ↦ elim three [
      | inl is ↦ subst P (sym is) pc
      | inr last ↦ elim last [ inl is ↦ subst P (sym is) pd | inr none ↦ absurd none ]
    ]
  ]
]

three_of : (P : Event → Type 0) (a b c : Event) → P a → P b → P c → (e : Event) → OneOf (a ∷ b ∷ c ∷ []) e → P e
three_of P a b c pa pb pc e one = elim one [
  | inl is ↦ subst P (sym is) pa
  | inr two ↦ elim two [
    | inl is ↦ subst P (sym is) pb
    | inr last ↦ elim last [ inl is ↦ subst P (sym is) pc | inr none ↦ absurd none ]
  ]
]

module _ (i : ℕ) where
  of : (event : Event) → node_of event ≡ i → is_start_of i event ≡ false → OfNode i event
  of event node starts = record { node = node; starts = starts }

  pub opening_of : (e : Event) → OneOf (answers (Start i)) e → OfNode i e × (is_good_of i e ≡ false)
  opening_of = four_of (λ (e : Event). OfNode i e × (is_good_of i e ≡ false)) (ev.Open i) (ev.Refused i) (ev.Unclear i) (ev.Starved i)
      (of (ev.Open i) refl refl, refl) (of (ev.Refused i) refl refl, refl) (of (ev.Unclear i) refl refl, refl) (of (ev.Starved i) refl refl, refl)

  pub probing_of : (e : Event) → OneOf (answers (Probe i)) e → OfNode i e
  probing_of = four_of (λ (e : Event). OfNode i e) (ev.Good i) (ev.Bad i) (ev.Unclear i) (ev.Starved i)
      (of (ev.Good i) refl refl) (of (ev.Bad i) refl refl) (of (ev.Unclear i) refl refl) (of (ev.Starved i) refl refl)

  pub closing_of : (e : Event) → OneOf (answers (Commit i)) e → OfNode i e × (is_good_of i e ≡ false)
  closing_of = three_of (λ (e : Event). OfNode i e × (is_good_of i e ≡ false)) (ev.Closed i) (ev.Late i) (ev.Unclear i)
      (of (ev.Closed i) refl refl, refl) (of (ev.Late i) refl refl, refl) (of (ev.Unclear i) refl refl, refl)

  pub returning_of : (e : Event) → OneOf (answers (Rollback i)) e → OfNode i e × (is_good_of i e ≡ false)
  returning_of = three_of (λ (e : Event). OfNode i e × (is_good_of i e ≡ false)) (ev.Back i) (ev.Unclear i) (ev.Starved i)
      (of (ev.Back i) refl refl, refl) (of (ev.Unclear i) refl refl, refl) (of (ev.Starved i) refl refl, refl)

module _ (i j : ℕ) (apart : i ≡ j → ⊥) where
  other : (event : Event) (n : ℕ) → n ≡ i → (n == j) ≡ false
  other event n is = ne_eqb n j (λ same. apart (sym is ∙ same))

  -- an event of one node starts no other and finds no other good
  pub other_start : (event : Event) → node_of event ≡ i → is_start_of j event ≡ false
  other_start (ev.Start n) is = other (ev.Start n) n is
  other_start event is = refl

  pub other_good : (event : Event) → node_of event ≡ i → is_good_of j event ≡ false
  other_good (ev.Good n) is = other (ev.Good n) n is
  other_good event is = refl
