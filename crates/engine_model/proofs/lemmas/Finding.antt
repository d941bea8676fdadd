-- What a restoring finds, and what the machine answers by it.
use Rattle.std.proofs.Common.{◌≡◌, ◌∙◌, ℕ, Bool, true, false, List, [], ◌∷◌, refl, sym, ap, subst, Option, Some, None, Result, Ok, Err}
use Rattle.std.specs.Prelude.{⊤, if◌then◌else◌, IfErr, IsSome}
use Rattle.net_model.specs.NetData.{NetData}
use Rattle.host_core.specs.HostView.{State}
use Rattle.checkpoint_cell.specs.Cell.{Checkpoint, cell_of, saved_net}
use Rattle.checkpoint_cell.specs.Settled.{Standing, standing, taken_back, restored_to}
use Rattle.checkpoint_cell.proofs.lemmas.Saved.{saved_is}
use Rattle.engine_model.specs.Answers.{IsHealthy, IsTaken, Finds}
use Rattle.engine_model.specs.Differing.{differing}
use Rattle.engine_model.specs.Faults.{BackExact}
use Rattle.engine_model.specs.Machine.{Outcome, stays, saved_on, unless_differing, restored_as, restore, rollback, rollback_cell, recover, recover_cell}
use Rattle.engine_model.specs.declared.answers.BackFault.{BackFault}
use Rattle.engine_model.specs.declared.answers.BackFault.TheVariants as ba
use Rattle.engine_model.specs.declared.answers.Left.TheVariants.{NotBegun}
use Rattle.engine_model.specs.declared.answers.Recovered.{Recovered}
use Rattle.engine_model.specs.declared.answers.Recovered.TheVariants.{Waiting as Waits_for, Restored}

abbrev Found : Type 0
Found = Result NetData BackFault

abbrev fails : BackFault → Found
fails fault = Err fault

-- a fault that is found is so whatever the answer would carry
pub finds_as : (A B : Type 0) (found : Found) (fault : BackFault) → Finds {A = A} found (Err fault) → Finds {A = B} found (Err fault)
finds_as A B found ba.NoCheckpoint finds = finds
finds_as A B found (ba.HostFault left) finds = tt
finds_as A B found (ba.KernelRefused k n left) finds = finds
finds_as A B found (ba.Damaged area) finds = finds
finds_as A B found (ba.HardwareDiffers names) finds = finds
finds_as A B found ba.OutOfMemory finds = tt

fails_not : (fault : BackFault) (saved : NetData) → fails fault ≡ Ok saved → ⊥
fails_not fault saved is = let e : fails fault ≡ Ok saved = is in cc

unless_saved : (saved other : NetData) (names : List (List ℕ)) → unless_differing saved names ≡ Ok other → saved ≡ other
unless_saved saved other [] is = let one : Found = Ok saved in let e : one ≡ Ok other = is in cc
unless_saved saved other (n ∷ names) is = absurd (fails_not (ba.HardwareDiffers (n ∷ names)) other is)

-- a network that is found is the saved one
pub found_saved : (cell net : Option NetData) (saved : NetData) → saved_on cell net ≡ Ok saved → cell ≡ Some saved
found_saved None net saved is = absurd (fails_not (ba.Damaged 1) saved is)
found_saved (Some s) None saved is = absurd (fails_not (ba.Damaged 0) saved is)
found_saved (Some s) (Some n) saved is = ap (λ (x : NetData). Some x) (unless_saved s saved (differing s n) is)

-- where it is found, the calls and the clearing bring no other fault of what stands
pub finds_done : (found : Found) (saved : NetData) → found ≡ Ok saved → (result : Result ⊤ BackFault) → IfErr result (λ fault. IsHealthy fault) → (result ≡ Err ba.NoCheckpoint → ⊥) → Finds found result
finds_done found saved is (Ok done) healthy set = (saved, is)
finds_done found saved is (Err ba.NoCheckpoint) healthy set = absurd (set refl)
finds_done found saved is (Err (ba.HostFault left)) healthy set = tt
finds_done found saved is (Err (ba.KernelRefused k n left)) healthy set = healthy
finds_done found saved is (Err (ba.Damaged area)) healthy set = absurd healthy
finds_done found saved is (Err (ba.HardwareDiffers names)) healthy set = absurd healthy
finds_done found saved is (Err ba.OutOfMemory) healthy set = tt

-- a fault that is found is the machine's
finds_exact : (A B : Type 0) (a : A) (e : Standing) (found : Found) (fault : BackFault) → Finds {A = B} found (Err fault) → BackExact (restored_as a e found).answer (Err fault)
finds_exact A B a e found ba.NoCheckpoint finds = absurd finds
finds_exact A B a e found (ba.HostFault left) finds = tt
finds_exact A B a e found (ba.KernelRefused k n left) finds = finds
finds_exact A B a e found (ba.Damaged area) finds = ap (λ (r : Found). (restored_as a e r).answer) finds
finds_exact A B a e found (ba.HardwareDiffers names) finds = ap (λ (r : Found). (restored_as a e r).answer) finds
finds_exact A B a e found ba.OutOfMemory finds = tt

not_begun : (A : Type 0) (machine : Result A BackFault) (fault : BackFault) → fault ≡ ba.HostFault NotBegun → BackExact machine (Err fault)
not_begun A machine fault is = subst (λ (f : BackFault). BackExact machine (Err f)) (sym is) tt

module _ (s : State) where
  abbrev Return : Type 0
  Return = Outcome ⊤ BackFault

  -- a rollback that is done is so in the machine
  pub rolled_exact : (cell : Option Checkpoint) → cell_of s.cell ≡ cell → IsSome cell → ((c : Checkpoint) → cell_of s.cell ≡ Some c → (saved : NetData) × (saved_on c.net s.net ≡ Ok saved)) → (rollback (standing s)).answer ≡ Ok tt
  rolled_exact None is some finds = let e : false ≡ true = some in absurd (cc)
  rolled_exact (Some c) is some finds =
      ap (λ (k : Option Checkpoint). (rollback_cell (standing s) k).answer) is ∙ ap (λ (r : Found). (restored_as tt (standing s) r).answer) (finds c is).1

  -- and where the saved network stands then, and no checkpoint, it leaves what the machine does
  pub rolled_after : (new : State) (cell : Option Checkpoint) → cell_of s.cell ≡ cell → IsSome cell → ((c : Checkpoint) → cell_of s.cell ≡ Some c → (saved : NetData) × (saved_on c.net s.net ≡ Ok saved))
      → cell_of new.cell ≡ None → new.net ≡ saved_net new.cell → saved_net new.cell ≡ saved_net s.cell → standing new ≡ (rollback (standing s)).after
  rolled_after new None is some finds none net same = let e : false ≡ true = some in absurd (cc)
  rolled_after new (Some c) is some finds none net same =
      let found = finds c is in
      let saved : new.net ≡ Some found.0 = net ∙ same ∙ saved_is c s.cell is ∙ found_saved c.net s.net found.0 found.1 in
      let stands : standing new ≡ restored_to found.0 = λ i. record { net = saved i; cell = none i } in
      stands ∙ sym (ap (λ (k : Option Checkpoint). (rollback_cell (standing s) k).after) is ∙ ap (λ (r : Found). (restored_as tt (standing s) r).after) found.1)

  -- a rollback's fault of what stands is the machine's
  pub rollback_exact : (cell : Option Checkpoint) → cell_of s.cell ≡ cell → (B : Type 0) (fault : BackFault) → ((c : Checkpoint) → cell_of s.cell ≡ Some c → Finds {A = B} (saved_on c.net s.net) (Err fault)) → (cell_of s.cell ≡ None → fault ≡ ba.HostFault NotBegun)
      → BackExact (rollback (standing s)).answer (Err fault)
  rollback_exact None is B fault finds unset = not_begun ⊤ (rollback (standing s)).answer fault (unset is)
  rollback_exact (Some c) is B fault finds unset =
      subst (λ (k : Option Checkpoint). BackExact (rollback_cell (standing s) k).answer (Err fault)) (sym is) (finds_exact ⊤ B tt (standing s) (saved_on c.net s.net) fault (finds c is))

module _ (now : ℕ) (s : State) where
  abbrev Recovery : Type 0
  Recovery = Outcome Recovered BackFault

  by_taken : (c : Checkpoint) → cell_of s.cell ≡ Some c → (b : Bool) → taken_back now c.phase c.made c.deadline ≡ b
      → recover now (standing s) ≡ (if b then restore Restored (standing s) c else stays (standing s) (Ok (Waits_for c.deadline)))
  by_taken c is b taken =
      ap (recover_cell now (standing s)) is
      ∙ ap (λ (t : Bool). if t then restore Restored (standing s) c else stays (standing s) (Ok (Waits_for c.deadline))) taken

  -- a recovery that restored does so in the machine
  pub restored_exact : (t : IsTaken now (cell_of s.cell)) → (saved : NetData) → saved_on t.checkpoint.net s.net ≡ Ok saved → (recover now (standing s)).answer ≡ Ok Restored
  restored_exact t saved is =
      ap (λ (o : Recovery). o.answer) (by_taken t.checkpoint t.is true t.back) ∙ ap (λ (r : Found). (restored_as Restored (standing s) r).answer) is

  taken_fault : (c : Checkpoint) → cell_of s.cell ≡ Some c → (b : Bool) → taken_back now c.phase c.made c.deadline ≡ b → (B : Type 0) (fault : BackFault)
      → ((t : IsTaken now (cell_of s.cell)) → Finds {A = B} (saved_on t.checkpoint.net s.net) (Err fault)) → ((IsTaken now (cell_of s.cell) → ⊥) → fault ≡ ba.HostFault NotBegun) → BackExact (recover now (standing s)).answer (Err fault)
  taken_fault c is true taken B fault finds untaken =
      let t : IsTaken now (cell_of s.cell) = record { checkpoint = c; is = is; back = taken } in
      subst (λ (o : Recovery). BackExact o.answer (Err fault)) (sym (by_taken c is true taken)) (finds_exact Recovered B Restored (standing s) (saved_on c.net s.net) fault (finds t))
  taken_fault c is false taken B fault finds untaken =
      not_begun Recovered (recover now (standing s)).answer fault (untaken (λ t.
      let e : Some t.checkpoint ≡ Some c = sym t.is ∙ is in
      let same : t.checkpoint ≡ c = cc in
      let wrong : true ≡ false = sym t.back ∙ ap (λ (k : Checkpoint). taken_back now k.phase k.made k.deadline) same ∙ taken in
      cc))

  -- a recovery's fault of what stands is the machine's
  pub recover_exact : (cell : Option Checkpoint) → cell_of s.cell ≡ cell → (B : Type 0) (fault : BackFault)
      → ((t : IsTaken now (cell_of s.cell)) → Finds {A = B} (saved_on t.checkpoint.net s.net) (Err fault)) → ((IsTaken now (cell_of s.cell) → ⊥) → fault ≡ ba.HostFault NotBegun) → BackExact (recover now (standing s)).answer (Err fault)
  recover_exact None is B fault finds untaken = not_begun Recovered (recover now (standing s)).answer fault (untaken (λ t. let e : Some t.checkpoint ≡ None = sym t.is ∙ is in cc))
  recover_exact (Some c) is B fault finds untaken = taken_fault c is (taken_back now c.phase c.made c.deadline) refl B fault finds untaken
