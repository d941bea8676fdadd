-- What an apply leaves by the machine where the merge refuses its document, and where a change waits.
use Rattle.std.proofs.Common.{◌≡◌, ℕ, Bool, true, false, refl, sym, ap, ◌∙◌, Option, Some, None, Result, Ok, Err}
use Rattle.std.specs.Prelude.{if◌then◌else◌, option_map}
use Rattle.net_model.specs.NetData.{NetData}
use Rattle.document_model.specs.declared.Refused.{Refused}
use Rattle.checkpoint_cell.specs.Cell.{Checkpoint}
use Rattle.checkpoint_cell.specs.Settled.{Standing, settled, settled_from, taken_back, restored_to}
use Rattle.merge_model.specs.MergedNet.{merge}
use Rattle.engine_model.specs.Machine.{Outcome, Asked, apply, apply_step, apply_fault, change, merged_as, deadline_of, waiting, recover_cell, restore, restored_as, saved_on, stays}
use Rattle.engine_model.specs.declared.answers.Applied.{Applied}
use Rattle.engine_model.specs.declared.answers.Recovered.{Recovered}
use Rattle.engine_model.specs.declared.answers.Recovered.TheVariants.{Waiting as Waits_for, Restored}
use Rattle.engine_model.specs.declared.answers.BackFault.{BackFault}
use Rattle.engine_model.specs.declared.answers.BackFault.TheVariants as ba
use Rattle.engine_model.specs.declared.answers.ApplyFault.{ApplyFault}
use Rattle.engine_model.specs.declared.answers.ApplyFault.TheVariants as ap_
use Rattle.engine_model.proofs.lemmas.Finding.{found_saved}

abbrev Made : Type 0
Made = Outcome Applied ApplyFault

abbrev refusal : Refused → Result Applied ApplyFault
refusal r = Err (ap_.MergeRefused r)

-- the change that is made, by whether it is to wait
abbrev made_as : Asked → NetData → NetData → Bool → Made
made_as a from to b = if b then record { answer = Ok (record { deadline = Some (deadline_of a) }); after = record { net = Some to; cell = Some (waiting a from) } }
    else record { answer = Ok (record { deadline = None }); after = restored_to to }

-- a recovery, by whether the change is taken back
abbrev recovers_as : Standing → Checkpoint → Bool → Outcome Recovered BackFault
recovers_as e c b = if b then restore Restored e c else stays e (Ok (Waits_for c.deadline))

other_fault : (fault : BackFault) (r : Refused) → apply_fault fault ≡ ap_.MergeRefused r → ⊥
other_fault ba.NoCheckpoint r is = cc
other_fault (ba.HostFault left) r is = cc
other_fault (ba.KernelRefused k n left) r is = cc
other_fault (ba.Damaged area) r is = cc
other_fault (ba.HardwareDiffers names) r is = cc
other_fault ba.OutOfMemory r is = cc

failed_fault : (fault : BackFault) (r : Refused) → Err (apply_fault fault) ≡ refusal r → ⊥
failed_fault fault r is = other_fault fault r (let there : refusal r ≡ Err (apply_fault fault) = sym is in cc)

module _ (a : Asked) (r : Refused) where
  made_not : (from to : NetData) (b : Bool)
      → (made_as a from to b).answer ≡ refusal r → ⊥
  made_not from to true is = cc
  made_not from to false is = cc

  merged_after : (from : NetData) (m : Result NetData Refused) → (merged_as a from m).answer ≡ refusal r → (merged_as a from m).after ≡ restored_to from
  merged_after from (Ok to) is = absurd (made_not from to a.opts.no_commit is)
  merged_after from (Err broken) is = refl

  change_after : (e : Standing) (net : Option NetData) → e.net ≡ net → e.cell ≡ None → (change a e net).answer ≡ refusal r → (change a e net).after ≡ e
  change_after e None is none refused = cc
  change_after e (Some from) is none refused = merged_after from (merge from a.doc) refused ∙ (λ i. record { net = sym is i; cell = sym none i })

  found_after : (e : Standing) (cell : Option NetData) (found : Result NetData BackFault) → ((saved : NetData) → found ≡ Ok saved → cell ≡ Some saved) → (apply_step a (restored_as Restored e found)).answer ≡ refusal r
      → option_map (λ saved. restored_to saved) cell ≡ Some (apply_step a (restored_as Restored e found)).after
  found_after e cell (Ok saved) has refused =
      ap (λ (n : Option NetData). option_map (λ saved. restored_to saved) n) (has saved refl) ∙ ap (λ (x : Standing). Some x) (sym (change_after (restored_to saved) (Some saved) refl refl refused))
  found_after e cell (Err fault) has refused = absurd (failed_fault fault r refused)

  set_after : (e : Standing) (c : Checkpoint) (b : Bool) → (apply_step a (recovers_as e c b)).answer ≡ refusal r
      → option_map (λ saved. if b then restored_to saved else e) c.net ≡ Some (apply_step a (recovers_as e c b)).after
  set_after e c true refused = found_after e c.net (saved_on c.net e.net) (λ saved is. found_saved c.net e.net saved is) refused
  set_after e c false refused = cc

  cell_after : (e : Standing) (cell : Option Checkpoint) → e.cell ≡ cell → (apply_step a (recover_cell a.now e cell)).answer ≡ refusal r → settled_from a.now e cell ≡ Some (apply_step a (recover_cell a.now e cell)).after
  cell_after e None is refused = ap (λ (x : Standing). Some x) (sym (change_after e e.net refl is refused))
  cell_after e (Some c) is refused = set_after e c (taken_back a.now c.phase c.made c.deadline) refused

  -- where the merge refuses, it leaves what the settling made
  pub refused_settles : (e : Standing) → (apply a e).answer ≡ refusal r → settled a.now e ≡ Some (apply a e).after
  refused_settles e refused = cell_after e e.cell refl refused

-- ---- where a change waits, all stays

module _ (a : Asked) (deadline : ℕ) where
  abbrev waits : Result Applied ApplyFault
  waits = Err (ap_.Pending deadline)

  fault_waits : (fault : BackFault) → Err (apply_fault fault) ≡ waits → ⊥
  fault_waits ba.NoCheckpoint is = cc
  fault_waits (ba.HostFault left) is = cc
  fault_waits (ba.KernelRefused k n left) is = cc
  fault_waits (ba.Damaged area) is = cc
  fault_waits (ba.HardwareDiffers names) is = cc
  fault_waits ba.OutOfMemory is = cc

  made_waits : (from to : NetData) (b : Bool)
      → (made_as a from to b).answer ≡ waits → ⊥
  made_waits from to true is = cc
  made_waits from to false is = cc

  merged_waits : (from : NetData) (m : Result NetData Refused) → (merged_as a from m).answer ≡ waits → ⊥
  merged_waits from (Ok to) is = made_waits from to a.opts.no_commit is
  merged_waits from (Err broken) is = cc

  -- a change that begins from what stands meets none that waits
  pub change_waits : (e : Standing) (net : Option NetData) → (change a e net).answer ≡ waits → ⊥
  change_waits e None is = cc
  change_waits e (Some from) is = merged_waits from (merge from a.doc) is

  found_waits : (e : Standing) (found : Result NetData BackFault) → (apply_step a (restored_as Restored e found)).answer ≡ waits → ⊥
  found_waits e (Ok saved) is = change_waits (restored_to saved) (Some saved) is
  found_waits e (Err fault) is = fault_waits fault is

  set_waits : (e : Standing) (c : Checkpoint) (b : Bool) → (apply_step a (recovers_as e c b)).answer ≡ waits
      → (apply_step a (recovers_as e c b)).after ≡ e
  set_waits e c true is = absurd (found_waits e (saved_on c.net e.net) is)
  set_waits e c false is = refl

  cell_waits : (e : Standing) (cell : Option Checkpoint) → (apply_step a (recover_cell a.now e cell)).answer ≡ waits → (apply_step a (recover_cell a.now e cell)).after ≡ e
  cell_waits e None is = absurd (change_waits e e.net is)
  cell_waits e (Some c) is = set_waits e c (taken_back a.now c.phase c.made c.deadline) is

  -- where a change waits, all stays
  pub pending_stays : (e : Standing) → (apply a e).answer ≡ waits → (apply a e).after ≡ e
  pending_stays e is = cell_waits e e.cell is
