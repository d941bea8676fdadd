-- What the clauses of a look give, by its answer.
use Rattle.std.proofs.Common.{◌≡◌, ◌∙◌, ℕ, List, sym, ap, Some, Ok, Err}
use Rattle.net_model.specs.NetData.{NetData}
use Rattle.host_core.specs.HostView.{State, HostView, IsLawfulHost}
use Rattle.checkpoint_cell.specs.Cell.{Checkpoint, cell_of, seen_of}
use Rattle.checkpoint_cell.specs.Settled.{standing}
use Rattle.engine_model.specs.Checks.{found, unless_other, check_net, check_saved, check_cell, check}
use Rattle.engine_model.specs.Sound.{Fit, Sound}
use Rattle.engine_model.specs.declared.answers.Checked.{Checked}
use Rattle.engine_model.specs.declared.answers.CheckFault.TheVariants.{Damaged, HardwareDiffers}
use Rattle.engine_model.proofs.lemmas.SameDevices.{differing_none}
use Rattle.rollout_core.specs.Calls.{Looks}

-- a state with a checkpoint that can be recovered from is found so
pub found_whole : (s : State) → Fit s → (c : Checkpoint) → cell_of s.cell ≡ Some c → (net : NetData) × (check (standing s) ≡ Ok (found net (Some c)))
found_whole s fit c is =
    let w = fit.whole c is in (
      w.net,
      ap (check_cell s.net) is
          ∙ ap (check_saved s.net c) w.is_saved
          ∙ ap (check_net (Some c) (Some w.saved)) w.is_net
          ∙ ap (unless_other (found w.net (Some c))) (differing_none w.saved w.net (sym w.devices)),
    )

-- of a look at an honest host that is sound and has this checkpoint
module _ (tells honest : Type 0) (trust : honest) (told : tells) (old new : HostView) (lawful : IsLawfulHost tells old) (sound : Sound old) (c : Checkpoint) (is : cell_of old.state.cell ≡ Some c) where
  whole : (net : NetData) × (check (standing old.state) ≡ Ok (found net (Some c)))
  whole = found_whole old.state (sound.fit old.state (lawful.reads told)) c is

  -- what it sees is the checkpoint
  pub look_sees : (checked : Checked) → Looks tells honest old new (Ok checked) → checked.cell ≡ seen_of (Some c)
  look_sees checked call =
      let same : Ok checked ≡ Ok (found whole.0 (Some c)) = sym (call.answers trust) ∙ whole.1 in
      let seen : checked ≡ found whole.0 (Some c) = cc in
      ap (λ (x : Checked). x.cell) seen

  -- it finds no damage
  pub look_whole : (area : ℕ) → Looks tells honest old new (Err (Damaged area)) → ⊥
  look_whole area call = let same : Err (Damaged area) ≡ Ok (found whole.0 (Some c)) = sym (call.answers trust) ∙ whole.1 in absurd (cc)

  -- and no other devices
  pub look_same : (names : List (List ℕ)) → Looks tells honest old new (Err (HardwareDiffers names)) → ⊥
  look_same names call = let same : Err (HardwareDiffers names) ≡ Ok (found whole.0 (Some c)) = sym (call.answers trust) ∙ whole.1 in absurd (cc)
