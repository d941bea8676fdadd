-- What a write of the phase leaves.
use Rattle.std.proofs.Common.{◌≡◌, inl, inr, ℕ, ◌≤◌, List, [], ◌∷◌, length, take, drop, get_or, refl, sym, ap, ◌∙◌, subst, arith, Option, Some}
use Rattle.std.proofs.lemmas.Bool.{cases_eq}
use Rattle.std.proofs.lemmas.Bool.Decides.{nat_tests}
use Rattle.host_core.specs.Bytes.{Torn, Written}
use Rattle.host_core.specs.HostView.{State, HostView, HasCell, CellTorn}
use Rattle.host_core.specs.Stops.{Stops, Steps}
use Rattle.host_core.proofs.lemmas.Moments.{weaken}
use Rattle.checkpoint_cell.specs.declared.Phase.{Phase}
use Rattle.checkpoint_cell.specs.declared.Phase.TheVariants.{Applying}
use Rattle.checkpoint_cell.specs.Cell.{Checkpoint, cell_of, behind_phase, phase_of, in_phase}
use Rattle.checkpoint_cell.specs.Steps.{CellIn, Holds, EitherPhase}
use Rattle.checkpoint_cell.proofs.lemmas.Cells.{gate_open, set, same_gate}
use Rattle.checkpoint_cell.proofs.Records.{behind_other}

some_byte : (bytes : List ℕ) → get_or bytes 0 0 ≡ 1 → 1 ≤ length bytes
some_byte [] is = absurd (omega arith)
some_byte (g ∷ bytes) is = omega arith

drop_two : (bytes : List ℕ) → drop 1 (drop 1 bytes) ≡ drop 2 bytes
drop_two [] = refl
drop_two (a ∷ []) = refl
drop_two (a ∷ b ∷ bytes) = refl

-- the first byte of what was written
pub first_of : (byte : ℕ) (bytes : List ℕ) → take 1 bytes ≡ byte ∷ [] → get_or bytes 0 0 ≡ byte
first_of byte [] is = let e : [] ≡ byte ∷ [] = is in absurd (cc)
first_of byte (b ∷ bytes) is = let e : b ∷ [] ≡ byte ∷ [] = is in cc

-- the cell has the phase that the second byte says now, and all else as before
phase_torn : (checkpoint : Checkpoint) (old new : List ℕ) → cell_of old ≡ Some checkpoint → Torn 1 1 old new
    → cell_of new ≡ Some (in_phase (phase_of (get_or (drop 1 new) 0 0)) checkpoint)
phase_torn checkpoint old new is torn =
    let was = set checkpoint old is in
    let opens : get_or new 0 0 ≡ 1 = same_gate 1 old new (some_byte old was.gate) torn ∙ was.gate in
    let rest : drop 1 (drop 1 new) ≡ drop 1 (drop 1 old) = drop_two new ∙ torn.after ∙ sym (drop_two old) in
    let now = phase_of (get_or (drop 1 new) 0 0) in
    let before = phase_of (get_or (drop 1 old) 0 0) in
    gate_open new opens
    ∙ ap (λ (c : Checkpoint). Some c) (behind_other now before (drop 1 (drop 1 new)) ∙ ap (λ (l : List ℕ). in_phase now (behind_phase before l)) rest ∙ ap (in_phase now) was.behind)

either : (checkpoint : Checkpoint) (byte : ℕ) → EitherPhase checkpoint (Some (in_phase (phase_of byte) checkpoint))
either checkpoint byte = elim (cases_eq byte 2) [
  | inl is ↦ inr (ap (λ (b : ℕ). Some (in_phase (phase_of b) checkpoint)) is)
  | inr not ↦ let applies : phase_of byte ≡ Applying = grind (arith, nat_tests) in inl (ap (λ (p : Phase). Some (in_phase p checkpoint)) applies)
]

-- a cell whose phase was written has that phase
pub marked : (byte : ℕ) (checkpoint : Checkpoint) (old new : HostView) → Holds (Some checkpoint) old
    → Written 1 (byte ∷ []) old.state.cell new.state.cell → HasCell new.state.cell new → Holds (Some (in_phase (phase_of byte) checkpoint)) new
marked byte checkpoint old new holds written sure = record {
  sure = sure;
  cell = phase_torn checkpoint old.state.cell new.state.cell holds.cell written.torn
      ∙ ap (λ (b : ℕ). Some (in_phase (phase_of b) checkpoint)) (first_of byte (drop 1 new.state.cell) written.stands);
}

-- a stop while the phase is written leaves the one phase or the other
pub marking : (checkpoint : Checkpoint) (old : HostView) (new : Stops State) → Holds (Some checkpoint) old
    → Steps (CellTorn 1 1) old.stops new → Steps (CellIn (EitherPhase checkpoint)) old.stops new
marking checkpoint old new holds steps =
    weaken (CellTorn 1 1) (CellIn (EitherPhase checkpoint)) old.stops new steps (λ r s left torn. record {
      net = torn.net;
      no_shorter = torn.cell.no_shorter;
      cell = subst (λ (c : Option Checkpoint). EitherPhase checkpoint c)
          (sym (phase_torn checkpoint r.cell s.cell (ap cell_of (holds.sure r left) ∙ holds.cell) torn.cell))
          (either checkpoint (get_or (drop 1 s.cell) 0 0));
    })
