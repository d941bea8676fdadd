-- What the two writes of a record leave.
use Rattle.std.proofs.Common.{◌≡◌, ◌≢◌, inl, ℕ, ◌≤◌, List, [], ◌∷◌, ◌++◌, length, drop, refl, sym, ap, ◌∙◌, subst, arith, take-append-drop, Some, None}
use Rattle.host_core.specs.Bytes.{Written}
use Rattle.host_core.specs.HostView.{State, HostView, HasCell, CellTorn}
use Rattle.host_core.specs.Stops.{Stops, Steps}
use Rattle.host_core.proofs.lemmas.Moments.{weaken, follow}
use Rattle.checkpoint_cell.specs.Cell.{Checkpoint, cell_of, checkpoint_of}
use Rattle.checkpoint_cell.specs.Steps.{CellIn, Holds, NoneOr}
use Rattle.checkpoint_cell.proofs.lemmas.Cells.{gate_open, gate_shut, none_shut, any_gate, same_gate}
use Rattle.checkpoint_cell.proofs.Marks.{first_of}

some : (bytes : List ℕ) → bytes ≢ [] → 1 ≤ length bytes
some [] empty = absurd (empty refl)
some (b ∷ bytes) filled = omega arith

-- behind a closed gate no write makes a checkpoint
shut : (checkpoint : Checkpoint) (n : ℕ) (old : HostView) (r s : State) → Holds None old → old.state.cell ≢ [] → old.stops.may_leave r
    → CellTorn 1 n r s → CellIn (NoneOr checkpoint) r s
shut checkpoint n old r s holds filled left torn =
    let same = holds.sure r left in
    let is_some : 1 ≤ length r.cell = some r.cell (λ e. filled (sym same ∙ e)) in
    let gate = same_gate n r.cell s.cell is_some torn.cell in
    let closed = none_shut r.cell (ap cell_of same ∙ holds.cell) in
    record { net = torn.net; no_shorter = torn.cell.no_shorter; cell = inl (gate_shut s.cell (λ e. closed (sym gate ∙ e))) }

-- a stop while the record is written behind the gate leaves the cell closed
pub put_first : (checkpoint : Checkpoint) (n : ℕ) (old : HostView) (new : Stops State) → Holds None old → old.state.cell ≢ []
    → Steps (CellTorn 1 n) old.stops new → Steps (CellIn (NoneOr checkpoint)) old.stops new
put_first checkpoint n old new holds filled steps =
    weaken (CellTorn 1 n) (CellIn (NoneOr checkpoint)) old.stops new steps (λ r s left torn. shut checkpoint n old r s holds filled left torn)

-- a stop until the gate is written leaves the cell closed, or the checkpoint
pub put_both : (checkpoint : Checkpoint) (n : ℕ) (old mid : HostView) (new : Stops State) → Holds None old → old.state.cell ≢ []
    → Steps (CellTorn 1 n) old.stops mid.stops → HasCell mid.state.cell mid → checkpoint_of (drop 1 mid.state.cell) ≡ checkpoint
    → Steps (CellTorn 0 1) mid.stops new → Steps (CellIn (NoneOr checkpoint)) old.stops new
put_both checkpoint n old mid new holds filled first sure stands second =
    follow (CellTorn 1 n) (CellTorn 0 1) (CellIn (NoneOr checkpoint)) old.stops mid.stops new first second
    (λ r s left torn. shut checkpoint n old r s holds filled left torn)
    (λ q r s was left one two. record {
      net = two.net ∙ one.net;
      no_shorter = omega (arith, one.cell.no_shorter, two.cell.no_shorter);
      cell = subst (λ (c : Checkpoint). NoneOr c (cell_of s.cell)) (ap (λ (l : List ℕ). checkpoint_of (drop 1 l)) (sure r left) ∙ stands) (any_gate r.cell s.cell two.cell);
    })

-- the record stands behind the gate
pub stands_behind : (checkpoint : Checkpoint) (bytes old new : List ℕ) → Written 1 bytes old new → ((rest : List ℕ) → checkpoint_of (bytes ++ rest) ≡ checkpoint)
    → checkpoint_of (drop 1 new) ≡ checkpoint
stands_behind checkpoint bytes old new written reads =
    let whole : drop 1 new ≡ bytes ++ drop (length bytes) (drop 1 new) =
    sym (take-append-drop (length bytes) (drop 1 new)) ∙ ap (λ (l : List ℕ). l ++ drop (length bytes) (drop 1 new)) written.stands in
    ap checkpoint_of whole ∙ reads (drop (length bytes) (drop 1 new))

-- once the gate is written, the cell holds the checkpoint
pub put_done : (checkpoint : Checkpoint) (mid new : HostView) → checkpoint_of (drop 1 mid.state.cell) ≡ checkpoint
    → Written 0 (1 ∷ []) mid.state.cell new.state.cell → HasCell new.state.cell new → Holds (Some checkpoint) new
put_done checkpoint mid new stands written sure =
    let same : drop 1 new.state.cell ≡ drop 1 mid.state.cell = written.torn.after in
    record {
      sure = sure;
      cell = gate_open new.state.cell (first_of 1 new.state.cell written.stands) ∙ ap (λ (l : List ℕ). Some (checkpoint_of l)) same ∙ ap (λ (c : Checkpoint). Some c) stands;
    }
