-- What the parts of a restoring keep.
use Rattle.std.proofs.Common.{◌≡◌, inl, inr, refl, sym, ap, ◌∙◌, Option, Some, None}
use Rattle.net_model.specs.Hardware.{hardware}
use Rattle.net_model.specs.NetData.{NetData}
use Rattle.host_core.specs.HostView.{State, HostView, HasNet, SameCell}
use Rattle.host_core.specs.Stops.{Steps, Stays}
use Rattle.host_core.proofs.lemmas.Moments.{weaken}
use Rattle.checkpoint_cell.specs.declared.Phase.{Phase}
use Rattle.checkpoint_cell.specs.declared.Phase.TheVariants.{Applying, Waiting}
use Rattle.checkpoint_cell.specs.Cell.{Checkpoint, cell_of, applying, in_phase}
use Rattle.checkpoint_cell.specs.Steps.{Holds, NoneOr, EitherPhase}
use Rattle.checkpoint_cell.specs.Loaded.{IsBad}
use Rattle.checkpoint_cell.specs.Settled.{Standing}
use Rattle.engine_model.specs.Undone.{restored, stand}
use Rattle.engine_model.specs.Sound.{Fit}
use Rattle.engine_model.specs.Stations.{Only, Ends}
use Rattle.checkpoint_cell.specs.Settled.{restored_to}
use Rattle.engine_model.proofs.lemmas.Leading.{alike_is, Good, saved_alike}

-- a call that leaves the checkpoint area alone keeps the checkpoint that is held
pub held : (cell : Option Checkpoint) (old mid : HostView) → Holds cell old → Steps SameCell old.stops mid.stops → SameCell old.state mid.state → Holds cell mid
held cell old mid holds steps same = record {
  sure = λ s left. let from = steps.now s left in from.2 ∙ holds.sure from.0 from.1 ∙ sym same;
  cell = ap cell_of same ∙ holds.cell;
}

-- so does one that changes nothing
pub held_stays : (cell : Option Checkpoint) (old mid : HostView) → Holds cell old → Steps Stays old.stops mid.stops → SameCell old.state mid.state → Holds cell mid
held_stays cell old mid holds steps same =
    held cell old mid holds (weaken Stays SameCell old.stops mid.stops steps (λ r s left is. ap (λ (p : State). p.cell) is)) same

-- one checkpoint is held
pub same_checkpoint : (a b : Checkpoint) (host : HostView) → Holds (Some a) host → Holds (Some b) host → a ≡ b
same_checkpoint a b host one two = let e : Some a ≡ Some b = sym one.cell ∙ two.cell in cc

-- a checkpoint in its own phase is itself
pub in_own_phase : (phase : Phase) (checkpoint : Checkpoint) → checkpoint.phase ≡ phase → in_phase phase checkpoint ≡ checkpoint
in_own_phase phase checkpoint is = λ i. record checkpoint { phase = sym is i }

-- taken up, a checkpoint with its network is that of a change from it
pub is_applying : (checkpoint : Checkpoint) (saved : NetData) → checkpoint.net ≡ Some saved → in_phase Applying checkpoint ≡ applying checkpoint.made checkpoint.deadline saved
is_applying checkpoint saved is = λ i. record { phase = Applying; made = checkpoint.made; deadline = checkpoint.deadline; net = is i }

-- one network and one checkpoint
pub ends_held : (net : NetData) (cell : Option Checkpoint) (host : HostView) → HasNet (Some net) host → Holds cell host → Ends (stand net cell) host
ends_held net cell host nets holds s left = λ i. record { net = nets s left i; cell = (ap cell_of (holds.sure s left) ∙ holds.cell) i }

module _ (net saved : NetData) (devices : hardware net.links ≡ hardware saved.links) where
  whole_as : (checkpoint : Checkpoint) → checkpoint.net ≡ Some saved → (after : Checkpoint) → Some checkpoint ≡ Some after → (kept : NetData) × (after.net ≡ Some kept) × (hardware net.links ≡ hardware kept.links)
  whole_as checkpoint is after same = let e : checkpoint ≡ after = cc in (saved, ap (λ (c : Checkpoint). c.net) (sym e) ∙ is, devices)

  -- marking a change as being made leaves it, or what settles to its saved network
  pub taking_up : (checkpoint : Checkpoint) → checkpoint.net ≡ Some saved → checkpoint.phase ≡ Waiting → (after : Option Checkpoint) → EitherPhase checkpoint after
      → Good (Only (restored_to saved)) net (Some checkpoint) after
  taking_up checkpoint has waits after (inl applies) = record {
    like = inr (record { station = restored_to saved; is = refl; like = saved_alike checkpoint.made checkpoint.deadline saved (stand net after) (applies ∙ ap (λ (c : Checkpoint). Some c) (is_applying checkpoint saved has)) });
    whole = λ c is. whole_as (in_phase Applying checkpoint) has c (sym applies ∙ is);
  }
  taking_up checkpoint has waits after (inr waiting) = record {
    like = inl (alike_is (stand net (Some checkpoint)) (stand net after) (λ i. stand net ((ap (λ (c : Checkpoint). Some c) (sym (in_own_phase Waiting checkpoint waits)) ∙ sym waiting) i)));
    whole = λ c is. whole_as (in_phase Waiting checkpoint) has c (sym waiting ∙ is);
  }

-- from a checkpoint that may be cleared
pub clearing : (P : Standing → Type 0) (net saved : NetData) (checkpoint : Checkpoint) → hardware net.links ≡ hardware saved.links → checkpoint.net ≡ Some saved → P (stand net None)
    → (after : Option Checkpoint) → NoneOr checkpoint after → Good P net (Some checkpoint) after
clearing P net saved checkpoint devices has station after (inl none) = record {
  like = inr (record { station = stand net None; is = station; like = alike_is (stand net None) (stand net after) (λ i. stand net (sym none i)) });
  whole = λ c is. let e : None ≡ Some c = sym none ∙ is in absurd (cc);
}
clearing P net saved checkpoint devices has station after (inr kept) = record {
  like = inl (alike_is (stand net (Some checkpoint)) (stand net after) (λ i. stand net (sym kept i)));
  whole = λ c is. let e : Some checkpoint ≡ Some c = sym kept ∙ is in let same : checkpoint ≡ c = cc in (saved, ap (λ (k : Checkpoint). k.net) (sym same) ∙ has, devices);
}

-- what is restored has a saved network, and is that network alone
pub restored_is : (net : Option NetData) (stands : Standing) → restored net ≡ Some stands → (saved : NetData) × (net ≡ Some saved) × (stands ≡ restored_to saved)
restored_is None stands is = let e : None ≡ Some stands = is in absurd (cc)
restored_is (Some saved) stands is = let e : Some (restored_to saved) ≡ Some stands = is in let f : restored_to saved ≡ stands = cc in (saved, refl, sym f)

-- a checkpoint that can be recovered from is whole
pub not_bad : (cell : Option Checkpoint) (s : State) → cell_of s.cell ≡ cell → Fit s → IsBad cell → ⊥
not_bad None s is fit bad = bad
not_bad (Some checkpoint) s is fit bad = let w = fit.whole checkpoint is in let e : Some w.saved ≡ None = sym w.is_saved ∙ bad in cc
