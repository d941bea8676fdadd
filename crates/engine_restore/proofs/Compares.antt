-- What a check answers and leaves.
use Rattle.std.proofs.Common.{◌≡◌, ◌≢◌, ◌∙◌, inl, inr, refl, sym, ap, subst, ℕ, List, [], ◌∷◌, length, Option, Some, None}
use Rattle.std.specs.Prelude.{Result, Ok, Err, IsSome}
use Rattle.net_model.specs.NetData.{NetData, IsNet}
use Rattle.host_core.specs.HostView.{State, HostView}
use Rattle.host_core.specs.Stops.{Stops, Steps, Stays}
use Rattle.host_core.proofs.lemmas.Moments.{follow}
use Rattle.checkpoint_cell.specs.Cell.{Checkpoint, cell_of, saved_net, seen_of, applying}
use Rattle.checkpoint_cell.specs.Loaded.{IsBad, IsLoaded}
use Rattle.checkpoint_cell.specs.Settled.{Standing, standing, restored_to}
use Rattle.checkpoint_cell.specs.declared.Seen.{Seen}
use Rattle.checkpoint_cell.specs.declared.loading.Pending.{Pending}
use Rattle.engine_model.specs.Checks.{found, unless_other, differing_from, SameHardware, check_cell, check_saved, check, saved_in, Compared, CheckSays, CheckAnswers, AsRead, CheckExit}
use Rattle.engine_model.specs.Sound.{Fit, Sound, IsWhole}
use Rattle.engine_model.specs.Stations.{Within, Before, Ends, entry_of, left_by}
use Rattle.engine_model.specs.declared.Checked.{Checked}
use Rattle.engine_model.specs.declared.CheckFault.{CheckFault}
use Rattle.engine_model.specs.declared.CheckFault.TheVariants.{HostFault, Damaged, HardwareDiffers, OutOfMemory}
use Rattle.engine_model.specs.Differing.{differing}
use Rattle.engine_model.proofs.lemmas.Leading.{alike_is}
use Rattle.engine_model.proofs.lemmas.OtherDevices.{same_devices}

-- a checkpoint that was loaded
abbrev as_saved : Pending → Checkpoint
as_saved pending = record { phase = pending.phase; made = pending.made; deadline = pending.deadline; net = Some pending.net }

abbrev Outcome : Type 0
Outcome = Result Checked CheckFault

-- nothing changes, and then nothing again
pub stays_on : (old mid new : Stops State) → Steps Stays old mid → Steps Stays mid new → Steps Stays old new
stays_on old mid new one two = follow Stays Stays Stays old mid new one two (λ r s left same. same) (λ q r s begin left a b. b ∙ a)

-- ---- what is answered

-- the checkpoint that was loaded is compared with the network that was found
as_loaded : (pending : Option Pending) (cell : Option Checkpoint) (net : NetData) → IsLoaded pending cell → check_cell (Some net) cell ≡ unless_other (found net cell) (differing_from (saved_in pending) net)
as_loaded None cell net is = subst (λ (c : Option Checkpoint). check_cell (Some net) c ≡ unless_other (found net c) []) (sym is) refl
as_loaded (Some pending) cell net is =
    subst (λ (c : Option Checkpoint). check_cell (Some net) c ≡ unless_other (found net c) (differing_from (Some pending.net) net)) (sym is) refl

told_others : (seen : Checked) (names : List (List ℕ)) → names ≢ [] → unless_other seen names ≡ Err (HardwareDiffers names)
told_others seen [] some = absurd (some refl)
told_others seen (name ∷ names) some = refl

abbrev Agrees : Outcome → Outcome → Type 0
Agrees machine (Err HostFault) = ⊥
Agrees machine (Err OutOfMemory) = Unit {0}
Agrees machine (Err (Damaged area)) = ⊥
Agrees machine result = machine ≡ result

agrees : (pending : Option Pending) (cell : Option Checkpoint) (net : NetData) (seen : Seen) → IsLoaded pending cell → seen ≡ seen_of cell → (result : Outcome)
    → Compared seen (differing_from (saved_in pending) net) (length net.links) result → Agrees (check_cell (Some net) cell) result
agrees pending cell net seen loaded is (Ok checked) c =
    let same : found net cell ≡ checked = (λ i. record { links = length net.links; cell = sym is i }) ∙ sym c.1 in
    as_loaded pending cell net loaded ∙ ap (unless_other (found net cell)) c.0 ∙ ap (λ (x : Checked). Ok x) same
agrees pending cell net seen loaded is (Err HostFault) c = c
agrees pending cell net seen loaded is (Err (Damaged area)) c = c
agrees pending cell net seen loaded is (Err (HardwareDiffers names)) c = as_loaded pending cell net loaded ∙ ap (unless_other (found net cell)) c.0 ∙ told_others (found net cell) names c.1
agrees pending cell net seen loaded is (Err OutOfMemory) c = tt

-- what is there isn't none
pub none_here : {A : Type 0} (o : Option A) → IsSome o → o ≢ None
none_here None some none = cc
none_here (Some x) some none = cc

-- on every host, of the network that was dumped
pub says_compared : (tells : Type 0) (old new : HostView) (pending : Option Pending) (net : NetData) (seen : Seen) → (tells → IsLoaded pending (cell_of old.state.cell)) → (tells → seen ≡ seen_of (cell_of old.state.cell))
    → (tells → new.fresh ≡ Some net) → (tells → IsSome old.state.net) → (result : Outcome) → Compared seen (differing_from (saved_in pending) net) (length net.links) result → CheckSays tells old new result
says_compared tells old new pending net seen loaded is fresh some (Ok checked) c =
    λ t. (none_here old.state.net (some t), ap (λ (n : Option NetData). check_cell n (cell_of old.state.cell)) (fresh t) ∙ agrees pending (cell_of old.state.cell) net seen (loaded t) (is t) (Ok checked) c)
says_compared tells old new pending net seen loaded is fresh some (Err HostFault) c = absurd c
says_compared tells old new pending net seen loaded is fresh some (Err (Damaged area)) c = absurd c
says_compared tells old new pending net seen loaded is fresh some (Err (HardwareDiffers names)) c =
    λ t. (none_here old.state.net (some t), ap (λ (n : Option NetData). check_cell n (cell_of old.state.cell)) (fresh t) ∙ agrees pending (cell_of old.state.cell) net seen (loaded t) (is t) (Err (HardwareDiffers names)) c)
says_compared tells old new pending net seen loaded is fresh some (Err OutOfMemory) c = tt

-- on an honest host, of the network that stands
pub answers_compared : (old new : HostView) (pending : Option Pending) (net : NetData) (seen : Seen) → IsLoaded pending (cell_of old.state.cell) → seen ≡ seen_of (cell_of old.state.cell) → old.state.net ≡ Some net
    → (result : Outcome) → Compared seen (differing_from (saved_in pending) net) (length net.links) result → CheckAnswers (check (standing old.state)) old new result
answers_compared old new pending net seen loaded is stands (Ok checked) c =
    ap (λ (n : Option NetData). check_cell n (cell_of old.state.cell)) stands ∙ agrees pending (cell_of old.state.cell) net seen loaded is (Ok checked) c
answers_compared old new pending net seen loaded is stands (Err HostFault) c = absurd c
answers_compared old new pending net seen loaded is stands (Err (Damaged area)) c = absurd c
answers_compared old new pending net seen loaded is stands (Err (HardwareDiffers names)) c =
    ap (λ (n : Option NetData). check_cell n (cell_of old.state.cell)) stands ∙ agrees pending (cell_of old.state.cell) net seen loaded is (Err (HardwareDiffers names)) c
answers_compared old new pending net seen loaded is stands (Err OutOfMemory) c = tt

-- ---- what is damaged

abbrev pub damaged : ℕ → Outcome
damaged area = Err (Damaged area)

-- the checkpoint is open and has no whole image
pub bad_told : (net : Option NetData) (cell : Option Checkpoint) → IsBad cell → check_cell net cell ≡ damaged 1
bad_told net None bad = absurd bad
bad_told net (Some checkpoint) bad = ap (check_saved net checkpoint) bad

-- there is no network
pub none_told : (pending : Option Pending) (net : Option NetData) (cell : Option Checkpoint) → net ≡ None → IsLoaded pending cell → check_cell net cell ≡ damaged 0
none_told None net cell none is = λ i. check_cell (none i) (is i)
none_told (Some pending) net cell none is = λ i. check_cell (none i) (is i)

-- as the number of its area is told
pub damaged_as : (area told : ℕ) → area ≡ told → damaged area ≡ damaged told
damaged_as area told is = ap damaged is

-- ---- what is left

module _ (old new : HostView) (steps : Steps Stays old.stops new.stops) where
  -- what could be left before
  pub left_before : Within (left_by new) (Before (entry_of old))
  left_before stands l =
      let from = steps.now l.0 l.1 in
      record { station = stands; is = (from.0, from.1, ap standing (sym from.2) ∙ l.2); like = alike_is stands stands refl }

  module _ (each : (s : State) → new.stops.may_leave s → standing s ≡ standing old.state) where
    -- what reads as the host did
    pub left_as_read : Within (left_by new) (AsRead (entry_of old))
    left_as_read stands l =
        let from = steps.now l.0 l.1 in
        record { station = stands; is = ((from.0, from.1, ap standing (sym from.2) ∙ l.2), sym l.2 ∙ each l.0 l.1); like = alike_is stands stands refl }

    pub exit_compared : (seen : Seen) (names : List (List ℕ)) (links : ℕ) (result : Outcome) → Compared seen names links result → CheckExit (entry_of old) (left_by new) result
    exit_compared seen names links (Ok checked) c = left_as_read
    exit_compared seen names links (Err HostFault) c = absurd c
    exit_compared seen names links (Err (Damaged area)) c = absurd c
    exit_compared seen names links (Err (HardwareDiffers others)) c = left_as_read
    exit_compared seen names links (Err OutOfMemory) c = left_before

some_none : {A : Type 0} (x : A) → Some x ≡ None → ⊥
some_none x e = cc

-- where a sound host has no network, nothing else is left
bare_cell : (s : State) → Fit s → s.net ≡ None → (cell : Option Checkpoint) → cell_of s.cell ≡ cell → cell_of s.cell ≡ None
bare_cell s fit none None is = is
bare_cell s fit none (Some c) is = let w = fit.whole c is in absurd (some_none w.net (sym w.is_net ∙ none))

pub bare_left : (old : HostView) → Sound old → old.stops.may_leave old.state → old.state.net ≡ None → (s : State) → old.stops.may_leave s → standing s ≡ standing old.state
bare_left old sound here none s l = elim sound.one as (λ v. standing s ≡ standing old.state) [
  | inl one ↦
      let net : s.net ≡ None = one.1 s l ∙ sym (one.1 old.state here) ∙ none in
      let cell = bare_cell s (sound.fit s l) net (cell_of s.cell) refl ∙ sym (bare_cell old.state (sound.fit old.state here) none (cell_of old.state.cell) refl) in
      λ i. record { net = (net ∙ sym none) i; cell = cell i }
  | inr all ↦
      let at = all.1 old.state here in
      let w = (sound.fit old.state here).whole (applying at.0 at.1 all.0) at.2 in
      absurd (some_none w.net (sym w.is_net ∙ none))
]

-- ---- a host on which nothing is amiss

-- where no device differs, the hardware is the same
pub same_found : (pending : Option Pending) (p : Pending) (net : NetData) → pending ≡ Some p → IsNet p.net → IsNet net → (names : List (List ℕ)) → differing p.net net ≡ names → names ≡ [] → SameHardware (saved_in pending) net
same_found pending p net is saved found names all none = subst (λ (o : Option Pending). SameHardware (saved_in o) net) (sym is) (same_devices p.net net saved found (all ∙ none))

saved_whole : (pending : Option Pending) (net : NetData) → SameHardware (saved_in pending) net → (s : State) → IsLoaded pending (cell_of s.cell) → s.net ≡ Some net → (checkpoint : Checkpoint) → cell_of s.cell ≡ Some checkpoint → IsWhole s checkpoint
saved_whole None net same s loaded is checkpoint set = let e : Some checkpoint ≡ None = sym set ∙ loaded in absurd (cc)
saved_whole (Some pending) net same s loaded is checkpoint set = record {
  saved = pending.net;
  net = net;
  is_saved = let e : Some checkpoint ≡ Some (as_saved pending) = sym set ∙ loaded in let c : checkpoint ≡ as_saved pending = cc in ap (λ (k : Checkpoint). k.net) c;
  is_net = is;
  devices = sym same;
}

-- each pair is as the host reads, which has this network, and a checkpoint of its devices or none
pub sound_as : (pending : Option Pending) (net : NetData) (host : HostView) → SameHardware (saved_in pending) net → ((s : State) → host.stops.may_leave s → (s.net ≡ Some net) × (s.cell ≡ host.state.cell)) → IsLoaded pending (cell_of host.state.cell)
    → host.state.cell ≢ [] → Sound host
sound_as pending net host same each loaded filled = record {
  fit = λ s left. record {
    whole = saved_whole pending net same s (subst (λ (b : List ℕ). IsLoaded pending (cell_of b)) (sym (each s left).1) loaded) (each s left).0;
    filled = λ any is none. filled (sym (each s left).1 ∙ none);
  };
  one = inl (Some net, λ s left. (each s left).0);
}

-- ---- a network that was taken back

pub restored_net : (saved : NetData) (mid new : HostView) → new.stops.may_leave new.state → saved_net mid.state.cell ≡ Some saved → Ends (restored_to saved) new → saved_net new.state.cell ≡ saved_net mid.state.cell
    → new.state.net ≡ saved_net new.state.cell
restored_net saved mid new there cell ends same = ap (λ (x : Standing). x.net) (ends new.state there) ∙ sym (same ∙ cell)
