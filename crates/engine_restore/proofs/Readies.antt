-- What is known before a restoring begins anything.
use Rattle.std.proofs.Common.{◌≡◌, ◌≢◌, ◌∙◌, inl, inr, refl, sym, ap, subst, arith, ℕ, ◌≤◌, List, [], ◌∷◌, Option, Some, None, Result, Ok, Err}
use Rattle.std.specs.Prelude.{⊤, IfOk, IfErr, IsSome, Vec}
use Rattle.std.specs.declared.alloc.Global.{Global}
use Rattle.net_model.specs.Hardware.{hardware}
use Rattle.net_model.specs.NetData.{NetData}
use Rattle.net_model.specs.declared.Call.{Call}
use Rattle.kernel_model.specs.Runs.{Runs}
use Rattle.host_core.specs.Faults.{Rose}
use Rattle.host_core.specs.HostView.{State, HostView, Untouched}
use Rattle.checkpoint_cell.specs.declared.loading.Pending.{Pending}
use Rattle.checkpoint_cell.specs.Cell.{Checkpoint, cell_of, saved_net}
use Rattle.checkpoint_cell.specs.Loaded.{IsBad, IsLoaded}
use Rattle.checkpoint_cell.specs.Steps.{Holds}
use Rattle.checkpoint_cell.proofs.lemmas.Saved.{saved_is}
use Rattle.engine_model.specs.Answers.{Finds}
use Rattle.engine_model.specs.Differing.{differing}
use Rattle.engine_model.specs.Failing.{IsUnbegun}
use Rattle.engine_model.specs.Faults.{HasSet}
use Rattle.engine_model.specs.Machine.{saved_on, unless_differing}
use Rattle.engine_model.specs.Sound.{Sound, IsWhole}
use Rattle.engine_model.specs.declared.answers.Left.TheVariants.{NotBegun}
use Rattle.engine_model.specs.declared.answers.BackFault.{BackFault}
use Rattle.engine_model.specs.declared.answers.BackFault.TheVariants.{NoCheckpoint, HostFault, KernelRefused, Damaged, HardwareDiffers, OutOfMemory}
use Rattle.engine_model.proofs.lemmas.Failing.{looked, unbegun_quiet, fails_after}
use Rattle.engine_model.proofs.lemmas.Leading.{sound_stays}
use Rattle.engine_model.proofs.lemmas.Restores.{held_stays, same_checkpoint, not_bad}
use Rattle.engine_model.proofs.lemmas.SameDevices.{differing_none}
use Rattle.engine_restore.specs.Restoring.{IsSet, Hinders, IsDumped, WayBack, LeadsBack, IsReady}

-- counts that never fall don't fall over two steps
pub later_on : (a b c : ℕ) → a ≤ b → b ≤ c → a ≤ c
later_on a b c one two = omega (arith, one, two)

-- the saved network is that of the checkpoint that is held
pub set_loaded : (pending : Pending) (checkpoint : Checkpoint) (old mid : HostView) → Holds (Some checkpoint) old → IsLoaded (Some pending) (cell_of old.state.cell) → Holds (Some checkpoint) mid → IsSet pending.net mid
set_loaded pending checkpoint old mid before loaded holds =
    let same : Some checkpoint ≡ Some (record { phase = pending.phase; made = pending.made; deadline = pending.deadline; net = Some pending.net }) = sym before.cell ∙ loaded in
    let is : checkpoint ≡ record { phase = pending.phase; made = pending.made; deadline = pending.deadline; net = Some pending.net } = cc in
    record { checkpoint = checkpoint; holds = holds; is_saved = ap (λ (k : Checkpoint). k.net) is }

-- what is held was loaded as it is
pub never_empty : (checkpoint : Checkpoint) (host : HostView) → Holds (Some checkpoint) host → IsLoaded None (cell_of host.state.cell) → ⊥
never_empty checkpoint host holds none = let e : Some checkpoint ≡ None = sym holds.cell ∙ none in cc

-- the network of the checkpoint that is held
has_net : (saved : NetData) (host : HostView) → IsSet saved host → (checkpoint : Checkpoint) → Holds (Some checkpoint) host → checkpoint.net ≡ Some saved
has_net saved host set checkpoint holds = ap (λ (k : Checkpoint). k.net) (same_checkpoint checkpoint set.checkpoint host holds set.holds) ∙ set.is_saved

-- on a sound host it is of the devices of the network that stands
whole : (saved : NetData) (host : HostView) → host.stops.may_leave host.state → (set : IsSet saved host) → Sound host → IsWhole host.state set.checkpoint
whole saved host here set sound = (sound.fit host.state here).whole set.checkpoint set.holds.cell

told_others : (saved : NetData) (names : List (List ℕ)) → names ≢ [] → unless_differing saved names ≡ Err (HardwareDiffers names)
told_others saved [] some = absurd (some refl)
told_others saved (name ∷ names) some = refl

-- the saved network stays in its place where nothing changes
saved_there : (saved : NetData) (old new : HostView) → IsSet saved old → new.state ≡ old.state → saved_net new.state.cell ≡ Some saved
saved_there saved old new set same = ap (λ (s : State). saved_net s.cell) same ∙ saved_is set.checkpoint old.state.cell set.holds.cell ∙ set.is_saved

-- and so does its checkpoint
set_there : (saved : NetData) (old new : HostView) → IsSet saved old → new.state ≡ old.state → HasSet (cell_of new.state.cell)
set_there saved old new set same = subst (λ (k : Option Checkpoint). HasSet k) (sym (ap (λ (s : State). cell_of s.cell) same ∙ set.holds.cell)) tt

-- ---- faults

module _ (tells honest : Type 0) (told : honest → tells) (old new : HostView) (begun : IsUnbegun tells old new) where
  pub host_failed : Rose old.faults new.faults → Hinders tells honest old new (HostFault NotBegun)
  host_failed rose = record { fails = (rose, begun); healthy = λ h sound. tt; exact = λ h checkpoint holds. tt }

  pub no_memory : Hinders tells honest old new OutOfMemory
  no_memory = record { fails = (unbegun_quiet tells old new begun, λ t. inl (begun.same t)); healthy = λ h sound. tt; exact = λ h checkpoint holds. tt }

  module _ (reads : tells → old.stops.may_leave old.state) where
    -- no image stands behind the gate
    pub no_image : (tells → IsBad (cell_of old.state.cell)) → Hinders tells honest old new (Damaged 1)
    no_image bad = record {
      fails = (begun, λ t. inr (refl, bad t));
      healthy = λ h sound. not_bad (cell_of old.state.cell) old.state refl (sound.fit old.state (reads (told h))) (bad (told h));
      exact = λ h checkpoint holds.
          let none : checkpoint.net ≡ None = subst (λ (k : Option Checkpoint). IsBad k) holds.cell (bad (told h)) in
          ap (λ (n : Option NetData). saved_on n old.state.net) none;
    }

    -- there is no network
    pub no_network : (tells → (saved : NetData) × IsSet saved old) → (tells → old.state.net ≡ None) → Hinders tells honest old new (Damaged 0)
    no_network set none = record {
      fails = (begun, λ t. inl (refl, none t));
      healthy = λ h sound.
          let s = set (told h) in
          let w = whole s.0 old (reads (told h)) s.1 sound in
          let e : Some w.net ≡ None = sym w.is_net ∙ none (told h) in
          cc;
      exact = λ h checkpoint holds. let s = set (told h) in λ i. saved_on (has_net s.0 old s.1 checkpoint holds i) (none (told h) i);
    }

    -- the devices are others
    pub other_devices : (saved found : NetData) → (tells → IsSet saved old) → (honest → old.state.net ≡ Some found) → (tells → new.fresh ≡ Some found)
        → (names : List (List ℕ)) → differing saved found ≡ names → names ≢ [] → Hinders tells honest old new (HardwareDiffers names)
    other_devices saved found set stands fresh names all some = record {
      fails = (
        begun,
        λ t. record {
          saved = saved;
          found = found;
          set = set_there saved old new (set t) (begun.same t);
          is_saved = saved_there saved old new (set t) (begun.same t);
          is_found = fresh t;
          all = all;
          some = some;
        },
      );
      healthy = λ h sound.
          let s = set (told h) in
          let w = whole saved old (reads (told h)) s sound in
          let one : Some w.net ≡ Some found = sym w.is_net ∙ stands h in
          let two : Some w.saved ≡ Some saved = sym w.is_saved ∙ s.is_saved in
          let net : w.net ≡ found = cc in
          let kept : w.saved ≡ saved = cc in
          let same : hardware saved.links ≡ hardware found.links = ap (λ (n : NetData). hardware n.links) (sym kept) ∙ sym w.devices ∙ ap (λ (n : NetData). hardware n.links) net in
          some (sym all ∙ differing_none saved found same);
      exact = λ h checkpoint holds. (λ i. saved_on (has_net saved old (set (told h)) checkpoint holds i) (stands h i)) ∙ ap (unless_differing saved) all ∙ told_others saved names some;
    }

-- a fault behind a look at the checkpoint
pub hinders_after : (tells honest : Type 0) (told : honest → tells) (old mid new : HostView) → Untouched tells old mid → old.faults ≤ mid.faults → (fault : BackFault) → Hinders tells honest mid new fault → Hinders tells honest old new fault
hinders_after tells honest told old mid new look later fault f = record {
  fails = fails_after tells old mid new later (looked tells old mid look) fault f.fails;
  healthy = λ h sound. f.healthy h (sound_stays old mid sound look.stops);
  exact = λ h checkpoint holds.
      subst (λ (n : Option NetData). Finds {A = ⊤} (saved_on checkpoint.net n) (Err fault)) (look.kernel.net (told h)) (f.exact h checkpoint (held_stays (Some checkpoint) old mid holds look.stops (look.cell (told h))));
}

-- the saved network is one
pub runs_to : (calls : List Call) (checkpoint : Checkpoint) (old new : HostView) (saved : NetData) → checkpoint.net ≡ Some saved → (l : LeadsBack calls checkpoint old new) → Runs calls l.from saved
runs_to calls checkpoint old new saved has l =
    let e : Some l.saved ≡ Some saved = sym l.is_saved ∙ has in
    let same : l.saved ≡ saved = cc in
    subst (λ (n : NetData). Runs calls l.from n) same l.runs

-- ---- a look at the checkpoint, a dump, and the way back

module _ (tells honest : Type 0) (told : honest → tells) (old mid new : HostView) (look : Untouched tells old mid) (later : old.faults ≤ mid.faults) (reads : tells → mid.stops.may_leave mid.state)
    (found saved : NetData) (set : tells → IsSet saved mid) (begun : IsUnbegun tells mid new) (dump : IsDumped tells honest mid new found) where
  leads_back : (calls : Vec Call Global) → WayBack found saved (Ok calls) → honest → (checkpoint : Checkpoint) → Holds (Some checkpoint) old → LeadsBack calls.items checkpoint old new
  leads_back calls way h checkpoint holds =
      let has = has_net saved mid (set (told h)) checkpoint (held_stays (Some checkpoint) old mid holds look.stops (look.cell (told h))) in
      let stands : old.state.net ≡ Some found = sym (look.kernel.net (told h)) ∙ dump.stands h in
      record {
        from = found;
        saved = saved;
        is_from = ap (λ (s : State). s.net) (begun.same (told h)) ∙ dump.stands h;
        is_saved = has;
        built = way.0;
        runs = way.2.run;
        finds = (λ i. saved_on (has i) (stands i)) ∙ ap (unless_differing saved) (differing_none saved found way.1);
      }

  pub readies : (result : Result (Vec Call Global) BackFault) → WayBack found saved result → IfOk result (λ calls. IsReady tells honest calls.items old new)
  readies (Ok calls) way = record {
    settled = dump.settled;
    zero = dump.zero;
    found = λ t. subst (λ (n : Option NetData). IsSome n) (look.kernel.net t) (dump.found t);
    given = λ t. record { found = found; saved = saved; is_found = dump.fresh t; is_saved = saved_there saved mid new (set t) (begun.same t); plan = way.2 };
    leads = leads_back calls way;
  }
  readies (Err fault) way = tt

  pub hinders : (result : Result (Vec Call Global) BackFault) → WayBack found saved result → IfErr result (λ fault. Hinders tells honest old new fault)
  hinders (Ok calls) way = tt
  hinders (Err NoCheckpoint) way = absurd way
  hinders (Err (HostFault left)) way = absurd way
  hinders (Err (KernelRefused k n left)) way = absurd way
  hinders (Err (Damaged area)) way = absurd way
  hinders (Err (HardwareDiffers names)) way =
      hinders_after tells honest told old mid new look later (HardwareDiffers names) (other_devices tells honest told mid new begun reads saved found set dump.stands dump.fresh names way.0 way.1)
  hinders (Err OutOfMemory) way = hinders_after tells honest told old mid new look later OutOfMemory (no_memory tells honest told mid new begun)
