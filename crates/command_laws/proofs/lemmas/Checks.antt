-- All that is said of a check, from what the engine promises of it.
use Rattle.std.proofs.Common.{◌≡◌, ◌∙◌, ◌⊎◌, inl, inr, refl, sym, ap, subst, ℕ, List, [], ◌∷◌, Option, None, Some}
use Rattle.std.specs.Prelude.{◌≢◌, Result, Ok, Err, IsErrOf, OnOk}
use Rattle.net_model.specs.NetData.{NetData}
use Rattle.host_core.specs.HostView.{State, IsLawfulHost}
use Rattle.checkpoint_cell.specs.Cell.{Checkpoint, cell_of, saved_net}
use Rattle.checkpoint_cell.specs.Loaded.{IsBad}
use Rattle.checkpoint_cell.specs.Settled.{standing}
use Rattle.checkpoint_cell.proofs.lemmas.Saved.{saved_is}
use Rattle.engine_model.specs.Checks.{found, unless_other, differing_from, check_net, check_saved, check_cell, check, CheckSays, CheckAnswers, AsRead, CheckExit}
use Rattle.engine_model.specs.Differing.{differing}
use Rattle.engine_model.specs.Sound.{Sound}
use Rattle.engine_model.specs.Stations.{Stands, Entry, Within, Only, at}
use Rattle.engine_model.specs.Faults.{HasSet, Differs}
use Rattle.engine_model.specs.declared.Left.TheVariants as sides
use Rattle.engine_model.specs.declared.Checked.{Checked}
use Rattle.engine_model.specs.declared.CheckFault.{CheckFault}
use Rattle.engine_model.specs.declared.CheckFault.TheVariants.{HostFault, Damaged, HardwareDiffers, OutOfMemory}
use Rattle.engine_model.proofs.lemmas.Leading.{alike_is, kept_stays}
use Rattle.top_model.specs.Said.{checked}
use Rattle.top_model.specs.Orders.{Inputs, checking, committing, rolling_back, recovering, order_of}
use Rattle.top_model.specs.Machine.{told, check_cause}
use Rattle.top_model.specs.Runs.{Run, MayRead, entry, reads, left_at_exit}
use Rattle.top_model.specs.Told.{Answer, Told}
use Rattle.top_model.specs.Causes.{MayWant, MayAnswer, SaysSound, Comes, Expects, ExactlyOf}
use Rattle.top_model.specs.Exits.{CheckLeaves}
use Rattle.top_model.specs.Answered.{GoesOn, Answered}
use Rattle.top_model.specs.declared.report.Cause.TheVariants.{ReadFault}
use Rattle.top_model.proofs.lemmas.Wanting.{may_want_order}
use Rattle.command_laws.specs.Looked.{ChangesNothing}
use Rattle.command_laws.proofs.lemmas.Looks.{same_reads, reads_before, is_damage}

checking_committing : checking ≢ committing
checking_committing e = cc

checking_rolling_back : checking ≢ rolling_back
checking_rolling_back e = cc

checking_recovering : checking ≢ recovering
checking_recovering e = cc

not_rolled : sides.NotBegun ≢ sides.RolledBack
not_rolled e = cc

abbrev Outcome : Type 0
Outcome = Result Checked CheckFault

abbrev damages : ℕ → Outcome
damages area = Err (Damaged area)

abbrev differs : List (List ℕ) → Outcome
differs names = Err (HardwareDiffers names)

abbrev finds : Checked → Outcome
finds seen = Ok seen

same_area : (a b : ℕ) → damages a ≡ damages b → a ≡ b
same_area a b e = cc

same_names : (a b : List (List ℕ)) → differs a ≡ differs b → a ≡ b
same_names a b e = cc

found_damaged : (seen : Checked) (area : ℕ) → finds seen ≡ damages area → ⊥
found_damaged seen area e = cc

found_differs : (seen : Checked) (names : List (List ℕ)) → finds seen ≡ differs names → ⊥
found_differs seen names e = cc

differs_damaged : (names : List (List ℕ)) (area : ℕ) → differs names ≡ damages area → ⊥
differs_damaged names area e = cc

damaged_differs : (area : ℕ) (names : List (List ℕ)) → damages area ≡ differs names → ⊥
damaged_differs area names e = cc

-- ---- what is damaged

abbrev IsDamagedBy : ℕ → Option NetData → Option Checkpoint → Type 0
IsDamagedBy area net cell = ((area ≡ 0) × (net ≡ None)) ⊎ ((area ≡ 1) × IsBad cell)

never_other : (seen : Checked) (names : List (List ℕ)) (area : ℕ) → unless_other seen names ≡ damages area → ⊥
never_other seen [] area is = found_damaged seen area is
never_other seen (name ∷ names) area is = differs_damaged (name ∷ names) area is

by_net : (cell : Option Checkpoint) (saved net : Option NetData) (area : ℕ) → check_net cell saved net ≡ damages area → (area ≡ 0) × (net ≡ None)
by_net cell saved None area is = (sym (same_area 0 area is), refl)
by_net cell saved (Some net) area is = absurd (never_other (found net cell) (differing_from saved net) area is)

by_saved : (net : Option NetData) (c : Checkpoint) (saved : Option NetData) → c.net ≡ saved → (area : ℕ) → check_saved net c saved ≡ damages area → IsDamagedBy area net (Some c)
by_saved net c None same area is = inr (sym (same_area 1 area is), same)
by_saved net c (Some saved) same area is = inl (by_net (Some c) (Some saved) net area is)

damaged_by : (net : Option NetData) (cell : Option Checkpoint) (area : ℕ) → check_cell net cell ≡ damages area → IsDamagedBy area net cell
damaged_by net None area is = inl (by_net None None net area is)
damaged_by net (Some c) area is = by_saved net c c.net refl area is

-- ---- what differs

-- a saved network of other devices
record Other (names : List (List ℕ)) (net : Option NetData) (cell : Option Checkpoint) : Type 0 where
  pub checkpoint : Checkpoint
  pub saved : NetData
  pub runs : NetData
  pub is : cell ≡ Some checkpoint
  pub is_saved : checkpoint.net ≡ Some saved
  pub is_net : net ≡ Some runs
  pub all : differing saved runs ≡ names
  pub some : names ≢ []

other_names : (seen : Checked) (all names : List (List ℕ)) → unless_other seen all ≡ differs names → all ≡ names
other_names seen [] names is = absurd (found_differs seen names is)
other_names seen (name ∷ more) names is = same_names (name ∷ more) names is

no_names : (name : List ℕ) (names : List (List ℕ)) → name ∷ names ≡ [] → ⊥
no_names name names e = cc

other_some : (seen : Checked) (all names : List (List ℕ)) → unless_other seen all ≡ differs names → names ≢ []
other_some seen [] names is none = found_differs seen names is
other_some seen (name ∷ more) names is none = no_names name more (same_names (name ∷ more) names is ∙ none)

other_net : (c : Checkpoint) (saved : NetData) → c.net ≡ Some saved → (net : Option NetData) (names : List (List ℕ)) → check_net (Some c) (Some saved) net ≡ differs names → Other names net (Some c)
other_net c saved same None names is = absurd (damaged_differs 0 names is)
other_net c saved same (Some net) names is =
    record {
      checkpoint = c;
      saved = saved;
      runs = net;
      is = refl;
      is_saved = same;
      is_net = refl;
      all = other_names (found net (Some c)) (differing saved net) names is;
      some = other_some (found net (Some c)) (differing saved net) names is;
    }

other_saved : (net : Option NetData) (c : Checkpoint) (saved : Option NetData) → c.net ≡ saved → (names : List (List ℕ)) → check_saved net c saved ≡ differs names → Other names net (Some c)
other_saved net c None same names is = absurd (damaged_differs 1 names is)
other_saved net c (Some saved) same names is = other_net c saved same net names is

none_other : (net : Option NetData) (names : List (List ℕ)) → check_net None None net ≡ differs names → ⊥
none_other None names is = damaged_differs 0 names is
none_other (Some net) names is = found_differs (found net None) names is

other : (net : Option NetData) (cell : Option Checkpoint) (names : List (List ℕ)) → check_cell net cell ≡ differs names → Other names net cell
other net None names is = absurd (none_other net names is)
other net (Some c) names is = other_saved net c c.net refl names is

-- no fault of a check is one of the source
pub check_reads : (fault : CheckFault) → check_cause fault ≢ ReadFault
check_reads HostFault e = cc
check_reads (Damaged area) e = cc
check_reads (HardwareDiffers names) e = cc
check_reads OutOfMemory e = cc

-- ---- of a run

abbrev pub answer_of : Outcome → Answer
answer_of result = told checked check_cause result

leaves : (entry : Entry) (left : Stands) (result : Outcome) → CheckExit entry left result → CheckLeaves entry left (answer_of result)
leaves entry left (Ok seen) exit = exit
leaves entry left (Err HostFault) exit = exit
leaves entry left (Err (Damaged area)) exit = exit
leaves entry left (Err (HardwareDiffers names)) exit = exit
leaves entry left (Err OutOfMemory) exit = exit

may : (result : Outcome) → MayAnswer (Ok checking) (answer_of result)
may (Ok seen) = tt
may (Err HostFault) = tt
may (Err (Damaged area)) = tt
may (Err (HardwareDiffers names)) = tt
may (Err OutOfMemory) = tt

module _ (r : Run) (nothing : ChangesNothing r.host_tells r.host r.host_after) where
  has_other : (names : List (List ℕ)) → r.host_tells → Other names r.host_after.fresh (cell_of r.host.state.cell) → Differs names r.host_after
  has_other names t o = record {
    saved = o.saved;
    found = o.runs;
    set = subst (λ (k : Option Checkpoint). HasSet k) (sym (ap (λ (s : State). cell_of s.cell) (nothing.state t) ∙ o.is)) tt;
    is_saved = ap (λ (s : State). saved_net s.cell) (nothing.state t) ∙ saved_is o.checkpoint r.host.state.cell o.is ∙ o.is_saved;
    is_found = o.is_net;
    all = o.all;
    some = o.some;
  }

  comes : IsLawfulHost r.host_tells r.host → (result : Outcome) → CheckSays r.host_tells r.host r.host_after result → (r.honest → OnOk result (SaysSound r))
      → (IsErrOf result OutOfMemory → MayWant r) → Comes r (Ok checking) (answer_of result)
  comes lawful (Ok seen) says sound wants = (λ t. ap answer_of (says t).1, sound)
  comes lawful (Err HostFault) says sound wants = (says, (nothing.state, not_rolled))
  comes lawful (Err (Damaged area)) says sound wants = is_damage r nothing lawful area (λ t. damaged_by r.host.state.net (cell_of r.host.state.cell) area (says t))
  comes lawful (Err (HardwareDiffers names)) says sound wants = λ t. has_other names t (other r.host_after.fresh (cell_of r.host.state.cell) names (says t).1)
  comes lawful (Err OutOfMemory) says sound wants = wants refl

  exactly : r.host_tells → (result : Outcome) → CheckAnswers (check (reads r)) r.host r.host_after result → (IsErrOf result OutOfMemory → MayWant r) → ExactlyOf r (Ok checking) (answer_of result)
  exactly t (Ok seen) is wants = (ap answer_of is, same_reads r nothing t)
  exactly t (Err HostFault) is wants = is
  exactly t (Err (Damaged area)) is wants = inr (ap answer_of is)
  exactly t (Err (HardwareDiffers names)) is wants = inr (ap answer_of is)
  exactly t (Err OutOfMemory) is wants = wants refl

  expects : r.host_tells → (result : Outcome) → CheckAnswers (check (reads r)) r.host r.host_after result → (IsErrOf result OutOfMemory → MayWant r) → Expects r (Ok checking) (answer_of result)
  expects t (Ok seen) is wants = record { answer = ap answer_of is; after = same_reads r nothing t }
  expects t (Err HostFault) is wants = is
  expects t (Err (Damaged area)) is wants = record { answer = ap answer_of is; after = same_reads r nothing t }
  expects t (Err (HardwareDiffers names)) is wants = record { answer = ap answer_of is; after = same_reads r nothing t }
  expects t (Err OutOfMemory) is wants = wants refl

  as_read : r.host_tells → Within (Only (standing r.host_after.state)) (AsRead (at (reads r)))
  as_read t stands is = record { station = stands; is = (is ∙ same_reads r nothing t, is ∙ same_reads r nothing t); like = alike_is stands stands refl }

  read_exit : r.host_tells → (result : Outcome) → CheckLeaves (at (reads r)) (Only (standing r.host_after.state)) (answer_of result)
  read_exit t (Ok seen) = as_read t
  read_exit t (Err HostFault) = reads_before r nothing t
  read_exit t (Err (Damaged area)) = as_read t
  read_exit t (Err (HardwareDiffers names)) = as_read t
  read_exit t (Err OutOfMemory) = reads_before r nothing t

  module _ (inputs : Inputs) (may_read : MayRead r inputs) (is : order_of r.in_script inputs r.words ≡ Ok checking) (result : Outcome) (says : CheckSays r.host_tells r.host r.host_after result)
      (answers : r.honest → CheckAnswers (check (reads r)) r.host r.host_after result)
      (exits : r.honest → Sound r.host → CheckExit (entry r) (left_at_exit r) result) (sound : r.honest → OnOk result (SaysSound r)) where
    wants : IsErrOf result OutOfMemory → MayWant r
    wants out = may_want_order r inputs checking is checking_committing checking_rolling_back checking_recovering

    pub answered : GoesOn r → Told r (Ok checking) (answer_of result) → Answered r
    answered goes_on told = record {
      order = Ok checking;
      gives = (inputs, may_read, is);
      answer = answer_of result;
      may = may result;
      comes = comes goes_on.lawful result says sound wants;
      counts = nothing.unmade;
      tried = tt;
      told = told;
      goes_on = goes_on;
      exactly = λ honest. exactly (goes_on.tells honest) result (answers honest) wants;
      expects = λ a. expects (goes_on.tells a.honest) result (answers a.honest) wants;
      leaves = λ a. leaves (entry r) (left_at_exit r) result (exits a.honest a.sound);
      reads_as = λ a. read_exit (goes_on.tells a.honest) result;
      kept = λ a. kept_stays _ r.host r.host_after a.sound nothing.stops;
      spares = λ a. tt;
      compares = λ a never. absurd never;
      looks = record { state = nothing.state; stops = nothing.stops };
      unbegun = tt;
      waits = tt;
    }
