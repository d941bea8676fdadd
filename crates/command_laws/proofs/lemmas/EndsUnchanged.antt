-- The same where it ends behind its recovery and before its change: the network isn't dumped, the policy is refused on it, or memory runs out.
use Rattle.std.proofs.Common.{◌≡◌, ◌≢◌, ◌∙◌, inl, inr, refl, sym, ap, Some, None, Ok, Err}
use Rattle.net_model.specs.NetData.{NetData}
use Rattle.policy_model.specs.Values.{PolicyData}
use Rattle.host_core.specs.Faults.{Rose}
use Rattle.host_core.specs.HostView.{State, HostView, NoneRefused}
use Rattle.host_core.specs.Stops.{Steps, Stays}
use Rattle.host_core.specs.declared.DumpFault.{DumpFault}
use Rattle.host_core.specs.declared.DumpFault.TheVariants as du
use Rattle.host_core.proofs.lemmas.Counts.{rose_after}
use Rattle.checkpoint_cell.specs.Cell.{cell_of}
use Rattle.checkpoint_cell.specs.Settled.{Standing, standing, restored_to}
use Rattle.engine_model.specs.Machine.{stays, recover}
use Rattle.engine_model.specs.Answers.{IsClear}
use Rattle.engine_model.specs.Stations.{Stands, Entry, Within, Before, Settled, Only, Kept, at, left_by}
use Rattle.engine_model.specs.Refusals.{NoCallMade}
use Rattle.engine_model.specs.Failing.{IsUnbegun}
use Rattle.engine_model.specs.Compared.{WaitsAsBefore}
use Rattle.engine_model.proofs.lemmas.Comparing.{waits_on, waits_stays}
use Rattle.engine_model.specs.Faults.{LeftSays, HasTaken, SettlesOnly}
use Rattle.engine_model.specs.declared.ApplyOpts.{ApplyOpts}
use Rattle.engine_model.specs.declared.Recovered.{Recovered}
use Rattle.engine_model.specs.declared.Recovered.TheVariants.{Nothing, Waiting as Waits, Restored}
use Rattle.engine_model.proofs.lemmas.Leading.{alike_is, near_wider, kept_on, kept_stays, both}
use Rattle.engine_model.proofs.lemmas.Machines.{before_within}
use Rattle.engine_model.proofs.lemmas.Refusals.{quiet_on, unmade_quiet, unmade_on}
use Rattle.top_model.specs.Orders.{Inputs, document_on, applying_policy, order_of}
use Rattle.top_model.specs.Machine.{apply_policy, machine_of}
use Rattle.top_model.specs.Runs.{Run, MayRead, Alone, HostRose, HostRoseTwice, entry, reads, left_at_exit}
use Rattle.top_model.specs.Told.{Answer, Told}
use Rattle.top_model.specs.Causes.{MayWant, IsLate}
use Rattle.top_model.specs.Tried.{Tried}
use Rattle.top_model.specs.Exits.{PolicyLeaves}
use Rattle.top_model.specs.Answered.{GoesOn, Unchanged, UnchangedOrTaken, Unbegun, Answered}
use Rattle.top_model.specs.declared.report.DocFault.{DocFault}
use Rattle.top_model.specs.declared.report.Cause.{Cause}
use Rattle.top_model.specs.declared.report.Cause.TheVariants.{DocRefused, HostFault, Damaged, OutOfMemory}
use Rattle.top_model.proofs.lemmas.Counting.{nothing_other}
use Rattle.top_model.proofs.lemmas.Settles.{same_some}
use Rattle.command_laws.specs.Begun.{Recovers, Looks, side_of, look_cause}
use Rattle.command_laws.proofs.lemmas.EndsEarly.{Reached, Recovery, back_kept, back_settled, clear_settles, fail_counted, given, ground_clear, looked, never_clear, none_some, nothing_there, ok_err, refused_answer, refused_outcome, restored_net, settles_by, wants, when_damaged, when_refused}

-- what was counted
module _ (r : Run) (done : Recovered) (clear : IsClear done) (mid : HostView) (first : Recovers r.host_tells r.honest r.now r.host mid (Ok done)) (none : NoCallMade mid.kernel r.host_after.kernel) where
  quiet_back : NoneRefused r.host.kernel r.host_after.kernel
  quiet_back = quiet_on r.host.kernel mid.kernel r.host_after.kernel first.counts (unmade_quiet mid.kernel r.host_after.kernel none)

  -- where nothing was restored no call was made
  unmade_back : done ≢ Restored → NoCallMade r.host.kernel r.host_after.kernel
  unmade_back other = unmade_on r.host.kernel mid.kernel r.host_after.kernel (inl (first.unmade other)) none

  only_settled : SettlesOnly r.host_tells r.now r.host.state r.host.kernel r.host_after.kernel
  only_settled = settles_by r.host_tells r.now r.host.state r.host.kernel r.host_after.kernel done clear unmade_back (λ is t. first.restored t (ap given is))

module _ (r : Run) (p : PolicyData) (opts : ApplyOpts) (goes_on : GoesOn r) (done : Recovered) (clear : IsClear done) (mid : HostView) (first : Recovers r.host_tells r.honest r.now r.host mid (Ok done))
    (state : r.host_tells → r.host_after.state ≡ mid.state) (steps : Steps Stays mid.stops r.host_after.stops) where
  -- the host reads as what the recovery leaves
  reads_back : r.honest → standing r.host_after.state ≡ (recover r.now (reads r)).after
  reads_back honest = ap standing (state (goes_on.tells honest)) ∙ first.after honest

  left_mid : (x : Standing) → left_at_exit r x → left_by mid x
  left_mid x left = let from = steps.now left.0 left.1 in (from.0, from.1, ap standing (sym from.2) ∙ left.2)

  settled_exit : Alone r → Within (left_at_exit r) (Settled r.now (entry r))
  settled_exit a x left = near_wider (Only (recover r.now (reads r)).after) (Settled r.now (entry r)) (back_settled r p opts goes_on a) x (first.exit a.honest a.sound x (left_mid x left))

  settled_reads : Alone r → Within (Only (standing r.host_after.state)) (Settled r.now (at (reads r)))
  settled_reads a x is = near_wider (Only (recover r.now (reads r)).after) (Settled r.now (at (reads r))) (back_settled r p opts goes_on a) x
      (first.reads a.honest a.sound x (is ∙ ap standing (state (goes_on.tells a.honest))))

  kept_back : Alone r → Kept (Reached r p opts goes_on) r.host r.host_after
  kept_back a =
      let kept = first.kept a.honest a.sound in
      kept_on (Reached r p opts goes_on) r.host mid r.host_after (back_kept r p opts goes_on a mid kept) (kept_stays (Reached r p opts goes_on) mid r.host_after kept.sound steps)

  -- where nothing was to be taken back, nothing was changed
  idle : done ≡ Nothing → IsUnbegun r.host_tells r.host mid
  idle nothing = first.idle (λ e. nothing_other (sym nothing ∙ e))

  unbegun_stops : done ≡ Nothing → Steps Stays r.host.stops r.host_after.stops
  unbegun_stops nothing = both r.host.stops mid.stops r.host_after.stops (idle nothing).stops steps

  unbegun_exit : done ≡ Nothing → Within (left_at_exit r) (Before (entry r))
  unbegun_exit nothing = before_within r.host r.host_after (unbegun_stops nothing)

  unbegun_state : done ≡ Nothing → r.host_tells → r.host_after.state ≡ r.host.state
  unbegun_state nothing t = state t ∙ (idle nothing).same t

  unchanged_back : done ≡ Nothing → Unchanged r
  unchanged_back nothing = record { state = unbegun_state nothing; stops = unbegun_stops nothing }

  unbegun_reads : done ≡ Nothing → r.host_tells → Within (Only (standing r.host_after.state)) (Before (at (reads r)))
  unbegun_reads nothing t x is = record { station = x; is = is ∙ ap standing (unbegun_state nothing t); like = alike_is x x refl }

  -- and where a network alone stood, it stands
  spared_net : r.honest → (from : NetData) → reads r ≡ restored_to from → mid.state.net ≡ Some from
  spared_net honest from stood = ap (λ (x : Standing). x.net) (first.after honest ∙ ap (λ (o : Recovery). o.after) (nothing_there r.now (reads r) from stood) ∙ stood)

  no_checkpoint : r.host_tells → (standing r.host_after.state).cell ≡ None
  no_checkpoint t = ap (λ (s : State). cell_of s.cell) (state t) ∙ (first.cleared t clear).cell

-- by whether something was taken back
module _ (r : Run) (p : PolicyData) (opts : ApplyOpts) where
  fail_says : (done : Recovered) → IsClear done → (done ≡ Nothing → r.host_tells → r.host_after.state ≡ r.host.state) → (r.host_tells → (standing r.host_after.state).cell ≡ None)
      → LeftSays r.host_tells r.host r.host_after (side_of done)
  fail_says Nothing clear unbegun none = unbegun refl
  fail_says (Waits deadline) clear unbegun none = absurd clear
  fail_says Restored clear unbegun none = none

  fail_tried : (done : Recovered) → IsClear done → SettlesOnly r.host_tells r.now r.host.state r.host.kernel r.host_after.kernel → (r.honest → r.host_after.state.net ≡ (recover r.now (reads r)).after.net)
      → Tried r (Ok (applying_policy p opts)) (Err (HostFault (side_of done)))
  fail_tried Nothing clear only back = tt
  fail_tried (Waits deadline) clear only back = absurd clear
  fail_tried Restored clear only back = record { gave = λ t. inr only; net = λ honest. inr (back honest) }

  fail_unbegun : (done : Recovered) → IsClear done → (done ≡ Nothing → Unchanged r) → Unbegun r (Ok (applying_policy p opts)) (Err (HostFault (side_of done)))
  fail_unbegun Nothing clear unchanged = unchanged refl
  fail_unbegun (Waits deadline) clear unchanged = absurd clear
  fail_unbegun Restored clear unchanged = tt

  late_unbegun : (done : Recovered) → IsClear done → (done ≡ Nothing → Unchanged r) → (done ≡ Restored → r.host_tells → HasTaken r.now (reads r).cell) → UnchangedOrTaken r
  late_unbegun Nothing clear unchanged taken = inr (unchanged refl)
  late_unbegun (Waits deadline) clear unchanged taken = absurd clear
  late_unbegun Restored clear unchanged taken = inl (taken refl)

  fail_leaves : (before : Entry) (left : Stands) (rose twice : Type 0) (last : Standing) (done : Recovered) → IsClear done → (done ≡ Nothing → Within left (Before before)) → Within left (Settled r.now before)
      → PolicyLeaves opts r.now last before left rose twice (Err (HostFault (side_of done)))
  fail_leaves before left rose twice last Nothing clear unbegun back = unbegun refl
  fail_leaves before left rose twice last (Waits deadline) clear unbegun back = absurd clear
  fail_leaves before left rose twice last Restored clear unbegun back = back

  unrestored : {X : Type 0} (done : Recovered) → IsClear done → (done ≡ Nothing → X) → (done ≡ Restored → ⊥) → X
  unrestored Nothing clear is never = is refl
  unrestored (Waits deadline) clear is never = absurd clear
  unrestored Restored clear is never = absurd (never refl)

module _ (r : Run) (p : PolicyData) (opts : ApplyOpts) (inputs : Inputs) (may_read : MayRead r inputs) (is : order_of r.in_script inputs r.words ≡ Ok (applying_policy p opts))
    (done : Recovered) (clear : IsClear done) (mid : HostView) (first : Recovers r.host_tells r.honest r.now r.host mid (Ok done)) where
  abbrev Refused : Cause → Answer
  Refused cause = Err cause

  -- a change that waits could be left at the entry
  waits_back : GoesOn r → Steps Stays mid.stops r.host_after.stops → Alone r → WaitsAsBefore r.host r.host_after
  waits_back goes_on steps a = waits_on r.host mid r.host_after (first.waits (goes_on.tells a.honest)) (waits_stays mid r.host_after steps)

  -- memory ran out
  halted : (r.host_tells → r.host_after.state ≡ mid.state) → Steps Stays mid.stops r.host_after.stops → NoCallMade mid.kernel r.host_after.kernel → GoesOn r
      → Told r (Ok (applying_policy p opts)) (Refused OutOfMemory) → Answered r
  halted state steps none goes_on told =
      let wanted : MayWant r = wants r p opts inputs may_read is in
      record {
        order = Ok (applying_policy p opts);
        gives = (inputs, may_read, is);
        answer = Refused OutOfMemory;
        may = tt;
        comes = wanted;
        counts = inl (quiet_back r done clear mid first none);
        tried = inr (quiet_back r done clear mid first none, inr (λ t. inr (only_settled r done clear mid first none)));
        told = told;
        goes_on = goes_on;
        looks = tt;
        unbegun = tt;
        waits = λ t waiting. absurd (never_clear r.host_tells r.honest r.now r.host mid done clear first t waiting.0 waiting.1);
        exactly = λ honest. wanted;
        expects = λ a. wanted;
        leaves = λ a. inr (inr (tt, λ x there. near_wider (Settled r.now (entry r)) _ (λ y back. inl back) x (settled_exit r p opts goes_on done clear mid first state steps a x there)));
        reads_as = λ a. inr (inr (tt, λ x there. near_wider (Settled r.now (at (reads r))) _ (λ y back. inl back) x (settled_reads r p opts goes_on done clear mid first state steps a x there)));
        kept = λ a. kept_back r p opts goes_on done clear mid first state steps a;
        spares = λ a doc from to stood has merges quiet other. absurd (other refl);
        compares = λ a verifies s left waits. inl (waits_back goes_on steps a s left waits);
      }

  -- the dump failed
  unlooked : Rose mid.faults r.host_after.faults → (r.host_tells → r.host_after.state ≡ mid.state) → Steps Stays mid.stops r.host_after.stops → NoCallMade mid.kernel r.host_after.kernel → GoesOn r
      → Told r (Ok (applying_policy p opts)) (Refused (HostFault (side_of done))) → Answered r
  unlooked risen state steps none goes_on told =
      let rose : HostRose r = rose_after r.host.faults mid.faults r.host_after.faults first.later risen in
      record {
        order = Ok (applying_policy p opts);
        gives = (inputs, may_read, is);
        answer = Refused (HostFault (side_of done));
        may = tt;
        comes = (rose, fail_says r p opts done clear (unbegun_state r p opts goes_on done clear mid first state steps) (no_checkpoint r p opts goes_on done clear mid first state steps));
        counts = fail_counted r.host_tells r.host.kernel r.host_after.kernel done clear (unmade_back r done clear mid first none) (quiet_back r done clear mid first none);
        tried = fail_tried r p opts done clear (only_settled r done clear mid first none) (λ honest. ap (λ (x : Standing). x.net) (reads_back r p opts goes_on done clear mid first state steps honest));
        told = told;
        goes_on = goes_on;
        looks = tt;
        unbegun = fail_unbegun r p opts done clear (unchanged_back r p opts goes_on done clear mid first state steps);
        waits = λ t waiting. absurd (never_clear r.host_tells r.honest r.now r.host mid done clear first t waiting.0 waiting.1);
        exactly = λ honest. rose;
        expects = λ a. rose;
        leaves = λ a. fail_leaves r p opts (entry r) (left_at_exit r) (HostRose r) (HostRoseTwice r) (machine_of r.now (Ok (applying_policy p opts)) (reads r)).after done clear
            (unbegun_exit r p opts goes_on done clear mid first state steps) (settled_exit r p opts goes_on done clear mid first state steps a);
        reads_as = λ a. fail_leaves r p opts (at (reads r)) (Only (standing r.host_after.state)) (HostRose r) (HostRoseTwice r) (machine_of r.now (Ok (applying_policy p opts)) (reads r)).after done clear
            (λ nothing. unbegun_reads r p opts goes_on done clear mid first state steps nothing (goes_on.tells a.honest)) (settled_reads r p opts goes_on done clear mid first state steps a);
        kept = λ a. kept_back r p opts goes_on done clear mid first state steps a;
        spares = λ a doc from to stood has merges quiet other. absurd (quiet rose);
        compares = λ a verifies s left waits. inl (waits_back goes_on steps a s left waits);
      }

  -- there is no network
  no_network : Looks r.host_tells r.honest mid r.host_after (Err du.Damaged) → GoesOn r → Told r (Ok (applying_policy p opts)) (Refused (Damaged 0)) → Answered r
  no_network look goes_on told =
      let made : NoCallMade mid.kernel r.host_after.kernel = looked r.host_tells r.honest mid r.host_after (Err du.Damaged) look in
      let none : r.host_tells → mid.state.net ≡ None = λ t. look.damaged t refl in
      let none_back : r.honest → (recover r.now (reads r)).after.net ≡ None = λ honest. ap (λ (x : Standing). x.net) (sym (first.after honest)) ∙ none (goes_on.tells honest) in
      let refused : r.honest → apply_policy p opts r.now (reads r) ≡ stays (recover r.now (reads r)).after (Err (Damaged 0)) =
      λ honest. when_damaged p opts r.now (reads r) done clear (first.exact honest) (none_back honest) in
      let unrestored_net : r.honest → done ≡ Restored → ⊥ = λ honest back.
      let net = restored_net r.now (reads r) (first.exact honest ∙ ap given back) in
      none_some net.0 (sym (none_back honest) ∙ ap (λ (x : Standing). x.net) net.1) in
      record {
        order = Ok (applying_policy p opts);
        gives = (inputs, may_read, is);
        answer = Refused (Damaged 0);
        may = tt;
        comes = λ t. (
          record {
            pair = mid.state;
            left = look.stops.keeps r.host.stops.moment mid.state first.moment (look.lawful.stops.counts_now r.host.stops.moment mid.state first.moment (look.lawful.reads t));
            damaged = inl (refl, none t);
          },
          record { damaged = inl (refl, ap (λ (s : State). s.net) (look.state t) ∙ none t); held = inl (only_settled r done clear mid first made) },
        );
        counts = inl (quiet_back r done clear mid first made);
        tried = tt;
        told = told;
        goes_on = goes_on;
        looks = tt;
        unbegun = λ honest calm. unrestored r p opts done clear (unchanged_back r p opts goes_on done clear mid first look.state look.stops) (unrestored_net honest);
        waits = λ t waiting. absurd (never_clear r.host_tells r.honest r.now r.host mid done clear first t waiting.0 waiting.1);
        exactly = λ honest. inr (refused_answer p opts r.now (reads r) (Damaged 0) (refused honest));
        expects = λ a. refused_outcome p opts r.now (reads r) (Damaged 0) r.host_after (refused a.honest) (reads_back r p opts goes_on done clear mid first look.state look.stops a.honest);
        leaves = λ a. unrestored r p opts done clear (unbegun_exit r p opts goes_on done clear mid first look.state look.stops) (unrestored_net a.honest);
        reads_as = λ a. unrestored r p opts done clear (λ nothing. unbegun_reads r p opts goes_on done clear mid first look.state look.stops nothing (goes_on.tells a.honest)) (unrestored_net a.honest);
        kept = λ a. kept_back r p opts goes_on done clear mid first look.state look.stops a;
        compares = λ a verifies s left waits. inl (waits_back goes_on look.stops a s left waits);
        spares = λ a doc from to stood has merges quiet other.
            absurd (none_some from (sym (none (goes_on.tells a.honest)) ∙ spared_net r p opts goes_on done clear mid first look.state look.stops a.honest from stood));
      }

  -- the network wasn't dumped
  pub failed_look : (fault : DumpFault) → Looks r.host_tells r.honest mid r.host_after (Err fault) → GoesOn r → Told r (Ok (applying_policy p opts)) (Refused (look_cause done fault)) → Answered r
  failed_look du.Failed look goes_on told = unlooked (look.cause.failed refl) look.state look.stops (looked r.host_tells r.honest mid r.host_after (Err du.Failed) look) goes_on told
  failed_look du.Damaged look goes_on told = no_network look goes_on told
  failed_look du.OutOfMemory look goes_on told = halted look.state look.stops (looked r.host_tells r.honest mid r.host_after (Err du.OutOfMemory) look) goes_on told

  -- memory ran out behind the dump
  pub ran_out : (net : NetData) → Looks r.host_tells r.honest mid r.host_after (Ok net) → GoesOn r → Told r (Ok (applying_policy p opts)) (Refused OutOfMemory) → Answered r
  ran_out net look goes_on told = halted look.state look.stops (looked r.host_tells r.honest mid r.host_after (Ok net) look) goes_on told

  -- the policy is refused on the network that was dumped
  pub refused_late : (net : NetData) → Looks r.host_tells r.honest mid r.host_after (Ok net) → (fault : DocFault) → document_on p net ≡ Err (DocRefused fault) → IsLate fault → GoesOn r
      → Told r (Ok (applying_policy p opts)) (Refused (DocRefused fault)) → Answered r
  refused_late net look fault is_refused late goes_on told =
      let made : NoCallMade mid.kernel r.host_after.kernel = looked r.host_tells r.honest mid r.host_after (Ok net) look in
      let there : r.honest → (recover r.now (reads r)).after.net ≡ Some net = λ honest. ap (λ (x : Standing). x.net) (sym (first.after honest)) ∙ look.net honest in
      let refused : r.honest → apply_policy p opts r.now (reads r) ≡ stays (recover r.now (reads r)).after (Err (DocRefused fault)) =
      λ honest. when_refused p opts r.now (reads r) done clear (first.exact honest) net (DocRefused fault) (there honest) is_refused in
      record {
        order = Ok (applying_policy p opts);
        gives = (inputs, may_read, is);
        answer = Refused (DocRefused fault);
        may = late;
        comes = (
          record {
            net = net;
            fresh = look.fresh;
            is_ground = record { dumped = λ once. absurd once; stood = λ honest. ground_clear p opts r.now (reads r) done clear (first.exact honest) ∙ there honest };
            refused = is_refused;
          },
          record {
            calls = only_settled r done clear mid first made;
            none = no_checkpoint r p opts goes_on done clear mid first look.state look.stops;
            stands = λ honest. clear_settles r.now (reads r) done clear (first.exact honest)
                ∙ ap (λ (x : Standing). Some x) (sym (reads_back r p opts goes_on done clear mid first look.state look.stops honest));
          },
        );
        counts = quiet_back r done clear mid first made;
        tried = tt;
        told = told;
        goes_on = goes_on;
        looks = tt;
        unbegun = late_unbegun r p opts done clear (unchanged_back r p opts goes_on done clear mid first look.state look.stops) (λ is t. first.restored t (ap given is));
        waits = λ t waiting. absurd (never_clear r.host_tells r.honest r.now r.host mid done clear first t waiting.0 waiting.1);
        exactly = λ honest. refused_answer p opts r.now (reads r) (DocRefused fault) (refused honest);
        expects = λ a. refused_outcome p opts r.now (reads r) (DocRefused fault) r.host_after (refused a.honest) (reads_back r p opts goes_on done clear mid first look.state look.stops a.honest);
        leaves = λ a. settled_exit r p opts goes_on done clear mid first look.state look.stops a;
        reads_as = λ a. settled_reads r p opts goes_on done clear mid first look.state look.stops a;
        kept = λ a. kept_back r p opts goes_on done clear mid first look.state look.stops a;
        compares = λ a verifies s left waits. inl (waits_back goes_on look.stops a s left waits);
        spares = λ a doc from to stood has merges quiet other.
            let same : from ≡ net = same_some from net (sym (spared_net r p opts goes_on done clear mid first look.state look.stops a.honest from stood) ∙ look.net a.honest) in
            absurd (ok_err doc (DocRefused fault) (sym has ∙ ap (document_on p) same ∙ is_refused));
      }
