-- What is said of a command that ended before any call on the host.
use Rattle.std.proofs.Common.{◌≡◌, ◌∙◌, inl, inr, refl, sym, ap, Bool, Option, Some, None}
use Rattle.std.specs.Prelude.{◌≢◌, ℕ, true, false, List, IsSome, Result, Ok, Err}
use Rattle.net_model.specs.NetData.{NetData}
use Rattle.net_model.specs.declared.Link.{Link}
use Rattle.net_model.specs.declared.Call.{Call}
use Rattle.doc_tree.specs.Shape.{Shape}
use Rattle.document_model.specs.declared.Doc.{Doc}
use Rattle.policy_model.specs.Values.{PolicyData}
use Rattle.host_core.specs.HostView.{NoneRefused, IsLawfulHost}
use Rattle.host_core.proofs.lemmas.Moments.{stays}
use Rattle.checkpoint_cell.specs.Cell.{Checkpoint, applying as applying_cell}
use Rattle.checkpoint_cell.specs.Settled.{Standing, standing, restored_to}
use Rattle.engine_model.specs.Faults.{Starves}
use Rattle.engine_model.specs.Stations.{Stands, Entry, Near, Within, Before, Only, at}
use Rattle.engine_model.specs.declared.ApplyOpts.{ApplyOpts}
use Rattle.engine_model.proofs.lemmas.Leading.{kept_stays, near_wider}
use Rattle.engine_model.proofs.lemmas.Refusals.{quiet_same}
use Rattle.command_words.specs.declared.Command.{Command}
use Rattle.command_words.specs.declared.Command.TheVariants.{Show, Plan, Policy, Simulate, Apply, Commit, Rollback, Recover, Check, Init, Script, Generate, Service, Rollout}
use Rattle.order_reading.specs.AsDefined.{file_read}
use Rattle.top_model.specs.Said.{Said}
use Rattle.top_model.specs.Orders.{Inputs, Order, showing, planning, evaluating, planning_policy, applying_policy, simulating, applying, committing, rolling_back, recovering, checking, making, generating, and_then, input, tree_of, policy, policy_or_document, hardware_list, calls_of, opts, order_named}
use Rattle.top_model.specs.Runs.{Run, Gives, Alone, SourceRose, HostRose, HostRoseTwice, reads, entry, left_at_exit}
use Rattle.top_model.specs.Told.{Answer, Told}
use Rattle.top_model.specs.Causes.{MayWant, Refuses, MayAnswer, Comes, Expects, ExactlyOf}
use Rattle.top_model.specs.Counts.{Counts}
use Rattle.top_model.specs.Tried.{Tried}
use Rattle.top_model.specs.Exits.{AtExit, KeptBy, Reaches}
use Rattle.top_model.specs.Undisturbed.{Spares, LeavesAlone}
use Rattle.top_model.specs.Answered.{GoesOn, Unchanged, LooksAlone, Unbegun, LeavesWaiting, Rests, Answered}
use Rattle.top_model.specs.declared.report.Cause.{Cause}
use Rattle.top_model.specs.declared.report.Cause.TheVariants.{Usage, ReadFault, OutOfMemory}
use Rattle.command_laws.proofs.lemmas.Either.{either}

-- the host is as it was
abbrev pub still : Run → Run
still r = record r { host_after = r.host }

-- ---- the commands that read an input

abbrev pub ReadsInput : Result Order Cause → Type 0
ReadsInput (Ok (showing only json)) = ⊥
ReadsInput (Ok (planning doc in_batch)) = Unit {0}
ReadsInput (Ok (evaluating p)) = Unit {0}
ReadsInput (Ok (planning_policy p in_batch)) = Unit {0}
ReadsInput (Ok (applying_policy p how)) = Unit {0}
ReadsInput (Ok (simulating calls)) = Unit {0}
ReadsInput (Ok (applying doc how)) = Unit {0}
ReadsInput (Ok committing) = ⊥
ReadsInput (Ok rolling_back) = ⊥
ReadsInput (Ok recovering) = ⊥
ReadsInput (Ok checking) = ⊥
ReadsInput (Ok (making links)) = Unit {0}
ReadsInput (Ok (generating devices first second)) = ⊥
ReadsInput (Err refusal) = Unit {0}

abbrev asks : Order → Result Order Cause
asks order = Ok order

plans : (in_batch : Bool) (x : Result Shape Cause) → ReadsInput (and_then x (policy_or_document (λ p. planning_policy p in_batch) (λ doc. planning doc in_batch)))
plans in_batch x = either ReadsInput (λ c. tt) (λ p. planning_policy p in_batch) (λ doc. planning doc in_batch) (λ p. tt) (λ doc. tt) x

evaluates : (x : Result PolicyData Cause) → ReadsInput (and_then x (λ p. asks (evaluating p)))
evaluates (Ok p) = tt
evaluates (Err c) = tt

simulates : (x : Result (List Call) Cause) → ReadsInput (and_then x (λ calls. asks (simulating calls)))
simulates (Ok calls) = tt
simulates (Err c) = tt

applies : (how : ApplyOpts) (x : Result Shape Cause) → ReadsInput (and_then x (policy_or_document (λ p. applying_policy p how) (λ doc. applying doc how)))
applies how x = either ReadsInput (λ c. tt) (λ p. applying_policy p how) (λ doc. applying doc how) (λ p. tt) (λ doc. tt) x

makes : (x : Result (List Link) Cause) → ReadsInput (and_then x (λ links. asks (making links)))
makes (Ok links) = tt
makes (Err c) = tt

never : false ≡ true → ⊥
never e = cc

-- a command whose FILE is read is one of those
pub reads_input : (in_script : Bool) (inputs : Inputs) (command : Option Command) → IsSome (file_read in_script command) → ReadsInput (order_named in_script inputs command)
reads_input in_script inputs None file = tt
reads_input in_script inputs (Some (Show only json)) file = absurd (never file)
reads_input in_script inputs (Some (Plan name in_batch)) file = plans in_batch (and_then (input in_script inputs name) tree_of)
reads_input in_script inputs (Some (Policy name)) file = evaluates (and_then (input in_script inputs name) policy)
reads_input in_script inputs (Some (Simulate name)) file = simulates (and_then (input in_script inputs name) calls_of)
reads_input in_script inputs (Some (Apply name no_commit no_verify timeout)) file = applies (opts no_commit no_verify timeout) (and_then (input in_script inputs name) tree_of)
reads_input in_script inputs (Some Commit) file = absurd (never file)
reads_input in_script inputs (Some Rollback) file = absurd (never file)
reads_input in_script inputs (Some Recover) file = absurd (never file)
reads_input in_script inputs (Some Check) file = absurd (never file)
reads_input in_script inputs (Some (Init name)) file = makes (and_then (input in_script inputs name) hardware_list)
reads_input in_script inputs (Some (Script name)) file = tt
reads_input in_script inputs (Some (Generate count seed)) file = absurd (never file)
reads_input in_script inputs (Some (Service dir)) file = tt
reads_input in_script inputs (Some (Rollout limit name dirs)) file = tt

-- ---- what stops leave

-- what stood there is near itself
near_same : (P : Stands) (stands : Standing) → P stands → Near P stands
near_same P stands is = record { station = stands; is = is; like = λ now. refl }

module _ (now : ℕ) (entry : Entry) (left : Stands) (within : Within left (Before entry)) (rose twice : Type 0) where
  more : (P : Stands) → ((s : Standing) → Before entry s → P s) → Within left P
  more P wider s is = near_wider (Before entry) P wider s (within s is)

  exit_memory : (order : Result Order Cause) → AtExit now entry left rose twice order (Err OutOfMemory)
  exit_memory (Ok (showing only json)) = within
  exit_memory (Ok (planning doc in_batch)) = within
  exit_memory (Ok (evaluating p)) = within
  exit_memory (Ok (planning_policy p in_batch)) = within
  exit_memory (Ok (simulating calls)) = within
  exit_memory (Ok (applying doc how)) = inl within
  exit_memory (Ok (applying_policy p how)) = inl within
  exit_memory (Ok committing) = within
  exit_memory (Ok rolling_back) = more _ (λ s is. inl is)
  exit_memory (Ok recovering) = more _ (λ s is. inl is)
  exit_memory (Ok checking) = within
  exit_memory (Ok (making links)) = more _ (λ s is. inl is)
  exit_memory (Ok (generating devices first second)) = within
  exit_memory (Err refusal) = within

  exit_unread : (order : Result Order Cause) → ReadsInput order → AtExit now entry left rose twice order (Err ReadFault)
  exit_unread (Ok (showing only json)) file = absurd file
  exit_unread (Ok (planning doc in_batch)) file = within
  exit_unread (Ok (evaluating p)) file = within
  exit_unread (Ok (planning_policy p in_batch)) file = within
  exit_unread (Ok (simulating calls)) file = within
  exit_unread (Ok (applying doc how)) file = within
  exit_unread (Ok (applying_policy p how)) file = within
  exit_unread (Ok committing) file = absurd file
  exit_unread (Ok rolling_back) file = absurd file
  exit_unread (Ok recovering) file = absurd file
  exit_unread (Ok checking) file = absurd file
  exit_unread (Ok (making links)) file = within
  exit_unread (Ok (generating devices first second)) file = absurd file
  exit_unread (Err refusal) file = within

-- ---- at each moment

ok_err : (said : Said) (c : Cause) → Err c ≡ Ok said → ⊥
ok_err said c e = cc

kept : (r : Run) (order : Result Order Cause) (c : Cause) → Rests r order → KeptBy (still r) order (Err c)
kept r (Ok (making links)) c rests = record { during = inl (stays r.host.stops); sound = λ clear sound. sound; made = λ said e. absurd (ok_err said c e) }
kept r (Ok (showing only json)) c rests = kept_stays (Reaches r.now (entry r) (Ok (showing only json))) r.host r.host rests.sound (stays r.host.stops)
kept r (Ok (planning doc in_batch)) c rests = kept_stays (Reaches r.now (entry r) (Ok (planning doc in_batch))) r.host r.host rests.sound (stays r.host.stops)
kept r (Ok (evaluating p)) c rests = kept_stays (Reaches r.now (entry r) (Ok (evaluating p))) r.host r.host rests.sound (stays r.host.stops)
kept r (Ok (planning_policy p in_batch)) c rests = kept_stays (Reaches r.now (entry r) (Ok (planning_policy p in_batch))) r.host r.host rests.sound (stays r.host.stops)
kept r (Ok (simulating calls)) c rests = kept_stays (Reaches r.now (entry r) (Ok (simulating calls))) r.host r.host rests.sound (stays r.host.stops)
kept r (Ok (applying doc how)) c rests = kept_stays (Reaches r.now (entry r) (Ok (applying doc how))) r.host r.host rests.sound (stays r.host.stops)
kept r (Ok (applying_policy p how)) c rests = kept_stays (Reaches r.now (entry r) (Ok (applying_policy p how))) r.host r.host rests.sound (stays r.host.stops)
kept r (Ok committing) c rests = kept_stays (Reaches r.now (entry r) (Ok committing)) r.host r.host rests.sound (stays r.host.stops)
kept r (Ok rolling_back) c rests = kept_stays (Reaches r.now (entry r) (Ok rolling_back)) r.host r.host rests.sound (stays r.host.stops)
kept r (Ok recovering) c rests = kept_stays (Reaches r.now (entry r) (Ok recovering)) r.host r.host rests.sound (stays r.host.stops)
kept r (Ok checking) c rests = kept_stays (Reaches r.now (entry r) (Ok checking)) r.host r.host rests.sound (stays r.host.stops)
kept r (Ok (generating devices first second)) c rests = kept_stays (Reaches r.now (entry r) (Ok (generating devices first second))) r.host r.host rests.sound (stays r.host.stops)
kept r (Err refusal) c rests = kept_stays (Reaches r.now (entry r) (Err refusal)) r.host r.host rests.sound (stays r.host.stops)

none_some : (c : Checkpoint) → None ≡ Some c → ⊥
none_some c e = cc

-- where one network stands and no checkpoint, each stop leaves that network
leaves_alone : (r : Run) → IsLawfulHost r.host_tells r.host → (r.honest → r.host_tells) → Alone r → (from to : NetData) → reads r ≡ restored_to from → LeavesAlone from to r.host r.host
leaves_alone r lawful tells alone from to stood s left =
    let here = lawful.reads (tells alone.honest) in (
      from,
      elim alone.sound.one as (λ v. s.net ≡ Some from) [
        | inl one ↦ one.1 s (lawful.stops.only_now s left) ∙ sym (one.1 r.host.state here) ∙ ap (λ (e : Standing). e.net) stood
        | inr all ↦ let is = all.1 r.host.state here in absurd (none_some (applying_cell is.0 is.1 all.0) (sym (ap (λ (e : Standing). e.cell) stood) ∙ is.2))
      ],
      record { links = λ name calm. refl; routes = λ route calm there wanted. there },
    )

spares : (r : Run) (order : Result Order Cause) (answer : Answer) → IsLawfulHost r.host_tells r.host → (r.honest → r.host_tells) → Rests r order → Spares (still r) order answer
spares r (Ok (applying doc how)) answer lawful tells rests = λ from to stood merges quiet other. leaves_alone r lawful tells rests from to stood
spares r (Ok (applying_policy p how)) answer lawful tells rests = λ doc from to stood reads merges quiet other. leaves_alone r lawful tells rests from to stood
spares r (Ok (showing only json)) answer lawful tells rests = tt
spares r (Ok (planning doc in_batch)) answer lawful tells rests = tt
spares r (Ok (evaluating p)) answer lawful tells rests = tt
spares r (Ok (planning_policy p in_batch)) answer lawful tells rests = tt
spares r (Ok (simulating calls)) answer lawful tells rests = tt
spares r (Ok committing) answer lawful tells rests = tt
spares r (Ok rolling_back) answer lawful tells rests = tt
spares r (Ok recovering) answer lawful tells rests = tt
spares r (Ok checking) answer lawful tells rests = tt
spares r (Ok (making links)) answer lawful tells rests = tt
spares r (Ok (generating devices first second)) answer lawful tells rests = tt
spares r (Err refusal) answer lawful tells rests = tt

-- ---- what is asked of the host

alone : (r : Run) → Alone (still r) → Alone r
alone r a = record { honest = a.honest; sound = a.sound }

rests_still : (r : Run) (order : Result Order Cause) → Rests (still r) order → Rests r order
rests_still r (Ok (making links)) rests = rests
rests_still r (Ok (showing only json)) rests = alone r rests
rests_still r (Ok (planning doc in_batch)) rests = alone r rests
rests_still r (Ok (evaluating p)) rests = alone r rests
rests_still r (Ok (planning_policy p in_batch)) rests = alone r rests
rests_still r (Ok (simulating calls)) rests = alone r rests
rests_still r (Ok (applying doc how)) rests = alone r rests
rests_still r (Ok (applying_policy p how)) rests = alone r rests
rests_still r (Ok committing) rests = alone r rests
rests_still r (Ok rolling_back) rests = alone r rests
rests_still r (Ok recovering) rests = alone r rests
rests_still r (Ok checking) rests = alone r rests
rests_still r (Ok (generating devices first second)) rests = alone r rests
rests_still r (Err refusal) rests = alone r rests

-- ---- which answers come

may_memory : (order : Result Order Cause) → MayAnswer order (Err OutOfMemory)
may_memory (Ok (showing only json)) = tt
may_memory (Ok (planning doc in_batch)) = tt
may_memory (Ok (evaluating p)) = tt
may_memory (Ok (planning_policy p in_batch)) = tt
may_memory (Ok (simulating calls)) = tt
may_memory (Ok (applying doc how)) = tt
may_memory (Ok (applying_policy p how)) = tt
may_memory (Ok committing) = tt
may_memory (Ok rolling_back) = tt
may_memory (Ok recovering) = tt
may_memory (Ok checking) = tt
may_memory (Ok (making links)) = tt
may_memory (Ok (generating devices first second)) = tt
may_memory (Err refusal) = tt

may_unread : (order : Result Order Cause) → ReadsInput order → MayAnswer order (Err ReadFault)
may_unread (Ok (showing only json)) file = absurd file
may_unread (Ok (planning doc in_batch)) file = tt
may_unread (Ok (evaluating p)) file = tt
may_unread (Ok (planning_policy p in_batch)) file = tt
may_unread (Ok (simulating calls)) file = tt
may_unread (Ok (applying doc how)) file = tt
may_unread (Ok (applying_policy p how)) file = tt
may_unread (Ok committing) file = absurd file
may_unread (Ok rolling_back) file = absurd file
may_unread (Ok recovering) file = absurd file
may_unread (Ok checking) file = absurd file
may_unread (Ok (making links)) file = tt
may_unread (Ok (generating devices first second)) file = absurd file
may_unread (Err refusal) file = tt

comes_memory : (r : Run) (order : Result Order Cause) → r.untouched → MayWant r → Comes (still r) order (Err OutOfMemory)
comes_memory r (Ok order) untouched wants = record { commit = wants.commit; rollback = wants.rollback; recover = wants.recover }
comes_memory r (Err refusal) untouched wants = (untouched, record { commit = wants.commit; rollback = wants.rollback; recover = wants.recover })

comes_unread : (r : Run) (order : Result Order Cause) → r.untouched → SourceRose r → (order ≢ Err Usage) → Comes (still r) order (Err ReadFault)
comes_unread r (Ok order) untouched rose other = (rose, untouched)
comes_unread r (Err refusal) untouched rose other = (untouched, (rose, λ is. other (ap (λ (c : Cause). refuse c) is)))
  where
    refuse : Cause → Result Order Cause
    refuse c = Err c

-- no call was made
none_refused : (r : Run) → NoneRefused r.host.kernel r.host.kernel
none_refused r = quiet_same r.host.kernel r.host.kernel refl

counts_memory : (r : Run) (order : Result Order Cause) → Counts (still r) order (Err OutOfMemory)
counts_memory r (Ok (showing only json)) = inl refl
counts_memory r (Ok (planning doc in_batch)) = inl refl
counts_memory r (Ok (evaluating p)) = inl refl
counts_memory r (Ok (planning_policy p in_batch)) = inl refl
counts_memory r (Ok (simulating calls)) = inl refl
counts_memory r (Ok (applying doc how)) = inl (none_refused r)
counts_memory r (Ok (applying_policy p how)) = inl (none_refused r)
counts_memory r (Ok committing) = inl refl
counts_memory r (Ok rolling_back) = none_refused r
counts_memory r (Ok recovering) = none_refused r
counts_memory r (Ok checking) = inl refl
counts_memory r (Ok (making links)) = inl refl
counts_memory r (Ok (generating devices first second)) = inl refl
counts_memory r (Err refusal) = inl refl

counts_unread : (r : Run) (order : Result Order Cause) → Counts (still r) order (Err ReadFault)
counts_unread r (Ok (showing only json)) = inl refl
counts_unread r (Ok (planning doc in_batch)) = inl refl
counts_unread r (Ok (evaluating p)) = inl refl
counts_unread r (Ok (planning_policy p in_batch)) = inl refl
counts_unread r (Ok (simulating calls)) = inl refl
counts_unread r (Ok (applying doc how)) = inl refl
counts_unread r (Ok (applying_policy p how)) = inl refl
counts_unread r (Ok committing) = inl refl
counts_unread r (Ok rolling_back) = inl refl
counts_unread r (Ok recovering) = inl refl
counts_unread r (Ok checking) = inl refl
counts_unread r (Ok (making links)) = inl refl
counts_unread r (Ok (generating devices first second)) = inl refl
counts_unread r (Err refusal) = inl refl

starved_still : (r : Run) → Starves r.host_tells r.now r.host.faults r.host.state r.host.kernel r.host
starved_still r = inr (none_refused r, inr (λ t. inr (inr (inl refl))))

-- nothing was tried
tried_memory : (r : Run) (order : Result Order Cause) → Tried (still r) order (Err OutOfMemory)
tried_memory r (Ok (showing only json)) = tt
tried_memory r (Ok (planning doc in_batch)) = tt
tried_memory r (Ok (evaluating p)) = tt
tried_memory r (Ok (planning_policy p in_batch)) = tt
tried_memory r (Ok (simulating calls)) = tt
tried_memory r (Ok (applying doc how)) = starved_still r
tried_memory r (Ok (applying_policy p how)) = starved_still r
tried_memory r (Ok committing) = tt
tried_memory r (Ok rolling_back) = λ t. inl refl
tried_memory r (Ok recovering) = λ t. inl refl
tried_memory r (Ok checking) = tt
tried_memory r (Ok (making links)) = tt
tried_memory r (Ok (generating devices first second)) = tt
tried_memory r (Err refusal) = tt

tried_unread : (r : Run) (order : Result Order Cause) → Tried (still r) order (Err ReadFault)
tried_unread r (Ok (showing only json)) = tt
tried_unread r (Ok (planning doc in_batch)) = tt
tried_unread r (Ok (evaluating p)) = tt
tried_unread r (Ok (planning_policy p in_batch)) = tt
tried_unread r (Ok (simulating calls)) = tt
tried_unread r (Ok (applying doc how)) = tt
tried_unread r (Ok (applying_policy p how)) = tt
tried_unread r (Ok committing) = tt
tried_unread r (Ok rolling_back) = tt
tried_unread r (Ok recovering) = tt
tried_unread r (Ok checking) = tt
tried_unread r (Ok (making links)) = tt
tried_unread r (Ok (generating devices first second)) = tt
tried_unread r (Err refusal) = tt

exactly_memory : (r : Run) (order : Result Order Cause) → MayWant r → ExactlyOf (still r) order (Err OutOfMemory)
exactly_memory r (Ok (showing only json)) wants = record { commit = wants.commit; rollback = wants.rollback; recover = wants.recover }
exactly_memory r (Ok (planning doc in_batch)) wants = record { commit = wants.commit; rollback = wants.rollback; recover = wants.recover }
exactly_memory r (Ok (evaluating p)) wants = record { commit = wants.commit; rollback = wants.rollback; recover = wants.recover }
exactly_memory r (Ok (planning_policy p in_batch)) wants = record { commit = wants.commit; rollback = wants.rollback; recover = wants.recover }
exactly_memory r (Ok (simulating calls)) wants = record { commit = wants.commit; rollback = wants.rollback; recover = wants.recover }
exactly_memory r (Ok (applying doc how)) wants = record { commit = wants.commit; rollback = wants.rollback; recover = wants.recover }
exactly_memory r (Ok (applying_policy p how)) wants = record { commit = wants.commit; rollback = wants.rollback; recover = wants.recover }
exactly_memory r (Ok committing) wants = record { commit = wants.commit; rollback = wants.rollback; recover = wants.recover }
exactly_memory r (Ok rolling_back) wants = record { commit = wants.commit; rollback = wants.rollback; recover = wants.recover }
exactly_memory r (Ok recovering) wants = record { commit = wants.commit; rollback = wants.rollback; recover = wants.recover }
exactly_memory r (Ok checking) wants = record { commit = wants.commit; rollback = wants.rollback; recover = wants.recover }
exactly_memory r (Ok (making links)) wants = tt
exactly_memory r (Ok (generating devices first second)) wants = tt
exactly_memory r (Err refusal) wants = tt

exactly_unread : (r : Run) (order : Result Order Cause) → SourceRose r → ExactlyOf (still r) order (Err ReadFault)
exactly_unread r (Ok (showing only json)) rose = rose
exactly_unread r (Ok (planning doc in_batch)) rose = rose
exactly_unread r (Ok (evaluating p)) rose = rose
exactly_unread r (Ok (planning_policy p in_batch)) rose = rose
exactly_unread r (Ok (simulating calls)) rose = rose
exactly_unread r (Ok (applying doc how)) rose = rose
exactly_unread r (Ok (applying_policy p how)) rose = rose
exactly_unread r (Ok committing) rose = rose
exactly_unread r (Ok rolling_back) rose = rose
exactly_unread r (Ok recovering) rose = rose
exactly_unread r (Ok checking) rose = rose
exactly_unread r (Ok (making links)) rose = tt
exactly_unread r (Ok (generating devices first second)) rose = tt
exactly_unread r (Err refusal) rose = tt

looks_still : (r : Run) → Unchanged (still r)
looks_still r = record { state = λ t. refl; stops = stays r.host.stops }

looks : (r : Run) → r.untouched → (order : Result Order Cause) → LooksAlone (still r) order
looks r untouched (Ok (showing only json)) = looks_still r
looks r untouched (Ok (planning doc in_batch)) = looks_still r
looks r untouched (Ok (evaluating p)) = looks_still r
looks r untouched (Ok (planning_policy p in_batch)) = looks_still r
looks r untouched (Ok (simulating calls)) = looks_still r
looks r untouched (Ok (applying doc how)) = tt
looks r untouched (Ok (applying_policy p how)) = tt
looks r untouched (Ok committing) = tt
looks r untouched (Ok rolling_back) = tt
looks r untouched (Ok recovering) = tt
looks r untouched (Ok checking) = looks_still r
looks r untouched (Ok (making links)) = tt
looks r untouched (Ok (generating devices first second)) = untouched
looks r untouched (Err refusal) = tt

-- nothing is said but of a making, which leaves the host as it was
unbegun_memory : (r : Run) (order : Result Order Cause) → Unbegun (still r) order (Err OutOfMemory)
unbegun_memory r (Ok (showing only json)) = tt
unbegun_memory r (Ok (planning doc in_batch)) = tt
unbegun_memory r (Ok (evaluating p)) = tt
unbegun_memory r (Ok (planning_policy p in_batch)) = tt
unbegun_memory r (Ok (simulating calls)) = tt
unbegun_memory r (Ok (applying doc how)) = tt
unbegun_memory r (Ok (applying_policy p how)) = tt
unbegun_memory r (Ok committing) = tt
unbegun_memory r (Ok rolling_back) = tt
unbegun_memory r (Ok recovering) = tt
unbegun_memory r (Ok checking) = tt
unbegun_memory r (Ok (making links)) = λ t. looks_still r
unbegun_memory r (Ok (generating devices first second)) = tt
unbegun_memory r (Err refusal) = tt

unbegun_unread : (r : Run) (order : Result Order Cause) → Unbegun (still r) order (Err ReadFault)
unbegun_unread r (Ok (showing only json)) = tt
unbegun_unread r (Ok (planning doc in_batch)) = tt
unbegun_unread r (Ok (evaluating p)) = tt
unbegun_unread r (Ok (planning_policy p in_batch)) = tt
unbegun_unread r (Ok (simulating calls)) = tt
unbegun_unread r (Ok (applying doc how)) = tt
unbegun_unread r (Ok (applying_policy p how)) = tt
unbegun_unread r (Ok committing) = tt
unbegun_unread r (Ok rolling_back) = tt
unbegun_unread r (Ok recovering) = tt
unbegun_unread r (Ok checking) = tt
unbegun_unread r (Ok (making links)) = λ t some. looks_still r
unbegun_unread r (Ok (generating devices first second)) = tt
unbegun_unread r (Err refusal) = tt

-- nor was a change that waits
waiting_still : (r : Run) (order : Result Order Cause) → LeavesWaiting (still r) order
waiting_still r (Ok (showing only json)) = tt
waiting_still r (Ok (planning doc in_batch)) = tt
waiting_still r (Ok (evaluating p)) = tt
waiting_still r (Ok (planning_policy p in_batch)) = tt
waiting_still r (Ok (simulating calls)) = tt
waiting_still r (Ok (applying doc how)) = λ t waits. looks_still r
waiting_still r (Ok (applying_policy p how)) = λ t waits. looks_still r
waiting_still r (Ok committing) = tt
waiting_still r (Ok rolling_back) = tt
waiting_still r (Ok recovering) = λ t waits. looks_still r
waiting_still r (Ok checking) = tt
waiting_still r (Ok (making links)) = tt
waiting_still r (Ok (generating devices first second)) = tt
waiting_still r (Err refusal) = tt

module _ (r : Run) (untouched : r.untouched) (goes_on : GoesOn (still r)) where
  -- memory ran out
  pub out_of_memory : (order : Result Order Cause) → Gives r order → MayWant r → Told (still r) order (Err OutOfMemory) → Answered (still r)
  out_of_memory order gives wants told = record {
    order = order;
    gives = gives;
    answer = Err OutOfMemory;
    may = may_memory order;
    comes = comes_memory r order untouched wants;
    counts = counts_memory r order;
    tried = tried_memory r order;
    told = told;
    goes_on = goes_on;
    exactly = λ honest. exactly_memory r order wants;
    expects = λ rests. record { commit = wants.commit; rollback = wants.rollback; recover = wants.recover };
    leaves = λ rests. exit_memory r.now (entry r) (left_at_exit (still r)) (λ s is. near_same (Before (entry r)) s is) (HostRose (still r)) (HostRoseTwice (still r)) order;
    reads_as = λ rests. exit_memory r.now (at (reads r)) (Only (standing r.host.state)) (λ s is. near_same (Before (at (reads r))) s is) (HostRose (still r)) (HostRoseTwice (still r)) order;
    kept = λ rests. kept r order OutOfMemory (rests_still r order rests);
    spares = λ rests. spares r order (Err OutOfMemory) goes_on.lawful goes_on.tells (rests_still r order rests);
    compares = λ rests verifies s left waits. inl (s, left, refl);
    looks = looks r untouched order;
    unbegun = unbegun_memory r order;
    waits = waiting_still r order;
  }

  -- the input wasn't read
  pub unread : (order : Result Order Cause) → Gives r order → SourceRose r → ReadsInput order → (order ≢ Err Usage) → Told (still r) order (Err ReadFault) → Answered (still r)
  unread order gives rose file other told = record {
    order = order;
    gives = gives;
    answer = Err ReadFault;
    may = may_unread order file;
    comes = comes_unread r order untouched rose other;
    counts = counts_unread r order;
    tried = tried_unread r order;
    told = told;
    goes_on = goes_on;
    exactly = λ honest. exactly_unread r order rose;
    expects = λ rests. rose;
    leaves = λ rests. exit_unread r.now (entry r) (left_at_exit (still r)) (λ s is. near_same (Before (entry r)) s is) (HostRose (still r)) (HostRoseTwice (still r)) order file;
    reads_as = λ rests. exit_unread r.now (at (reads r)) (Only (standing r.host.state)) (λ s is. near_same (Before (at (reads r))) s is) (HostRose (still r)) (HostRoseTwice (still r)) order file;
    kept = λ rests. kept r order ReadFault (rests_still r order rests);
    spares = λ rests. spares r order (Err ReadFault) goes_on.lawful goes_on.tells (rests_still r order rests);
    compares = λ rests verifies s left waits. inl (s, left, refl);
    looks = looks r untouched order;
    unbegun = unbegun_unread r order;
    waits = waiting_still r order;
  }

  -- words or inputs were refused
  pub refused : (c : Cause) → Gives r (Err c) → Refuses (still r) c (Err c) → Expects (still r) (Err c) (Err c) → Told (still r) (Err c) (Err c) → Answered (still r)
  refused c gives refuses expects told = record {
    order = Err c;
    gives = gives;
    answer = Err c;
    may = tt;
    comes = (untouched, refuses);
    counts = inl refl;
    tried = tt;
    told = told;
    goes_on = goes_on;
    exactly = λ honest. tt;
    expects = λ rests. expects;
    leaves = λ rests s is. near_same (Before (entry r)) s is;
    reads_as = λ rests s is. near_same (Before (at (reads r))) s is;
    kept = λ rests. kept r (Err c) c (rests_still r (Err c) rests);
    spares = λ rests. tt;
    compares = λ rests verifies s left waits. inl (s, left, refl);
    looks = tt;
    unbegun = tt;
    waits = tt;
  }
