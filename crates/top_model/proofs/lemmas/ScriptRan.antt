-- The steps of a script, one after another: what is said of all of them, by the clauses of one command alone.
use Rattle.std.proofs.Common.{◌≡◌, ◌∙◌, ◌⊎◌, inl, inr, refl, sym, ap, subst, arith, ℕ, ◌≤◌, true, false, ◌||◌, List, [], ◌∷◌, ◌++◌, Option, Some, None, append_assoc, append-nil}
use Rattle.std.specs.Prelude.{◌≢◌, Result, Ok}
use Rattle.net_model.specs.NetData.{NetData}
use Rattle.host_core.specs.HostView.{State, IsLawfulHost}
use Rattle.host_core.specs.declared.Source.{Ghosts as SourceGhosts}
use Rattle.host_core.specs.declared.Sink.{Ghosts as SinkGhosts}
use Rattle.host_core.specs.declared.Host.{Ghosts as HostGhosts}
use Rattle.host_core.proofs.lemmas.Counts.{rose_before, rose_after}
use Rattle.checkpoint_cell.specs.Settled.{Standing, standing, restored_to, settled}
use Rattle.engine_model.specs.Stations.{Stands, Within, Only, left_by}
use Rattle.engine_model.specs.Sound.{Sound}
use Rattle.top_model.specs.Orders.{Order, making}
use Rattle.top_model.specs.Lines.{Timed}
use Rattle.top_model.specs.Machine.{first_net}
use Rattle.top_model.specs.Runs.{Run, Alone, reads, HostRose, SourceRose, SinkRose, left_at_exit}
use Rattle.top_model.specs.Told.{Answer, report_of}
use Rattle.top_model.specs.Causes.{Expects}
use Rattle.top_model.specs.Exits.{Leaves, KeptBy}
use Rattle.top_model.specs.Answered.{Rests, Answered}
use Rattle.top_model.specs.StepsRun.{World, with_out, step_run, WentOn, Went, Ending, cut, unlined, ran_out, EndedBy, EndsWith, StepsRun}
use Rattle.top_model.specs.WholeRuns.{Ran, ran_of, rans_of, last_of, all_rans, RanEnds, ReachedFrom, Begins, IsWhole}
use Rattle.top_model.specs.ScriptFaults.{is_fault_status, is_unread, is_fault_step, FewFaults, ExplainedFrom}
use Rattle.top_model.specs.ScriptRuns.{counts_of, Facts, IsMaking, OnEach, ScriptRun}
use Rattle.top_model.specs.declared.report.Report.{Report}
use Rattle.top_model.specs.declared.report.Cause.{Cause}
use Rattle.top_model.specs.declared.report.Cause.TheVariants.{Done}
use Rattle.top_model.proofs.lemmas.Reports.{rests}
use Rattle.top_model.proofs.lemmas.Stepping.{seven_rose}
use Rattle.top_model.proofs.lemmas.Firm.{Firm, firm_like, firm_left, firm_restored, backed_fit}
use Rattle.top_model.proofs.lemmas.Walking.{SoFarWhole, whole_start, whole_more, alone, here, firm, reached_more}
use Rattle.top_model.proofs.lemmas.Halving.{Has, Wrote, waits_among}
use Rattle.top_model.proofs.lemmas.Spoiling.{spoiled, SomeRose, few_start, few_more}
use Rattle.top_model.proofs.lemmas.Explaining.{IsStatus, FaultyOr, faulty_or, IsExact, none_faulty, machine_ends, explained, explained_more}

true_false : true ≡ false → ⊥
true_false e = cc

some_none : {A : Type 0} (x : A) → None ≡ Some x → ⊥
some_none x e = cc

-- ---- one step

-- the status of a report is that of its answer, or of a sink's fault
shown : (r : Run) (a : Answered r) → IsStatus r.report.status a.answer
shown r a = elim a.told.written as (λ v. IsStatus r.report.status a.answer) [
  | inl whole ↦ inr (ap (λ (x : Report). x.status) whole.report)
  | inr cut_off ↦ inl (ap (λ (x : Report). x.status) cut_off.report)
]

-- a fault step has a fault of the host, of the source or of a sink
rose_in : (r : Run) (a : Answered r) → Alone r → (status : ℕ) → IsStatus status a.answer → (status ≡ 7 → SinkRose r) → is_fault_step (ran_of r a status) ≡ true → HostRose r ⊎ SourceRose r ⊎ SinkRose r
rose_in r a nobody status (inl seven) rose is = inr (inr (rose seven))
rose_in r a nobody status (inr told) rose is =
    elim (spoiled r a.order a.answer (a.expects (rests r a.order nobody)) a.comes (sym (ap (λ s. is_fault_status s || is_unread a.answer) told) ∙ is)) as (λ v. HostRose r ⊎ SourceRose r ⊎ SinkRose r) [
      | inl host ↦ inl host
      | inr source ↦ inr (inl source)
    ]

module _ {X Y Z : Type 0} (H : HostGhosts X) (S : SourceGhosts Y) (W : SinkGhosts Z) (lawful : (host : X) → IsLawfulHost H.tells (H.told host)) (honest : H.honest) (old : World X Y Z) where
  abbrev first : Stands
  first = left_by (H.told old.host)

  abbrev start : ℕ
  start = (H.told old.host).stops.moment

  -- what is known at a moment between two steps
  record SoFar (rans : List Ran) (w : World X Y Z) : Type 0 where
    pub whole : SoFarWhole first start rans (H.told w.host)
    pub few : FewFaults (counts_of H S W old) (counts_of H S W w) rans
    pub explained : ExplainedFrom first [] rans

  module _ (step : Timed) (w told : World X Y Z) (report : Report) (a : Answered (step_run H S W step w told report)) (rans : List Ran) (s : SoFar rans w) (exact : IsExact first rans (H.told w.host)) (status : ℕ)
      (is : IsStatus status a.answer) where
    abbrev r : Run
    r = step_run H S W step w told report

    abbrev ran : Ran
    ran = ran_of r a status

    whole_next : SoFarWhole first start (rans ++ ran ∷ []) (H.told told.host)
    whole_next = whole_more r a honest (lawful told.host) first start rans s.whole status

    is_alone : Alone r
    is_alone = alone r a honest (lawful told.host) first start rans s.whole

    is_firm : Firm (reads r)
    is_firm = firm r a honest (lawful told.host) first start rans s.whole

    expects : Expects r a.order a.answer
    expects = a.expects (rests r a.order is_alone)

    outcome : FaultyOr r a.order status a.answer
    outcome = faulty_or r a.order status a.answer expects is

    explained_next : ExplainedFrom first [] (rans ++ ran ∷ [])
    explained_next = explained_more first [] rans ran s.explained (explained r first rans (here r a honest (lawful told.host) first start rans s.whole) is_firm ran refl outcome is exact)

    -- with what was written behind it; where the step is a fault step a count rose
    next : (out : Z) → (W.told told.out).faults ≤ (W.told out).faults → (is_fault_step ran ≡ true → SomeRose (counts_of H S W w) (counts_of H S W (with_out told out))) → SoFar (rans ++ ran ∷ []) (with_out told out)
    next out later rose = record {
      whole = whole_next;
      few = few_more (counts_of H S W old) (counts_of H S W w) (counts_of H S W (with_out told out)) rans ran s.few
          (record { host = a.goes_on.host; source = a.goes_on.source; out = omega (arith, a.goes_on.out, later); err = a.goes_on.err }) rose;
      explained = explained_next;
    }

    some_rose : (out : Z) → (W.told told.out).faults ≤ (W.told out).faults → HostRose r ⊎ SourceRose r ⊎ SinkRose r → SomeRose (counts_of H S W w) (counts_of H S W (with_out told out))
    some_rose out later (inl host) = inl host
    some_rose out later (inr (inl source)) = inr (inl source)
    some_rose out later (inr (inr (inl o))) = inr (inr (inl (rose_before (W.told w.out).faults (W.told told.out).faults (W.told out).faults o later)))
    some_rose out later (inr (inr (inr e))) = inr (inr (inr e))

    -- a fault of the step itself
    next_of : (out : Z) → (W.told told.out).faults ≤ (W.told out).faults → (status ≡ 7 → SinkRose r) → SoFar (rans ++ ran ∷ []) (with_out told out)
    next_of out later rose = next out later (λ faulty. some_rose out later (rose_in r a is_alone status is rose faulty))

    -- where it isn't a fault step and memory didn't run out
    exact_next : (status ≡ 8 → ⊥) → IsExact first (rans ++ ran ∷ []) (H.told told.host)
    exact_next other none =
        let before = none_faulty rans ran none in
        let goal : Type 0 = ReachedFrom first (rans ++ ran ∷ []) (standing (H.told told.host).state) in
        elim outcome as (λ v. goal) [
          | inl faulty ↦ absurd (true_false (sym faulty ∙ before.1))
          | inr more ↦ elim more as (λ v. goal) [
            | inl eight ↦ absurd (other eight)
            | inr o ↦ reached_more ran first rans (standing (H.told told.host).state)
                (reads r, exact before.0, subst (RanEnds ran (reads r)) (sym o.after) (machine_ends r.now (reads r) is_firm (HostRose r) a.order a.answer o.answer))
          ]
        ]

  -- ---- steps behind which the script went on

  record WentSoFar (rans : List Ran) (w : World X Y Z) : Type 0 where
    pub so_far : SoFar rans w
    pub exact : IsExact first rans (H.told w.host)

  went_next : (step : Timed) (w told : World X Y Z) (out : Z) (on : WentOn H S W step w told out) (rans : List Ran) → WentSoFar rans w
      → WentSoFar (rans ++ ran_of (step_run H S W step w told on.report) on.answered on.report.status ∷ []) (with_out told out)
  went_next step w told out on rans s =
      let r = step_run H S W step w told on.report in
      let is = shown r on.answered in
      record {
        so_far = next_of step w told on.report on.answered rans s.so_far s.exact on.report.status is out on.line.later (seven_rose r on.answered);
        exact = exact_next step w told on.report on.answered rans s.so_far s.exact on.report.status is on.not_out;
      }

  went_all : (steps : List Timed) (w new : World X Y Z) (went : Went H S W steps w new) (rans : List Ran) → WentSoFar rans w → WentSoFar (rans ++ rans_of H S W steps w new went) new
  went_all [] w new went rans s = subst (λ (l : List Ran). WentSoFar l new) (sym (append-nil rans)) (subst (WentSoFar rans) (sym went) s)
  went_all (step ∷ steps) w new went rans s =
      let told = went.0 in
      let out = went.1 in
      let on = went.2 in
      let ran = ran_of (step_run H S W step w told on.report) on.answered on.report.status in
      subst (λ (l : List Ran). WentSoFar l new) (append_assoc rans (ran ∷ []) (rans_of H S W steps (with_out told out) new went.3))
      (went_all steps (with_out told out) new went.3 (rans ++ ran ∷ []) (went_next step w told out on rans s))

  -- ---- the step that ended the script

  module _ (step : Timed) (w new : World X Y Z) (report : Report) (end : EndedBy H S W step w new report) (rans : List Ran) (s : WentSoFar rans w) where
    abbrev rlast : Run
    rlast = step_run H S W step w end.told end.ended

    abbrev last : Ran
    last = ran_of rlast end.answered report.status

    ended : Ending H S W end.told new end.ended report → SoFar (rans ++ last ∷ []) new
    ended (cut seven same told) =
        let is : IsStatus report.status end.answered.answer = inl (ap (λ (x : Report). x.status) told ∙ seven) in
        subst (SoFar (rans ++ last ∷ [])) (sym same)
        (next_of step w end.told end.ended end.answered rans s.so_far s.exact report.status is end.told.out (omega arith) (λ x. seven_rose rlast end.answered seven))
    ended (unlined out same written told) =
        let is : IsStatus report.status end.answered.answer = inl (ap (λ (x : Report). x.status) told) in
        subst (SoFar (rans ++ last ∷ [])) (sym same)
        (next step w end.told end.ended end.answered rans s.so_far s.exact report.status is out written.later
        (λ faulty. inr (inr (inl (rose_after (W.told w.out).faults (W.told end.told.out).faults (W.told out).faults end.answered.goes_on.out (written.failed refl))))))
    ended (ran_out out same written eight told) =
        let status : report.status ≡ end.ended.status = ap (λ (x : Report). x.status) told in
        let is : IsStatus report.status end.answered.answer = subst (λ k. IsStatus k end.answered.answer) (sym status) (shown rlast end.answered) in
        subst (SoFar (rans ++ last ∷ [])) (sym same)
        (next_of step w end.told end.ended end.answered rans s.so_far s.exact report.status is out written.later (λ seven. seven_rose rlast end.answered (sym status ∙ seven)))

  finished : (more : List Timed) (w new : World X Y Z) (report : Report) (end : EndsWith H S W more w new report) (rans : List Ran) → WentSoFar rans w → SoFar (rans ++ last_of H S W more w new report end) new
  finished [] w new report end rans s = subst (λ (l : List Ran). SoFar l new) (sym (append-nil rans)) (subst (SoFar rans) (sym end.0) s.so_far)
  finished (step ∷ more) w new report end rans s = ended step w new report end rans s end.ending

  -- ---- all of it

  module _ (sound : Sound (H.told old.host)) (net : NetData) (has : (H.told old.host).state.net ≡ Some net) (tells : H.tells) where
    first_left : (H.told old.host).stops.may_leave (H.told old.host).state
    first_left = (lawful old.host).reads tells

    is_firm_first : (s : State) → (H.told old.host).stops.may_leave s → Firm (standing s)
    is_firm_first s l = firm_left (H.told old.host) sound net has first_left s l

    began : WentSoFar [] old
    began = record {
      so_far = record { whole = whole_start (H.told old.host) (lawful old.host).stops first_left sound net has; few = few_start (counts_of H S W old); explained = tt };
      exact = λ none. (standing (H.told old.host).state, ((H.told old.host).state, first_left, refl), refl);
    }

    is_whole : (new : World X Y Z) (rans : List Ran) → SoFarWhole first start rans (H.told new.host) → IsWhole (H.told old.host) (H.told new.host) rans
    is_whole new rans s = record {
      ends = λ p l. let led = s.left p l in record { station = led.station; is = led.is; like = led.like };
      during = λ p since. (s.during p since).0;
      sound = s.sound;
      has =
          let here_left = (lawful new.host).reads tells in
          let led = s.left (H.told new.host).state here_left in
          let firm = firm_like led.station (standing (H.told new.host).state) led.firm led.like (backed_fit (H.told new.host).state (s.sound.fit (H.told new.host).state here_left)) in
          λ none. some_none firm.net (sym none ∙ firm.is_net);
      waits = λ none p since c is phase lt.
          let d = s.during p since in
          let from = d.0.is in
          let s0 = from.1.0 in
          let firm0 = is_firm_first s0 from.1.1 in
          let has0 : Has from.0 = (firm0.net, ap (λ (e : Standing). e.net) (sym from.1.2) ∙ firm0.is_net) in
          let wrote0 : Wrote [] from.0 = λ k cell w. absurd (none s0 from.1.1 k (ap (λ (e : Standing). e.cell) from.1.2 ∙ cell) w) in
          waits_among rans from.0 d.0.station (standing p) has0 wrote0 from.2 d.0.like d.1 c is phase lt;
    }

    facts_of : (done more : List Timed) (mid new : World X Y Z) (report : Report) (went : Went H S W done old mid) (end : EndsWith H S W more mid new report)
        → Facts H S W old new (all_rans H S W done more old mid new report went end)
    facts_of done more mid new report went end =
        let s = finished more mid new report end (rans_of H S W done old mid went) (went_all done old mid went [] began) in
        record { whole = is_whole new (all_rans H S W done more old mid new report went end) s.whole; few = s.few; explained = s.explained }

-- ---- behind the making of a first network

module _ {X Y Z : Type 0} (H : HostGhosts X) (S : SourceGhosts Y) (W : SinkGhosts Z) (lawful : (host : X) → IsLawfulHost H.tells (H.told host)) (tells_if : H.honest → H.tells) where
  network : (n : Option NetData) → n ≢ None → (net : NetData) × (n ≡ Some net)
  network None other = absurd (other refl)
  network (Some net) other = (net, refl)

  facts : (done more : List Timed) (old mid new : World X Y Z) (report : Report) (went : Went H S W done old mid) (end : EndsWith H S W more mid new report) → Begins H.honest (H.told old.host)
      → Facts H S W old new (all_rans H S W done more old mid new report went end)
  facts done more old mid new report went end b =
      let net = network (H.told old.host).state.net b.has in
      facts_of H S W lawful b.honest old b.sound net.0 net.1 (tells_if b.honest) done more mid new report went end

  made_begins : (step : Timed) (old told : World X Y Z) (out : Z) (on : WentOn H S W step old told out) → IsMaking H S W step old told out on → H.honest → Begins H.honest (H.told told.host)
  made_begins step old told out on m honest =
      let r = step_run H S W step old told on.report in
      let a = on.answered in
      let rest = subst (λ (o : Result Order Cause). Rests r o) (sym m.is) honest in
      let K : Result Order Cause → Type 0 = λ o. KeptBy r o a.answer in
      let kept : KeptBy r (Ok (making m.links)) a.answer = subst K m.is (a.kept rest) in
      let sound : Sound (H.told told.host) = kept.made m.said m.done in
      let L : Result Order Cause → Type 0 = λ o. Leaves r o a.answer in
      let M : Answer → Type 0 = λ x. Leaves r (Ok (making m.links)) x in
      let leaves : Within (left_at_exit r) (Only (restored_to (first_net m.links))) = subst M m.done (subst L m.is (a.leaves rest)) in
      let s = (H.told told.host).state in
      let here_left = (lawful told.host).reads (tells_if honest) in
      let near = leaves (standing s) (s, here_left, refl) in
      let firm = firm_like (restored_to (first_net m.links)) (standing s) (firm_restored (first_net m.links)) (λ t. ap (settled t) (sym near.is) ∙ near.like t) (backed_fit s (sound.fit s here_left)) in
      record { honest = honest; sound = sound; has = λ none. some_none firm.net (sym none ∙ firm.is_net) }

  -- what is said of the steps of a script, of all that are left at each of them
  pub on_each : (done more : List Timed) (old mid new : World X Y Z) (report : Report) (went : Went H S W done old mid) (end : EndsWith H S W more mid new report) → OnEach H S W done more old mid new report went end
  on_each [] more old mid new report went end = λ b. facts [] more old mid new report went end b
  on_each (step ∷ done) more old mid new report went end = (
    λ b. facts (step ∷ done) more old mid new report went end b,
    λ m honest. made_begins step old went.0 went.1 went.2 m honest,
    on_each done more (with_out went.0 went.1) mid new report went.3 end,
  )

  pub script_ran : (steps : List Timed) (old new : World X Y Z) (report : Report) → StepsRun H S W steps old new report → ScriptRun H S W steps old new report
  script_ran steps old new report run = record { run = run; each = on_each run.done run.more old run.mid new report run.went run.end }

  -- a step ended the script
  pub ended_run : (steps done more : List Timed) (step : Timed) → steps ≡ done ++ step ∷ more → (old mid new : World X Y Z) (report : Report) → Went H S W done old mid → EndedBy H S W step mid new report
      → ScriptRun H S W steps old new report
  ended_run steps done more step all old mid new report went end = script_ran steps old new report (record { done = done; more = step ∷ more; all = all; mid = mid; went = went; end = end })

  -- all steps were run
  pub whole_run : (steps : List Timed) (old new : World X Y Z) (report : Report) → Went H S W steps old new → report ≡ report_of Done → ScriptRun H S W steps old new report
  whole_run steps old new report went told = script_ran steps old new report (record { done = steps; more = []; all = sym (append-nil steps); mid = new; went = went; end = (refl, told) })

-- ---- the steps as they go

module _ {X Y Z : Type 0} (H : HostGhosts X) (S : SourceGhosts Y) (W : SinkGhosts Z) (step : Timed) where
  -- one step more
  pub went_more : (done : List Timed) (old mid told : World X Y Z) (out : Z) → Went H S W done old mid → WentOn H S W step mid told out → Went H S W (done ++ step ∷ []) old (with_out told out)
  went_more [] old mid told out went on = (told, out, subst (λ (w : World X Y Z). WentOn H S W step w told out) went on, refl)
  went_more (d ∷ done) old mid told out went on = (went.0, went.1, went.2, went_more done (with_out went.0 went.1) mid told out went.3 on)
