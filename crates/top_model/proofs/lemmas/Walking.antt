-- A whole run so far, and one step more.
use Rattle.std.proofs.Common.{◌≡◌, ◌∙◌, ◌⊎◌, inl, inr, refl, sym, ap, subst, arith, ℕ, ◌≤◌, List, [], ◌∷◌, ◌++◌, Some, None, is_some}
use Rattle.std.specs.Prelude.{IsSome, Result, Ok, Err}
use Rattle.net_model.specs.NetData.{NetData}
use Rattle.host_core.specs.HostView.{State, HostView, IsLawfulHost}
use Rattle.host_core.specs.Stops.{IsLawful}
use Rattle.checkpoint_cell.specs.Settled.{Standing, standing, settled, Alike}
use Rattle.engine_model.specs.Machine.{asked, apply}
use Rattle.engine_model.specs.Sound.{Fit, Sound}
use Rattle.engine_model.specs.Stations.{Stands, Near, Kept, Only, Settled, Either, at, left_by}
use Rattle.top_model.specs.Said.{Said}
use Rattle.top_model.specs.Orders.{Order, showing, planning, evaluating, planning_policy, applying_policy, simulating, applying, committing, rolling_back, recovering, checking, making, generating}
use Rattle.top_model.specs.Machine.{apply_policy}
use Rattle.top_model.specs.Runs.{Run, Alone, reads, entry, left_at_exit, HostRose, HostRoseTwice}
use Rattle.top_model.specs.Told.{Answer}
use Rattle.top_model.specs.Causes.{Expects}
use Rattle.top_model.specs.Exits.{Stations, KeptBy}
use Rattle.top_model.specs.Answered.{Answered}
use Rattle.top_model.specs.WholeRuns.{Ran, ran_of, Ends, RanEnds, MayReach, MayPass, ReachedFrom, PassedFrom}
use Rattle.top_model.specs.declared.report.Cause.{Cause}
use Rattle.top_model.proofs.lemmas.Reports.{rests}
use Rattle.top_model.proofs.lemmas.Firm.{IsBacked, Firm, after_of, same_after, make_stays, firm_commit, firm_rollback, firm_recover, firm_applied, firm_like, firm_left, backed_fit}
use Rattle.top_model.proofs.lemmas.Deriving.{firm_derived}
use Rattle.top_model.proofs.lemmas.Reaching.{Led, NextBy, led_exit}

some_none : {A : Type 0} (x : A) → None ≡ Some x → ⊥
some_none x e = cc

-- what the machine makes of a firm state is firm where a recovery leads back from it
firm_order : (now : ℕ) (e : Standing) → Firm e → (order : Result Order Cause) → IsBacked (after_of now order e) → Firm (after_of now order e)
firm_order now e firm (Ok (applying doc opts)) backed = firm_applied (asked doc opts now) e (apply (asked doc opts now) e).after firm refl backed
firm_order now e firm (Ok committing) backed = firm_commit now e firm
firm_order now e firm (Ok rolling_back) backed = firm_rollback e firm
firm_order now e firm (Ok recovering) backed = firm_recover now e firm
firm_order now e firm (Ok (making links)) backed = subst Firm (sym (make_stays links e firm.net firm.is_net)) firm
firm_order now e firm (Ok checking) backed = firm
firm_order now e firm (Ok (showing only json)) backed = firm
firm_order now e firm (Ok (planning doc in_batch)) backed = firm
firm_order now e firm (Ok (evaluating p)) backed = firm
firm_order now e firm (Ok (planning_policy p in_batch)) backed = firm
firm_order now e firm (Ok (applying_policy p opts)) backed = firm_derived p opts now e (apply_policy p opts now e).after firm refl backed
firm_order now e firm (Ok (simulating calls)) backed = firm
firm_order now e firm (Ok (generating devices first second)) backed = firm
firm_order now e firm (Err refusal) backed = firm

-- a host with a network stays sound
keeps_sound : (r : Run) (order : Result Order Cause) (answer : Answer) → Sound r.host → IsSome (reads r).net → KeptBy r order answer → Sound r.host_after
keeps_sound r (Ok (making links)) answer sound has kept = kept.sound (inl has) sound
keeps_sound r (Ok (applying doc opts)) answer sound has kept = kept.sound
keeps_sound r (Ok committing) answer sound has kept = kept.sound
keeps_sound r (Ok rolling_back) answer sound has kept = kept.sound
keeps_sound r (Ok recovering) answer sound has kept = kept.sound
keeps_sound r (Ok checking) answer sound has kept = kept.sound
keeps_sound r (Ok (showing only json)) answer sound has kept = kept.sound
keeps_sound r (Ok (planning doc in_batch)) answer sound has kept = kept.sound
keeps_sound r (Ok (evaluating p)) answer sound has kept = kept.sound
keeps_sound r (Ok (planning_policy p in_batch)) answer sound has kept = kept.sound
keeps_sound r (Ok (applying_policy p opts)) answer sound has kept = kept.sound
keeps_sound r (Ok (simulating calls)) answer sound has kept = kept.sound
keeps_sound r (Ok (generating devices first second)) answer sound has kept = kept.sound
keeps_sound r (Err refusal) answer sound has kept = kept.sound

-- a state is a station of each step from it
station_self : (now : ℕ) (order : Result Order Cause) (e : Standing) → Stations now (at e) order e
station_self now (Ok (making links)) e = inl refl
station_self now (Ok (applying doc opts)) e = inl refl
station_self now (Ok committing) e = inl refl
station_self now (Ok rolling_back) e = inl refl
station_self now (Ok recovering) e = inl refl
station_self now (Ok checking) e = inl refl
station_self now (Ok (showing only json)) e = inl refl
station_self now (Ok (planning doc in_batch)) e = inl refl
station_self now (Ok (evaluating p)) e = inl refl
station_self now (Ok (planning_policy p in_batch)) e = inl refl
station_self now (Ok (applying_policy p opts)) e = inl refl
station_self now (Ok (simulating calls)) e = inl refl
station_self now (Ok (generating devices first second)) e = inl refl
station_self now (Err refusal) e = inl refl

-- ---- lists of steps

module _ (ran : Ran) where
  reach_more : (rans : List Ran) (e0 e x : Standing) → MayReach rans e0 e → RanEnds ran e x → MayReach (rans ++ ran ∷ []) e0 x
  reach_more [] e0 e x is ends = (x, subst (λ (y : Standing). RanEnds ran y x) is ends, refl)
  reach_more (r ∷ rs) e0 e x way ends = (way.0, way.1, reach_more rs way.0 e x way.2 ends)

  pub reached_more : (first : Stands) (rans : List Ran) (x : Standing) → NextBy (ReachedFrom first rans) (RanEnds ran) x → ReachedFrom first (rans ++ ran ∷ []) x
  reached_more first rans x next = (next.1.0, next.1.1, reach_more rans next.1.0 next.0 x next.1.2 next.2)

  pass_front : (rans : List Ran) (e0 x : Standing) → MayPass rans e0 x → MayPass (rans ++ ran ∷ []) e0 x
  pass_front [] e0 x is = inl (subst (λ (y : Standing). Stations ran.step.at (at e0) ran.order y) (sym is) (station_self ran.step.at ran.order e0))
  pass_front (r ∷ rs) e0 x (inl station) = inl station
  pass_front (r ∷ rs) e0 x (inr next) = inr (next.0, next.1, pass_front rs next.0 x next.2)

  pass_last : (rans : List Ran) (e0 e x : Standing) → MayReach rans e0 e → Stations ran.step.at (at e) ran.order x → MayPass (rans ++ ran ∷ []) e0 x
  pass_last [] e0 e x is station = inl (subst (λ (y : Standing). Stations ran.step.at (at y) ran.order x) is station)
  pass_last (r ∷ rs) e0 e x way station = inr (way.0, way.1, pass_last rs way.0 e x way.2 station)

  passed_front : (first : Stands) (rans : List Ran) (p : Standing) → Near (PassedFrom first rans) p → Near (PassedFrom first (rans ++ ran ∷ [])) p
  passed_front first rans p near = record {
    station = near.station;
    is = (near.is.0, near.is.1, pass_front rans near.is.0 near.station near.is.2);
    like = near.like;
  }

  passed_last : (first : Stands) (rans : List Ran) (p : Standing) → Near (NextBy (ReachedFrom first rans) (λ e. Stations ran.step.at (at e) ran.order)) p → Near (PassedFrom first (rans ++ ran ∷ [])) p
  passed_last first rans p near = record {
    station = near.station;
    is = (near.is.1.0, near.is.1.1, pass_last rans near.is.1.0 near.is.0 near.station near.is.1.2 near.is.2);
    like = near.like;
  }

-- ---- so far

-- what is left, since the moment of the start and now
pub record SoFarWhole (first : Stands) (start : ℕ) (rans : List Ran) (host : HostView) : Type 0 where
  pub later : start ≤ host.stops.moment
  pub sound : Sound host
  pub left : (s : State) → host.stops.may_leave s → Led (ReachedFrom first rans) (standing s)
  pub during : (s : State) → host.stops.left_since start s → Near (PassedFrom first rans) (standing s) × IsBacked (standing s)

pub whole_start : (host : HostView) → IsLawful host.stops → host.stops.may_leave host.state → Sound host → (net : NetData) → host.state.net ≡ Some net → SoFarWhole (left_by host) host.stops.moment [] host
whole_start host lawful here sound net is = record {
  later = omega arith;
  sound = sound;
  left = λ s l. record { station = standing s; is = (standing s, (s, l, refl), refl); like = λ m. refl; firm = firm_left host sound net is here s l };
  during = λ s since. let l = lawful.only_now s since in
      (record { station = standing s; is = (standing s, (s, l, refl), refl); like = λ m. refl }, backed_fit s (sound.fit s l));
}

-- ---- one step more

module _ (r : Run) (a : Answered r) (honest : r.honest) (after_lawful : IsLawfulHost r.host_tells r.host_after) (first : Stands) (start : ℕ) (rans : List Ran) (s : SoFarWhole first start rans r.host) where
  tells : r.host_tells
  tells = a.goes_on.tells honest

  pub alone : Alone r
  alone = record { honest = honest; sound = s.sound }

  abbrev reached : Stands
  reached = ReachedFrom first rans

  here_left : r.host.stops.may_leave r.host.state
  here_left = a.goes_on.lawful.reads tells

  pub here : Led reached (reads r)
  here = s.left r.host.state here_left

  pub firm : Firm (reads r)
  firm = firm_like here.station (reads r) here.firm here.like (backed_fit r.host.state (s.sound.fit r.host.state here_left))

  begins : (x : Standing) → (entry r).left x → Led reached x
  begins x l = subst (Led reached) l.2 (s.left l.0 l.1)

  kept_by : KeptBy r a.order a.answer
  kept_by = a.kept (rests r a.order alone)

  pub sound_after : Sound r.host_after
  sound_after = keeps_sound r a.order a.answer s.sound (ap is_some firm.is_net) kept_by

  backed_after : (p : Standing) → left_at_exit r p → IsBacked p
  backed_after p l = subst IsBacked l.2 (backed_fit l.0 (sound_after.fit l.0 l.1))

  done : (said : Said) → a.answer ≡ Ok said → Firm (after_of r.now a.order (reads r))
  done said is =
      let expects : Expects r a.order (Ok said) = subst (Expects r a.order) is (a.expects (rests r a.order alone)) in
      let backed : IsBacked (standing r.host_after.state) = backed_fit r.host_after.state (sound_after.fit r.host_after.state (after_lawful.reads tells)) in
      firm_order r.now (reads r) firm a.order (subst IsBacked expects.after backed)

  next : (p : State) → r.host_after.stops.may_leave p → Led (NextBy reached (λ e. Ends r.now e (HostRose r) a.order a.answer)) (standing p)
  next p l = led_exit r.now (entry r) reached begins here firm (left_at_exit r) (HostRose r) (HostRoseTwice r) backed_after a.answer a.order done (a.leaves (rests r a.order alone)) (standing p) (p, l, refl)

  -- ---- at each moment of it

  abbrev OfStep : Result Order Cause → Stands
  OfStep order = NextBy reached (λ e. Stations r.now (at e) order)

  abbrev OnTheWay : Result Order Cause → State → Type 0
  OnTheWay order p = Near (OfStep order) (standing p) × IsBacked (standing p)

  -- what could be left before
  as_before : (order : Result Order Cause) (old p : State) → r.host.stops.may_leave old → Alike (standing old) (standing p) → Near (OfStep order) (standing p)
  as_before order old p l alike =
      let b = s.left old l in
      record { station = b.station; is = (b.station, b.is, station_self r.now order b.station); like = λ m. b.like m ∙ alike m }

  module _ (order : Result Order Cause) (stations : Stands) (to : (p : Standing) → Near stations p → Near (OfStep order) p) (kept : Kept stations r.host r.host_after) where
    stepped : (p : State) → r.host_after.stops.left_since start p → r.host.stops.left_since start p ⊎ OnTheWay order p
    stepped p since = elim (kept.during.since start p s.later since) as (λ v. r.host.stops.left_since start p ⊎ OnTheWay order p) [
      | inl before ↦ inl before
      | inr after ↦
          let leads = after.2 in
          let near : Near (OfStep order) (standing p) = elim (leads.like) as (λ v. Near (OfStep order) (standing p)) [ inl alike ↦ as_before order after.0 p after.1 alike | inr near ↦ to (standing p) near ] in
          inr (near, backed_fit p (leads.fit (s.sound.fit after.0 after.1)))
    ]

    moved : r.host.stops.moment ≤ r.host_after.stops.moment
    moved = kept.during.later

  -- what the machine makes of what was read
  machine_station : (order : Result Order Cause) → ((e : Standing) → Stations r.now (at e) order (after_of r.now order e)) → (p : Standing) → Near (Only (after_of r.now order (reads r))) p → Near (OfStep order) p
  machine_station order allows p near = record {
    station = after_of r.now order here.station;
    is = (here.station, here.is, allows here.station);
    like = λ m. same_after r.now (reads r) here.station firm here.firm here.like order m ∙ ap (settled m) (sym near.is) ∙ near.like m;
  }

  apply_station : (order : Result Order Cause) → ((e x : Standing) → settled r.now e ≡ Some x → Stations r.now (at e) order x) → ((e : Standing) → Stations r.now (at e) order (after_of r.now order e))
      → (p : Standing) → Near (Either (Settled r.now (entry r)) (Only (after_of r.now order (reads r)))) p → Near (OfStep order) p
  apply_station order settles allows p near = elim (near.is) as (λ v. Near (OfStep order) p) [
    | inl is ↦ record { station = near.station; is = (here.station, here.is, settles here.station near.station (here.like r.now ∙ is)); like = near.like }
    | inr is ↦ machine_station order allows p (record { station = near.station; is = is; like = near.like })
  ]

  -- each order: what is left on its way, and that the moment doesn't fall
  abbrev Way : Result Order Cause → Type 0
  Way order = ((p : State) → r.host_after.stops.left_since start p → r.host.stops.left_since start p ⊎ OnTheWay order p) × (r.host.stops.moment ≤ r.host_after.stops.moment)

  plain : (order : Result Order Cause) → ((e : Standing) → Stations r.now (at e) order (after_of r.now order e)) → Kept (Only (after_of r.now order (reads r))) r.host r.host_after → Way order
  plain order allows kept =
      let to = machine_station order allows in
      (stepped order (Only (after_of r.now order (reads r))) to kept, moved order (Only (after_of r.now order (reads r))) to kept)

  way : (order : Result Order Cause) → KeptBy r order a.answer → Way order
  way (Ok (making links)) kept = elim (kept.during) as (λ v. Way (Ok (making links))) [
    | inl still ↦ (
      λ p since. elim (still.since start p s.later since) as (λ v. r.host.stops.left_since start p ⊎ OnTheWay (Ok (making links)) p) [
        | inl before ↦ inl before
        | inr after ↦ inr (
          as_before (Ok (making links)) after.0 p after.1 (λ m. ap (λ (x : State). settled m (standing x)) (sym after.2)),
          backed_fit p (subst Fit (sym after.2) (s.sound.fit after.0 after.1)),
        )
      ],
      still.later,
    )
    | inr made ↦ absurd (some_none firm.net (sym made.0 ∙ firm.is_net))
  ]
  way (Ok (applying doc opts)) kept =
      let order : Result Order Cause = Ok (applying doc opts) in
      let stations : Stands = Either (Settled r.now (entry r)) (Only (after_of r.now order (reads r))) in
      let to : (p : Standing) → Near stations p → Near (OfStep order) p = apply_station order (λ e x is. inr (inl is)) (λ e. inr (inr refl)) in
      (stepped order stations to kept, moved order stations to kept)
  way (Ok (applying_policy p opts)) kept =
      let order : Result Order Cause = Ok (applying_policy p opts) in
      let stations : Stands = Either (Settled r.now (entry r)) (Only (after_of r.now order (reads r))) in
      let to : (p : Standing) → Near stations p → Near (OfStep order) p = apply_station order (λ e x is. inr (inl is)) (λ e. inr (inr refl)) in
      (stepped order stations to kept, moved order stations to kept)
  way (Ok (evaluating p)) kept = plain (Ok (evaluating p)) (λ e. inr refl) kept
  way (Ok (planning_policy p in_batch)) kept = plain (Ok (planning_policy p in_batch)) (λ e. inr refl) kept
  way (Ok committing) kept = plain (Ok committing) (λ e. inr refl) kept
  way (Ok rolling_back) kept = plain (Ok rolling_back) (λ e. inr refl) kept
  way (Ok recovering) kept = plain (Ok recovering) (λ e. inr refl) kept
  way (Ok checking) kept = plain (Ok checking) (λ e. inr refl) kept
  way (Ok (showing only json)) kept = plain (Ok (showing only json)) (λ e. inr refl) kept
  way (Ok (planning doc in_batch)) kept = plain (Ok (planning doc in_batch)) (λ e. inr refl) kept
  way (Ok (simulating calls)) kept = plain (Ok (simulating calls)) (λ e. inr refl) kept
  way (Ok (generating devices first second)) kept = plain (Ok (generating devices first second)) (λ e. inr refl) kept
  way (Err refusal) kept = plain (Err refusal) (λ e. inr refl) kept

  -- ---- the run with this step

  pub whole_more : (status : ℕ) → SoFarWhole first start (rans ++ ran_of r a status ∷ []) r.host_after
  whole_more status =
      let ran = ran_of r a status in
      let on = way a.order kept_by in
      record {
        later = omega (arith, s.later, on.1);
        sound = sound_after;
        left = λ p l. let n = next p l in record { station = n.station; is = reached_more ran first rans n.station n.is; like = n.like; firm = n.firm };
        during = λ p since. elim (on.0 p since) as (λ v. Near (PassedFrom first (rans ++ ran ∷ [])) (standing p) × IsBacked (standing p)) [
          | inl before ↦ let d = s.during p before in (passed_front ran first rans (standing p) d.0, d.1)
          | inr going ↦ (passed_last ran first rans (standing p) going.0, going.1)
        ];
      }
