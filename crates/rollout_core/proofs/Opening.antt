-- What a start makes of a node, by the answer of its apply.
use Rattle.std.proofs.Common.{◌≡◌, ◌⊎◌, inl, inr, ◌∙◌, ℕ, ◌≤◌, Bool, refl, ap, sym, subst, Option, Some, None, Result, Ok, Err, arith}
use Rattle.net_model.specs.NetData.{NetData}
use Rattle.document_model.specs.declared.Doc.{Doc}
use Rattle.document_model.specs.declared.Refused.{Refused as Refusal}
use Rattle.host_core.specs.Faults.{Rose}
use Rattle.host_core.specs.HostView.{HostView}
use Rattle.checkpoint_cell.specs.Cell.{Checkpoint}
use Rattle.checkpoint_cell.specs.Settled.{Standing, standing, settled, restored_to, Alike}
use Rattle.merge_model.specs.MergedNet.{merge}
use Rattle.engine_model.specs.Machine.{Asked, Outcome, stays, recover_cell, apply_step, apply, change as change_of, changed, merged_as, deadline_of}
use Rattle.engine_model.specs.Stations.{Stands, Near, Within, Only, Either, Before, Settled, Kept, Entry, entry_of, left_by, at}
use Rattle.engine_model.specs.Exit.{OnWay, Marked}
use Rattle.engine_model.specs.Faults.{IsOutcome}
use Rattle.engine_model.specs.declared.answers.Left.TheVariants.{NotBegun, RolledBack, Pending}
use Rattle.engine_model.specs.declared.answers.Applied.{Applied}
use Rattle.engine_model.specs.declared.answers.ApplyFault.{ApplyFault}
use Rattle.engine_model.specs.declared.answers.ApplyFault.TheVariants as ap_
use Rattle.rollout_model.specs.declared.node.NodeState.{NodeState}
use Rattle.rollout_model.specs.declared.node.NodeState.TheVariants.{Fresh, Opened, Restored, Doubt}
use Rattle.rollout_model.specs.declared.node.Event.{Event}
use Rattle.rollout_model.specs.declared.node.Event.TheVariants as ev
use Rattle.rollout_model.proofs.lemmas.Rolling.{begun_to}
use Rattle.rollout_core.specs.Answers.{opening}
use Rattle.rollout_core.specs.Calls.{Applies}
use Rattle.rollout_core.specs.Causes.{Comes, IsRefused}
use Rattle.rollout_core.specs.Did.{change}
use Rattle.rollout_core.specs.Places.{Changes, WaitsSince, Station, AtRest, ReadsAs, BegunBy, NodeHolds}
use Rattle.rollout_core.proofs.Near.{settled_alone, alone_same, widen, near_self, through, station_begun, goes_on}

-- ---- what the machine makes of what stands, where no checkpoint does

abbrev Made : Type 0
Made = Outcome Applied ApplyFault

pub record NoNet (a : Asked) (e : Standing) : Type 0 where
  pub none : e.net ≡ None
  pub is : apply a e ≡ stays e (Err (ap_.Damaged 0))

pub record Refuses (a : Asked) (e : Standing) : Type 0 where
  pub from : NetData
  pub refusal : Refusal
  pub stood : e ≡ restored_to from
  pub breaks : merge from a.doc ≡ Err refusal
  pub is : apply a e ≡ stays (restored_to from) (Err (ap_.MergeRefused refusal))

pub record Makes (a : Asked) (e : Standing) : Type 0 where
  pub from : NetData
  pub to : NetData
  pub changes : Changes a.doc e from to
  pub is : apply a e ≡ changed a from to

abbrev Gives : Asked → Standing → Type 0
Gives a e = NoNet a e ⊎ Refuses a e ⊎ Makes a e

module _ (a : Asked) (e : Standing) (empty : e.cell ≡ None) where
  settles : apply a e ≡ change_of a e e.net
  settles = ap (λ (k : Option Checkpoint). apply_step a (recover_cell a.now e k)) empty

  by_merge : (from : NetData) → e.net ≡ Some from → (m : Result NetData Refusal) → merge from a.doc ≡ m → Gives a e
  by_merge from net (Ok to) is = inr (inr (record {
    from = from;
    to = to;
    changes = record { stands = λ i. record { net = net i; cell = empty i }; merges = is };
    is = settles ∙ ap (change_of a e) net ∙ ap (merged_as a from) is;
  }))
  by_merge from net (Err refusal) is = inr (inl (record {
    from = from;
    refusal = refusal;
    stood = λ i. record { net = net i; cell = empty i };
    breaks = is;
    is = settles ∙ ap (change_of a e) net ∙ ap (merged_as a from) is;
  }))

  by_net : (n : Option NetData) → e.net ≡ n → Gives a e
  by_net None net = inl (record { none = net; is = settles ∙ ap (change_of a e) net })
  by_net (Some from) net = by_merge from net (merge from a.doc) refl

  pub gives : Gives a e
  gives = by_net e.net refl

-- ---- a start

module _ (tells honest : Type 0) (trust : honest) (told : tells) (doc : Doc) (timeout now i : ℕ) (good : Bool) (first old new : HostView) (before : NodeHolds doc timeout None good Fresh first old) where
  abbrev stood : Standing
  stood = standing first.state

  abbrev a : Asked
  a = change doc timeout now

  abbrev was : Standing
  was = standing old.state

  empty : was.cell ≡ None
  empty = ap (λ (s : Standing). s.cell) before.reads ∙ before.empty

  -- what is to be settled is what stood
  settled_only : (b : Standing) → Settled now (entry_of old) b → b ≡ stood
  settled_only b is = let e : Some was ≡ Some b = sym (settled_alone now was empty) ∙ is in let same : was ≡ b = cc in sym same ∙ before.reads

  abbrev P : Stands
  P = Station doc timeout stood (Some now) good

  -- what the machine leaves
  after_is : (b : Standing) → b ≡ (apply a was).after → P b
  after_is b is = elim (gives a was empty) [
    | inl none ↦ inl (is ∙ ap (λ (o : Made). o.after) none.is ∙ before.reads)
    | inr more ↦ elim more [
      | inl refuses ↦ inl (is ∙ ap (λ (o : Made). o.after) refuses.is ∙ sym refuses.stood ∙ before.reads)
      | inr makes ↦ inr (inl (
        makes.from,
        makes.to,
        record { stands = sym before.reads ∙ makes.changes.stands; merges = makes.changes.merges },
        is ∙ ap (λ (o : Made). o.after) makes.is,
      ))
    ]
  ]

  abbrev Q : Stands
  Q = Either (Settled now (entry_of old)) (Only (apply a was).after)

  q_station : (b : Standing) → Q b → P b
  q_station b is = elim is [ inl settled ↦ inl (settled_only b settled) | inr after ↦ after_is b after ]

  module _ (kept : Kept Q old new) (later : old.faults ≤ new.faults) where
    held : (to : NodeState) → ReadsAs doc timeout stood (Some now) good to (standing new.state) → Within (left_by new) (AtRest doc timeout stood (Some now) good to) → (to ≡ Fresh → ⊥)
        → NodeHolds doc timeout (Some now) good to first new
    held to reads left begun =
        goes_on doc timeout first old new None good Fresh before (Some now) good (station_begun doc timeout stood (Some now) good) Q kept (λ b is. near_self P b (q_station b is)) to (begun_by to begun) reads left later
      where
        begun_by : (s : NodeState) → (s ≡ Fresh → ⊥) → BegunBy s (Some now)
        begun_by Fresh not_so = absurd (not_so refl)
        begun_by s not_so = tt

    pub record After (event : Event) : Type 0 where
      pub holds : NodeHolds doc timeout (Some now) good (begun_to event) first new
      pub comes : Comes doc timeout (Some now) first new now event

    restored : standing new.state ≡ stood → Within (left_by new) (Only stood) → NodeHolds doc timeout (Some now) good Restored first new
    restored reads left = held Restored reads left (λ e. cc)

    doubt : Near P (standing new.state) → Within (left_by new) P → NodeHolds doc timeout (Some now) good Doubt first new
    doubt reads left = held Doubt reads left (λ e. cc)

    -- ---- by the answer

    -- the machine's answer is one of three
    pub record Refusing (refusal : Refusal) : Type 0 where
      pub answer : (apply a was).answer ≡ Err (ap_.MergeRefused refusal)
      pub refuses : IsRefused doc stood
      pub same : (apply a was).after ≡ stood

    pub record Making (done : Applied) : Type 0 where
      pub answer : (apply a was).answer ≡ Ok done
      pub waits : (b : Standing) → b ≡ (apply a was).after → WaitsSince doc timeout stood (Some now) b

    pub record Missing : Type 0 where
      pub answer : (apply a was).answer ≡ Err (ap_.Damaged 0)
      pub none : first.state.net ≡ None
      pub same : (apply a was).after ≡ stood

    abbrev OneOfThree : Type 0
    OneOfThree = Missing ⊎ ((refusal : Refusal) × Refusing refusal) ⊎ ((done : Applied) × Making done)

    one_of_three : OneOfThree
    one_of_three = elim (gives a was empty) [
      | inl none ↦ inl (record { answer = ap (λ (o : Made). o.answer) none.is; none = ap (λ (s : Standing). s.net) (sym before.reads) ∙ none.none; same = ap (λ (o : Made). o.after) none.is ∙ before.reads })
      | inr more ↦ elim more [
        | inl refuses ↦ inr (inl (
          refuses.refusal,
          record {
            answer = ap (λ (o : Made). o.answer) refuses.is;
            refuses = (refuses.from, refuses.refusal, sym before.reads ∙ refuses.stood, refuses.breaks);
            same = ap (λ (o : Made). o.after) refuses.is ∙ sym refuses.stood ∙ before.reads;
          },
        ))
        | inr makes ↦ inr (inr (
          record { deadline = Some (deadline_of a) },
          record {
            answer = ap (λ (o : Made). o.answer) makes.is;
            waits = λ b is. (
              makes.from,
              makes.to,
              record { stands = sym before.reads ∙ makes.changes.stands; merges = makes.changes.merges },
              is ∙ ap (λ (o : Made). o.after) makes.is,
            );
          },
        ))
      ]
    ]

    -- an answer that is none of the three doesn't come
    never : (answer : Result Applied ApplyFault) → (apply a was).answer ≡ answer → (Err (ap_.Damaged 0) ≡ answer → ⊥) → ((refusal : Refusal) → Err (ap_.MergeRefused refusal) ≡ answer → ⊥)
        → ((done : Applied) → Ok done ≡ answer → ⊥) → ⊥
    never answer is not_damaged not_refused not_done = elim one_of_three [
      | inl missing ↦ not_damaged (sym missing.answer ∙ is)
      | inr more ↦ elim more [
        | inl (refusal, refusing) ↦ not_refused refusal (sym refusing.answer ∙ is)
        | inr (done, making) ↦ not_done done (sym making.answer ∙ is)
      ]
    ]

    opened : (done : Applied) → IsOutcome (apply a was) new (Ok done) → Within (left_by new) (Only (apply a was).after) → NodeHolds doc timeout (Some now) good Opened first new
    opened done outcome left = elim one_of_three [
      | inl missing ↦ let e : Err (ap_.Damaged 0) ≡ Ok done = sym missing.answer ∙ outcome.answer in absurd (cc)
      | inr more ↦ elim more [
        | inl (refusal, refusing) ↦ let e : Err (ap_.MergeRefused refusal) ≡ Ok done = sym refusing.answer ∙ outcome.answer in absurd (cc)
        | inr (d, making) ↦ held Opened (making.waits (standing new.state) outcome.after)
            (widen (left_by new) (Only (apply a was).after) (WaitsSince doc timeout stood (Some now)) making.waits left) (λ e. cc)
      ]
    ]

    -- a merge was refused, and what stood stands
    pub record Refused : Type 0 where
      pub refuses : IsRefused doc stood
      pub same : standing new.state ≡ stood

    refused : (refusal : Refusal) → IsOutcome (apply a was) new (Err (ap_.MergeRefused refusal)) → Refused
    refused refusal outcome = elim one_of_three [
      | inl missing ↦ let e : Err (ap_.Damaged 0) ≡ Err (ap_.MergeRefused refusal) = sym missing.answer ∙ outcome.answer in absurd (cc)
      | inr more ↦ elim more [
        | inl (other, refusing) ↦ record { refuses = refusing.refuses; same = outcome.after ∙ refusing.same }
        | inr (done, making) ↦ let e : Ok done ≡ Err (ap_.MergeRefused refusal) = sym making.answer ∙ outcome.answer in absurd (cc)
      ]
    ]

    -- there is no network, and what stood stands
    pub record Lacks : Type 0 where
      pub none : first.state.net ≡ None
      pub same : standing new.state ≡ stood

    lacks : (area : ℕ) → IsOutcome (apply a was) new (Err (ap_.Damaged area)) → Lacks
    lacks area outcome = elim one_of_three [
      | inl missing ↦ record { none = missing.none; same = outcome.after ∙ missing.same }
      | inr more ↦ elim more [
        | inl (refusal, refusing) ↦ let e : Err (ap_.MergeRefused refusal) ≡ Err (ap_.Damaged area) = sym refusing.answer ∙ outcome.answer in absurd (cc)
        | inr (done, making) ↦ let e : Ok done ≡ Err (ap_.Damaged area) = sym making.answer ∙ outcome.answer in absurd (cc)
      ]
    ]

    -- what is left alone is as before
    only_before : Within (left_by new) (Before (entry_of old)) → Within (left_by new) (Only stood)
    only_before within = through (Only stood) old new before.left within

    only_settled : Within (left_by new) (Settled now (entry_of old)) → Within (left_by new) (Only stood)
    only_settled within = widen (left_by new) (Settled now (entry_of old)) (Only stood) settled_only within

    -- on the way, what stood or the change that waits
    on_way : (left : Stands) (entry : Entry) (rose begun : Type 0) → entry.reads ≡ was → OnWay a entry left rose begun → Within left P
    on_way left entry rose begun reads way = elim way [
      | inl unsettled ↦
          let none : None ≡ Some unsettled.0.checkpoint = sym empty ∙ sym (ap (λ (s : Standing). s.cell) reads) ∙ unsettled.0.is in
          absurd (cc)
      | inr begun ↦ widen left (Either (Settled now entry) (Marked a entry rose)) P (λ b is. elim is [
        | inl back ↦ inl (settled_only b (ap (settled now) (sym reads) ∙ back))
        | inr marked ↦ after_is b (marked.2 ∙ ap (λ (s : Standing). (apply a s).after) reads)
      ]) begun.1
    ]

    abbrev Call : Result Applied ApplyFault → Type 0
    Call answer = Applies tells honest old new a answer

    -- a start that left what stood
    back : (event : Event) → begun_to event ≡ Restored → Comes doc timeout (Some now) first new now event → standing new.state ≡ stood → Within (left_by new) (Only stood) → After event
    back event is comes reads left = record {
      holds = subst (λ (s : NodeState). NodeHolds doc timeout (Some now) good s first new) (sym is) (restored reads left);
      comes = comes;
    }

    -- one after which nobody knows
    unknown : (event : Event) → begun_to event ≡ Doubt → Comes doc timeout (Some now) first new now event → Near P (standing new.state) → Within (left_by new) P → After event
    unknown event is comes reads left = record {
      holds = subst (λ (s : NodeState). NodeHolds doc timeout (Some now) good s first new) (sym is) (doubt reads left);
      comes = comes;
    }

    near_stood : standing new.state ≡ stood → Near P (standing new.state)
    near_stood same = near_self P (standing new.state) (inl same)

    left_stood : Within (left_by new) (Only stood) → Within (left_by new) P
    left_stood left = widen (left_by new) (Only stood) P (λ b is. inl is) left

    rose_since : Rose old.faults new.faults → Rose first.faults new.faults
    rose_since rose = omega (arith, before.later, rose)

    abbrev err : ApplyFault → Result Applied ApplyFault
    err fault = Err fault

    no_such : {X : Type 0} (fault : ApplyFault) → (apply a was).answer ≡ err fault → (err (ap_.Damaged 0) ≡ err fault → ⊥) → ((refusal : Refusal) → err (ap_.MergeRefused refusal) ≡ err fault → ⊥) → X
    no_such {X = X} fault is not_damaged not_refused = absurd (never (err fault) is not_damaged not_refused (λ done e. cc))

    of_fault : (fault : ApplyFault) → Call (Err fault) → After (opening i (Err fault))
    of_fault (ap_.Pending deadline) call =
        let outcome = call.answers trust before.sound in
        no_such (ap_.Pending deadline) outcome.answer (λ e. cc) (λ refusal e. cc)
    of_fault (ap_.MergeRefused refusal) call =
        let r = refused refusal (call.answers trust before.sound) in
        back (ev.Refused i) refl (inl r.refuses) r.same (only_settled (call.exit trust before.sound))
    of_fault (ap_.HostFault NotBegun) call =
        back (ev.Refused i) refl (inr (rose_since (call.answers trust before.sound))) (ap standing (call.says.1 told) ∙ before.reads) (only_before (call.exit trust before.sound))
    of_fault (ap_.HostFault RolledBack) call =
        let near = call.reads trust before.sound (standing new.state) refl in
        let same = settled_only near.station near.is in
        let like : Alike stood (standing new.state) = subst (λ (s : Standing). Alike s (standing new.state)) same near.like in
        back (ev.Refused i) refl (inr (rose_since (call.answers trust before.sound)))
        (alone_same stood (standing new.state) before.empty (call.says.1 told) like) (only_settled (call.exit trust before.sound))
    of_fault (ap_.HostFault Pending) call =
        unknown (ev.Unclear i) refl (inr (rose_since (call.answers trust before.sound)))
        (on_way (Only (standing new.state)) (at was) _ _ refl (call.reads trust before.sound) (standing new.state) refl) (on_way (left_by new) (entry_of old) _ _ refl (call.exit trust before.sound))
    of_fault (ap_.KernelRefused k n left) call = absurd (call.answers trust before.sound)
    of_fault (ap_.NotVerified found left) call = absurd (call.answers trust before.sound)
    of_fault ap_.InDoubt call =
        let near : (left : Stands) → Within left (Either (Settled now (entry_of old)) (Only (apply a was).after)) → Within left P = λ left within. widen left Q P q_station within in
        unknown (ev.Unclear i) refl (inr (rose_since (call.answers trust before.sound)))
        (near (Only (standing new.state)) (call.reads trust before.sound).near (standing new.state) refl) (near (left_by new) (call.exit trust before.sound).near)
    of_fault (ap_.Damaged area) call =
        let l = lacks area (call.answers trust before.sound) in
        unknown (ev.Unclear i) refl (inl l.none) (near_stood l.same) (left_stood (only_before (call.exit trust before.sound)))
    of_fault (ap_.HardwareDiffers names) call =
        let outcome = call.answers trust before.sound in
        no_such (ap_.HardwareDiffers names) outcome.answer (λ e. cc) (λ refusal e. cc)
    of_fault ap_.OutOfMemory call =
        unknown (ev.Starved i) refl tt
        (on_way (Only (standing new.state)) (at was) _ _ refl (call.reads trust before.sound) (standing new.state) refl) (on_way (left_by new) (entry_of old) _ _ refl (call.exit trust before.sound))

    -- what a start leaves
    pub of_answer : (answer : Result Applied ApplyFault) → Call answer → After (opening i answer)
    of_answer (Ok done) call = record { holds = opened done (call.answers trust before.sound) (call.exit trust before.sound); comes = tt }
    of_answer (Err fault) call = of_fault fault call
