-- Where the stops inside the serving of a document lead.
use Rattle.std.proofs.Common.{◌≡◌, ◌∙◌, ◌⊎◌, ◌≤◌, ℕ, Option, Some, None, Result, Ok, Err, refl, sym, ap, subst, inl, inr, arith}
use Rattle.net_model.specs.NetData.{NetData}
use Rattle.document_model.specs.declared.Doc.{Doc}
use Rattle.document_model.specs.declared.Refused.{Refused}
use Rattle.host_core.specs.HostView.{State, HostView}
use Rattle.host_core.specs.Stops.{IsLawful}
use Rattle.checkpoint_cell.specs.Settled.{Standing, standing, restored_to, settled, Alike}
use Rattle.merge_model.specs.MergedNet.{merge}
use Rattle.engine_model.specs.Machine.{Outcome, apply, apply_settled, change, merged_as, recover}
use Rattle.engine_model.specs.Stations.{Stands, Near, Only, Either, Settled, Kept, Leads, Within, entry_of, left_by}
use Rattle.engine_model.specs.Faults.{IsOutcome}
use Rattle.engine_model.specs.declared.answers.Applied.{Applied}
use Rattle.engine_model.specs.declared.answers.ApplyFault.{ApplyFault}
use Rattle.engine_model.specs.declared.answers.BackFault.{BackFault}
use Rattle.engine_model.specs.declared.answers.Recovered.{Recovered}
use Rattle.engine_model.specs.declared.answers.Recovered.TheVariants.{Nothing, Waiting as Waits, Restored}
use Rattle.engine_model.specs.Sound.{Fit}
use Rattle.boot_service.specs.Serving.{asked_of, done}
use Rattle.boot_service.specs.Stops.{SettlesTo, IsAt}
use Rattle.boot_service.proofs.lemmas.Settling.{settles_to}

-- ---- an apply with the defaults is done without a deadline

done_merged : (doc : Doc) (now : ℕ) (from : NetData) (m : Result NetData Refused) (x : Applied) → (merged_as (asked_of doc now) from m).answer ≡ Ok x → x ≡ done
done_merged doc now from (Ok to) x h = cc
done_merged doc now from (Err refused) x h = absurd cc

done_changed : (doc : Doc) (now : ℕ) (e : Standing) (net : Option NetData) (x : Applied) → (change (asked_of doc now) e net).answer ≡ Ok x → x ≡ done
done_changed doc now e None x h = absurd cc
done_changed doc now e (Some from) x h = done_merged doc now from (merge from doc) x h

done_settled : (doc : Doc) (now : ℕ) (e : Standing) (r : Result Recovered BackFault) (x : Applied) → (apply_settled (asked_of doc now) e r).answer ≡ Ok x → x ≡ done
done_settled doc now e (Ok (Waits deadline)) x h = absurd cc
done_settled doc now e (Ok Nothing) x h = done_changed doc now e e.net x h
done_settled doc now e (Ok Restored) x h = done_changed doc now e e.net x h
done_settled doc now e (Err fault) x h = absurd cc

pub done_plainly : (doc : Doc) (now : ℕ) (e : Standing) (x : Applied) → (apply (asked_of doc now) e).answer ≡ Ok x → x ≡ done
done_plainly doc now e x h = done_settled doc now (recover now e).after (recover now e).answer x h

-- ---- from a network without a checkpoint

-- it settles to the network before, or to the merged one
abbrev pub Lands : NetData → Doc → State → Type 0
Lands net doc s = SettlesTo net s ⊎ ((to : NetData) × (merge net doc ≡ Ok to) × SettlesTo to s)

-- what the machine makes of it
pub machine_at : (net : NetData) (doc : Doc) (now : ℕ) (host : HostView) → IsAt net host → apply (asked_of doc now) (standing host.state) ≡ merged_as (asked_of doc now) net (merge net doc)
machine_at net doc now host at = ap (apply (asked_of doc now)) at.reads

-- what stands alone there settles to it
settles_near : (net : NetData) (s : State) (station : Standing) → Fit s → station ≡ restored_to net → Alike station (standing s) → SettlesTo net s
settles_near net s station fit is like = settles_to net s fit (λ now. sym (like now) ∙ ap (settled now) is)

settles_along : (net : NetData) (r s : State) → Fit s → SettlesTo net r → Alike (standing r) (standing s) → SettlesTo net s
settles_along net r s fit settles like = settles_to net s fit (λ now. sym (like now) ∙ settles.settles now)

lands_merged : (net : NetData) (doc : Doc) (now : ℕ) (s : State) (station : Standing) → Fit s → (m : Result NetData Refused) → merge net doc ≡ m → station ≡ (merged_as (asked_of doc now) net m).after → Alike station (standing s) → Lands net doc s
lands_merged net doc now s station fit (Ok to) e is like = inr (to, e, settles_near to s station fit is like)
lands_merged net doc now s station fit (Err refused) e is like = inl (settles_near net s station fit is like)

module _ (net : NetData) (doc : Doc) (now : ℕ) (host host_after : HostView) (here : IsAt net host) where
  abbrev pub Stations : Stands
  Stations = Either (Settled now (entry_of host)) (Only (apply (asked_of doc now) (standing host.state)).after)

  lands_near : (s : State) → Fit s → Near Stations (standing s) → Lands net doc s
  lands_near s fit near = elim near.is [
    | inl was ↦
        let e : Some (restored_to net) ≡ Some near.station = ap (settled now) (sym here.reads) ∙ was in
        let is : near.station ≡ restored_to net = cc in
        inl (settles_near net s near.station fit is near.like)
    | inr is ↦ lands_merged net doc now s near.station fit (merge net doc) refl (is ∙ ap (λ (o : Outcome Applied ApplyFault). o.after) (machine_at net doc now host here)) near.like
  ]

  lands_from : (r s : State) → host.stops.may_leave r → Leads Stations r s → Lands net doc s
  lands_from r s may step =
      let fit = step.fit (here.left r may).fit in
      elim step.like [
        | inl same ↦ inl (settles_along net r s fit (here.left r may) same)
        | inr near ↦ lands_near s fit near
      ]

  -- each pair that is left since some moment
  pub lands_since : Kept Stations host host_after → (t : ℕ) (s : State) → t ≤ host.stops.moment → host_after.stops.left_since t s → host.stops.left_since t s ⊎ Lands net doc s
  lands_since kept t s le left = elim (kept.during.since t s le left) [
    | inl before ↦ inl before
    | inr after ↦ inr (lands_from after.0 s after.1 after.2)
  ]

  -- each pair that is left on the way
  pub lands_during : IsLawful host.stops → Kept Stations host host_after → (s : State) → host_after.stops.left_since host.stops.moment s → Lands net doc s
  lands_during lawful kept s left = elim (kept.during.since host.stops.moment s (omega arith) left) [
    | inl before ↦ inl (here.left s (lawful.only_now s before))
    | inr after ↦ lands_from after.0 s after.1 after.2
  ]

  -- and at the exit
  pub lands_exit : Kept Stations host host_after → (s : State) → host_after.stops.may_leave s → Lands net doc s
  lands_exit kept s left = let from = kept.during.now s left in lands_from from.0 s from.1 from.2

  -- the change was committed
  pub record IsCommitted : Type 0 where
    pub to : NetData
    pub merges : merge net doc ≡ Ok to
    pub at : IsAt to host_after

  committed_as : Kept Stations host host_after → (m : Result NetData Refused) → merge net doc ≡ m → (merged_as (asked_of doc now) net m).answer ≡ Ok done
      → standing host_after.state ≡ (merged_as (asked_of doc now) net m).after → Within (left_by host_after) (Only (merged_as (asked_of doc now) net m).after) → IsCommitted
  committed_as kept (Ok to) e answer reads within = record {
    to = to;
    merges = e;
    at = record {
      sound = kept.sound;
      reads = reads;
      left = λ s left. let near = within (standing s) (s, left, refl) in settles_near to s near.station (kept.sound.fit s left) near.is near.like;
    };
  }
  committed_as kept (Err refused) e answer reads within = absurd cc

  -- where an apply with the defaults is done, the host is at the merged network
  pub committed : Kept Stations host host_after → IsOutcome (apply (asked_of doc now) (standing host.state)) host_after (Ok done)
      → Within (left_by host_after) (Only (apply (asked_of doc now) (standing host.state)).after) → IsCommitted
  committed kept is within =
      let machine = machine_at net doc now host here in
      committed_as kept (merge net doc) refl
      (subst (λ (o : Outcome Applied ApplyFault). o.answer ≡ Ok done) machine is.answer)
      (subst (λ (o : Outcome Applied ApplyFault). standing host_after.state ≡ o.after) machine is.after)
      (subst (λ (o : Outcome Applied ApplyFault). Within (left_by host_after) (Only o.after)) machine within)
