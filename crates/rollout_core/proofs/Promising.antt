-- What holds of a node keeps the promises to its user.
use Rattle.std.proofs.Common.{◌≡◌, ◌≢◌, ◌⊎◌, inl, inr, ◌∙◌, ℕ, Bool, true, false, refl, ap, sym, subst, Option, Some, None}
use Rattle.std.specs.Prelude.{if◌then◌else◌, leb, ltb}
use Rattle.std.proofs.lemmas.Bool.{le-leb, or_left}
use Rattle.net_model.specs.NetData.{NetData}
use Rattle.document_model.specs.declared.Doc.{Doc}
use Rattle.host_core.specs.HostView.{State, HostView, HasNet, IsLawfulHost}
use Rattle.checkpoint_cell.specs.Cell.{applying, is_due}
use Rattle.checkpoint_cell.specs.Settled.{Standing, standing, settled, restored_to}
use Rattle.engine_model.specs.Machine.{deadline_of, waiting, recover}
use Rattle.engine_model.specs.Undone.{stand}
use Rattle.engine_model.specs.Sound.{Sound}
use Rattle.engine_model.proofs.lemmas.Backs.{settles}
use Rattle.rollout_model.specs.Rollout.{is_held}
use Rattle.rollout_model.specs.declared.node.NodeState.{NodeState}
use Rattle.rollout_model.specs.declared.node.NodeState.TheVariants.{Fresh, Starting, Opened, Probed, Committed, Restored, Doubt}
use Rattle.rollout_core.specs.Did.{change}
use Rattle.rollout_core.specs.Places.{Changes, WaitsSince, Merged, Station, ReadsAs, NodeHolds}
use Rattle.rollout_core.specs.Promises.{Has, IsPast, Promises}
use Rattle.rollout_core.proofs.Near.{settled_alone}

-- a host that reads without a checkpoint has its network in each pair that is left
pub has_read : (tells : Type 0) (told : tells) (host : HostView) → IsLawfulHost tells host → Sound host → (standing host.state).cell ≡ None → HasNet host.state.net host
has_read tells told host lawful sound empty s left =
    let here = lawful.reads told in
    elim sound.one [
      | inl (net, all) ↦ all s left ∙ sym (all host.state here)
      | inr (saved, all) ↦ let is = all host.state here in let e : None ≡ Some (applying is.0 is.1 saved) = sym empty ∙ is.2 in absurd (cc)
    ]

module _ (tells : Type 0) (told : tells) (doc : Doc) (timeout : ℕ) (begun : Option ℕ) (good : Bool) (state : NodeState) (first now : HostView) (lawful : IsLawfulHost tells now)
    (holds : NodeHolds doc timeout begun good state first now) where
  abbrev stood : Standing
  stood = standing first.state

  merged_empty : (a : Standing) → Merged doc timeout stood a → a.cell ≡ None
  merged_empty a merged = ap (λ (s : Standing). s.cell) merged.3

  -- no checkpoint stands where the node isn't held
  free : (s : NodeState) → is_held s ≡ false → ReadsAs doc timeout stood begun good s (standing now.state) → (standing now.state).cell ≡ None
  free Fresh not_so reads = ap (λ (a : Standing). a.cell) reads ∙ holds.empty
  free Starting not_so reads = let e : true ≡ false = not_so in absurd (cc)
  free Opened not_so reads = let e : true ≡ false = not_so in absurd (cc)
  free Probed not_so reads = let e : true ≡ false = not_so in absurd (cc)
  free Committed not_so reads = merged_empty (standing now.state) reads.1
  free Restored not_so reads = ap (λ (a : Standing). a.cell) reads ∙ holds.empty
  free Doubt not_so reads = let e : true ≡ false = not_so in absurd (cc)

  held_by : (b : Bool) → is_held state ≡ b → (standing now.state).cell ≢ None → is_held state ≡ true
  held_by true is set = is
  held_by false is set = absurd (set (free state is holds.reads))

  committed_has : state ≡ Committed → (from : NetData) × (to : NetData) × Changes doc stood from to × Has (Some to) now
  committed_has is =
      let reads = subst (λ (s : NodeState). ReadsAs doc timeout stood begun good s (standing now.state)) is holds.reads in
      let m = reads.1 in
      let net : now.state.net ≡ Some m.1 = ap (λ (a : Standing). a.net) m.3 in
      let all = has_read tells told now lawful holds.sound (merged_empty (standing now.state) m) in
      (m.0, m.1, m.2, record { reads = net; left = λ s left. all s left ∙ net })

  stood_has : standing now.state ≡ stood → Has first.state.net now
  stood_has is =
      let net : now.state.net ≡ first.state.net = ap (λ (a : Standing). a.net) is in
      let all = has_read tells told now lawful holds.sound (ap (λ (a : Standing). a.cell) is ∙ holds.empty) in
      record { reads = net; left = λ s left. all s left ∙ net }

  restored_has : (state ≡ Restored) ⊎ (state ≡ Fresh) → Has first.state.net now
  restored_has is = elim is [
    | inl restored ↦ stood_has (subst (λ (s : NodeState). ReadsAs doc timeout stood begun good s (standing now.state)) restored holds.reads)
    | inr fresh ↦ stood_has (subst (λ (s : NodeState). ReadsAs doc timeout stood begun good s (standing now.state)) fresh holds.reads)
  ]

  -- ---- recoveries

  abbrev Whole : Standing → Type 0
  Whole a = (a ≡ stood) ⊎ Merged doc timeout stood a

  -- what stands at a station goes back, or is whole
  waits_back : (since : Option ℕ) (m : ℕ) → IsPast doc timeout since m → (a : Standing) → WaitsSince doc timeout stood since a → settled m a ≡ Some stood
  waits_back None m past a waits = absurd waits
  waits_back (Some at) m past a waits =
      let due : is_due at (deadline_of (change doc timeout at)) m ≡ true = or_left (leb (deadline_of (change doc timeout at)) m) (ltb m at) (le-leb (deadline_of (change doc timeout at)) m past) in
      ap (settled m) waits.3
      ∙ ap (λ (b : Bool). Some (if b then restored_to waits.0 else stand waits.1 (Some (waiting (change doc timeout at) waits.0)))) due
      ∙ ap (λ (x : Standing). Some x) (sym waits.2.stands)

  settles_whole : (m : ℕ) → IsPast doc timeout begun m → (a : Standing) → Station doc timeout stood begun good a → (b : Standing) → settled m a ≡ Some b → Whole b
  settles_whole m past a is b settles = elim is [
    | inl here ↦
        let e : Some stood ≡ Some b = sym (ap (settled m) here ∙ settled_alone m stood holds.empty) ∙ settles in
        let same : stood ≡ b = cc in inl (sym same)
    | inr more ↦ elim more [
      | inl waits ↦
          let e : Some stood ≡ Some b = sym (waits_back begun m past a waits) ∙ settles in
          let same : stood ≡ b = cc in inl (sym same)
      | inr merged ↦
          let e : Some a ≡ Some b = sym (settled_alone m a (merged_empty a merged.1)) ∙ settles in
          let same : a ≡ b = cc in inr (subst (λ (x : Standing). Merged doc timeout stood x) same merged.1)
    ]
  ]

  recovers : (s : State) → now.stops.left_since first.stops.moment s → (m : ℕ) → IsPast doc timeout begun m → Whole (recover m (standing s)).after
  recovers s left m past =
      let near = holds.during s left in
      let after : settled m (standing s) ≡ Some (recover m (standing s)).after = settles m s (holds.fits s left) in
      settles_whole m past near.station near.is (recover m (standing s)).after (near.like m ∙ after)

  pub promises : Promises doc timeout begun good state first now
  promises = record {
    held = held_by (is_held state) refl;
    committed = committed_has;
    restored = restored_has;
    left = holds.during;
    recovers = recovers;
  }
