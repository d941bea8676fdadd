-- How calls that keep a host sound follow one another.
use Rattle.std.proofs.Common.{◌≡◌, ◌⊎◌, inl, inr, ℕ, ◌≤◌, List, [], ◌∷◌, length, refl, sym, ap, ◌∙◌, subst, arith, max, Option, Some, None, Bool, true}
use Rattle.std.specs.Prelude.{if◌then◌else◌, option_map}
use Rattle.std.proofs.lemmas.Bool.Decides.{nat_tests}
use Rattle.net_model.specs.Hardware.{hardware}
use Rattle.net_model.specs.NetData.{NetData, IsNet}
use Rattle.host_core.specs.HostView.{State, HostView, SameNet, Untouched}
use Rattle.host_core.specs.Stops.{Stops, Steps, Stays, IsLawful}
use Rattle.host_core.proofs.lemmas.Moments.{follow, weaken}
use Rattle.checkpoint_cell.specs.declared.Phase.{Phase}
use Rattle.checkpoint_cell.specs.declared.Phase.TheVariants.{Applying, Waiting}
use Rattle.checkpoint_cell.specs.Cell.{Checkpoint, cell_of, applying}
use Rattle.checkpoint_cell.specs.Steps.{CellIn, Holds}
use Rattle.checkpoint_cell.specs.Settled.{Standing, standing, Alike, settled, settled_from, taken_back}
use Rattle.engine_model.specs.Undone.{restored, undone, undone_cell, stand}
use Rattle.engine_model.specs.Sound.{Fit, Sound}
use Rattle.engine_model.specs.Stations.{Near, Leads, Kept, Ends, AllNear, RunStep, Any}
use Rattle.checkpoint_cell.specs.Settled.{restored_to}

-- what is equal settles alike
pub alike_is : (a b : Standing) → a ≡ b → Alike a b
alike_is a b same = λ now. ap (settled now) same

-- what settles like a thing near a station is near it
pub near_on : (P : Standing → Type 0) (a b : Standing) → Near P a → Alike a b → Near P b
near_on P a b near like = record { station = near.station; is = near.is; like = λ now. near.like now ∙ like now }

-- near a station of fewer, near one of more
pub near_wider : (P Q : Standing → Type 0) → ((a : Standing) → P a → Q a) → (b : Standing) → Near P b → Near Q b
near_wider P Q wider b near = record { station = near.station; is = wider near.station near.is; like = near.like }

-- where nothing changes, each step leads to what stood
pub stays_leads : (P : Standing → Type 0) (old new : Stops State) → Steps Stays old new → Steps (Leads P) old new
stays_leads P old new steps = weaken Stays (Leads P) old new steps (λ r s left same. record {
  like = inl (alike_is (standing r) (standing s) (ap standing (sym same)));
  fit = λ fit. subst (λ (p : State). Fit p) (sym same) fit;
})

-- two ways over these stations are one
pub leads_on : (P : Standing → Type 0) (old mid new : Stops State) → Steps (Leads P) old mid → Steps (Leads P) mid new → Steps (Leads P) old new
leads_on P old mid new one two = follow (Leads P) (Leads P) (Leads P) old mid new one two (λ r s left a. a)
    (λ q r s begin left a b. record {
      like = elim b.like [
        | inl like ↦ elim a.like [ inl before ↦ inl (λ now. before now ∙ like now) | inr near ↦ inr (near_on P (standing r) (standing s) near like) ]
        | inr near ↦ inr near
      ];
      fit = λ fit. b.fit (a.fit fit);
    })

-- a way over fewer stations is one over more
pub leads_wider : (P Q : Standing → Type 0) → ((a : Standing) → P a → Q a) → (old new : Stops State) → Steps (Leads P) old new → Steps (Leads Q) old new
leads_wider P Q wider old new steps = weaken (Leads P) (Leads Q) old new steps (λ r s left a. record {
  like = elim a.like [ inl like ↦ inl like | inr near ↦ inr (near_wider P Q wider (standing s) near) ];
  fit = a.fit;
})

-- each pair that is left still can be recovered from
pub fits : (P : Standing → Type 0) (old new : HostView) → Sound old → Steps (Leads P) old.stops new.stops → (s : State) → new.stops.may_leave s → Fit s
fits P old new sound steps s left = let from = steps.now s left in from.2.fit (sound.fit from.0 from.1)

-- a host stays sound where nothing changes
pub sound_stays : (old new : HostView) → Sound old → Steps Stays old.stops new.stops → Sound new
sound_stays old new sound steps = record {
  fit = λ s left. let from = steps.now s left in subst (λ (p : State). Fit p) (sym from.2) (sound.fit from.0 from.1);
  one = elim sound.one [
    | inl (net, all) ↦ inl (net, λ s left. let from = steps.now s left in ap (λ (p : State). p.net) from.2 ∙ all from.0 from.1)
    | inr (saved, all) ↦ inr (
      saved,
      λ s left. let from = steps.now s left in
          let is = all from.0 from.1 in (is.0, is.1, ap (λ (p : State). cell_of p.cell) from.2 ∙ is.2),
    )
  ];
}

-- where nothing changes, everything is kept
pub kept_stays : (P : Standing → Type 0) (old new : HostView) → Sound old → Steps Stays old.stops new.stops → Kept P old new
kept_stays P old new sound steps = record { during = stays_leads P old.stops new.stops steps; sound = sound_stays old new sound steps }

-- one call after another keeps what both keep
pub kept_on : (P : Standing → Type 0) (old mid new : HostView) → Kept P old mid → Kept P mid new → Kept P old new
kept_on P old mid new one two = record { during = leads_on P old.stops mid.stops new.stops one.during two.during; sound = two.sound }

-- what is kept over fewer stations is kept over more
pub kept_wider : (P Q : Standing → Type 0) → ((a : Standing) → P a → Q a) → (old new : HostView) → Kept P old new → Kept Q old new
kept_wider P Q wider old new kept = record { during = leads_wider P Q wider old.stops new.stops kept.during; sound = kept.sound }

-- where all settled like one of these, all do
pub near_kept : (P : Standing → Type 0) (old new : HostView) → AllNear P old → Kept P old new → AllNear P new
near_kept P old new near kept s left =
    let from = kept.during.now s left in
    elim from.2.like [ inl like ↦ near_on P (standing from.0) (standing s) (near from.0 from.1) like | inr there ↦ there ]

-- where one station alone stands, all is near the stations
pub near_ends : (P : Standing → Type 0) (stands : Standing) (host : HostView) → P stands → Ends stands host → AllNear P host
near_ends P stands host is ends s left = record { station = stands; is = is; like = alike_is stands (standing s) (sym (ends s left)) }

-- a stop at any moment since the entry
pub at_each_moment : (P : Standing → Type 0) (old new : Stops State) → IsLawful old → Steps (Leads P) old new
    → (s : State) → new.left_since old.moment s → (r : State) × old.may_leave r × Leads P r s
at_each_moment P old new lawful steps s left = elim (steps.since old.moment s (omega arith) left) [
  | inl was ↦ (s, lawful.only_now s was, record { like = inl (alike_is (standing s) (standing s) refl); fit = λ fit. fit })
  | inr from ↦ from
]

-- what stands alone does so where nothing changes
pub ends_stays : (stands : Standing) (old new : HostView) → Ends stands old → Steps Stays old.stops new.stops → Ends stands new
ends_stays stands old new ends steps s left = let from = steps.now s left in ap standing from.2 ∙ ends from.0 from.1

-- after a write to the checkpoint area the network stands with the checkpoint that is held
pub ends_cell : (net : NetData) (before after : Option Checkpoint) (old new : HostView) → Ends (stand net before) old → Steps SameNet old.stops new.stops → Holds after new → Ends (stand net after) new
ends_cell net before after old new ends steps holds s left =
    let from = steps.now s left in
    let is : s.net ≡ Some net = from.2 ∙ ap (λ (p : Standing). p.net) (ends from.0 from.1) in
    λ i. record { net = is i; cell = (ap cell_of (holds.sure s left) ∙ holds.cell) i }

no_bytes : (old new : List ℕ) → length old ≤ length new → new ≡ [] → old ≡ []
no_bytes [] new le none = refl
no_bytes (b ∷ old) [] le none = absurd (omega arith)
no_bytes (b ∷ old) (c ∷ new) le none = let e : c ∷ new ≡ [] = none in absurd (cc)

-- what a write to the checkpoint area may make of a network and a checkpoint
pub record Good (P : Standing → Type 0) (net : NetData) (before after : Option Checkpoint) : Type 0 where
  pub like : Alike (stand net before) (stand net after) ⊎ Near P (stand net after)
  pub whole : (checkpoint : Checkpoint) → after ≡ Some checkpoint → (saved : NetData) × (checkpoint.net ≡ Some saved) × (hardware net.links ≡ hardware saved.links)

-- a write to the checkpoint area, from one network and one checkpoint, keeps a host sound where each checkpoint on the way is good
pub cell_kept : (P : Standing → Type 0) (net : NetData) (before : Option Checkpoint) (allowed : Option Checkpoint → Type 0) (old new : HostView) → Ends (stand net before) old → Sound old
    → Steps (CellIn allowed) old.stops new.stops → ((after : Option Checkpoint) → allowed after → Good P net before after) → Kept P old new
cell_kept P net before allowed old new ends sound steps each = record {
  during = during;
  sound = record {
    fit = fits P old new sound during;
    one = inl (Some net, λ s left. let from = steps.now s left in from.2.net ∙ ap (λ (p : Standing). p.net) (ends from.0 from.1));
  };
}
  where
    during : Steps (Leads P) old.stops new.stops
    during = weaken (CellIn allowed) (Leads P) old.stops new.stops steps (λ r s left step.
        let here : standing r ≡ stand net before = ends r left in
        let net_is : s.net ≡ Some net = step.net ∙ ap (λ (p : Standing). p.net) here in
        let there : standing s ≡ stand net (cell_of s.cell) = λ i. record { net = net_is i; cell = cell_of s.cell } in
        let good = each (cell_of s.cell) step.cell in
        record {
          like = elim good.like [
            | inl like ↦ inl (λ now. ap (settled now) here ∙ like now ∙ ap (settled now) (sym there))
            | inr near ↦ inr (subst (λ (p : Standing). Near P p) (sym there) near)
          ];
          fit = λ fit. record {
            whole = λ checkpoint is. let w = good.whole checkpoint is in record { saved = w.0; net = net; is_saved = w.1; is_net = net_is; devices = w.2 };
            filled = λ n is none. fit.filled net (ap (λ (p : Standing). p.net) here) (no_bytes r.cell s.cell step.no_shorter none);
          };
        })

-- a change that is being made settles to its saved network
pub saved_alike : (made deadline : ℕ) (saved : NetData) (s : Standing) → s.cell ≡ Some (applying made deadline saved) → Alike (restored_to saved) s
saved_alike made deadline saved s is = λ now. ap (λ (c : Option Checkpoint). settled_from now s c) (sym is)

-- kernel calls under a change that is being made
pub run_kept : (P : Standing → Type 0) (made deadline : ℕ) (from saved : NetData) (old new : HostView) → P (restored_to saved) → Ends (stand from (Some (applying made deadline saved))) old → Sound old
    → hardware from.links ≡ hardware saved.links → IsNet from → Steps RunStep old.stops new.stops → Kept P old new
run_kept P made deadline from saved old new station ends sound devices built steps = record {
  during = during;
  sound = record {
    fit = fits P old new sound during;
    one = inr (saved, λ s left. let was = steps.now s left in (made, deadline, cell_is was.0 s was.1 was.2));
  };
}
  where
    cell_is : (r s : State) → old.stops.may_leave r → RunStep r s → cell_of s.cell ≡ Some (applying made deadline saved)
    cell_is r s left step = ap cell_of step.cell ∙ ap (λ (p : Standing). p.cell) (ends r left)

    during : Steps (Leads P) old.stops new.stops
    during = weaken RunStep (Leads P) old.stops new.stops steps (λ r s left step.
        let is = cell_is r s left step in
        let net = step.net from (ap (λ (p : Standing). p.net) (ends r left)) built in
        record {
          like = inr (record { station = restored_to saved; is = station; like = saved_alike made deadline saved (standing s) is });
          fit = λ fit. record {
            whole = λ checkpoint is_set. record {
              saved = saved;
              net = net.0;
              is_saved = let e : Some (applying made deadline saved) ≡ Some checkpoint = sym is ∙ is_set in let same : applying made deadline saved ≡ checkpoint = cc in ap (λ (c : Checkpoint). c.net) (sym same);
              is_net = net.1;
              devices = net.3 ∙ devices;
            };
            filled = λ n is_net none. fit.filled from (ap (λ (p : Standing). p.net) (ends r left)) (sym step.cell ∙ none);
          };
        })

-- the hardware of a pair that can be recovered from
pub same_kind : (net saved : NetData) (checkpoint : Checkpoint) (host : HostView) (s : State) → host.stops.may_leave s → Sound host → Ends (stand net (Some checkpoint)) host → checkpoint.net ≡ Some saved → hardware net.links ≡ hardware saved.links
same_kind net saved checkpoint host s left sound ends is =
    let here = ends s left in
    let w = (sound.fit s left).whole checkpoint (ap (λ (p : Standing). p.cell) here) in
    let e : Some w.net ≡ Some net = sym w.is_net ∙ ap (λ (p : Standing). p.net) here in
    let f : Some w.saved ≡ Some saved = sym w.is_saved ∙ is in
    let one : w.net ≡ net = cc in
    let two : w.saved ≡ saved = cc in
    ap (λ (n : NetData). hardware n.links) (sym one) ∙ w.devices ∙ ap (λ (n : NetData). hardware n.links) two

-- nothing that reads has changed
pub same_state : (tells : Type 0) (old new : HostView) → Untouched tells old new → tells → new.state ≡ old.state
same_state tells old new same told = λ i. record { net = same.kernel.net told i; cell = same.cell told i }

-- from some moment on a recovery restores what is set
pub late_cell : Option Checkpoint → ℕ
late_cell None = 0
late_cell (Some checkpoint) = checkpoint.deadline

due_late : (phase : Phase) (made deadline now : ℕ) → deadline ≤ now → taken_back now phase made deadline ≡ true
due_late Applying made deadline now le = refl
due_late Waiting made deadline now le = grind (arith, nat_tests)

late_net : (now : ℕ) (stands : Standing) (checkpoint : Checkpoint) (net : Option NetData) → taken_back now checkpoint.phase checkpoint.made checkpoint.deadline ≡ true
    → option_map (λ (s : NetData). if taken_back now checkpoint.phase checkpoint.made checkpoint.deadline then restored_to s else stands) net ≡ restored net
late_net now stands checkpoint None is = refl
late_net now stands checkpoint (Some saved) is = ap (λ (b : Bool). Some (if b then restored_to saved else stands)) is

late_settled : (stands : Standing) (cell : Option Checkpoint) (now : ℕ) → late_cell cell ≤ now → settled_from now stands cell ≡ undone_cell stands cell
unfolding late_cell
late_settled stands None now le = refl
late_settled stands (Some checkpoint) now le = late_net now stands checkpoint checkpoint.net (due_late checkpoint.phase checkpoint.made checkpoint.deadline now le)

-- what settles alike is taken back to the same
pub alike_undone : (a b : Standing) → Alike a b → undone a ≡ undone b
alike_undone a b like =
    let now = max (late_cell a.cell) (late_cell b.cell) in
    sym (late_settled a a.cell now (omega arith)) ∙ like now ∙ late_settled b b.cell now (omega arith)

-- where nothing changes twice, nothing changes
pub both : (old mid new : Stops State) → Steps Stays old mid → Steps Stays mid new → Steps Stays old new
both old mid new one two = follow Stays Stays Stays old mid new one two (λ r s left same. same) (λ q r s begin left a b. b ∙ a)

-- any step forgets nothing
pub any_step : (step : State → State → Type 0) (old new : Stops State) → Steps step old new → Steps Any old new
any_step step old new steps = weaken step Any old new steps (λ r s left is. tt)

-- nor do two
pub any_on : (old mid new : Stops State) → Steps Any old mid → Steps Any mid new → Steps Any old new
any_on old mid new one two = follow Any Any Any old mid new one two (λ r s left is. tt) (λ q r s begin left a b. tt)
