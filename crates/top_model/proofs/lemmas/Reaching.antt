-- One step more of a whole run: what a stop may leave at its exit settles like a state that is reached by it.
use Rattle.std.proofs.Common.{◌≡◌, ◌∙◌, ◌⊎◌, inl, inr, refl, sym, ap, subst, ℕ, true, Some, None}
use Rattle.std.specs.Prelude.{Result, Ok, Err}
use Rattle.net_model.specs.NetData.{NetData}
use Rattle.checkpoint_cell.specs.Settled.{Standing, restored_to, settled, Alike}
use Rattle.engine_model.specs.Machine.{Asked, asked, apply, commit}
use Rattle.engine_model.specs.Checks.{AsRead}
use Rattle.engine_model.specs.Stations.{Stands, Entry, Near, Within, Only, Before, BeforeAsRead, Settled, Either, at}
use Rattle.engine_model.specs.Exit.{OnWay, Unsettled, Marked}
use Rattle.engine_model.specs.declared.ApplyOpts.{ApplyOpts}
use Rattle.engine_model.specs.declared.Left.TheVariants as side
use Rattle.policy_model.specs.Values.{PolicyData}
use Rattle.top_model.specs.Said.{Said}
use Rattle.top_model.specs.Orders.{Order, showing, planning, evaluating, planning_policy, applying_policy, simulating, applying, committing, rolling_back, recovering, checking, making, generating}
use Rattle.top_model.specs.Machine.{first_net, apply_policy}
use Rattle.top_model.specs.Told.{Answer}
use Rattle.top_model.specs.Exits.{ApplyLeaves, PolicyOnWay, PolicyLeaves, CommitLeaves, BackLeaves, CheckLeaves, MakeLeaves, MaybeMade, AtExit}
use Rattle.top_model.specs.WholeRuns.{ApplyEnds, PolicyMarked, PolicyEnds, CommitEnds, BackEnds, MakeEnds, Ends}
use Rattle.top_model.specs.declared.report.Cause.{Cause}
use Rattle.top_model.specs.declared.report.Cause.TheVariants.{ReadFault, DocRefused, MergeRefused, Pending, NoCheckpoint, Unfinished, Expired, Exists, HostFault, InDoubt, Damaged, HardwareDiffers, OutOfMemory}
use Rattle.top_model.proofs.lemmas.Firm.{IsBacked, Firm, after_of, same_after, same_apply, same_policy, firm_settled, firm_restored, firm_commit, firm_rollback, firm_recover, firm_or_back, unsettled_or_stays}
use Rattle.top_model.proofs.lemmas.Deriving.{policy_or_back}

-- a firm state of these settles like it
pub record Led (stations : Stands) (p : Standing) : Type 0 where
  pub station : Standing
  pub is : stations station
  pub like : Alike station p
  pub firm : Firm station

-- what one step leads to, from the states so far
abbrev pub NextBy : Stands → (Standing → Stands) → Stands
NextBy reached ends x = (e : Standing) × reached e × ends e x

some_none : {A : Type 0} (x : A) → None ≡ Some x → ⊥
some_none x e = cc

module _ (now : ℕ) (entry : Entry) (reached : Stands) (begins : (x : Standing) → entry.left x → Led reached x) (here : Led reached entry.reads) (firm : Firm entry.reads) where
  -- what could be left before
  kept : (ends : Standing → Stands) → ((e : Standing) → ends e e) → (p : Standing) → Near (Before entry) p → Led (NextBy reached ends) p
  kept ends same p near =
      let l = begins near.station near.is in
      record { station = l.station; is = (l.station, l.is, same l.station); like = λ m. l.like m ∙ near.like m; firm = l.firm }

  as_read : (ends : Standing → Stands) → ((e : Standing) → ends e e) → (p : Standing) → Near (BeforeAsRead entry) p → Led (NextBy reached ends) p
  as_read ends same p near = kept ends same p (record { station = near.station; is = near.is.0; like = near.like })

  -- what a recovery makes of what was read
  settled_led : (ends : Standing → Stands) → ((e x : Standing) → settled now e ≡ Some x → ends e x) → (p : Standing) → Near (Settled now entry) p → Led (NextBy reached ends) p
  settled_led ends allows p near = record {
    station = near.station;
    is = (here.station, here.is, allows here.station near.station (here.like now ∙ near.is));
    like = near.like;
    firm = firm_settled now entry.reads near.station firm near.is;
  }

  -- what the machine makes of it
  after_led : (order : Result Order Cause) (ends : Standing → Stands) → ((e : Standing) → ends e (after_of now order e)) → Firm (after_of now order here.station) → (p : Standing)
      → Near (Only (after_of now order entry.reads)) p → Led (NextBy reached ends) p
  after_led order ends allows leads p near = record {
    station = after_of now order here.station;
    is = (here.station, here.is, allows here.station);
    like = λ m. same_after now entry.reads here.station firm here.firm here.like order m ∙ ap (settled m) (sym near.is) ∙ near.like m;
    firm = leads;
  }

  either : (A B : Stands) (goal : Type 0) (p : Standing) → (Near A p → goal) → (Near B p → goal) → Near (Either A B) p → goal
  either A B goal p one other near = elim (near.is) as (λ v. goal) [
    | inl is ↦ one (record { station = near.station; is = is; like = near.like })
    | inr is ↦ other (record { station = near.station; is = is; like = near.like })
  ]

  -- ---- a commit

  led_commit : (left : Stands) (answer : Answer) → CommitLeaves now entry left answer → (p : Standing) → left p → Led (NextBy reached (λ e. CommitEnds now e answer)) p
  led_commit left (Ok said) x p l = after_led (Ok committing) (λ e. CommitEnds now e (Ok said)) (λ e. refl) (firm_commit now here.station here.firm) p (x p l)
  led_commit left (Err NoCheckpoint) x p l = as_read (λ e. CommitEnds now e (Err NoCheckpoint)) (λ e. refl) p (x p l)
  led_commit left (Err (Unfinished since deadline)) x p l = as_read (λ e. CommitEnds now e (Err (Unfinished since deadline))) (λ e. refl) p (x p l)
  led_commit left (Err (Expired since deadline)) x p l = as_read (λ e. CommitEnds now e (Err (Expired since deadline))) (λ e. refl) p (x p l)
  led_commit left (Err (HostFault side.NotBegun)) x p l = kept (λ e. CommitEnds now e (Err (HostFault side.NotBegun))) (λ e. refl) p (x p l)
  led_commit left (Err InDoubt) x p l =
      let ends : Standing → Stands = λ e. CommitEnds now e (Err InDoubt) in
      either (BeforeAsRead entry) (Only (commit now entry.reads).after) (Led (NextBy reached ends) p) p (as_read ends (λ e. inl refl) p)
      (after_led (Ok committing) ends (λ e. inr refl) (firm_commit now here.station here.firm) p) (x p l)
  led_commit left (Err OutOfMemory) x p l = kept (λ e. CommitEnds now e (Err OutOfMemory)) (λ e. refl) p (x p l)
  led_commit left answer x p l = absurd x

  -- ---- a rollback or a recovery

  module _ (order : Result Order Cause) (left : Stands) (leads : Firm (after_of now order here.station)) where
    abbrev To : Answer → Standing → Stands
    To answer e = BackEnds (after_of now order e) e answer

    led_either : (answer : Answer) → ((e : Standing) → To answer e e) → ((e : Standing) → To answer e (after_of now order e)) → (p : Standing)
        → Near (Either (Before entry) (Only (after_of now order entry.reads))) p → Led (NextBy reached (To answer)) p
    led_either answer stays goes p near =
        either (Before entry) (Only (after_of now order entry.reads)) (Led (NextBy reached (To answer)) p) p (kept (To answer) stays p) (after_led order (To answer) goes leads p) near

    led_back : (answer : Answer) → BackLeaves (after_of now order entry.reads) entry left answer → (p : Standing) → left p → Led (NextBy reached (To answer)) p
    led_back (Ok said) x p l = after_led order (To (Ok said)) (λ e. refl) leads p (x p l)
    led_back (Err NoCheckpoint) x p l = as_read (To (Err NoCheckpoint)) (λ e. refl) p (x p l)
    led_back (Err (HostFault side.NotBegun)) x p l = kept (To (Err (HostFault side.NotBegun))) (λ e. refl) p (x p l)
    led_back (Err (HostFault side.Pending)) x p l = led_either (Err (HostFault side.Pending)) (λ e. inl refl) (λ e. inr refl) p (x p l)
    led_back (Err OutOfMemory) x p l = led_either (Err OutOfMemory) (λ e. inl refl) (λ e. inr refl) p (x p l)
    led_back answer x p l = absurd x

  -- ---- the making of a first network, where there is one

  never_made : (first : NetData) (s : Standing) → MaybeMade first entry s → ⊥
  never_made first s made = some_none firm.net (sym made.0 ∙ firm.is_net)

  led_unmade : (first : NetData) (answer : Answer) → ((e : Standing) → MakeEnds first e answer e) → (p : Standing) → Near (Either (Before entry) (MaybeMade first entry)) p
      → Led (NextBy reached (λ e. MakeEnds first e answer)) p
  led_unmade first answer stays p near =
      let ends : Standing → Stands = λ e. MakeEnds first e answer in
      either (Before entry) (MaybeMade first entry) (Led (NextBy reached ends) p) p (kept ends stays p) (λ made. absurd (never_made first made.station made.is)) near

  led_make : (first : NetData) (left : Stands) (answer : Answer) → MakeLeaves first entry left answer → (p : Standing) → left p → Led (NextBy reached (λ e. MakeEnds first e answer)) p
  led_make first left (Ok said) x p l = let near = x p l in
      record { station = restored_to first; is = (here.station, here.is, refl); like = λ m. ap (settled m) (sym near.is) ∙ near.like m; firm = firm_restored first }
  led_make first left (Err Exists) x p l = kept (λ e. MakeEnds first e (Err Exists)) (λ e. refl) p (x p l)
  led_make first left (Err (HostFault side.NotBegun)) x p l = led_unmade first (Err (HostFault side.NotBegun)) (λ e. refl) p (x p l)
  led_make first left (Err OutOfMemory) x p l = led_unmade first (Err OutOfMemory) (λ e. refl) p (x p l)
  led_make first left (Err ReadFault) x p l = kept (λ e. MakeEnds first e (Err ReadFault)) (λ e. refl) p (x p l)
  led_make first left answer x p l = absurd x

-- ---- an apply

module _ (a : Asked) (entry : Entry) (reached : Stands) (begins : (x : Standing) → entry.left x → Led reached x) (here : Led reached entry.reads) (firm : Firm entry.reads)
    (left : Stands) (rose twice : Type 0) (backed : (p : Standing) → left p → IsBacked p) where
  same : (apply a here.station).after ≡ (apply a entry.reads).after
  same = same_apply a.now entry.reads here.station firm here.firm here.like a

  -- the changed state
  changed_led : (ends : Standing → Stands) → ((e x : Standing) → settled a.now e ≡ Some x → ends e x) → ((x : Standing) → x ≡ (apply a entry.reads).after → ends here.station x)
      → (p : Standing) → left p → Near (Only (apply a entry.reads).after) p → Led (NextBy reached ends) p
  changed_led ends settles changes p l near = elim (firm_or_back a entry.reads near.station p near.like (backed p l) firm near.is) as (λ v. Led (NextBy reached ends) p) [
    | inl leads ↦ record { station = near.station; is = (here.station, here.is, changes near.station near.is); like = near.like; firm = leads }
    | inr back ↦ record { station = restored_to back.0; is = (here.station, here.is, settles here.station (restored_to back.0) (here.like a.now ∙ back.1)); like = back.2; firm = firm_restored back.0 }
  ]

  -- where it was taken back
  way_led : (stays : Standing → Stands) → ((e : Standing) → Firm e → stays e e ⊎ (settled a.now e ≡ Some e)) → (begun : Type 0) → OnWay a entry left rose begun → (p : Standing) → left p
      → Led (NextBy reached (λ e. Either (stays e) (Either (Settled a.now (at e)) (Marked a (at e) rose)))) p
  way_led stays stayed begun x p l =
      let ends : Standing → Stands = λ e. Either (stays e) (Either (Settled a.now (at e)) (Marked a (at e) rose)) in
      let goal : Type 0 = Led (NextBy reached ends) p in
      let settles : Near (Settled a.now entry) p → goal = settled_led a.now entry reached begins here firm ends (λ e y is. inr (inl is)) p in
      let before : Near (Before entry) p → goal = λ near.
      let b = begins near.station near.is in
      let stands : ends b.station b.station = elim (stayed b.station b.firm) as (λ v. ends b.station b.station) [ inl s ↦ inl s | inr s ↦ inr (inl s) ] in
      record { station = b.station; is = (b.station, b.is, stands); like = λ m. b.like m ∙ near.like m; firm = b.firm }
      in
      let marked : Near (Marked a entry rose) p → goal = λ near.
      changed_led ends (λ e y is. inr (inl is)) (λ y is. inr (inr (near.is.0, near.is.1, is ∙ sym same))) p l (record { station = near.station; is = near.is.2; like = near.like })
      in
      elim x as (λ v. goal) [
        | inl unsettled ↦ either a.now entry reached begins here firm (Before entry) (Settled a.now entry) goal p before settles (unsettled.1 p l)
        | inr going ↦ either a.now entry reached begins here firm (Settled a.now entry) (Marked a entry rose) goal p settles marked (going.1 p l)
      ]

  kept_apply : (answer : Answer) → ((e : Standing) → ApplyEnds a e rose answer e) → (p : Standing) → Near (Before entry) p → Led (NextBy reached (λ e. ApplyEnds a e rose answer)) p
  kept_apply answer stays p near = kept a.now entry reached begins here firm (λ e. ApplyEnds a e rose answer) stays p near

  settled_apply : (answer : Answer) → ((e x : Standing) → settled a.now e ≡ Some x → ApplyEnds a e rose answer x) → (p : Standing) → Near (Settled a.now entry) p
      → Led (NextBy reached (λ e. ApplyEnds a e rose answer)) p
  settled_apply answer settles p near = settled_led a.now entry reached begins here firm (λ e. ApplyEnds a e rose answer) settles p near

  pub led_apply : (answer : Answer) → ((said : Said) → answer ≡ Ok said → Firm (apply a entry.reads).after) → ApplyLeaves a entry left rose twice answer → (p : Standing) → left p
      → Led (NextBy reached (λ e. ApplyEnds a e rose answer)) p
  led_apply (Ok said) done x p l = let near = x p l in record {
    station = (apply a here.station).after;
    is = (here.station, here.is, refl);
    like = λ m. ap (settled m) (same ∙ sym near.is) ∙ near.like m;
    firm = subst Firm (sym same) (done said refl);
  }
  led_apply (Err (Pending d)) done x p l = settled_apply (Err (Pending d)) (λ e y is. is) p (x p l)
  led_apply (Err (MergeRefused refused)) done x p l = settled_apply (Err (MergeRefused refused)) (λ e y is. is) p (x p l)
  led_apply (Err (Damaged area)) done x p l = kept_apply (Err (Damaged area)) (λ e. refl) p (x p l)
  led_apply (Err (HostFault side.NotBegun)) done x p l = kept_apply (Err (HostFault side.NotBegun)) (λ e. refl) p (x p l)
  led_apply (Err (HostFault side.RolledBack)) done x p l = settled_apply (Err (HostFault side.RolledBack)) (λ e y is. is) p (x p l)
  led_apply (Err (HostFault side.Pending)) done x p l =
      way_led (λ e s. Unsettled a.now (at e) × (s ≡ e)) (λ e f. elim (unsettled_or_stays a.now e f.backed) as (λ v. (Unsettled a.now (at e) × (e ≡ e)) ⊎ (settled a.now e ≡ Some e)) [ inl u ↦ inl (u, refl) | inr s ↦ inr s ])
      twice x p l
  led_apply (Err OutOfMemory) done x p l = elim x as (λ v. Led (NextBy reached (λ e. ApplyEnds a e rose (Err OutOfMemory))) p) [
    | inl before ↦ kept_apply (Err OutOfMemory) (λ e. inl refl) p (before p l)
    | inr way ↦ way_led Only (λ e f. inl refl) (Unit {0}) way p l
  ]
  led_apply (Err ReadFault) done x p l = kept_apply (Err ReadFault) (λ e. refl) p (x p l)
  led_apply (Err InDoubt) done x p l =
      let ends : Standing → Stands = λ e. ApplyEnds a e rose (Err InDoubt) in
      either a.now entry reached begins here firm (Settled a.now entry) (Only (apply a entry.reads).after) (Led (NextBy reached ends) p) p
      (settled_apply (Err InDoubt) (λ e y is. inl is) p) (changed_led ends (λ e y is. inl is) (λ y is. inr (is ∙ sym same)) p l) (x.near p l)
  led_apply answer done x p l = absurd x

-- ---- an apply of a policy

module _ (p : PolicyData) (opts : ApplyOpts) (now : ℕ) (entry : Entry) (reached : Stands) (begins : (x : Standing) → entry.left x → Led reached x) (here : Led reached entry.reads) (firm : Firm entry.reads)
    (left : Stands) (rose twice : Type 0) (backed : (s : Standing) → left s → IsBacked s) where
  abbrev After : Standing → Standing
  After e = (apply_policy p opts now e).after

  abbrev PolicyTo : Answer → Standing → Stands
  PolicyTo answer e = PolicyEnds opts now (After e) e rose answer

  same_change : After here.station ≡ After entry.reads
  same_change = same_policy now entry.reads here.station firm here.firm here.like p opts

  -- the changed state
  change_led : (ends : Standing → Stands) → ((e x : Standing) → settled now e ≡ Some x → ends e x) → ((x : Standing) → x ≡ After entry.reads → ends here.station x)
      → (s : Standing) → left s → Near (Only (After entry.reads)) s → Led (NextBy reached ends) s
  change_led ends settles changes s l near = elim (policy_or_back p opts now entry.reads near.station firm near.is s near.like (backed s l)) as (λ v. Led (NextBy reached ends) s) [
    | inl leads ↦ record { station = near.station; is = (here.station, here.is, changes near.station near.is); like = near.like; firm = leads }
    | inr back ↦ record { station = restored_to back.0; is = (here.station, here.is, settles here.station (restored_to back.0) (here.like now ∙ back.1)); like = back.2; firm = firm_restored back.0 }
  ]

  -- where it was taken back
  back_led : (stays : Standing → Stands) → ((e : Standing) → Firm e → stays e e ⊎ (settled now e ≡ Some e)) → (begun : Type 0) → PolicyOnWay opts now (After entry.reads) entry left rose begun
      → (s : Standing) → left s → Led (NextBy reached (λ e. Either (stays e) (Either (Settled now (at e)) (PolicyMarked opts (After e) rose)))) s
  back_led stays stayed begun x s l =
      let ends : Standing → Stands = λ e. Either (stays e) (Either (Settled now (at e)) (PolicyMarked opts (After e) rose)) in
      let goal : Type 0 = Led (NextBy reached ends) s in
      let settles : Near (Settled now entry) s → goal = settled_led now entry reached begins here firm ends (λ e y is. inr (inl is)) s in
      let before : Near (Before entry) s → goal = λ near.
      let b = begins near.station near.is in
      let stands : ends b.station b.station = elim (stayed b.station b.firm) as (λ v. ends b.station b.station) [ inl still ↦ inl still | inr to ↦ inr (inl to) ] in
      record { station = b.station; is = (b.station, b.is, stands); like = λ m. b.like m ∙ near.like m; firm = b.firm }
      in
      let waits : Stands = λ stands. (opts.no_commit ≡ true) × rose × (stands ≡ After entry.reads) in
      let marked : Near waits s → goal = λ near.
      change_led ends (λ e y is. inr (inl is)) (λ y is. inr (inr (near.is.0, near.is.1, is ∙ sym same_change))) s l (record { station = near.station; is = near.is.2; like = near.like })
      in
      elim x as (λ v. goal) [
        | inl unsettled ↦ either now entry reached begins here firm (Before entry) (Settled now entry) goal s before settles (unsettled.1 s l)
        | inr going ↦ either now entry reached begins here firm (Settled now entry) waits goal s settles marked (going.1 s l)
      ]

  kept_policy : (answer : Answer) → ((e : Standing) → PolicyTo answer e e) → (s : Standing) → Near (Before entry) s → Led (NextBy reached (PolicyTo answer)) s
  kept_policy answer stays s near = kept now entry reached begins here firm (PolicyTo answer) stays s near

  settled_policy : (answer : Answer) → ((e x : Standing) → settled now e ≡ Some x → PolicyTo answer e x) → (s : Standing) → Near (Settled now entry) s → Led (NextBy reached (PolicyTo answer)) s
  settled_policy answer settles s near = settled_led now entry reached begins here firm (PolicyTo answer) settles s near

  pub led_policy : (answer : Answer) → ((said : Said) → answer ≡ Ok said → Firm (After entry.reads)) → PolicyLeaves opts now (After entry.reads) entry left rose twice answer → (s : Standing) → left s
      → Led (NextBy reached (PolicyTo answer)) s
  led_policy (Ok said) done x s l = let near = x s l in record {
    station = After here.station;
    is = (here.station, here.is, refl);
    like = λ m. ap (settled m) (same_change ∙ sym near.is) ∙ near.like m;
    firm = subst Firm (sym same_change) (done said refl);
  }
  led_policy (Err (Pending d)) done x s l = settled_policy (Err (Pending d)) (λ e y is. is) s (x s l)
  led_policy (Err (DocRefused fault)) done x s l = settled_policy (Err (DocRefused fault)) (λ e y is. is) s (x s l)
  led_policy (Err (MergeRefused refused)) done x s l = settled_policy (Err (MergeRefused refused)) (λ e y is. is) s (x s l)
  led_policy (Err (Damaged area)) done x s l = kept_policy (Err (Damaged area)) (λ e. refl) s (x s l)
  led_policy (Err (HostFault side.NotBegun)) done x s l = kept_policy (Err (HostFault side.NotBegun)) (λ e. refl) s (x s l)
  led_policy (Err (HostFault side.RolledBack)) done x s l = settled_policy (Err (HostFault side.RolledBack)) (λ e y is. is) s (x s l)
  led_policy (Err (HostFault side.Pending)) done x s l =
      back_led (λ e y. Unsettled now (at e) × (y ≡ e)) (λ e f. elim (unsettled_or_stays now e f.backed) as (λ v. (Unsettled now (at e) × (e ≡ e)) ⊎ (settled now e ≡ Some e)) [ inl u ↦ inl (u, refl) | inr to ↦ inr to ])
      twice x s l
  led_policy (Err OutOfMemory) done x s l = elim x as (λ v. Led (NextBy reached (PolicyTo (Err OutOfMemory))) s) [
    | inl before ↦ kept_policy (Err OutOfMemory) (λ e. inl refl) s (before s l)
    | inr way ↦ back_led Only (λ e f. inl refl) (Unit {0}) way s l
  ]
  led_policy (Err ReadFault) done x s l = kept_policy (Err ReadFault) (λ e. refl) s (x s l)
  led_policy (Err InDoubt) done x s l =
      either now entry reached begins here firm (Settled now entry) (Only (After entry.reads)) (Led (NextBy reached (PolicyTo (Err InDoubt))) s) s
      (settled_policy (Err InDoubt) (λ e y is. inl is) s) (change_led (PolicyTo (Err InDoubt)) (λ e y is. inl is) (λ y is. inr (is ∙ sym same_change)) s l) (x.near s l)
  led_policy answer done x s l = absurd x

-- ---- each order

module _ (now : ℕ) (entry : Entry) (reached : Stands) (begins : (x : Standing) → entry.left x → Led reached x) (here : Led reached entry.reads) (firm : Firm entry.reads)
    (left : Stands) (rose twice : Type 0) (backed : (p : Standing) → left p → IsBacked p) (answer : Answer) where
  only_kept : (order : Result Order Cause) → ((e : Standing) → Ends now e rose order answer e) → Within left (Before entry) → (p : Standing) → left p → Led (NextBy reached (λ e. Ends now e rose order answer)) p
  only_kept order stays x p l = kept now entry reached begins here firm (λ e. Ends now e rose order answer) stays p (x p l)

  within_read : Within left (AsRead entry) → Within left (Before entry)
  within_read x p l = let near = x p l in record { station = near.station; is = near.is.0; like = near.like }

  -- a check leaves what stood
  check_within : (said : Answer) → CheckLeaves entry left said → Within left (Before entry)
  check_within (Ok said) x = within_read x
  check_within (Err (HostFault side.NotBegun)) x = x
  check_within (Err OutOfMemory) x = x
  check_within (Err (Damaged area)) x = within_read x
  check_within (Err (HardwareDiffers names)) x = within_read x
  check_within said x = absurd x

  pub led_exit : (order : Result Order Cause) → ((said : Said) → answer ≡ Ok said → Firm (after_of now order entry.reads)) → AtExit now entry left rose twice order answer → (p : Standing) → left p
      → Led (NextBy reached (λ e. Ends now e rose order answer)) p
  led_exit (Ok (applying doc opts)) done x p l = led_apply (asked doc opts now) entry reached begins here firm left rose twice backed answer done x p l
  led_exit (Ok (applying_policy policy opts)) done x p l = led_policy policy opts now entry reached begins here firm left rose twice backed answer done x p l
  led_exit (Ok (evaluating policy)) done x p l = only_kept (Ok (evaluating policy)) (λ e. refl) x p l
  led_exit (Ok (planning_policy policy in_batch)) done x p l = only_kept (Ok (planning_policy policy in_batch)) (λ e. refl) x p l
  led_exit (Ok committing) done x p l = led_commit now entry reached begins here firm left answer x p l
  led_exit (Ok rolling_back) done x p l = led_back now entry reached begins here firm (Ok rolling_back) left (firm_rollback here.station here.firm) answer x p l
  led_exit (Ok recovering) done x p l = led_back now entry reached begins here firm (Ok recovering) left (firm_recover now here.station here.firm) answer x p l
  led_exit (Ok (making links)) done x p l = led_make now entry reached begins here firm (first_net links) left answer x p l
  led_exit (Ok checking) done x p l = only_kept (Ok checking) (λ e. refl) (check_within answer x) p l
  led_exit (Ok (showing only json)) done x p l = only_kept (Ok (showing only json)) (λ e. refl) x p l
  led_exit (Ok (planning doc in_batch)) done x p l = only_kept (Ok (planning doc in_batch)) (λ e. refl) x p l
  led_exit (Ok (simulating calls)) done x p l = only_kept (Ok (simulating calls)) (λ e. refl) x p l
  led_exit (Ok (generating devices first second)) done x p l = only_kept (Ok (generating devices first second)) (λ e. refl) x p l
  led_exit (Err refusal) done x p l = only_kept (Err refusal) (λ e. refl) x p l
