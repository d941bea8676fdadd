-- What is taken off and put on, call by call.
use Rattle.std.proofs.Common.{◌≡◌, ℕ, ◌+◌, ◌-◌, ◌<◌, ◌≤◌, Bool, true, List, length, take, drop, get_or, IfSome, Option, Some, None, sym, subst, ◌∙◌, arith}
use Rattle.std.specs.List.{list_any}
use Rattle.net_model.specs.declared.call.Call.{Call}
use Rattle.link_planner.specs.Drafts.{DraftData, IsSafe, Advances, with_some}
use Rattle.link_planner.proofs.lemmas.Advancing.{advances_itself, advances_least, advances_more}
use Rattle.plan_core.specs.Parts.{IsPartOf}
use Rattle.plan_core.specs.Steps.{TakesOff, PutsOn, MayTakeOff, MayPutOn}
use Rattle.plan_core.proofs.Members.{one_more_done, one_before_done, all_done}
use Rattle.plan_core.proofs.PartOf.{part_itself, part_more}

module _ (P : DraftData → Type 0) (d : DraftData) where
  pub off_safe : (call : Option Call) → MayTakeOff P d call → IfSome call (λ c. IsSafe d.start d.target c d.net)
  off_safe None may = tt
  off_safe (Some call) may = may.safe

  pub on_safe : (call : Option Call) → MayPutOn P d call → IfSome call (λ c. IsSafe d.start d.target c d.net)
  on_safe None may = tt
  on_safe (Some call) may = may.safe

  pub no_call_off : P d → TakesOff 0 P d d
  no_call_off done = record { advances = advances_itself d; part = part_itself d.net; done = done }

  pub no_call_on : IsPartOf d.net d.target → P d → PutsOn 0 P d d
  no_call_on within done = record { advances = advances_itself d; part = part_itself d.net; within = within; links = λ e. e; done = done }

  pub taken : (call : Option Call) → MayTakeOff P d call → TakesOff 1 P d (with_some call d)
  taken None may = record { advances = advances_least 0 1 d d (omega arith) (advances_itself d); part = part_itself d.net; done = may }
  taken (Some call) may = may.takes

  pub put : (call : Option Call) → IsPartOf d.net d.target → MayPutOn P d call → PutsOn 1 P d (with_some call d)
  put None within may = record { advances = advances_least 0 1 d d (omega arith) (advances_itself d); part = part_itself d.net; within = within; links = λ e. e; done = may }
  put (Some call) within may = may.puts

-- one after the other
pub off_more : (m n : ℕ) (P Q R : DraftData → Type 0) (a b c : DraftData) → TakesOff m P a b → TakesOff n Q b c → R c → TakesOff (m + n) R a c
off_more m n P Q R a b c first second done = record { advances = advances_more m n a b c first.advances second.advances; part = part_more c.net b.net a.net second.part first.part; done = done }

pub on_more : (m n : ℕ) (P Q R : DraftData → Type 0) (a b c : DraftData) → PutsOn m P a b → PutsOn n Q b c → R c → PutsOn (m + n) R a c
on_more m n P Q R a b c first second done = record { advances = advances_more m n a b c first.advances second.advances; part = part_more a.net b.net c.net first.part second.part; within = second.within; links = λ e. second.links (first.links e); done = done }

-- in other words
pub off_as : (m n : ℕ) (P Q : DraftData → Type 0) (a b : DraftData) → m ≡ n → Q b → TakesOff m P a b → TakesOff n Q a b
off_as m n P Q a b same done first = record { advances = subst (λ k. Advances k a b) same first.advances; part = first.part; done = done }

pub on_as : (m n : ℕ) (P Q : DraftData → Type 0) (a b : DraftData) → m ≡ n → Q b → PutsOn m P a b → PutsOn n Q a b
on_as m n P Q a b same done first = record { advances = subst (λ k. Advances k a b) same first.advances; part = first.part; within = first.within; links = first.links; done = done }

-- a loop over a list: this holds of each of the first items
abbrev pub OfFirst : {X : Type 0} → (X → X → Bool) → (DraftData → X → Type 0) → (DraftData → List X) → ℕ → DraftData → Type 0
OfFirst E F list i d = (y : _) → list_any (E y) (take i (list d)) ≡ true → F d y

-- a loop from the end of a list on: this holds of each item from this place on
abbrev pub OfLast : {X : Type 0} → (X → X → Bool) → (DraftData → X → Type 0) → (DraftData → List X) → ℕ → DraftData → Type 0
OfLast E F list i d = (y : _) → list_any (E y) (drop i (list d)) ≡ true → F d y

module _ {X : Type 0} (E : X → X → Bool) (exact : (x y : X) → E x y ≡ true → x ≡ y) (own : (x : X) → E x x ≡ true) (F : DraftData → X → Type 0) (list : DraftData → List X) (same : (m : ℕ) (a b : DraftData) → Advances m a b → list b ≡ list a) where
  -- the next item
  module _ (first d : DraftData) (i m : ℕ) (x : X) (within : i < length (list first)) (is : x ≡ get_or (list first) i x) (advances : Advances m first d) (next : DraftData) (one : Advances 1 d next) where
    done_more : ((y : X) → F d y → F next y) → F next x → OfFirst E F list i d → OfFirst E F list (i + 1) next
    done_more still here before =
        subst (λ xs. (y : X) → list_any (E y) (take (i + 1) xs) ≡ true → F next y) (sym (same m first d advances) ∙ sym (same 1 d next one))
        (one_more_done E exact own (F d) (F next) (list first) i x x within is still here (subst (λ xs. (y : X) → list_any (E y) (take i xs) ≡ true → F d y) (same m first d advances) before))

  pub next_off : ((a b : DraftData) → Advances 1 a b → IsPartOf b.net a.net → (y : X) → F a y → F b y) → (first d : DraftData) (i : ℕ) (x : X) → i < length (list first) → x ≡ get_or (list first) i x → TakesOff i (OfFirst E F list i) first d
      → (call : Option Call) → MayTakeOff (λ e. F e x) d call → TakesOff (i + 1) (OfFirst E F list (i + 1)) first (with_some call d)
  next_off still first d i x within is before call may =
      let step : TakesOff 1 (λ e. F e x) d (with_some call d) = taken (λ e. F e x) d call may in
      off_more i 1 (OfFirst E F list i) (λ e. F e x) (OfFirst E F list (i + 1)) first d (with_some call d) before step
      (done_more first d i i x within is before.advances (with_some call d) step.advances (still d (with_some call d) step.advances step.part) step.done before.done)

  -- the item before these
  pub before_off : ((a b : DraftData) → Advances 1 a b → IsPartOf b.net a.net → (y : X) → F a y → F b y) → (first d : DraftData) (i : ℕ) (x : X) → i < length (list first) → x ≡ get_or (list first) i x → TakesOff (length (list first) - (i + 1)) (OfLast E F list (i + 1)) first d
      → (call : Option Call) → MayTakeOff (λ e. F e x) d call → TakesOff (length (list first) - i) (OfLast E F list i) first (with_some call d)
  before_off still first d i x within is behind call may =
      let step : TakesOff 1 (λ e. F e x) d (with_some call d) = taken (λ e. F e x) d call may in
      let next = with_some call d in
      let done : OfLast E F list i next =
      subst (λ xs. (y : X) → list_any (E y) (drop i xs) ≡ true → F next y) (sym (same (length (list first) - (i + 1)) first d behind.advances) ∙ sym (same 1 d next step.advances))
      (one_before_done E exact own (F d) (F next) (list first) i x x within is (still d next step.advances step.part) step.done (subst (λ xs. (y : X) → list_any (E y) (drop (i + 1) xs) ≡ true → F d y) (same (length (list first) - (i + 1)) first d behind.advances) behind.done)) in
      off_as ((length (list first) - (i + 1)) + 1) (length (list first) - i) (OfLast E F list i) (OfLast E F list i) first next (omega (arith, within)) done
      (off_more (length (list first) - (i + 1)) 1 (OfLast E F list (i + 1)) (λ e. F e x) (OfLast E F list i) first d next behind step done)

  pub next_on : ((a b : DraftData) → Advances 1 a b → IsPartOf a.net b.net → (y : X) → F a y → F b y) → (first d : DraftData) (i : ℕ) (x : X) → i < length (list first) → x ≡ get_or (list first) i x → PutsOn i (OfFirst E F list i) first d
      → (call : Option Call) → MayPutOn (λ e. F e x) d call → PutsOn (i + 1) (OfFirst E F list (i + 1)) first (with_some call d)
  next_on still first d i x within is before call may =
      let step : PutsOn 1 (λ e. F e x) d (with_some call d) = put (λ e. F e x) d call before.within may in
      on_more i 1 (OfFirst E F list i) (λ e. F e x) (OfFirst E F list (i + 1)) first d (with_some call d) before step
      (done_more first d i i x within is before.advances (with_some call d) step.advances (still d (with_some call d) step.advances step.part) step.done before.done)

  -- all items
  all_of_first : (first d : DraftData) (i m : ℕ) → length (list first) ≤ i → Advances m first d → OfFirst E F list i d → (y : X) → list_any (E y) (list d) ≡ true → F d y
  all_of_first first d i m end advances done =
      subst (λ xs. (y : X) → list_any (E y) xs ≡ true → F d y) (sym (same m first d advances))
      (all_done E exact own (F d) (list first) i end (subst (λ xs. (y : X) → list_any (E y) (take i xs) ≡ true → F d y) (same m first d advances) done))

  pub all_off : (first d : DraftData) (i : ℕ) → length (list first) ≤ i → i ≤ length (list first) → TakesOff i (OfFirst E F list i) first d → TakesOff (length (list first)) (λ e. (y : X) → list_any (E y) (list e) ≡ true → F e y) first d
  all_off first d i end most t = off_as i (length (list first)) (OfFirst E F list i) (λ e. (y : X) → list_any (E y) (list e) ≡ true → F e y) first d (omega (arith, end, most)) (all_of_first first d i i end t.advances t.done) t

  pub all_on : (first d : DraftData) (i : ℕ) → length (list first) ≤ i → i ≤ length (list first) → PutsOn i (OfFirst E F list i) first d → PutsOn (length (list first)) (λ e. (y : X) → list_any (E y) (list e) ≡ true → F e y) first d
  all_on first d i end most t = on_as i (length (list first)) (OfFirst E F list i) (λ e. (y : X) → list_any (E y) (list e) ≡ true → F e y) first d (omega (arith, end, most)) (all_of_first first d i i end t.advances t.done) t
