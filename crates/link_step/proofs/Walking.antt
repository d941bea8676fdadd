-- A walk over what depends on a link.
use Rattle.std.proofs.Common.{◌≡◌, ◌≢◌, ◌⊎◌, inl, inr, ℕ, zero, suc, ◌+◌, ◌<◌, ◌≤◌, Bool, true, false, ◌&&◌, ◌||◌, List, [], ◌∷◌, ◌++◌, length, map, filter, take, get_or, set, replicate, Option, Some, None, refl, sym, ap, subst, ◌∙◌, arith, length-append}
use Rattle.std.specs.List.{list_any}
use Rattle.std.specs.Option.{option_map_or}
use Rattle.std.proofs.lemmas.List.{length-set, length-replicate, get_or_append_left, get_or_at, take_more}
use Rattle.std.proofs.lemmas.List.Folds.{list_any-append}
use Rattle.reach.specs.Reach.{is_marked, unmarked, IsOn, Within}
use Rattle.reach.proofs.lemmas.Least.{any_index}
use Rattle.reach.proofs.lemmas.Marks.{unmarked-set, marked-set, marked-set_same, marked-before}
use Rattle.net_model.specs.Name.{same_bytes}
use Rattle.net_model.specs.Words.{rises, is_among}
use Rattle.net_model.specs.Order.{link_cmp}
use Rattle.net_model.specs.Links.{find_link, is_named, is_port_of, same_name}
use Rattle.net_model.specs.Dependence.{has_base, depends_on, reaches}
use Rattle.net_model.specs.OfName.{over}
use Rattle.net_model.specs.Positions.{IsAt}
use Rattle.net_model.specs.Valid.{names_differ}
use Rattle.net_model.specs.declared.link.Link.{Link}
use Rattle.net_model.proofs.lemmas.Truth.{and_left, and_right}
use Rattle.net_model.proofs.lemmas.Found.{one_name, itself, names_tie, names_differ-rises, found_at}
use Rattle.net_model.proofs.lemmas.Orders.{link_cmp_total}
use Rattle.net_model.proofs.lemmas.Places.{any_at, only_itself}
use Rattle.net_model.proofs.lemmas.Ports.{among_filtered}
use Rattle.net_model.proofs.lemmas.Ranks.{or_elim, stands_reaches, reaches_further, reaches_enough}
use Rattle.link_step.specs.Dependents.{AreLeft, Grows, MarksAll, AreDependents}

-- ---- places on a list

less_or_same : (k i : ℕ) → k < i + 1 → (k < i) ⊎ (k ≡ i)
less_or_same k i h = grind arith

on_more : (places : List ℕ) (p i : ℕ) → IsOn places i → IsOn (places ++ p ∷ []) i
on_more places p i on = (on.0, omega (arith, on.1, length-append places (p ∷ [])), get_or_append_left places (p ∷ []) 0 on.0 on.1 ∙ on.2)

on_end : (places : List ℕ) (p : ℕ) → IsOn (places ++ p ∷ []) p
on_end places p = (length places, omega (arith, length-append places (p ∷ [])), get_or_at places p [] 0 (length places) refl)

on_either : (places : List ℕ) (p i : ℕ) → IsOn (places ++ p ∷ []) i → IsOn places i ⊎ (i ≡ p)
on_either places p i on = elim (less_or_same on.0 (length places) (omega (arith, on.1, length-append places (p ∷ [])))) [
  | inl h ↦ inl (on.0, h, sym (get_or_append_left places (p ∷ []) 0 on.0 h) ∙ on.2)
  | inr e ↦ inr (sym on.2 ∙ get_or_at places p [] 0 on.0 (sym e))
]

each_more : (P : ℕ → Type 0) (places : List ℕ) (p : ℕ) → ((j : ℕ) → j < length places → P (get_or places j 0)) → P p → (j : ℕ) → j < length (places ++ p ∷ []) → P (get_or (places ++ p ∷ []) j 0)
each_more P places p all one j lt = elim (less_or_same j (length places) (omega (arith, lt, length-append places (p ∷ [])))) [
  | inl h ↦ subst P (sym (get_or_append_left places (p ∷ []) 0 j h)) (all j h)
  | inr e ↦ subst P (sym (get_or_at places p [] 0 j (sym e))) one
]

each_fewer : (P : ℕ → Type 0) (places : List ℕ) (p : ℕ) → ((j : ℕ) → j < length (places ++ p ∷ []) → P (get_or (places ++ p ∷ []) j 0)) → (j : ℕ) → j < length places → P (get_or places j 0)
each_fewer P places p all j lt = subst P (get_or_append_left places (p ∷ []) 0 j lt) (all j (omega (arith, lt, length-append places (p ∷ []))))

last_one : (P : ℕ → Type 0) (places : List ℕ) (p : ℕ) → ((j : ℕ) → j < length (places ++ p ∷ []) → P (get_or (places ++ p ∷ []) j 0)) → P p
last_one P places p all = subst P (get_or_at places p [] 0 (length places) refl) (all (length places) (omega (arith, length-append places (p ∷ []))))

-- a place that is left is a link's, and marked
abbrev pub IsLeft : List Link → List Bool → ℕ → Type 0
IsLeft links marks k = (k < length links) × (is_marked marks k ≡ true)

-- ---- links by their places

module _ (links : List Link) (d : Link) (differ : names_differ links ≡ true) where
  -- the link at a place is found by its name
  there : (i : ℕ) → i < length links → find_link (get_or links i d).name links ≡ Some (get_or links i d)
  there i lt = found_at links (get_or links i d).name i d differ lt (itself (get_or links i d).name)

  -- and no other has the name
  pub one_place : (name : List ℕ) (i k : ℕ) → i < length links → k < length links → is_named name (get_or links i d) ≡ true → is_named name (get_or links k d) ≡ true → k ≡ i
  one_place name i k lt below here too =
      only_itself same_name link_cmp link_cmp_total names_tie links differ i k d lt below
      (ap (λ (n : List ℕ). same_bytes (get_or links k d).name n) (one_name (get_or links i d).name name here) ∙ too)

-- ---- marks that grow

module _ (links : List Link) (d : Link) where
  -- none is marked
  pub grows_none : (which : Link → Bool) (marks : List Bool) (left : List ℕ) → Grows links d which marks marks left left
  grows_none which marks left = record {
    long = refl;
    kept = λ j h. h;
    only = λ i lt h. inl h;
    still = λ i on. on;
    fresh = λ i h. inl h;
    waits = λ all. all;
    no_more = omega arith;
  }

  -- one is marked
  pub grows_one : (which : Link → Bool) (marks : List Bool) (left : List ℕ) (at : ℕ) → length marks ≡ length links → at < length links → is_marked marks at ≡ false → which (get_or links at d) ≡ true
      → Grows links d which marks (set marks at true) left (left ++ at ∷ [])
  grows_one which marks left at whole lt off passes =
      let within : at < length marks = omega (arith, whole, lt) in
      record {
        long = length-set marks at true;
        kept = λ j h. marked-set marks at j within h;
        only = λ i below h. elim (marked-before marks at i within h) [
          | inl e ↦ inr (subst (λ (k : ℕ). which (get_or links k d) ≡ true) e passes)
          | inr old ↦ inl old
        ];
        still = λ i on. on_more left at i on;
        fresh = λ i h. elim (marked-before marks at i within h) [
          | inl e ↦ inr (subst (λ (k : ℕ). IsOn (left ++ at ∷ []) k) e (on_end left at))
          | inr old ↦ inl old
        ];
        waits = λ all. each_more (IsLeft links (set marks at true)) left at (λ j low. let was = all j low in (was.0, marked-set marks at (get_or left j 0) within was.1)) (lt, marked-set_same marks at within);
        no_more = omega (arith, unmarked-set marks at within off, length-append left (at ∷ []));
      }

  -- more are marked after others
  pub grows_on : (which more all : Link → Bool) (old mid new : List Bool) (before between after : List ℕ) → ((l : Link) → which l ≡ true → all l ≡ true) → ((l : Link) → more l ≡ true → all l ≡ true)
      → Grows links d which old mid before between → Grows links d more mid new between after → Grows links d all old new before after
  grows_on which more all old mid new before between after first second g h = record {
    long = h.long ∙ g.long;
    kept = λ j on. h.kept j (g.kept j on);
    only = λ i lt on. elim (h.only i lt on) [
      | inl m ↦ elim (g.only i lt m) [ inl o ↦ inl o | inr p ↦ inr (first (get_or links i d) p) ]
      | inr p ↦ inr (second (get_or links i d) p)
    ];
    still = λ i on. h.still i (g.still i on);
    fresh = λ i on. elim (h.fresh i on) [
      | inl m ↦ elim (g.fresh i m) [ inl o ↦ inl o | inr p ↦ inr (h.still i p) ]
      | inr p ↦ inr p
    ];
    waits = λ all_in. h.waits (g.waits all_in);
    no_more = omega (arith, g.no_more, h.no_more);
  }

  -- ---- one name

  -- where no link has the name
  pub marks_missing : (name : List ℕ) (marks : List Bool) (left : List ℕ) → names_differ links ≡ true → find_link name links ≡ None → MarksAll links d (is_named name) marks marks left left
  marks_missing name marks left differ none = record {
    grows = grows_none (is_named name) marks left;
    all = λ i lt h. let e : Some (get_or links i d) ≡ None = sym (found_at links name i d differ lt h) ∙ none in absurd cc;
  }

  -- where its link is marked
  pub marks_old : (name : List ℕ) (marks : List Bool) (left : List ℕ) (at : ℕ) → names_differ links ≡ true → IsAt name links at → is_marked marks at ≡ true → MarksAll links d (is_named name) marks marks left left
  marks_old name marks left at differ is on = record {
    grows = grows_none (is_named name) marks left;
    all = λ i lt h. subst (λ (k : ℕ). is_marked marks k ≡ true) (sym (one_place links d differ name at i is.inside lt (is.named d) h)) on;
  }

  -- where it isn't
  pub marks_new : (name : List ℕ) (marks : List Bool) (left : List ℕ) (at : ℕ) → names_differ links ≡ true → length marks ≡ length links → IsAt name links at → is_marked marks at ≡ false
      → MarksAll links d (is_named name) marks (set marks at true) left (left ++ at ∷ [])
  marks_new name marks left at differ whole is off = record {
    grows = grows_one (is_named name) marks left at whole is.inside off (is.named d);
    all = λ i lt h. subst (λ (k : ℕ). is_marked (set marks at true) k ≡ true) (sym (one_place links d differ name at i is.inside lt (is.named d) h)) (marked-set_same marks at (omega (arith, whole, is.inside)));
  }

  -- ---- several names

  pub marks_no_names : (marks : List Bool) (left : List ℕ) → MarksAll links d (λ l. is_among [] l.name) marks marks left left
  marks_no_names marks left = record {
    grows = grows_none (λ l. is_among [] l.name) marks left;
    all = λ i lt h. absurd cc;
  }

  -- being among the first so many and one more
  among_more : (names : List (List ℕ)) (i : ℕ) (e n : List ℕ) → i < length names → is_among (take (i + 1) names) n ≡ (is_among (take i names) n || (same_bytes (get_or names i e) n || false))
  among_more names i e n lt = ap (λ (ns : List (List ℕ)). is_among ns n) (take_more names i e lt) ∙ list_any-append (λ m. same_bytes m n) (take i names) (get_or names i e ∷ [])

  bare : (b : Bool) → (b || false) ≡ true → b ≡ true
  bare true h = refl
  bare false h = h

  or_l : (a b : Bool) → a ≡ true → (a || b) ≡ true
  or_l a b h = rw h refl

  or_r : (a b : Bool) → b ≡ true → (a || b) ≡ true
  or_r true b h = refl
  or_r false b h = h

  turned : (a b : List ℕ) → same_bytes a b ≡ true → same_bytes b a ≡ true
  turned a b h = ap (λ (n : List ℕ). same_bytes n a) (sym (one_name a b h)) ∙ itself a

  pub marks_next : (names : List (List ℕ)) (i : ℕ) (e : List ℕ) (old mid new : List Bool) (before between after : List ℕ) → i < length names
      → MarksAll links d (λ l. is_among (take i names) l.name) old mid before between → MarksAll links d (is_named (get_or names i e)) mid new between after
      → MarksAll links d (λ l. is_among (take (i + 1) names) l.name) old new before after
  marks_next names i e old mid new before between after lt m next = record {
    grows = grows_on (λ l. is_among (take i names) l.name) (is_named (get_or names i e)) (λ l. is_among (take (i + 1) names) l.name) old mid new before between after
        (λ l h. among_more names i e l.name lt ∙ or_l (is_among (take i names) l.name) (same_bytes (get_or names i e) l.name || false) h)
        (λ l h. among_more names i e l.name lt ∙ or_r (is_among (take i names) l.name) (same_bytes (get_or names i e) l.name || false) (or_l (same_bytes (get_or names i e) l.name) false (turned l.name (get_or names i e) h)))
        m.grows next.grows;
    all = λ k below h.
        or_elim (is_among (take i names) (get_or links k d).name) (same_bytes (get_or names i e) (get_or links k d).name || false) (is_marked new k ≡ true)
        (λ o. next.grows.kept k (m.all k below o))
        (λ o. next.all k below (turned (get_or names i e) (get_or links k d).name (bare (same_bytes (get_or names i e) (get_or links k d).name) o)))
        (sym (among_more names i e (get_or links k d).name lt) ∙ h);
  }

  -- ---- the controller

  pub marks_controller : (l : Link) (controller : List ℕ) (old new : List Bool) (before after : List ℕ) → l.controller ≡ Some controller → MarksAll links d (is_named controller) old new before after
      → MarksAll links d (λ x. is_port_of x.name l) old new before after
  marks_controller l controller old new before after is m = record {
    grows = grows_on (is_named controller) (is_named controller) (λ x. is_port_of x.name l) old new new before after after
        (λ x h. port x ∙ turned x.name controller h) (λ x h. port x ∙ turned x.name controller h) m.grows (grows_none (is_named controller) new after);
    all = λ i lt h. m.all i lt (turned controller (get_or links i d).name (sym (port (get_or links i d)) ∙ h));
  }
    where
      port : (x : Link) → is_port_of x.name l ≡ same_bytes controller x.name
      port x = ap (λ (o : Option (List ℕ)). option_map_or (λ c. same_bytes c x.name) o false) is

  pub marks_no_controller : (l : Link) (marks : List Bool) (left : List ℕ) → l.controller ≡ None → MarksAll links d (λ x. is_port_of x.name l) marks marks left left
  marks_no_controller l marks left is = record {
    grows = grows_none (λ x. is_port_of x.name l) marks left;
    all = λ i lt h. (let e : false ≡ true = sym (ap (λ (o : Option (List ℕ)). option_map_or (λ c. same_bytes c (get_or links i d).name) o false) is) ∙ h in absurd cc);
  }

  -- ---- what depends on a link

  -- being among the names over it is being over it, for a link that is there
  over_it : names_differ links ≡ true → (x : Link) (i : ℕ) → i < length links → is_among (over links x.name) (get_or links i d).name ≡ true → has_base (get_or links i d).kind x.name ≡ true
  over_it differ x i lt h =
      let y = get_or links i d in
      let some : list_any (λ l. is_named y.name l && has_base l.kind x.name) links ≡ true = sym (among_filtered (λ l. has_base l.kind x.name) y.name links) ∙ h in
      let k = any_index (λ l. is_named y.name l && has_base l.kind x.name) links d some in
      let same : k.0 ≡ i = one_place links d differ y.name i k.0 lt k.1 (itself y.name) (and_left (is_named y.name (get_or links k.0 d)) (has_base (get_or links k.0 d).kind x.name) k.2) in
      subst (λ (j : ℕ). has_base (get_or links j d).kind x.name ≡ true) same (and_right (is_named y.name (get_or links k.0 d)) (has_base (get_or links k.0 d).kind x.name) k.2)

  it_over : (x : Link) (i : ℕ) → i < length links → has_base (get_or links i d).kind x.name ≡ true → is_among (over links x.name) (get_or links i d).name ≡ true
  it_over x i lt h =
      let y = get_or links i d in
      among_filtered (λ l. has_base l.kind x.name) y.name links
      ∙ any_at (λ l. is_named y.name l && has_base l.kind x.name) links i d lt (ap (λ b. b && has_base y.kind x.name) (itself y.name) ∙ h)

  -- the controller first, and then the VLANs over it
  pub marks_dependents : names_differ links ≡ true → (x : Link) (old mid new : List Bool) (before between after : List ℕ) → MarksAll links d (λ l. is_port_of l.name x) old mid before between
      → MarksAll links d (λ l. is_among (over links x.name) l.name) mid new between after → MarksAll links d (λ l. depends_on l x) old new before after
  marks_dependents differ x old mid new before between after m next = record {
    grows = record {
      long = next.grows.long ∙ m.grows.long;
      kept = λ j on. next.grows.kept j (m.grows.kept j on);
      only = λ i lt on. elim (next.grows.only i lt on) [
        | inl was ↦ elim (m.grows.only i lt was) [
          | inl o ↦ inl o
          | inr p ↦ inr (or_r (has_base (get_or links i d).kind x.name) (is_port_of (get_or links i d).name x) p)
        ]
        | inr p ↦ inr (or_l (has_base (get_or links i d).kind x.name) (is_port_of (get_or links i d).name x) (over_it differ x i lt p))
      ];
      still = λ i on. next.grows.still i (m.grows.still i on);
      fresh = λ i on. elim (next.grows.fresh i on) [
        | inl was ↦ elim (m.grows.fresh i was) [ inl o ↦ inl o | inr p ↦ inr (next.grows.still i p) ]
        | inr p ↦ inr p
      ];
      waits = λ all_in. next.grows.waits (m.grows.waits all_in);
      no_more = omega (arith, m.grows.no_more, next.grows.no_more);
    };
    all = λ i lt h.
        or_elim (has_base (get_or links i d).kind x.name) (is_port_of (get_or links i d).name x) (is_marked new i ≡ true)
        (λ o. next.all i lt (it_over x i lt o))
        (λ o. next.grows.kept i (m.all i lt o)) h;
  }

-- ---- the walk

-- what is marked is the link at the first place or reaches it, and is left to be followed, or all that depends on it is marked
pub record Climbs (links : List Link) (d : Link) (at : ℕ) (marks : List Bool) (left : List ℕ) : Type 0 where
  pub long : length marks ≡ length links
  pub waits : AreLeft links marks left
  pub first : is_marked marks at ≡ true
  pub only : (i : ℕ) → i < length links → is_marked marks i ≡ true → (i ≡ at) ⊎ (reaches links (length links) (get_or links i d).name (get_or links at d) ≡ true)
  pub done : (i : ℕ) → i < length links → is_marked marks i ≡ true → IsOn left i ⊎ ((k : ℕ) → k < length links → depends_on (get_or links k d) (get_or links i d) ≡ true → is_marked marks k ≡ true)

unmarked_all : (n i : ℕ) → is_marked (replicate n false) i ≡ false
unmarked_all zero i = refl
unmarked_all (suc n) zero = refl
unmarked_all (suc n) (suc i) = unmarked_all n i

module _ (links : List Link) (d : Link) (differ : names_differ links ≡ true) (at : ℕ) (low : at < length links) where
  -- at first the one is marked and left
  pub climbs_first : Climbs links d at (set (replicate (length links) false) at true) (at ∷ [])
  climbs_first =
      let off = replicate (length links) false in
      let size : length off ≡ length links = length-replicate (length links) false in
      let alone : (i : ℕ) → is_marked (set off at true) i ≡ true → at ≡ i =
      λ i h. elim (marked-before off at i (omega (arith, size, low)) h) [
        | inl e ↦ e
        | inr old ↦ absurd (let wrong : false ≡ true = sym (unmarked_all (length links) i) ∙ old in cc)
      ] in
      record {
        long = length-set off at true ∙ size;
        waits = each_more (IsLeft links (set off at true)) [] at (λ j lt. absurd (omega (arith, lt))) (low, marked-set_same off at (omega (arith, size, low)));
        first = marked-set_same off at (omega (arith, size, low));
        only = λ i lt h. inl (sym (alone i h));
        done = λ i lt h. inl (subst (λ (k : ℕ). IsOn (at ∷ []) k) (alone i h) (on_end [] at));
      }

  -- what depends on a marked one reaches the first
  up_from : (marks : List Bool) (left : List ℕ) → Climbs links d at marks left → (place i : ℕ) → place < length links → i < length links → is_marked marks place ≡ true → depends_on (get_or links i d) (get_or links place d) ≡ true
      → reaches links (length links) (get_or links i d).name (get_or links at d) ≡ true
  up_from marks left c place i lt below on step =
      let found = there links d differ i below in
      let base = there links d differ place lt in
      let target = there links d differ at low in
      sym (reaches_enough links (get_or links i d).name (get_or links at d) target)
      ∙ elim (c.only place lt on) [
        | inl e ↦ stands_reaches links (get_or links i d) (get_or links at d) found (subst (λ (k : ℕ). depends_on (get_or links i d) (get_or links k d) ≡ true) e step) (length links)
        | inr more ↦ reaches_further links (get_or links i d) (get_or links place d) found step base differ (length links) (get_or links at d) more
      ]

  -- one that was left is followed
  pub climbs_on : (marks new : List Bool) (left rest after : List ℕ) (place : ℕ) → left ≡ rest ++ place ∷ [] → Climbs links d at marks left
      → MarksAll links d (λ l. depends_on l (get_or links place d)) marks new rest after → Climbs links d at new after
  climbs_on marks new left rest after place is c m =
      let waits : AreLeft links marks (rest ++ place ∷ []) = subst (AreLeft links marks) is c.waits in
      let one : IsLeft links marks place = last_one (IsLeft links marks) rest place waits in
      let lt : place < length links = one.0 in
      let on : is_marked marks place ≡ true = one.1 in
      record {
        long = m.grows.long ∙ c.long;
        waits = m.grows.waits (each_fewer (IsLeft links marks) rest place waits);
        first = m.grows.kept at c.first;
        only = λ i below h. elim (m.grows.only i below h) [
          | inl was ↦ c.only i below was
          | inr step ↦ inr (up_from marks left c place i lt below on step)
        ];
        done = λ i below h. elim (m.grows.fresh i h) [
          | inl was ↦ elim (c.done i below was) [
            | inl left_on ↦ elim (on_either rest place i (subst (λ (l : List ℕ). IsOn l i) is left_on)) [
              | inl rest_on ↦ inl (m.grows.still i rest_on)
              | inr e ↦ inr (λ k under step. m.all k under (subst (λ (j : ℕ). depends_on (get_or links k d) (get_or links j d) ≡ true) e step))
            ]
            | inr all ↦ inr (λ k under step. m.grows.kept k (all k under step))
          ]
          | inr new_on ↦ inl new_on
        ];
      }

  -- where none is left, what is marked is all that depends on the first
  pub climbs_done : (marks : List Bool) (left : List ℕ) → length left ≡ 0 → Climbs links d at marks left → AreDependents links d at marks
  climbs_done marks left none c = record {
    long = c.long;
    first = c.first;
    only = c.only;
    closed = λ i k lt below h step. elim (c.done i lt h) [
      | inl on ↦ absurd (omega (arith, on.1, none))
      | inr all ↦ all k below step
    ];
  }

  -- so another link is marked where it reaches the first
  module _ (marks : List Bool) (a : AreDependents links d at marks) (port : ℕ) (below : port < length links) (other : port ≢ at) where
    back : (n i : ℕ) → i < length links → is_marked marks i ≡ true → reaches links n (get_or links port d).name (get_or links i d) ≡ true → is_marked marks port ≡ true
    back zero i lt on h = absurd cc
    back (suc n) i lt on h =
        let x = get_or links i d in
        let name = (get_or links port d).name in
        let k = any_index (λ y. depends_on y x && (is_named name y || reaches links n name y)) links d h in
        let y = get_or links k.0 d in
        let here : is_marked marks k.0 ≡ true = a.closed i k.0 lt k.1 on (and_left (depends_on y x) (is_named name y || reaches links n name y) k.2) in
        or_elim (is_named name y) (reaches links n name y) (is_marked marks port ≡ true)
        (λ e. subst (λ (j : ℕ). is_marked marks j ≡ true) (one_place links d differ name port k.0 below k.1 (itself name) e) here)
        (back n k.0 k.1 here)
        (and_right (depends_on y x) (is_named name y || reaches links n name y) k.2)

    pub marked_reaches : is_marked marks port ≡ reaches links (length links) (get_or links port d).name (get_or links at d)
    marked_reaches = elim (is_marked marks port) as (λ v. is_marked marks port ≡ v → v ≡ reaches links (length links) (get_or links port d).name (get_or links at d)) [
      | true ↦ λ e. elim (a.only port below e) [
        | inl same ↦ absurd (other same)
        | inr more ↦ sym more
      ]
      | false ↦ λ e. elim (reaches links (length links) (get_or links port d).name (get_or links at d)) as (λ w. reaches links (length links) (get_or links port d).name (get_or links at d) ≡ w → false ≡ w) [
        | true ↦ λ h. sym e ∙ back (length links) at low a.first h
        | false ↦ λ h. refl
      ] refl
    ] refl

-- one that was left is a link's place
pub left_inside : (links : List Link) (d : Link) (at : ℕ) (marks : List Bool) (left rest : List ℕ) (place : ℕ) → left ≡ rest ++ place ∷ [] → Climbs links d at marks left → place < length links
left_inside links d at marks left rest place is c = (last_one (IsLeft links marks) rest place (subst (AreLeft links marks) is c.waits)).0

-- links of two names stand at two places
pub other_place : (links : List Link) (d : Link) (a b : List ℕ) (i k : ℕ) → IsAt a links i → IsAt b links k → same_bytes a b ≡ false → i ≢ k
other_place links d a b i k one two differ = λ e.
    let named : same_bytes (get_or links i d).name b ≡ true = subst (λ (j : ℕ). is_named b (get_or links j d) ≡ true) (sym e) (two.named d) in
    let same : a ≡ b = sym (one_name (get_or links i d).name a (one.named d)) ∙ one_name (get_or links i d).name b named in
    let wrong : false ≡ true = sym differ ∙ ap (λ (n : List ℕ). same_bytes n b) same ∙ itself b in
    absurd cc
