-- Which links may be on a cycle, and that the least of those is the least on one.
use Rattle.std.proofs.Common.{◌≡◌, ◌⊎◌, inl, inr, ℕ, ◌+◌, ◌<◌, ◌≤◌, zero, suc, Bool, true, false, not, ◌&&◌, ◌||◌, cond, nat_le, nat_lt, List, [], ◌∷◌, ◌++◌, map, filter, length, get_or, Ordering, Less, Equal, Greater, Option, Some, None, if◌then◌else◌, refl, sym, ap, subst, ◌∙◌, arith, length-append}
use Rattle.std.specs.List.{list_all}
use Rattle.std.specs.Option.{option_map, option_map_or, option_or, option_and_then}
use Rattle.std.specs.Ordering.{is_lt, is_eq, ordering_reverse}
use Rattle.std.proofs.lemmas.Bool.Decides.{nat_tests}
use Rattle.std.proofs.lemmas.List.{get_or_append_left, get_or_at, length-map}
use Rattle.reach.specs.Reach.{is_marked, is_reached}
use Rattle.reach.specs.Cycle.{target}
use Rattle.reach.proofs.lemmas.Least.{any_index}
use Rattle.net_model.specs.Order.{name_cmp, link_cmp}
use Rattle.net_model.specs.Links.{is_named, same_name}
use Rattle.net_model.specs.Dependence.{depends_on, on_cycle}
use Rattle.net_model.specs.Valid.{names_differ}
use Rattle.net_model.specs.declared.Link.{Link}
use Rattle.net_model.proofs.lemmas.Truth.{and_left, and_right}
use Rattle.net_model.proofs.lemmas.Orders.{link_cmp_total}
use Rattle.net_model.proofs.lemmas.Found.{names_tie, one_name}
use Rattle.net_model.proofs.lemmas.Places.{only_itself}
use Rattle.net_model.proofs.lemmas.Ranks.{or_elim}
use Rattle.merge_model.specs.Places.{lesser, least_name}
use Rattle.link_rules.specs.Rows.{row_below}
use Rattle.link_rules.specs.Candidates.{each_arrow, IsOff, Excludes, IsLeastOf}
use Rattle.link_rules.proofs.Below.{below-Represents}

-- ---- by numbers

all_at : (p : ℕ → Bool) (xs : List ℕ) (k : ℕ) → list_all p xs ≡ true → k < length xs → p (get_or xs k 0) ≡ true
all_at p [] k h lt = absurd (omega (arith, lt))
all_at p (x ∷ xs) zero h lt = and_left (p x) (list_all p xs) h
all_at p (x ∷ xs) (suc k) h lt = all_at p xs k (and_right (p x) (list_all p xs) h) (omega (arith, lt))

at_most : (a b : ℕ) → nat_le a b ≡ true → a ≤ b
at_most a b h = grind (arith, nat_tests)

below : (a b : ℕ) → nat_lt a b ≡ true → a < b
below a b h = grind (arith, nat_tests)

-- where the numbers rise along no arrow and fall along those of a place, no cycle leads through it
pub off_by : (arrows : List (List ℕ)) (numbers : List ℕ) (i : ℕ) → ((j : ℕ) → j < length arrows → each_arrow nat_le arrows numbers j ≡ true) → each_arrow nat_lt arrows numbers i ≡ true → IsOff arrows i
off_by arrows numbers i stay fall = record {
  rank = λ n. get_or numbers n 0;
  stays = λ j k lt here. at_most (get_or numbers (target arrows j k) 0) (get_or numbers j 0) (all_at (λ t. nat_le (get_or numbers t 0) (get_or numbers j 0)) (get_or arrows j []) k (stay j lt) here);
  falls = λ k here. below (get_or numbers (target arrows i k) 0) (get_or numbers i 0) (all_at (λ t. nat_lt (get_or numbers t 0) (get_or numbers i 0)) (get_or arrows i []) k fall here);
}

-- what isn't refused holds
pub holds : (b : Bool) → not b ≡ false → b ≡ true
holds true h = refl
holds false h = absurd cc

less_or_same : (i n : ℕ) → i < n + 1 → (i < n) ⊎ (i ≡ n)
less_or_same i n lt = grind arith

pub excludes_none : (arrows : List (List ℕ)) → Excludes arrows 0 []
excludes_none arrows = record { whole = refl; off = λ i lt h. absurd (omega (arith, lt)) }

-- one place more
pub excludes_more : (arrows : List (List ℕ)) (at : ℕ) (may : List Bool) (b : Bool) → Excludes arrows at may → (b ≡ false → IsOff arrows at) → Excludes arrows (at + 1) (may ++ b ∷ [])
excludes_more arrows at may b e off = record {
  whole = omega (arith, length-append may (b ∷ []), e.whole);
  off = λ i lt h. elim (less_or_same i at lt) [
    | inl low ↦ e.off i low (sym (get_or_append_left may (b ∷ []) false i (omega (arith, low, e.whole))) ∙ h)
    | inr same ↦ subst (IsOff arrows) (sym same) (off (sym (get_or_at may b [] false at e.whole) ∙ ap (λ n. is_marked (may ++ b ∷ []) n) (sym same) ∙ h))
  ];
}

-- ---- on a cycle

off_true : (b : Bool) → (b ≡ true → ⊥) → b ≡ false
off_true true h = absurd (h refl)
off_true false h = refl

module _ (links : List Link) (d : Link) (differ : names_differ links ≡ true) where
  lower : (i : ℕ) → i < length links → (o : IsOff (map (row_below links) links) i) → (steps j : ℕ) → j < length links → is_reached depends_on (is_named (get_or links i d).name) links steps (get_or links j d) ≡ true → o.rank j < o.rank i
  lower i lt o zero j jt h = absurd cc
  lower i lt o (suc steps) j jt h =
      let n = (get_or links i d).name in
      let graph = below-Represents links (λ _. false) d in
      let c = any_index (λ c. depends_on c (get_or links j d) && (is_named (get_or links i d).name c || is_reached depends_on (is_named (get_or links i d).name) links steps c)) links d h in
      let on = and_left (depends_on (get_or links c.0 d) (get_or links j d)) (is_named (get_or links i d).name (get_or links c.0 d) || is_reached depends_on (is_named (get_or links i d).name) links steps (get_or links c.0 d)) c.2 in
      let either = and_right (depends_on (get_or links c.0 d) (get_or links j d)) (is_named (get_or links i d).name (get_or links c.0 d) || is_reached depends_on (is_named (get_or links i d).name) links steps (get_or links c.0 d)) c.2 in
      let arrow = graph.arrow c.0 j c.1 jt on in
      let step : o.rank j ≤ o.rank c.0 = subst (λ m. o.rank m ≤ o.rank c.0) arrow.2 (o.stays c.0 arrow.0 (omega (arith, graph.whole, c.1)) arrow.1) in
      or_elim (is_named (get_or links i d).name (get_or links c.0 d)) (is_reached depends_on (is_named (get_or links i d).name) links steps (get_or links c.0 d)) (o.rank j < o.rank i)
      (λ e.
      let same : c.0 ≡ i = only_itself same_name link_cmp link_cmp_total names_tie links differ i c.0 d lt c.1 e in
      let own : (k : ℕ) × (k < length (get_or (map (row_below links) links) i [])) × (get_or (get_or (map (row_below links) links) i []) k 0 ≡ j) = subst (λ m. (k : ℕ) × (k < length (get_or (map (row_below links) links) m [])) × (get_or (get_or (map (row_below links) links) m []) k 0 ≡ j)) same arrow in
      subst (λ m. o.rank m < o.rank i) own.2 (o.falls own.0 own.1))
      (λ e. omega (arith, step, lower i lt o steps c.0 c.1 e))
      either

  not_on : (i : ℕ) → i < length links → IsOff (map (row_below links) links) i → on_cycle links (get_or links i d) ≡ false
  not_on i lt o = off_true (on_cycle links (get_or links i d)) (λ on. absurd (omega (arith, lower i lt o (length links) i lt on)))

-- ---- the least name

itself_not : (x : Link) → is_lt (link_cmp x x) ≡ false
itself_not x = by (link_cmp x x) (link_cmp_total.antisymm x x)
  where
    by : (o : Ordering) → o ≡ ordering_reverse o → is_lt o ≡ false
    by Less e = absurd cc
    by Equal e = refl
    by Greater e = refl

after : (a b c : Link) → is_lt (link_cmp a c) ≡ false → is_lt (link_cmp b c) ≡ true → is_lt (link_cmp a b) ≡ false
after a b c beyond under = off_true (is_lt (link_cmp a b)) (λ h.
    let wrong : true ≡ false = sym (ap is_lt (link_cmp_total.trans a b c (less (link_cmp a b) h) (less (link_cmp b c) under))) ∙ beyond in absurd cc)
  where
    less : (o : Ordering) → is_lt o ≡ true → o ≡ Less
    less Less h = refl
    less Equal h = absurd cc
    less Greater h = absurd cc

-- neither is less than the other
tied : (a b : Link) → is_lt (link_cmp a b) ≡ false → is_lt (link_cmp b a) ≡ false → a.name ≡ b.name
tied a b one other = by (link_cmp a b) refl
  where
    by : (o : Ordering) → link_cmp a b ≡ o → a.name ≡ b.name
    by Less e = let wrong : true ≡ false = sym (ap is_lt e) ∙ one in absurd cc
    by Equal e = sym (one_name b.name a.name (names_tie a b ∙ ap is_eq e))
    by Greater e = let wrong : true ≡ false = sym (ap is_lt (link_cmp_total.antisymm b a ∙ ap ordering_reverse e)) ∙ other in absurd cc

-- none so far, and one more that isn't marked
pub marked_not : (links : List Link) (may : List Bool) (at : ℕ) (o : Option ℕ) → IsLeastOf links may at o → is_marked may at ≡ false → IsLeastOf links may (at + 1) o
marked_not links may at None h not_it = λ j lt. elim (less_or_same j at lt) [
  | inl low ↦ h j low
  | inr same ↦ ap (is_marked may) same ∙ not_it
]
marked_not links may at (Some i) h not_it = record {
  inside = h.inside;
  least = λ j lt on d. elim (less_or_same j at lt) [
    | inl low ↦ h.least j low on d
    | inr same ↦ let wrong : true ≡ false = sym on ∙ ap (is_marked may) same ∙ not_it in absurd cc
  ];
}

-- the first that is marked
pub marked_first : (links : List Link) (may : List Bool) (at : ℕ) → at < length links → IsLeastOf links may at None → IsLeastOf links may (at + 1) (Some at)
marked_first links may at inside h = record {
  inside = inside;
  least = λ j lt on d. elim (less_or_same j at lt) [
    | inl low ↦ let wrong : true ≡ false = sym on ∙ h j low in absurd cc
    | inr same ↦ ap (λ n. is_lt (link_cmp (get_or links n d) (get_or links at d))) same ∙ itself_not (get_or links at d)
  ];
}

-- one of a lesser name
pub marked_less : (links : List Link) (may : List Bool) (at i : ℕ) → at < length links → IsLeastOf links may at (Some i) → ((d : Link) → is_lt (link_cmp (get_or links at d) (get_or links i d)) ≡ true) → IsLeastOf links may (at + 1) (Some at)
marked_less links may at i inside h less = record {
  inside = inside;
  least = λ j lt on d. elim (less_or_same j at lt) [
    | inl low ↦ after (get_or links j d) (get_or links at d) (get_or links i d) (h.least j low on d) (less d)
    | inr same ↦ ap (λ n. is_lt (link_cmp (get_or links n d) (get_or links at d))) same ∙ itself_not (get_or links at d)
  ];
}

-- and one of a name that isn't less
pub marked_more : (links : List Link) (may : List Bool) (at i : ℕ) → IsLeastOf links may at (Some i) → ((d : Link) → is_lt (link_cmp (get_or links at d) (get_or links i d)) ≡ false) → IsLeastOf links may (at + 1) (Some i)
marked_more links may at i h not_less = record {
  inside = h.inside;
  least = λ j lt on d. elim (less_or_same j at lt) [
    | inl low ↦ h.least j low on d
    | inr same ↦ ap (λ n. is_lt (link_cmp (get_or links n d) (get_or links i d))) same ∙ not_less d
  ];
}

module _ (p : Link → Bool) (c : Link) where
  -- of those that pass none is less
  abbrev NoneLess : List Link → Type 0
  NoneLess xs = (j : ℕ) → j < length xs → p (get_or xs j c) ≡ true → is_lt (link_cmp (get_or xs j c) c) ≡ false

  abbrev is_less : Option Link → Bool
  is_less o = option_map_or (λ m. is_lt (link_cmp m c)) o false

  least_not : (xs : List Link) → NoneLess xs → is_less (least_name (filter p xs)) ≡ false
  least_not [] h = refl
  least_not (x ∷ xs) h = by (p x) refl (least_not xs (λ j lt on. h (suc j) (omega (arith, lt)) on))
    where
      first : p x ≡ true → (o : Option Link) → is_less o ≡ false → is_less (option_or (option_and_then (lesser x) o) (Some x)) ≡ false
      first on None e = h 0 (omega arith) on
      first on (Some m) e = elim (is_lt (link_cmp m x)) as (λ v. is_less (option_or (if v then Some m else None) (Some x)) ≡ false) [
        | true ↦ e
        | false ↦ h 0 (omega arith) on
      ]

      by : (v : Bool) → p x ≡ v → is_less (least_name (filter p xs)) ≡ false → is_less (least_name (cond v (x ∷ filter p xs) (filter p xs))) ≡ false
      by true on rest = first on (least_name (filter p xs)) rest
      by false on rest = rest

  least_here : (xs : List Link) (i : ℕ) → i < length xs → get_or xs i c ≡ c → p c ≡ true → NoneLess xs → option_map (λ (l : Link). l.name) (least_name (filter p xs)) ≡ Some c.name
  least_here [] i lt is on h = absurd (omega (arith, lt))
  least_here (x ∷ xs) zero lt is on h = rw (ap p is ∙ on) (by (least_name (filter p xs)) (least_not xs (λ j jt. h (suc j) (omega (arith, jt)))))
    where
      by : (o : Option Link) → is_less o ≡ false → option_map (λ (l : Link). l.name) (option_or (option_and_then (lesser x) o) (Some x)) ≡ Some c.name
      by None e = ap (λ (l : Link). Some l.name) is
      by (Some m) e = ap (λ v. option_map (λ (l : Link). l.name) (option_or (if v then Some m else None) (Some x))) (ap (λ (l : Link). is_lt (link_cmp m l)) is ∙ e) ∙ ap (λ (l : Link). Some l.name) is
  least_here (x ∷ xs) (suc i) lt is on h = by (p x) refl (least_here xs i (omega (arith, lt)) is on (λ j jt. h (suc j) (omega (arith, jt))))
    where
      some_name : (a b : List ℕ) → Some a ≡ Some b → a ≡ b
      some_name a b e = cc

      first : p x ≡ true → (o : Option Link) → option_map (λ (l : Link). l.name) o ≡ Some c.name → option_map (λ (l : Link). l.name) (option_or (option_and_then (lesser x) o) (Some x)) ≡ Some c.name
      first here None e = absurd cc
      first here (Some m) e =
          let name : m.name ≡ c.name = some_name m.name c.name e in
          elim (is_lt (link_cmp m x)) as (λ v. is_lt (link_cmp m x) ≡ v → option_map (λ (l : Link). l.name) (option_or (if v then Some m else None) (Some x)) ≡ Some c.name) [
            | true ↦ λ _. e
            | false ↦ λ not_less.
                let other : is_lt (link_cmp c x) ≡ false = ap (λ n. is_lt (name_cmp n x.name)) (sym name) ∙ not_less in
                ap Some (tied x c (h 0 (omega arith) here) other)
          ] refl

      by : (v : Bool) → p x ≡ v → option_map (λ (l : Link). l.name) (least_name (filter p xs)) ≡ Some c.name → option_map (λ (l : Link). l.name) (least_name (cond v (x ∷ filter p xs) (filter p xs))) ≡ Some c.name
      by true here rest = first here (least_name (filter p xs)) rest
      by false here rest = rest

-- the least of those that may be on a cycle is the least that is, where it is
pub least_first : (links : List Link) (arrows : List (List ℕ)) (may : List Bool) (at : ℕ) (c : Link) → names_differ links ≡ true → arrows ≡ map (row_below links) links → Excludes arrows (length arrows) may
    → IsLeastOf links may (length links) (Some at) → c ≡ get_or links at c → on_cycle links c ≡ true → Some c.name ≡ option_map (λ (l : Link). l.name) (least_name (filter (on_cycle links) links))
least_first links arrows may at c differ is ex l here on =
    sym (least_here (on_cycle links) c links at l.inside (sym here) on (λ j lt passes. by j lt passes (is_marked may j) refl))
  where
    drawn : Excludes (map (row_below links) links) (length arrows) may
    drawn = subst (λ a. Excludes a (length arrows) may) is ex

    many : length arrows ≡ length links
    many = ap length is ∙ length-map links (row_below links)

    by : (j : ℕ) → j < length links → on_cycle links (get_or links j c) ≡ true → (v : Bool) → is_marked may j ≡ v → is_lt (link_cmp (get_or links j c) c) ≡ false
    by j lt passes true marked = ap (λ (l : Link). is_lt (link_cmp (get_or links j c) l)) here ∙ l.least j lt marked c
    by j lt passes false unmarked = let wrong : true ≡ false = sym passes ∙ not_on links c differ j lt (drawn.off j (omega (arith, lt, many)) unmarked) in absurd cc
