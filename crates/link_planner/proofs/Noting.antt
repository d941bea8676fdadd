-- The depths of links, found and noted on the way down their bases.
use Rattle.std.proofs.Common.{◌≡◌, ◌≢◌, ◌⊎◌, inl, inr, ℕ, ◌+◌, ◌-◌, ◌<◌, ◌≤◌, zero, suc, List, [], ◌∷◌, ◌++◌, length, take, map, replicate, get_or, set, Option, Some, None, refl, sym, ap, ◌∙◌, subst, arith, add-one, take-suc, length-set, get_or-set_same, get_or-set_other}
use Rattle.std.specs.Option.{option_map_or}
use Rattle.net_model.specs.NetData.{NetData}
use Rattle.net_model.specs.Facts.{Facts}
use Rattle.net_model.specs.declared.link.Link.{Link}
use Rattle.net_model.specs.declared.link.Kind.{Kind}
use Rattle.link_planner.specs.Depths.{base_link, depth_within, depth, IsBasePlace, IsDepthAt, AreDepths}
use Rattle.link_planner.proofs.Placing.{depth_none, depth_more, depth_ends}

-- a depth is at most the count of the steps
pub depth_most : (links : List Link) (steps : ℕ) (k : Kind) → depth_within links steps k ≤ steps
depth_most links zero k = omega arith
depth_most links (suc steps) k =
    elim (base_link links k) as (λ o. option_map_or (λ b. 1 + depth_within links steps b.kind) o 0 ≤ suc steps) [
      | None ↦ omega arith
      | Some b ↦ omega (arith, depth_most links steps b.kind)
    ]

-- where there is a place, there is a link
some_link : (links : List Link) (i : ℕ) → i < length links → Link
some_link [] i h = absurd (omega (arith, h))
some_link (x ∷ xs) i h = x

-- what is the depth of a link is at most their count
pub most_at : (links : List Link) (i n : ℕ) → i < length links → IsDepthAt links i n → n ≤ length links
most_at links i n h is = omega (arith, is (some_link links i h), depth_most links (length links) (get_or links i (some_link links i h)).kind)

-- a base has a place
pub base_inside : (links : List Link) (i base : ℕ) → i < length links → ((d : Link) → IsBasePlace links (get_or links i d).kind (Some base)) → base < length links
base_inside links i base h stands = (stands (some_link links i h)).0

-- the link over a base is one deeper
pub one_deeper : (net : NetData) → Facts net → (i base : ℕ) → i < length net.links → ((d : Link) → IsBasePlace net.links (get_or net.links i d).kind (Some base))
    → (d : Link) → depth net.links (get_or net.links i d).kind ≡ 1 + depth net.links (get_or net.links base d).kind
one_deeper net facts i base h stands d =
    let l : Link = get_or net.links i d in
    sym (depth_ends net.links (length net.links) l.kind ((facts.link l.name l (facts.link_at i d h)).grounded))
    ∙ depth_more net.links (length net.links) l.kind (get_or net.links base d) ((stands d).1 d)

-- ---- the way down to a known depth

-- the steps so far and the depth here are the depth at the start
pub record Walked (links : List Link) (start steps at : ℕ) : Type 0 where
  pub inside : at < length links
  pub so_far : (d : Link) → steps + depth links (get_or links at d).kind ≡ depth links (get_or links start d).kind

-- no step is gone at the start
pub walk_start : (links : List Link) (start : ℕ) → start < length links → Walked links start 0 start
walk_start links start h = record {
  inside = h;
  so_far = λ d. omega arith;
}

module _ (net : NetData) (start steps at : ℕ) (w : Walked net.links start steps at) where
  -- the next step leads to the base
  pub walk_next : Facts net → (base : ℕ) → ((d : Link) → IsBasePlace net.links (get_or net.links at d).kind (Some base)) → Walked net.links start (steps + 1) base
  walk_next facts base stands = record {
    inside = base_inside net.links at base w.inside stands;
    so_far = λ d. omega (arith, w.so_far d, one_deeper net facts at base w.inside stands d);
  }

  -- a known depth and the steps before it are the depth at the start
  pub walk_known : (known : List (Option ℕ)) → AreDepths net.links known → (n : ℕ) → get_or known at None ≡ Some n → IsDepthAt net.links start (steps + n)
  walk_known known are n is d = omega (arith, w.so_far d, are.right at n w.inside is d)

  -- and so are the steps, where there is no base
  pub walk_alone : ((d : Link) → IsBasePlace net.links (get_or net.links at d).kind None) → IsDepthAt net.links start steps
  walk_alone none d = omega (arith, w.so_far d, depth_none net.links (length net.links) (get_or net.links at d).kind (none d))

  -- as many steps as there are links are the depth, for none is deeper
  pub walk_end : length net.links ≤ steps → IsDepthAt net.links start (length net.links)
  walk_end past d = omega (arith, w.so_far d, past, depth_most net.links (length net.links) (get_or net.links start d).kind)

-- ---- noting on the way

same_or_not : (i j : ℕ) → (i ≡ j) ⊎ (i ≢ j)
same_or_not i j = grind arith

some_number : (m n : ℕ) → Some m ≡ Some n → m ≡ n
some_number m n h = cc

-- a depth more is known
pub one_known : (links : List Link) (known : List (Option ℕ)) (at n : ℕ) → AreDepths links known → at < length links → IsDepthAt links at n → AreDepths links (set known at (Some n))
one_known links known at n are h is = record {
  each = length-set known at (Some n) ∙ are.each;
  right = λ i m inside eq. elim (same_or_not i at) [
    | inl e ↦
        let here : get_or (set known at (Some n)) at None ≡ Some n = get_or-set_same known at (Some n) None (subst (λ k. at < k) (sym are.each) h) in
        let same : n ≡ m = some_number n m (sym here ∙ ap (λ k. get_or (set known at (Some n)) k None) (sym e) ∙ eq) in
        subst (λ k. IsDepthAt links k m) (sym e) (subst (IsDepthAt links at) same is)
    | inr ne ↦ are.right i m inside (sym (get_or-set_other known at i (Some n) None ne) ∙ eq)
  ];
}

-- where none is known
pub none_known : (links : List Link) (count : ℕ) → count ≡ length links → AreDepths links (replicate count None)
none_known links count is = record {
  each = length-none count ∙ is;
  right = λ i n inside eq. absurd (let no : None ≡ Some n = sym (get_or-none count i) ∙ eq in cc);
}
  where
    length-none : (count : ℕ) → length (replicate {A = Option ℕ} count None) ≡ count
    length-none zero = refl
    length-none (suc n) = ap suc (length-none n)

    get_or-none : (count i : ℕ) → get_or (replicate {A = Option ℕ} count None) i None ≡ None
    get_or-none zero i = refl
    get_or-none (suc n) zero = refl
    get_or-none (suc n) (suc i) = get_or-none n i

-- what is noted, where the walk is and the depth there
pub record Noted (links : List Link) (known : List (Option ℕ)) (at left : ℕ) : Type 0 where
  pub are : AreDepths links known
  pub inside : at < length links
  pub here : IsDepthAt links at left

module _ (net : NetData) (known : List (Option ℕ)) (at left : ℕ) (w : Noted net.links known at left) where
  -- the base is next, with a depth one less
  pub note_next : Facts net → (base : ℕ) → ((d : Link) → IsBasePlace net.links (get_or net.links at d).kind (Some base)) → Noted net.links (set known at (Some left)) base (left - 1)
  note_next facts base stands = record {
    are = one_known net.links known at left w.are w.inside w.here;
    inside = base_inside net.links at base w.inside stands;
    here = λ d. omega (arith, w.here d, one_deeper net facts at base w.inside stands d);
  }

  -- over a base there is a depth to take from
  pub note_more : Facts net → (base : ℕ) → ((d : Link) → IsBasePlace net.links (get_or net.links at d).kind (Some base)) → 1 ≤ left
  note_more facts base stands = let d : Link = some_link net.links at w.inside in omega (arith, w.here d, one_deeper net facts at base w.inside stands d)

-- ---- lists by place

map-append-one : {X Y : Type 0} (f : X → Y) (xs : List X) (x : X) → map f (xs ++ x ∷ []) ≡ map f xs ++ f x ∷ []
map-append-one f [] x = refl
map-append-one {X} {Y} f (y ∷ ys) x = ap (λ (r : List Y). f y ∷ r) (map-append-one f ys x)

-- what is pushed is the value of the next link
pub one_more : {Y : Type 0} (f : Link → Y) (links : List Link) (i : ℕ) (y : Y) → i < length links → ((d : Link) → y ≡ f (get_or links i d)) → map f (take i links) ++ y ∷ [] ≡ map f (take (i + 1) links)
one_more {Y} f links i y h is =
    let d : Link = some_link links i h in
    ap (λ (z : Y). map f (take i links) ++ z ∷ []) (is d)
    ∙ sym (map-append-one f (take i links) (get_or links i d))
    ∙ ap (map f) (rw add-one (sym (take-suc links i d h)))
