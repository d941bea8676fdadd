-- What a call changes of what hangs on a link, found from each name by those directly over it.
use Rattle.std.proofs.Common.{◌≡◌, ◌⊎◌, inl, inr, ℕ, ◌≤◌, ◌<◌, ◌+◌, Bool, true, false, not, ◌||◌, ◌++◌, List, [], ◌∷◌, length, map, get_or, Some, nat_lt, nat_le, refl, sym, ap, subst, ◌∙◌, arith}
use Rattle.std.specs.Cmp.Lexicographic.{texts_ties}
use Rattle.std.proofs.lemmas.Bool.Decides.{nat_tests}
use Rattle.std.proofs.lemmas.List.{length-append, get_or_append_left}
use Rattle.std.proofs.lemmas.List.Folds.{list_any-append}
use Rattle.std.proofs.lemmas.Map.Keys.{apart_from_distinct}
use Rattle.reach.proofs.lemmas.Least.{any_index}
use Rattle.reach.proofs.lemmas.Saturate.{tally}
use Rattle.net_model.specs.Name.{same_bytes}
use Rattle.net_model.specs.Words.{apart, is_among}
use Rattle.net_model.specs.Order.{name_cmp}
use Rattle.net_model.specs.Links.{find_link, is_named, named_passes, is_port_of}
use Rattle.net_model.specs.Dependence.{has_base, depends_on, reaches}
use Rattle.net_model.specs.Valid.{names_differ}
use Rattle.net_model.specs.OfName.{over}
use Rattle.net_model.specs.NetData.{NetData, IsNet}
use Rattle.net_model.specs.declared.link.Link.{Link}
use Rattle.net_model.specs.declared.link.Kind.{Kind}
use Rattle.net_model.specs.declared.link.Kind.TheVariants.{Ethernet, Bond, Bridge, Vlan, Vrf, Dummy, Veth}
use Rattle.net_model.specs.declared.options.Proto.{Proto}
use Rattle.net_model.proofs.lemmas.Truth.{and_left, and_right, and_both, or_right, not_true, not_false}
use Rattle.net_model.proofs.lemmas.Found.{one_name, itself, names_differ-rises}
use Rattle.net_model.proofs.lemmas.Grounded.{found_named, any_found}
use Rattle.net_model.proofs.lemmas.FactsHold.{facts}
use Rattle.net_model.proofs.lemmas.AllParts.{all_parts}
use Rattle.net_model.proofs.lemmas.ByName.{or_left, any_map, passing_found, found_passing, passes_as, some_same}
use Rattle.net_model.proofs.lemmas.Ranks.{or_elim, rank-falls}
use Rattle.net_model.proofs.lemmas.Parts.{le_of, is_le, apart_filter}
use Rattle.net_model.proofs.lemmas.Places.{any_at}
use Rattle.net_model.proofs.lemmas.Ports.{among_filtered}
use Rattle.net_model.proofs.lemmas.Rises.{apart-rises}
use Rattle.net_lists.proofs.lemmas.LinkLists.{over_rise}
use Rattle.kernel_model.specs.Words.{hangs_on}
use Rattle.kernel_laws.proofs.lemmas.Hanging.{hangs}
use Rattle.link_step.specs.declared.hanging.Affected.{Affected}
use Rattle.link_step.specs.declared.hanging.Affected.TheVariants.{Each, Up, Above}
use Rattle.link_step.specs.Hanging.{AreAffected, hangs as hangs_itself, hangs_affected, is_affected, affected_over, affected_on}
use Rattle.link_step.proofs.Names.{apart_append, distinct, few_names, no_names, among_filter, all_pass}
use Rattle.link_step.proofs.Hangers.{among_affected}

-- the names so far, where each before this place has been followed: each hangs on the root and is affected, is there once,
-- and comes from one that has been followed
pub record Climbing (which : Affected) (links : List Link) (root : List ℕ) (at : ℕ) (names : List (List ℕ)) : Type 0 where
  pub first : is_among names root ≡ true
  pub hang : (n : List ℕ) → is_among names n ≡ true → hangs_on links root n ≡ true
  pub affected : (n : List ℕ) → is_among names n ≡ true → named_passes (is_affected which) links n ≡ true
  pub once : apart same_bytes names ≡ true
  pub followed : (n : List ℕ) (l : Link) (i : ℕ) → i < at → find_link n links ≡ Some l → is_affected which l ≡ true → has_base l.kind (get_or names i []) ≡ true → is_among names n ≡ true
  pub from : (n : List ℕ) → is_among names n ≡ true → (n ≡ root) ⊎ ((l : Link) × (i : ℕ) × (i < at) × (find_link n links ≡ Some l) × (has_base l.kind (get_or names i []) ≡ true))
  pub inside : at ≤ length names
  pub few : length names ≤ length links

-- a VLAN over the named link names it
vlan_of : (k : Kind) (base : List ℕ) → has_base k base ≡ true → (id : ℕ) × (proto : Proto) × (k ≡ Vlan base id proto)
vlan_of (Vlan b id proto) base h = (id, proto, ap (λ (m : List ℕ). let k : Kind = Vlan m id proto in k) (one_name b base h))
vlan_of (Ethernet permanent) base h = absurd cc
vlan_of (Bond mode) base h = absurd cc
vlan_of Bridge base h = absurd cc
vlan_of (Vrf table) base h = absurd cc
vlan_of Dummy base h = absurd cc
vlan_of (Veth peer) base h = absurd cc

-- and no other
one_base : (k : Kind) (a b : List ℕ) → has_base k a ≡ true → has_base k b ≡ true → a ≡ b
one_base (Vlan c id proto) a b h g = sym (one_name c a h) ∙ one_name c b g
one_base (Ethernet permanent) a b h g = absurd cc
one_base (Bond mode) a b h g = absurd cc
one_base Bridge a b h g = absurd cc
one_base (Vrf table) a b h g = absurd cc
one_base Dummy a b h g = absurd cc
one_base (Veth peer) a b h g = absurd cc

apart_at : (i at : ℕ) → i < at + 1 → (i < at) ⊎ (i ≡ at)
apart_at i at lt = grind (arith, lt)

no_lower : (m a b : ℕ) → nat_lt m a ≡ true → a ≤ b → nat_lt m b ≡ true
no_lower m a b h le = grind (arith, nat_tests)

-- what is affected is over what is
base_affected : (which : Affected) (l b : Link) → (l.up ≡ true → b.up ≡ true) → l.mtu ≤ b.mtu → is_affected which l ≡ true → is_affected which b ≡ true
base_affected Each l b up mtu h = refl
base_affected Up l b up mtu h = up h
base_affected (Above m) l b up mtu h = no_lower m l.mtu b.mtu h mtu

-- a test that holds, or that needn't
where_on : (a b : Bool) → (b ≡ true → a ≡ true) → (a || not b) ≡ true
where_on true b f = refl
where_on false true f = f refl
where_on false false f = refl

on_where : (a b : Bool) → (a || not b) ≡ true → b ≡ true → a ≡ true
on_where true b h on = refl
on_where false b h on = let wrong : true ≡ false = sym on ∙ not_true b h in absurd cc

-- where each is affected, those over a base are all that are
pub each_over : (links : List Link) (base : List ℕ) → names_differ links ≡ true → affected_over Each links base ≡ over links base
each_over links base differ =
    all_pass (named_passes (is_affected Each) links) (over links base) (λ n h.
    let u = passing_found (λ l. has_base l.kind base) links n differ (sym (among_filtered (λ l. has_base l.kind base) n links) ∙ h) in
    found_passing (is_affected Each) links n u.0 u.1 refl)

module _ (net : NetData) (is : IsNet net) (root : List ℕ) (which : Affected) where
  differ : names_differ net.links ≡ true
  differ = names_differ-rises net.links is.in_order.links

  abbrev rank : List ℕ → ℕ
  rank n = tally (reaches net.links (length net.links) n) net.links

  -- a base reaches fewer links than what is over it
  falls : (n base : List ℕ) (l : Link) → find_link n net.links ≡ Some l → has_base l.kind base ≡ true → rank base < rank n
  falls n base l found h =
      let v = vlan_of l.kind base h in
      let b = (facts net is).base n l base v.0 v.1 found v.2 in
      let nl : l.name ≡ n = found_named net.links n l found in
      let nb : b.link.name ≡ base = found_named net.links base b.link b.there in
      let on : depends_on l b.link ≡ true = or_left (has_base l.kind b.link.name) (is_port_of l.name b.link) (ap (has_base l.kind) nb ∙ h) in
      let less : rank b.link.name < rank l.name =
      rank-falls net.links differ (all_parts net is.valid).cycles l b.link (ap (λ m. find_link m net.links) nl ∙ found) (ap (λ m. find_link m net.links) nb ∙ b.there) on in
      subst (λ m. rank m < rank n) nb (subst (λ m. rank b.link.name < rank m) nl less)

  -- what hangs on the root reaches no fewer
  no_fewer : (n : List ℕ) → hangs_on net.links root n ≡ true → rank root ≤ rank n
  no_fewer n h =
      le_of (rank root) (rank n)
      ((hangs net is root).least (λ m. nat_le (rank root) (rank m)) (is_le (rank root) (rank root) (omega arith))
      (λ m l base id proto found kind below.
      let less : rank base < rank m = falls m base l found (ap (λ k. has_base k base) kind ∙ itself base) in
      let low : rank root ≤ rank base = le_of (rank root) (rank base) below in
      is_le (rank root) (rank m) (omega (arith, less, low))) n h)

  -- so the root isn't over what hangs on it
  not_over : (base : List ℕ) (l : Link) → find_link root net.links ≡ Some l → has_base l.kind base ≡ true → hangs_on net.links root base ≡ true → ⊥
  not_over base l found h on =
      let less : rank base < rank root = falls root base l found h in
      let low : rank root ≤ rank base = no_fewer base on in
      absurd (omega (arith, less, low))

  hangs_up : (n base : List ℕ) (l : Link) → find_link n net.links ≡ Some l → has_base l.kind base ≡ true → hangs_on net.links root base ≡ true → hangs_on net.links root n ≡ true
  hangs_up n base l found h on = let v = vlan_of l.kind base h in (hangs net is root).over n l base v.0 v.1 found v.2 on

  -- what hangs on the root is there
  there : (n : List ℕ) → hangs_on net.links root n ≡ true → is_among (map (λ (l : Link). l.name) net.links) n ≡ true
  there n h =
      let u = passing_found (hangs_itself net.links root) net.links n differ h in
      any_map (λ (l : Link). l.name) (is_named n) (λ m. same_bytes m n) (λ l. refl) net.links
      ∙ any_found (is_named n) net.links n u.0 u.1 (ap (λ m. same_bytes m n) (found_named net.links n u.0 u.1) ∙ itself n)

  -- the named link is affected
  abbrev on : List ℕ → Bool
  on n = named_passes (is_affected which) net.links n

  -- and hangs on the root
  abbrev both : List ℕ → Bool
  both n = named_passes (hangs_affected which net.links root) net.links n

  to_both : (n : List ℕ) → hangs_on net.links root n ≡ true → on n ≡ true → both n ≡ true
  to_both n h k =
      let u = passing_found (hangs_itself net.links root) net.links n differ h in
      found_passing (hangs_affected which net.links root) net.links n u.0 u.1
      (and_both (hangs_itself net.links root u.0) (is_affected which u.0) u.2 (sym (passes_as (is_affected which) net.links n u.0 differ u.1) ∙ k))

  of_both : (n : List ℕ) → both n ≡ true → (hangs_on net.links root n ≡ true) × (on n ≡ true)
  of_both n h =
      let u = passing_found (hangs_affected which net.links root) net.links n differ h in (
        found_passing (hangs_itself net.links root) net.links n u.0 u.1 (and_left (hangs_itself net.links root u.0) (is_affected which u.0) u.2),
        found_passing (is_affected which) net.links n u.0 u.1 (and_right (hangs_itself net.links root u.0) (is_affected which u.0) u.2),
      )

  -- the base of what is affected is
  base_on : (n : List ℕ) (l : Link) (base : List ℕ) (id : ℕ) (proto : Proto) → find_link n net.links ≡ Some l → l.kind ≡ Vlan base id proto → on n ≡ true → on base ≡ true
  base_on n l base id proto found kind h =
      let b = (facts net is).base n l base id proto found kind in
      found_passing (is_affected which) net.links base b.link b.there
      (base_affected which l b.link b.up b.mtu (sym (passes_as (is_affected which) net.links n l differ found) ∙ h))

  -- so nothing is over a root that isn't
  none_over : on root ≡ false → (n : List ℕ) → both n ≡ true → ⊥
  none_over off n h =
      let u = of_both n h in
      let none : not (on n) ≡ true = (hangs net is root).least (λ m. not (on m)) (not_false (on root) off) step n u.0 in
      let wrong : true ≡ false = sym u.1 ∙ not_true (on n) none in
      absurd cc
    where
      step : (m : List ℕ) (l : Link) (base : List ℕ) (id : ℕ) (proto : Proto) → find_link m net.links ≡ Some l → l.kind ≡ Vlan base id proto → not (on base) ≡ true → not (on m) ≡ true
      step m l base id proto found kind below = elim (on m) as (λ v. on m ≡ v → not v ≡ true) [
        | true ↦ λ e. let wrong : true ≡ false = sym (base_on m l base id proto found kind e) ∙ not_true (on base) below in absurd cc
        | false ↦ λ e. refl
      ] refl

  pub none_affected : named_passes (is_affected which) net.links root ≡ false → affected_on which net.links root ≡ []
  none_affected off = no_names (affected_on which net.links root) (λ n. elim (both n) as (λ v. both n ≡ v → is_among (affected_on which net.links root) n ≡ false) [
    | true ↦ λ h. absurd (none_over off n h)
    | false ↦ λ h. among_affected which net.links root n ∙ h
  ] refl)

  -- it begins with the root
  pub climb_root : named_passes (is_affected which) net.links root ≡ true → Climbing which net.links root 0 (root ∷ [])
  climb_root is_on =
      let l = passing_found (is_affected which) net.links root differ is_on in
      let alone : (n : List ℕ) → is_among (root ∷ []) n ≡ true → n ≡ root =
      λ n h. sym (one_name root n (or_elim (same_bytes root n) false (same_bytes root n ≡ true) (λ e. e) (λ e. absurd cc) h)) in
      let hang : (n : List ℕ) → is_among (root ∷ []) n ≡ true → hangs_on net.links root n ≡ true =
      λ n h. ap (hangs_on net.links root) (alone n h) ∙ (hangs net is root).root l.0 l.1 in
      record {
        first = or_left (same_bytes root root) false (itself root);
        hang = hang;
        affected = λ n h. ap on (alone n h) ∙ is_on;
        once = refl;
        followed = λ n m i lt found k h. absurd (omega (arith, lt));
        from = λ n h. inl (alone n h);
        inside = omega arith;
        few = few_names (root ∷ []) net.links refl (λ n h. there n (hang n h));
      }

  module _ (at : ℕ) (names : List (List ℕ)) (c : Climbing which net.links root at names) where
    -- it ends where all have been followed
    pub climbed : length names ≤ at → AreAffected which net.links root names
    climbed all = record { once = c.once; each = each }
      where
        step : (n : List ℕ) (l : Link) (base : List ℕ) (id : ℕ) (proto : Proto) → find_link n net.links ≡ Some l → l.kind ≡ Vlan base id proto → (is_among names base || not (on base)) ≡ true → (is_among names n || not (on n)) ≡ true
        step n l base id proto found kind below = where_on (is_among names n) (on n) (λ h.
            let i = any_index (λ m. same_bytes m base) names [] (on_where (is_among names base) (on base) below (base_on n l base id proto found kind h)) in
            let lt : i.0 < length names = i.1 in
            c.followed n l i.0 (omega (arith, lt, all)) found (sym (passes_as (is_affected which) net.links n l differ found) ∙ h)
            (ap (λ k. has_base k (get_or names i.0 [])) kind ∙ ap (same_bytes base) (one_name (get_or names i.0 []) base i.2) ∙ itself base))

        back : (n : List ℕ) → both n ≡ true → is_among names n ≡ true
        back n h =
            let u = of_both n h in
            on_where (is_among names n) (on n) ((hangs net is root).least (λ m. is_among names m || not (on m)) (or_left (is_among names root) (not (on root)) c.first) step n u.0) u.1

        each : (n : List ℕ) → is_among names n ≡ both n
        each n = elim (is_among names n) as (λ v. is_among names n ≡ v → v ≡ both n) [
          | true ↦ λ e. sym (to_both n (c.hang n e) (c.affected n e))
          | false ↦ λ e. elim (both n) as (λ v. both n ≡ v → false ≡ v) [
            | true ↦ λ h. sym e ∙ back n h
            | false ↦ λ h. refl
          ] refl
        ] refl

    module _ (lt : at < length names) where
      abbrev base : List ℕ
      base = get_or names at []

      abbrev ups : List (List ℕ)
      ups = affected_over which net.links base

      base_hangs : hangs_on net.links root base ≡ true
      base_hangs = c.hang base (any_at (λ m. same_bytes m base) names at [] lt (itself base))

      ups_on : (n : List ℕ) → is_among ups n ≡ true → on n ≡ true
      ups_on n h = and_right (is_among (over net.links base) n) (on n) (sym (among_filter on (over net.links base) n) ∙ h)

      of_ups : (n : List ℕ) → is_among ups n ≡ true → (l : Link) × (find_link n net.links ≡ Some l) × (has_base l.kind base ≡ true)
      of_ups n h =
          passing_found (λ l. has_base l.kind base) net.links n differ
          (sym (among_filtered (λ l. has_base l.kind base) n net.links) ∙ and_left (is_among (over net.links base) n) (on n) (sym (among_filter on (over net.links base) n) ∙ h))

      to_ups : (n : List ℕ) (l : Link) → find_link n net.links ≡ Some l → is_affected which l ≡ true → has_base l.kind base ≡ true → is_among ups n ≡ true
      to_ups n l found k h =
          among_filter on (over net.links base) n
          ∙ and_both (is_among (over net.links base) n) (on n)
          (among_filtered (λ l. has_base l.kind base) n net.links ∙ found_passing (λ l. has_base l.kind base) net.links n l found h)
          (found_passing (is_affected which) net.links n l found k)

      -- none of these has been met
      fresh : (n : List ℕ) → is_among ups n ≡ true → is_among names n ≡ false
      fresh n h = elim (is_among names n) as (λ v. is_among names n ≡ v → v ≡ false) [
        | true ↦ λ e. absurd (met e)
        | false ↦ λ e. refl
      ] refl
        where
          u : (l : Link) × (find_link n net.links ≡ Some l) × (has_base l.kind base ≡ true)
          u = of_ups n h

          met : is_among names n ≡ true → ⊥
          met e = elim (c.from n e) [
            | inl own ↦ not_over base u.0 (ap (λ m. find_link m net.links) (sym own) ∙ u.1) u.2 base_hangs
            | inr (l, i, low, found, h) ↦
                let one : l ≡ u.0 = some_same l u.0 (sym found ∙ u.1) in
                let same : get_or names i [] ≡ base = one_base u.0.kind (get_or names i []) base (ap (λ (x : Link). has_base x.kind (get_or names i [])) (sym one) ∙ h) u.2 in
                let off : same_bytes (get_or names i []) base ≡ false = apart_from_distinct same_bytes names i at [] (distinct names c.once) low lt in
                let wrong : true ≡ false = sym (ap (same_bytes (get_or names i [])) (sym same) ∙ itself (get_or names i [])) ∙ off in
                absurd cc
          ]

      abbrev more : List (List ℕ)
      more = names ++ ups

      early : (i : ℕ) → i ≤ at → get_or more i [] ≡ get_or names i []
      early i le = get_or_append_left names ups [] i (omega (arith, le, lt))

      among_more : (n : List ℕ) → is_among more n ≡ (is_among names n || is_among ups n)
      among_more n = list_any-append (λ m. same_bytes m n) names ups

      hang : (n : List ℕ) → is_among more n ≡ true → hangs_on net.links root n ≡ true
      hang n h = or_elim (is_among names n) (is_among ups n) (hangs_on net.links root n ≡ true) (c.hang n) (λ e. let u = of_ups n e in hangs_up n base u.0 u.1 u.2 base_hangs) (sym (among_more n) ∙ h)

      affected : (n : List ℕ) → is_among more n ≡ true → on n ≡ true
      affected n h = or_elim (is_among names n) (is_among ups n) (on n ≡ true) (c.affected n) (ups_on n) (sym (among_more n) ∙ h)

      once : apart same_bytes more ≡ true
      once =
          apart_append names ups c.once
          (apart_filter same_bytes on (over net.links base) (apart-rises same_bytes name_cmp texts_ties (over net.links base) (over_rise net.links base is.in_order.links))) fresh

      followed : (n : List ℕ) (l : Link) (i : ℕ) → i < at + 1 → find_link n net.links ≡ Some l → is_affected which l ≡ true → has_base l.kind (get_or more i []) ≡ true → is_among more n ≡ true
      followed n l i low found k h = elim (apart_at i at low) [
        | inl before ↦ among_more n ∙ or_left (is_among names n) (is_among ups n) (c.followed n l i before found k (ap (has_base l.kind) (sym (early i (omega (arith, before)))) ∙ h))
        | inr here ↦ among_more n ∙ or_right (is_among names n) (is_among ups n) (to_ups n l found k (ap (has_base l.kind) (sym (early i (omega (arith, here)) ∙ ap (λ j. get_or names j []) here)) ∙ h))
      ]

      from : (n : List ℕ) → is_among more n ≡ true → (n ≡ root) ⊎ ((l : Link) × (i : ℕ) × (i < at + 1) × (find_link n net.links ≡ Some l) × (has_base l.kind (get_or more i []) ≡ true))
      from n h = elim (sides (is_among names n) (is_among ups n) (sym (among_more n) ∙ h)) [
        | inl e ↦ elim (c.from n e) [
          | inl own ↦ inl own
          | inr (l, i, low, found, k) ↦ inr (l, i, omega (arith, low), found, ap (has_base l.kind) (early i (omega (arith, low))) ∙ k)
        ]
        | inr e ↦ let u = of_ups n e in inr (u.0, at, omega arith, u.1, ap (has_base u.0.kind) (early at (omega arith)) ∙ u.2)
      ]
        where
          sides : (a b : Bool) → (a || b) ≡ true → (a ≡ true) ⊎ (b ≡ true)
          sides true b h = inl refl
          sides false b h = inr h

      -- the next has been followed once the names over it are there
      pub climb_on : Climbing which net.links root (at + 1) (names ++ affected_over which net.links (get_or names at []))
      climb_on = record {
        first = among_more root ∙ or_left (is_among names root) (is_among ups root) c.first;
        hang = hang;
        affected = affected;
        once = once;
        followed = followed;
        from = from;
        inside = (let e : length more ≡ length names + length ups = length-append names ups in omega (arith, e, lt));
        few = few_names more net.links once (λ n h. there n (hang n h));
      }
