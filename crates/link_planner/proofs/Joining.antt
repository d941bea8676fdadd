-- Links and those that come to them, in order.
use Rattle.std.proofs.Common.{◌≡◌, ℕ, true, false, not, cond, List, [], ◌∷◌, ◌++◌, Option, Some, None, Ordering, Less, Equal, Greater, IsPermutation, IsSorted, refl, sym, ap, ◌∙◌, append-nil}
use Rattle.std.specs.Prelude.{if◌then◌else◌}
use Rattle.std.specs.List.{list_any}
use Rattle.std.specs.Option.{option_map, option_map_or, option_or}
use Rattle.std.specs.Ordering.{is_lt, is_eq, match_ordering}
use Rattle.std.specs.BTreeMap.{insert_entry, is_at}
use Rattle.std.specs.Map.{lookup}
use Rattle.std.specs.Cmp.Lexicographic.{texts_ties}
use Rattle.std.proofs.lemmas.Cmp.{nat_list_cmp_total, tied_itself}
use Rattle.std.proofs.lemmas.List.Folds.{find-append}
use Rattle.std.proofs.lemmas.List.Sorted.{IsPermutation-refl, IsPermutation-trans, IsPermutation-sym, IsPermutation-cons, IsPermutation-middle, IsPermutation-append_right, IsPermutation-map}
use Rattle.net_model.specs.Name.{same_bytes}
use Rattle.net_model.specs.Words.{rises, put, sorted}
use Rattle.net_model.specs.Order.{name_cmp, link_cmp}
use Rattle.net_model.specs.Links.{find_link, is_named, same_name}
use Rattle.net_model.specs.Valid.{names_differ}
use Rattle.net_model.specs.Hardware.{virtual_mac}
use Rattle.net_model.specs.NetData.{NetData, IsNet}
use Rattle.net_model.specs.declared.limits.TheConstants.{DEFAULT_MTU}
use Rattle.net_model.specs.declared.mac.Mac.{Mac}
use Rattle.net_model.specs.declared.link.Link.{Link}
use Rattle.net_model.specs.declared.link.Kind.{Kind}
use Rattle.net_model.specs.declared.link.Kind.TheVariants.{Ethernet, Bond, Bridge, Vlan, Vrf, Dummy, Veth}
use Rattle.net_model.proofs.lemmas.Truth.{and_both, not_false}
use Rattle.net_model.proofs.lemmas.Found.{one_name, names_tie, names_differ-rises}
use Rattle.net_lists.proofs.lemmas.LinkLists.{not_there}
use Rattle.net_model.proofs.lemmas.ListChanges.{either_way}
use Rattle.net_model.proofs.lemmas.Orders.{link_cmp_total}
use Rattle.net_model.proofs.lemmas.Ordered.{same_sorted, sorted_itself}
use Rattle.net_model.proofs.lemmas.Permute.{apart-IsPermutation}
use Rattle.net_model.proofs.lemmas.Puts.{find_other}
use Rattle.net_model.proofs.lemmas.Rises.{Climbs-sorted, apart-sorted}
use Rattle.net_model.proofs.lemmas.Sorting.{sorted_moves}
use Rattle.net_model.proofs.lemmas.ValidMoved.{tied_both}
use Rattle.kernel_model.specs.MadeLinks.{with_new, with_peer}
use Rattle.link_planner.specs.declared.creations.NewLink.{NewLink}
use Rattle.link_planner.specs.Depths.{base_link}
use Rattle.link_planner.specs.Drafts.{with_links}
use Rattle.link_planner.specs.Creations.{first_of, own_first, made_link, made_links, begins, mtu_and_mac, own_mtu_and_mac, peer_put}

-- ---- what is found where links are put in order

-- a link before one of a name has another name
other_before : (a b : Link) (n : List ℕ) → is_lt (link_cmp b a) ≡ true → is_named n a ≡ true → is_named n b ≡ false
other_before a b n low on = elim (is_named n b) as (λ v. is_named n b ≡ v → v ≡ false) [
  | true ↦ λ e.
      let same : b.name ≡ a.name = one_name b.name n e ∙ sym (one_name a.name n on) in
      let tied : link_cmp b a ≡ Equal = ap (λ (m : List ℕ). name_cmp m a.name) same ∙ tied_itself nat_list_cmp_total a.name in
      let no : false ≡ true = sym (ap is_lt tied) ∙ low in
      absurd cc
  | false ↦ λ _. refl
] refl

found_here : (a : Link) (n : List ℕ) → is_named n a ≡ true → (bs : List Link) → find_link n (put link_cmp a bs) ≡ Some a
found_here a n on [] = rw on refl
found_here a n on (b ∷ bs) = elim (is_lt (link_cmp b a)) as (λ v. is_lt (link_cmp b a) ≡ v → find_link n (if v then b ∷ put link_cmp a bs else a ∷ b ∷ bs) ≡ Some a) [
  | true ↦ λ low. ap (λ w. cond w (Some b) (find_link n (put link_cmp a bs))) (other_before a b n low on) ∙ found_here a n on bs
  | false ↦ λ _. rw on refl
] refl

-- a link that is put into its place is found under its name, and what was under every other
pub found_put : (n : List ℕ) (a : Link) (bs : List Link) → find_link n (put link_cmp a bs) ≡ cond (is_named n a) (Some a) (find_link n bs)
found_put n a bs = elim (is_named n a) as (λ v. is_named n a ≡ v → find_link n (put link_cmp a bs) ≡ cond v (Some a) (find_link n bs)) [
  | true ↦ λ on. found_here a n on bs
  | false ↦ λ off. find_other link_cmp a (is_named n) off bs
] refl

-- the order makes no difference to what is found
found_sorted : (n : List ℕ) (xs : List Link) → find_link n (sorted link_cmp xs) ≡ find_link n xs
found_sorted n [] = refl
found_sorted n (x ∷ xs) = found_put n x (sorted link_cmp xs) ∙ ap (λ o. cond (is_named n x) (Some x) o) (found_sorted n xs)

-- a link that is noted is found under its name
found_made : (n : List ℕ) (es : List (List ℕ × NewLink)) → find_link n (made_links es) ≡ option_map (made_link n) (lookup (is_at (name_cmp n)) es)
found_made n [] = refl
found_made n (e ∷ es) =
    elim (same_bytes e.0 n) as (λ v. same_bytes e.0 n ≡ v → cond v (Some (made_link e.0 e.1)) (find_link n (made_links es)) ≡ option_map (made_link n) (cond v (Some e.1) (lookup (is_at (name_cmp n)) es))) [
      | true ↦ λ on. ap (λ (m : List ℕ). Some (made_link m e.1)) (one_name e.0 n on)
      | false ↦ λ _. found_made n es
    ] refl
    ∙ ap (λ b. option_map (made_link n) (cond b (Some e.1) (lookup (is_at (name_cmp n)) es))) (either_way e.0 n ∙ texts_ties n e.0)

-- a link is found in the network, or where it isn't there among those that are noted
pub found_noted : (n : List ℕ) (links : List Link) (es : List (List ℕ × NewLink)) → find_link n (sorted link_cmp (links ++ made_links es)) ≡ option_or (find_link n links) (option_map (made_link n) (lookup (is_at (name_cmp n)) es))
found_noted n links es = found_sorted n (links ++ made_links es) ∙ find-append (is_named n) links (made_links es) ∙ ap (λ o. option_or (find_link n links) o) (found_made n es)

module _ (n : List ℕ) (links : List Link) (es : List (List ℕ × NewLink)) where
  pub found_in_net : (l : Link) → find_link n links ≡ Some l → Some (mtu_and_mac l) ≡ option_map mtu_and_mac (find_link n (sorted link_cmp (links ++ made_links es)))
  found_in_net l found = sym (ap (option_map mtu_and_mac) (found_noted n links es ∙ ap (λ (o : Option Link). option_or o (option_map (made_link n) (lookup (is_at (name_cmp n)) es))) found))

  pub found_in_map : find_link n links ≡ None → option_map own_mtu_and_mac (lookup (is_at (name_cmp n)) es) ≡ option_map mtu_and_mac (find_link n (sorted link_cmp (links ++ made_links es)))
  found_in_map none =
      of (lookup (is_at (name_cmp n)) es) ∙ sym (ap (option_map mtu_and_mac) (found_noted n links es ∙ ap (λ (o : Option Link). option_or o (option_map (made_link n) (lookup (is_at (name_cmp n)) es))) none))
    where
      of : (o : Option NewLink) → option_map own_mtu_and_mac o ≡ option_map mtu_and_mac (option_map (made_link n) o)
      of None = refl
      of (Some first) = refl

-- ---- names that differ

both : (x y : Link) → same_name x y ≡ same_name y x
both = tied_both same_name link_cmp link_cmp_total names_tie

-- where links in order rise, their names differ
pub differ_from : (xs : List Link) → rises link_cmp (sorted link_cmp xs) ≡ true → names_differ xs ≡ true
differ_from xs up = apart-IsPermutation same_name both xs (sorted link_cmp xs) (sorted_moves link_cmp link_cmp_total xs) ∙ names_differ-rises (sorted link_cmp xs) up

-- the same links, sorted, are the links in order
pub sorted_links : (xs ys : List Link) → IsPermutation xs ys → IsSorted link_cmp ys → names_differ xs ≡ true → ys ≡ sorted link_cmp xs
sorted_links xs ys moved up differ =
    let rising : rises link_cmp ys ≡ true = sym (apart-sorted same_name link_cmp link_cmp_total names_tie ys (Climbs-sorted link_cmp link_cmp_total ys up)) ∙ sym (apart-IsPermutation same_name both xs ys moved) ∙ differ in
    sym (sorted_itself link_cmp link_cmp_total ys rising) ∙ sym (same_sorted same_name link_cmp link_cmp_total names_tie xs ys moved differ)

-- a network with no link more
pub with_none : (net : NetData) → IsNet net → with_links [] net ≡ net
with_none net is = ap (λ (ls : List Link). record net { links = ls }) (ap (sorted link_cmp) (append-nil net.links) ∙ sorted_itself link_cmp link_cmp_total net.links is.in_order.links)

-- ---- a link that is noted

nothing_mapped : {X Y : Type 0} (f : X → Y) (o : Option X) → option_map f o ≡ None → o ≡ None
nothing_mapped f None h = refl
nothing_mapped f (Some x) h = absurd cc

second_none : {X : Type 0} (o p : Option X) → option_or o p ≡ None → p ≡ None
second_none None p h = h
second_none (Some x) p h = absurd cc

-- what is put into the map is one entry more, wherever its place is
insert_moves : (n : List ℕ) (first : NewLink) (es : List (List ℕ × NewLink)) → lookup (is_at (name_cmp n)) es ≡ None → IsPermutation ((n, first) ∷ es) (insert_entry name_cmp es n first)
insert_moves n first [] none = IsPermutation-refl ((n, first) ∷ [])
insert_moves n first (e ∷ es) none = by (name_cmp n e.0) none (insert_moves n first es)
  where
    by : (r : Ordering) → cond (is_eq r) (Some e.1) (lookup (is_at (name_cmp n)) es) ≡ None → (lookup (is_at (name_cmp n)) es ≡ None → IsPermutation ((n, first) ∷ es) (insert_entry name_cmp es n first))
        → IsPermutation ((n, first) ∷ e ∷ es) (match_ordering r ((n, first) ∷ e ∷ es) ((e.0, first) ∷ es) (e ∷ insert_entry name_cmp es n first))
    by Less h rest = IsPermutation-refl ((n, first) ∷ e ∷ es)
    by Equal h rest = absurd cc
    by Greater h rest =
        IsPermutation-trans ((n, first) ∷ e ∷ es) (e ∷ (n, first) ∷ es) (e ∷ insert_entry name_cmp es n first) (IsPermutation-middle ((n, first) ∷ []) e es)
        (IsPermutation-cons e ((n, first) ∷ es) (insert_entry name_cmp es n first) (rest h))

module _ (links : List Link) (es : List (List ℕ × NewLink)) (n : List ℕ) (first : NewLink) (differ : names_differ (links ++ made_links es) ≡ true) (missing : find_link n (sorted link_cmp (links ++ made_links es)) ≡ None) where
  abbrev made : Link
  made = made_link n first

  abbrev all : List Link
  all = links ++ made_links es

  abbrev more : List Link
  more = links ++ made_links (insert_entry name_cmp es n first)

  differ_made : names_differ (made ∷ all) ≡ true
  differ_made = and_both (not (list_any (same_name made) all)) (names_differ all) (not_false (list_any (same_name made) all) (not_there (is_named n) all (sym (found_sorted n all) ∙ missing))) differ

  absent : lookup (is_at (name_cmp n)) es ≡ None
  absent = nothing_mapped (made_link n) (lookup (is_at (name_cmp n)) es) (second_none (find_link n links) (option_map (made_link n) (lookup (is_at (name_cmp n)) es)) (sym (found_noted n links es) ∙ missing))

  moved : IsPermutation (made ∷ all) more
  moved =
      IsPermutation-trans (made ∷ all) (links ++ made ∷ made_links es) more
      (IsPermutation-sym (links ++ made ∷ made_links es) (made ∷ all) (IsPermutation-middle links made (made_links es)))
      (IsPermutation-append_right links (made ∷ made_links es) (made_links (insert_entry name_cmp es n first)) (IsPermutation-map (λ e. made_link e.0 e.1) ((n, first) ∷ es) (insert_entry name_cmp es n first) (insert_moves n first es absent)))

  -- it is put into its place
  joined_more : sorted link_cmp more ≡ put link_cmp made (sorted link_cmp all)
  joined_more = sym (same_sorted same_name link_cmp link_cmp_total names_tie (made ∷ all) more moved differ_made)

  differ_more : names_differ more ≡ true
  differ_more = sym (apart-IsPermutation same_name both (made ∷ all) more moved) ∙ differ_made

-- a veth's peer is noted with it
joined_pair : (links : List Link) (es : List (List ℕ × NewLink)) (name peer : List ℕ) → names_differ (links ++ made_links es) ≡ true → find_link name (sorted link_cmp (links ++ made_links es)) ≡ None
    → find_link peer (sorted link_cmp (links ++ made_links es)) ≡ None → same_bytes name peer ≡ false
    → sorted link_cmp (links ++ made_links (peer_put name (Veth peer) (insert_entry name_cmp es name (own_first name (Veth peer))))) ≡ with_peer name (Veth peer) (with_new name (Veth peer) (sorted link_cmp (links ++ made_links es)))
joined_pair links es name peer differ missing free other =
    let first : NewLink = own_first name (Veth peer) in
    let old : List Link = sorted link_cmp (links ++ made_links es) in
    let es' : List (List ℕ × NewLink) = insert_entry name_cmp es name first in
    let one : sorted link_cmp (links ++ made_links es') ≡ put link_cmp (made_link name first) old = joined_more links es name first differ missing in
    let missing' : find_link peer (sorted link_cmp (links ++ made_links es')) ≡ None =
    ap (find_link peer) one ∙ found_put peer (made_link name first) old ∙ ap (λ b. cond b (Some (made_link name first)) (find_link peer old)) other ∙ free in
    joined_more links es' peer (own_first peer (Veth name)) (differ_more links es name first differ missing) missing'
    ∙ ap (put link_cmp (made_link peer (own_first peer (Veth name)))) one

-- the links with those of a creation more are as after the call
pub joined_new : (links : List Link) (es : List (List ℕ × NewLink)) (name : List ℕ) (kind : Kind) → names_differ (links ++ made_links es) ≡ true → find_link name (sorted link_cmp (links ++ made_links es)) ≡ None
    → ((peer : List ℕ) → kind ≡ Veth peer → (find_link peer (sorted link_cmp (links ++ made_links es)) ≡ None) × (same_bytes name peer ≡ false))
    → sorted link_cmp (links ++ made_links (peer_put name kind (insert_entry name_cmp es name (first_of (sorted link_cmp (links ++ made_links es)) name kind)))) ≡ with_peer name kind (with_new name kind (sorted link_cmp (links ++ made_links es)))
joined_new links es name (Veth peer) differ missing free = let f = free peer refl in joined_pair links es name peer differ missing f.0 f.1
joined_new links es name (Vlan base id proto) differ missing free = joined_more links es name (first_of (sorted link_cmp (links ++ made_links es)) name (Vlan base id proto)) differ missing
joined_new links es name (Ethernet mac) differ missing free = joined_more links es name (first_of (sorted link_cmp (links ++ made_links es)) name (Ethernet mac)) differ missing
joined_new links es name (Bond mode) differ missing free = joined_more links es name (first_of (sorted link_cmp (links ++ made_links es)) name (Bond mode)) differ missing
joined_new links es name Bridge differ missing free = joined_more links es name (first_of (sorted link_cmp (links ++ made_links es)) name Bridge) differ missing
joined_new links es name (Vrf table) differ missing free = joined_more links es name (first_of (sorted link_cmp (links ++ made_links es)) name (Vrf table)) differ missing
joined_new links es name Dummy differ missing free = joined_more links es name (first_of (sorted link_cmp (links ++ made_links es)) name Dummy) differ missing

-- ---- what a new link begins with

-- a VLAN takes over what its base has
pub first_over : (links : List Link) (name : List ℕ) (kind : Kind) (mtu : ℕ) (mac : Mac) → option_map mtu_and_mac (base_link links kind) ≡ Some (mtu, mac) → begins kind mtu mac ≡ first_of links name kind
first_over links name (Vlan base id proto) mtu mac h = of (find_link base links) h
  where
    one : (p q : ℕ × Mac) → Some p ≡ Some q → p ≡ q
    one p q e = cc

    of : (o : Option Link) → option_map mtu_and_mac o ≡ Some (mtu, mac)
        → begins (Vlan base id proto) mtu mac ≡ begins (Vlan base id proto) (option_map_or (λ (b : Link). b.mtu) o DEFAULT_MTU) (option_map_or (λ (b : Link). b.mac) o (virtual_mac name))
    of None h = absurd cc
    of (Some b) h = ap (λ (p : ℕ × Mac). begins (Vlan base id proto) p.0 p.1) (sym (one (mtu_and_mac b) (mtu, mac) h))
first_over links name (Ethernet permanent) mtu mac h = absurd cc
first_over links name (Bond mode) mtu mac h = absurd cc
first_over links name Bridge mtu mac h = absurd cc
first_over links name (Vrf table) mtu mac h = absurd cc
first_over links name Dummy mtu mac h = absurd cc
first_over links name (Veth peer) mtu mac h = absurd cc

-- every other link, and a VLAN without a base, takes over nothing
pub first_alone : (links : List Link) (name : List ℕ) (kind : Kind) → option_map mtu_and_mac (base_link links kind) ≡ None → own_first name kind ≡ first_of links name kind
first_alone links name (Vlan base id proto) h = of (find_link base links) h
  where
    of : (o : Option Link) → option_map mtu_and_mac o ≡ None
        → own_first name (Vlan base id proto) ≡ begins (Vlan base id proto) (option_map_or (λ (b : Link). b.mtu) o DEFAULT_MTU) (option_map_or (λ (b : Link). b.mac) o (virtual_mac name))
    of None h = refl
    of (Some b) h = absurd cc
first_alone links name (Ethernet permanent) h = refl
first_alone links name (Bond mode) h = refl
first_alone links name Bridge h = refl
first_alone links name (Vrf table) h = refl
first_alone links name Dummy h = refl
first_alone links name (Veth peer) h = refl
