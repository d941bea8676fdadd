-- What edits of links do to the set of the keys of VLANs.
use Rattle.std.proofs.Common.{◌≡◌, ◌∙◌, ℕ, ◌+◌, ◌<◌, Bool, true, false, not, ◌&&◌, ◌||◌, ◌==◌, cond, List, [], ◌∷◌, ◌++◌, map, filter, length, take, get_or, Some, None, refl, sym, ap, ap₂, eqb-true}
use Rattle.std.specs.List.{list_any}
use Rattle.std.specs.Option.{option_map_or}
use Rattle.std.specs.Ordering.{is_eq, nat_cmp, bool_cmp, ordering_then}
use Rattle.std.specs.Cmp.{unsigned_ties, both_tied}
use Rattle.std.specs.Cmp.Lexicographic.{texts_ties}
use Rattle.std.specs.BTreeSet.{BTreeSet, contains, IsUnchanged, Updates}
use Rattle.net_model.specs.Name.{same_bytes}
use Rattle.net_model.specs.Words.{apart, rises, put, is_among}
use Rattle.net_model.specs.Order.{name_cmp, link_cmp}
use Rattle.net_model.specs.Links.{find_link, is_named, named_passes, is_twin}
use Rattle.net_model.specs.declared.link.Kind.{Kind}
use Rattle.net_model.specs.declared.link.Kind.TheVariants.{Ethernet, Bond, Bridge, Vlan, Vrf, Dummy, Veth}
use Rattle.net_model.specs.declared.link.Link.{Link}
use Rattle.net_model.specs.Twins.{is_dot1ad, vlan_key, vlan_cmp, has_key, HasVlans, Loses}
use Rattle.net_model.specs.Valid.{vlans_differ}
use Rattle.net_model.proofs.lemmas.Truth.{and_left, and_right, and_both, not_true, not_false, or_left_false, or_right_false}
use Rattle.net_model.proofs.lemmas.Found.{one_name, named_passes_found}
use Rattle.net_model.proofs.lemmas.Puts.{any_put}
use Rattle.net_model.proofs.lemmas.Listing.{any_agree}
use Rattle.net_model.proofs.lemmas.ListChanges.{among_more, either_way}
use Rattle.net_model.proofs.lemmas.ValidMoved.{is_twin-comm}
use Rattle.net_model.proofs.lemmas.Vlans.{any_more, key_twin, twin_told, other_more}

-- ---- keys

same_bool : (a b : Bool) → is_eq (bool_cmp a b) ≡ true → a ≡ b
same_bool true true h = refl
same_bool true false h = absurd cc
same_bool false true h = absurd cc
same_bool false false h = refl

-- keys that tie are one
pub one_key : (k q : List ℕ × ℕ × Bool) → is_eq (vlan_cmp k q) ≡ true → k ≡ q
one_key (a, i, p) (b, j, r) h =
    let all : (same_bytes a b && (i == j) && is_eq (bool_cmp p r)) ≡ true =
    both_tied (same_bytes a b && (i == j)) (is_eq (bool_cmp p r)) (ordering_then (name_cmp a b) (nat_cmp i j)) (bool_cmp p r)
    (both_tied (same_bytes a b) (i == j) (name_cmp a b) (nat_cmp i j) (texts_ties a b) (unsigned_ties i j)) refl ∙ h in
    let two : (same_bytes a b && (i == j)) ≡ true = and_left (same_bytes a b && (i == j)) (is_eq (bool_cmp p r)) all in
    let base : a ≡ b = one_name a b (and_left (same_bytes a b) (i == j) two) in
    let id : i ≡ j = eqb-true i j (and_right (same_bytes a b) (i == j) two) in
    let proto : p ≡ r = same_bool p r (and_right (same_bytes a b && (i == j)) (is_eq (bool_cmp p r)) all) in
    rw (base, id, proto) refl

-- a kind that has a key has it alone
pub own_key : (kind : Kind) (q : List ℕ × ℕ × Bool) → has_key q kind ≡ true → vlan_key kind ≡ Some q
own_key (Vlan base id proto) q h = ap (λ (k : List ℕ × ℕ × Bool). Some k) (one_key (base, id, is_dot1ad proto) q h)
own_key (Ethernet m) q h = absurd cc
own_key (Bond m) q h = absurd cc
own_key Bridge q h = absurd cc
own_key (Vrf t) q h = absurd cc
own_key Dummy q h = absurd cc
own_key (Veth p) q h = absurd cc

-- two with one key are twins
both_twins : (a b : Kind) (q : List ℕ × ℕ × Bool) → has_key q a ≡ true → has_key q b ≡ true → is_twin a b ≡ true
both_twins a (Vlan base id proto) q ha hb =
    sym (key_twin base id proto a) ∙ ap (λ (k : List ℕ × ℕ × Bool). has_key k a) (one_key (base, id, is_dot1ad proto) q hb) ∙ ha
both_twins a (Ethernet m) q ha hb = absurd cc
both_twins a (Bond m) q ha hb = absurd cc
both_twins a Bridge q ha hb = absurd cc
both_twins a (Vrf t) q ha hb = absurd cc
both_twins a Dummy q ha hb = absurd cc
both_twins a (Veth p) q ha hb = absurd cc

-- the set tells whether a kind has a twin
pub twin_there : (links : List Link) (seen : BTreeSet (List ℕ × ℕ × Bool)) (kind : Kind) → HasVlans seen links
    → option_map_or (contains vlan_cmp seen) (vlan_key kind) false ≡ list_any (λ (l : Link). is_twin kind l.kind) links
twin_there links seen kind has =
    twin_told links seen kind has ∙ any_agree (λ (l : Link). is_twin l.kind kind) (λ (l : Link). is_twin kind l.kind) (λ l. is_twin-comm l.kind kind) links

-- ---- sets that stay

-- a set with the same keys
pub unchanged : (links : List Link) (old new : BTreeSet (List ℕ × ℕ × Bool)) → IsUnchanged old new → HasVlans old links → HasVlans new links
unchanged links old new same has = λ q. ap (λ (ks : List (List ℕ × ℕ × Bool)). list_any (λ k. is_eq (vlan_cmp q k)) ks) same ∙ has q

-- a change of links that keeps their kinds
pub vlans_map : (f : Link → Link) → ((l : Link) → (f l).kind ≡ l.kind) → (links : List Link) (seen : BTreeSet (List ℕ × ℕ × Bool)) → HasVlans seen links → HasVlans seen (map f links)
vlans_map f kinds links seen has = λ q. has q ∙ sym (same q links)
  where
    same : (q : List ℕ × ℕ × Bool) (ls : List Link) → list_any (λ (l : Link). has_key q l.kind) (map f ls) ≡ list_any (λ (l : Link). has_key q l.kind) ls
    same q [] = refl
    same q (l ∷ ls) = ap₂ (λ (a b : Bool). a || b) (ap (λ (k : Kind). has_key q k) (kinds l)) (same q ls)

-- ---- one link more

-- a link that is put into its place
pub vlans_put : (link : Link) (links : List Link) (seen : BTreeSet (List ℕ × ℕ × Bool)) → HasVlans seen (links ++ link ∷ []) → HasVlans seen (put link_cmp link links)
vlans_put link links seen has = λ q.
    has q ∙ any_more (λ (l : Link). has_key q l.kind) links link ∙ either (has_key q link.kind) (list_any (λ (l : Link). has_key q l.kind) links)
    ∙ sym (any_put link_cmp link (λ (l : Link). has_key q l.kind) links)
  where
    either : (a b : Bool) → cond a true b ≡ (a || b)
    either true b = refl
    either false b = refl

-- one that is no VLAN
pub vlans_put-other : (link : Link) (links : List Link) (seen : BTreeSet (List ℕ × ℕ × Bool)) → vlan_key link.kind ≡ None → HasVlans seen links → HasVlans seen (put link_cmp link links)
vlans_put-other link links seen none has = vlans_put link links seen (other_more links link seen none has)

-- ---- keys that go

and_not : (b c : Bool) → cond b false c ≡ (c && not b)
and_not true true = refl
and_not true false = refl
and_not false true = refl
and_not false false = refl

pub and_true : (b : Bool) → (b && true) ≡ b
and_true true = refl
and_true false = refl

-- the key of a VLAN that is taken out
pub one_lost : (kind : Kind) (key : List ℕ × ℕ × Bool) (old new : BTreeSet (List ℕ × ℕ × Bool)) → vlan_key kind ≡ Some key → Updates vlan_cmp old new key false → Loses (λ q. has_key q kind) old new
one_lost kind key old new is u = λ q.
    u.0 q ∙ and_not (is_eq (vlan_cmp key q)) (contains vlan_cmp old q)
    ∙ ap (λ o. contains vlan_cmp old q && not (option_map_or (λ k. is_eq (vlan_cmp k q)) o false)) (sym is)

-- a link that is no VLAN has none
pub none_lost : (kind : Kind) (seen : BTreeSet (List ℕ × ℕ × Bool)) → vlan_key kind ≡ None → Loses (λ q. has_key q kind) seen seen
none_lost kind seen is = λ q.
    sym (ap (λ o. contains vlan_cmp seen q && not (option_map_or (λ k. is_eq (vlan_cmp k q)) o false)) is ∙ and_true (contains vlan_cmp seen q))

-- the key of the link that a name finds
pub named_lost : (name : List ℕ) (link : Link) (links : List Link) (old new : BTreeSet (List ℕ × ℕ × Bool)) → find_link name links ≡ Some link → Loses (λ q. has_key q link.kind) old new
    → Loses (λ q. option_map_or (λ (l : Link). has_key q l.kind) (find_link name links) false) old new
named_lost name link links old new found loses = λ q.
    loses q ∙ ap (λ o. contains vlan_cmp old q && not (option_map_or (λ (l : Link). has_key q l.kind) o false)) (sym found)

-- a name that finds none
pub unnamed_lost : (name : List ℕ) (links : List Link) (seen : BTreeSet (List ℕ × ℕ × Bool)) → find_link name links ≡ None → Loses (λ q. option_map_or (λ (l : Link). has_key q l.kind) (find_link name links) false) seen seen
unnamed_lost name links seen none = λ q.
    sym (ap (λ o. contains vlan_cmp seen q && not (option_map_or (λ (l : Link). has_key q l.kind) o false)) none ∙ and_true (contains vlan_cmp seen q))

-- where no name goes, no key does
pub nothing_lost : (links : List Link) (seen : BTreeSet (List ℕ × ℕ × Bool)) → Loses (λ q. list_any (λ (l : Link). false && has_key q l.kind) links) seen seen
nothing_lost links seen = λ q. sym (ap (λ (b : Bool). contains vlan_cmp seen q && not b) (none q links) ∙ and_true (contains vlan_cmp seen q))
  where
    none : (q : List ℕ × ℕ × Bool) (ls : List Link) → list_any (λ (l : Link). false && has_key q l.kind) ls ≡ false
    none q [] = refl
    none q (l ∷ ls) = none q ls

-- one of two tests passes where their either does
any_either : (p r s : Link → Bool) → ((l : Link) → (p l || r l) ≡ s l) → (links : List Link) → (list_any p links || list_any r links) ≡ list_any s links
any_either p r s same [] = refl
any_either p r s same (l ∷ ls) = shuffle (p l) (list_any p ls) (r l) (list_any r ls) ∙ ap₂ (λ (a b : Bool). a || b) (same l) (any_either p r s same ls)
  where
    shuffle : (a b c d : Bool) → ((a || b) || (c || d)) ≡ ((a || c) || (b || d))
    shuffle true b c d = refl
    shuffle false true true d = refl
    shuffle false true false d = refl
    shuffle false false c d = refl

-- one name more whose key goes
pub lost_more : (goes : List (List ℕ)) (i : ℕ) (name : List ℕ) (links : List Link) (first old new : BTreeSet (List ℕ × ℕ × Bool)) → rises link_cmp links ≡ true → i < length goes → name ≡ get_or goes i name
    → Loses (λ q. list_any (λ (l : Link). is_among (take i goes) l.name && has_key q l.kind) links) first old
    → Loses (λ q. option_map_or (λ (l : Link). has_key q l.kind) (find_link name links) false) old new
    → Loses (λ q. list_any (λ (l : Link). is_among (take (i + 1) goes) l.name && has_key q l.kind) links) first new
lost_more goes i name links first old new up lt own before loses = λ q.
    loses q
    ∙ ap₂ (λ (a b : Bool). a && not b) (before q) (sym (named_passes_found (λ (l : Link). has_key q l.kind) links name up))
    ∙ both (contains vlan_cmp first q) (list_any (λ (l : Link). is_among (take i goes) l.name && has_key q l.kind) links) (named_passes (λ (l : Link). has_key q l.kind) links name)
    ∙ ap (λ (b : Bool). contains vlan_cmp first q && not b)
    (any_either (λ (l : Link). is_among (take i goes) l.name && has_key q l.kind) (λ (l : Link). is_named name l && has_key q l.kind) (λ (l : Link). is_among (take (i + 1) goes) l.name && has_key q l.kind)
    (λ l. with_one (is_among (take i goes) l.name) (is_named name l) (has_key q l.kind)
    ∙ ap (λ (b : Bool). b && has_key q l.kind) (ap (λ (b : Bool). is_among (take i goes) l.name || (b || false)) (either_way l.name name) ∙ sym (among_more goes i name l.name lt own)))
    links)
  where
    both : (c u v : Bool) → ((c && not u) && not v) ≡ (c && not (u || v))
    both true true v = refl
    both true false v = refl
    both false u v = refl

    with_one : (u v k : Bool) → ((u && k) || (v && k)) ≡ ((u || (v || false)) && k)
    with_one true v true = refl
    with_one true true false = refl
    with_one true false false = refl
    with_one false true true = refl
    with_one false true false = refl
    with_one false false k = refl

-- ---- the keys of the links that stay, where no two have one

-- what none passes, none passes with more asked
none_less : {X : Type 0} (p r : X → Bool) → ((x : X) → r x ≡ true → p x ≡ true) → (xs : List X) → list_any p xs ≡ false → list_any r xs ≡ false
none_less p r less [] h = refl
none_less p r less (x ∷ xs) h =
    elim (r x) as (λ v. r x ≡ v → (v || list_any r xs) ≡ false) [
      | true ↦ λ e. sym (less x e) ∙ or_left_false (p x) (list_any p xs) h
      | false ↦ λ e. none_less p r less xs (or_right_false (p x) (list_any p xs) h)
    ] refl

-- and members that are apart, are so with more asked
apart_less : {X : Type 0} (E F : X → X → Bool) → ((x y : X) → F x y ≡ true → E x y ≡ true) → (xs : List X) → apart E xs ≡ true → apart F xs ≡ true
apart_less E F less [] h = refl
apart_less E F less (x ∷ xs) h =
    and_both (not (list_any (F x) xs)) (apart F xs)
    (not_false (list_any (F x) xs) (none_less (E x) (F x) (less x) xs (not_true (list_any (E x) xs) (and_left (not (list_any (E x) xs)) (apart E xs) h))))
    (apart_less E F less xs (and_right (not (list_any (E x) xs)) (apart E xs) h))

-- of a list in which at most one has the key, the key is gone exactly where that one goes
one_at_most : {X : Type 0} (goes has : X → Bool) (xs : List X) → apart (λ x y. has x && has y) xs ≡ true → (list_any has xs && not (list_any (λ x. goes x && has x) xs)) ≡ list_any has (filter (λ x. not (goes x)) xs)
one_at_most goes has [] h = refl
one_at_most goes has (x ∷ xs) h =
    let alone : list_any (λ y. has x && has y) xs ≡ false = not_true (list_any (λ y. has x && has y) xs) (and_left (not (list_any (λ y. has x && has y) xs)) (apart (λ y z. has y && has z) xs) h) in
    let rest : (list_any has xs && not (list_any (λ y. goes y && has y) xs)) ≡ list_any has (filter (λ y. not (goes y)) xs) =
    one_at_most goes has xs (and_right (not (list_any (λ y. has x && has y) xs)) (apart (λ y z. has y && has z) xs) h) in
    elim (has x) as (λ v. list_any (λ y. v && has y) xs ≡ false → has x ≡ v → ((v || list_any has xs) && not ((goes x && v) || list_any (λ y. goes y && has y) xs)) ≡ list_any has (cond (not (goes x)) (x ∷ filter (λ y. not (goes y)) xs) (filter (λ y. not (goes y)) xs))) [
      | true ↦ λ none on.
          elim (goes x) as (λ g. (true && not ((g && true) || list_any (λ y. goes y && has y) xs)) ≡ list_any has (cond (not g) (x ∷ filter (λ y. not (goes y)) xs) (filter (λ y. not (goes y)) xs))) [
            | true ↦ sym (sym rest ∙ ap (λ (b : Bool). b && not (list_any (λ y. goes y && has y) xs)) none)
            | false ↦ ap not (none_less has (λ y. goes y && has y) (λ y e. and_right (goes y) (has y) e) xs none)
                ∙ sym (ap (λ (b : Bool). b || list_any has (filter (λ y. not (goes y)) xs)) on)
          ]
      | false ↦ λ none on.
          elim (goes x) as (λ g. (list_any has xs && not ((g && false) || list_any (λ y. goes y && has y) xs)) ≡ list_any has (cond (not g) (x ∷ filter (λ y. not (goes y)) xs) (filter (λ y. not (goes y)) xs))) [
            | true ↦ rest
            | false ↦ rest ∙ sym (ap (λ (b : Bool). b || list_any has (filter (λ y. not (goes y)) xs)) on)
          ]
    ] alone refl

-- the set has the keys of the links that stay
pub vlans_left : (goes : List ℕ → Bool) (links : List Link) (old new : BTreeSet (List ℕ × ℕ × Bool)) → vlans_differ links ≡ true → HasVlans old links
    → Loses (λ q. list_any (λ (l : Link). goes l.name && has_key q l.kind) links) old new → HasVlans new (filter (λ (l : Link). not (goes l.name)) links)
vlans_left goes links old new differ has loses = λ q.
    loses q ∙ ap (λ (b : Bool). b && not (list_any (λ (l : Link). goes l.name && has_key q l.kind) links)) (has q)
    ∙ one_at_most (λ (l : Link). goes l.name) (λ (l : Link). has_key q l.kind) links
    (apart_less (λ (a b : Link). is_twin a.kind b.kind) (λ (a b : Link). has_key q a.kind && has_key q b.kind)
    (λ a b e. both_twins a.kind b.kind q (and_left (has_key q a.kind) (has_key q b.kind) e) (and_right (has_key q a.kind) (has_key q b.kind) e))
    links differ)

-- ---- a key that was put in and taken out again

-- where it was new, and stays where it wasn't
pub taken_back : (links : List Link) (link : Link) (old seen new : BTreeSet (List ℕ × ℕ × Bool)) (first : Bool) → first ≡ not (option_map_or (contains vlan_cmp old) (vlan_key link.kind) false)
    → HasVlans old links → HasVlans seen (links ++ link ∷ []) → Loses (λ q. first && has_key q link.kind) seen new → HasVlans new links
taken_back links link old seen new first told has more loses = λ q.
    loses q
    ∙ ap (λ (b : Bool). b && not (first && has_key q link.kind)) (more q ∙ any_more (λ (l : Link). has_key q l.kind) links link)
    ∙ undone (has_key q link.kind) (list_any (λ (l : Link). has_key q l.kind) links) first
    (λ on. told ∙ ap (λ o. not (option_map_or (contains vlan_cmp old) o false)) (own_key link.kind q on) ∙ ap not (has q))
  where
    undone : (own there fresh : Bool) → (own ≡ true → fresh ≡ not there) → (cond own true there && not (fresh && own)) ≡ there
    undone true true true is = sym (is refl)
    undone true true false is = refl
    undone true false true is = refl
    undone true false false is = sym (is refl)
    undone false true true is = refl
    undone false true false is = refl
    undone false false fresh is = refl
