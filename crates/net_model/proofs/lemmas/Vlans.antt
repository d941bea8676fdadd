-- The keys of VLANs, and one VLAN more.
use Rattle.std.proofs.Common.{◌≡◌, ℕ, ◌+◌, ◌<◌, zero, suc, Bool, true, false, not, ◌&&◌, ◌||◌, ◌==◌, cond, List, [], ◌∷◌, ◌++◌, length, take, get_or, Some, None, refl, sym, ap, ◌∙◌, add-one}
use Rattle.std.proofs.Math.Seq.{take-suc}
use Rattle.std.proofs.lemmas.List.Folds.{list_any-append}
use Rattle.std.specs.List.{list_any}
use Rattle.std.specs.Option.{option_map_or}
use Rattle.std.specs.Ordering.{is_eq, nat_cmp, bool_cmp, ordering_then}
use Rattle.std.specs.Cmp.{unsigned_ties, both_tied}
use Rattle.std.specs.Cmp.Lexicographic.{texts_ties}
use Rattle.std.specs.BTreeSet.{BTreeSet, contains, Updates}
use Rattle.net_model.specs.Name.{same_bytes}
use Rattle.net_model.specs.Order.{name_cmp}
use Rattle.net_model.specs.Links.{is_twin, proto_eq}
use Rattle.net_model.specs.declared.link.Kind.{Kind}
use Rattle.net_model.specs.declared.link.Kind.TheVariants.{Ethernet, Bond, Bridge, Vlan, Vrf, Dummy, Veth}
use Rattle.net_model.specs.declared.options.Proto.{Proto}
use Rattle.net_model.specs.declared.options.Proto.TheVariants.{Dot1q, Dot1ad}
use Rattle.net_model.specs.declared.link.Link.{Link}
use Rattle.net_model.specs.Twins.{is_dot1ad, vlan_key, vlan_cmp, has_key, HasVlans}
use Rattle.net_model.specs.Words.{apart}
use Rattle.net_model.specs.Valid.{vlans_differ}
use Rattle.net_model.proofs.lemmas.Truth.{and_left, and_right, and_both, not_true, not_false, or_left_false, or_right_false}
use Rattle.net_model.proofs.lemmas.Differing.{apart_more, apart_with}

-- whether one passes, with one more
pub any_more : {X : Type 0} (p : X → Bool) (xs : List X) (x : X) → list_any p (xs ++ x ∷ []) ≡ cond (p x) true (list_any p xs)
any_more p xs x = list_any-append p xs (x ∷ []) ∙ turned (list_any p xs) (p x)
  where
    turned : (a b : Bool) → (a || (b || false)) ≡ cond b true a
    turned true true = refl
    turned true false = refl
    turned false true = refl
    turned false false = refl

protos_tie : (p q : Proto) → proto_eq p q ≡ is_eq (bool_cmp (is_dot1ad p) (is_dot1ad q))
protos_tie Dot1q Dot1q = refl
protos_tie Dot1q Dot1ad = refl
protos_tie Dot1ad Dot1q = refl
protos_tie Dot1ad Dot1ad = refl

tie : (a : List ℕ) (i : ℕ) (p : Proto) (b : List ℕ) (j : ℕ) (q : Proto) → (same_bytes a b && (i == j) && proto_eq p q) ≡ is_eq (vlan_cmp (a, i, is_dot1ad p) (b, j, is_dot1ad q))
tie a i p b j q =
    both_tied (same_bytes a b && (i == j)) (proto_eq p q) (ordering_then (name_cmp a b) (nat_cmp i j)) (bool_cmp (is_dot1ad p) (is_dot1ad q))
    (both_tied (same_bytes a b) (i == j) (name_cmp a b) (nat_cmp i j) (texts_ties a b) (unsigned_ties i j))
    (protos_tie p q)

-- a kind with the key of a VLAN is a twin of it
pub key_twin : (b : List ℕ) (j : ℕ) (q : Proto) (a : Kind) → has_key (b, j, is_dot1ad q) a ≡ is_twin a (Vlan b j q)
key_twin b j q (Vlan a i p) = sym (tie a i p b j q)
key_twin b j q (Ethernet m) = refl
key_twin b j q (Bond m) = refl
key_twin b j q Bridge = refl
key_twin b j q (Vrf t) = refl
key_twin b j q Dummy = refl
key_twin b j q (Veth p) = refl

keys_twin : (b : List ℕ) (j : ℕ) (q : Proto) (links : List Link) → list_any (λ (l : Link). has_key (b, j, is_dot1ad q) l.kind) links ≡ list_any (λ (l : Link). is_twin l.kind (Vlan b j q)) links
keys_twin b j q [] = refl
keys_twin b j q (l ∷ ls) = rw (key_twin b j q l.kind, keys_twin b j q ls) refl

no_twin : (a k : Kind) → vlan_key k ≡ None → is_twin a k ≡ false
no_twin (Vlan a i p) (Vlan b j q) h = absurd cc
no_twin (Vlan a i p) _ h = refl
no_twin _ (Vlan b j q) h = refl
no_twin _ _ h = refl

no_twins : (k : Kind) (links : List Link) → vlan_key k ≡ None → list_any (λ (l : Link). is_twin l.kind k) links ≡ false
no_twins k [] h = refl
no_twins k (l ∷ ls) h = rw (no_twin l.kind k h, no_twins k ls h) refl

-- a set with the keys of the VLANs tells whether a kind has a twin among them
pub twin_told : (links : List Link) (seen : BTreeSet (List ℕ × ℕ × Bool)) (k : Kind) → HasVlans seen links → option_map_or (contains vlan_cmp seen) (vlan_key k) false ≡ list_any (λ (l : Link). is_twin l.kind k) links
twin_told links seen (Vlan b j q) h = h (b, j, is_dot1ad q) ∙ keys_twin b j q links
twin_told links seen (Ethernet m) h = sym (no_twins (Ethernet m) links refl)
twin_told links seen (Bond m) h = sym (no_twins (Bond m) links refl)
twin_told links seen Bridge h = sym (no_twins Bridge links refl)
twin_told links seen (Vrf t) h = sym (no_twins (Vrf t) links refl)
twin_told links seen Dummy h = sym (no_twins Dummy links refl)
twin_told links seen (Veth p) h = sym (no_twins (Veth p) links refl)

-- with the key of one VLAN more
pub one_vlan_more : (links : List Link) (l : Link) (seen seen' : BTreeSet (List ℕ × ℕ × Bool)) (key : List ℕ × ℕ × Bool) → vlan_key l.kind ≡ Some key → HasVlans seen links → Updates vlan_cmp seen seen' key true → HasVlans seen' (links ++ l ∷ [])
one_vlan_more links l seen seen' key is h u = λ q.
    u.0 q
    ∙ ap (λ b. cond (is_eq (vlan_cmp key q)) true b) (h q)
    ∙ ap (λ o. cond (option_map_or (λ k. is_eq (vlan_cmp k q)) o false) true (list_any (λ (x : Link). has_key q x.kind) links)) (sym is)
    ∙ sym (any_more (λ (x : Link). has_key q x.kind) links l)

-- and with a link that is no VLAN
pub other_more : (links : List Link) (l : Link) (seen : BTreeSet (List ℕ × ℕ × Bool)) → vlan_key l.kind ≡ None → HasVlans seen links → HasVlans seen (links ++ l ∷ [])
other_more links l seen is h = λ q.
    h q
    ∙ ap (λ o. cond (option_map_or (λ k. is_eq (vlan_cmp k q)) o false) true (list_any (λ (x : Link). has_key q x.kind) links)) (sym is)
    ∙ sym (any_more (λ (x : Link). has_key q x.kind) links l)

-- one that isn't the first is a twin
pub twin_again : (first twin : Bool) → first ≡ not twin → first ≡ false → twin ≡ true
twin_again first true e h = refl
twin_again first false e h = sym h ∙ e

-- and the first is none
pub twin_none : (first twin : Bool) → first ≡ not twin → first ≡ true → twin ≡ false
twin_none first true e h = sym h ∙ e
twin_none first false e h = refl

-- the first so many and the next
take_one : {X : Type 0} (xs : List X) (i : ℕ) (x : X) → i < length xs → x ≡ get_or xs i x → take (i + 1) xs ≡ take i xs ++ x ∷ []
take_one xs i x lt is = rw add-one (take-suc xs i x lt ∙ ap (λ y. take i xs ++ y ∷ []) (sym is))

any_take : {X : Type 0} (p : X → Bool) (xs : List X) (n : ℕ) → list_any p xs ≡ false → list_any p (take n xs) ≡ false
any_take p xs zero h = refl
any_take p [] (suc n) h = refl
any_take p (x ∷ xs) (suc n) h = rw (or_left_false (p x) (list_any p xs) h, any_take p xs n (or_right_false (p x) (list_any p xs) h)) refl

-- the first so many of a list whose members differ do
apart_take : {X : Type 0} (R : X → X → Bool) (xs : List X) (n : ℕ) → apart R xs ≡ true → apart R (take n xs) ≡ true
apart_take R xs zero h = refl
apart_take R [] (suc n) h = refl
apart_take R (x ∷ xs) (suc n) h =
    and_both (not (list_any (R x) (take n xs))) (apart R (take n xs))
    (not_false (list_any (R x) (take n xs)) (any_take (R x) xs n (not_true (list_any (R x) xs) (and_left (not (list_any (R x) xs)) (apart R xs) h))))
    (apart_take R xs n (and_right (not (list_any (R x) xs)) (apart R xs) h))

off : (b : Bool) → (b ≡ true → ⊥) → b ≡ false
off true h = absurd (h refl)
off false h = refl

module _ (links : List Link) (i : ℕ) (l : Link) (lt : i < length links) (is : l ≡ get_or links i l) (seen new : BTreeSet (List ℕ × ℕ × Bool)) (has : HasVlans seen (take i links)) (first : Bool) (told : first ≡ not (option_map_or (contains vlan_cmp seen) (vlan_key l.kind) false)) where
  -- a link whose key was seen is a twin of one of the first
  pub twin_seen : first ≡ false → false ≡ vlans_differ links
  twin_seen again = sym (off (vlans_differ links) (λ differ.
      let whole : apart (λ a b. is_twin a.kind b.kind) (take i links ++ l ∷ []) ≡ true =
      ap (apart (λ a b. is_twin a.kind b.kind)) (sym (take_one links i l lt is)) ∙ apart_take (λ a b. is_twin a.kind b.kind) links (i + 1) differ in
      let none : list_any (λ (x : Link). is_twin x.kind l.kind) (take i links) ≡ false =
      not_true (list_any (λ (x : Link). is_twin x.kind l.kind) (take i links)) (and_right (apart (λ a b. is_twin a.kind b.kind) (take i links)) (not (list_any (λ (x : Link). is_twin x.kind l.kind) (take i links)))
      (sym (apart_more (λ a b. is_twin a.kind b.kind) (take i links) l) ∙ whole)) in
      let one : list_any (λ (x : Link). is_twin x.kind l.kind) (take i links) ≡ true = sym (twin_told (take i links) seen l.kind has) ∙ twin_again first (option_map_or (contains vlan_cmp seen) (vlan_key l.kind) false) told again in
      let wrong : true ≡ false = sym one ∙ none in
      absurd cc))

  -- and one whose key is new is no twin of them
  pub new_differs : first ≡ true → vlans_differ (take i links) ≡ true → vlans_differ (take (i + 1) links) ≡ true
  new_differs fresh differ =
      ap vlans_differ (take_one links i l lt is)
      ∙ apart_with (λ a b. is_twin a.kind b.kind) (take i links) l differ
      (sym (twin_told (take i links) seen l.kind has) ∙ twin_none first (option_map_or (contains vlan_cmp seen) (vlan_key l.kind) false) told fresh)

  -- with its key the set has those of one link more
  pub has_more : ((ls : List Link) → HasVlans seen ls → HasVlans new (ls ++ l ∷ [])) → HasVlans new (take (i + 1) links)
  has_more more = rw (take_one links i l lt is) (more (take i links) has)

-- the set with the keys of the first so many, and the next
pub vlans_more : (links : List Link) (i : ℕ) (l : Link) → i < length links → l ≡ get_or links i l → (seen new : BTreeSet (List ℕ × ℕ × Bool)) → HasVlans seen (take i links)
    → ((ls : List Link) → HasVlans seen ls → HasVlans new (ls ++ l ∷ [])) → HasVlans new (take (i + 1) links)
vlans_more links i l lt is seen new has more = rw (take_one links i l lt is) (more (take i links) has)
