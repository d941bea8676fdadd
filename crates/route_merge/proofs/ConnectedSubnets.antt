-- The index of the connected subnets of links.
use Rattle.std.proofs.Common.{◌≡◌, ℕ, ◌+◌, ◌-◌, ◌/◌, ◌^◌, ◌<◌, Bool, true, false, ◌&&◌, ◌||◌, ◌==◌, List, [], ◌∷◌, ◌++◌, take, length, get_or, map, refl, sym, ap, ◌∙◌}
use Rattle.std.specs.List.{list_any, flat_map}
use Rattle.std.specs.Ordering.{is_eq, bool_cmp, nat_cmp, ordering_then}
use Rattle.std.specs.Cmp.{nat_eq_equiv, unsigned_ties, both_tied}
use Rattle.std.specs.Cmp.Lexicographic.{texts_ties}
use Rattle.std.specs.BTreeSet.{BTreeSet, contains, Updates}
use Rattle.std.proofs.lemmas.Grind.{flat_map-append}
use Rattle.std.proofs.lemmas.List.{append-nil}
use Rattle.std.proofs.lemmas.List.Folds.{list_any-append}
use Rattle.net_model.specs.Name.{same_bytes}
use Rattle.net_model.specs.Words.{bool_eq}
use Rattle.net_model.specs.Address.{Address, Block, max_len}
use Rattle.net_model.specs.OnLink.{holds}
use Rattle.net_model.specs.Order.{name_cmp}
use Rattle.net_model.specs.Links.{named_passes}
use Rattle.net_model.specs.declared.Link.{Link}
use Rattle.net_model.proofs.lemmas.Truth.{and_left, and_right}
use Rattle.merge_model.proofs.lemmas.Equal.{same_of}
use Rattle.merge_model.proofs.lemmas.Steps.{take_one}
use Rattle.route_merge.specs.Connected.{Connected, connected, connected_of, connected_cmp, same_connected, alike, narrowed, HasLengths, HasConnected}
use Rattle.route_merge.proofs.AbsentRules.{bools_tie}
use Rattle.route_merge.proofs.Narrowed.{shape_known, shape_new, noted, matched}

abbrev always : Connected → Bool
always k = true

abbrev own : Connected → Connected
own k = k

itself : (a : Connected) → alike a a ≡ true
itself a = nat_eq_equiv.refl a.2

congr : (a b q : Connected) → alike a b ≡ true → alike a q ≡ alike b q
congr a b q h = ap (λ (n : ℕ). n == q.2) (same_of a.2 b.2 h)

tie : (a b : Connected) → same_connected a b ≡ is_eq (connected_cmp a b)
tie a b =
    both_tied (same_bytes a.0 b.0 && bool_eq a.1 b.1 && (a.2 == b.2)) (a.3 == b.3) (ordering_then (ordering_then (name_cmp a.0 b.0) (bool_cmp a.1 b.1)) (nat_cmp a.2 b.2)) (nat_cmp a.3 b.3)
    (both_tied (same_bytes a.0 b.0 && bool_eq a.1 b.1) (a.2 == b.2) (ordering_then (name_cmp a.0 b.0) (bool_cmp a.1 b.1)) (nat_cmp a.2 b.2)
    (both_tied (same_bytes a.0 b.0) (bool_eq a.1 b.1) (name_cmp a.0 b.0) (bool_cmp a.1 b.1) (texts_ties a.0 b.0) (bools_tie a.1 b.1))
    (unsigned_ties a.2 b.2))
    (unsigned_ties a.3 b.3)

-- the lengths with that of one more
pub length_pushed : (lengths new : List Connected) (k : Connected) → new ≡ lengths ++ k ∷ [] → (ks : List Connected) → HasLengths lengths ks → HasLengths new (ks ++ k ∷ [])
length_pushed lengths new k more ks h q = ap (λ (ss : List Connected). list_any (λ s. alike s q) ss) more ∙ shape_new always own alike same_connected lengths ks k refl h q

-- or without it
pub length_kept : (lengths : List Connected) (k : Connected) → list_any (λ s. alike s k) lengths ≡ true → (ks : List Connected) → HasLengths lengths ks → HasLengths lengths (ks ++ k ∷ [])
length_kept lengths k known ks h q = shape_known always own alike same_connected lengths ks k congr known h q

-- the set with one more
pub one_connected_more : (set set' : BTreeSet Connected) (k : Connected) → Updates connected_cmp set set' k true → (ks : List Connected) → HasConnected set ks → HasConnected set' (ks ++ k ∷ [])
one_connected_more set set' k u ks h = noted always own alike same_connected connected_cmp set set' ks k tie refl u h

-- what a gateway has to be in, where it is in this subnet
sound : (x : List ℕ × Address) (k s : Connected) → same_connected k (narrowed s x) ≡ true → same_connected k (narrowed k x) ≡ true
sound x k s h =
    let front = and_left (same_bytes k.0 x.0 && bool_eq k.1 x.1.v6 && (k.2 == s.2)) (k.3 == x.1.bits / 2 ^ (max_len x.1.v6 - s.2)) h in
    let len : s.2 ≡ k.2 = sym (same_of k.2 s.2 (and_right (same_bytes k.0 x.0 && bool_eq k.1 x.1.v6) (k.2 == s.2) front)) in
    ap (λ (n : ℕ). same_connected k (connected x.0 x.1 n)) (sym len) ∙ h

holding : (dev : List ℕ) (b : Block) (x : List ℕ × Address) → same_connected (connected dev b.addr b.len) (narrowed (connected dev b.addr b.len) x) ≡ (same_bytes dev x.0 && holds b x.1)
holding dev b x = by (same_bytes dev x.0) b.addr.v6 x.1.v6 (nat_eq_equiv.refl b.len)
  where
    by : (named u v : Bool) → (b.len == b.len) ≡ true → (named && bool_eq u v && (b.len == b.len) && (b.addr.bits / 2 ^ (max_len u - b.len) == x.1.bits / 2 ^ (max_len v - b.len))) ≡ (named && (bool_eq u v && (b.addr.bits / 2 ^ (max_len u - b.len) == x.1.bits / 2 ^ (max_len u - b.len))))
    by false u v e = refl
    by true true true e = rw e refl
    by true false false e = rw e refl
    by true true false e = refl
    by true false true e = refl

held_by : (l : Link) (bs : List Block) (x : List ℕ × Address) → list_any (λ k. same_connected k (narrowed k x)) (map (λ b. connected l.name b.addr b.len) bs) ≡ (same_bytes l.name x.0 && list_any (λ b. holds b x.1) bs)
held_by l [] x = none (same_bytes l.name x.0)
  where
    none : (named : Bool) → false ≡ (named && false)
    none true = refl
    none false = refl
held_by l (b ∷ bs) x = rw (holding l.name b x, held_by l bs x) (joined (same_bytes l.name x.0) (holds b x.1) (list_any (λ b. holds b x.1) bs))
  where
    joined : (named p q : Bool) → ((named && p) || (named && q)) ≡ (named && (p || q))
    joined true p q = refl
    joined false p q = refl

held_among : (links : List Link) (x : List ℕ × Address) → list_any (λ k. same_connected k (narrowed k x)) (flat_map connected_of links) ≡ named_passes (λ l. list_any (λ b. holds b x.1) l.addrs) links x.0
held_among [] x = refl
held_among (l ∷ ls) x = list_any-append (λ k. same_connected k (narrowed k x)) (connected_of l) (flat_map connected_of ls) ∙ rw (held_by l l.addrs x, held_among ls x) refl

-- what the index finds is what holds the gateway
pub found : (lengths : List Connected) (set : BTreeSet Connected) (links : List Link) (dev : List ℕ) (gateway : Address) → HasLengths lengths (flat_map connected_of links) → HasConnected set (flat_map connected_of links)
    → list_any (λ s. contains connected_cmp set (narrowed s (dev, gateway))) lengths ≡ named_passes (λ l. list_any (λ b. holds b gateway) l.addrs) links dev
found lengths set links dev gateway long held =
    let x : List ℕ × Address = (dev, gateway) in
    let none : Connected = connected dev gateway 0 in
    matched always own alike same_connected narrowed (λ k x. same_connected k (narrowed k x)) lengths (contains connected_cmp set) (flat_map connected_of links) none none x
    itself (λ a b h. ap (λ (n : ℕ). connected dev gateway n) (same_of a.2 b.2 h)) (λ k h. h) (λ k s h. sound x k s h) long held
    ∙ held_among links x

-- the subnets of one link more
pub one_link_more : (links : List Link) (at : ℕ) (x : Link) → at < length links → x ≡ get_or links at x → flat_map connected_of (take (at + 1) links) ≡ flat_map connected_of (take at links) ++ connected_of x
one_link_more links at x lt is = ap (flat_map connected_of) (take_one links at x lt is) ∙ flat_map-append connected_of (take at links) (x ∷ []) ∙ ap (λ (t : List Connected). flat_map connected_of (take at links) ++ t) (append-nil (connected_of x))
