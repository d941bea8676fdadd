-- Looking up routes by their keys and as a whole.
use Rattle.std.proofs.Common.{◌≡◌, ℕ, Bool, true, false, not, ◌&&◌, ◌==◌, cond, List, [], ◌∷◌, ◌++◌, Ordering, Option, Some, None, refl, sym, ap, subst, ◌∙◌}
use Rattle.std.specs.List.{list_any}
use Rattle.std.specs.Option.{option_eq, option_cmp, option_map_or}
use Rattle.std.specs.Ordering.{is_eq, nat_cmp, ordering_then}
use Rattle.std.specs.Cmp.{nat_eq_equiv, unsigned_ties, both_tied}
use Rattle.std.specs.Cmp.Lexicographic.{texts_ties}
use Rattle.std.specs.BTreeMap.{BTreeMap, get, Updates as MapUpdates}
use Rattle.std.specs.BTreeSet.{BTreeSet, contains, Updates}
use Rattle.net_model.specs.Name.{same_bytes}
use Rattle.net_model.specs.Address.{Block}
use Rattle.net_model.specs.Words.{bool_eq}
use Rattle.net_model.specs.Order.{name_cmp, address_cmp, block_cmp}
use Rattle.net_model.specs.Valid.{same_address, same_block, same_key}
use Rattle.net_model.specs.declared.Route.{Route}
use Rattle.net_model.proofs.lemmas.Ties.{addresses_tie, blocks_tie, keys_tie}
use Rattle.net_model.proofs.lemmas.Truth.{and_left, and_right}
use Rattle.merge_model.specs.Routes.{same_route}
use Rattle.merge_model.proofs.lemmas.Equal.{one_block, same_of, one_route}
use Rattle.route_merge.specs.Keys.{key_of, key_cmp, whole_cmp, HasKeys, HasRoutes, HasFirsts}
use Rattle.route_merge.proofs.Indexed.{any_more}

pub five : (a b c d e : Bool) → ((((a && b) && c) && d) && e) ≡ (a && (b && (c && (d && e))))
five true true true d e = refl
five true true false d e = refl
five true false c d e = refl
five false b c d e = refl

pub options_tie : {X : Type 0} (E : X → X → Bool) (R : X → X → Ordering) → ((x y : X) → E x y ≡ is_eq (R x y)) → (a b : Option X) → option_eq E a b ≡ is_eq (option_cmp R a b)
options_tie E R tie None None = refl
options_tie E R tie None (Some y) = refl
options_tie E R tie (Some x) None = refl
options_tie E R tie (Some x) (Some y) = tie x y

-- the same routes are those that the order ties
pub routes_tied : (a b : Route) → same_route a b ≡ is_eq (whole_cmp a b)
routes_tied a b =
    let gateways : Bool = option_eq same_address a.gateway b.gateway in
    let devices : Bool = same_bytes a.dev b.dev in
    five (same_block a.dest b.dest) (a.table == b.table) (a.metric == b.metric) gateways devices
    ∙ both_tied (same_block a.dest b.dest) ((a.table == b.table) && ((a.metric == b.metric) && (gateways && devices))) (block_cmp a.dest b.dest) (ordering_then (nat_cmp a.table b.table) (ordering_then (nat_cmp a.metric b.metric) (ordering_then (option_cmp address_cmp a.gateway b.gateway) (name_cmp a.dev b.dev)))) (blocks_tie a.dest b.dest)
    (both_tied (a.table == b.table) ((a.metric == b.metric) && (gateways && devices)) (nat_cmp a.table b.table) (ordering_then (nat_cmp a.metric b.metric) (ordering_then (option_cmp address_cmp a.gateway b.gateway) (name_cmp a.dev b.dev))) (unsigned_ties a.table b.table)
    (both_tied (a.metric == b.metric) (gateways && devices) (nat_cmp a.metric b.metric) (ordering_then (option_cmp address_cmp a.gateway b.gateway) (name_cmp a.dev b.dev)) (unsigned_ties a.metric b.metric)
    (both_tied gateways devices (option_cmp address_cmp a.gateway b.gateway) (name_cmp a.dev b.dev) (options_tie same_address address_cmp addresses_tie a.gateway b.gateway) (texts_ties a.dev b.dev))))

one_key : (a b : Route) → same_key a b ≡ true → key_of a ≡ key_of b
one_key a b h =
    let place = and_left (same_block a.dest b.dest && (a.table == b.table)) (a.metric == b.metric) h in
    ap (λ (x : Block). (x, a.table, a.metric)) (one_block a.dest b.dest (and_left (same_block a.dest b.dest) (a.table == b.table) place))
    ∙ ap (λ (n : ℕ). (b.dest, n, a.metric)) (same_of a.table b.table (and_right (same_block a.dest b.dest) (a.table == b.table) place))
    ∙ ap (λ (n : ℕ). (b.dest, b.table, n)) (same_of a.metric b.metric (and_right (same_block a.dest b.dest && (a.table == b.table)) (a.metric == b.metric) h))

turned_block : (a b : Block) → same_block a b ≡ same_block b a
turned_block a b = rw (bits_turned a.addr.v6 b.addr.v6, nat_eq_equiv.symm a.addr.bits b.addr.bits, nat_eq_equiv.symm a.len b.len) refl
  where
    bits_turned : (x y : Bool) → bool_eq x y ≡ bool_eq y x
    bits_turned true true = refl
    bits_turned true false = refl
    bits_turned false true = refl
    bits_turned false false = refl

keys_turned : (a b : Route) → same_key a b ≡ same_key b a
keys_turned a b = rw (turned_block a.dest b.dest, nat_eq_equiv.symm a.table b.table, nat_eq_equiv.symm a.metric b.metric) refl

-- the keys of one route more
pub one_key_more : (routes : List Route) (r : Route) (key : Block × ℕ × ℕ) (keys keys' : BTreeSet (Block × ℕ × ℕ)) → key ≡ key_of r → HasKeys keys routes → Updates key_cmp keys keys' key true → HasKeys keys' (routes ++ r ∷ [])
one_key_more routes r key keys keys' is h u = λ q.
    (subst (λ k. Updates key_cmp keys keys' k true) is u).0 (key_of q)
    ∙ ap (λ b. cond (is_eq (key_cmp (key_of r) (key_of q))) true b) (h q)
    ∙ ap (λ b. cond b true (list_any (same_key q) routes)) (sym (keys_tie r q) ∙ keys_turned r q)
    ∙ sym (any_more (same_key q) routes r)

-- a set with one route more
pub one_route_more : (routes : List Route) (r : Route) (seen seen' : BTreeSet Route) → HasRoutes seen routes → Updates whole_cmp seen seen' r true → HasRoutes seen' (routes ++ r ∷ [])
one_route_more routes r seen seen' h u = λ q.
    u.0 q
    ∙ ap (λ b. cond (is_eq (whole_cmp r q)) true b) (h q)
    ∙ ap (λ b. cond b true (list_any (λ other. same_route other q) routes)) (sym (routes_tied r q))
    ∙ sym (any_more (λ other. same_route other q) routes r)

pub not_new : (seen : BTreeSet Route) (r : Route) → not (contains whole_cmp seen r) ≡ false → contains whole_cmp seen r ≡ true
not_new seen r h = by (contains whole_cmp seen r) h
  where
    by : (b : Bool) → not b ≡ false → b ≡ true
    by true h = refl
    by false h = sym h

-- a set with a route that is there already
pub same_route_more : (routes : List Route) (r : Route) (seen seen' : BTreeSet Route) → HasRoutes seen routes → contains whole_cmp seen r ≡ true → Updates whole_cmp seen seen' r true → HasRoutes seen' routes
same_route_more routes r seen seen' h there u = λ q. u.0 q ∙ by q (is_eq (whole_cmp r q)) refl
  where
    by : (q : Route) (b : Bool) → is_eq (whole_cmp r q) ≡ b → cond b true (contains whole_cmp seen q) ≡ list_any (λ other. same_route other q) routes
    by q true e = sym (ap (λ x. list_any (λ other. same_route other x) routes) (sym (one_route r q (routes_tied r q ∙ e))) ∙ sym (h r) ∙ there)
    by q false e = h q

-- with the first of each key, one route more that is equal to the first of its key
pub one_equal_more : (seen : List (ℕ × Route)) (at : ℕ) (r f : Route) (firsts : BTreeMap (Block × ℕ × ℕ) Route) → HasFirsts firsts seen → get key_cmp firsts (key_of r) ≡ Some f → same_route f r ≡ true → HasFirsts firsts (seen ++ (at, r) ∷ [])
one_equal_more seen at r f firsts h found same = λ q. any_more (λ s. same_key s.1 q && not (same_route s.1 q)) seen (at, r) ∙ ap (cond (same_key r q && not (same_route r q)) true) (h q) ∙ by q (same_key r q) refl
  where
    one : f ≡ r
    one = one_route f r same

    merged : (b : Bool) → cond (not b) true (not b) ≡ not b
    merged true = refl
    merged false = refl

    by : (q : Route) (b : Bool) → same_key r q ≡ b → cond (b && not (same_route r q)) true (option_map_or (λ g. not (same_route g q)) (get key_cmp firsts (key_of q)) false) ≡ option_map_or (λ g. not (same_route g q)) (get key_cmp firsts (key_of q)) false
    by q false e = refl
    by q true e = rw (sym (one_key r q e), found, one) (merged (same_route r q))

-- with the first of each key, one route more that is the first of its key
pub one_first_more : (seen : List (ℕ × Route)) (at : ℕ) (r : Route) (key : Block × ℕ × ℕ) (firsts firsts' : BTreeMap (Block × ℕ × ℕ) Route) → key ≡ key_of r → HasFirsts firsts seen → get key_cmp firsts (key_of r) ≡ None → MapUpdates key_cmp firsts firsts' key (Some r) → HasFirsts firsts' (seen ++ (at, r) ∷ [])
one_first_more seen at r key firsts firsts' is h none u = λ q. any_more (λ s. same_key s.1 q && not (same_route s.1 q)) seen (at, r) ∙ ap (cond (same_key r q && not (same_route r q)) true) (h q) ∙ by q (same_key r q) refl ∙ ap (λ o. option_map_or (λ g. not (same_route g q)) o false) (ap (λ b. cond b (Some r) (get key_cmp firsts (key_of q))) (keys_tie r q) ∙ sym ((subst (λ k. MapUpdates key_cmp firsts firsts' k (Some r)) is u).0 (key_of q)))
  where
    alone : (b : Bool) → cond b true false ≡ b
    alone true = refl
    alone false = refl

    by : (q : Route) (b : Bool) → same_key r q ≡ b → cond (b && not (same_route r q)) true (option_map_or (λ g. not (same_route g q)) (get key_cmp firsts (key_of q)) false) ≡ option_map_or (λ g. not (same_route g q)) (cond b (Some r) (get key_cmp firsts (key_of q))) false
    by q false e = refl
    by q true e = rw (sym (one_key r q e), none) (alone (not (same_route r q)))

-- where the first of its key isn't equal to it, a route has a twin
pub is_twin : (seen : List (ℕ × Route)) (x : ℕ × Route) (r : Route) (firsts : BTreeMap (Block × ℕ × ℕ) Route) (equal : Bool) → r ≡ x.1 → HasFirsts firsts seen
    → equal ≡ option_map_or (λ f. same_route f r) (get key_cmp firsts (key_of r)) true → list_any (λ s. same_key s.1 x.1 && not (same_route s.1 x.1)) seen ≡ not equal
is_twin seen x r firsts equal is h told = h x.1 ∙ turned (get key_cmp firsts (key_of x.1)) ∙ ap not (ap (λ q. option_map_or (λ f. same_route f q) (get key_cmp firsts (key_of q)) true) (sym is) ∙ sym told)
  where
    turned : (o : Option Route) → option_map_or (λ f. not (same_route f x.1)) o false ≡ not (option_map_or (λ f. same_route f x.1) o true)
    turned None = refl
    turned (Some f) = refl
