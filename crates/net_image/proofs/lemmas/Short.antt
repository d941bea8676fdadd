-- How many bytes the forms take at most, and an image with them.
use Rattle.std.proofs.Common.{◌≡◌, ℕ, suc, ◌+◌, ◌*◌, ◌≤◌, Bool, true, false, cond, eqb, leb, List, [], ◌∷◌, ◌++◌, length, Option, Some, None, refl, arith}
use Rattle.std.specs.Option.{option_map_or, is_none}
use Rattle.std.specs.List.{flat_map, list_all}
use Rattle.std.proofs.lemmas.Bool.{and_parts, eqb-true, leb-true}
use Rattle.std.proofs.lemmas.List.{length-append}
use Rattle.std.proofs.lemmas.List.Sums.{sum_by-cons}
use Rattle.byteorder.specs.Numbers.{length-bytes_high_first}
use Rattle.net_model.specs.Name.{is_name}
use Rattle.net_model.specs.NetData.{NetData, is_net}
use Rattle.net_model.specs.Dependence.{no_cycle}
use Rattle.net_model.specs.Valid.{least_broken, address_count, names_differ, bases_stand, controllers_take, bases_up, mtus_fit, ports_without_addresses, addresses_fit, routes_stand, rules_differ, options_fit, limits_hold, peers_stand, counts_fit, links_fit}
use Rattle.net_model.specs.Words.{first_false}
use Rattle.net_model.specs.Options.{default_bond, default_bridge, is_default_bond, is_default_bridge}
use Rattle.net_model.specs.declared.rule.Target.{Target}
use Rattle.net_model.specs.declared.link.Kind.{Kind}
use Rattle.net_model.specs.declared.link.Kind.TheVariants.{Ethernet, Bond, Bridge, Vlan, Vrf, Dummy, Veth}
use Rattle.net_model.specs.declared.link.Link.{Link}
use Rattle.net_image.specs.Form.{Form, ◌⨾◌, byte, run, nothing, never, such_that, made, variant, linked, tagged, times, counted, number, some, none, held_none}
use Rattle.net_image.specs.Fields.{up_to, flag, text, name, name_held, maybe_name, domain, mac, table, family, address_of, address_behind, address_form, gateway_number, gateway, prefix, subnet, maybe_subnet}
use Rattle.net_image.specs.Links.{mode, rate, policy, proto, kind_behind, kind, ethernet_held, bond_held, bridge_held, vlan_held, vrf_held, vlan_id, bond_options, bridge_options, port_options, bond_part, bridge_part, front, back, link, link_parts, kind_number, dummy_held, veth_held, Front}
use Rattle.net_image.specs.Image.{route, action, target_behind, target, rule, dns, mark, lists, network, IsImage, is_few, settings, version_2}
use Rattle.net_image.specs.Laws.{TakesAtMost}

-- ---- what forms are made of

pub byte_short : TakesAtMost 1 byte
byte_short = record { at_most = λ x fits. omega arith }

run_short : (n : ℕ) → TakesAtMost n (run n)
run_short n = record { at_most = λ x fits. let size : length x ≡ n = eqb-true _ _ (and_parts _ _ fits).0 in omega arith }

pub number_short : (n : ℕ) → TakesAtMost n (number n)
number_short n = record { at_most = λ x fits. omega (arith, length-bytes_high_first n x) }

nothing_short : TakesAtMost 0 nothing
nothing_short = record { at_most = λ x fits. omega arith }

pub never_short : {X : Type 0} (most : ℕ) → TakesAtMost most (never {X = X})
never_short most = record { at_most = λ x fits. absurd cc }

such_that_short : {X : Type 0} (most : ℕ) (test : X → Bool) (form : Form X) → TakesAtMost most form → TakesAtMost most (such_that test form)
such_that_short most test form short = record { at_most = λ x fits. short.at_most x (and_parts _ _ fits).1 }

made_short : {X Y : Type 0} (most : ℕ) (to : Y → X) (from : X → Y) (form : Form Y) → TakesAtMost most form → TakesAtMost most (made to from form)
made_short most to from form short = record { at_most = λ x fits. short.at_most (from x) fits }

held_short : {Y : Type 0} (most : ℕ) (form : Form Y) → TakesAtMost most form → (o : Option Y) → option_map_or form.fits o false ≡ true → length (option_map_or form.write o []) ≤ most
held_short most form short None fits = absurd cc
held_short most form short (Some y) fits = short.at_most y fits

pub variant_short : {X Y : Type 0} (most : ℕ) (to : Y → X) (held : X → Option Y) (form : Form Y) → TakesAtMost most form → TakesAtMost most (variant to held form)
variant_short most to held form short = record { at_most = λ x fits. held_short most form short (held x) fits }

linked_short : {X Y : Type 0} (m n : ℕ) (f : Form X) (g : X → Form Y) → TakesAtMost m f → ((x : X) → TakesAtMost n (g x)) → TakesAtMost (m + n) (linked f g)
linked_short m n f g f_short g_short = record {
  at_most = λ p fits.
      let parts = and_parts (f.fits p.0) ((g p.0).fits p.1) fits in
      let one = f_short.at_most p.0 parts.0 in
      let two = (g_short p.0).at_most p.1 parts.1 in
      omega (arith, length-append (f.write p.0) ((g p.0).write p.1));
}

pub seq_short : {X Y : Type 0} (m n : ℕ) (f : Form X) (g : Form Y) → TakesAtMost m f → TakesAtMost n g → TakesAtMost (m + n) (f ⨾ g)
seq_short m n f g f_short g_short = linked_short m n f (λ x. g) f_short (λ x. g_short)

pub tagged_short : {X Y : Type 0} (m n : ℕ) (tag : X → Y) (f : Form Y) (g : Y → Form X) → TakesAtMost m f → ((y : Y) → TakesAtMost n (g y)) → TakesAtMost (m + n) (tagged tag f g)
tagged_short m n tag f g f_short g_short = made_short (m + n) _ _ (linked f g) (linked_short m n f g f_short g_short)

pub if_short : {X : Type 0} (most : ℕ) (b : Bool) (f g : Form X) → TakesAtMost most f → TakesAtMost most g → TakesAtMost most (cond b f g)
if_short most true f g one two = one
if_short most false f g one two = two

-- what takes at most so many bytes takes at most more
pub longer : {X : Type 0} (m n : ℕ) (form : Form X) → m ≤ n → TakesAtMost m form → TakesAtMost n form
longer m n form le short = record { at_most = λ x fits. let within = short.at_most x fits in omega arith }

some_short : {X : Type 0} (most : ℕ) (form : Form X) → TakesAtMost most form → TakesAtMost most (some form)
some_short most form short = variant_short most Some (λ o. o) form short

none_short : {X : Type 0} (most : ℕ) → TakesAtMost most (none {X = X})
none_short most = longer 0 most none (omega arith) (variant_short 0 (λ u. None) held_none nothing nothing_short)

-- ---- fields

-- a name has at most 15 bytes
pub name_length : (bytes : List ℕ) → is_name bytes ≡ true → length bytes ≤ 15
name_length bytes is = leb-true (length bytes) 15 (and_parts _ _ (and_parts _ _ (and_parts _ _ is).0).0).1

text_length : (bytes : List ℕ) → length (text.write bytes) ≡ suc (length bytes)
unfolding text
text_length bytes = refl

pub name_short : TakesAtMost 16 name
unfolding name
name_short = record { at_most = λ x fits. omega (arith, text_length x, name_length x (and_parts _ _ fits).0) }

maybe_name_length : (n : Option (List ℕ)) → option_map_or is_name n true ≡ true → length (option_map_or text.write (name_held n) []) ≤ 16
maybe_name_length None is = omega (arith, text_length [])
maybe_name_length (Some []) is = omega arith
maybe_name_length (Some (b ∷ bytes)) is = omega (arith, text_length (b ∷ bytes), name_length (b ∷ bytes) is)

maybe_name_short : TakesAtMost 16 maybe_name
unfolding maybe_name
maybe_name_short = record { at_most = λ x fits. maybe_name_length x (and_parts _ _ fits).0 }

domain_short : TakesAtMost 254 domain
unfolding domain
domain_short = record { at_most = λ x fits. omega (arith, text_length x, leb-true (length x) 253 (and_parts _ _ (and_parts _ _ (and_parts _ _ fits).0).0).1) }

up_to_short : (n : ℕ) → TakesAtMost 1 (up_to n)
up_to_short n = such_that_short 1 _ byte byte_short

flag_short : TakesAtMost 1 flag
unfolding flag
flag_short = made_short 1 _ _ (up_to 1) (up_to_short 1)

pub mac_short : TakesAtMost 6 mac
unfolding mac
mac_short = made_short 6 _ _ (run 6) (run_short 6)

table_short : TakesAtMost 4 table
unfolding table
table_short = such_that_short 4 _ (number 4) (number_short 4)

family_short : TakesAtMost 1 family
unfolding family
family_short = made_short 1 _ _ (such_that _ byte) (such_that_short 1 _ byte byte_short)

address_of_short : (v6 : Bool) → TakesAtMost 16 (address_of v6)
address_of_short true = variant_short 16 _ _ (number 16) (number_short 16)
address_of_short false = longer 4 16 (address_of false) (omega arith) (variant_short 4 _ _ (number 4) (number_short 4))

address_behind_short : (n : ℕ) → TakesAtMost 16 (address_behind n)
address_behind_short n = if_short 16 (eqb n 4) _ _ (address_of_short false) (if_short 16 (eqb n 6) _ _ (address_of_short true) (never_short 16))

address_short : TakesAtMost 17 address_form
unfolding address_form
address_short = tagged_short 1 16 _ byte address_behind byte_short address_behind_short

gateway_short : TakesAtMost 17 gateway
unfolding gateway
gateway_short = tagged_short 1 16 gateway_number byte (λ n. cond (eqb n 0) none (some (address_behind n))) byte_short (λ n. if_short 16 (eqb n 0) none (some (address_behind n)) (none_short 16) (some_short 16 (address_behind n) (address_behind_short n)))

pub prefix_short : TakesAtMost 18 prefix
unfolding prefix
prefix_short = such_that_short 18 _ _ (made_short 18 _ _ (address_form ⨾ byte) (seq_short 17 1 address_form byte address_short byte_short))

subnet_short : TakesAtMost 18 subnet
unfolding subnet
subnet_short = such_that_short 18 _ prefix prefix_short

maybe_subnet_short : TakesAtMost 19 maybe_subnet
unfolding maybe_subnet
maybe_subnet_short = tagged_short 1 18 _ flag (λ is_there. cond is_there (some subnet) none) flag_short (λ is_there. if_short 18 is_there (some subnet) none (some_short 18 subnet subnet_short) (none_short 18))

-- ---- links

mode_short : TakesAtMost 1 mode
unfolding mode
mode_short = made_short 1 _ _ (up_to 6) (up_to_short 6)

rate_short : TakesAtMost 1 rate
unfolding rate
rate_short = made_short 1 _ _ (up_to 1) (up_to_short 1)

policy_short : TakesAtMost 1 policy
unfolding policy
policy_short = made_short 1 _ _ (up_to 5) (up_to_short 5)

proto_short : TakesAtMost 1 proto
unfolding proto
proto_short = made_short 1 _ _ (up_to 1) (up_to_short 1)

vlan_id_short : TakesAtMost 2 vlan_id
unfolding vlan_id
vlan_id_short = such_that_short 2 _ (number 2) (number_short 2)

kind_behind_short : (n : ℕ) → TakesAtMost 19 (kind_behind n)
kind_behind_short n =
    if_short 19 (eqb n 1) _ _ (longer 6 19 (variant Ethernet ethernet_held mac) (omega arith) (variant_short 6 Ethernet ethernet_held mac mac_short))
    (if_short 19 (eqb n 2) _ _ (longer 1 19 (variant Bond bond_held mode) (omega arith) (variant_short 1 Bond bond_held mode mode_short))
    (if_short 19 (eqb n 3) _ _ (longer 0 19 (variant (λ u. Bridge) bridge_held nothing) (omega arith) (variant_short 0 (λ u. Bridge) bridge_held nothing nothing_short))
    (if_short 19 (eqb n 4) _ _ (variant_short 19 (λ v. Vlan v.0 v.1.0 v.1.1) vlan_held (name ⨾ vlan_id ⨾ proto) (seq_short 16 3 name (vlan_id ⨾ proto) name_short (seq_short 2 1 vlan_id proto vlan_id_short proto_short)))
    (if_short 19 (eqb n 5) _ _ (longer 4 19 (variant Vrf vrf_held table) (omega arith) (variant_short 4 Vrf vrf_held table table_short))
    (if_short 19 (eqb n 6) _ _ (longer 0 19 (variant (λ u. Dummy) dummy_held nothing) (omega arith) (variant_short 0 (λ u. Dummy) dummy_held nothing nothing_short))
    (if_short 19 (eqb n 7) _ _ (longer 16 19 (variant Veth veth_held name) (omega arith) (variant_short 16 Veth veth_held name name_short)) (never_short 19)))))))

pub kind_short : TakesAtMost 20 kind
unfolding kind
kind_short = tagged_short 1 19 _ byte kind_behind byte_short kind_behind_short

pub bond_options_short : TakesAtMost 30 bond_options
unfolding bond_options
bond_options_short = made_short 30 _ _ (maybe_name ⨾ rate ⨾ policy ⨾ number 4 ⨾ number 4 ⨾ number 4)
    (seq_short 16 14 maybe_name _ maybe_name_short (seq_short 1 13 rate _ rate_short (seq_short 1 12 policy _ policy_short (seq_short 4 8 (number 4) _ (number_short 4) (seq_short 4 4 (number 4) (number 4) (number_short 4) (number_short 4))))))

pub bridge_options_short : TakesAtMost 10 bridge_options
unfolding bridge_options
bridge_options_short = made_short 10 _ _ (flag ⨾ number 2 ⨾ byte ⨾ byte ⨾ byte ⨾ number 4)
    (seq_short 1 9 flag _ flag_short (seq_short 2 7 (number 2) _ (number_short 2) (seq_short 1 6 byte _ byte_short (seq_short 1 5 byte _ byte_short (seq_short 1 4 byte (number 4) byte_short (number_short 4))))))

pub port_options_short : TakesAtMost 4 port_options
unfolding port_options
port_options_short = made_short 4 _ _ (number 2 ⨾ byte ⨾ flag) (seq_short 2 2 (number 2) _ (number_short 2) (seq_short 1 1 byte flag byte_short flag_short))

-- options that a kind doesn't have take none
no_bond_short : TakesAtMost 0 (variant (λ (u : Unit {0}). default_bond) (λ o. cond (is_default_bond o) (Some tt) None) nothing)
no_bond_short = variant_short 0 (λ u. default_bond) _ nothing nothing_short

no_bridge_short : TakesAtMost 0 (variant (λ (u : Unit {0}). default_bridge) (λ o. cond (is_default_bridge o) (Some tt) None) nothing)
no_bridge_short = variant_short 0 (λ u. default_bridge) _ nothing nothing_short

-- what stands behind the number of a kind, and the options of a bond or bridge, which only one kind each has
record Sizes (k : Kind) : Type 0 where
  behind : ℕ
  bond : ℕ
  bridge : ℕ
  behind_short : TakesAtMost behind (kind_behind (kind_number k))
  bond_short : TakesAtMost bond (bond_part k)
  bridge_short : TakesAtMost bridge (bridge_part k)
  small : behind + bond + bridge ≤ 31

sizes : (k : Kind) → Sizes k
sizes (Ethernet p) = record { behind = 6; bond = 0; bridge = 0; behind_short = variant_short 6 Ethernet ethernet_held mac mac_short; bond_short = no_bond_short; bridge_short = no_bridge_short; small = omega arith }
sizes (Bond m) = record { behind = 1; bond = 30; bridge = 0; behind_short = variant_short 1 Bond bond_held mode mode_short; bond_short = bond_options_short; bridge_short = no_bridge_short; small = omega arith }
sizes Bridge = record { behind = 0; bond = 0; bridge = 10; behind_short = variant_short 0 (λ u. Bridge) bridge_held nothing nothing_short; bond_short = no_bond_short; bridge_short = bridge_options_short; small = omega arith }
sizes (Vlan b i p) = record {
  behind = 19;
  bond = 0;
  bridge = 0;
  behind_short = variant_short 19 (λ v. Vlan v.0 v.1.0 v.1.1) vlan_held (name ⨾ vlan_id ⨾ proto) (seq_short 16 3 name (vlan_id ⨾ proto) name_short (seq_short 2 1 vlan_id proto vlan_id_short proto_short));
  bond_short = no_bond_short;
  bridge_short = no_bridge_short;
  small = omega arith;
}
sizes (Vrf t) = record { behind = 4; bond = 0; bridge = 0; behind_short = variant_short 4 Vrf vrf_held table table_short; bond_short = no_bond_short; bridge_short = no_bridge_short; small = omega arith }
sizes Dummy = record { behind = 0; bond = 0; bridge = 0; behind_short = variant_short 0 (λ u. Dummy) dummy_held nothing nothing_short; bond_short = no_bond_short; bridge_short = no_bridge_short; small = omega arith }
sizes (Veth q) = record { behind = 16; bond = 0; bridge = 0; behind_short = variant_short 16 Veth veth_held name name_short; bond_short = no_bond_short; bridge_short = no_bridge_short; small = omega arith }

kind_length : (k : Kind) (most : ℕ) → TakesAtMost most (kind_behind (kind_number k)) → kind.fits k ≡ true → length (kind.write k) ≤ 1 + most
unfolding kind
kind_length k most short fits =
    let parts = and_parts (byte.fits (kind_number k)) ((kind_behind (kind_number k)).fits k) fits in
    let rest = short.at_most k parts.1 in
    omega (arith, rest)

-- what stands of a link before its options, but for its kind
rest_short : TakesAtMost 27 (flag ⨾ number 4 ⨾ mac ⨾ maybe_name)
rest_short = seq_short 1 26 flag _ flag_short (seq_short 4 22 (number 4) _ (number_short 4) (seq_short 6 16 mac maybe_name mac_short maybe_name_short))

front_length : (f : Front) → front.fits f ≡ true → (length (front.write f) ≤ 43 + length (kind.write f.1.0)) × (kind.fits f.1.0 ≡ true)
front_length f fits =
    let rest = flag ⨾ number 4 ⨾ mac ⨾ maybe_name in
    let a = and_parts (name.fits f.0) ((kind ⨾ flag ⨾ number 4 ⨾ mac ⨾ maybe_name).fits f.1) fits in
    let b = and_parts (kind.fits f.1.0) (rest.fits f.1.1) a.1 in
    let one = name_short.at_most f.0 a.0 in
    let two = rest_short.at_most f.1.1 b.1 in
    (omega (arith, one, two, length-append (name.write f.0) (kind.write f.1.0 ++ rest.write f.1.1), length-append (kind.write f.1.0) (rest.write f.1.1)), b.0)

-- ---- lists

items_short : {X : Type 0} (most : ℕ) (form : Form X) → TakesAtMost most form → (xs : List X) → list_all form.fits xs ≡ true → length (flat_map form.write xs) ≤ most * length xs
items_short most form short [] fits = omega arith
items_short most form short (x ∷ xs) fits =
    let parts = and_parts (form.fits x) (list_all form.fits xs) fits in
    let one = short.at_most x parts.0 in
    let rest : length (flat_map form.write xs) ≤ most * length xs = items_short most form short xs parts.1 in
    omega (arith, length-append (form.write x) (flat_map form.write xs))

-- a count and so many
counted_short : {X : Type 0} (m most : ℕ) (count : Form ℕ) (form : Form X) → TakesAtMost m count → TakesAtMost most form → (xs : List X) → (counted count form).fits xs ≡ true
    → length ((counted count form).write xs) ≤ m + most * length xs
counted_short m most count form count_short short xs fits =
    let parts = and_parts (count.fits (length xs)) ((times form (length xs)).fits xs) fits in
    let one = count_short.at_most (length xs) parts.0 in
    let rest : length (flat_map form.write xs) ≤ most * length xs = items_short most form short xs (and_parts (eqb (length xs) (length xs)) (list_all form.fits xs) parts.1).1 in
    omega (arith, length-append (count.write (length xs)) (flat_map form.write xs))

link_length : (l : Link) → link.fits l ≡ true → length (link.write l) ≤ 80 + 18 * length l.addrs
unfolding link
link_length l fits =
    let parts = link_parts l in
    let ends = and_parts (front.fits parts.0) ((back parts.0).fits parts.1) fits in
    let a = and_parts _ _ ends.1 in
    let b = and_parts _ _ a.1 in
    let c = and_parts _ _ b.1 in
    let s = sizes l.kind in
    let first = front_length parts.0 ends.0 in
    let own = kind_length l.kind s.behind s.behind_short first.1 in
    let bond = s.bond_short.at_most l.bond a.0 in
    let bridge = s.bridge_short.at_most l.bridge b.0 in
    let port = port_options_short.at_most l.port c.0 in
    let addrs = counted_short 1 18 byte prefix byte_short prefix_short l.addrs c.1 in
    let w = (counted byte prefix).write l.addrs in
    omega (
      arith,
      first.0,
      own,
      bond,
      bridge,
      s.small,
      length-append (front.write parts.0) ((back parts.0).write parts.1),
      length-append ((bond_part l.kind).write l.bond) ((bridge_part l.kind).write l.bridge ++ (port_options.write l.port ++ w)),
      length-append ((bridge_part l.kind).write l.bridge) (port_options.write l.port ++ w),
      length-append (port_options.write l.port) w,
    )

links_length : (ls : List Link) → list_all link.fits ls ≡ true → length (flat_map link.write ls) ≤ 80 * length ls + 18 * address_count ls
links_length [] fits = omega arith
links_length (l ∷ ls) fits =
    let parts = and_parts (link.fits l) (list_all link.fits ls) fits in
    let one = link_length l parts.0 in
    let rest = links_length ls parts.1 in
    let sum : address_count (l ∷ ls) ≡ length l.addrs + address_count ls = sum_by-cons (λ (x : Link). length x.addrs) l ls in
    let all : length (flat_map link.write (l ∷ ls)) ≡ length (link.write l) + length (flat_map link.write ls) = length-append (link.write l) (flat_map link.write ls) in
    omega (arith, sum, all)

-- ---- routes, rules, networks

pub route_short : TakesAtMost 59 route
unfolding route
route_short = made_short 59 _ _ (subnet ⨾ table ⨾ number 4 ⨾ gateway ⨾ name)
    (seq_short 18 41 subnet _ subnet_short (seq_short 4 37 table _ table_short (seq_short 4 33 (number 4) _ (number_short 4) (seq_short 17 16 gateway name gateway_short name_short))))

action_short : (n : ℕ) (word : Target) → TakesAtMost 4 (action n word)
action_short n word = longer 0 4 (action n word) (omega arith) (variant_short 0 (λ u. word) _ nothing nothing_short)

target_short : TakesAtMost 5 target
unfolding target
target_short = tagged_short 1 4 _ byte target_behind byte_short (λ n. if_short 4 (eqb n 0) _ _ (variant_short 4 _ _ table table_short)
    (if_short 4 (eqb n 1) _ _ (action_short 1 _) (if_short 4 (eqb n 2) _ _ (action_short 2 _) (if_short 4 (eqb n 3) _ _ (action_short 3 _) (never_short 4)))))

pub rule_short : TakesAtMost 72 rule
unfolding rule
rule_short = such_that_short 72 _ _ (made_short 72 _ _ (number 4 ⨾ family ⨾ maybe_subnet ⨾ maybe_subnet ⨾ maybe_name ⨾ number 4 ⨾ number 4 ⨾ target)
    (seq_short 4 68 (number 4) _ (number_short 4) (seq_short 1 67 family _ family_short (seq_short 19 48 maybe_subnet _ maybe_subnet_short (seq_short 19 29 maybe_subnet _ maybe_subnet_short
    (seq_short 16 13 maybe_name _ maybe_name_short (seq_short 4 9 (number 4) _ (number_short 4) (seq_short 4 5 (number 4) target (number_short 4) target_short))))))))

-- where no test fails, all pass
all_pass : (tests : List (ℕ × Bool)) → is_none (first_false tests) ≡ true → list_all (λ t. t.1) tests ≡ true
all_pass [] none = refl
all_pass ((n, true) ∷ tests) none = all_pass tests none
all_pass ((n, false) ∷ tests) none = absurd cc

pub record Counts (net : NetData) : Type 0 where
  pub links : length net.links ≤ 1024
  pub addresses : address_count net.links ≤ 8192
  pub routes : length net.routes ≤ 8192
  pub rules : length net.rules ≤ 2048
  pub servers : length net.dns.servers ≤ 16
  pub search : length net.dns.search ≤ 16

-- the thirteen parts of validity
abbrev parts_of : NetData → List (ℕ × Bool)
parts_of net = (1, names_differ net.links) ∷ (2, bases_stand net.links) ∷ (3, controllers_take net.links) ∷ (4, no_cycle net.links) ∷ (5, bases_up net.links) ∷ (6, mtus_fit net.links)
    ∷ (7, ports_without_addresses net.links) ∷ (8, addresses_fit net.links) ∷ (9, routes_stand net.links net.routes) ∷ (10, rules_differ net.rules) ∷ (11, options_fit net.links) ∷ (12, limits_hold net) ∷ (13, peers_stand net.links) ∷ []

-- the counts of a valid network, its twelfth part
counts : (net : NetData) → is_none (least_broken net) ≡ true → Counts net
counts net valid =
    let p2 = and_parts (names_differ net.links) _ (all_pass (parts_of net) valid) in
    let p3 = and_parts (bases_stand net.links) _ p2.1 in
    let p4 = and_parts (controllers_take net.links) _ p3.1 in
    let p5 = and_parts (no_cycle net.links) _ p4.1 in
    let p6 = and_parts (bases_up net.links) _ p5.1 in
    let p7 = and_parts (mtus_fit net.links) _ p6.1 in
    let p8 = and_parts (ports_without_addresses net.links) _ p7.1 in
    let p9 = and_parts (addresses_fit net.links) _ p8.1 in
    let p10 = and_parts (routes_stand net.links net.routes) _ p9.1 in
    let p11 = and_parts (rules_differ net.rules) _ p10.1 in
    let p12 = and_parts (options_fit net.links) _ p11.1 in
    let limits = (and_parts (limits_hold net) _ p12.1).0 in
    let counted = and_parts (counts_fit net) _ limits in
    let a = and_parts _ (leb (length net.dns.search) 16) counted.0 in
    let b = and_parts _ (leb (length net.dns.servers) 16) a.0 in
    let c = and_parts _ (leb (length net.rules) 2048) b.0 in
    let d = and_parts (links_fit net.links) (leb (length net.routes) 8192) c.0 in
    let e = and_parts _ (leb (address_count net.links) 8192) d.0 in
    let f = and_parts (leb (length net.links) 1024) _ e.0 in
    record {
      links = leb-true _ _ f.0;
      addresses = leb-true _ _ e.1;
      routes = leb-true _ _ d.1;
      rules = leb-true _ _ c.1;
      servers = leb-true _ _ b.1;
      search = leb-true _ _ a.1;
    }

dns_length : (d : _) → dns.fits d ≡ true → length (dns.write d) ≤ 2 + 17 * length d.servers + 254 * length d.search
unfolding dns
dns_length d fits =
    let parts = and_parts ((counted byte address_form).fits d.servers) ((counted byte domain).fits d.search) fits in
    let one = counted_short 1 17 byte address_form byte_short address_short d.servers parts.0 in
    let two = counted_short 1 254 byte domain byte_short domain_short d.search parts.1 in
    omega (arith, length-append ((counted byte address_form).write d.servers) ((counted byte domain).write d.search))

pub settings_short : TakesAtMost 4338 settings
unfolding settings
settings_short = record {
  at_most = λ d fits.
      let parts = and_parts (is_few d) (dns.fits d) fits in
      let few = and_parts (leb (length d.servers) 16) (leb (length d.search) 16) parts.0 in
      omega (arith, dns_length d parts.1, leb-true (length d.servers) 16 few.0, leb-true (length d.search) 16 few.1);
}

links_counted : (ls : List Link) → (counted (number 2) link).fits ls ≡ true → length ((counted (number 2) link).write ls) ≤ 2 + 80 * length ls + 18 * address_count ls
links_counted ls fits =
    let parts = and_parts ((number 2).fits (length ls)) ((times link (length ls)).fits ls) fits in
    let one = (number_short 2).at_most (length ls) parts.0 in
    let rest = links_length ls (and_parts (eqb (length ls) (length ls)) (list_all link.fits ls) parts.1).1 in
    omega (arith, length-append ((number 2).write (length ls)) (flat_map link.write ls))

lists_length : (net : NetData) → (lists version_2).fits net ≡ true → Counts net → length ((lists version_2).write net) ≤ 864508
unfolding lists
lists_length net fits few =
    let version = mark version_2 in
    let ls = counted (number 2) link in
    let rs = counted (number 2) route in
    let us = counted (number 2) rule in
    let a = and_parts (version.fits tt) _ fits in
    let b = and_parts (ls.fits net.links) _ a.1 in
    let c = and_parts (rs.fits net.routes) _ b.1 in
    let d = and_parts (us.fits net.rules) (dns.fits net.dns) c.1 in
    let links = links_counted net.links b.0 in
    let routes = counted_short 2 59 (number 2) route (number_short 2) route_short net.routes c.0 in
    let rules = counted_short 2 72 (number 2) rule (number_short 2) rule_short net.rules d.0 in
    let names = dns_length net.dns d.1 in
    omega (
      arith,
      few.links,
      few.addresses,
      few.routes,
      few.rules,
      few.servers,
      few.search,
      length-append version_2 (ls.write net.links ++ (rs.write net.routes ++ (us.write net.rules ++ dns.write net.dns))),
      length-append (ls.write net.links) (rs.write net.routes ++ (us.write net.rules ++ dns.write net.dns)),
      length-append (rs.write net.routes) (us.write net.rules ++ dns.write net.dns),
      length-append (us.write net.rules) (dns.write net.dns),
    )

-- an image of version 2 has at most 864,508 bytes
pub image_length : (bytes : List ℕ) (net : NetData) → IsImage bytes net → length bytes ≤ 864508
unfolding network
image_length bytes net is =
    let parts = and_parts (is_net net) ((lists version_2).fits net) is.fits in
    let valid = (and_parts (is_none (least_broken net)) _ parts.0).0 in
    rw is.spelled (lists_length net parts.1 (counts net valid))
