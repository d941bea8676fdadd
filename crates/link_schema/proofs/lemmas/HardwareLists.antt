-- The links of a hardware list are a valid network of devices, each as it is built in, with a station's MAC.
use Rattle.std.proofs.Common.{◌≡◌, ◌∙◌, refl, ap, ap₂, subst, arith, ℕ, zero, suc, ◌+◌, Bool, true, false, not, ◌&&◌, ◌||◌, List, [], ◌∷◌, ◌++◌, length, Option, None, Some, IfSome}
use Rattle.std.specs.Prelude.{nat_lt, nat_le, is_none, is_some, Ok, Err, IfOk, if◌then◌else◌, codes}
use Rattle.std.specs.List.{list_all, list_any, All}
use Rattle.std.proofs.lemmas.List.{length-append}
use Rattle.std.proofs.lemmas.List.Elements.{All-nil, All-cons}
use Rattle.std.proofs.lemmas.Bool.Decides.{nat_tests}
use Rattle.base_model.specs.declared.PathStep.TheVariants.{Key, At}
use Rattle.net_model.specs.Words.{apart}
use Rattle.net_model.specs.Links.{is_named, same_name, base_passes, can_be_base, is_twin, controller_passes, takes}
use Rattle.net_model.specs.Dependence.{depends_on, reaches, on_cycle}
use Rattle.net_model.specs.Hardware.{device_of}
use Rattle.net_model.specs.Lists.{net_of, no_dns}
use Rattle.net_model.specs.Valid.{HasAllParts, least_broken, names_differ, address_count, unused_default, limits_hold}
use Rattle.net_model.specs.declared.limits.TheConstants.{MAX_LINKS, MAX_LINK_ADDRESSES, MAX_ADDRESSES}
use Rattle.net_model.specs.declared.Link.{Link}
use Rattle.net_model.specs.declared.Mac.{Mac}
use Rattle.net_model.proofs.lemmas.AllParts.{none_broken}
use Rattle.net_model.proofs.lemmas.Differing.{apart_with, any_turned}
use Rattle.net_text.specs.AddrText.{hardware_of}
use Rattle.document_model.specs.Entries.{passes, is_station}
use Rattle.doc_tree.specs.Shape.{Shape, nothing, truth, whole, text, list, mapping, Shapes, no_shapes, more, item_count}
use Rattle.tree_schema.specs.declared.Reason.TheVariants.{OutOfRange, Missing}
use Rattle.tree_schema.specs.Reading.{Reading, refuse, at_once, below, with_value}
use Rattle.tree_schema.specs.Values.{Looked, and_if, passing, name, is_null}
use Rattle.tree_schema.specs.Tables.{read_map, needed_at, value_under, top_of}
use Rattle.tree_schema.proofs.lemmas.OnValues.{OnValue, if_some, if_passing, if_formed, on_below, on_at_once, on_needed, on_next, on_with, any_value, EachKeeps, map_keeps}
use Rattle.link_schema.specs.Words.{station_from, station}
use Rattle.link_schema.specs.Hardware.{new_name, device_table, no_device, built_in, device, device_of as device_from, devices, hardware_list as list_read, list_there, hardware, hardware_top}

-- what passes, if it is stated
pub some_passing : {X : Type 0} (p : X → Bool) (o : Option X) → passes p o ≡ true → IfSome o (λ x. p x ≡ true)
some_passing p None h = tt
some_passing p (Some x) h = h

-- a MAC that is read as a station's is one
pub station_read : (s : Shape) → IfOk (station s) (λ mac. is_station mac ≡ true)
station_read = if_formed (λ mac. is_station mac ≡ true) station_from (λ t. if_some (λ mac. is_station mac ≡ true) (passing is_station) (hardware_of t) (if_passing is_station))

-- ---- one entry

-- a link as it is built in, with a station's MAC
pub IsBuilt : Link → Type 0
IsBuilt l = (l ≡ built_in l.name l.mac) × (is_station l.mac ≡ true)

-- no link so far has the name of the entry
abbrev Named : List Link → Option (List ℕ) → Type 0
Named links None = Unit {0}
Named links (Some n) = list_any (is_named n) links ≡ false

-- a link as it is built in, of a name that no link so far has
record IsNew (links : List Link) (l : Link) : Type 0 where
  built : IsBuilt l
  new : list_any (is_named l.name) links ≡ false

module _ (links : List Link) where
  abbrev IsFree : List ℕ → Type 0
  IsFree n = list_any (is_named n) links ≡ false

  unless_taken : (n : List ℕ) (b : Bool) → list_any (is_named n) links ≡ b → IfOk (if b then Err OutOfRange else Ok n) IsFree
  unless_taken n true is = tt
  unless_taken n false is = is

  new_names : (look : Looked (List ℕ)) → IfOk (and_if look (λ n. if list_any (is_named n) links then Err OutOfRange else Ok n)) IsFree
  new_names (Ok n) = unless_taken n (list_any (is_named n) links) refl
  new_names (Err reason) = tt

  named_some : (name : Option (List ℕ)) → Named links name → IfSome name IsFree
  named_some None free = tt
  named_some (Some n) free = free

  device_keys : EachKeeps (λ e. Named links e.name × (passes is_station e.mac ≡ true)) (device_table links).keys
  device_keys = (
    λ s e p. on_with IsFree (λ e. Named links e.name × (passes is_station e.mac ≡ true)) _ (at_once (new_name links s)) (on_at_once IsFree (new_name links s) (new_names (name s))) (λ n free. (free, p.1)),
    (
      λ s e p. on_with (λ mac. is_station mac ≡ true) (λ e. Named links e.name × (passes is_station e.mac ≡ true)) _ (at_once (station s)) (on_at_once (λ mac. is_station mac ≡ true) (station s) (station_read s)) (λ mac own. (p.0, own)),
      tt,
    ),
  )

  new_device : (s : Shape) → OnValue (IsNew links) (device links s)
  unfolding IsBuilt
  new_device s =
      on_next (λ e. Named links e.name × (passes is_station e.mac ≡ true)) (IsNew links) (read_map (device_table links) no_device s) device_from
      (map_keeps (λ e. Named links e.name × (passes is_station e.mac ≡ true)) (device_table links) device_keys (λ e p. tt) no_device s (tt, refl))
      (λ e p. on_next IsFree (IsNew links) (needed_at (codes "name") e.name) (λ n. with_value (built_in n) (needed_at (codes "mac-address") e.mac))
      (on_needed IsFree (codes "name") e.name (named_some e.name p.0))
      (λ n new. on_with (λ mac. is_station mac ≡ true) (IsNew links) (built_in n) (needed_at (codes "mac-address") e.mac)
      (on_needed (λ mac. is_station mac ≡ true) (codes "mac-address") e.mac (some_passing is_station e.mac p.1))
      (λ mac own. record { built = (refl, own); new = new })))

-- ---- the list

-- each link is so
pub AreBuilt : List Link → Type 0
AreBuilt [] = Unit {0}
AreBuilt (l ∷ ls) = IsBuilt l × AreBuilt ls

built_more : (ls : List Link) (l : Link) → AreBuilt ls → IsBuilt l → AreBuilt (ls ++ l ∷ [])
unfolding AreBuilt
built_more [] l all is = (is, tt)
built_more (k ∷ ls) l all is = (all.0, built_more ls l all.1 is)

record IsList (ls : List Link) (count : ℕ) : Type 0 where
  built : AreBuilt ls
  names : names_differ ls ≡ true
  long : length ls ≡ count

list_more : (ls : List Link) (l : Link) (count : ℕ) → IsList ls count → IsNew ls l → IsList (ls ++ l ∷ []) (suc count)
unfolding IsBuilt
list_more ls l count all is = record {
  built = built_more ls l all.built is.built;
  names = apart_with same_name ls l all.names (any_turned l.name ls ∙ is.new);
  long = length-append ls (l ∷ []) ∙ (let e : length ls ≡ count = all.long in omega arith);
}

read_devices : (ls : List Link) (i : ℕ) (ss : Shapes) (count : ℕ) → IsList ls count → OnValue (λ all. IsList all (count + item_count ss)) (devices ls i ss)
read_devices ls i no_shapes count all = let e : count ≡ count + 0 = omega arith in subst (λ n. IsList ls n) e all
read_devices ls i (more s ss) count all =
    on_next (IsNew ls) (λ list. IsList list (count + suc (item_count ss))) (below (At i) (device ls s)) (λ l. devices (ls ++ l ∷ []) (suc i) ss) (on_below (IsNew ls) (At i) (device ls s) (new_device ls s))
    (λ l new. let e : suc count + item_count ss ≡ count + suc (item_count ss) = omega arith in
    subst (λ n. OnValue (λ list. IsList list n) (devices (ls ++ l ∷ []) (suc i) ss)) e (read_devices (ls ++ l ∷ []) (suc i) ss (suc count) (list_more ls l count all new)))

-- a hardware list that isn't too long
pub record IsShort (ls : List Link) : Type 0 where
  pub built : AreBuilt ls
  pub names : names_differ ls ≡ true
  pub few : nat_le (length ls) MAX_LINKS ≡ true

short_if : (n : ℕ) (b : Bool) → nat_lt MAX_LINKS n ≡ b → b ≡ false → nat_le n MAX_LINKS ≡ true
short_if n b is not_long = let e : nat_lt MAX_LINKS n ≡ false = is ∙ not_long in grind (arith, nat_tests)

unless_long : (n : ℕ) (b : Bool) → nat_lt MAX_LINKS n ≡ b → (reading : Reading (List Link)) → OnValue (λ ls. IsList ls n) reading → OnValue IsShort (if b then refuse OutOfRange else reading)
unless_long n true is reading all = tt
unless_long n false is (Ok (ls, notes)) all = record { built = all.built; names = all.names; few = ap (λ (k : ℕ). nat_le k MAX_LINKS) all.long ∙ short_if n false is refl }
unless_long n false is (Err refusal) all = tt

list_right : (s : Shape) → OnValue IsShort (list_read s)
unfolding AreBuilt
list_right (list ss) =
    let e : 0 + item_count ss ≡ item_count ss = omega arith in
    unless_long (item_count ss) (nat_lt MAX_LINKS (item_count ss)) refl (devices [] 0 ss) (subst (λ n. OnValue (λ all. IsList all n) (devices [] 0 ss)) e (read_devices [] 0 ss 0 (record { built = tt; names = refl; long = refl })))
list_right nothing = tt
list_right (truth b) = tt
list_right (whole z) = tt
list_right (text t) = tt
list_right (mapping ps) = tt

there_right : (s : Shape) (b : Bool) → OnValue IsShort (if b then refuse Missing else list_read s)
there_right s true = tt
there_right s false = list_right s

-- each hardware list that is read is so
pub hardware_short : (s : Shape) → OnValue IsShort (hardware s)
hardware_short s =
    let inside = value_under "hardware" s in
    on_next (λ (looked : Unit {0}). Unit {0}) IsShort (read_map hardware_top tt (top_of s)) (λ looked. below (Key (codes "hardware")) (list_there inside)) (any_value (read_map hardware_top tt (top_of s)))
    (λ looked is. on_below IsShort (Key (codes "hardware")) (list_there inside) (there_right inside (is_null inside)))

-- ---- which is a valid network of devices

all_built : (p : Link → Bool) → ((l : Link) → IsBuilt l → p l ≡ true) → (ls : List Link) → AreBuilt ls → list_all p ls ≡ true
unfolding AreBuilt
all_built p is [] all = refl
all_built p is (l ∷ ls) all = rw (is l all.0, all_built p is ls all.1) refl

none_built : (p : Link → Bool) → ((l : Link) → IsBuilt l → p l ≡ false) → (ls : List Link) → AreBuilt ls → list_any p ls ≡ false
unfolding AreBuilt
none_built p is [] all = refl
none_built p is (l ∷ ls) all = rw (is l all.0, none_built p is ls all.1) refl

apart_built : (R : Link → Link → Bool) → ((a b : Link) → IsBuilt a → IsBuilt b → R a b ≡ false) → (ls : List Link) → AreBuilt ls → apart R ls ≡ true
unfolding AreBuilt
apart_built R is [] all = refl
apart_built R is (l ∷ ls) all = rw (none_built (R l) (λ k b. is l k all.0 b) ls all.1, apart_built R is ls all.1) refl

no_addresses : (ls : List Link) → AreBuilt ls → address_count ls ≡ 0
unfolding AreBuilt IsBuilt
no_addresses [] all = refl
no_addresses (l ∷ ls) all = let e : length l.addrs ≡ 0 = ap (λ (k : Link). length k.addrs) all.0.0 in let more : address_count ls ≡ 0 = no_addresses ls all.1 in rw (e, more) refl

-- what holds of each link as it is built in holds of each of the list
all_of_built : (P : Link → Type 0) → ((l : Link) → IsBuilt l → P l) → (ls : List Link) → AreBuilt ls → All P ls
unfolding AreBuilt
all_of_built P is [] all = All-nil P
all_of_built P is (l ∷ ls) all = All-cons P l ls (is l all.0) (all_of_built P is ls all.1)

-- each is as it is built in
pub each_built : (ls : List Link) → AreBuilt ls → All (λ (l : Link). l ≡ built_in l.name l.mac) ls
unfolding IsBuilt
each_built = all_of_built (λ (l : Link). l ≡ built_in l.name l.mac) (λ l b. b.0)

-- and has a station's MAC
pub each_station : (ls : List Link) → AreBuilt ls → All (λ (l : Link). is_station l.mac ≡ true) ls
unfolding IsBuilt
each_station = all_of_built (λ (l : Link). is_station l.mac ≡ true) (λ l b. b.1)

module _ (ls : List Link) (short : IsShort ls) where
  unstanding : (a b : Link) → IsBuilt a → IsBuilt b → depends_on a b ≡ false
  unfolding IsBuilt
  unstanding a b x y = ap₂ depends_on x.0 y.0

  unreached : (name : List ℕ) (steps : ℕ) (l : Link) → IsBuilt l → reaches ls steps name l ≡ false
  unreached name zero l is = refl
  unreached name (suc steps) l is = none_built (λ c. depends_on c l && (is_named name c || reaches ls steps name c)) (λ c b. rw (unstanding c l b is) refl) ls short.built

  simple : (p : Link → Bool) → ((n : List ℕ) (m : Mac) → p (built_in n m) ≡ true) → list_all p ls ≡ true
  unfolding IsBuilt
  simple p is = all_built p (λ l b. ap p b.0 ∙ is l.name l.mac) ls short.built

  limits : limits_hold (net_of ls [] [] no_dns) ≡ true
  limits =
      let few : nat_le (length ls) MAX_LINKS ≡ true = short.few in
      let addrs : list_all (λ (l : Link). nat_le (length l.addrs) MAX_LINK_ADDRESSES) ls ≡ true = simple (λ (l : Link). nat_le (length l.addrs) MAX_LINK_ADDRESSES) (λ n m. refl) in
      let count : nat_le (address_count ls) MAX_ADDRESSES ≡ true = ap (λ (k : ℕ). nat_le k MAX_ADDRESSES) (no_addresses ls short.built) in
      let unused : unused_default ls ≡ true = simple _ (λ n m. refl) in
      rw (few, addrs, count, unused) refl

  parts : HasAllParts (net_of ls [] [] no_dns)
  unfolding IsBuilt
  parts = record {
    names = short.names;
    bases = rw (simple (λ l. base_passes (λ b. can_be_base b.kind) ls l.kind) (λ n m. refl), apart_built (λ a b. is_twin a.kind b.kind) (λ a b x y. ap₂ (λ (c d : Link). is_twin c.kind d.kind) x.0 y.0) ls short.built) refl;
    controllers = simple (λ l. controller_passes (λ c. takes c.kind l.kind) ls l) (λ n m. refl);
    cycles = all_built (λ l. not (on_cycle ls l)) (λ l b. ap not (unreached l.name (length ls) l b)) ls short.built;
    ups = simple _ (λ n m. refl);
    mtus = simple _ (λ n m. refl);
    ports = simple _ (λ n m. refl);
    addresses = simple _ (λ n m. refl);
    routes = refl;
    rules = refl;
    options = simple _ (λ n m. refl);
    limits = limits;
    peers = simple _ (λ n m. refl);
  }

  -- the list breaks no part of validity
  pub list_valid : is_none (least_broken (net_of ls [] [] no_dns)) ≡ true
  list_valid = ap is_none (none_broken (net_of ls [] [] no_dns) parts)

  -- its links are devices alone
  pub devices_alone : list_all (λ l. is_some (device_of l.name l.kind)) ls ≡ true
  devices_alone = simple (λ l. is_some (device_of l.name l.kind)) (λ n m. refl)
