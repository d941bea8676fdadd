-- What edits of links do to the indexes.
use Rattle.std.proofs.Common.{◌≡◌, ◌∙◌, ℕ, Bool, true, false, not, ◌&&◌, List, [], ◌∷◌, ◌++◌, map, filter, Some, None, refl, sym, ap}
use Rattle.std.specs.Prelude.{if◌then◌else◌}
use Rattle.std.specs.List.{list_any}
use Rattle.std.specs.Option.{option_map_or}
use Rattle.std.specs.Ordering.{is_eq}
use Rattle.std.specs.BTreeSet.{BTreeSet}
use Rattle.std.proofs.lemmas.Cmp.{nat_list_cmp_total}
use Rattle.net_model.specs.Name.{same_bytes}
use Rattle.net_model.specs.Words.{rises, put}
use Rattle.net_model.specs.Order.{name_cmp, link_cmp}
use Rattle.net_model.specs.Links.{is_named, is_port_of, find_link, ports_of}
use Rattle.net_model.specs.Dependence.{has_base}
use Rattle.net_model.specs.Twins.{vlan_key, has_key, HasVlans, Loses}
use Rattle.net_model.specs.Valid.{vlans_differ}
use Rattle.net_model.specs.declared.link.Link.{Link}
use Rattle.net_model.specs.declared.link.Kind.{Kind}
use Rattle.net_model.specs.declared.link.Kind.TheVariants.{Veth}
use Rattle.net_model.specs.declared.route.Route.{Route}
use Rattle.net_model.proofs.lemmas.Found.{names_tie}
use Rattle.net_model.proofs.lemmas.VlanKeys.{vlans_map, vlans_put, vlans_put-other, vlans_left}
use Rattle.net_index.specs.declared.index.Index.{Index}
use Rattle.net_index.specs.declared.indexes.Indexes.{Indexes}
use Rattle.net_model.specs.Listed.{Same, Puts, LeavesOut}
use Rattle.net_index.specs.InIndex.{listed}
use Rattle.net_model.specs.Edits.{changed, edit_link, attached, let_go, detached, freed}
use Rattle.net_model.specs.OfName.{over}
use Rattle.net_index.specs.Indexed.{AreIndexes}
use Rattle.net_model.proofs.lemmas.Listing.{keys_of, keys_map, keys_filter, keys_placed, keys_put-other, keys_new, keys_left, any_agree, ties_turned}
use Rattle.net_model.proofs.lemmas.Editing.{names_edited-put, names_edited-same}
use Rattle.net_lists.proofs.lemmas.LinkLists.{not_there, no_port, changed_keeps, none_left, all_left}
use Rattle.net_model.proofs.lemmas.Maps.{count_map}
use Rattle.net_index.specs.Indexed.{IsIndexed}

-- the name of a link that isn't there is listed under no base
pub new_over : (link : Link) (links : List Link) (k : List ℕ) → find_link link.name links ≡ None → list_any (λ n. is_eq (name_cmp n link.name)) (over links k) ≡ false
new_over link links k none =
    keys_new (λ (l : Link). l.name) (λ l. has_base l.kind k) name_cmp (λ n. is_eq (name_cmp n link.name)) links
    (any_agree (λ l. is_eq (name_cmp l.name link.name)) (is_named link.name) (λ l. ties_turned name_cmp nat_list_cmp_total l.name link.name ∙ sym (names_tie link l)) links ∙ not_there (is_named link.name) links none)

-- ---- the laws of edits, where the indexes are those of the lists before

-- a link without a controller that is put into its place, its name into the list of its base, and its key into the set
pub put_link : (link : Link) (links : List Link) (routes : List Route) (old : Indexes) (new : Index (List ℕ)) (seen : BTreeSet (List ℕ × ℕ × Bool)) → rises link_cmp links ≡ true → link.controller ≡ None → AreIndexes links routes old
    → Puts name_cmp link.name (has_base link.kind) (listed old.over) (listed new) → HasVlans seen (links ++ link ∷ []) → AreIndexes (put link_cmp link links) routes (record old { over = new; vlans = seen })
put_link link links routes old new seen up free is puts has = record {
  over = λ k. puts k ∙ ap (λ (ns : List (List ℕ)). if has_base link.kind k then put name_cmp link.name ns else ns) (is.over k)
      ∙ sym (keys_placed (λ (l : Link). l.name) (λ l. has_base l.kind k) name_cmp nat_list_cmp_total link links up);
  ports = λ k. is.ports k ∙ sym (keys_put-other (λ (l : Link). l.name) (is_port_of k) link_cmp link (ap (λ o. option_map_or (λ c. same_bytes c k) o false) free) links);
  by_dev = is.by_dev;
  vlans = vlans_put link links seen has;
}

-- a veth without a controller that is put into its place
pub put_end : (link : Link) (peer : List ℕ) (links : List Link) (routes : List Route) (indexes : Indexes) → link.kind ≡ Veth peer → link.controller ≡ None → AreIndexes links routes indexes → AreIndexes (put link_cmp link links) routes indexes
put_end link peer links routes indexes end free is = record {
  over = λ k. is.over k ∙ sym (keys_put-other (λ (l : Link). l.name) (λ l. has_base l.kind k) link_cmp link (ap (λ (kind : Kind). has_base kind k) end) links);
  ports = λ k. is.ports k ∙ sym (keys_put-other (λ (l : Link). l.name) (is_port_of k) link_cmp link (ap (λ o. option_map_or (λ c. same_bytes c k) o false) free) links);
  by_dev = is.by_dev;
  vlans = vlans_put-other link links indexes.vlans (ap vlan_key end) is.vlans;
}

-- a list of bases and a set that have grown without a change
pub same_over : (links : List Link) (routes : List Route) (old : Indexes) (new : Index (List ℕ)) (seen : BTreeSet (List ℕ × ℕ × Bool)) → AreIndexes links routes old → Same (listed old.over) (listed new) → HasVlans seen links → AreIndexes links routes (record old { over = new; vlans = seen })
same_over links routes old new seen is same has = record { over = λ k. same k ∙ is.over k; ports = is.ports; by_dev = is.by_dev; vlans = has }

-- a list of controllers that has grown without a change
pub same_ports : (links : List Link) (routes : List Route) (old : Indexes) (new : Index (List ℕ)) → AreIndexes links routes old → Same (listed old.ports) (listed new) → AreIndexes links routes (record old { ports = new })
same_ports links routes old new is same = record { over = is.over; ports = λ k. same k ∙ is.ports k; by_dev = is.by_dev; vlans = is.vlans }

-- a link that gets a controller, and its name that is put into the controller's list
pub attached_port : (port controller : List ℕ) (l : Link) (links : List Link) (routes : List Route) (old : Indexes) (new : Index (List ℕ))
    → rises link_cmp links ≡ true → find_link port links ≡ Some l → l.controller ≡ None → AreIndexes links routes old
    → Puts name_cmp port (same_bytes controller) (listed old.ports) (listed new)
    → AreIndexes (edit_link port (attached controller) links) routes (record old { ports = new })
attached_port port controller l links routes old new up found free is puts = record {
  over = λ k. is.over k ∙ sym (names_edited-same port (attached controller) (λ m. refl) (λ m. has_base m.kind k) l refl links up found);
  ports = λ k. puts k ∙ ap (λ (ns : List (List ℕ)). if same_bytes controller k then put name_cmp port ns else ns) (is.ports k) ∙ sym (listed_then k);
  by_dev = is.by_dev;
  vlans = vlans_map (changed port (attached controller)) (changed_keeps (λ m. m.kind) port (attached controller) (λ m. refl)) links old.vlans is.vlans;
}
  where
    listed_then : (k : List ℕ) → ports_of (edit_link port (attached controller) links) k ≡ (if same_bytes controller k then put name_cmp port (ports_of links k) else ports_of links k)
    listed_then k = elim (same_bytes controller k) as (λ v. same_bytes controller k ≡ v → ports_of (edit_link port (attached controller) links) k ≡ (if v then put name_cmp port (ports_of links k) else ports_of links k)) [
      | true ↦ λ e. names_edited-put port (attached controller) (λ m. refl) (is_port_of k) l (no_port l k free) e links up found
      | false ↦ λ e. names_edited-same port (attached controller) (λ m. refl) (is_port_of k) l (e ∙ sym (no_port l k free)) links up found
    ] refl

-- a change of each link that keeps name, kind and controller
module _ (f : Link → Link) (name : (l : Link) → (f l).name ≡ l.name) (kind : (l : Link) → (f l).kind ≡ l.kind) where
  -- the VLANs over a base stay where names and kinds do
  over_map : (links : List Link) (k : List ℕ) → over (map f links) k ≡ over links k
  over_map links k = keys_map (λ (l : Link). l.name) (λ l. has_base l.kind k) f name (λ l. ap (λ (o : Kind). has_base o k) (kind l)) links

  -- and the indexes are those of the links after it
  pub kept_map : ((l : Link) → (f l).controller ≡ l.controller) → (links : List Link) (routes : List Route) (indexes : Indexes) → AreIndexes links routes indexes → AreIndexes (map f links) routes indexes
  kept_map controller links routes indexes is = record {
    over = λ k. is.over k ∙ sym (over_map links k);
    ports = λ k. is.ports k ∙ sym (keys_map (λ (l : Link). l.name) (is_port_of k) f name (λ l. ap (λ o. option_map_or (λ c. same_bytes c k) o false) (controller l)) links);
    by_dev = is.by_dev;
    vlans = vlans_map f kind links indexes.vlans is.vlans;
  }

-- a change of the named link alone that keeps name, kind and controller leaves the indexes as they are
pub kept_edit : (name : List ℕ) (g : Link → Link) → ((l : Link) → (g l).name ≡ l.name) → ((l : Link) → (g l).kind ≡ l.kind) → ((l : Link) → (g l).controller ≡ l.controller)
    → (links : List Link) (routes : List Route) (indexes : Indexes) → AreIndexes links routes indexes → AreIndexes (edit_link name g links) routes indexes
kept_edit name g names kinds controllers =
    kept_map (changed name g) (changed_keeps (λ l. l.name) name g names) (changed_keeps (λ l. l.kind) name g kinds) (changed_keeps (λ l. l.controller) name g controllers)

-- a port that is detached, and its name that is taken out of all lists of controllers
pub detached_port : (port : List ℕ) (links : List Link) (routes : List Route) (old : Indexes) (new : Index (List ℕ)) → AreIndexes links routes old → LeavesOut port (listed old.ports) (listed new)
    → AreIndexes (map (detached port) links) routes (record old { ports = new })
detached_port port links routes old new is leaves = record {
  over = λ k. is.over k ∙ sym (over_map (detached port) name kind links k);
  ports = λ k. leaves k ∙ ap (filter (λ n. not (same_bytes n port))) (is.ports k) ∙ sym (keys_left (λ (l : Link). l.name) (is_port_of k) (detached port) (λ n. not (same_bytes n port)) name (test k) links);
  by_dev = is.by_dev;
  vlans = vlans_map (detached port) kind links old.vlans is.vlans;
}
  where
    name : (l : Link) → (detached port l).name ≡ l.name
    name l = changed_keeps (λ k. k.name) port let_go (λ k. refl) l

    kind : (l : Link) → (detached port l).kind ≡ l.kind
    kind l = changed_keeps (λ k. k.kind) port let_go (λ k. refl) l

    and_false : (b : Bool) → false ≡ (b && false)
    and_false true = refl
    and_false false = refl

    and_true : (b : Bool) → b ≡ (b && true)
    and_true true = refl
    and_true false = refl

    test : (k : List ℕ) (l : Link) → is_port_of k (detached port l) ≡ (is_port_of k l && not (same_bytes l.name port))
    test k l = elim (same_bytes l.name port) as (λ v. option_map_or (λ c. same_bytes c k) (if v then let_go l else l).controller false ≡ (is_port_of k l && not v)) [
      | true ↦ and_false (is_port_of k l)
      | false ↦ and_true (is_port_of k l)
    ]

-- links that go
module _ (goes : List ℕ → Bool) where
  no_keys : {X Y : Type 0} (key : X → Y) (p : X → Bool) (f : X → X) → ((x : X) → p (f x) ≡ false) → (xs : List X) → keys_of key p (map f xs) ≡ []
  no_keys key p f off [] = refl
  no_keys key p f off (x ∷ xs) = rw (off x) (no_keys key p f off xs)

  -- where their lists of ports are emptied, the indexes are those of the links that name none of them
  pub freed_links : (links : List Link) (routes : List Route) (old : Indexes) (ports : Index (List ℕ)) → AreIndexes links routes old → ((k : List ℕ) → listed ports k ≡ (if goes k then [] else listed old.ports k))
      → AreIndexes (map (freed goes) links) routes (record old { ports = ports })
  freed_links links routes old ports is emptied = record {
    over = λ k. is.over k ∙ sym (over_map (freed goes) (λ l. refl) (λ l. refl) links k);
    ports = λ k. elim (goes k) as (λ v. goes k ≡ v → listed ports k ≡ (if v then [] else listed old.ports k) → listed ports k ≡ ports_of (map (freed goes) links) k) [
      | true ↦ λ e h. h ∙ sym (no_keys (λ (l : Link). l.name) (is_port_of k) (freed goes) (λ l. none_left goes k e l.controller) links)
      | false ↦ λ e h. h ∙ is.ports k ∙ sym (keys_map (λ (l : Link). l.name) (is_port_of k) (freed goes) (λ l. refl) (λ l. all_left goes k e l.controller) links)
    ] refl (emptied k);
    by_dev = is.by_dev;
    vlans = vlans_map (freed goes) (λ l. refl) links old.vlans is.vlans;
  }

  -- where their names are taken out of all lists and their keys out of the set, the indexes are those of the links that stay
  pub kept_links : (links : List Link) (routes : List Route) (old : Indexes) (vlans ports : Index (List ℕ)) (seen : BTreeSet (List ℕ × ℕ × Bool)) → vlans_differ links ≡ true → AreIndexes links routes old
      → ((k : List ℕ) → listed vlans k ≡ filter (λ n. not (goes n)) (over links k)) → ((k : List ℕ) → listed ports k ≡ filter (λ n. not (goes n)) (ports_of links k))
      → Loses (λ key. list_any (λ (l : Link). goes l.name && has_key key l.kind) links) old.vlans seen
      → AreIndexes (filter (λ l. not (goes l.name)) links) routes (record old { over = vlans; ports = ports; vlans = seen })
  kept_links links routes old vlans ports seen differ is of_bases of_controllers lost = record {
    over = λ k. of_bases k ∙ sym (keys_filter (λ (l : Link). l.name) (λ l. has_base l.kind k) (λ n. not (goes n)) links);
    ports = λ k. of_controllers k ∙ sym (keys_filter (λ (l : Link). l.name) (is_port_of k) (λ n. not (goes n)) links);
    by_dev = is.by_dev;
    vlans = vlans_left goes links old.vlans seen differ is.vlans lost;
  }

-- ---- the indexes and the count

-- a change of each link that keeps name, kind, controller and addresses
pub kept_all : (f : Link → Link) → ((l : Link) → (f l).name ≡ l.name) → ((l : Link) → (f l).kind ≡ l.kind) → ((l : Link) → (f l).controller ≡ l.controller) → ((l : Link) → (f l).addrs ≡ l.addrs)
    → (links : List Link) (routes : List Route) (indexes : Indexes) (addresses : ℕ) → IsIndexed links routes indexes addresses → IsIndexed (map f links) routes indexes addresses
kept_all f name kind controller addrs links routes indexes addresses is = record {
  lists = kept_map f name kind controller links routes indexes is.lists;
  count = is.count ∙ sym (count_map f name addrs links);
}

-- and one of the named link alone
pub kept_one : (name : List ℕ) (g : Link → Link) → ((l : Link) → (g l).name ≡ l.name) → ((l : Link) → (g l).kind ≡ l.kind) → ((l : Link) → (g l).controller ≡ l.controller) → ((l : Link) → (g l).addrs ≡ l.addrs)
    → (links : List Link) (routes : List Route) (indexes : Indexes) (addresses : ℕ) → IsIndexed links routes indexes addresses → IsIndexed (edit_link name g links) routes indexes addresses
kept_one name g names kinds controllers addrs =
    kept_all (changed name g) (changed_keeps (λ (l : Link). l.name) name g names) (changed_keeps (λ (l : Link). l.kind) name g kinds) (changed_keeps (λ (l : Link). l.controller) name g controllers) (changed_keeps (λ (l : Link). l.addrs) name g addrs)
