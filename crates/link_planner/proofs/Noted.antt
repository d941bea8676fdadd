-- Deletions that are noted: what is left of the network, and what a call for one more link leads to.
use Rattle.std.proofs.Common.{◌≡◌, ℕ, Bool, true, false, not, ◌||◌, cond, List, [], ◌∷◌, ◌++◌, filter, inl, inr, Option, Some, None, refl, sym, ap, subst, ◌∙◌, append_assoc, append-nil}
use Rattle.std.specs.Prelude.{option_map}
use Rattle.std.specs.List.{list_any, list_all}
use Rattle.std.specs.Option.{option_map_or}
use Rattle.std.specs.Ordering.{is_eq}
use Rattle.std.specs.Cmp.Lexicographic.{texts_ties}
use Rattle.net_model.specs.Name.{same_bytes}
use Rattle.net_model.specs.Words.{is_among}
use Rattle.net_model.specs.Order.{name_cmp}
use Rattle.net_model.specs.Links.{find_link, is_ethernet, peer_of}
use Rattle.net_model.specs.Dependence.{has_base}
use Rattle.net_model.specs.OfName.{over}
use Rattle.net_model.specs.Edits.{freed, without}
use Rattle.net_model.specs.NetData.{NetData, IsNet}
use Rattle.net_model.specs.Facts.{PeerFacts}
use Rattle.net_model.specs.declared.link.Link.{Link}
use Rattle.net_model.specs.declared.link.Kind.{Kind}
use Rattle.net_model.specs.declared.link.Kind.TheVariants.{Ethernet, Bond, Bridge, Vlan, Vrf, Dummy, Veth}
use Rattle.net_model.specs.declared.options.Proto.{Proto}
use Rattle.net_model.specs.declared.call.Call.{Call}
use Rattle.net_model.specs.declared.call.Call.TheVariants.{DelLink}
use Rattle.net_model.proofs.lemmas.Truth.{and_left, and_right, or_right}
use Rattle.net_model.proofs.lemmas.Found.{one_name, itself}
use Rattle.net_model.proofs.lemmas.Grounded.{found_named}
use Rattle.net_model.proofs.lemmas.FactsHold.{facts}
use Rattle.net_model.proofs.lemmas.ByName.{or_left, found_passing, some_same}
use Rattle.net_model.proofs.lemmas.Ranks.{or_elim}
use Rattle.net_model.proofs.lemmas.Maps.{find_map}
use Rattle.net_model.proofs.lemmas.Ports.{among_filtered}
use Rattle.net_model.proofs.lemmas.Listing.{any_agree}
use Rattle.net_model.proofs.lemmas.ListChanges.{either_way}
use Rattle.kernel_model.specs.MadeLinks.{goes_with}
use Rattle.kernel_laws.proofs.lemmas.Deleting.{find_stays, find_gone}
use Rattle.kernel_laws.proofs.lemmas.StepKeeps.{goes_with_it}
use Rattle.plan_model.specs.Laws.{OneMore}
use Rattle.link_planner.specs.declared.deletions.Deletions.{Deletions}
use Rattle.link_planner.specs.declared.phase.Phase.TheVariants.{DeleteLinks}
use Rattle.link_planner.specs.Drafts.{DraftData, Holds, draft_of, with_call, with_deleted}
use Rattle.link_planner.specs.Phases.{IsNext, IsServed}
use Rattle.link_planner.specs.Kept.{is_kept}
use Rattle.link_planner.specs.Shrinking.{HasStayed}
use Rattle.link_planner.specs.Deletions.{is_noted, noted, AreNone, is_either, Notes, kind_at, is_bare, are_bare, GoesAs, MayServe, HasServed}
use Rattle.link_planner.proofs.Deleting.{delete_next}
use Rattle.link_planner.proofs.Drafting.{held}
use Rattle.link_planner.proofs.Phasing.{served}
use Rattle.link_planner.proofs.Without.{without_more, without_none, without_agree}

-- ---- what is found where links go

module _ (goes : List ℕ → Bool) (net : NetData) where
  unfound : (n : List ℕ) → goes n ≡ true → find_link n (without goes net).links ≡ None
  unfound n on = find_map (freed goes) (λ l. refl) (filter (λ l. not (goes l.name)) net.links) n ∙ ap (option_map (freed goes)) (find_gone goes net.links n on)

  left : (n : List ℕ) → goes n ≡ false → find_link n (without goes net).links ≡ option_map (freed goes) (find_link n net.links)
  left n off = find_map (freed goes) (λ l. refl) (filter (λ l. not (goes l.name)) net.links) n ∙ ap (option_map (freed goes)) (find_stays goes net.links n off)

  -- a link that is left, as it was before
  record Was (n : List ℕ) (l : Link) : Type 0 where
    stays : goes n ≡ false
    old : Link
    there : find_link n net.links ≡ Some old
    is : l ≡ freed goes old

  was : (n : List ℕ) (l : Link) → find_link n (without goes net).links ≡ Some l → Was n l
  was n l found = elim (goes n) as (λ v. goes n ≡ v → Was n l) [
    | true ↦ λ on. absurd (let no : (let o : Option Link = None in o) ≡ Some l = sym (unfound n on) ∙ found in cc)
    | false ↦ λ off. of off (find_link n net.links) refl
  ] refl
    where
      of : goes n ≡ false → (o : Option Link) → find_link n net.links ≡ o → Was n l
      of off None e = absurd (let no : (let o : Option Link = None in o) ≡ Some l = ap (option_map (freed goes)) (sym e) ∙ sym (left n off) ∙ found in cc)
      of off (Some k) e = record { stays = off; old = k; there = e; is = some_same l (freed goes k) (sym found ∙ left n off ∙ ap (option_map (freed goes)) e) }

  -- a link that goes has no kind, and one that is left has its own
  pub kind_gone : (n : List ℕ) → goes n ≡ true → kind_at (without goes net).links n ≡ None
  kind_gone n on = ap (option_map (λ (l : Link). l.kind)) (unfound n on)

  pub kind_stays : (n : List ℕ) → goes n ≡ false → kind_at (without goes net).links n ≡ kind_at net.links n
  kind_stays n off = ap (option_map (λ (l : Link). l.kind)) (left n off) ∙ of (find_link n net.links)
    where
      of : (o : Option Link) → option_map (λ (l : Link). l.kind) (option_map (freed goes) o) ≡ option_map (λ (l : Link). l.kind) o
      of None = refl
      of (Some l) = refl

-- ---- links that stay, and links that must go

some_kind : (a b : Kind) → Some a ≡ Some b → a ≡ b
some_kind a b e = cc

module _ (d : DraftData) (n : List ℕ) where
  pub none_stays : kind_at d.net.links n ≡ None → HasStayed d.start d.target d.net n
  none_stays none = λ l found. absurd (let no : (let o : Option Kind = None in o) ≡ Some l.kind = sym none ∙ ap (option_map (λ (k : Link). k.kind)) found in cc)

  pub device_stays : (k : Kind) → kind_at d.net.links n ≡ Some k → is_ethernet k ≡ true → HasStayed d.start d.target d.net n
  device_stays k is device = λ l found. inr (ap is_ethernet (some_kind l.kind k (sym (ap (option_map (λ (x : Link). x.kind)) found) ∙ is)) ∙ device)

  pub kept_stays : is_kept d.start d.target n ≡ true → HasStayed d.start d.target d.net n
  kept_stays kept = λ l found. inl kept

  pub goes_as : (k : Kind) → kind_at d.net.links n ≡ Some k → is_ethernet k ≡ false → is_kept d.start d.target n ≡ false → GoesAs d n k
  goes_as k is made unkept = of (find_link n d.net.links) refl
    where
      of : (o : Option Link) → find_link n d.net.links ≡ o → GoesAs d n k
      of None e = absurd (let no : (let o : Option Kind = None in o) ≡ Some k = ap (option_map (λ (l : Link). l.kind)) (sym e) ∙ is in cc)
      of (Some l) e =
          let same : l.kind ≡ k = some_kind l.kind k (ap (option_map (λ (x : Link). x.kind)) (sym e) ∙ is) in
          record { must = record { link = l; found = e; made = ap is_ethernet same ∙ made; unkept = unkept }; kind = same }

-- ---- a link over which nothing is left goes with its peer alone

is_veth : (k : Kind) (peer : List ℕ) → peer_of k ≡ Some peer → k ≡ Veth peer
is_veth (Veth own) peer h = ap Veth (one own peer h)
  where
    one : (a b : List ℕ) → Some a ≡ Some b → a ≡ b
    one a b e = cc
is_veth (Ethernet permanent) peer h = absurd cc
is_veth (Bond mode) peer h = absurd cc
is_veth Bridge peer h = absurd cc
is_veth (Vlan base id proto) peer h = absurd cc
is_veth (Vrf table) peer h = absurd cc
is_veth Dummy peer h = absurd cc

one_peer : (a b : List ℕ) → (let k : Kind = Veth a in k) ≡ Veth b → a ≡ b
one_peer a b e = cc

same_peer : (o : Option (List ℕ)) (n : List ℕ) → option_map_or (λ p. same_bytes p n) o false ≡ true → o ≡ Some n
same_peer None n h = absurd cc
same_peer (Some p) n h = ap Some (one_name p n h)

both_ways : (a b : Bool) → (a ≡ true → b ≡ true) → (b ≡ true → a ≡ true) → a ≡ b
both_ways true b there back = sym (there refl)
both_ways false true there back = back refl
both_ways false false there back = refl

module _ (net : NetData) (is : IsNet net) (name : List ℕ) (l : Link) (found : find_link name net.links ≡ Some l)
    (bare : (b v : List ℕ) (k : Link) (id : ℕ) (proto : Proto) → is_either name (peer_of l.kind) b ≡ true → find_link v net.links ≡ Some k → k.kind ≡ Vlan b id proto → ⊥) where
  abbrev test : List ℕ → Bool
  test = is_either name (peer_of l.kind)

  root_passes : test name ≡ true
  root_passes = or_left (same_bytes name name) (option_map_or (λ p. same_bytes p name) (peer_of l.kind) false) (itself name)

  paired : (v : List ℕ) (k : Link) (other : List ℕ) → find_link v net.links ≡ Some k → k.kind ≡ Veth other → test v ≡ true → test other ≡ true
  paired v k other there kind on =
      or_elim (same_bytes name v) (option_map_or (λ p. same_bytes p v) (peer_of l.kind) false) (test other ≡ true)
      (λ e.
      let same : l ≡ k = some_same l k (sym found ∙ ap (λ x. find_link x net.links) (one_name name v e) ∙ there) in
      or_right (same_bytes name other) (option_map_or (λ p. same_bytes p other) (peer_of l.kind) false)
      (ap (λ o. option_map_or (λ p. same_bytes p other) o false) (ap (λ (x : Link). peer_of x.kind) same ∙ ap peer_of kind) ∙ itself other))
      (λ e.
      let f : PeerFacts net.links l v = (facts net is).peer name l v found (is_veth l.kind v (same_peer (peer_of l.kind) v e)) in
      let same : k ≡ f.link = some_same k f.link (sym there ∙ f.there) in
      let back : other ≡ l.name = one_peer other l.name (sym kind ∙ ap (λ (x : Link). x.kind) same ∙ f.back) in
      or_left (same_bytes name other) (option_map_or (λ p. same_bytes p other) (peer_of l.kind) false)
      (ap (same_bytes name) (back ∙ found_named net.links name l found) ∙ itself name))
      on

  goes_back : (n : List ℕ) → test n ≡ true → goes_with net.links name n ≡ true
  goes_back n on =
      let root : goes_with net.links name name ≡ true = (goes_with_it net name is).root l found in
      or_elim (same_bytes name n) (option_map_or (λ p. same_bytes p n) (peer_of l.kind) false) (goes_with net.links name n ≡ true)
      (λ e. ap (goes_with net.links name) (sym (one_name name n e)) ∙ root)
      (λ e. (goes_with_it net name is).peer name l n found (is_veth l.kind n (same_peer (peer_of l.kind) n e)) root)
      on

  goes_either : (n : List ℕ) → goes_with net.links name n ≡ is_either name (peer_of l.kind) n
  goes_either n =
      both_ways (goes_with net.links name n) (test n)
      ((goes_with_it net name is).least test root_passes paired (λ v k base id proto there kind on. absurd (bare base v k id proto on there kind)) n)
      (goes_back n)

-- ---- what stands over a link

all_among : (p : List ℕ → Bool) (ns : List (List ℕ)) (n : List ℕ) → list_all p ns ≡ true → is_among ns n ≡ true → p n ≡ true
all_among p [] n all among = absurd cc
all_among p (m ∷ ms) n all among =
    elim (same_bytes m n) as (λ v. same_bytes m n ≡ v → (v || is_among ms n) ≡ true → p n ≡ true) [
      | true ↦ λ e _. ap p (sym (one_name m n e)) ∙ and_left (p m) (list_all p ms) all
      | false ↦ λ _ later. all_among p ms n (and_right (p m) (list_all p ms) all) later
    ] refl among

-- where each VLAN over a link goes, each that is there goes
over_goes : (goes : List ℕ → Bool) (links : List Link) (base v : List ℕ) (k : Link) (id : ℕ) (proto : Proto) → list_all goes (over links base) ≡ true → find_link v links ≡ Some k → k.kind ≡ Vlan base id proto → goes v ≡ true
over_goes goes links base v k id proto bare found kind =
    all_among goes (over links base) v bare
    (among_filtered (λ l. has_base l.kind base) v links ∙ found_passing (λ l. has_base l.kind base) links v k found (ap (λ x. has_base x base) kind ∙ itself base))

-- so none is left
none_over : (goes : List ℕ → Bool) (net : NetData) (base v : List ℕ) (k : Link) (id : ℕ) (proto : Proto) → list_all goes (over net.links base) ≡ true → find_link v (without goes net).links ≡ Some k → k.kind ≡ Vlan base id proto → ⊥
none_over goes net base v k id proto bare found kind =
    let w : Was goes net v k = was goes net v k found in
    let no : true ≡ false = sym (over_goes goes net.links base v w.old id proto bare w.there (ap (λ (x : Link). x.kind) (sym w.is) ∙ kind)) ∙ w.stays in
    absurd cc

-- both the link and its peer
either_bare : (deletions : Deletions) (links : List Link) (name : List ℕ) (peer : Option (List ℕ)) → are_bare deletions links name peer ≡ true → (b : List ℕ) → is_either name peer b ≡ true → is_bare deletions links b ≡ true
either_bare deletions links name peer bare b on =
    or_elim (same_bytes name b) (option_map_or (λ p. same_bytes p b) peer false) (is_bare deletions links b ≡ true)
    (λ e. ap (is_bare deletions links) (sym (one_name name b e)) ∙ and_left (is_bare deletions links name) (option_map_or (is_bare deletions links) peer true) bare)
    (λ e. ap (λ o. option_map_or (is_bare deletions links) o true) (sym (same_peer peer b e)) ∙ and_right (is_bare deletions links name) (option_map_or (is_bare deletions links) peer true) bare)
    on

-- ---- one deletion more

module _ (old new : Deletions) (d : DraftData) (name : List ℕ) (k : Kind) (peer : Option (List ℕ)) (holds : Holds (noted old d)) (must : GoesAs (noted old d) name k) (own : peer ≡ peer_of k)
    (bare : are_bare old d.net.links name peer ≡ true) (notes : Notes name peer old new) where
  abbrev before : NetData
  before = without (is_noted old) d.net

  peers : peer ≡ peer_of must.must.link.kind
  peers = own ∙ ap peer_of (sym must.kind)

  -- with the link goes its peer, and nothing else
  goes_alone : (n : List ℕ) → goes_with before.links name n ≡ is_either name peer n
  goes_alone n =
      goes_either before holds.net name must.must.link must.must.found
      (λ b v l id proto on found kind. none_over (is_noted old) d.net b v l id proto (either_bare old d.net.links name peer bare b (ap (λ o. is_either name o b) peers ∙ on)) found kind) n
      ∙ ap (λ o. is_either name o n) (sym peers)

  net_more : without (is_noted new) d.net ≡ without (goes_with before.links name) before
  net_more = sym (without_more (is_noted old) (goes_with before.links name) (is_noted new) (λ n. notes.names n ∙ ap (λ b. is_noted old n || b) (sym (goes_alone n))) d.net)

  calls_more : d.calls ++ new.calls.items ≡ (d.calls ++ old.calls.items) ++ DelLink name ∷ []
  calls_more = ap (λ (cs : List Call). d.calls ++ cs) notes.calls ∙ sym (append_assoc d.calls old.calls.items (DelLink name ∷ []))

  -- so the draft is as after the call
  noted_more : noted new d ≡ with_call (DelLink name) (noted old d)
  noted_more =
      ap (λ (n : NetData). draft_of d.start d.target n (d.calls ++ new.calls.items)) net_more
      ∙ ap (λ (cs : List Call). draft_of d.start d.target (without (goes_with before.links name) before) cs) calls_more

-- a link whose deletion is noted has been served
pub note_served : OneMore → (old new : Deletions) (d : DraftData) (name : List ℕ) (k : Kind) (peer : Option (List ℕ)) → MayServe (noted old d) name → GoesAs (noted old d) name k → peer ≡ peer_of k → are_bare old d.net.links name peer ≡ true → Notes name peer old new
    → HasServed name (noted old d) (noted new d)
note_served one_more old new d name k peer may must own bare notes =
    let next : IsNext DeleteLinks (noted old d) name (DelLink name) = delete_next (noted old d) may.holds name may.due.stands must.must in
    subst (HasServed name (noted old d)) (sym (noted_more old new d name k peer may.holds must own bare notes))
    (record { served = served DeleteLinks (noted old d) name (Some (DelLink name)) may.due next; holds = held one_more (noted old d) (DelLink name) may.holds next.safe })

-- a link that may stay has been served without a call
pub stay_served : (d : DraftData) (name : List ℕ) → MayServe d name → HasStayed d.start d.target d.net name → HasServed name d d
stay_served d name may stayed = record { served = served DeleteLinks d name None may.due stayed; holds = may.holds }

-- ---- where none is noted

pub noted_none : (deletions : Deletions) (d : DraftData) → AreNone deletions → noted deletions d ≡ d
noted_none deletions d none =
    ap (λ (n : NetData). draft_of d.start d.target n (d.calls ++ deletions.calls.items)) nets
    ∙ ap (λ (cs : List Call). draft_of d.start d.target d.net cs) (ap (λ (cs : List Call). d.calls ++ cs) none.calls ∙ append-nil d.calls)
  where
    nets : without (is_noted deletions) d.net ≡ d.net
    nets = without_agree (is_noted deletions) (λ n. false) (λ n. ap (λ (ks : List (List ℕ)). list_any (λ k. is_eq (name_cmp n k)) ks) none.names) d.net ∙ without_none d.net

-- a link that is deleted at once, after all that were noted, has been served
pub once_served : (name : List ℕ) (first mid last : DraftData) (deletions : Deletions) → AreNone deletions → mid ≡ first → IsServed DeleteLinks name mid last → Holds last → HasServed name first (noted deletions last)
once_served name first mid last deletions none same done holds =
    subst (HasServed name first) (sym (noted_none deletions last none)) (record { served = subst (λ v. IsServed DeleteLinks name v last) same done; holds = holds })

-- ---- the set of names

-- the names of the set are those that it has
pub noted_as : (deletions : Deletions) (d : DraftData) (names : List (List ℕ)) → names ≡ deletions.names.keys → with_deleted names deletions.calls.items d ≡ noted deletions d
noted_as deletions d names is =
    ap (λ (n : NetData). draft_of d.start d.target n (d.calls ++ deletions.calls.items)) (without_agree (is_among names) (is_noted deletions) among d.net)
  where
    among : (n : List ℕ) → is_among names n ≡ is_noted deletions n
    among n =
        ap (λ (ks : List (List ℕ)). is_among ks n) is
        ∙ any_agree (λ (k : List ℕ). same_bytes k n) (λ (k : List ℕ). is_eq (name_cmp n k)) (λ k. either_way k n ∙ texts_ties n k) deletions.names.keys

-- a name that is put into the set
pub one_put : (name n : List ℕ) (old new : Bool) → new ≡ cond (is_eq (name_cmp name n)) true old → new ≡ (old || same_bytes name n)
one_put name n old new e = e ∙ ap (λ b. cond b true old) (sym (texts_ties name n)) ∙ by (same_bytes name n) old
  where
    by : (s o : Bool) → cond s true o ≡ (o || s)
    by true true = refl
    by true false = refl
    by false true = refl
    by false false = refl

-- none is put into it
pub none_put : (o : Bool) → o ≡ (o || false)
none_put true = refl
none_put false = refl

-- a name and another
pub both_put : (old mid new s p : Bool) → mid ≡ (old || s) → new ≡ (mid || p) → new ≡ (old || (s || p))
both_put old mid new s p first second = second ∙ ap (λ b. b || p) first ∙ by old
  where
    by : (o : Bool) → ((o || s) || p) ≡ (o || (s || p))
    by true = refl
    by false = refl
