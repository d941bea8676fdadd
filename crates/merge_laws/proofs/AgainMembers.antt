-- The members by rank of a document that is merged again: those of the first time, each with its merged link as the link before. An
-- implied link is there by then and no entry makes it, so it comes among the links that aren't mentioned.
use Rattle.std.proofs.Common.{IsPermutation, subst, ◌≡◌, ◌++◌, ℕ, Bool, true, false, not, ◌||◌, ◌&&◌, cond, if◌then◌else◌, List, [], ◌∷◌, length, map, filter, Option, Some, None, IfSome, is_some, is_none, zero, suc, refl, sym, ap, ◌∙◌}
use Rattle.std.specs.List.{list_any, list_all, filter_map, cons_option}
use Rattle.std.specs.Option.{option_map, option_map_or, option_or, option_and_then}
use Rattle.std.proofs.lemmas.List.{map-append}
use Rattle.std.proofs.lemmas.List.Elements.{filter-append}
use Rattle.std.proofs.lemmas.List.Sorted.{IsPermutation-map, IsPermutation-append_right, list_any-IsPermutation}
use Rattle.reach.specs.Reach.{is_reached}
use Rattle.net_model.specs.Words.{apart, rises, sorted}
use Rattle.net_model.specs.Order.{link_cmp}
use Rattle.net_model.specs.Links.{find_link, is_named, same_name, is_ethernet, peer_of, has_peer, peer_passes}
use Rattle.net_model.specs.Valid.{names_differ, peers_stand}
use Rattle.net_model.specs.declared.Link.{Link}
use Rattle.net_model.specs.declared.Kind.{Kind}
use Rattle.net_model.specs.declared.Kind.TheVariants.{Ethernet, Bond, Bridge, Vlan, Vrf, Dummy, Veth}
use Rattle.net_model.proofs.lemmas.Truth.{and_left, and_right, not_true, not_false}
use Rattle.net_model.proofs.lemmas.Found.{one_name, names_tie, named_passes_found}
use Rattle.net_model.proofs.lemmas.Orders.{link_cmp_total}
use Rattle.net_model.proofs.lemmas.Permute.{list_all-IsPermutation}
use Rattle.net_model.proofs.lemmas.Sorting.{sorted_moves}
use Rattle.document_model.specs.declared.LinkEntry.{LinkEntry}
use Rattle.document_model.specs.declared.Wish.{Wish}
use Rattle.document_model.specs.declared.Wish.TheVariants.{Absent}
use Rattle.merge_model.specs.Stated.{find_entry, is_mentioned, is_absent}
use Rattle.merge_model.specs.Kinds.{merged_kind}
use Rattle.merge_model.specs.Once.{once}
use Rattle.merge_model.specs.Members.{Member, member, members_by_rank, entered, entered_over, retired, stays, is_gone, is_dropped, is_left, is_removed, keeps_peer, leaves_peer, goes_with, stated_wish, left_alone, is_unheard, other_end, implied_by, implied}
use Rattle.merge_model.specs.Controllers.{lists}
use Rattle.merge_model.specs.Merge.{links_of}
use Rattle.merge_laws.proofs.Each.{Each, each_of, each_all, all_of_each, each_two, each_weaker, each_map, each_append, each_front, each_filter, each_filter_map, map_each, map_map}
use Rattle.merge_laws.proofs.Searches.{all_map, not_and, or_nothing, or_false, and_false}
use Rattle.merge_laws.proofs.Members.{same_entry, same_member, entered_gives, ranked_give, implied_each}
use Rattle.net_model.proofs.lemmas.Ordered.{sorted_rises}
use Rattle.merge_laws.proofs.SortedLists.{filter_sorted}
use Rattle.merge_laws.proofs.KindAgain.{kind_again}
use Rattle.merge_laws.proofs.Lookups.{mentioned_found, each_entry_found, find_entry_named}
use Rattle.merge_laws.proofs.MergedLinks.{member_link, links_from_ranked, found_in_merged}
use Rattle.merge_laws.proofs.Devices.{has_details}

-- what is stated of the state when the link is there already: a new name's default is gone
abbrev pub rewish : Member → Option Wish
rewish m = option_map_or (λ e. e.wish) m.entry (option_and_then (λ l. m.wish) m.old)

-- a member at the second time
abbrev pub again : List Link → List LinkEntry → Member → Member
again links es s = record s { old = Some (member_link links es s); wish = rewish s }

-- ---- entries

retired_again : (links : List Link) (es : List LinkEntry) (n : List ℕ) (o : Option Link) → retired n (option_map (member_link links es) (retired n o)) ≡ option_map (again links es) (retired n o)
retired_again links es n None = refl
retired_again links es n (Some l) =
    let s : Member = member n l.kind (Some l) None (Some Absent) in
    elim (is_ethernet l.kind) as (λ v. is_ethernet l.kind ≡ v → retired n (option_map (member_link links es) (if v then Some (member n l.kind (Some l) None (Some Absent)) else None)) ≡ option_map (again links es) (if v then Some (member n l.kind (Some l) None (Some Absent)) else None)) [
      | true ↦ λ e. ap (λ b. if b then Some (member n l.kind (Some (member_link links es s)) None (Some Absent)) else None) e
      | false ↦ λ e. refl
    ] refl

live_again : (links : List Link) (es : List LinkEntry) (e : LinkEntry) (old : Option Link) (o : Option Kind) → merged_kind e (option_map (λ l. l.kind) old) ≡ o → is_none o ≡ false
    → option_map (λ kind. member e.name kind (option_map (member_link links es) (option_map (λ k. member e.name k old (Some e) (stated_wish e old)) o)) (Some e) (stated_wish e (option_map (member_link links es) (option_map (λ k. member e.name k old (Some e) (stated_wish e old)) o))))
    (merged_kind e (option_map (λ l. l.kind) (option_map (member_link links es) (option_map (λ k. member e.name k old (Some e) (stated_wish e old)) o))))
    ≡ option_map (again links es) (option_map (λ k. member e.name k old (Some e) (stated_wish e old)) o)
live_again links es e old None is h = absurd cc
live_again links es e old (Some k) is h =
    let s : Member = member e.name k old (Some e) (stated_wish e old) in
    ap (option_map (λ kind. member e.name kind (Some (member_link links es s)) (Some e) (option_or e.wish None))) (kind_again e (option_map (λ l. l.kind) old) k is)
    ∙ ap (λ w. Some (member e.name k (Some (member_link links es s)) (Some e) w)) (or_nothing e.wish)

-- what an entry makes of the merged link is what it made, at the second time
pub entered_again : (links : List Link) (es : List LinkEntry) (e : LinkEntry) (old : Option Link) → has_details old e ≡ true → entered e (option_map (member_link links es) (entered e old)) ≡ option_map (again links es) (entered e old)
entered_again links es e old has = by (is_absent e.wish) refl
  where
    by : (b : Bool) → is_absent e.wish ≡ b → entered e (option_map (member_link links es) (entered e old)) ≡ option_map (again links es) (entered e old)
    by true a = rw a (retired_again links es e.name old)
    by false a = rw a (live_again links es e old (merged_kind e (option_map (λ l. l.kind) old)) refl (not_and (is_none (merged_kind e (option_map (λ l. l.kind) old))) (rw a at has)))

filter_map_each : {X Y : Type 0} (g k : X → Option Y) (f : Y → Y) (xs : List X) → Each (λ x. g x ≡ option_map f (k x)) xs → filter_map g xs ≡ map f (filter_map k xs)
filter_map_each g k f [] h = refl
filter_map_each {X = X} {Y = Y} g k f (x ∷ xs) h = ap (λ o. cons_option o (filter_map g xs)) h.0 ∙ ap (cons_option (option_map f (k x))) (filter_map_each g k f xs h.1) ∙ out (k x)
  where
    out : (o : Option Y) → cons_option (option_map f o) (map f (filter_map k xs)) ≡ map f (cons_option o (filter_map k xs))
    out None = refl
    out (Some y) = refl

-- ---- links that are left alone

filter_each : {X : Type 0} (p q : X → Bool) (xs : List X) → Each (λ x. p x ≡ q x) xs → filter p xs ≡ filter q xs
filter_each p q [] h = refl
filter_each p q (x ∷ xs) h = ap (λ b. cond b (x ∷ filter p xs) (filter p xs)) h.0 ∙ ap (λ ys. cond (q x) (x ∷ ys) ys) (filter_each p q xs h.1)

pub filter_all : {X : Type 0} (p : X → Bool) (xs : List X) → Each (λ x. p x ≡ true) xs → filter p xs ≡ xs
filter_all p [] h = refl
filter_all p (x ∷ xs) h = ap (λ b. cond b (x ∷ filter p xs) (filter p xs)) h.0 ∙ ap (λ ys. x ∷ ys) (filter_all p xs h.1)

pub filter_nothing : {X : Type 0} (p : X → Bool) (xs : List X) → Each (λ x. p x ≡ false) xs → filter p xs ≡ []
filter_nothing p [] h = refl
filter_nothing p (x ∷ xs) h = ap (λ b. cond b (x ∷ filter p xs) (filter p xs)) h.0 ∙ filter_nothing p xs h.1

-- where nothing starts nothing is reached
none_reached : (leads : Link → Link → Bool) (starts : Link → Bool) (xs : List Link) → list_all (λ l. not (starts l)) xs ≡ true → (steps : ℕ) (l : Link) → is_reached leads starts xs steps l ≡ false
none_reached leads starts xs h zero l = refl
none_reached leads starts xs h (suc steps) l = none (λ c. none_reached leads starts xs h steps c) xs h
  where
    and_none : (a b c : Bool) → b ≡ false → c ≡ false → (a && (b || c)) ≡ false
    and_none true b c k e = rw (k, e) refl
    and_none false b c k e = refl

    none : ((c : Link) → is_reached leads starts xs steps c ≡ false) → (ys : List Link) → list_all (λ y. not (starts y)) ys ≡ true → list_any (λ c. leads c l && (starts c || is_reached leads starts xs steps c)) ys ≡ false
    none before [] k = refl
    none before (y ∷ ys) k = rw (and_none (leads y l) (starts y) (is_reached leads starts xs steps y) (not_true (starts y) (and_left (not (starts y)) (list_all (λ z. not (starts z)) ys) k)) (before y)) (none before ys (and_right (not (starts y)) (list_all (λ z. not (starts z)) ys) k))

-- ---- pairs

-- a link of this name passes the test, where one is found that does
passed_found : (test : Link → Bool) (n : List ℕ) (o : Option Link) → option_map_or test o false ≡ true → is_none o ≡ false
passed_found test n None h = absurd cc
passed_found test n (Some l) h = refl

-- the kind that a live entry makes of its merged link is that link's
kept_kind : (links : List Link) (es : List LinkEntry) (e : LinkEntry) (old : Option Link) (q : Link) → is_absent e.wish ≡ false → option_map (member_link links es) (entered e old) ≡ Some q → merged_kind e (Some q.kind) ≡ Some q.kind
kept_kind links es e old q a found = by (merged_kind e (option_map (λ l. l.kind) old)) refl
    (sym (ap (λ b. option_map (member_link links es) (if b then retired e.name old else option_map (λ kind. member e.name kind old (Some e) (stated_wish e old)) (merged_kind e (option_map (λ l. l.kind) old)))) a) ∙ found)
  where
    by : (o : Option Kind) → merged_kind e (option_map (λ l. l.kind) old) ≡ o → option_map (member_link links es) (option_map (λ kind. member e.name kind old (Some e) (stated_wish e old)) o) ≡ Some q → merged_kind e (Some q.kind) ≡ Some q.kind
    by None is h = absurd cc
    by (Some k) is h =
        let same : member_link links es (member e.name k old (Some e) (stated_wish e old)) ≡ q = cc in
        subst (λ x. merged_kind e (Some x) ≡ Some x) (ap (λ (l : Link). l.kind) same) (kind_again e (option_map (λ l. l.kind) old) k is)

-- none of the merged links is one that goes
removed_by : (es : List LinkEntry) (e : LinkEntry) (l : Link) → find_entry l.name es ≡ Some e → is_absent e.wish ≡ false → is_removed es l ≡ false
removed_by es e l found h = ap (λ o. option_map_or (λ (x : LinkEntry). is_absent x.wish) o false && not (is_ethernet l.kind)) found ∙ ap (λ b. b && not (is_ethernet l.kind)) h

removed_device : (es : List LinkEntry) (l : Link) → is_ethernet l.kind ≡ true → is_removed es l ≡ false
removed_device es l h = ap (λ b. option_map_or (λ (x : LinkEntry). is_absent x.wish) (find_entry l.name es) false && not b) h ∙ and_false (option_map_or (λ (x : LinkEntry). is_absent x.wish) (find_entry l.name es) false)

none_absent : (o : Option LinkEntry) (b : Bool) → is_some o ≡ false → (option_map_or (λ (x : LinkEntry). is_absent x.wish) o false && b) ≡ false
none_absent None b h = refl
none_absent (Some e) b h = absurd cc

none_heard : (links : List Link) (es : List LinkEntry) (n : List ℕ) → is_unheard links es n ≡ true → is_some (find_entry n es) ≡ false
none_heard links es n h = by (find_entry n es) (and_right (is_none (find_link n links)) (is_none (find_entry n es)) h)
  where
    by : (o : Option LinkEntry) → is_none o ≡ true → is_some o ≡ false
    by None k = refl
    by (Some e) k = absurd cc

ranked_stay : (links : List Link) (es : List LinkEntry) → apart same_entry es ≡ true → Each (λ s. is_removed es (member_link links es s) ≡ false) (members_by_rank links es)
ranked_stay links es differ =
    let P : Member → Type 0 = λ s. is_removed es (member_link links es s) ≡ false in
    ranked_give P links es
    (each_weaker (λ e. find_entry e.name es ≡ Some e) (λ e. IfSome (entered_over links e) P) (λ e found. entered_gives P e (find_link e.name links)
    (λ l old a d. removed_device es (member_link links es (member e.name l.kind (Some l) None (Some Absent))) d)
    (λ k a is. removed_by es e (member_link links es (member e.name k (find_link e.name links) (Some e) (stated_wish e (find_link e.name links)))) found a))
    es (each_entry_found es differ))
    (λ name peer u. none_absent (find_entry name es) (not (is_ethernet (Veth peer))) (none_heard links es name u))
    (each_of (λ l. stays links es l ≡ true → P (left_alone l)) (λ l s. alone l s) links)
  where
    alone : (l : Link) → stays links es l ≡ true → is_removed es (member_link links es (left_alone l)) ≡ false
    alone l s = none_absent (find_entry l.name es) (not (is_ethernet l.kind)) (not_true (is_mentioned es l) (and_left (not (is_mentioned es l)) (not (is_gone links es l)) s))

-- ---- all members by rank

module _ (links : List Link) (es : List LinkEntry) (differ : apart same_entry es ≡ true) (names : names_differ (links_of links es) ≡ true) (has : list_all (λ e. has_details (find_link e.name links) e) es ≡ true) (peers : peers_stand (links_of links es) ≡ true)
    (t : List Link) (is : t ≡ sorted link_cmp (links_of links es)) where
  abbrev ls : List Link
  ls = links_of links es

  abbrev made : List Member
  made = filter_map (entered_over links) es

  abbrev others : List Member
  others = implied links es ++ map left_alone (filter (stays links es) links)

  moved : IsPermutation ls t
  moved = subst (IsPermutation ls) (sym is) (sorted_moves link_cmp link_cmp_total ls)

  rising : rises link_cmp t ≡ true
  rising = subst (λ xs. rises link_cmp xs ≡ true) (sym is) (sorted_rises same_name link_cmp link_cmp_total names_tie ls names)

  -- an entry finds the merged link that it made
  entry_found : (e : LinkEntry) → find_entry e.name es ≡ Some e → find_link e.name t ≡ option_map (member_link links es) (entered_over links e)
  entry_found e found = ap (find_link e.name) is ∙ found_in_merged links es names e.name ∙ ap (option_map (member_link links es)) (mentioned_found e.name links es e differ found)

  -- a veth's peer is there, and has it as peer
  peer_there : (s : Member) (peer : List ℕ) → s.kind ≡ Veth peer → (not (has_peer s.kind s.name) && peer_passes (λ p. has_peer p.kind s.name) ls s.kind) ≡ true → option_map_or (λ p. has_peer p.kind s.name) (find_link peer t) false ≡ true
  peer_there s peer k h =
      let passes : peer_passes (λ p. has_peer p.kind s.name) ls (Veth peer) ≡ true = ap (peer_passes (λ p. has_peer p.kind s.name) ls) (sym k) ∙ and_right (not (has_peer s.kind s.name)) (peer_passes (λ p. has_peer p.kind s.name) ls s.kind) h in
      sym (named_passes_found (λ p. has_peer p.kind s.name) t peer rising)
      ∙ sym (list_any-IsPermutation (λ l. is_named peer l && has_peer l.kind s.name) ls t moved)
      ∙ passes

  -- so an entry of the peer leaves it so
  entry_keeps : (s : Member) (peer : List ℕ) → option_map_or (λ p. has_peer p.kind s.name) (find_link peer t) false ≡ true → (o : Option LinkEntry) → find_entry peer es ≡ o → option_map_or (leaves_peer t (member_link links es s)) o false ≡ false
  entry_keeps s peer h None found = refl
  entry_keeps s peer h (Some e) found = by (is_absent e.wish) refl
    where
      name : e.name ≡ peer
      name = one_name e.name peer (find_entry_named peer es e found)

      own : find_entry e.name es ≡ Some e
      own = ap (λ n. find_entry n es) name ∙ found

      there : (o : Option Link) → find_link peer t ≡ o → option_map_or (λ p. has_peer p.kind s.name) o false ≡ true → is_absent e.wish ≡ false → keeps_peer t (member_link links es s) e ≡ true
      there None f k a = absurd cc
      there (Some q) f k a =
          let here : find_link e.name t ≡ Some q = ap (λ n. find_link n t) name ∙ f in
          ap (λ o. option_map_or (λ kind. has_peer kind s.name) (merged_kind e (option_map (λ p. p.kind) o)) false) here
          ∙ ap (λ o. option_map_or (λ kind. has_peer kind s.name) o false) (kept_kind links es e (find_link e.name links) q a (sym (entry_found e own) ∙ here))
          ∙ k

      by : (b : Bool) → is_absent e.wish ≡ b → leaves_peer t (member_link links es s) e ≡ false
      by true a = ap (λ b. not b && not (keeps_peer t (member_link links es s) e)) a
      by false a = ap (λ b. not (is_absent e.wish) && not b) (there (find_link peer t) refl h a) ∙ and_false (not (is_absent e.wish))

  member_left : (s : Member) → (not (has_peer s.kind s.name) && peer_passes (λ p. has_peer p.kind s.name) ls s.kind) ≡ true → is_left t es (member_link links es s) ≡ false
  member_left s h =
      ap (λ b. not (is_mentioned es (member_link links es s)) && b) (by s.kind refl) ∙ and_false (not (is_mentioned es (member_link links es s)))
    where
      none : (k : Kind) → s.kind ≡ k → peer_of k ≡ None → option_map_or (leaves_peer t (member_link links es s)) (option_and_then (λ peer. find_entry peer es) (peer_of s.kind)) false ≡ false
      none k e n = ap (λ o. option_map_or (leaves_peer t (member_link links es s)) (option_and_then (λ peer. find_entry peer es) o) false) (ap peer_of e ∙ n)

      by : (k : Kind) → s.kind ≡ k → option_map_or (leaves_peer t (member_link links es s)) (option_and_then (λ peer. find_entry peer es) (peer_of s.kind)) false ≡ false
      by (Ethernet p) e = none (Ethernet p) e refl
      by (Bond mode) e = none (Bond mode) e refl
      by Bridge e = none Bridge e refl
      by (Vlan b i p) e = none (Vlan b i p) e refl
      by (Vrf n) e = none (Vrf n) e refl
      by Dummy e = none Dummy e refl
      by (Veth peer) e =
          ap (λ k. option_map_or (leaves_peer t (member_link links es s)) (option_and_then (λ q. find_entry q es) (peer_of k)) false) e
          ∙ entry_keeps s peer (peer_there s peer e h) (find_entry peer es) refl

  -- each member's peer
  ranked_paired : Each (λ s. (not (has_peer s.kind s.name) && peer_passes (λ p. has_peer p.kind s.name) ls s.kind) ≡ true) (members_by_rank links es)
  ranked_paired =
      each_all (λ s. not (has_peer s.kind s.name) && peer_passes (λ p. has_peer p.kind s.name) ls s.kind) (members_by_rank links es)
      (sym (all_map (member_link links es) (λ l. not (has_peer l.kind l.name) && peer_passes (λ p. has_peer p.kind l.name) ls l.kind) (members_by_rank links es))
      ∙ ap (list_all (λ l. not (has_peer l.kind l.name) && peer_passes (λ p. has_peer p.kind l.name) ls l.kind)) (sym (links_from_ranked links es))
      ∙ peers)

  ranked_kept : Each (λ s. not (is_dropped t es (member_link links es s)) ≡ true) (members_by_rank links es)
  ranked_kept = each_two (λ s. is_removed es (member_link links es s) ≡ false) (λ s. (not (has_peer s.kind s.name) && peer_passes (λ p. has_peer p.kind s.name) ls s.kind) ≡ true) (λ s. not (is_dropped t es (member_link links es s)) ≡ true)
      (λ s r h. not_false (is_dropped t es (member_link links es s)) (or_false (is_removed es (member_link links es s)) (is_left t es (member_link links es s)) r (member_left s h)))
      (members_by_rank links es) (ranked_stay links es differ) ranked_paired

  -- so those that stay are those that aren't mentioned
  stays_again : filter (stays t es) t ≡ filter (λ l. not (is_mentioned es l)) t
  stays_again =
      let none : list_all (λ l. not (is_dropped t es l)) t ≡ true =
      sym (list_all-IsPermutation (λ l. not (is_dropped t es l)) ls t moved)
      ∙ ap (list_all (λ l. not (is_dropped t es l))) (links_from_ranked links es)
      ∙ all_map (member_link links es) (λ l. not (is_dropped t es l)) (members_by_rank links es)
      ∙ all_of_each (λ s. not (is_dropped t es (member_link links es s))) (members_by_rank links es) ranked_kept in
      filter_each (stays t es) (λ l. not (is_mentioned es l)) t
      (each_weaker (λ l. not (is_dropped t es l) ≡ true) (λ l. stays t es l ≡ not (is_mentioned es l))
      (λ l h. same l (not_true (is_dropped t es l) h) (none_reached (goes_with es) (is_dropped t es) t none (length t) l)) t
      (each_all (λ l. not (is_dropped t es l)) t none))
    where
      and_true : (b : Bool) → (b && true) ≡ b
      and_true true = refl
      and_true false = refl

      same : (l : Link) → is_dropped t es l ≡ false → is_reached (goes_with es) (is_dropped t es) t (length t) l ≡ false → stays t es l ≡ not (is_mentioned es l)
      same l h k = ap (λ b. not (is_mentioned es l) && not b) (or_false (is_dropped t es l) (is_reached (goes_with es) (is_dropped t es) t (length t) l) h k) ∙ and_true (not (is_mentioned es l))

  -- the links that aren't mentioned are those that were implied and those that were left alone
  alone_again : filter (stays t es) t ≡ sorted link_cmp (map (member_link links es) others)
  alone_again =
      let p : Link → Bool = λ l. not (is_mentioned es l) in
      let mentioned : Each (λ s. p (member_link links es s) ≡ false) made =
      each_filter_map (entered_over links) (λ s. p (member_link links es s) ≡ false) es
      (each_weaker (λ e. find_entry e.name es ≡ Some e) (λ e. IfSome (entered_over links e) (λ s. p (member_link links es s) ≡ false))
      (λ e found. entered_gives (λ s. p (member_link links es s) ≡ false) e (find_link e.name links) (λ l old a d. ap (λ o. not (is_some o)) found) (λ k a k_is. ap (λ o. not (is_some o)) found)) es (each_entry_found es differ)) in
      let unmentioned : Each (λ s. p (member_link links es s) ≡ true) others =
      each_append (λ s. p (member_link links es s) ≡ true) (implied links es) (map left_alone (filter (stays links es) links))
      (implied_each (λ s. p (member_link links es s) ≡ true) links es (λ name peer u. ap not (none_heard links es name u)))
      (each_map left_alone (λ s. p (member_link links es s) ≡ true) (filter (stays links es) links)
      (each_filter (λ l. p (member_link links es (left_alone l)) ≡ true) (stays links es) links
      (each_of (λ l. stays links es l ≡ true → p (member_link links es (left_alone l)) ≡ true) (λ l s. and_left (not (is_mentioned es l)) (not (is_gone links es l)) s) links))) in
      let parts : filter p ls ≡ map (member_link links es) others =
      ap (filter p) (links_from_ranked links es ∙ map-append (member_link links es) made others)
      ∙ filter-append p (map (member_link links es) made) (map (member_link links es) others)
      ∙ ap (λ xs. xs ++ filter p (map (member_link links es) others)) (filter_nothing p (map (member_link links es) made) (each_map (member_link links es) (λ l. p l ≡ false) made mentioned))
      ∙ filter_all p (map (member_link links es) others) (each_map (member_link links es) (λ l. p l ≡ true) others unmentioned) in
      stays_again
      ∙ ap (filter p) is
      ∙ filter_sorted link_cmp link_cmp_total p ls
      ∙ ap (sorted link_cmp) parts

  made_again : filter_map (entered_over t) es ≡ map (again links es) made
  made_again =
      filter_map_each (entered_over t) (entered_over links) (again links es) es
      (each_two (λ e. find_entry e.name es ≡ Some e) (λ e. has_details (find_link e.name links) e ≡ true) (λ e. entered_over t e ≡ option_map (again links es) (entered_over links e))
      (λ e found h. ap (entered e) (entry_found e found) ∙ entered_again links es e (find_link e.name links) h)
      es (each_entry_found es differ) (each_all (λ e. has_details (find_link e.name links) e) es has))

  -- nothing is implied at the second time: both ends of each pair are there
  none_implied : implied t es ≡ []
  none_implied = ap (once same_member) (ap (filter_map (implied_by t es)) made_again ∙ nothing made (made_paired ranked_paired))
    where
      made_paired : Each (λ s. (not (has_peer s.kind s.name) && peer_passes (λ p. has_peer p.kind s.name) ls s.kind) ≡ true) (made ++ others) → Each (λ s. (not (has_peer s.kind s.name) && peer_passes (λ p. has_peer p.kind s.name) ls s.kind) ≡ true) made
      made_paired h = each_front (λ s. (not (has_peer s.kind s.name) && peer_passes (λ p. has_peer p.kind s.name) ls s.kind) ≡ true) made others h

      known : (s : Member) (peer : List ℕ) → s.kind ≡ Veth peer → (not (has_peer s.kind s.name) && peer_passes (λ p. has_peer p.kind s.name) ls s.kind) ≡ true → is_unheard t es peer ≡ false
      known s peer e h = ap (λ b. b && is_none (find_entry peer es)) (passed_found (λ p. has_peer p.kind s.name) peer (find_link peer t) (peer_there s peer e h))

      by : (s : Member) (k : Kind) → s.kind ≡ k → (not (has_peer s.kind s.name) && peer_passes (λ p. has_peer p.kind s.name) ls s.kind) ≡ true → implied_by t es (again links es s) ≡ None
      by s (Veth peer) e h = ap (λ k. option_and_then (λ q. if is_unheard t es q then Some (other_end q s.name) else None) (peer_of k)) e ∙ ap (λ b. if b then Some (other_end peer s.name) else None) (known s peer e h)
      by s (Ethernet p) e h = ap (λ k. option_and_then (λ q. if is_unheard t es q then Some (other_end q s.name) else None) (peer_of k)) e
      by s (Bond mode) e h = ap (λ k. option_and_then (λ q. if is_unheard t es q then Some (other_end q s.name) else None) (peer_of k)) e
      by s Bridge e h = ap (λ k. option_and_then (λ q. if is_unheard t es q then Some (other_end q s.name) else None) (peer_of k)) e
      by s (Vlan b i p) e h = ap (λ k. option_and_then (λ q. if is_unheard t es q then Some (other_end q s.name) else None) (peer_of k)) e
      by s (Vrf n) e h = ap (λ k. option_and_then (λ q. if is_unheard t es q then Some (other_end q s.name) else None) (peer_of k)) e
      by s Dummy e h = ap (λ k. option_and_then (λ q. if is_unheard t es q then Some (other_end q s.name) else None) (peer_of k)) e

      nothing : (ms : List Member) → Each (λ s. (not (has_peer s.kind s.name) && peer_passes (λ p. has_peer p.kind s.name) ls s.kind) ≡ true) ms → filter_map (implied_by t es) (map (again links es) ms) ≡ []
      nothing [] h = refl
      nothing (m ∷ ms) h = ap (λ o. cons_option o (filter_map (implied_by t es) (map (again links es) ms))) (by m m.kind refl h.0) ∙ nothing ms h.1

  -- the members by rank at the second time: those that the entries make, and the others as links that are left alone
  ranked_again : members_by_rank t es ≡ map (again links es) made ++ map left_alone (sorted link_cmp (map (member_link links es) others))
  ranked_again =
      ap (λ xs. xs ++ (implied t es ++ map left_alone (filter (stays t es) t))) made_again
      ∙ ap (λ xs. map (again links es) made ++ (xs ++ map left_alone (filter (stays t es) t))) none_implied
      ∙ ap (λ xs. map (again links es) made ++ map left_alone xs) alone_again

  others_alone : map (again links es) others ≡ map left_alone (map (member_link links es) others)
  others_alone =
      map_each (again links es) (λ s. left_alone (member_link links es s)) others
      (each_append (λ s. again links es s ≡ left_alone (member_link links es s)) (implied links es) (map left_alone (filter (stays links es) links))
      (implied_each (λ s. again links es s ≡ left_alone (member_link links es s)) links es (λ name peer u. refl))
      (each_map left_alone (λ s. again links es s ≡ left_alone (member_link links es s)) (filter (stays links es) links)
      (each_of (λ l. again links es (left_alone l) ≡ left_alone (member_link links es (left_alone l))) (λ l. refl) (filter (stays links es) links))))
      ∙ sym (map_map left_alone (member_link links es) others)

  all_again : map (again links es) (members_by_rank links es) ≡ map (again links es) made ++ map left_alone (map (member_link links es) others)
  all_again = map-append (again links es) made others ∙ ap (λ xs. map (again links es) made ++ xs) others_alone

  -- they are those of the first time, each with its merged link as the link before, but for the order of those that no
  -- entry makes
  pub ranked_moved : IsPermutation (map (again links es) (members_by_rank links es)) (members_by_rank t es)
  ranked_moved =
      subst (λ xs. IsPermutation xs (members_by_rank t es)) (sym all_again)
      (subst (IsPermutation (map (again links es) made ++ map left_alone (map (member_link links es) others))) (sym ranked_again)
      (IsPermutation-append_right (map (again links es) made) (map left_alone (map (member_link links es) others)) (map left_alone (sorted link_cmp (map (member_link links es) others)))
      (IsPermutation-map left_alone (map (member_link links es) others) (sorted link_cmp (map (member_link links es) others)) (sorted_moves link_cmp link_cmp_total (map (member_link links es) others)))))

  alone_list_none : (n : List ℕ) (xs : List Link) → filter (λ c. lists c n) (map left_alone xs) ≡ []
  alone_list_none n xs = filter_nothing (λ c. lists c n) (map left_alone xs) (each_map left_alone (λ c. lists c n ≡ false) xs (each_of (λ l. lists (left_alone l) n ≡ false) (λ l. refl) xs))

  -- and those that list a port come in the order of the first time
  pub ranked_listed : (n : List ℕ) → filter (λ c. lists c n) (map (again links es) (members_by_rank links es)) ≡ filter (λ c. lists c n) (members_by_rank t es)
  ranked_listed n =
      ap (filter (λ c. lists c n)) all_again
      ∙ filter-append (λ c. lists c n) (map (again links es) made) (map left_alone (map (member_link links es) others))
      ∙ ap (λ xs. filter (λ c. lists c n) (map (again links es) made) ++ xs) (alone_list_none n (map (member_link links es) others) ∙ sym (alone_list_none n (sorted link_cmp (map (member_link links es) others))))
      ∙ sym (filter-append (λ c. lists c n) (map (again links es) made) (map left_alone (sorted link_cmp (map (member_link links es) others))))
      ∙ ap (filter (λ c. lists c n)) (sym ranked_again)
