-- What is known of the members: what their links and entries pass, and that their names differ.
use Rattle.std.proofs.Common.{◌≡◌, ◌++◌, append_assoc, ℕ, Bool, true, false, not, ◌||◌, cond, if◌then◌else◌, List, [], ◌∷◌, map, filter, Option, Some, None, IfSome, is_some, is_none, refl, sym, ap, ◌∙◌, subst}
use Rattle.std.specs.List.{list_any, list_all, filter_map, cons_option}
use Rattle.std.specs.Option.{option_map_or, option_map, option_and_then}
use Rattle.std.proofs.lemmas.Cmp.{nat_list_eq_equiv}
use Rattle.net_model.specs.Name.{same_bytes}
use Rattle.net_model.specs.Words.{apart}
use Rattle.net_model.specs.Links.{find_link, is_ethernet, peer_of}
use Rattle.net_model.specs.Valid.{names_differ}
use Rattle.net_model.specs.declared.Link.{Link}
use Rattle.net_model.specs.declared.Kind.{Kind}
use Rattle.net_model.proofs.lemmas.Truth.{and_left, and_right, and_both, not_true, not_false, or_left_false, or_right_false, or_right}
use Rattle.net_model.proofs.lemmas.Found.{one_name, itself}
use Rattle.net_model.proofs.lemmas.Differing.{names_turned}
use Rattle.document_model.specs.declared.LinkEntry.{LinkEntry}
use Rattle.document_model.specs.declared.Place.TheVariants.{Link as AtLink}
use Rattle.document_model.specs.declared.Wish.TheVariants.{Absent}
use Rattle.merge_model.specs.Stated.{find_entry, is_mentioned, is_absent}
use Rattle.merge_model.specs.Kinds.{merged_kind}
pub use Rattle.merge_model.specs.Members.{same_member}
use Rattle.merge_model.specs.Members.{Member, member, members_by_rank, entered, entered_over, retired, stays, is_gone, stated_wish, left_alone, is_unheard, other_end, implied_by, implied}
use Rattle.merge_model.specs.Controllers.{with_controllers, with_controller}
use Rattle.merge_model.specs.Lifted.{members, raised}
use Rattle.merge_model.specs.Places.{first_second}
use Rattle.merge_model.specs.BrokenEntries.{duplicate_name}
use Rattle.merge_laws.proofs.Searches.{or_false, none_mapped, second_apart, all_map, apart_map, all_find, any_map, any_append, any_filter, apart_once, apart_head, apart_tail, apart_cons, apart_filter, apart_append}
use Rattle.merge_laws.proofs.Each.{Each, each_of, each_all, all_of_each, each_append, each_map, each_filter, each_filter_map, each_weaker, each_once}

retired_gives : (P : Member → Type 0) (n : List ℕ) (o : Option Link) → ((l : Link) → o ≡ Some l → is_ethernet l.kind ≡ true → P (member n l.kind (Some l) None (Some Absent))) → IfSome (retired n o) P
retired_gives P n None h = tt
retired_gives P n (Some l) h = elim (is_ethernet l.kind) as (λ v. is_ethernet l.kind ≡ v → IfSome (if v then Some (member n l.kind (Some l) None (Some Absent)) else None) P) [
  | true ↦ λ e. h l refl e
  | false ↦ λ e. tt
] refl

mapped_gives : (P : Member → Type 0) (f : Kind → Member) (o : Option Kind) → ((k : Kind) → o ≡ Some k → P (f k)) → IfSome (option_map f o) P
mapped_gives P f None h = tt
mapped_gives P f (Some k) h = h k refl

-- the two kinds of members that an entry makes
pub entered_gives : (P : Member → Type 0) (e : LinkEntry) (old : Option Link)
    → ((l : Link) → old ≡ Some l → is_absent e.wish ≡ true → is_ethernet l.kind ≡ true → P (member e.name l.kind (Some l) None (Some Absent)))
    → ((k : Kind) → is_absent e.wish ≡ false → merged_kind e (option_map (λ l. l.kind) old) ≡ Some k → P (member e.name k old (Some e) (stated_wish e old)))
    → IfSome (entered e old) P
entered_gives P e old bare live = elim (is_absent e.wish) as (λ v. is_absent e.wish ≡ v → IfSome (if v then retired e.name old else option_map (λ kind. member e.name kind old (Some e) (stated_wish e old)) (merged_kind e (option_map (λ l. l.kind) old))) P) [
  | true ↦ λ a. retired_gives P e.name old (λ l found device. bare l found a device)
  | false ↦ λ a. mapped_gives P (λ kind. member e.name kind old (Some e) (stated_wish e old)) (merged_kind e (option_map (λ l. l.kind) old)) (λ k is. live k a is)
] refl

-- those that are implied: each the other end of a pair, of a name of which nothing is heard
implied_gives : (P : Member → Type 0) (links : List Link) (entries : List LinkEntry) (m : Member) → ((name peer : List ℕ) → is_unheard links entries name ≡ true → P (other_end name peer)) → (o : Option (List ℕ)) → IfSome (option_and_then (λ peer. if is_unheard links entries peer then Some (other_end peer m.name) else None) o) P
implied_gives P links entries m h None = tt
implied_gives P links entries m h (Some peer) = elim (is_unheard links entries peer) as (λ v. is_unheard links entries peer ≡ v → IfSome (if v then Some (other_end peer m.name) else None) P) [
  | true ↦ λ e. h peer m.name e
  | false ↦ λ e. tt
] refl

pub implied_each : (P : Member → Type 0) (links : List Link) (entries : List LinkEntry) → ((name peer : List ℕ) → is_unheard links entries name ≡ true → P (other_end name peer)) → Each P (implied links entries)
implied_each P links entries h =
    let made : List Member = filter_map (entered_over links) entries in
    each_once P same_member (filter_map (implied_by links entries) made)
    (each_filter_map (implied_by links entries) P made (each_of (λ m. IfSome (implied_by links entries m) P) (λ m. implied_gives P links entries m h (peer_of m.kind)) made))

-- and those that are left alone
pub ranked_give : (P : Member → Type 0) (links : List Link) (entries : List LinkEntry) → Each (λ e. IfSome (entered_over links e) P) entries → ((name peer : List ℕ) → is_unheard links entries name ≡ true → P (other_end name peer)) → Each (λ l. stays links entries l ≡ true → P (left_alone l)) links → Each P (members_by_rank links entries)
ranked_give P links entries h i k = each_append P (filter_map (entered_over links) entries) (implied links entries ++ map left_alone (filter (stays links entries) links))
    (each_filter_map (entered_over links) P entries h)
    (each_append P (implied links entries) (map left_alone (filter (stays links entries) links))
    (implied_each P links entries i)
    (each_map left_alone P (filter (stays links entries) links) (each_filter (λ l. P (left_alone l)) (stays links entries) links k)))

-- a test of the name, the kind, the link before, the entry or the wish alone, which the later steps keep
members_all : (q : Member → Bool) (links : List Link) (entries : List LinkEntry) → ((m : Member) (c : Option (List ℕ)) (b : Bool) → q (record m { controller = c; lifted = b }) ≡ q m) → list_all q (members_by_rank links entries) ≡ true → list_all q (members links entries) ≡ true
members_all q links entries same h =
    all_map (raised (with_controllers (members_by_rank links entries))) q (with_controllers (members_by_rank links entries))
    ∙ all_map (with_controller (members_by_rank links entries)) (λ m. q (raised (with_controllers (members_by_rank links entries)) m)) (members_by_rank links entries)
    ∙ all_same (members_by_rank links entries)
    ∙ h
  where
    all_same : (xs : List Member) → list_all (λ m. q (raised (with_controllers (members_by_rank links entries)) (with_controller (members_by_rank links entries) m))) xs ≡ list_all q xs
    all_same [] = refl
    all_same (x ∷ xs) =
        let here : q (raised (with_controllers (members_by_rank links entries)) (with_controller (members_by_rank links entries) x)) ≡ q x = same x (with_controller (members_by_rank links entries) x).controller (raised (with_controllers (members_by_rank links entries)) (with_controller (members_by_rank links entries) x)).lifted in
        rw (here, all_same xs) refl

-- what all links of the network pass, the members' links before pass
pub olds_known : (p : Link → Bool) (links : List Link) (entries : List LinkEntry) → list_all p links ≡ true → list_all (λ m. option_map_or p m.old true) (members links entries) ≡ true
olds_known p links entries h =
    let P : Member → Type 0 = λ m. option_map_or p m.old true ≡ true in
    members_all (λ m. option_map_or p m.old true) links entries (λ m c b. refl)
    (all_of_each (λ m. option_map_or p m.old true) (members_by_rank links entries)
    (ranked_give P links entries
    (each_of (λ e. IfSome (entered_over links e) P) (λ e. entered_gives P e (find_link e.name links)
    (λ l found a d. ap (λ o. option_map_or p o true) (sym found) ∙ all_find (λ k. same_bytes k.name e.name) p links h)
    (λ k a is. all_find (λ k. same_bytes k.name e.name) p links h)) entries)
    (λ name peer u. refl)
    (each_weaker (λ l. p l ≡ true) (λ l. stays links entries l ≡ true → P (left_alone l)) (λ l here s. here) links (each_all p links h))))

-- and what all entries pass, theirs
pub entries_known : (p : LinkEntry → Bool) (links : List Link) (entries : List LinkEntry) → list_all p entries ≡ true → list_all (λ m. option_map_or p m.entry true) (members links entries) ≡ true
entries_known p links entries h =
    let P : Member → Type 0 = λ m. option_map_or p m.entry true ≡ true in
    members_all (λ m. option_map_or p m.entry true) links entries (λ m c b. refl)
    (all_of_each (λ m. option_map_or p m.entry true) (members_by_rank links entries)
    (ranked_give P links entries
    (each_weaker (λ e. p e ≡ true) (λ e. IfSome (entered_over links e) P) (λ e here. entered_gives P e (find_link e.name links) (λ l found a d. refl) (λ k a is. here)) entries (each_all p entries h))
    (λ name peer u. refl)
    (each_of (λ l. stays links entries l ≡ true → P (left_alone l)) (λ l s. refl) links)))

-- ---- names

abbrev pub same_entry : LinkEntry → LinkEntry → Bool
same_entry a b = same_bytes a.name b.name

-- what an entry makes has its name
pub entered_named : (links : List Link) (e : LinkEntry) → IfSome (entered_over links e) (λ m. m.name ≡ e.name)
entered_named links e = entered_gives (λ m. m.name ≡ e.name) e (find_link e.name links) (λ l found a d. refl) (λ k a is. refl)

cons_lacks : (n m : List ℕ) (o : Option Member) (more : List Member) → IfSome o (λ q. q.name ≡ m) → same_bytes n m ≡ false → list_any (λ s. same_bytes n s.name) more ≡ false → list_any (λ s. same_bytes n s.name) (cons_option o more) ≡ false
cons_lacks n m None more named e h = h
cons_lacks n m (Some s) more named e h = or_false (same_bytes n s.name) (list_any (λ q. same_bytes n q.name) more) (ap (same_bytes n) named ∙ e) h

entries_lack : (links : List Link) (n : List ℕ) (es : List LinkEntry) → list_any (λ e. same_bytes n e.name) es ≡ false → list_any (λ s. same_bytes n s.name) (filter_map (entered_over links) es) ≡ false
entries_lack links n [] h = refl
entries_lack links n (e ∷ es) h =
    cons_lacks n e.name (entered_over links e) (filter_map (entered_over links) es) (entered_named links e) (or_left_false (same_bytes n e.name) (list_any (λ q. same_bytes n q.name) es) h)
    (entries_lack links n es (or_right_false (same_bytes n e.name) (list_any (λ q. same_bytes n q.name) es) h))

cons_apart : (m : List ℕ) (o : Option Member) (more : List Member) → IfSome o (λ q. q.name ≡ m) → list_any (λ s. same_bytes m s.name) more ≡ false → apart same_member more ≡ true → apart same_member (cons_option o more) ≡ true
cons_apart m None more named h k = k
cons_apart m (Some s) more named h k = apart_cons same_member s more (subst (λ n. list_any (λ q. same_bytes n q.name) more ≡ false) (sym named) h) k

entries_apart : (links : List Link) (es : List LinkEntry) → apart same_entry es ≡ true → apart same_member (filter_map (entered_over links) es) ≡ true
entries_apart links [] h = refl
entries_apart links (e ∷ es) h = cons_apart e.name (entered_over links e) (filter_map (entered_over links) es) (entered_named links e)
    (entries_lack links e.name es (apart_head same_entry e es h)) (entries_apart links es (apart_tail same_entry e es h))

left_apart : (p : Link → Bool) (ls : List Link) → names_differ ls ≡ true → apart same_member (map left_alone (filter p ls)) ≡ true
left_apart p ls h = apart_map left_alone same_member (filter p ls) ∙ apart_filter (λ a b. same_bytes a.name b.name) p ls (names_turned ls h)

-- a link with the name of an entry is mentioned
named_mentioned : (es : List LinkEntry) (n : List ℕ) → list_any (λ e. same_bytes e.name n) es ≡ true → is_some (find_entry n es) ≡ true
named_mentioned [] n h = absurd cc
named_mentioned (e ∷ es) n h = elim (same_bytes e.name n) as (λ v. (v || list_any (λ q. same_bytes q.name n) es) ≡ true → is_some (cond v (Some e) (find_entry n es)) ≡ true) [
  | true ↦ λ k. refl
  | false ↦ λ k. named_mentioned es n k
] h

-- no unmentioned link has it
pub unmentioned_lack : (links : List Link) (es : List LinkEntry) (n : List ℕ) → is_some (find_entry n es) ≡ true → (xs : List Link) → list_any (λ l. same_bytes n l.name) (filter (stays links es) xs) ≡ false
unmentioned_lack links es n h [] = refl
unmentioned_lack links es n h (l ∷ xs) = elim (stays links es l) as (λ v. stays links es l ≡ v → list_any (λ k. same_bytes n k.name) (cond v (l ∷ filter (stays links es) xs) (filter (stays links es) xs)) ≡ false) [
  | true ↦ λ e. or_false (same_bytes n l.name) (list_any (λ k. same_bytes n k.name) (filter (stays links es) xs))
      (elim (same_bytes n l.name) as (λ v. same_bytes n l.name ≡ v → v ≡ false) [
        | true ↦ λ k. let both : true ≡ false = sym h ∙ ap (λ m. is_some (find_entry m es)) (one_name n l.name k) ∙ not_true (is_mentioned es l) (and_left (not (is_mentioned es l)) (not (is_gone links es l)) e) in both
        | false ↦ λ k. refl
      ] refl)
      (unmentioned_lack links es n h xs)
  | false ↦ λ e. unmentioned_lack links es n h xs
] refl

cons_each : (q : Member → Bool) (n : List ℕ) (o : Option Member) (more : List Member) → IfSome o (λ m. m.name ≡ n) → ((m : Member) → m.name ≡ n → q m ≡ true) → list_all q more ≡ true → list_all q (cons_option o more) ≡ true
cons_each q n None more named each h = h
cons_each q n (Some m) more named each h = and_both (q m) (list_all q more) (each m named) h

-- the name of an entry is heard of
heard : (links : List Link) (es : List LinkEntry) (n name : List ℕ) → is_some (find_entry n es) ≡ true → is_unheard links es name ≡ true → same_bytes n name ≡ false
heard links es n name h u = by (same_bytes n name) refl
  where
    some_none : (o : Option LinkEntry) → is_some o ≡ true → is_none o ≡ true → ⊥
    some_none None h k = absurd cc
    some_none (Some e) h k = absurd cc

    by : (b : Bool) → same_bytes n name ≡ b → b ≡ false
    by false e = refl
    by true e = absurd (some_none (find_entry n es) h (ap (λ m. is_none (find_entry m es)) (one_name n name e) ∙ and_right (is_none (find_link name links)) (is_none (find_entry name es)) u))

none_of_each : (p : Member → Bool) (ms : List Member) → Each (λ m. p m ≡ false) ms → list_any p ms ≡ false
none_of_each p [] h = refl
none_of_each p (m ∷ ms) h = or_false (p m) (list_any p ms) h.0 (none_of_each p ms h.1)

-- no implied link has it
pub implied_lack : (links : List Link) (es : List LinkEntry) (n : List ℕ) → is_some (find_entry n es) ≡ true → list_any (λ m. same_bytes n m.name) (implied links es) ≡ false
implied_lack links es n h = none_of_each (λ m. same_bytes n m.name) (implied links es) (implied_each (λ m. same_bytes n m.name ≡ false) links es (λ name peer u. heard links es n name h u))

mentioned_differ : (links : List Link) (all es : List LinkEntry) (others : List Member) → ((n : List ℕ) → is_some (find_entry n all) ≡ true → list_any (λ s. same_bytes n s.name) others ≡ false) → list_all (λ e. is_some (find_entry e.name all)) es ≡ true → list_all (λ m. not (list_any (same_member m) others)) (filter_map (entered_over links) es) ≡ true
mentioned_differ links all [] others lack h = refl
mentioned_differ links all (e ∷ es) others lack h = cons_each (λ m. not (list_any (same_member m) others)) e.name (entered_over links e) (filter_map (entered_over links) es) (entered_named links e)
    (λ m named. not_false (list_any (same_member m) others)
    (lack m.name (ap (λ n. is_some (find_entry n all)) named ∙ and_left (is_some (find_entry e.name all)) (list_all (λ q. is_some (find_entry q.name all)) es) h)))
    (mentioned_differ links all es others lack (and_right (is_some (find_entry e.name all)) (list_all (λ q. is_some (find_entry q.name all)) es) h))

all_mentioned : (before es : List LinkEntry) → list_all (λ e. is_some (find_entry e.name (before ++ es))) es ≡ true
all_mentioned before [] = refl
all_mentioned before (e ∷ es) = and_both (is_some (find_entry e.name (before ++ e ∷ es))) (list_all (λ q. is_some (find_entry q.name (before ++ e ∷ es))) es)
    (named_mentioned (before ++ e ∷ es) e.name (there before))
    (subst (λ all. list_all (λ q. is_some (find_entry q.name all)) es ≡ true) (append_assoc before (e ∷ []) es) (all_mentioned (before ++ e ∷ []) es))
  where
    there : (xs : List LinkEntry) → list_any (λ q. same_bytes q.name e.name) (xs ++ e ∷ es) ≡ true
    there [] = rw (itself e.name) refl
    there (x ∷ xs) = or_right (same_bytes x.name e.name) (list_any (λ q. same_bytes q.name e.name) (xs ++ e ∷ es)) (there xs)

-- no link has a name of which nothing is heard
unheard_lack : (n : List ℕ) (ls : List Link) → is_none (find_link n ls) ≡ true → list_any (λ l. same_bytes n l.name) ls ≡ false
unheard_lack n [] h = refl
unheard_lack n (l ∷ ls) h = elim (same_bytes l.name n) as (λ v. same_bytes l.name n ≡ v → is_none (cond v (Some l) (find_link n ls)) ≡ true → list_any (λ k. same_bytes n k.name) (l ∷ ls) ≡ false) [
  | true ↦ λ e k. absurd cc
  | false ↦ λ e k. or_false (same_bytes n l.name) (list_any (λ q. same_bytes n q.name) ls) (nat_list_eq_equiv.symm n l.name ∙ e) (unheard_lack n ls k)
] refl h

implied_apart : (links : List Link) (es : List LinkEntry) → names_differ links ≡ true → apart same_member (implied links es ++ map left_alone (filter (stays links es) links)) ≡ true
implied_apart links es h =
    let left : List Link = filter (stays links es) links in
    apart_append same_member (implied links es) (map left_alone left)
    (apart_once same_member (filter_map (implied_by links es) (filter_map (entered_over links) es)))
    (left_apart (stays links es) links h)
    (all_of_each (λ m. not (list_any (same_member m) (map left_alone left))) (implied links es)
    (implied_each (λ m. not (list_any (same_member m) (map left_alone left)) ≡ true) links es
    (λ name peer u. not_false (list_any (same_member (other_end name peer)) (map left_alone left))
    (any_map left_alone (same_member (other_end name peer)) left
    ∙ any_filter (λ l. same_bytes name l.name) (stays links es) links (unheard_lack name links (and_left (is_none (find_link name links)) (is_none (find_entry name es)) u))))))

-- neither an implied link nor one that is left alone has the name of an entry
others_lack : (links : List Link) (es : List LinkEntry) (n : List ℕ) → is_some (find_entry n es) ≡ true → list_any (λ s. same_bytes n s.name) (implied links es ++ map left_alone (filter (stays links es) links)) ≡ false
others_lack links es n h = any_append (λ s. same_bytes n s.name) (implied links es) (map left_alone (filter (stays links es) links))
    (implied_lack links es n h)
    (any_map left_alone (λ s. same_bytes n s.name) (filter (stays links es) links) ∙ unmentioned_lack links es n h links)

pub ranked_differ : (links : List Link) (es : List LinkEntry) → names_differ links ≡ true → apart same_entry es ≡ true → apart same_member (members_by_rank links es) ≡ true
ranked_differ links es h k = apart_append same_member (filter_map (entered_over links) es) (implied links es ++ map left_alone (filter (stays links es) links))
    (entries_apart links es k) (implied_apart links es h)
    (mentioned_differ links es es (implied links es ++ map left_alone (filter (stays links es) links)) (others_lack links es) (all_mentioned [] es))

-- rule 1, said of the entries
pub entries_differ : (es : List LinkEntry) → duplicate_name es ≡ None → apart same_entry es ≡ true
entries_differ es h = second_apart same_entry [] es (none_mapped (λ (e : LinkEntry). AtLink e.name) (first_second same_entry [] es) h)

pub members_differ : (links : List Link) (es : List LinkEntry) → names_differ links ≡ true → duplicate_name es ≡ None → apart same_member (members links es) ≡ true
members_differ links es h k =
    apart_map (raised (with_controllers (members_by_rank links es))) same_member (with_controllers (members_by_rank links es))
    ∙ apart_map (with_controller (members_by_rank links es)) same_member (members_by_rank links es)
    ∙ ranked_differ links es h (entries_differ es k)
