-- How many addresses links have together, and what edits do to that number.
use Rattle.std.proofs.Common.{◌≡◌, ◌∙◌, ℕ, ◌+◌, ◌-◌, ◌<◌, ◌≤◌, suc, Bool, true, false, not, ◌||◌, cond, List, [], ◌∷◌, filter, length, get_or, set, Some, refl, sym, ap, subst, arith}
use Rattle.std.specs.List.{list_any, list_all, sum_by}
use Rattle.std.specs.Option.{option_map_or}
use Rattle.std.specs.Ordering.{is_lt}
use Rattle.std.specs.Cmp.Lexicographic.{texts_ties}
use Rattle.std.proofs.lemmas.List.Sums.{sum_by-cons, sum_by-set, length-filter, count_by-le-length}
use Rattle.net_model.specs.Address.{Block}
use Rattle.net_model.specs.Name.{same_bytes}
use Rattle.net_model.specs.Words.{apart, rises, put, is_among}
use Rattle.net_model.specs.Order.{name_cmp, block_cmp, link_cmp}
use Rattle.net_model.specs.Links.{is_named, same_name, find_link}
use Rattle.net_model.specs.Valid.{address_count, names_differ}
use Rattle.net_model.specs.declared.link.Link.{Link}
use Rattle.net_model.specs.Edits.{changed, edit_link, address_put}
use Rattle.net_model.proofs.lemmas.Truth.{and_left, and_right, not_true, or_left_false, or_right_false}
use Rattle.net_model.proofs.lemmas.Rises.{apart-rises}
use Rattle.net_model.proofs.lemmas.Found.{one_name, names_differ-rises}
use Rattle.net_model.proofs.lemmas.Maps.{count_map}
use Rattle.net_model.proofs.lemmas.Puts.{length_put, sum_put}
use Rattle.net_model.proofs.lemmas.ListChanges.{either_way, all_kept}
use Rattle.net_lists.proofs.lemmas.LinkLists.{changed_keeps}

-- ---- one link

-- what is kept of a list is no longer than the list
kept_fewer : {X : Type 0} (p : X → Bool) (xs : List X) → length (filter p xs) ≤ length xs
kept_fewer p xs = omega (arith, length-filter p xs, count_by-le-length p xs)

-- so what is kept is as many as before without those that are gone
pub gone_within : (p : Block → Bool) (old new : List Block) (count left : ℕ) → new ≡ filter p old → count ≡ length old → left ≡ length new → left ≤ count
gone_within p old new count left is before after =
    let fewer : length new ≤ length old = subst (λ (bs : List Block). length bs ≤ length old) (sym is) (kept_fewer p old) in
    omega (arith, fewer, before, after)

pub gone_counted : (p : Block → Bool) (old new : List Block) (count left : ℕ) → new ≡ filter p old → count ≡ length old → left ≡ length new → length new + (count - left) ≡ length old
gone_counted p old new count left is before after =
    let fewer : length new ≤ length old = subst (λ (bs : List Block). length bs ≤ length old) (sym is) (kept_fewer p old) in
    omega (arith, fewer, before, after)

-- an address that is put into its place is one more
pub put_one : (block : Block) (l new : Link) → new ≡ address_put block l → length new.addrs ≡ length l.addrs + 1
put_one block l new is =
    let same : length new.addrs ≡ length (put block_cmp block l.addrs) = ap (λ (k : Link). length k.addrs) is in
    let more : length (put block_cmp block l.addrs) ≡ suc (length l.addrs) = length_put block_cmp block l.addrs in
    omega (arith, same, more)

-- a link that is written with more addresses
pub count_more : (links : List Link) (i : ℕ) (d new : Link) (n : ℕ) → i < length links → length new.addrs ≡ length (get_or links i d).addrs + n → address_count (set links i new) ≡ address_count links + n
count_more links i d new n lt h =
    let all : address_count (set links i new) + length (get_or links i d).addrs ≡ address_count links + length new.addrs = sum_by-set (λ (l : Link). length l.addrs) links i new d lt in
    omega (arith, all, h)

-- and with fewer
pub count_less : (links : List Link) (i : ℕ) (d new : Link) (n : ℕ) → i < length links → length new.addrs + n ≡ length (get_or links i d).addrs → address_count (set links i new) + n ≡ address_count links
count_less links i d new n lt h =
    let all : address_count (set links i new) + length (get_or links i d).addrs ≡ address_count links + length new.addrs = sum_by-set (λ (l : Link). length l.addrs) links i new d lt in
    omega (arith, all, h)

-- the count after so many have gone
pub count_left : (count gone old new : ℕ) → count ≡ old → new + gone ≡ old → count - gone ≡ new
count_left count gone old new is h = omega (arith, is, h)

-- a link that is put into its place
pub count_put : (link : Link) (links : List Link) (old new : ℕ) → old ≡ address_count links → new ≡ old + length link.addrs → new ≡ address_count (put link_cmp link links)
count_put link links old new is more =
    let all : address_count (put link_cmp link links) ≡ length link.addrs + address_count links = sum_put link_cmp link (λ (l : Link). length l.addrs) links in
    omega (arith, is, more, all)

-- a change of the named link that keeps its addresses
pub count_edit : (name : List ℕ) (g : Link → Link) → ((l : Link) → (g l).name ≡ l.name) → ((l : Link) → (g l).addrs ≡ l.addrs) → (links : List Link) → address_count (edit_link name g links) ≡ address_count links
count_edit name g names addrs = count_map (changed name g) (changed_keeps (λ (l : Link). l.name) name g names) (changed_keeps (λ (l : Link). l.addrs) name g addrs)

-- ---- links that go

-- how many addresses the named link has
abbrev pub own_count : List Link → List ℕ → ℕ
own_count links name = option_map_or (λ (l : Link). length l.addrs) (find_link name links) 0

-- the name differs from those of the others, so that none of them goes with it
others_stay : (name : List ℕ) (p : List ℕ → Bool) (x : Link) (xs : List Link) → is_named name x ≡ true → list_any (same_name x) xs ≡ false
    → filter (λ (l : Link). not (p l.name)) xs ≡ filter (λ (l : Link). not (same_bytes name l.name || p l.name)) xs
others_stay name p x [] h none = refl
others_stay name p x (y ∷ ys) h none =
    let other : same_bytes y.name name ≡ false = ap (same_bytes y.name) (sym (one_name x.name name h)) ∙ or_left_false (same_name x y) (list_any (same_name x) ys) none in
    let away : same_bytes name y.name ≡ false = either_way name y.name ∙ other in
    ap (λ (ls : List Link). cond (not (p y.name)) (y ∷ ls) ls) (others_stay name p x ys h (or_right_false (same_name x y) (list_any (same_name x) ys) none))
    ∙ sym (ap (λ v. cond (not (v || p y.name)) (y ∷ filter (λ (l : Link). not (same_bytes name l.name || p l.name)) ys) (filter (λ (l : Link). not (same_bytes name l.name || p l.name)) ys)) away)

-- a sum over the links that stay, and over one fewer
module _ (f : Link → ℕ) (name : List ℕ) (p : List ℕ → Bool) (stays : p name ≡ false) where
  abbrev left : List Link → List Link
  left links = filter (λ (l : Link). not (p l.name)) links

  abbrev fewer : List Link → List Link
  fewer links = filter (λ (l : Link). not (same_bytes name l.name || p l.name)) links

  one_fewer : (links : List Link) → names_differ links ≡ true → sum_by f (left links) ≡ sum_by f (fewer links) + option_map_or f (find_link name links) 0
  one_fewer [] differ = refl
  one_fewer (x ∷ xs) differ =
      let none : list_any (same_name x) xs ≡ false = not_true (list_any (same_name x) xs) (and_left (not (list_any (same_name x) xs)) (names_differ xs) differ) in
      let rest : sum_by f (left xs) ≡ sum_by f (fewer xs) + option_map_or f (find_link name xs) 0 = one_fewer xs (and_right (not (list_any (same_name x) xs)) (names_differ xs) differ) in
      elim (is_named name x) as (λ v. is_named name x ≡ v → sum_by f (cond (not (p x.name)) (x ∷ left xs) (left xs)) ≡ sum_by f (cond (not (same_bytes name x.name || p x.name)) (x ∷ fewer xs) (fewer xs)) + option_map_or f (cond v (Some x) (find_link name xs)) 0) [
        | true ↦ λ e.
            let on : same_bytes name x.name ≡ true = either_way name x.name ∙ e in
            let kept : p x.name ≡ false = ap p (one_name x.name name e) ∙ stays in
            let same : sum_by f (left xs) ≡ sum_by f (fewer xs) = ap (sum_by f) (others_stay name p x xs e none) in
            let first : sum_by f (cond (not (p x.name)) (x ∷ left xs) (left xs)) ≡ sum_by f (x ∷ left xs) = ap (λ v. sum_by f (cond (not v) (x ∷ left xs) (left xs))) kept in
            let last : sum_by f (cond (not (same_bytes name x.name || p x.name)) (x ∷ fewer xs) (fewer xs)) ≡ sum_by f (fewer xs) = ap (λ v. sum_by f (cond (not (v || p x.name)) (x ∷ fewer xs) (fewer xs))) on in
            first ∙ sum_by-cons f x (left xs) ∙ ap (λ (n : ℕ). f x + n) same ∙ turned (f x) (sum_by f (fewer xs)) ∙ ap (λ (n : ℕ). n + f x) (sym last)
        | false ↦ λ e.
            let off : same_bytes name x.name ≡ false = either_way name x.name ∙ e in
            elim (p x.name) as (λ v. sum_by f (cond (not v) (x ∷ left xs) (left xs)) ≡ sum_by f (cond (not v) (x ∷ fewer xs) (fewer xs)) + option_map_or f (find_link name xs) 0) [
              | true ↦ rest
              | false ↦ sum_by-cons f x (left xs) ∙ ap (λ (n : ℕ). f x + n) rest ∙ grouped (f x) (sum_by f (fewer xs)) (option_map_or f (find_link name xs) 0)
                  ∙ ap (λ (n : ℕ). n + option_map_or f (find_link name xs) 0) (sym (sum_by-cons f x (fewer xs)))
            ]
            ∙ ap (λ v. sum_by f (cond (not (v || p x.name)) (x ∷ fewer xs) (fewer xs)) + option_map_or f (find_link name xs) 0) (sym off)
      ] refl
    where
      turned : (a b : ℕ) → a + b ≡ b + a
      turned a b = omega arith

      grouped : (a b c : ℕ) → a + (b + c) ≡ a + b + c
      grouped a b c = omega arith

-- a name of a strictly sorted list isn't among those after it
only_first : (name : List ℕ) (names : List (List ℕ)) → rises name_cmp (name ∷ names) ≡ true → is_among names name ≡ false
only_first name names up =
    let differ : apart (λ a b. same_bytes b a) (name ∷ names) ≡ true = apart-rises (λ a b. same_bytes b a) name_cmp (λ a b. either_way b a ∙ texts_ties a b) (name ∷ names) up in
    not_true (is_among names name) (and_left (not (is_among names name)) (apart (λ a b. same_bytes b a) names) differ)

-- all have as many as the links that stay and those that go
pub gone_apart : (links : List Link) (goes : List (List ℕ)) → rises link_cmp links ≡ true → rises name_cmp goes ≡ true
    → address_count links ≡ address_count (filter (λ l. not (is_among goes l.name)) links) + sum_by (own_count links) goes
gone_apart links [] up names =
    let all : address_count (filter (λ (l : Link). true) links) ≡ address_count links = ap (λ (ls : List Link). address_count ls) (all_kept links) in
    let nothing : (n : ℕ) → n ≡ n + 0 = λ n. omega arith in
    sym all ∙ nothing (address_count (filter (λ (l : Link). true) links))
gone_apart links (name ∷ names) up rise =
    let later : rises name_cmp names ≡ true = and_right (list_all (λ y. is_lt (name_cmp name y)) names) (rises name_cmp names) rise in
    let rest : address_count links ≡ address_count (filter (λ l. not (is_among names l.name)) links) + sum_by (own_count links) names = gone_apart links names up later in
    let one : address_count (filter (λ l. not (is_among names l.name)) links) ≡ address_count (filter (λ l. not (is_among (name ∷ names) l.name)) links) + own_count links name =
    one_fewer (λ (l : Link). length l.addrs) name (is_among names) (only_first name names rise) links (names_differ-rises links up) in
    let sum : sum_by (own_count links) (name ∷ names) ≡ own_count links name + sum_by (own_count links) names = sum_by-cons (own_count links) name names in
    added _ _ _ _ _ _ rest one sum
  where
    added : (all kept stays own later sum : ℕ) → all ≡ kept + later → kept ≡ stays + own → sum ≡ own + later → all ≡ stays + sum
    added all kept stays own later sum h k e = omega (arith, h, k, e)
