-- What of one network stands in another.
use Rattle.std.proofs.Common.{◌≡◌, ℕ, ◌+◌, ◌<◌, ◌≤◌, nat_le, zero, suc, true, false, cond, List, [], ◌∷◌, get_or, length, take, Option, Some, None, refl, sym, ap, subst, ◌∙◌, arith}
use Rattle.std.specs.Prelude.{option_map}
use Rattle.std.specs.Option.{option_map_or}
use Rattle.std.proofs.lemmas.List.{take_all}
use Rattle.std.proofs.lemmas.List.Sums.{sum_by_more}
use Rattle.net_model.specs.Address.{Block}
use Rattle.net_model.specs.Links.{find_link, is_named}
use Rattle.net_model.specs.Hardware.{hardware}
use Rattle.net_model.specs.Valid.{address_count}
use Rattle.net_model.specs.NetData.{NetData, IsNet}
use Rattle.net_model.specs.declared.link.Link.{Link}
use Rattle.net_model.proofs.lemmas.ByName.{some_same}
use Rattle.net_model.proofs.lemmas.FactsHold.{facts}
use Rattle.net_model.proofs.lemmas.Grounded.{found_named}
use Rattle.net_model.proofs.lemmas.Parts.{le_of, not_le}
use Rattle.kernel_model.specs.Addresses.{has_block}
use Rattle.plan_model.specs.Wants.{has_address}
use Rattle.link_planner.specs.Kept.{is_kept}
use Rattle.link_planner.specs.Shrinking.{IsLess, IsShrunk, KeepsPorts}
use Rattle.link_planner.specs.LinkPlans.{without_addrs, IsReady}
use Rattle.plan_core.specs.Parts.{HasAddress, IsPartOf, EachLink, EachRoute, EachRule, LinkFits, LinkIsFilled, RouteFits, RuleFits}

pub part_itself : (net : NetData) → IsPartOf net net
part_itself net = record { links = λ n. refl; addrs = λ n b h. h; routes = λ r h. h; rules = λ r h. h }

-- a part of a part is a part
pub part_more : (a b c : NetData) → IsPartOf a b → IsPartOf b c → IsPartOf a c
part_more a b c first second = record {
  links = λ n. first.links n ∙ second.links n;
  addrs = λ n x h. second.addrs n x (first.addrs n x h);
  routes = λ r h. second.routes r (first.routes r h);
  rules = λ r h. second.rules r (first.rules r h);
}

-- the link of the same name, which is the same but for addresses
pub found_other : (a b : Option Link) (l : Link) → option_map without_addrs a ≡ option_map without_addrs b → a ≡ Some l → (k : Link) × (b ≡ Some k) × (without_addrs l ≡ without_addrs k)
found_other a None l same e =
    let no : Some (without_addrs l) ≡ (let o : Option Link = None in o) = ap (option_map without_addrs) (sym e) ∙ same in
    absurd cc
found_other a (Some k) l same e = (k, refl, some_same (without_addrs l) (without_addrs k) (ap (option_map without_addrs) (sym e) ∙ same))

-- so of a part
pub part_link : (few all : NetData) → IsPartOf few all → (n : List ℕ) (l : Link) → find_link n few.links ≡ Some l → (k : Link) × (find_link n all.links ≡ Some k) × (without_addrs l ≡ without_addrs k)
part_link few all part n l found = found_other (find_link n few.links) (find_link n all.links) l (part.links n) found

-- an address of a link that is there
pub has_of : (net : NetData) (n : List ℕ) (l : Link) (b : Block) → find_link n net.links ≡ Some l → has_address net n b ≡ has_block b l.addrs
has_of net n l b found = ap (λ o. option_map_or (λ (k : Link). has_block b k.addrs) o false) found

-- a link that has an address is there
pub link_with : (net : NetData) (n : List ℕ) (b : Block) → HasAddress net n b → (l : Link) × (find_link n net.links ≡ Some l) × (has_block b l.addrs ≡ true)
link_with net n b h = of (find_link n net.links) refl
  where
    of : (o : Option Link) → find_link n net.links ≡ o → (l : Link) × (o ≡ Some l) × (has_block b l.addrs ≡ true)
    of None e = let no : false ≡ true = ap (λ o. option_map_or (λ (k : Link). has_block b k.addrs) o false) (sym e) ∙ h in absurd cc
    of (Some l) e = (l, refl, sym (has_of net n l b e) ∙ h)

less_of : (k l : Link) → without_addrs l ≡ without_addrs k → ((b : Block) → has_block b l.addrs ≡ true → has_block b k.addrs ≡ true) → IsLess k l
less_of k l same addrs = record {
  kind = ap (λ (x : Link). x.kind) same;
  mtu = ap (λ (x : Link). x.mtu) same;
  mac = ap (λ (x : Link). x.mac) same;
  up = λ h. ap (λ (x : Link). x.up) (sym same) ∙ h;
  controller = λ c h. ap (λ (x : Link). x.controller) (sym same) ∙ h;
  addrs = addrs;
}

-- a part is a network of which some was taken away
pub shrunk : (start net : NetData) → IsPartOf net start → IsShrunk start net
shrunk start net part = record {
  links = λ n l found.
      let k = part_link net start part n l found in
      (k.0, k.1, less_of k.0 l k.2 (λ b h. sym (has_of start n k.0 b k.1) ∙ part.addrs n b (has_of net n l b found ∙ h)));
  routes = part.routes;
}

ports_kept : (start target net : NetData) → IsPartOf net start → KeepsPorts start target net
ports_kept start target net part = record {
  each = λ n c k t l at_start at_target found has has_there.
      let m = part_link net start part n l found in
      ap (λ (x : Link). x.controller) (m.2) ∙ ap (λ (x : Link). x.controller) (some_same m.0 k (sym m.1 ∙ at_start)) ∙ has;
}

-- a link that is found stands at some place
pub found_place : (xs : List Link) (n : List ℕ) (l d : Link) → find_link n xs ≡ Some l → (k : ℕ) × (k < length xs) × (get_or xs k d ≡ l)
found_place [] n l d found = absurd cc
found_place (x ∷ xs) n l d found = elim (is_named n x) as (λ v. cond v (Some x) (find_link n xs) ≡ Some l → (k : ℕ) × (k < suc (length xs)) × (get_or (x ∷ xs) k d ≡ l)) [
  | true ↦ λ h. (0, omega arith, some_same x l h)
  | false ↦ λ h. let p = found_place xs n l d h in (suc p.0, (let lt = p.1 in omega (arith, lt)), p.2)
] found

-- which element stands in for none makes no difference within a list
other_none : (xs : List Link) (i : ℕ) (d e : Link) → i < length xs → get_or xs i d ≡ get_or xs i e
other_none [] i d e lt = absurd (omega arith)
other_none (x ∷ xs) zero d e lt = refl
other_none (x ∷ xs) (suc i) d e lt = other_none xs i d e (omega (arith, lt))

-- what holds of the first links and of the next holds of one more
pub one_more_link : (P Q : Link → Type 0) (xs : List Link) (i : ℕ) (x : Link) → i < length xs → x ≡ get_or xs i x → ((l : Link) → P l → Q l) → Q x → EachLink i xs P → EachLink (i + 1) xs Q
one_more_link P Q xs i x within is still here before k d lt = elim (nat_le (suc k) i) as (λ v. nat_le (suc k) i ≡ v → Q (get_or xs k d)) [
  | true ↦ λ e. still (get_or xs k d) (before k d (let le = le_of (suc k) i e in omega (arith, le)))
  | false ↦ λ e.
      let same : i ≡ k = (let more = not_le (suc k) i e in omega (arith, more, lt)) in
      subst (λ j. Q (get_or xs j d)) same (subst Q (is ∙ other_none xs i x d within) here)
] refl

-- what holds of all the first links holds of all
pub all_links : (P : Link → Type 0) (xs : List Link) (i : ℕ) → length xs ≤ i → EachLink i xs P → EachLink (length xs) xs P
all_links P xs i end done k d lt = done k d (omega (arith, end, lt))

-- and of each that is found
pub link_done : (P : Link → Type 0) (xs : List Link) (n : List ℕ) (l : Link) → EachLink (length xs) xs P → find_link n xs ≡ Some l → P l
link_done P xs n l done found = let p = found_place xs n l l found in subst P p.2 (done p.0 l p.1)

-- addresses of the first links, and of one more
pub one_more_count : (xs : List Link) (i : ℕ) (x : Link) → i < length xs → x ≡ get_or xs i x → address_count (take (i + 1) xs) ≡ address_count (take i xs) + length x.addrs
one_more_count xs i x within is = sum_by_more (λ (l : Link). length l.addrs) xs i x within ∙ ap (λ (l : Link). address_count (take i xs) + length l.addrs) (sym is)

-- and of all
pub all_count : (xs : List Link) (i : ℕ) → length xs ≤ i → address_count (take i xs) ≡ address_count xs
all_count xs i end = ap address_count (take_all i xs end)

-- a network from which rules, routes and addresses were taken off can be gone on from
pub ready : (start target net : NetData) → hardware start.links ≡ hardware target.links → IsPartOf net start → EachRule start.rules (RuleFits target net) → EachRoute start.routes (RouteFits target net)
    → EachLink (length start.links) start.links (LinkFits start target net) → IsReady start target net
ready start target net devices part rules routes links = record {
  devices = devices;
  shrunk = shrunk start net part;
  ports = ports_kept start target net part;
  rules = λ r h. rules r (part.rules r h) h;
  routes = λ r h. routes r (part.routes r h) h;
  addrs = λ n l t b kept found at h.
      let k = part_link net start part n l found in
      let has : HasAddress net n b = has_of net n l b found ∙ h in
      let was : has_block b k.0.addrs ≡ true = sym (has_of start n k.0 b k.1) ∙ part.addrs n b has in
      let name : k.0.name ≡ n = found_named start.links n k.0 k.1 in
      let fits : LinkFits start target net k.0 = link_done (LinkFits start target net) start.links n k.0 links k.1 in
      let at_name : HasAddress target k.0.name b = fits (ap (is_kept start target) name ∙ kept) b was (ap (λ m. has_address net m b) name ∙ has) in
      sym (has_of target n t b at) ∙ ap (λ m. has_address target m b) (sym name) ∙ at_name;
}

-- the addresses of a link of target stand in target
pub filled_target : (target : NetData) → IsNet target → (i : ℕ) (x : Link) → i < length target.links → x ≡ get_or target.links i x → LinkIsFilled target x
filled_target target good i x within is b among =
    let found : find_link x.name target.links ≡ Some x = ap (λ (l : Link). find_link l.name target.links) is ∙ (facts target good).link_at i x within ∙ ap Some (sym is) in
    has_of target x.name x b found ∙ among

-- where the addresses of each link of target are there, each address is
pub all_filled : (target net : NetData) → EachLink (length target.links) target.links (LinkIsFilled net) → (n : List ℕ) (b : Block) → HasAddress target n b → HasAddress net n b
all_filled target net done n b h =
    let l = link_with target n b h in
    let filled : LinkIsFilled net l.0 = link_done (LinkIsFilled net) target.links n l.0 done l.1 in
    ap (λ m. has_address net m b) (sym (found_named target.links n l.0 l.1)) ∙ filled b l.2
