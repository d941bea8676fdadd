-- A change of each link.
use Rattle.std.proofs.Common.{◌≡◌, ℕ, Bool, true, not, ◌&&◌, ◌||◌, List, map, Option, Some, None, refl, sym, ap, ◌∙◌}
use Rattle.std.specs.Prelude.{option_map}
use Rattle.std.specs.List.{list_all}
use Rattle.net_model.specs.Words.{is_among}
use Rattle.net_model.specs.Links.{find_link}
use Rattle.net_model.specs.Options.{bond_ok, primary_ok, takes_primary, is_fast, is_802_3ad, delays_ok}
use Rattle.net_model.specs.Valid.{names_differ}
use Rattle.net_model.specs.declared.link.Link.{Link}
use Rattle.net_model.specs.declared.options.BondMode.{BondMode}
use Rattle.net_model.specs.declared.options.BondOpts.{BondOpts}
use Rattle.net_model.proofs.lemmas.Truth.{and_left, and_right, and_both}
use Rattle.net_model.proofs.lemmas.ByName.{all_map, all_found, by_name, some_same}
use Rattle.net_model.proofs.lemmas.Maps.{find_map}

-- the test of each link found carries over
pub all_mapped : (f : Link → Link) (p q : Link → Bool) (xs : List Link) → names_differ xs ≡ true → ((n : List ℕ) (l : Link) → find_link n xs ≡ Some l → p l ≡ true → q (f l) ≡ true) → list_all p xs ≡ true → list_all q (map f xs) ≡ true
all_mapped f p q xs differ each old = all_map f (λ l. q (f l)) q (λ l. refl) xs ∙ by_name (λ l. q (f l)) xs differ (λ n l found. each n l found (all_found p xs n l old found))

-- what is found after a change of each was found before it
pub found_map : (f : Link → Link) → ((l : Link) → (f l).name ≡ l.name) → (xs : List Link) (n : List ℕ) (m : Link) → find_link n (map f xs) ≡ Some m → (l : Link) × (find_link n xs ≡ Some l) × (m ≡ f l)
found_map f name xs n m found = of (find_link n xs) refl
  where
    of : (o : Option Link) → find_link n xs ≡ o → (l : Link) × (find_link n xs ≡ Some l) × (m ≡ f l)
    of None e = let no : (let o : Option Link = None in o) ≡ Some m = ap (option_map f) (sym e) ∙ sym (find_map f name xs n) ∙ found in absurd cc
    of (Some l) e = (l, e, some_same m (f l) (sym found ∙ find_map f name xs n ∙ ap (option_map f) e))

pub map_found : (f : Link → Link) → ((l : Link) → (f l).name ≡ l.name) → (xs : List Link) (n : List ℕ) (l : Link) → find_link n xs ≡ Some l → find_link n (map f xs) ≡ Some (f l)
map_found f name xs n l found = find_map f name xs n ∙ ap (option_map f) found

-- options that fit some ports fit more
pub bond_ok_more : (mode : BondMode) (o : BondOpts) (few more : List (List ℕ)) → ((p : List ℕ) → is_among few p ≡ true → is_among more p ≡ true) → bond_ok mode o few ≡ true → bond_ok mode o more ≡ true
bond_ok_more mode o few more within h =
    let front = and_left (primary_ok mode o.primary few && (not (is_fast o.lacp_rate) || is_802_3ad mode)) (delays_ok o) h in
    and_both (primary_ok mode o.primary more && (not (is_fast o.lacp_rate) || is_802_3ad mode)) (delays_ok o)
    (and_both (primary_ok mode o.primary more) (not (is_fast o.lacp_rate) || is_802_3ad mode) (primary o.primary (and_left (primary_ok mode o.primary few) (not (is_fast o.lacp_rate) || is_802_3ad mode) front)) (and_right (primary_ok mode o.primary few) (not (is_fast o.lacp_rate) || is_802_3ad mode) front))
    (and_right (primary_ok mode o.primary few && (not (is_fast o.lacp_rate) || is_802_3ad mode)) (delays_ok o) h)
  where
    primary : (name : Option (List ℕ)) → primary_ok mode name few ≡ true → primary_ok mode name more ≡ true
    primary None h = refl
    primary (Some p) h = and_both (is_among more p) (takes_primary mode) (within p (and_left (is_among few p) (takes_primary mode) h)) (and_right (is_among few p) (takes_primary mode) h)
