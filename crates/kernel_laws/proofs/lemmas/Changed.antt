-- A change of the named link.
use Rattle.std.proofs.Common.{◌≡◌, ℕ, Bool, true, false, List, map, Some, refl, sym, ap, ◌∙◌}
use Rattle.std.specs.Prelude.{if◌then◌else◌}
use Rattle.std.specs.List.{list_all}
use Rattle.net_model.specs.Name.{same_bytes}
use Rattle.net_model.specs.Links.{find_link, is_named}
use Rattle.net_model.specs.Valid.{names_differ}
use Rattle.net_model.specs.declared.link.Link.{Link}
use Rattle.net_model.proofs.lemmas.Found.{one_name}
use Rattle.net_model.proofs.lemmas.Grounded.{found_named}
use Rattle.net_model.proofs.lemmas.Changes.{all_mapped}
use Rattle.net_model.specs.Edits.{changed}

pub changed_at : (name : List ℕ) (g : Link → Link) (l : Link) → is_named name l ≡ true → changed name g l ≡ g l
changed_at name g l h = rw h refl

pub changed_off : (name : List ℕ) (g : Link → Link) (l : Link) → is_named name l ≡ false → changed name g l ≡ l
changed_off name g l h = rw h refl

-- the test of the named link carries over, and so does that of the others
pub all_changed : (name : List ℕ) (g : Link → Link) (p q : Link → Bool) (xs : List Link) → names_differ xs ≡ true
    → ((l : Link) → find_link name xs ≡ Some l → p l ≡ true → q (g l) ≡ true)
    → ((n : List ℕ) (l : Link) → find_link n xs ≡ Some l → same_bytes n name ≡ false → p l ≡ true → q l ≡ true)
    → list_all p xs ≡ true → list_all q (map (changed name g) xs) ≡ true
all_changed name g p q xs differ named others old =
    all_mapped (changed name g) p q xs differ (λ n l found h.
    let own : l.name ≡ n = found_named xs n l found in
    elim (is_named name l) as (λ v. is_named name l ≡ v → q (changed name g l) ≡ true) [
      | true ↦ λ e.
          let there : find_link name xs ≡ Some l = ap (λ m. find_link m xs) (sym (one_name l.name name e) ∙ own) ∙ found in
          ap q (changed_at name g l e) ∙ named l there h
      | false ↦ λ e. ap q (changed_off name g l e) ∙ others n l found (ap (λ m. same_bytes m name) (sym own) ∙ e) h
    ] refl) old

-- what both branches have, the choice has
pub changed_keeps : {X : Type 0} (get : Link → X) (name : List ℕ) (g : Link → Link) → ((l : Link) → get (g l) ≡ get l) → (l : Link) → get (changed name g l) ≡ get l
changed_keeps get name g keeps l = elim (is_named name l) as (λ v. get (if v then g l else l) ≡ get l) [ true ↦ keeps l | false ↦ refl ]
