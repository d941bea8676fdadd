-- The names of what hangs on a link, in order and by name.
use Rattle.std.proofs.Common.{◌≡◌, ℕ, Bool, true, false, ◌&&◌, List, [], ◌∷◌, map, filter, refl, ◌∙◌}
use Rattle.std.specs.Ordering.{is_lt}
use Rattle.net_model.specs.Words.{rises, is_among}
use Rattle.net_model.specs.Order.{link_cmp, name_cmp}
use Rattle.net_model.specs.Links.{named_passes}
use Rattle.net_model.specs.declared.link.Link.{Link}
use Rattle.net_model.proofs.lemmas.ByName.{all_map}
use Rattle.net_model.proofs.lemmas.Parts.{rises_filter}
use Rattle.kernel_model.specs.Words.{hangs_on}
use Rattle.kernel_laws.proofs.lemmas.InPlace.{among_passes}
use Rattle.link_step.specs.declared.hanging.Affected.{Affected}
use Rattle.link_step.specs.Hanging.{hangs, hanging, hangs_affected, affected_on}

-- names rise as their links do
names_rise : (xs : List Link) → rises name_cmp (map (λ (l : Link). l.name) xs) ≡ rises link_cmp xs
names_rise [] = refl
names_rise (x ∷ xs) = rw (all_map (λ (l : Link). l.name) (λ y. is_lt (link_cmp x y)) (λ n. is_lt (name_cmp x.name n)) (λ y. refl) xs, names_rise xs) refl

pub affected_rises : (which : Affected) (links : List Link) (root : List ℕ) → rises link_cmp links ≡ true → rises name_cmp (affected_on which links root) ≡ true
affected_rises which links root up = names_rise (filter (hangs_affected which links root) links) ∙ rises_filter link_cmp (hangs_affected which links root) links up

-- a name is among them where it hangs on the root
pub among_hanging : (links : List Link) (root name : List ℕ) → is_among (hanging links root) name ≡ hangs_on links root name
among_hanging links root name = among_passes (hangs links root) links name

-- and among those that are affected where it is, too
pub among_affected : (which : Affected) (links : List Link) (root name : List ℕ) → is_among (affected_on which links root) name ≡ named_passes (hangs_affected which links root) links name
among_affected which links root name = among_passes (hangs_affected which links root) links name

pub and_yes : (b : Bool) → (b && true) ≡ b
and_yes true = refl
and_yes false = refl
