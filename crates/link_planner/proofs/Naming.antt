-- The names of all links name each of them.
use Rattle.std.proofs.Common.{◌≡◌, ℕ, List, map, refl, ap, ◌∙◌}
use Rattle.net_model.specs.Name.{same_bytes}
use Rattle.net_model.specs.Words.{is_among}
use Rattle.net_model.specs.Links.{is_named}
use Rattle.net_model.specs.declared.link.Link.{Link}
use Rattle.net_model.proofs.lemmas.Found.{itself}
use Rattle.net_model.proofs.lemmas.Grounded.{found_named, any_found}
use Rattle.net_model.proofs.lemmas.ByName.{any_map}
use Rattle.link_planner.specs.Depths.{NamesAll}

pub names_all : (links : List Link) (names : List (List ℕ)) → names ≡ map (λ (l : Link). l.name) links → NamesAll links names
names_all links names is n l found =
    ap (λ ns. is_among ns n) is ∙ any_map (λ (l : Link). l.name) (is_named n) (λ m. same_bytes m n) (λ l. refl) links
    ∙ any_found (is_named n) links n l found (ap (λ m. same_bytes m n) (found_named links n l found) ∙ itself n)
