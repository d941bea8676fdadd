-- The claims on a link.
use Rattle.std.proofs.Common.{◌≡◌, ℕ, Bool, true, false, not, cond, ◌||◌, ◌&&◌, List, [], ◌∷◌, ◌++◌, map, filter, Option, Some, None, refl, ap, ◌∙◌}
use Rattle.std.specs.List.{list_any, find}
use Rattle.std.specs.Option.{option_map, option_map_or, option_or, option_to_list}
use Rattle.document_model.specs.declared.Claim.{Claim}
use Rattle.document_model.specs.declared.Claim.TheVariants.{To}
use Rattle.merge_model.specs.Stated.{claimed}
use Rattle.merge_model.specs.Members.{Member}
use Rattle.merge_model.specs.Controllers.{lists, own_claim, claims, decided}
use Rattle.merge_model.specs.BrokenPorts.{same_claim, claims_differ}
use Rattle.net_model.proofs.lemmas.Found.{itself}

first_claim : (p : Member → Bool) (ms : List Member) (kept : Option (List ℕ)) → decided (map (λ (c : Member). To c.name) (filter p ms)) kept ≡ option_map_or (λ (c : Member). Some c.name) (find p ms) kept
first_claim p [] kept = refl
first_claim p (m ∷ ms) kept = elim (p m) as (λ v. p m ≡ v → decided (map (λ (c : Member). To c.name) (filter p (m ∷ ms))) kept ≡ option_map_or (λ (c : Member). Some c.name) (cond v (Some m) (find p ms)) kept) [
  | true ↦ λ e. rw e refl
  | false ↦ λ e. rw e (first_claim p ms kept)
] refl

-- without a claim of its own, the first list that names the link decides
pub decided_by_list : (ms : List Member) (m : Member) (kept : Option (List ℕ)) → own_claim m ≡ None → decided (claims ms m) kept ≡ option_map_or (λ (c : Member). Some c.name) (find (λ c. lists c m.name) ms) kept
decided_by_list ms m kept e = ap (λ o. decided (option_to_list o ++ map (λ (c : Member). To c.name) (filter (λ c. lists c m.name) ms)) kept) e ∙ first_claim (λ c. lists c m.name) ms kept

-- its own claim decides
pub decided_by_own : (ms : List Member) (m : Member) (kept : Option (List ℕ)) (claim : Claim) → own_claim m ≡ Some claim → decided (claims ms m) kept ≡ claimed claim
decided_by_own ms m kept claim e = ap (λ o. decided (option_to_list o ++ map (λ (c : Member). To c.name) (filter (λ c. lists c m.name) ms)) kept) e
