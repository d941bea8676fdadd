-- Whether the claims on a link differ.
use Rattle.std.proofs.Common.{◌≡◌, Bool, true, false, not, cond, ◌||◌, ◌&&◌, List, [], ◌∷◌, ◌++◌, map, filter, Option, Some, None, refl, ◌∙◌}
use Rattle.std.specs.List.{list_any, find}
use Rattle.std.specs.Option.{option_map, option_map_or, option_or, option_to_list}
use Rattle.document_model.specs.declared.Claim.{Claim}
use Rattle.document_model.specs.declared.Claim.TheVariants.{To}
use Rattle.merge_model.specs.Members.{Member}
use Rattle.merge_model.specs.Controllers.{lists, own_claim, claims}
use Rattle.merge_model.specs.BrokenPorts.{same_claim, claims_differ}
use Rattle.net_model.proofs.lemmas.Found.{itself}

any_mapped : (claim : Claim) (p : Member → Bool) (ms : List Member) → list_any (λ c. not (same_claim claim c)) (map (λ (c : Member). To c.name) (filter p ms)) ≡ list_any (λ c. p c && not (same_claim claim (To c.name))) ms
any_mapped claim p [] = refl
any_mapped claim p (m ∷ ms) = elim (p m) as (λ v. p m ≡ v → list_any (λ c. not (same_claim claim c)) (map (λ (c : Member). To c.name) (filter p (m ∷ ms))) ≡ (v && not (same_claim claim (To m.name)) || list_any (λ c. p c && not (same_claim claim (To c.name))) ms)) [
  | true ↦ λ e. rw (e, any_mapped claim p ms) refl
  | false ↦ λ e. rw (e, any_mapped claim p ms) refl
] refl

listed_differ : (p : Member → Bool) (ms : List Member) → claims_differ (map (λ (c : Member). To c.name) (filter p ms)) ≡ option_map_or (λ (f : Member). list_any (λ c. p c && not (same_claim (To f.name) (To c.name))) ms) (find p ms) false
listed_differ p [] = refl
listed_differ p (m ∷ ms) = elim (p m) as (λ v. p m ≡ v → claims_differ (map (λ (c : Member). To c.name) (filter p (m ∷ ms))) ≡ option_map_or (λ (f : Member). v && not (same_claim (To f.name) (To m.name)) || list_any (λ c. p c && not (same_claim (To f.name) (To c.name))) ms) (cond v (Some m) (find p ms)) false) [
  | true ↦ λ e. rw (e, itself m.name) (any_mapped (To m.name) p ms)
  | false ↦ λ e. rw e (listed_differ p ms)
] refl

-- two claims on a link differ where a list contradicts the first of them
pub differ_from_first : (ms : List Member) (m : Member) → claims_differ (claims ms m) ≡ option_map_or (λ claim. list_any (λ c. lists c m.name && not (same_claim claim (To c.name))) ms) (option_or (own_claim m) (option_map (λ (c : Member). To c.name) (find (λ c. lists c m.name) ms))) false
differ_from_first ms m = by (own_claim m)
  where
    out : (o : Option Member) → option_map_or (λ (f : Member). list_any (λ c. lists c m.name && not (same_claim (To f.name) (To c.name))) ms) o false ≡ option_map_or (λ claim. list_any (λ c. lists c m.name && not (same_claim claim (To c.name))) ms) (option_map (λ (c : Member). To c.name) o) false
    out None = refl
    out (Some f) = refl

    by : (o : Option Claim) → claims_differ (option_to_list o ++ map (λ (c : Member). To c.name) (filter (λ c. lists c m.name) ms)) ≡ option_map_or (λ claim. list_any (λ c. lists c m.name && not (same_claim claim (To c.name))) ms) (option_or o (option_map (λ (c : Member). To c.name) (find (λ c. lists c m.name) ms))) false
    by None = listed_differ (λ c. lists c m.name) ms ∙ out (find (λ c. lists c m.name) ms)
    by (Some claim) = any_mapped claim (λ c. lists c m.name) ms
