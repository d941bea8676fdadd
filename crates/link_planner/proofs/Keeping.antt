-- When a link is kept.
use Rattle.std.proofs.Common.{◌≡◌, ℕ, false, List, Option, Some, None, refl, sym, ap, ◌∙◌}
use Rattle.std.specs.Option.{option_map_or}
use Rattle.net_model.specs.Links.{find_link}
use Rattle.net_model.specs.NetData.{NetData, IsNet}
use Rattle.net_model.specs.declared.link.Link.{Link}
use Rattle.net_model.proofs.lemmas.Found.{named_passes_found}
use Rattle.plan_model.specs.Kinds.{same_kind, has_kind}
use Rattle.link_planner.specs.Kept.{is_kept}

module _ (start target : NetData) (is : IsNet start) (good : IsNet target) (name : List ℕ) where
  by_start : is_kept start target name ≡ option_map_or (λ l. has_kind target.links name l.kind) (find_link name start.links) false
  by_start = named_passes_found (λ l. has_kind target.links name l.kind) start.links name is.in_order.links

  by_target : (l : Link) → has_kind target.links name l.kind ≡ option_map_or (λ t. same_kind t.kind l.kind) (find_link name target.links) false
  by_target l = named_passes_found (λ t. same_kind t.kind l.kind) target.links name good.in_order.links

  -- a link of both is kept where the kinds are the same
  pub kept_both : (l t : Link) → find_link name start.links ≡ Some l → find_link name target.links ≡ Some t → is_kept start target name ≡ same_kind t.kind l.kind
  kept_both l t here there = by_start ∙ ap (λ o. option_map_or (λ (k : Link). has_kind target.links name k.kind) o false) here ∙ by_target l ∙ ap (λ o. option_map_or (λ (k : Link). same_kind k.kind l.kind) o false) there

  -- what isn't at the start isn't kept
  pub kept_started : find_link name start.links ≡ None → is_kept start target name ≡ false
  kept_started none = by_start ∙ ap (λ o. option_map_or (λ (k : Link). has_kind target.links name k.kind) o false) none

  -- what isn't in target isn't kept
  pub kept_targeted : find_link name target.links ≡ None → is_kept start target name ≡ false
  kept_targeted none = by_start ∙ of (find_link name start.links)
    where
      of : (o : Option Link) → option_map_or (λ l. has_kind target.links name l.kind) o false ≡ false
      of None = refl
      of (Some l) = by_target l ∙ ap (λ o. option_map_or (λ (k : Link). same_kind k.kind l.kind) o false) none

  -- what isn't kept target hasn't with its kind
  pub not_kept : (l : Link) → find_link name start.links ≡ Some l → is_kept start target name ≡ false → has_kind target.links name l.kind ≡ false
  not_kept l here h = ap (λ o. option_map_or (λ (k : Link). has_kind target.links name k.kind) o false) (sym here) ∙ sym by_start ∙ h
