-- A port that is detached where one link alone may have it as its primary.
use Rattle.std.proofs.Common.{◌≡◌, ℕ, Bool, true, false, not, ◌||◌, List, [], ◌∷◌, map, Option, Some, None, refl, sym, ap, ◌∙◌}
use Rattle.std.specs.Prelude.{if◌then◌else◌}
use Rattle.std.specs.List.{list_all}
use Rattle.std.specs.Option.{option_map_or}
use Rattle.net_model.specs.Name.{same_bytes}
use Rattle.net_model.specs.Words.{rises}
use Rattle.net_model.specs.Order.{link_cmp}
use Rattle.net_model.specs.Links.{is_named}
use Rattle.net_model.specs.Edits.{changed, edit_link, let_go, detached, unless_gone, has_primary, is_free_but_for}
use Rattle.net_model.specs.declared.link.Link.{Link}
use Rattle.net_model.proofs.lemmas.Truth.{and_left, and_right}
use Rattle.net_model.proofs.lemmas.Maps.{rises_map}

module _ (port : List ℕ) where
  abbrev d : Link → Link
  d = detached port

  named : (l : Link) → (d l).name ≡ l.name
  named l = elim (is_named port l) as (λ v. (if v then let_go l else l).name ≡ l.name) [ true ↦ refl | false ↦ refl ]

  change_named : (name : List ℕ) (l : Link) → (changed name d l).name ≡ l.name
  change_named name l = elim (is_named name l) as (λ v. (if v then d l else l).name ≡ l.name) [ true ↦ named l | false ↦ refl ]

  -- links stay sorted
  pub rises_at : (name : List ℕ) (links : List Link) → rises link_cmp links ≡ true → rises link_cmp (edit_link name d links) ≡ true
  rises_at name links up = rises_map (changed name d) (change_named name) links ∙ up

  gone_twice : (o : Option (List ℕ)) → unless_gone (λ n. same_bytes n port) (unless_gone (λ n. same_bytes n port) o) ≡ unless_gone (λ n. same_bytes n port) o
  gone_twice None = refl
  gone_twice (Some n) = elim (same_bytes n port) as (λ v. same_bytes n port ≡ v → unless_gone (λ n. same_bytes n port) (if v then None else Some n) ≡ (if v then None else Some n)) [
    | true ↦ λ e. refl
    | false ↦ λ e. rw e refl
  ] refl

  gone_none : (o : Option (List ℕ)) → option_map_or (λ n. same_bytes n port) o false ≡ false → unless_gone (λ n. same_bytes n port) o ≡ o
  gone_none None h = refl
  gone_none (Some n) h = rw h refl

  -- a link that was detached is
  twice : (l : Link) → d (d l) ≡ d l
  twice l = elim (is_named port l) as (λ v. is_named port l ≡ v → d (d l) ≡ d l) [
    | true ↦ λ e. rw (e, e, gone_twice l.bond.primary) refl
    | false ↦ λ e. rw (e, e, gone_twice l.bond.primary) refl
  ] refl

  -- another without the port as its primary stays
  stays : (l : Link) → is_named port l ≡ false → has_primary port l ≡ false → d l ≡ l
  stays l off free = rw (off, gone_none l.bond.primary free) refl

  module _ (controller : List ℕ) where
    one : (l : Link) → is_free_but_for port controller l ≡ true → changed port d (changed controller d l) ≡ d l
    one l free = elim (is_named controller l) as (λ v. is_named controller l ≡ v → changed port d (if v then d l else l) ≡ d l) [
      | true ↦ λ e. elim (is_named port (d l)) as (λ w. (if w then d (d l) else d l) ≡ d l) [ true ↦ twice l | false ↦ refl ]
      | false ↦ λ e. elim (is_named port l) as (λ w. is_named port l ≡ w → (if w then d l else l) ≡ d l) [
        | true ↦ λ p. refl
        | false ↦ λ p. sym (stays l p (free_of p e))
      ] refl
    ] refl
      where
        negated : (b : Bool) → not b ≡ true → b ≡ false
        negated true h = sym h
        negated false h = refl

        free_of : is_named port l ≡ false → is_named controller l ≡ false → has_primary port l ≡ false
        free_of p e = negated (has_primary port l) (sym (ap (λ b. b || is_named controller l || not (has_primary port l)) p ∙ ap (λ b. b || not (has_primary port l)) e) ∙ free)

    -- both written on are all
    pub both_detached : (links : List Link) → list_all (is_free_but_for port controller) links ≡ true → edit_link port d (edit_link controller d links) ≡ map d links
    both_detached [] h = refl
    both_detached (l ∷ ls) h =
        ap (λ (x : Link). x ∷ edit_link port d (edit_link controller d ls)) (one l (and_left (is_free_but_for port controller l) (list_all (is_free_but_for port controller) ls) h))
        ∙ ap (λ (rest : List Link). d l ∷ rest) (both_detached ls (and_right (is_free_but_for port controller l) (list_all (is_free_but_for port controller) ls) h))
