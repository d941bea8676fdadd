use Rattle.std.proofs.Common.{◌∙◌, ℕ, ◌<◌, ◌≤◌, ◌⊎◌, inl, inr, List, sym, ap, arith}
use Rattle.std.specs.Ordering.{is_eq}
use Rattle.std.specs.Cmp.Lexicographic.{texts_ties}
use Rattle.std.proofs.lemmas.Cmp.{nat_list_cmp_total}
use Rattle.std.proofs.lemmas.List.Sorted.{searchable_from_sorted}
use Rattle.net_model.specs.Name.{same_bytes}
use Rattle.net_model.specs.Order.{name_cmp}
use Rattle.net_model.proofs.lemmas.Rises.{sorted-rises}
use Rattle.net_model.proofs.lemmas.Places.{any_at, none_at}
use Rattle.net_edits.proofs.link_edits.is_among.Goals as goal

below_or_above : (k i : ℕ) → (k < i) ⊎ (i ≤ k)
below_or_above k i = grind arith

pub returns-in-Ok : goal.returns-in-Ok
returns-in-Ok c =
    let name : List ℕ = c.args.name.now in
    sym (any_at (λ n. same_bytes n name) c.args.names.now c.in-Ok.field-0 name c.in-Ok.ensures.bound (texts_ties _ name ∙ ap is_eq (c.in-Ok.ensures.position name)))

pub returns-in-Err : goal.returns-in-Err
returns-in-Err c =
    let name : List ℕ = c.args.name.now in
    let parted = c.in-Err.ensures.position (searchable_from_sorted nat_list_cmp_total (λ (n : List ℕ). n) c.args.names.now name (sorted-rises name_cmp nat_list_cmp_total c.args.names.now c.requires)) in
    sym (none_at (λ n. same_bytes n name) c.args.names.now (λ k d lt. texts_ties _ name ∙ elim (below_or_above k c.in-Err.field-0) [
      | inl low ↦ ap is_eq (parted.0 k d (omega (arith, c.in-Err.ensures.bound)) low)
      | inr high ↦ ap is_eq (parted.1 k d high lt)
    ]))
