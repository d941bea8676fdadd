use Rattle.std.proofs.Common.{ℕ, nat_le, List, [], get_or, ap, ◌∙◌}
use Rattle.std.specs.List.{list_all}
use Rattle.reach.proofs.lemmas.Marks.{any_default}
use Rattle.link_rules.proofs.dependence.stays.Goals as goal

pub returns : goal.returns
returns c =
    let row = c.index-arrows-at.result in
    let ns = c.args.numbers.now in
    c.all_at_most.ensures ∙ ap (λ n. list_all (λ t. nat_le (get_or ns t 0) n) row) c.number_at-here.ensures
    ∙ ap (λ (r : List ℕ). list_all (λ t. nat_le (get_or ns t 0) (get_or ns c.args.at 0)) r) (c.index-arrows-at.is ∙ any_default c.args.arrows.now c.args.at row [] c.requires)
