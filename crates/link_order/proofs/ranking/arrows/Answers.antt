use Rattle.std.proofs.Common.{◌≡◌, ℕ, [], length, replicate, ap, rules, ◌∙◌}
use Rattle.merge_model.specs.Members.{goes_with}
use Rattle.link_order.proofs.lemmas.Rows.{rows_none}
use Rattle.link_order.proofs.ranking.arrows.Goals as goal

pub loop-at-init : goal.loop-at-init
loop-at-init c =
    let count : c.len.result ≡ length c.args.net.now.links = search rules in
    c.in_ok-arrows.ensures ∙ ap (λ (n : ℕ). replicate n []) count ∙ rows_none (goes_with c.args.entries.now) c.args.net.now.links
