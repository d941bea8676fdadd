use Rattle.std.proofs.Common.{List, sym, ap, ◌∙◌}
use Rattle.std.specs.List.{list_any}
use Rattle.route_merge.specs.Connected.{Connected, alike}
use Rattle.route_merge.proofs.ConnectedSubnets.{length_kept}
use Rattle.route_merge.proofs.connected.push_length.Goals as goal

pub returns-then-has_length : goal.returns-then-has_length
returns-then-has_length c =
    length_kept c.args.lengths.now.items c.args.subnet.now
    (sym (c.has_length.ensures ∙ ap (λ (lengths : List Connected). list_any (λ s. alike s c.args.subnet.now) lengths) c.deref.ensures.value) ∙ c.if-has_length.true)
