use Rattle.std.proofs.Common.{List, sym, ap, ◌∙◌}
use Rattle.std.specs.List.{list_any}
use Rattle.route_merge.specs.declared.absent_routes.StatedRoute.{StatedRoute}
use Rattle.route_merge.specs.AbsentRoutes.{alike}
use Rattle.route_merge.proofs.AbsentRoutes.{shape_kept}
use Rattle.route_merge.proofs.absent_routes.push_shape.Goals as goal

pub returns-then-has_shape : goal.returns-then-has_shape
returns-then-has_shape c =
    let stated = c.stated_of-stated.result in
    shape_kept c.args.shapes.now.items c.args.entry.now stated c.stated_of-stated.ensures c.if-not-entry.false
    (sym (c.has_shape.ensures ∙ ap (λ (shapes : List StatedRoute). list_any (λ s. alike s stated) shapes) c.deref.ensures.value) ∙ c.if-has_shape.true)
