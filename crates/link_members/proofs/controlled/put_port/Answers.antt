use Rattle.std.proofs.Common.{◌∷◌, ◌++◌, [], ap, ◌∙◌}
use Rattle.std.specs.Option.{unwrap_or}
use Rattle.std.specs.BTreeMap.{get}
use Rattle.net_model.specs.Order.{name_cmp}
use Rattle.link_members.proofs.PutLast.{put_last}
use Rattle.link_members.proofs.controlled.put_port.Goals as goal

pub returns : goal.returns
returns c =
    put_last (get name_cmp c.args.ports.now) (get name_cmp c.remove-taken.new.self) (get name_cmp c.insert.new.self) c.args.controller c.args.port c.of.result
    (c.of.ensures ∙ c.in_ok-push.ensures.items ∙ ap (λ names. names ++ c.args.port ∷ []) (c.items_or_empty-names.ensures ∙ ap (λ o. unwrap_or o []) c.remove-taken.ensures.value))
    c.remove-taken.ensures.updates.0
    c.in_ok-insert.ensures.updates.0
