use Rattle.std.proofs.Common.{sym}
use Rattle.std.specs.BTreeMap.{get}
use Rattle.net_model.specs.Order.{name_cmp}
use Rattle.link_order.proofs.lemmas.Positions.{noted_new}
use Rattle.link_order.proofs.index.note.Goals as goal

pub returns-in_ok-insert-in-None : goal.returns-in_ok-insert-in-None
returns-in_ok-insert-in-None c =
    noted_new (get name_cmp c.args.places.now) (get name_cmp c.insert.new.self) c.args.name c.args.at (sym c.in-None.ensures) c.in_ok-insert-in-None.ensures.updates.0
