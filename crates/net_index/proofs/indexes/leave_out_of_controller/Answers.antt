use Rattle.std.proofs.Common.{◌∙◌, false, ap, sym}
use Rattle.std.specs.Option.{option_map_or}
use Rattle.net_model.specs.Name.{same_bytes}
use Rattle.net_index.specs.InIndex.{listed}
use Rattle.net_model.proofs.lemmas.ListChanges.{leaves_out, none_left_out}
use Rattle.net_lists.proofs.lemmas.LinkLists.{no_port}
use Rattle.net_index.proofs.indexes.leave_out_of_controller.Goals as goal

pub leave_out_name-requires : goal.leave_out_name-requires
leave_out_name-requires c = c.requires.in_order c.in-Some.controller

pub returns-in-Some : goal.returns-in-Some
returns-in-Some c =
    leaves_out c.in-Some.controller c.args.link.now.name (listed c.args.index.now) (listed c.leave_out_name.new.index) c.leave_out_name.ensures
    (λ k off. c.requires.alone k (ap (λ o. option_map_or (λ n. same_bytes n k) o false) c.in-Some.is ∙ off))

pub returns-in-None : goal.returns-in-None
returns-in-None c = λ k. sym (none_left_out c.args.link.now.name (listed c.args.index.now k) (c.requires.alone k (no_port c.args.link.now k c.in-None.is)))
