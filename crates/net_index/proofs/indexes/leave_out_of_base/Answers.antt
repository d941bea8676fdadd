use Rattle.std.proofs.Common.{◌∙◌, ap, sym}
use Rattle.net_model.specs.Dependence.{has_base}
use Rattle.net_model.specs.declared.link.Kind.{Kind}
use Rattle.net_index.specs.InIndex.{listed}
use Rattle.net_model.proofs.lemmas.ListChanges.{leaves_out, none_left_out}
use Rattle.net_lists.proofs.lemmas.LinkLists.{no_base}
use Rattle.net_index.proofs.indexes.leave_out_of_base.Goals as goal

pub leave_out_name-requires : goal.leave_out_name-requires
leave_out_name-requires c = c.requires.in_order c.in-Vlan.base

pub returns-in-Vlan : goal.returns-in-Vlan
returns-in-Vlan c =
    leaves_out c.in-Vlan.base c.args.link.now.name (listed c.args.index.now) (listed c.leave_out_name.new.index) c.leave_out_name.ensures
    (λ k off. c.requires.alone k (ap (λ (kind : Kind). has_base kind k) c.in-Vlan.is ∙ off))

pub returns-in_default : goal.returns-in_default
returns-in_default c = λ k. sym (none_left_out c.args.link.now.name (listed c.args.index.now k) (c.requires.alone k (no_base c.args.link.now.kind c.in_default.not-Vlan k)))
