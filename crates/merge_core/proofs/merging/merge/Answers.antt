use Rattle.merge_core.proofs.Answering.{merged_is, hardware_is, refused_is}
use Rattle.merge_core.proofs.merging.merge.Goals as goal

pub returns-clause-merged : goal.returns-clause-merged
returns-clause-merged c = merged_is c.args.net.now c.args.doc.now c.merge_all.result c.merge_all.ensures

pub returns-clause-hardware : goal.returns-clause-hardware
returns-clause-hardware c = hardware_is c.args.net.now c.args.doc.now c.laws.ensures.net c.requires c.merge_laws.ensures.hardware c.merge_all.result c.merge_all.ensures

pub returns-clause-refused : goal.returns-clause-refused
returns-clause-refused c = λ r is. refused_is c.args.net.now c.args.doc.now r c.merge_all.result is c.merge_all.ensures
