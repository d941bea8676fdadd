use Rattle.doc_tree.specs.Shape.{shape}
use Rattle.link_schema.proofs.Few.{few_read, few_short}
use Rattle.link_schema.proofs.hardware.hardware_of.Goals as goal

pub returns-in-Ok-clause-few : goal.returns-in-Ok-clause-few
returns-in-Ok-clause-few c = rw c.of.ensures (few_read c.new-reader.result c.read_hardware.new.reader (shape c.args.tree.now) c.in-Ok.links.items c.in-Ok.ensures)

pub returns-in-Ok-clause-short : goal.returns-in-Ok-clause-short
returns-in-Ok-clause-short c =
    rw c.of.ensures (few_short c.in-Ok.links.items (few_read c.new-reader.result c.read_hardware.new.reader (shape c.args.tree.now) c.in-Ok.links.items c.in-Ok.ensures))
