use Rattle.addr_text.proofs.Runs.{run_within}
use Rattle.addr_text.proofs.write.push_compressed.Goals as goal

pub push_shortened-requires : goal.push_shortened-requires
push_shortened-requires c = rw c.first_run.ensures.value (run_within c.args.fields.now c.longest-count.result c.longest-count.ensures)
