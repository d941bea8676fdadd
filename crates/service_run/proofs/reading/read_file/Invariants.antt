use Rattle.std.proofs.Common.{◌-◌, vec_len}
use Rattle.top_model.specs.Orders.{read_limit}
use Rattle.service_run.specs.Reading.{Reading}
use Rattle.service_run.proofs.reading.read_file.Given as goal

-- the bytes so far
abbrev pub invariant-loop-bytes : goal.invariant-loop-bytes
invariant-loop-bytes g l = Reading g.F.Folder.tells (g.F.Folder.told l.initial.folder) (g.F.Folder.told l.folder) l.bytes.items

abbrev pub decreases-loop-bytes : goal.decreases-loop-bytes
decreases-loop-bytes g l = read_limit - vec_len l.bytes
