use Rattle.std.proofs.Common.{◌≡◌, true, take, drop}
use Rattle.boot_service.specs.Stops.{pending}
use Rattle.service_run.specs.Course.{world, Went}
use Rattle.service_run.specs.Services.{names_of}
use Rattle.service_run.proofs.service.serve_names.Given as goal

-- the names that are left are those of the pending files, and the documents so far went on
abbrev pub invariant-loop-name : goal.invariant-loop-name
invariant-loop-name g l = record {
  left : g.F.Folder.tells → names_of (pending (g.F.Folder.told l.folder).files) ≡ drop l.name-index l.names;
  went : Went g.H.Host g.F.Folder g.W.Sink g.C.Clock (take l.name-index l.names) (world l.initial.host l.initial.folder l.initial.out l.initial.err l.initial.clock true) (world l.host l.folder l.out l.err l.clock l.is_open);
}
