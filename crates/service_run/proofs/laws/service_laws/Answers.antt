use Rattle.service_run.proofs.Restarts.{enters_at, came_stage}
use Rattle.service_run.proofs.laws.service_laws.Goals as goal

pub returns : goal.returns
returns g c =
    let lawful = g.met.H.Host.lawful in
    let told = g.met.H.Host.honest_tells in
    record {
      enters = λ first all old new report service honest tells came.
          enters_at g.H.Host g.F.Folder g.S.Source g.W.Sink g.C.Clock lawful honest (told honest) tells first all old new report service.course
          (came_stage g.H.Host g.F.Folder g.S.Source g.W.Sink g.C.Clock lawful honest (told honest) tells first all old.host old.folder came);
      folds = λ first all old new report service honest tells came done.
          service.promises.folds first all
          (enters_at g.H.Host g.F.Folder g.S.Source g.W.Sink g.C.Clock lawful honest (told honest) tells first all old new report service.course
          (came_stage g.H.Host g.F.Folder g.S.Source g.W.Sink g.C.Clock lawful honest (told honest) tells first all old.host old.folder came)) done;
    }
