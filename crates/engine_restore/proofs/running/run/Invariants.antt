use Rattle.std.proofs.Common.{◌≡◌, ◌⊎◌, ◌≤◌, None, Some, drop, take}
use Rattle.net_model.specs.NetData.{NetData}
use Rattle.kernel_model.specs.Runs.{Runs}
use Rattle.host_core.specs.Stops.{Steps}
use Rattle.host_core.specs.HostView.{SameCell, NoneRefused}
use Rattle.engine_model.specs.Stations.{RunStep, FrontStep}
use Rattle.engine_restore.proofs.running.run.Given as goal

abbrev pub invariant-loop-i : goal.invariant-loop-i
invariant-loop-i g l = record {
  settled : (g.H.Host.told l.host).settled;
  net : g.H.Host.honest → (from to : NetData) → (g.H.Host.told l.fn.host).state.net ≡ Some from → Runs l.calls from to
      → (mid : NetData) × ((g.H.Host.told l.host).state.net ≡ Some mid) × Runs (drop l.i l.calls) mid to × Runs (take l.i l.calls) from mid;
  fronts : g.H.Host.honest → (from to : NetData) → (g.H.Host.told l.fn.host).state.net ≡ Some from → Runs l.calls from to
      → Steps (FrontStep l.calls from) (g.H.Host.told l.fn.host).stops (g.H.Host.told l.host).stops;
  cell : g.H.Host.tells → SameCell (g.H.Host.told l.fn.host).state (g.H.Host.told l.host).state;
  stops_cell : Steps SameCell (g.H.Host.told l.fn.host).stops (g.H.Host.told l.host).stops;
  stops : g.H.Host.honest → Steps RunStep (g.H.Host.told l.fn.host).stops (g.H.Host.told l.host).stops;
  quiet : NoneRefused (g.H.Host.told l.fn.host).kernel (g.H.Host.told l.host).kernel;
  calls : (g.H.Host.told l.fn.host).kernel.calls ≡ 0 → (g.H.Host.told l.host).kernel.calls ≡ l.i;
  fresh : g.H.Host.tells → ((g.H.Host.told l.host).fresh ≡ (g.H.Host.told l.fn.host).fresh) ⊎ ((g.H.Host.told l.host).fresh ≡ None);
  idle : g.H.Host.tells → l.i ≡ 0 → (g.H.Host.told l.host).fresh ≡ (g.H.Host.told l.fn.host).fresh;
  later : (g.H.Host.told l.fn.host).faults ≤ (g.H.Host.told l.host).faults;
}
