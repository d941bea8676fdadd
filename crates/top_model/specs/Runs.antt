-- A run of a command: what was asked, what it reached before and after, and the report.
use Rattle.std.specs.Prelude.{◌≡◌, ◌⊎◌, ℕ, Bool, List, map, String, string_bytes, Result}
use Rattle.std.specs.declared.alloc.Global.{Global}
use Rattle.net_model.specs.NetData.{NetData}
use Rattle.document_model.specs.declared.Doc.{Doc}
use Rattle.host_core.specs.Faults.{Rose, RoseTwice}
use Rattle.host_core.specs.Streams.{SourceView, SinkView}
use Rattle.host_core.specs.declared.Source.{Ghosts as SourceGhosts}
use Rattle.host_core.specs.declared.Sink.{Ghosts as SinkGhosts}
use Rattle.host_core.specs.HostView.{HostView}
use Rattle.host_core.specs.declared.Host.{Ghosts as HostGhosts}
use Rattle.checkpoint_cell.specs.Settled.{Standing, standing}
use Rattle.engine_model.specs.Sound.{Sound}
use Rattle.engine_model.specs.Stations.{Entry, Stands, entry_of, left_by}
use Rattle.engine_model.specs.declared.ApplyOpts.{ApplyOpts}
use Rattle.top_model.specs.Orders.{Text, Inputs, Order, order_of, AppliesTo}
use Rattle.top_model.specs.declared.report.Report.{Report}
use Rattle.top_model.specs.declared.report.Cause.{Cause}
use Rattle.top_model.specs.declared.report.Cause.TheVariants.{Done, WriteFault}

pub record Run : Type 1 where
  pub words : List Text
  -- the words are those of a step of a script
  pub in_script : Bool
  pub now : ℕ
  -- the host is honest, and it, the source and the sinks tell their content
  pub honest : Type 0
  pub host_tells : Type 0
  pub source_tells : Type 0
  pub sinks_tell : Type 0
  pub host : HostView
  pub host_after : HostView
  pub source : SourceView
  pub source_after : SourceView
  pub out : SinkView
  pub out_after : SinkView
  pub err : SinkView
  pub err_after : SinkView
  -- the host is the very same
  pub untouched : Type 0
  pub report : Report

-- what the report and the objects before and after a call tell
abbrev pub run_of : {H S W : Type 0} → HostGhosts H → SourceGhosts S → SinkGhosts W → List (String Global) → Bool → ℕ → H → H → S → S → W → W → W → W → Report → Run
run_of H S W words in_script now host host_after source source_after out out_after err err_after report = record {
  words = map string_bytes words;
  in_script = in_script;
  now = now;
  honest = H.honest;
  host_tells = H.tells;
  source_tells = S.tells;
  sinks_tell = W.tells;
  host = H.told host;
  host_after = H.told host_after;
  source = S.told source;
  source_after = S.told source_after;
  out = W.told out;
  out_after = W.told out_after;
  err = W.told err;
  err_after = W.told err_after;
  untouched = host_after ≡ host;
  report = report;
}

-- ---- what the host reads as, and what a stop may leave

abbrev pub reads : Run → Standing
reads r = standing r.host.state

abbrev pub reads_after : Run → Standing
reads_after r = standing r.host_after.state

abbrev pub entry : Run → Entry
entry r = entry_of r.host

abbrev pub left_at_exit : Run → Stands
left_at_exit r = left_by r.host_after

-- while nobody else changes the network, and nothing was left from which a recovery doesn't lead back
pub record Alone (r : Run) : Type 0 where
  pub honest : r.honest
  pub sound : Sound r.host

-- ---- faults

abbrev pub HostRose : Run → Type 0
HostRose r = Rose r.host.faults r.host_after.faults

abbrev pub HostRoseTwice : Run → Type 0
HostRoseTwice r = RoseTwice r.host.faults r.host_after.faults

abbrev pub SourceRose : Run → Type 0
SourceRose r = Rose r.source.faults r.source_after.faults

abbrev pub SinkRose : Run → Type 0
SinkRose r = Rose r.out.faults r.out_after.faults ⊎ Rose r.err.faults r.err_after.faults

-- neither the host's count rose nor the source's; and of no sink
pub record Quiet (r : Run) : Type 0 where
  pub host : HostRose r → ⊥
  pub source : SourceRose r → ⊥

-- ---- the report

-- the command was done; a sink that failed afterwards doesn't undo it
abbrev pub Acknowledged : Run → Type 0
Acknowledged r = (r.report.cause ≡ Done) ⊎ (r.report.cause ≡ WriteFault 0)

-- ---- what was asked

-- these are the source's inputs, where it tells them
abbrev pub MayRead : Run → Inputs → Type 0
MayRead r inputs = r.source_tells → inputs ≡ r.source.inputs

-- for some inputs that the source may have the words give this; and for all
abbrev pub Gives : Run → Result Order Cause → Type 0
Gives r order = (inputs : Inputs) × MayRead r inputs × (order_of r.in_script inputs r.words ≡ order)

abbrev pub Asks : Run → Result Order Cause → Type 0
Asks r order = (inputs : Inputs) → MayRead r inputs → order_of r.in_script inputs r.words ≡ order

-- an apply of this document to the network, which its policy may be there
abbrev pub AsksApply : Run → Doc → ApplyOpts → NetData → Type 0
AsksApply r doc opts net = (order : Result Order Cause) × AppliesTo net order doc opts × Asks r order
