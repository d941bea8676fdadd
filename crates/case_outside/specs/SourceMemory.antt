-- What a source in memory tells.
use Rattle.std.specs.Prelude.{drop}
use Rattle.host_core.specs.Streams.{SourceView}
use Rattle.host_memory.specs.Fused.{HasNoFuse}
use Rattle.case_outside.specs.Inputs.{input_named}
use Rattle.case_outside.specs.declared.source.MemorySource.{MemorySource}

abbrev pub source_told : MemorySource → SourceView
source_told s = record { inputs = input_named s.inputs.items; left = drop s.from s.started.items; faults = s.faults }

-- no call of the source is to fail
abbrev pub IsUnfused : MemorySource → Type 0
IsUnfused s = HasNoFuse s.fuses
