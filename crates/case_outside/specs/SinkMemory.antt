-- What a sink in memory tells.
use Rattle.host_core.specs.Streams.{SinkView}
use Rattle.case_outside.specs.declared.sink.MemorySink.{MemorySink}

abbrev pub sink_told : MemorySink → SinkView
sink_told s = record { written = s.bytes.items; faults = s.faults }
