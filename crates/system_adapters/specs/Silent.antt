-- What an adapter over the real world tells: its faults alone.
use Rattle.std.specs.Prelude.{ℕ, [], None}
use Rattle.host_core.specs.Folders.{FolderView, IsLawfulFolder}
use Rattle.host_core.specs.Streams.{SourceView, SinkView}

abbrev pub silent_source : ℕ → SourceView
silent_source faults = record { inputs = λ name. None; left = []; faults = faults }

abbrev pub silent_sink : ℕ → SinkView
silent_sink faults = record { written = []; faults = faults }

-- and that no stop leaves anything
abbrev pub silent_folder : ℕ → FolderView
silent_folder faults = record {
  files = [];
  stops = record { moment = 0; may_leave = λ s. ⊥; left_since = λ t s. ⊥ };
  left = [];
  faults = faults;
}

pub lawful_silent : (faults : ℕ) → IsLawfulFolder ⊥ (silent_folder faults)
lawful_silent faults = record {
  stops = record { counts_now = λ t s le left. left; only_now = λ s left. left };
  reads = λ tells. absurd tells;
  differ = λ tells. absurd tells;
}
