-- What the files of a folder tell: nothing.
use Rattle.std.specs.Prelude.{[]}
use Rattle.file_disk.specs.Raw.{RawView, IsLawfulRaw}

abbrev pub silent : RawView
silent = record {
  areas = record { kernel = []; cell = [] };
  stops = record { moment = 0; may_leave = λ s. ⊥; left_since = λ t s. ⊥ };
}

pub lawful_silent : IsLawfulRaw ⊥ silent
lawful_silent = record {
  stops = record { counts_now = λ t s le left. left; only_now = λ s left. left };
  reads = λ tells. absurd tells;
}
