-- How much of a text is printed.
use Rattle.std.specs.Prelude.{◌≡◌}
use Rattle.host_core.specs.Faults.{Rose}
use Rattle.host_core.specs.Streams.{SinkView, Appends, AppendsSome}
use Rattle.rollout_run.specs.Texts.{Text}
use Rattle.rollout_run.specs.declared.printing.Printed.{Printed}
use Rattle.rollout_run.specs.declared.printing.Printed.TheVariants.{Whole, Cut}

-- all of it, and no count rose
pub record PrintsAll (tells : Type 0) (text : Text) (old new : SinkView) : Type 0 where
  pub all : tells → Appends text old new
  pub steady : new.faults ≡ old.faults

-- the sink's count rose, and no more than a beginning of the text was written
pub record PrintsSome (tells : Type 0) (text : Text) (old new : SinkView) : Type 0 where
  pub some : tells → AppendsSome text old new
  pub rose : Rose old.faults new.faults

-- by what was printed before and what is printed then: once a write failed, nothing is
abbrev pub Prints : Type 0 → Printed → Text → SinkView → SinkView → Printed → Type 0
Prints tells Whole text old new Whole = PrintsAll tells text old new
Prints tells Whole text old new Cut = PrintsSome tells text old new
Prints tells Cut text old new Cut = new ≡ old
Prints tells Cut text old new Whole = ⊥
