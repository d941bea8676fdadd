-- How one text is written to one sink, in one write or in several.
use Rattle.std.specs.Prelude.{◌≡◌, ⊤, Result, OnOk}
use Rattle.host_core.specs.Faults.{HasCause}
use Rattle.host_core.specs.Streams.{SinkView, Appends, AppendsSome}
use Rattle.host_core.specs.declared.Failed.{Failed}
use Rattle.top_model.specs.Orders.{Text}

-- the text was appended, or at a fault a beginning of it; the count of faults rises at a fault alone
pub record Writes (tells : Type 0) (text : Text) (old new : SinkView) (result : Result ⊤ Failed) : Type 0 where
  pub all : tells → OnOk result (Appends text old new)
  pub some : tells → AppendsSome text old new
  pub steady : OnOk result (new.faults ≡ old.faults)
  pub cause : HasCause old.faults new.faults result
