-- What holds of the value where one step of reading an order follows another.
use Rattle.std.specs.Prelude.{Result, Ok, Err, IfOk}
use Rattle.top_model.specs.Orders.{and_then, with_fault}
use Rattle.top_model.specs.declared.report.Cause.{Cause}
use Rattle.top_model.specs.declared.report.DocFault.{DocFault}

module _ {A B : Type 0} (P : B → Type 0) where
  -- of what is made next of any value
  pub if_ok : (r : Result A Cause) (next : A → Result B Cause) → ((x : A) → IfOk (next x) P) → IfOk (and_then r next) P
  if_ok (Ok x) next goes = goes x
  if_ok (Err cause) next goes = tt

  -- of what is made next of a value of which something else holds
  pub if_right : (Q : A → Type 0) (r : Result A Cause) (next : A → Result B Cause) → IfOk r Q → ((x : A) → Q x → IfOk (next x) P) → IfOk (and_then r next) P
  if_right Q (Ok x) next right goes = goes x right
  if_right Q (Err cause) next right goes = tt

-- whatever a refusal is called
pub if_fault : {B E : Type 0} (P : B → Type 0) (fault : E → DocFault) (r : Result B E) → IfOk r P → IfOk (with_fault fault r) P
if_fault P fault (Ok x) p = p
if_fault P fault (Err e) p = tt
