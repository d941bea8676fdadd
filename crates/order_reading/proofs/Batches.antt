-- What is made of the bytes of a text of calls.
use Rattle.std.proofs.Common.{◌≡◌, ◌≢◌, List, refl, Result, Ok, Err}
use Rattle.net_model.specs.declared.Call.{Call}
use Rattle.ip_batch.specs.Reader.{batch_of}
use Rattle.ip_batch.specs.Seen.{Answers as BatchAnswers}
use Rattle.ip_batch.specs.declared.BatchFault.{BatchFault}
use Rattle.ip_batch.specs.declared.BatchFault.TheVariants as batch
use Rattle.top_model.specs.Orders.{Text, batch_cause, with_batch, calls_of}
use Rattle.top_model.specs.declared.Cause.TheVariants.{Usage}
use Rattle.order_reading.specs.Reading.{Answers, itself}

read : (r : Result (List Call) BatchFault) (calls : List Call) → r ≡ Ok calls → with_batch r ≡ Ok calls
read r calls is = rw is refl

refused : (r : Result (List Call) BatchFault) (fault : BatchFault) → r ≡ Err fault → with_batch r ≡ Err (batch_cause fault)
refused r fault is = rw is refl

pub calls_read : (bytes : Text) (calls : List Call) → batch_of bytes ≡ Ok calls → calls_of bytes ≡ Ok calls
calls_read bytes calls is = read (batch_of bytes) calls is

pub calls_refused : (bytes : Text) (fault : BatchFault) → BatchAnswers (batch_of bytes) (Err fault) → Answers itself (calls_of bytes) (Err (batch_cause fault))
calls_refused bytes (batch.Line n) is = refused (batch_of bytes) (batch.Line n) is
calls_refused bytes batch.TooLarge is = refused (batch_of bytes) batch.TooLarge is
calls_refused bytes batch.OutOfMemory is = tt

-- words aren't refused here
no_usage : (r : Result (List Call) BatchFault) → with_batch r ≢ Err Usage
no_usage (Ok calls) e = cc
no_usage (Err (batch.Line n)) e = cc
no_usage (Err batch.TooLarge) e = cc
no_usage (Err batch.OutOfMemory) e = cc

pub no_usage_calls : (bytes : Text) → calls_of bytes ≢ Err Usage
no_usage_calls bytes = no_usage (batch_of bytes)
