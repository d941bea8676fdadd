-- The hardware of what was read is right.
use Rattle.std.proofs.Common.{◌≡◌, true, Bool, List}
use Rattle.std.specs.Prelude.{String, Result, Ok, Err, map, string_bytes, IfOk}
use Rattle.std.specs.declared.alloc.Global.{Global}
use Rattle.host_core.specs.Streams.{SourceView}
use Rattle.top_model.specs.Orders.{order_of}
use Rattle.top_model.specs.declared.report.Cause.{Cause}
use Rattle.order_reading.specs.declared.order.Order.{Order}
use Rattle.order_reading.specs.AsDefined.{as_defined}
use Rattle.order_reading.specs.Reading.{Reads}
use Rattle.command_laws.specs.First.{has_hardware}
use Rattle.command_laws.proofs.lemmas.Hardware.{hardware_right}

pub read_right : (in_script : Bool) (words : List (String Global)) (tells : Type 0) (old new : SourceView) (read : Result Order Cause)
    → Reads as_defined (λ inputs. order_of in_script inputs (map string_bytes words)) tells old new read → IfOk read (λ order. has_hardware order ≡ true)
read_right in_script words tells old new (Ok order) e = hardware_right in_script e.0 (map string_bytes words) order e.2
read_right in_script words tells old new (Err cause) e = tt
