-- What was read of the words.
use Rattle.std.specs.Prelude.{◌≡◌, Bool, List, String, Result, None, map, string_bytes, IsErrOf, IsSome}
use Rattle.std.specs.declared.alloc.Global.{Global}
use Rattle.host_core.specs.declared.Source.{Ghosts as SourceGhosts}
use Rattle.command_words.specs.Words.{lone, command_of}
use Rattle.top_model.specs.Orders.{order_of}
use Rattle.top_model.specs.declared.Cause.{Cause}
use Rattle.top_model.specs.declared.Cause.TheVariants.{ReadFault, OutOfMemory}
use Rattle.order_reading.specs.declared.order.Order.{Order}
use Rattle.order_reading.specs.AsDefined.{as_defined, file_read, TakesFile}
use Rattle.order_reading.specs.Reading.{Reads, GoesOn}

-- this order, or this refusal, was read of the words from a source that was so before and after
pub record WasRead {X : Type 0} (S : SourceGhosts X) (words : List (String Global)) (in_script : Bool) (src after : X) (read : Result Order Cause) : Type 0 where
  pub order : Reads as_defined (λ inputs. order_of in_script inputs (map string_bytes words)) S.tells (S.told src) (S.told after) read
  pub source : GoesOn S.tells (S.told src) (S.told after)
  pub taken : TakesFile (after ≡ src) S.tells (S.told src) (S.told after) (file_read in_script (command_of (map string_bytes words))) read
  pub fault : IsErrOf read ReadFault → IsSome (file_read in_script (command_of (map string_bytes words)))
  pub memory : IsErrOf read OutOfMemory → lone (map string_bytes words) ≡ None
