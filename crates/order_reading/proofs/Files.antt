-- What is made of the bytes of a FILE, and why nothing is.
use Rattle.std.proofs.Common.{◌≡◌, ◌≢◌, ℕ, refl, sym, subst, Result, Ok, Err}
use Rattle.std.specs.Prelude.{Vec}
use Rattle.std.specs.declared.alloc.Global.{Global}
use Rattle.std.proofs.Math.Path.{fun_ext}
use Rattle.host_core.specs.Streams.{SourceView}
use Rattle.top_model.specs.Orders.{Text, Inputs, Order, and_then, tree_of, policy, calls_of, hardware_list, planning, planning_policy, applying, applying_policy}
use Rattle.top_model.specs.declared.Cause.{Cause}
use Rattle.top_model.specs.declared.Cause.TheVariants.{Usage}
use Rattle.order_reading.specs.AsDefined.{as_defined, order_of_file}
use Rattle.order_reading.specs.Pieces.{bytes_seen}
use Rattle.order_reading.specs.Reading.{Answers, Reads}
use Rattle.order_reading.specs.declared.order.Order.{Order as Asked}
use Rattle.order_reading.specs.declared.order.Purpose.{Purpose}
use Rattle.order_reading.specs.declared.order.Purpose.TheVariants as purpose
use Rattle.order_reading.proofs.Batches.{no_usage_calls}
use Rattle.order_reading.proofs.PolicyReadings.{no_usage_either, no_usage_policy, read_next, unread_before}
use Rattle.order_reading.proofs.Readings.{no_usage_hardware, no_usage_then, no_usage_tree}

-- what is asked with these bytes
abbrev next : Purpose → Text → Result Order Cause
next what bytes = order_of_file what (Ok bytes)

unread_is : (what : Purpose) (cause : Cause) → order_of_file what (Err cause) ≡ Err cause
unread_is (purpose.Plan in_batch) cause = refl
unread_is purpose.Evaluate cause = refl
unread_is purpose.Simulate cause = refl
unread_is (purpose.Apply opts) cause = refl
unread_is purpose.Init cause = refl

read_then : (what : Purpose) (bytes : Result Text Cause) → order_of_file what bytes ≡ and_then bytes (next what)
read_then what (Ok bytes) = refl
read_then what (Err cause) = unread_is what cause

-- words aren't refused here
no_usage_file : (what : Purpose) (bytes : Text) → next what bytes ≢ Err Usage
no_usage_file (purpose.Plan in_batch) bytes =
    no_usage_then (tree_of bytes) _ (no_usage_tree bytes) (no_usage_either as_defined (λ p. planning_policy p in_batch) (λ doc. planning doc in_batch))
no_usage_file purpose.Evaluate bytes = no_usage_then (policy bytes) _ (no_usage_policy bytes) (λ p e. cc)
no_usage_file purpose.Simulate bytes = no_usage_then (calls_of bytes) _ (no_usage_calls bytes) (λ calls e. cc)
no_usage_file (purpose.Apply opts) bytes =
    no_usage_then (tree_of bytes) _ (no_usage_tree bytes) (no_usage_either as_defined (λ p. applying_policy p opts) (λ doc. applying doc opts))
no_usage_file purpose.Init bytes = no_usage_then (hardware_list bytes) _ (no_usage_hardware bytes) (λ links e. cc)

module _ (tells : Type 0) (what : Purpose) (first : Inputs → Result Text Cause) (old new : SourceView) where
  along : (result : Result Asked Cause) → Reads as_defined (λ inputs. and_then (first inputs) (next what)) tells old new result
      → Reads as_defined (λ inputs. order_of_file what (first inputs)) tells old new result
  along result h =
      subst (λ (defined : Inputs → Result Order Cause). Reads as_defined defined tells old new result) (fun_ext (λ inputs. sym (read_then what (first inputs)))) h

  -- the FILE wasn't read
  pub file_unread : (cause : Cause) → Reads bytes_seen first tells old new (Err cause) → Reads as_defined (λ inputs. order_of_file what (first inputs)) tells old new (Err cause)
  file_unread cause h = along (Err cause) (unread_before tells bytes_seen as_defined first (next what) old new cause (no_usage_file what) h)

  -- it was, and its bytes were looked at
  pub file_read : (bytes : Vec ℕ Global) (result : Result Asked Cause) → Reads bytes_seen first tells old new (Ok bytes) → Answers as_defined (order_of_file what (Ok bytes.items)) result
      → Reads as_defined (λ inputs. order_of_file what (first inputs)) tells old new result
  file_read bytes result read h = along result (read_next tells bytes_seen as_defined first (next what) old new bytes result read h)
