-- Words and inputs that are refused before any call on the host, from what the reading of the order promises.
use Rattle.std.proofs.Common.{◌≡◌, refl}
use Rattle.std.specs.Prelude.{[], IsSome, None, Result, Err, IsErrOf}
use Rattle.command_words.specs.Words.{lone, command_of}
use Rattle.order_reading.specs.declared.order.Order.{Order as Asked}
use Rattle.order_reading.specs.AsDefined.{as_defined, file_read}
use Rattle.order_reading.specs.Reading.{Reads}
use Rattle.top_model.specs.Orders.{Order, order_of}
use Rattle.top_model.specs.Texts.{error_line}
use Rattle.top_model.specs.Runs.{Run}
use Rattle.top_model.specs.Answered.{GoesOn, Answered}
use Rattle.top_model.specs.declared.report.Cause.{Cause}
use Rattle.top_model.specs.declared.report.Cause.TheVariants.{DocRefused, Usage, BadLine, BatchLine, BatchLarge, NoSuchName, ReadFault, OutOfMemory}
use Rattle.top_model.proofs.lemmas.Wanting.{may_want_words}
use Rattle.answer_text.specs.Speaking.{Spoken}
use Rattle.answer_text.proofs.lemmas.Told.{unread_line, starved_line, told_refused}
use Rattle.command_laws.proofs.lemmas.Untouched.{still, reads_input, out_of_memory, unread, refused}

abbrev Told : Run → Cause → Type 0
Told r c = Spoken r.sinks_tell c [] (error_line c) r.out r.out_after r.err r.err_after r.report

abbrev failed : Cause → Result Asked Cause
failed c = Err c

module _ (r : Run) (untouched : r.untouched) (goes_on : GoesOn (still r)) where
  abbrev order : Result Order Cause
  order = order_of r.in_script r.source.inputs r.words

  -- memory ran out for words that are no single ones
  pub ran_out : lone r.words ≡ None → Told r OutOfMemory → Answered (still r)
  ran_out none told = out_of_memory r untouched goes_on order (r.source.inputs, λ t. refl, refl) (may_want_words r none) (told_refused (still r) order OutOfMemory [] (starved_line _ _ order) told)

  pub refusing : (c : Cause) → Reads as_defined (λ inputs. order_of r.in_script inputs r.words) r.source_tells r.source r.source_after (failed c)
      → (IsErrOf (failed c) ReadFault → IsSome (file_read r.in_script (command_of r.words))) → (IsErrOf (failed c) OutOfMemory → lone r.words ≡ None)
      → Told r c → Answered (still r)
  refusing Usage reads file memory told = refused r untouched goes_on Usage reads refl (record { answer = refl; after = refl }) (told_refused (still r) (Err Usage) Usage [] refl told)
  refusing NoSuchName reads file memory told =
      refused r untouched goes_on NoSuchName reads refl (record { answer = refl; after = refl }) (told_refused (still r) (Err NoSuchName) NoSuchName [] refl told)
  refusing (DocRefused fault) reads file memory told =
      refused r untouched goes_on (DocRefused fault) reads refl (record { answer = refl; after = refl }) (told_refused (still r) (Err (DocRefused fault)) (DocRefused fault) [] refl told)
  refusing (BadLine n) reads file memory told =
      refused r untouched goes_on (BadLine n) reads refl (record { answer = refl; after = refl }) (told_refused (still r) (Err (BadLine n)) (BadLine n) [] refl told)
  refusing (BatchLine n) reads file memory told =
      refused r untouched goes_on (BatchLine n) reads refl (record { answer = refl; after = refl }) (told_refused (still r) (Err (BatchLine n)) (BatchLine n) [] refl told)
  refusing BatchLarge reads file memory told =
      refused r untouched goes_on BatchLarge reads refl (record { answer = refl; after = refl }) (told_refused (still r) (Err BatchLarge) BatchLarge [] refl told)
  refusing ReadFault reads file memory told =
      unread r untouched goes_on order (r.source.inputs, λ t. refl, refl) reads.0 (reads_input r.in_script r.source.inputs (command_of r.words) (file refl)) (reads.1 r.source.inputs)
      (told_refused (still r) order ReadFault [] (unread_line _ _ order) told)
  refusing OutOfMemory reads file memory told = ran_out (memory refl) told
  refusing c reads file memory told = absurd reads
