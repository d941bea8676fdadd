-- What was read of an input, and the inputs that a source may have then.
use Rattle.std.proofs.Common.{◌≡◌, ◌≢◌, ◌≤◌, ◌<◌, ◌++◌, ◌&&◌, ◌∙◌, inl, inr, ℕ, [], Bool, true, false, length, refl, sym, ap, arith, Option, Some, None, Result, Ok, Err}
use Rattle.std.specs.Prelude.{if◌then◌else◌, is_none, unwrap_or, Vec}
use Rattle.std.specs.declared.alloc.Global.{Global}
use Rattle.std.specs.Str.{bytes_eq}
use Rattle.std.proofs.Math.Path.{fun_ext}
use Rattle.std.proofs.Math.Seq.{take-append_seam}
use Rattle.std.proofs.lemmas.Bool.{cases_Bool, cases_lt}
use Rattle.std.proofs.lemmas.List.{take_all, append-nil}
use Rattle.std.proofs.lemmas.Slice.Eq.{bytes_eq-Decides}
use Rattle.host_core.specs.Streams.{SourceView}
use Rattle.top_model.specs.Orders.{Text, Inputs, found, input, read_limit, stdin}
use Rattle.top_model.specs.declared.Cause.{Cause}
use Rattle.top_model.specs.declared.Cause.TheVariants.{DocRefused, Usage, BadLine, BatchLine, BatchLarge, NoSuchName, ReadFault, OutOfMemory}
use Rattle.order_reading.specs.Reading.{Gives, GoesOn, Reads, Takes}
use Rattle.order_reading.specs.Pieces.{Front, ReadsPiece, ReadsName, bytes_seen}

-- ---- the loop

-- the bytes were read since the source stood at `old`
pub record Reading (tells : Type 0) (old new : SourceView) (bytes : Text) : Type 0 where
  pub source : GoesOn tells old new
  pub within : length bytes ≤ read_limit
  pub told : tells → bytes ++ new.left ≡ old.left

-- the one after the other
pub goes_on : (tells : Type 0) (old now new : SourceView) → GoesOn tells old now → GoesOn tells now new → GoesOn tells old new
goes_on tells old now new first next = record {
  later = let a : old.faults ≤ now.faults = first.later in let b : now.faults ≤ new.faults = next.later in omega arith;
  inputs = λ told. next.inputs told ∙ first.inputs told;
}

-- one piece more was read
pub read_on : (tells : Type 0) (old now new : SourceView) (had bytes : Text) (more : Bool) → Reading tells old now had
    → ReadsPiece tells had bytes now new (Ok more) → Reading tells old new bytes
read_on tells old now new had bytes more read piece = record {
  source = goes_on tells old now new read.source piece.source;
  within = piece.outcome.within;
  told = λ told. piece.outcome.joined told ∙ read.told told;
}

-- the loop ended: at the limit, or at the input's end
pub front_read : (tells : Type 0) (name : Text) (first old new : SourceView) (bytes : Text)
    → (tells → first.inputs name ≡ Some old.left) → Reading tells old new bytes → (length bytes < read_limit → tells → new.left ≡ [])
    → Front tells name first new bytes
front_read tells name first old new bytes started read ended = record {
  within = read.within;
  whole = λ told. started told ∙ ap (λ (bs : Text). Some bs) (sym (read.told told));
  at_end = ended;
}

-- ---- inputs that a source may have

-- the inputs, but these bytes under the name
put : Text → Option Text → Inputs → Inputs
put name bytes inputs n = if bytes_eq n name then bytes else inputs n

put_there : (name : Text) (bytes : Option Text) (inputs : Inputs) → put name bytes inputs name ≡ bytes
unfolding put
put_there name bytes inputs = rw ((bytes_eq-Decides name name).1 refl) refl

put_same : (name : Text) (bytes : Option Text) (inputs : Inputs) → inputs name ≡ bytes → put name bytes inputs ≡ inputs
unfolding put
put_same name bytes inputs is = fun_ext (λ n. elim (cases_Bool (bytes_eq n name)) [
  | inl same ↦ let e : n ≡ name = (bytes_eq-Decides n name).0 same in rw same (sym is ∙ ap (λ (m : Text). inputs m) (sym e))
  | inr other ↦ rw other refl
])

-- for some inputs that the source may have, the name has these bytes
given : (tells : Type 0) (name : Text) (source : SourceView) (bytes : Option Text) (answer : Result Text Cause) → (tells → source.inputs name ≡ bytes) → found bytes ≡ answer
    → Gives tells source (λ inputs. found (inputs name)) answer
given tells name source bytes answer is gives =
    (put name bytes source.inputs, (λ told. put_same name bytes source.inputs (is told)), ap found (put_there name bytes source.inputs) ∙ gives)

-- there is no such input
pub none_given : (tells : Type 0) (name : Text) (source : SourceView) → (tells → source.inputs name ≡ None) → Gives tells source (λ inputs. found (inputs name)) (Err NoSuchName)
none_given tells name source none = given tells name source None (Err NoSuchName) none refl

-- what was read is the front of what the input holds
pub front_given : (tells : Type 0) (name : Text) (old new : SourceView) (bytes : Text) → Front tells name old new bytes → Gives tells old (λ inputs. found (inputs name)) (Ok bytes)
front_given tells name old new bytes front = elim (cases_lt (length bytes) read_limit) [
  | inl short ↦ given tells name old (Some bytes) (Ok bytes)
      (λ told. front.whole told ∙ ap (λ (left : Text). Some (bytes ++ left)) (front.at_end short told) ∙ ap (λ (bs : Text). Some bs) (append-nil bytes))
      (ap (λ (bs : Text). Ok bs) (take_all read_limit bytes front.within))
  | inr full ↦
      let w : length bytes ≤ read_limit = front.within in
      let e : read_limit ≡ length bytes = omega (arith, full, w) in
      given tells name old (Some (bytes ++ new.left)) (Ok bytes) front.whole (ap (λ (bs : Text). Ok bs) (rw (e, take-append_seam) refl))
]

-- ---- a command's FILE

no_usage : (bytes : Option Text) → found bytes ≢ Err Usage
no_usage None e = cc
no_usage (Some bytes) e = cc

-- standard input may not be read in a script
pub refused_there : (tells : Type 0) (in_script : Bool) (file : Option Text) (source : SourceView) → (in_script && is_none file) ≡ true → Gives tells source (λ inputs. input in_script inputs file) (Err Usage)
refused_there tells in_script file source refused = (source.inputs, (λ told. refl), rw refused refl)

read_there : (in_script : Bool) (file : Option Text) (inputs : Inputs) → (in_script && is_none file) ≡ false → input in_script inputs file ≡ found (inputs (unwrap_or file stdin))
read_there in_script file inputs read = rw read refl

-- what the name gives, the FILE gives
along : (tells : Type 0) (in_script : Bool) (file : Option Text) (source : SourceView) (answer : Result Text Cause) → (in_script && is_none file) ≡ false
    → Gives tells source (λ inputs. found (inputs (unwrap_or file stdin))) answer → Gives tells source (λ inputs. input in_script inputs file) answer
along tells in_script file source answer read (inputs, may, e) = (inputs, may, read_there in_script file inputs read ∙ e)

-- a name that is read as a command's FILE
pub file_read : (tells : Type 0) (in_script : Bool) (file : Option Text) (old new : SourceView) (result : Result (Vec ℕ Global) Cause) → (in_script && is_none file) ≡ false
    → ReadsName tells (unwrap_or file stdin) old new result → Reads bytes_seen (λ inputs. input in_script inputs file) tells old new result
file_read tells in_script file old new (Ok bytes) read name = along tells in_script file old (Ok bytes.items) read (front_given tells (unwrap_or file stdin) old new bytes.items name.outcome)
file_read tells in_script file old new (Err NoSuchName) read name = along tells in_script file old (Err NoSuchName) read (none_given tells (unwrap_or file stdin) old name.outcome)
file_read tells in_script file old new (Err ReadFault) read name = (name.outcome, (λ inputs e. no_usage (inputs (unwrap_or file stdin)) (sym (read_there in_script file inputs read) ∙ e)))
file_read tells in_script file old new (Err OutOfMemory) read name = tt
file_read tells in_script file old new (Err _) read name = absurd name.outcome

-- of it no more was taken than may be
pub file_taken : (tells : Type 0) (file : Option Text) (old new : SourceView) (result : Result (Vec ℕ Global) Cause) → ReadsName tells (unwrap_or file stdin) old new result → Takes tells old new file result
file_taken tells file old new (Ok bytes) name = λ told. record { all = bytes.items ++ new.left; taken = bytes.items; is_all = name.outcome.whole told; whole = refl; within = name.outcome.within }
file_taken tells file old new (Err (DocRefused fault)) name = absurd name.outcome
file_taken tells file old new (Err (BadLine n)) name = absurd name.outcome
file_taken tells file old new (Err (BatchLine n)) name = absurd name.outcome
file_taken tells file old new (Err BatchLarge) name = absurd name.outcome
file_taken tells file old new (Err _) name = tt
