-- What the reader hands over, and where it stands in a text.
use Rattle.std.specs.Prelude.{◌≡◌, ◌⊎◌, ◌++◌, ◌<◌, ◌+◌, ◌==◌, ℕ, List, [], ◌∷◌, length, Bool, true, false, Option, Some, None, Result, Ok, Err, Vec}
use Rattle.std.specs.Borrow.{Bor}
use Rattle.std.specs.List.{before_first, after_first}
use Rattle.std.specs.declared.alloc.Global.{Global}
use Rattle.net_model.specs.declared.call.Call.{Call}
use Rattle.ip_batch.specs.Spelling.{Text, Spells}
use Rattle.ip_batch.specs.Batch.{is_skipped, StandFor, IsFirstBad}
use Rattle.ip_batch.specs.Pieces.{parts_of}
use Rattle.ip_batch.specs.Reader.{call_of, calls_from}
use Rattle.ip_batch.specs.declared.fault.BatchFault.{BatchFault}
use Rattle.ip_batch.specs.declared.fault.BatchFault.TheVariants.{Line, TooLarge, OutOfMemory}

abbrev pub items_seen : {X : Type 0} → Vec X Global → List X
items_seen items = items.items

-- what stands before the first of this sign, and what follows it; where there is none, all and nothing
abbrev pub IsCut : ℕ → Text → Option (Bor Text × Bor Text) → Type 0
IsCut sign text None = (before_first (λ byte. byte == sign) text ≡ text) × (after_first (λ byte. byte == sign) text ≡ [])
IsCut sign text (Some (front, back)) = (front.now ≡ before_first (λ byte. byte == sign) text) × (back.now ≡ after_first (λ byte. byte == sign) text)

-- the first of the parts and those that follow, or the one part
abbrev pub IsFirstPart : Text → Option (Bor Text × Bor Text) → Type 0
IsFirstPart text None = parts_of text ≡ text ∷ []
IsFirstPart text (Some (part, more)) = (parts_of text ≡ part.now ∷ parts_of more.now) × (length more.now < length text)

-- the calls with that of the line behind them, where it may stand
abbrev pub TakesLine : Text → List Call → List Call → Bool → Type 0
TakesLine line old new true = ((is_skipped line ≡ true) × (new ≡ old)) ⊎ ((call : Call) × Spells line call × (new ≡ old ++ call ∷ []))
TakesLine line old new false = (is_skipped line ≡ false) × (call_of line ≡ None)

-- so many lines were read, and stand for these calls
pub record SoFar (lines left : List Text) (n : ℕ) (calls : List Call) : Type 0 where
  pub front : List Text
  pub is : lines ≡ front ++ left
  pub number : n ≡ length front + 1
  pub stands : StandFor front calls

-- the lines are read as the calls that they stand for, or the first that stands for none is told
abbrev pub Reads : List Text → Result (Vec Call Global) BatchFault → Type 0
Reads lines (Ok calls) = (calls_from 1 lines ≡ Ok calls.items) × StandFor lines calls.items
Reads lines (Err (Line n)) = (calls_from 1 lines ≡ Err n) × IsFirstBad lines n
Reads lines (Err TooLarge) = ⊥
Reads lines (Err OutOfMemory) = Unit {0}

-- what a text defines is answered, or memory ran out
abbrev pub Answers : Result (List Call) BatchFault → Result (Vec Call Global) BatchFault → Type 0
Answers defined (Ok calls) = defined ≡ Ok calls.items
Answers defined (Err (Line n)) = defined ≡ Err (Line n)
Answers defined (Err TooLarge) = defined ≡ Err TooLarge
Answers defined (Err OutOfMemory) = Unit {0}
