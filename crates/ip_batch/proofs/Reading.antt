-- The lines of a text, read one after another.
use Rattle.std.proofs.Common.{◌≡◌, ◌∙◌, ◌<◌, ◌≤◌, ◌+◌, ◌==◌, ℕ, suc, List, [], ◌∷◌, ◌++◌, Bool, true, false, length, refl, sym, ap, subst, arith, inl, inr, append_assoc, length-append, eqb-true}
use Rattle.std.specs.Prelude.{Option, None, Result, Ok, Err, Vec, IfOk, IsErrOf}
use Rattle.std.specs.declared.alloc.Global.{Global}
use Rattle.std.proofs.lemmas.List.{append-nil}
use Rattle.net_model.specs.declared.call.Call.{Call}
use Rattle.ip_batch.specs.Spelling.{Text}
use Rattle.ip_batch.specs.Batch.{is_skipped, StandFor, IsFirstBad}
use Rattle.ip_batch.specs.Pieces.{lines_of}
use Rattle.ip_batch.specs.Reader.{call_of, calls_from, told, batch_of}
use Rattle.ip_batch.specs.Seen.{TakesLine, SoFar, Reads, Answers}
use Rattle.ip_batch.specs.declared.fault.BatchFault.{BatchFault}
use Rattle.ip_batch.specs.declared.fault.BatchFault.TheVariants.{Line, TooLarge, OutOfMemory}
use Rattle.ip_batch.specs.declared.fault.TheConstants.{MAX_BATCH_BYTES}
use Rattle.ip_batch.proofs.Lines.{stand_skip, stand_call, stand_good, stand_read, good_bad, unread_bad, within_read}

-- ---- one line after another

depends_on : (front : List Text) (line : Text) (old new : List Call) → StandFor front old → TakesLine line old new true → StandFor (front ++ line ∷ []) new
depends_on front line old new h (inl p) = subst (λ (calls : List Call). StandFor (front ++ line ∷ []) calls) (sym p.1) (stand_skip front old line h p.0)
depends_on front line old new h (inr q) = subst (λ (calls : List Call). StandFor (front ++ line ∷ []) calls) (sym q.2) (stand_call front old line q.0 h q.1)

-- before the first line
pub at_first : (lines : List Text) (calls : List Call) → calls ≡ [] → SoFar lines lines 1 calls
at_first lines calls none = record { front = []; is = refl; number = refl; stands = none }

-- a line more that may stand
pub on : (lines left rest : List Text) (line : Text) (n : ℕ) (old new : List Call) → SoFar lines left n old → left ≡ line ∷ rest → TakesLine line old new true → SoFar lines rest (n + 1) new
on lines left rest line n old new s e t = record {
  front = s.front ++ line ∷ [];
  is = s.is ∙ ap (λ (more : List Text). s.front ++ more) e ∙ sym (append_assoc s.front (line ∷ []) rest);
  number = rw (length-append s.front (line ∷ [])) (omega (arith, s.number));
  stands = depends_on s.front line old new s.stands t;
}

-- the first line that may not
pub first_bad : (lines left rest : List Text) (line : Text) (n : ℕ) (calls : List Call) → SoFar lines left n calls → left ≡ line ∷ rest → is_skipped line ≡ false → call_of line ≡ None
    → (calls_from 1 lines ≡ Err n) × IsFirstBad lines n
first_bad lines left rest line n calls s e go none =
    let is : lines ≡ s.front ++ line ∷ rest = s.is ∙ ap (λ (more : List Text). s.front ++ more) e in
    let good = stand_good s.front calls s.stands in (
      ap (calls_from 1) is ∙ good_bad 1 n s.front line rest good go none (omega (arith, s.number)),
      record { before = s.front; line = line; after = rest; is = is; number = s.number; good = good; bad = unread_bad line go none },
    )

-- no line is left
pub all_read : (lines left : List Text) (n : ℕ) (calls : List Call) → SoFar lines left n calls → left ≡ [] → (calls_from 1 lines ≡ Ok calls) × StandFor lines calls
all_read lines left n calls s e =
    let is : lines ≡ s.front = s.is ∙ ap (λ (more : List Text). s.front ++ more) e ∙ append-nil s.front in
    let stands : StandFor lines calls = subst (λ (ls : List Text). StandFor ls calls) (sym is) s.stands in
    (stand_read 1 lines calls stands, stands)

-- no byte is left, and so no line
pub no_lines : (bytes : Text) → (length bytes == 0) ≡ true → lines_of bytes ≡ []
no_lines [] e = refl
no_lines (byte ∷ bytes) e = let past : suc (length bytes) ≡ 0 = eqb-true (suc (length bytes)) 0 e in absurd (omega (arith, past))

-- ---- whole texts within the limit

-- what reading the lines gave is what the text defines
pub answers : (bytes : Text) (r : Result (Vec Call Global) BatchFault) → length bytes ≤ MAX_BATCH_BYTES → Reads (lines_of bytes) r → Answers (batch_of bytes) r
answers bytes (Ok calls) within h = within_read bytes within ∙ ap told h.0
answers bytes (Err (Line n)) within h = within_read bytes within ∙ ap told h.0
answers bytes (Err TooLarge) within h = absurd h
answers bytes (Err OutOfMemory) within h = tt

-- an answer is the calls that the lines stand for
pub stands : (lines : List Text) (r : Result (Vec Call Global) BatchFault) → Reads lines r → IfOk r (λ calls. StandFor lines calls.items)
stands lines (Ok calls) h = h.1
stands lines (Err fault) h = tt

-- a number that is told is that of the first bad line
pub bad : (lines : List Text) (r : Result (Vec Call Global) BatchFault) → Reads lines r → (n : ℕ) → IsErrOf r (Line n) → IsFirstBad lines n
bad lines (Ok calls) h n is = cc
bad lines (Err (Line m)) h n is = let e : m ≡ n = cc in subst (IsFirstBad lines) e h.1
bad lines (Err TooLarge) h n is = absurd h
bad lines (Err OutOfMemory) h n is = cc

-- no text within the limit is too large
pub not_large : (lines : List Text) (r : Result (Vec Call Global) BatchFault) → Reads lines r → IsErrOf r TooLarge → ⊥
not_large lines (Ok calls) h is = cc
not_large lines (Err (Line n)) h is = cc
not_large lines (Err TooLarge) h is = h
not_large lines (Err OutOfMemory) h is = cc
