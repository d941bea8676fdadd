-- What is written, from what is said of a run.
use Rattle.std.proofs.Common.{◌≡◌, ◌∙◌, inl, inr, refl, sym, ap, subst, ℕ, []}
use Rattle.std.specs.Prelude.{◌≢◌, Result, Ok, Err}
use Rattle.top_model.specs.Said.{Said, Says}
use Rattle.top_model.specs.Orders.{Text, Order}
use Rattle.top_model.specs.Texts.{status_of}
use Rattle.top_model.specs.Runs.{Run, Asks, SinkRose}
use Rattle.top_model.specs.Grounds.{Grounds, TakesFirst}
use Rattle.top_model.specs.Told.{Answer, cause_of, OutText, ErrTextOn, Told}
use Rattle.top_model.specs.Causes.{expected, Comes, Expects}
use Rattle.top_model.specs.Answered.{Rests, Answered}
use Rattle.top_model.specs.Promises.{IsWritten, IsCutOff, WriteFaults, Texts}
use Rattle.top_model.specs.declared.report.Report.{Report}
use Rattle.top_model.specs.declared.report.Cause.{Cause}
use Rattle.top_model.specs.declared.report.Cause.TheVariants.{Done, WriteFault}
use Rattle.top_model.proofs.lemmas.Reports.{order_is, not_done, not_fault, same_status}

silent : (answer : Answer) (out : Text) → OutText answer out → cause_of answer ≢ Done → out ≡ []
silent (Ok said) out is other = absurd (other refl)
silent (Err c) out is other = is

-- only what is done is told as done
done_said : (r : Run) (order : Result Order Cause) (answer : Answer) → Comes r order answer → cause_of answer ≡ Done → (said : Said) × (answer ≡ Ok said)
done_said r order (Ok said) comes is = (said, refl)
done_said r order (Err c) comes is = absurd (not_done r order (subst (λ x. Comes r order (Err x)) is comes))

done_fault : (s : ℕ) → Done ≡ WriteFault s → ⊥
done_fault s e = cc

-- a sink's fault isn't behind another
behind : (r : Run) (order : Result Order Cause) (answer : Answer) (s : ℕ) → Comes r order answer → cause_of answer ≡ WriteFault s → ⊥
behind r order (Ok said) s comes is = done_fault s is
behind r order (Err c) s comes is = not_fault r order s (subst (λ x. Comes r order (Err x)) is comes)

module _ (r : Run) (a : Answered r) where
  module _ (order : Result Order Cause) (asks : Asks r order) where
    same : a.order ≡ order
    same = order_is r a order asks

    told : Told r order a.answer
    told = subst (λ o. Told r o a.answer) same a.told

    says : Rests r order → cause_of a.answer ≡ Done → (said : Said) × (expected r order ≡ Ok said) × Says said told.out
    says rests done =
        let said = done_said r a.order a.answer a.comes done in
        let expects : Expects r order (Ok said.0) = subst (λ o. Expects r o (Ok said.0)) same (subst (Expects r a.order) said.1 (a.expects (subst (Rests r) (sym same) rests))) in
        let out : OutText (Ok said.0) told.out = subst (λ (x : Answer). OutText x told.out) said.1 told.is_out in
        (said.0, expects.answer, out)

    writes_all : (SinkRose r → ⊥) → IsWritten r order
    writes_all steady = elim told.written as (λ v. IsWritten r order) [
      | inl whole ↦ let cause : r.report.cause ≡ cause_of a.answer = ap (λ (x : Report). x.cause) whole.report in record {
        out = told.out;
        err = told.err;
        to_out = whole.to_out;
        to_err = whole.to_err;
        is_err = subst (λ c. ErrTextOn (TakesFirst r) (Grounds r order) order c told.err) (sym cause) told.is_err;
        silent = λ other. silent a.answer told.out told.is_out (λ done. other (cause ∙ done));
        says = λ rests done. says rests (sym cause ∙ done);
      }
      | inr cut ↦ absurd (steady cut.rose)
    ]

    writes_some : (s : ℕ) → r.report.cause ≡ WriteFault s → IsCutOff r order s
    writes_some s is = elim told.written as (λ v. IsCutOff r order s) [
      | inl whole ↦ absurd (behind r a.order a.answer s a.comes (sym (ap (λ (x : Report). x.cause) whole.report) ∙ is))
      | inr cut ↦ record {
        cause = cause_of a.answer;
        is_status = same_status (status_of (cause_of a.answer)) s (sym (ap (λ (x : Report). x.cause) cut.report) ∙ is);
        out = told.out;
        err = told.err;
        to_out = cut.to_out;
        to_err = cut.to_err;
        is_err = told.is_err;
        silent = λ other. silent a.answer told.out told.is_out other;
        stops = cut.stops;
        says = says;
      }
    ]

  write_faults : WriteFaults r
  write_faults = elim a.told.written as (λ v. WriteFaults r) [
    | inl whole ↦ record {
      only = λ s is. absurd (behind r a.order a.answer s a.comes (sym (ap (λ (x : Report). x.cause) whole.report) ∙ is));
      out = λ never. whole.out_steady;
      err = λ never. whole.err_steady;
    }
    | inr cut ↦ record {
      only = λ s is. cut.rose;
      out = λ never. absurd (never (status_of (cause_of a.answer)) (ap (λ (x : Report). x.cause) cut.report));
      err = λ never. absurd (never (status_of (cause_of a.answer)) (ap (λ (x : Report). x.cause) cut.report));
    }
  ]

  -- what is written for an answer, with a sink's fault and without
  pub texts : Texts r
  texts = record { all = λ order asks. writes_all order asks; some = λ order asks. writes_some order asks; faults = write_faults }
