use Rattle.std.proofs.Common.{◌≡◌, ◌∙◌, sym, true, false}
use Rattle.std.specs.Prelude.{Result, Ok, Err, OnOk, is_err}
use Rattle.case_outside.proofs.disk.write.Goals as goal

not_false : true ≡ false → ⊥
not_false is = cc

-- what is so after a success is so where no error came
surely : {T E : Type 0} (result : Result T E) (P : Type 0) → is_err result ≡ false → OnOk result P → P
surely (Ok value) P is ok = ok
surely (Err error) P is ok = absurd (not_false is)

pub returns-clause-recorded : goal.returns-clause-recorded
returns-clause-recorded c = λ done. surely c.replace.result _ (sym c.is_err.ensures.value ∙ c.if-is_err.false) c.replace.ensures.record
