-- A fold of steps goes on by one step.
use Rattle.std.proofs.Common.{◌≡◌, ◌∙◌, refl, ap, subst, List, [], ◌∷◌, ◌++◌}
use Rattle.checkpoint_cell.specs.Settled.{Standing}
use Rattle.top_model.specs.Orders.{Text, Inputs}
use Rattle.top_model.specs.Lines.{Timed}
use Rattle.top_model.specs.Scripts.{order_in, StepGrounds, StepTexts, step_outcome, Folds}

with_nothing : (xs : Text) → xs ≡ xs ++ []
with_nothing [] = refl
with_nothing (x ∷ xs) = ap (λ (ys : Text). x ∷ ys) (with_nothing xs)

pub grouped : (xs ys zs : Text) → (xs ++ ys) ++ zs ≡ xs ++ (ys ++ zs)
grouped [] ys zs = refl
grouped (x ∷ xs) ys zs = ap (λ (t : Text). x ∷ t) (grouped xs ys zs)

module _ (inputs : Inputs) (step : Timed) where
  pub folds_on : (done : List Timed) (e last : Standing) (out err more_out more_err : Text) → Folds inputs done e out err last
      → StepTexts (StepGrounds inputs step last) (order_in inputs step) (step_outcome inputs step last).answer more_out more_err
      → Folds inputs (done ++ step ∷ []) e (out ++ more_out) (err ++ more_err) (step_outcome inputs step last).after
  folds_on [] e last out err more_out more_err folds texts =
      let on : Standing → Type 0 = λ x. StepTexts (StepGrounds inputs step x) (order_in inputs step) (step_outcome inputs step x).answer more_out more_err in (
        (more_out, more_err),
        ([], []),
        subst on folds.0 texts,
        (ap (λ x. (step_outcome inputs step x).after) folds.0, refl, refl),
        ap (λ (t : Text). t ++ more_out) folds.1 ∙ with_nothing more_out,
        ap (λ (t : Text). t ++ more_err) folds.2 ∙ with_nothing more_err,
      )
  folds_on (first ∷ done) e last out err more_out more_err folds texts = (
    folds.0,
    (folds.1.0 ++ more_out, folds.1.1 ++ more_err),
    folds.2,
    folds_on done (step_outcome inputs first e).after last folds.1.0 folds.1.1 more_out more_err folds.3 texts,
    ap (λ (t : Text). t ++ more_out) folds.4 ∙ grouped folds.0.0 folds.1.0 more_out,
    ap (λ (t : Text). t ++ more_err) folds.5 ∙ grouped folds.0.1 folds.1.1 more_err,
  )
