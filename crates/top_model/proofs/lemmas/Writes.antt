-- What is told to one sink, where nothing goes to the other.
use Rattle.std.proofs.Common.{◌≡◌, ◌∙◌, inl, inr, refl, ap, ℕ, List, [], ◌∷◌, ◌++◌, ◌≤◌, arith, subst}
use Rattle.std.specs.Prelude.{Result, Ok, Err}
use Rattle.host_core.specs.Streams.{SinkView, Appends, AppendsSome}
use Rattle.top_model.specs.Said.{Said, Says}
use Rattle.top_model.specs.Orders.{Text, Order}
use Rattle.top_model.specs.Texts.{error_line}
use Rattle.top_model.specs.Runs.{Run}
use Rattle.top_model.specs.Grounds.{Grounds, TakesFirst}
use Rattle.top_model.specs.Told.{Told, ErrTextOn}
use Rattle.top_model.specs.Telling.{Tells}
use Rattle.top_model.specs.declared.report.Report.{Report}
use Rattle.top_model.specs.declared.report.Cause.{Cause}
use Rattle.top_model.specs.declared.report.Cause.TheVariants.{Done}

with_nothing : (xs : List ℕ) → xs ≡ xs ++ []
with_nothing [] = refl
with_nothing (x ∷ xs) = ap (λ ys. x ∷ ys) (with_nothing xs)

-- nothing was written to it
no_more : (old new : SinkView) → new ≡ old → Appends [] old new
no_more old new same = ap (λ (v : SinkView). v.written) same ∙ with_nothing old.written

none_of_it : (text : Text) (old new : SinkView) → new ≡ old → AppendsSome text old new
none_of_it text old new same = (0, omega arith, ap (λ (v : SinkView). v.written) same ∙ with_nothing old.written)

-- done, by an order without notes
pub told_done : (r : Run) (order : Result Order Cause) (said : Said) (text : Text) → Says said text → ErrTextOn (TakesFirst r) (Grounds r order) order Done []
    → Tells r.sinks_tell text Done r.out r.out_after r.report → r.err_after ≡ r.err → Told r order (Ok said)
told_done r order said text says none (inl t) same = record {
  out = text;
  err = [];
  is_out = says;
  is_err = none;
  written = inl (record { to_out = t.all; to_err = λ w. no_more r.err r.err_after same; out_steady = t.steady; err_steady = ap (λ (v : SinkView). v.faults) same; report = t.is });
}
told_done r order said text says none (inr t) same = record {
  out = text;
  err = [];
  is_out = says;
  is_err = none;
  written = inr (record { rose = inl t.rose; to_out = t.some; to_err = λ w. none_of_it [] r.err r.err_after same; stops = inr (λ w. no_more r.err r.err_after same); report = t.is });
}

-- refused, by an order without notes
pub told_refused : (r : Run) (order : Result Order Cause) (cause : Cause) → ErrTextOn (TakesFirst r) (Grounds r order) order cause (error_line cause)
    → Tells r.sinks_tell (error_line cause) cause r.err r.err_after r.report → r.out_after ≡ r.out → Told r order (Err cause)
told_refused r order cause is_err (inl t) same = record {
  out = [];
  err = error_line cause;
  is_out = refl;
  is_err = is_err;
  written = inl (record { to_out = λ w. no_more r.out r.out_after same; to_err = t.all; out_steady = ap (λ (v : SinkView). v.faults) same; err_steady = t.steady; report = t.is });
}
told_refused r order cause is_err (inr t) same = record {
  out = [];
  err = error_line cause;
  is_out = refl;
  is_err = is_err;
  written = inr (record { rose = inr t.rose; to_out = λ w. none_of_it [] r.out r.out_after same; to_err = t.some; stops = inl (λ w. no_more r.out r.out_after same); report = t.is });
}

-- the same text and the same cause
pub retold : (tells : Type 0) (text told : Text) (cause named : Cause) (old new : SinkView) (report : Report) → text ≡ told → cause ≡ named
    → Tells tells text cause old new report → Tells tells told named old new report
retold tells text told cause named old new report same_text same_cause t =
    subst (λ x. Tells tells x named old new report) same_text (subst (λ c. Tells tells text c old new report) same_cause t)

-- the count of a sink that is told to doesn't fall
pub tells_later : (tells : Type 0) (text : Text) (cause : Cause) (old new : SinkView) (report : Report) → Tells tells text cause old new report → old.faults ≤ new.faults
tells_later tells text cause old new report (inl t) = rw t.steady (omega arith)
tells_later tells text cause old new report (inr t) = t.later
