-- A text that is written in two pieces, to one sink or to two.
use Rattle.std.proofs.Common.{◌≡◌, ◌∙◌, inl, inr, ℕ, ◌+◌, ◌≤◌, true, false, [], ◌++◌, length, take, refl, sym, ap, subst, append_assoc, append-nil, arith}
use Rattle.std.proofs.lemmas.List.{take-append-le, take_all, length-append}
use Rattle.std.proofs.Math.Seq.{take-append-add}
use Rattle.std.specs.Prelude.{⊤, Result, Ok, Err}
use Rattle.host_core.specs.Faults.{Rose}
use Rattle.host_core.specs.Streams.{SinkView, Appends, AppendsSome}
use Rattle.host_core.specs.declared.Failed.{Failed}
use Rattle.top_model.specs.Orders.{Text}
use Rattle.top_model.specs.Texts.{error_line}
use Rattle.top_model.specs.declared.report.Report.{Report}
use Rattle.top_model.specs.declared.report.Cause.{Cause}
use Rattle.answer_text.specs.Writing.{Writes}
use Rattle.answer_text.specs.Speaking.{Spoken}
use Rattle.service_run.specs.Telling.{Sinks, sinks, WritesBoth, Speaks, Tells, told_as}

part : (a b : Text) (old new : SinkView) → AppendsSome a old new → AppendsSome (a ++ b) old new
part a b old new (n, within, is) = (n, rw length-append (omega arith), rw (take-append-le n a b within) is)

follow_some : (a b : Text) (old mid new : SinkView) → Appends a old mid → AppendsSome b mid new → AppendsSome (a ++ b) old new
follow_some a b old mid new first (n, within, is) = (
  length a + n,
  rw length-append (omega arith),
  is ∙ ap (λ (bytes : Text). bytes ++ take n b) first ∙ append_assoc old.written a (take n b) ∙ ap (λ (bytes : Text). old.written ++ bytes) (sym (take-append-add a b n)),
)

nothing_some : (old : SinkView) (text : Text) → AppendsSome text old old
nothing_some old text = (0, omega arith, sym (append-nil old.written))

-- the first piece failed
pub cut : (tells : Type 0) (a b : Text) (old new : SinkView) (e f : Failed) → Writes tells a old new (Err e) → Writes tells (a ++ b) old new (Err f)
cut tells a b old new e f w = record {
  all = λ t. tt;
  some = λ t. part a b old new (w.some t);
  steady = tt;
  cause = record { later = w.cause.later; failed = w.cause.failed };
}

-- the second piece is written behind the first
pub follow : (tells : Type 0) (a b : Text) (old mid new : SinkView) (r : Result ⊤ Failed) → Writes tells a old mid (Ok tt) → Writes tells b mid new r → Writes tells (a ++ b) old new r
follow tells a b old mid new (Ok x) first next = record {
  all = λ t. next.all t ∙ ap (λ (bytes : Text). bytes ++ b) (first.all t) ∙ append_assoc old.written a b;
  some = λ t. follow_some a b old mid new (first.all t) (next.some t);
  steady = next.steady ∙ first.steady;
  cause = record { later = let x = first.steady in let y = next.cause.later in omega (arith, x, y); failed = tt };
}
follow tells a b old mid new (Err e) first next = record {
  all = λ t. tt;
  some = λ t. follow_some a b old mid new (first.all t) (next.some t);
  steady = tt;
  cause = record { later = let x = first.steady in let y = next.cause.later in omega (arith, x, y); failed = subst (λ (n : ℕ). Rose n new.faults) first.steady next.cause.failed };
}

-- nothing is written
pub nothing : (tells : Type 0) (now : SinkView) → Writes tells [] now now (Ok tt)
nothing tells now = record {
  all = λ t. sym (append-nil now.written);
  some = λ t. nothing_some now [];
  steady = refl;
  cause = record { later = omega arith; failed = tt };
}

-- ---- two sinks: the errors first

pub both_cut : (tells : Type 0) (out_text err_text : Text) (out err err_after : SinkView) (e f : Failed) → Writes tells err_text err err_after (Err e) → WritesBoth tells out_text err_text (sinks out err) (sinks out err_after) (Err f)
both_cut tells out_text err_text out err err_after e f w = record {
  rose = inr w.cause.failed;
  to_out = λ t. nothing_some out out_text;
  to_err = w.some;
  stops = inl (λ t. sym (append-nil out.written));
  out_later = omega arith;
  err_later = w.cause.later;
}

pub both_follow : (tells : Type 0) (out_text err_text : Text) (out out_after err err_after : SinkView) (r : Result ⊤ Failed) → Writes tells err_text err err_after (Ok tt) → Writes tells out_text out out_after r
    → WritesBoth tells out_text err_text (sinks out err) (sinks out_after err_after) r
both_follow tells out_text err_text out out_after err err_after (Ok x) first next = record { to_out = next.all; to_err = first.all; out_steady = next.steady; err_steady = first.steady }
both_follow tells out_text err_text out out_after err err_after (Err e) first next = record {
  rose = inl next.cause.failed;
  to_out = next.some;
  to_err = λ t. (length err_text, omega arith, first.all t ∙ ap (λ (bytes : Text). err.written ++ bytes) (sym (take_all (length err_text) err_text (omega arith))));
  stops = inr first.all;
  out_later = next.cause.later;
  err_later = let x = first.steady in omega (arith, x);
}

-- nothing is written where not all was written before
pub silent : (tells : Type 0) (out_text err_text : Text) (now : Sinks) → Speaks tells out_text err_text now now false false
silent tells out_text err_text now = record {
  to_out = λ t. sym (append-nil now.out.written);
  to_err = λ t. sym (append-nil now.err.written);
  out_steady = refl;
  err_steady = refl;
}

-- ---- the end

-- the notes and the name were written, and then the line of the cause was told
pub tells_on : (tells : Type 0) (text : Text) (cause : Cause) (out out_after err mid err_after : SinkView) (report : Report) → Writes tells text err mid (Ok tt)
    → Spoken tells cause [] ([] ++ error_line cause) out out_after mid err_after report → out.faults ≤ out_after.faults → mid.faults ≤ err_after.faults
    → Tells tells (text ++ error_line cause) cause (sinks out err) (sinks out_after err_after) true report
tells_on tells text cause out out_after err mid err_after report first (inl s) out_later err_later = record {
  is_open = true;
  said = record {
    to_out = s.0.to_out;
    to_err = λ t. s.0.to_err t ∙ ap (λ (bytes : Text). bytes ++ error_line cause) (first.all t) ∙ append_assoc err.written text (error_line cause);
    out_steady = s.0.out_steady;
    err_steady = s.0.err_steady ∙ first.steady;
  };
  report = s.1;
}
tells_on tells text cause out out_after err mid err_after report first (inr s) out_later err_later = record {
  is_open = false;
  said = record {
    rose = elim s.0.rose [ inl rose ↦ inl rose | inr rose ↦ inr (subst (λ (n : ℕ). Rose n err_after.faults) first.steady rose) ];
    to_out = s.0.to_out;
    to_err = λ t. follow_some text (error_line cause) err mid err_after (first.all t) (s.0.to_err t);
    stops = elim s.0.stops [
      | inl none ↦ inl none
      | inr all ↦ inr (λ t. all t ∙ ap (λ (bytes : Text). bytes ++ error_line cause) (first.all t) ∙ append_assoc err.written text (error_line cause))
    ];
    out_later = out_later;
    err_later = let x = first.steady in omega (arith, x, err_later);
  };
  report = s.1;
}

-- they weren't
pub tells_cut : (tells : Type 0) (text : Text) (cause : Cause) (out err err_after : SinkView) (report : Report) (e : Failed) → Writes tells text err err_after (Err e) → report ≡ told_as cause false
    → Tells tells (text ++ error_line cause) cause (sinks out err) (sinks out err_after) true report
tells_cut tells text cause out err err_after report e w is = record {
  is_open = false;
  said = record {
    rose = inr w.cause.failed;
    to_out = λ t. nothing_some out [];
    to_err = λ t. part text (error_line cause) err err_after (w.some t);
    stops = inl (λ t. sym (append-nil out.written));
    out_later = omega arith;
    err_later = w.cause.later;
  };
  report = is;
}

-- nor is anything where not all was written before
pub tells_silent : (tells : Type 0) (text : Text) (cause : Cause) (now : Sinks) (report : Report) → report ≡ told_as cause false → Tells tells text cause now now false report
tells_silent tells text cause now report is = record { is_open = false; said = silent tells [] text now; report = is }
