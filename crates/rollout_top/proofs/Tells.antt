-- What was printed, and what it says of the report.
use Rattle.std.proofs.Common.{◌≡◌, ◌⊎◌, inl, inr, ◌∙◌, ℕ, List, refl, ap, sym, subst, arith}
use Rattle.std.specs.Prelude.{⊤, Option, Some, None, Ok, Err}
use Rattle.document_model.specs.declared.Doc.{Doc}
use Rattle.host_core.specs.Faults.{Rose}
use Rattle.host_core.specs.Streams.{SinkView}
use Rattle.host_core.specs.declared.Failed.{Failed}
use Rattle.host_core.specs.declared.Host.{Ghosts as HostGhosts}
use Rattle.host_core.specs.declared.Source.{Ghosts as SourceGhosts}
use Rattle.host_core.specs.declared.Sink.{Ghosts as SinkGhosts}
use Rattle.host_core.specs.declared.Clock.{Ghosts as ClockGhosts}
use Rattle.rollout_model.specs.Rollout.{Rollout}
use Rattle.rollout_model.specs.declared.node.Event.{Event}
use Rattle.rollout_model.specs.declared.node.Event.TheVariants.{Starved}
use Rattle.rollout_core.specs.Calm.{Completes, first_halting}
use Rattle.rollout_core.specs.Trace.{Stepped, told_all}
use Rattle.rollout_run.specs.Printing.{Prints}
use Rattle.rollout_run.specs.declared.printing.Printed.{Printed}
use Rattle.rollout_run.specs.declared.printing.Printed.TheVariants.{Whole, Cut}
use Rattle.top_model.specs.Orders.{Text}
use Rattle.top_model.specs.Texts.{status_of}
use Rattle.top_model.specs.Told.{report_of}
use Rattle.top_model.specs.declared.report.Report.{Report}
use Rattle.top_model.specs.declared.report.Cause.{Cause}
use Rattle.top_model.specs.declared.report.Cause.TheVariants.{Done, WriteFault, Halted, OutOfMemory}
use Rattle.answer_text.specs.Writing.{Writes}
use Rattle.order_reading.specs.Reading.{Reads, Took, itself}
use Rattle.rollout_top.specs.Rollouts.{World, AllCommitted, halted_cause, cause_printed, document_named, RollsDocument, Refuses, RollsOut}

module _ (tells : Type 0) where
  -- a text that was written
  pub whole_text : (text : Text) (old new : SinkView) (done : ⊤) → Writes tells text old new (Ok done) → Prints tells Whole text old new Whole
  whole_text text old new done w = record { all = w.all; steady = w.steady }

  -- and one that wasn't
  pub cut_text : (text : Text) (old new : SinkView) (e : Failed) → Writes tells text old new (Err e) → Prints tells Whole text old new Cut
  cut_text text old new e w = record { some = w.some; rose = w.cause.failed }

  -- where no sink failed, all was printed: the notes, the lines and the answer
  pub all_printed : (noted shown printed : Printed) (a b c : Text) (out out_after err mid err_after : SinkView) → Prints tells Whole a err mid noted → Prints tells noted b out out_after shown
      → Prints tells shown c mid err_after printed → (Rose out.faults out_after.faults → ⊥) → (Rose err.faults err_after.faults → ⊥) → printed ≡ Whole
  all_printed Whole Whole Whole a b c out out_after err mid err_after notes lines line quiet_out quiet_err = refl
  all_printed Whole Whole Cut a b c out out_after err mid err_after notes lines line quiet_out quiet_err =
      absurd (quiet_err (subst (λ (count : ℕ). Rose count err_after.faults) notes.steady line.rose))
  all_printed Whole Cut printed a b c out out_after err mid err_after notes lines line quiet_out quiet_err = absurd (quiet_out lines.rose)
  all_printed Cut Whole printed a b c out out_after err mid err_after notes lines line quiet_out quiet_err = absurd lines
  all_printed Cut Cut Whole a b c out out_after err mid err_after notes lines line quiet_out quiet_err = absurd line
  all_printed Cut Cut Cut a b c out out_after err mid err_after notes lines line quiet_out quiet_err =
      absurd (quiet_err (subst (λ (v : SinkView). Rose err.faults v.faults) (sym line) notes.rose))

-- the report of a rollout that completes, where all was printed
pub done_by : (steps : List Stepped) (last : Rollout) (halted_by : Option Event) (printed : Printed) (report : Report) → halted_by ≡ first_halting (told_all steps)
    → report ≡ report_of (cause_printed printed (halted_cause halted_by)) → printed ≡ Whole → Completes steps last
    → ((report ≡ report_of Done) × AllCommitted last) ⊎ (report ≡ report_of OutOfMemory)
done_by steps last halted_by printed report is reported whole completes =
    let told : report ≡ report_of (halted_cause halted_by) = reported ∙ ap (λ (p : Printed). report_of (cause_printed p (halted_cause halted_by))) whole in
    elim completes [
      | inl all ↦ inl (told ∙ ap (λ (e : Option Event). report_of (halted_cause e)) (is ∙ all.0), all.1)
      | inr starved ↦ inr (told ∙ ap (λ (e : Option Event). report_of (halted_cause e)) (is ∙ starved.1))
    ]

-- nothing halted a rollout whose status is 0
none_by : (h : Option Event) → status_of (halted_cause h) ≡ 0 → h ≡ None
none_by None is = refl
none_by (Some (Starved i)) is = let no : 8 ≡ 0 = is in absurd (omega (arith, no))
none_by (Some event) is = let no : 14 ≡ 0 = is in absurd (omega (arith, no))

no_fault : (h : Option Event) (status : ℕ) → halted_cause h ≡ WriteFault status → ⊥
no_fault None status is = let no : Done ≡ WriteFault status = is in cc
no_fault (Some (Starved i)) status is = let no : OutOfMemory ≡ WriteFault status = is in cc
no_fault (Some event) status is = let no : Halted event ≡ WriteFault status = is in cc

-- nor one that is told as done, or as done but for what wasn't written
pub none_told : (h : Option Event) (printed : Printed) (cause : Cause) → cause ≡ cause_printed printed (halted_cause h) → (cause ≡ Done) ⊎ (cause ≡ WriteFault 0) → h ≡ None
none_told h Whole cause is told = elim told [
  | inl done ↦ none_by h (ap status_of (sym is ∙ done))
  | inr fault ↦ absurd (no_fault h 0 (sym is ∙ fault))
]
none_told h Cut cause is told = elim told [
  | inl done ↦ let no : WriteFault (status_of (halted_cause h)) ≡ Done = sym is ∙ done in absurd (cc)
  | inr fault ↦ let e : WriteFault (status_of (halted_cause h)) ≡ WriteFault 0 = sym is ∙ fault in none_by h (cc)
]

-- what is answered of a document that was read
pub answered : {H S W C : Type 0} (G : HostGhosts H) (F : SourceGhosts S) (K : ClockGhosts C) (P : SinkGhosts W) (limit : ℕ) (file : Text) (old new : World H S W C) (report : Report) (doc : Doc)
    → Reads itself (λ inputs. document_named inputs (Some file)) F.tells (F.told old.source) (F.told new.source) (Ok doc) → (F.tells → Took (F.told old.source) (F.told new.source) (Some file))
    → RollsDocument G K P limit doc old.nodes new.nodes old.clock new.clock old.out new.out old.err new.err report
    → Refuses G F K P limit file old new report ⊎ RollsOut G F K P limit file old new report
answered G F K P limit file old new report doc read took rolls = elim rolls [
  | inl rolled ↦ inr (record { doc = doc; inputs = read.0; may_read = read.1; read = read.2; took = took; rolled = rolled })
  | inr unbegun ↦ inl (record { cause = OutOfMemory; why = tt; took = tt; unbegun = unbegun })
]
