use Rattle.std.proofs.Common.{◌≡◌, inl, refl, subst, arith, List, None}
use Rattle.std.specs.Prelude.{ℕ, [], false, Err, String, map, string_bytes}
use Rattle.std.specs.declared.alloc.Global.{Global}
use Rattle.command_words.specs.Words.{lone, command_of}
use Rattle.top_model.specs.Runs.{run_of}
use Rattle.top_model.specs.Scripts.{file_of}
use Rattle.top_model.specs.declared.report.Cause.TheVariants.{OutOfMemory}
use Rattle.top_model.proofs.lemmas.Commanding.{promised}
use Rattle.top_model.proofs.lemmas.Scripted.{ran_out as script_ran_out}
use Rattle.top_model.proofs.lemmas.Wanting.{may_want_words}
use Rattle.answer_text.proofs.lemmas.Told.{told_refused}
use Rattle.command_laws.proofs.lemmas.Files.{refused}
use Rattle.command_laws.proofs.lemmas.Refusals.{ran_out}
use Rattle.command_laws.proofs.lemmas.Takes.{nothing_taken, told_of}
use Rattle.nmstate_top.proofs.run.run_command.Goals as goal

pub run_named-requires : goal.run_named-requires
run_named-requires g c = subst (λ (words : List (String Global)). c.in-Ok.script ≡ file_of (command_of (map string_bytes words))) c.as_slice.ensures.value c.in-Ok.ensures.file

pub returns-in-Ok : goal.returns-in-Ok
returns-in-Ok g c =
    let e = c.run_named.ensures in
    record {
      commanded = record {
        command = (e.0, e.1, λ other. promised _ (e.2.answered other) (e.2.apart other));
        script = e.2.script;
        ran = e.2.ran;
      };
    }

pub returns-in-Err : goal.returns-in-Err
returns-in-Err g c =
    let t = c.tell_refused.ensures in
    let alone : lone (map string_bytes c.args.words.now.items) ≡ None = subst (λ (words : List (String Global)). lone (map string_bytes words) ≡ None) c.as_slice.ensures.value c.in-Err.ensures.memory in
    let of = λ (now : ℕ). run_of g.H.Host g.S.Source g.W.Sink c.args.words.now.items false now c.args.host.now c.args.host.now c.args.src.now c.args.src.now c.args.out.now c.tell_refused.new.out c.args.err.now c.tell_refused.new.err c.tell_refused.result in
    let now = c.now.result in
    record {
      commanded = record {
        command = (
          now,
          c.now.ensures,
          λ other. promised _
              (ran_out (of now) refl (record { host = omega arith; source = omega arith; out = t.out; err = t.err; inputs = λ told. refl; takes = nothing_taken (of now) refl (told_of _ OutOfMemory _ _ _ _ _ _ c.tell_refused.result t.told) _; lawful = g.met.H.Host.lawful c.args.host.now; tells = g.met.H.Host.honest_tells }) alone t.told)
              (λ count seed is. (refl, refl)),
        );
        script = script_ran_out (of 0) _ (may_want_words (of 0) alone) refl (told_refused (of 0) (Err OutOfMemory) OutOfMemory [] (inl refl) t.told);
        ran = λ file is. refused (of 0) _ file is refl OutOfMemory tt tt t.told;
      };
    }
