use Rattle.std.proofs.Common.{◌≡◌, ℕ, ◌∙◌, map, length, add-one, ap, sym, arith}
use Rattle.std.specs.Cmp.{booleans_Decides}
use Rattle.std.proofs.lemmas.Slice.Eq.{slice_eq-Decides}
use Rattle.doc_tree.specs.Shape.{shape}
use Rattle.policy_values.specs.Tables.{was_ready, tables, seen}
use Rattle.policy_values.proofs.Known.{table_length}
use Rattle.policy_values.proofs.Ready.{settled}
use Rattle.policy_values.proofs.Advance.{flags_are}
use Rattle.policy_values.proofs.values.capture_values.Goals as goal

pub are_ready-requires : goal.are_ready-requires
are_ready-requires c = table_length c.as_slice.result.now c.args.captures.now (shape c.args.running.now) c.loop-pass._pass (ap seen c.as_slice.ensures.value ∙ c.loop-pass.invariant.known)

pub pass-requires-clause-whole : goal.pass-requires-clause-whole
pass-requires-clause-whole c = table_length c.loop-pass.values.items c.args.captures.now (shape c.args.running.now) c.loop-pass._pass c.loop-pass.invariant.known

pub returns-then-eq : goal.returns-then-eq
returns-then-eq c =
    let captures = c.args.captures.now in
    let running = shape c.args.running.now in
    let n = c.loop-pass._pass in
    let ready = flags_are captures running n c.as_slice.result.now c.as_slice-in-loop-pass.result.now c.in_ok-ready.ready.items (c.as_slice-in-loop-pass.ensures.value ∙ c.in_ok-names.ensures) (ap seen c.as_slice.ensures.value ∙ c.loop-pass.invariant.known) c.in_ok-ready.ensures in
    let same : c.as_slice-in-loop-pass-2.result.now ≡ c.as_slice-in-loop-pass-3.result.now =
    (slice_eq-Decides booleans_Decides _ _ _ c.eq.ensures).0 c.if-eq.true in
    c.loop-pass.invariant.known
    ∙ settled captures running n (length captures) (omega (arith, c.loop-pass-test.true)) (sym ready ∙ sym c.as_slice-in-loop-pass-2.ensures.value ∙ same ∙ c.as_slice-in-loop-pass-3.ensures.value ∙ c.loop-pass.invariant.done)

pub loop-pass-preserved : goal.loop-pass-preserved
loop-pass-preserved c =
    let captures = c.args.captures.now in
    let running = shape c.args.running.now in
    let n = c.loop-pass._pass in
    let ready = flags_are captures running n c.as_slice.result.now c.as_slice-in-loop-pass.result.now c.in_ok-ready.ready.items (c.as_slice-in-loop-pass.ensures.value ∙ c.in_ok-names.ensures) (ap seen c.as_slice.ensures.value ∙ c.loop-pass.invariant.known) c.in_ok-ready.ensures in
    record {
      known = c.in_ok-pass.ensures.pass n (c.as_slice-in-loop-pass-4.ensures.value ∙ c.loop-pass.invariant.done, c.as_slice-in-loop-pass-5.ensures.value ∙ ready) c.loop-pass.invariant.known ∙ ap (tables captures running) (sym (add-one n));
      done = ready ∙ ap (λ (m : ℕ). map (was_ready captures running m) captures) (sym (add-one n));
    }

pub loop-pass-init : goal.loop-pass-init
loop-pass-init c = record { known = c.in_ok-values.ensures; done = c.in_ok-done.ensures }

pub returns : goal.returns
returns c =
    let last : c.loop-pass._pass ≡ length c.args.captures.now = omega arith in
    c.loop-pass.invariant.known ∙ ap (tables c.args.captures.now (shape c.args.running.now)) last
