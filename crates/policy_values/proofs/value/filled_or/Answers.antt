use Rattle.std.proofs.Common.{◌∙◌, List, find, is_none, ap, sym}
use Rattle.std.specs.Prelude.{option_copied}
use Rattle.doc_tree.specs.Shape.{shape}
use Rattle.policy_model.specs.Values.{place_value}
use Rattle.policy_model.specs.declared.parts.Placed.{Placed}
use Rattle.policy_values.specs.Tables.{found_in, seen}
use Rattle.policy_values.proofs.Given.{told_empty, told_nowhere, told_within}
use Rattle.policy_values.proofs.value.filled_or.Goals as goal

pub returns-in-Some : goal.returns-in-Some
returns-in-Some c =
    told_empty (found_in c.args.captures.now (seen c.args.table.now)) c.args.captures.now (shape c.args.desired.now) c.in-Some.capture.now c.in_ok-capture_at.field-0
    (sym (ap option_copied c.in-Some.is) ∙ c.in_ok-capture.ensures) c.in_ok-capture_at.ensures

pub returns-in-Some-2 : goal.returns-in-Some-2
returns-in-Some-2 c =
    let value = found_in c.args.captures.now (seen c.args.table.now) in
    told_nowhere value c.args.captures.now (shape c.args.desired.now) (sym (ap option_copied c.in_default.is) ∙ c.in_ok-capture.ensures) c.in-Some-2.placed.now c.in_ok-copy_steps.field-0
    (sym (ap option_copied c.in-Some-2.is) ∙ c.in_ok-placed.ensures ∙ ap (λ (ps : List Placed). find (λ p. is_none (place_value value p.inner)) ps) (c.as_slice.ensures.value ∙ c.in_ok-places.ensures))
    c.in_ok-copy_steps.ensures

pub returns : goal.returns
returns c =
    let value = found_in c.args.captures.now (seen c.args.table.now) in
    told_within value c.args.captures.now (shape c.args.desired.now) (sym (ap option_copied c.in_default.is) ∙ c.in_ok-capture.ensures) c.within_limits.result
    (sym (ap option_copied c.in_default-2.is) ∙ c.in_ok-placed.ensures ∙ ap (λ (ps : List Placed). find (λ p. is_none (place_value value p.inner)) ps) (c.as_slice.ensures.value ∙ c.in_ok-places.ensures))
    c.within_limits.ensures
