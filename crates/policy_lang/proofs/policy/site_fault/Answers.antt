use Rattle.std.proofs.Common.{◌∙◌, option_copied, sym, ap}
use Rattle.doc_tree.specs.Shape.{shape}
use Rattle.policy_lang.proofs.Faults.{unread_first, unknown_first, cycle_first, no_fault}
use Rattle.policy_lang.proofs.policy.site_fault.Goals as goal

pub returns-in-Ok : goal.returns-in-Ok
returns-in-Ok c =
    unread_first (record { captures = c.args.captures.now; desired = shape c.args.desired.now }) c.args.sites.now c.requires _ _ (ap option_copied (sym c.in-Some.is) ∙ c.first_unread.ensures) c.in-Ok.ensures

pub returns-in-Ok-copy_steps : goal.returns-in-Ok-copy_steps
returns-in-Ok-copy_steps c =
    unknown_first (record { captures = c.args.captures.now; desired = shape c.args.desired.now }) c.args.sites.now c.requires (ap option_copied (sym c.in_default.is) ∙ c.first_unread.ensures) _ _
    (ap option_copied (sym c.in-Some-first_unknown.is) ∙ c.first_unknown.ensures) c.in-Ok-copy_steps.ensures

pub returns-in-Ok-capture_at : goal.returns-in-Ok-capture_at
returns-in-Ok-capture_at c =
    cycle_first (record { captures = c.args.captures.now; desired = shape c.args.desired.now }) c.args.sites.now c.requires (ap option_copied (sym c.in_default.is) ∙ c.first_unread.ensures) (ap option_copied (sym c.in_default-first_unknown.is) ∙ c.first_unknown.ensures) _ _
    (ap option_copied (sym c.in-Ok-Some.field-0-is) ∙ c.in-Ok-Some.ensures) c.in-Ok-capture_at.ensures

pub returns-in-Ok-None : goal.returns-in-Ok-None
returns-in-Ok-None c =
    no_fault (record { captures = c.args.captures.now; desired = shape c.args.desired.now }) c.args.sites.now c.requires (ap option_copied (sym c.in_default.is) ∙ c.first_unread.ensures) (ap option_copied (sym c.in_default-first_unknown.is) ∙ c.first_unknown.ensures)
    (ap option_copied (sym c.in-Ok-None.field-0-is) ∙ c.in-Ok-None.ensures)
