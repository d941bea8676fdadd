use Rattle.std.proofs.Common.{◌≡◌, List, Ok, subst}
use Rattle.doc_tree.specs.Shape.{shape}
use Rattle.policy_model.specs.Policies.{sound_or}
use Rattle.policy_model.specs.declared.Capture.{Capture}
use Rattle.policy_lang.proofs.Wanted.{wanted_distinct, wanted_short}
use Rattle.policy_lang.proofs.policy.policy_of.Goals as goal

pub invariant_of-result : goal.invariant_of-result
invariant_of-result c = record {
  sound = subst (λ (cs : List Capture). sound_or (record { captures = cs; desired = shape c.in_ok-desired.desired }) ≡ Ok (record { captures = cs; desired = shape c.in_ok-desired.desired })) c.as_slice.ensures.value c.in_ok-first_fault.ensures;
  distinct = wanted_distinct (shape c.args.tree.now) (shape c.in_ok-desired.desired) c.in_ok-desired.ensures c.requires.distinct;
  short = wanted_short (shape c.args.tree.now) (shape c.in_ok-desired.desired) c.in_ok-desired.ensures c.requires.short;
}
