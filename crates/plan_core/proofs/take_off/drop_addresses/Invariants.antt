use Rattle.std.proofs.Common.{take}
use Rattle.net_model.specs.Valid.{address_count}
use Rattle.plan_core.specs.Steps.{TakesOff}
use Rattle.plan_core.proofs.Linking.{FirstFit}
use Rattle.plan_core.proofs.take_off.drop_addresses.Given as goal

abbrev pub invariant-loop-link : goal.invariant-loop-link
invariant-loop-link l = TakesOff (address_count (take l.link-index l.initial.draft.start.links)) (FirstFit l.link-index) l.initial.draft l.draft
