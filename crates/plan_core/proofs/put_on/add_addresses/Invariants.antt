use Rattle.std.proofs.Common.{take}
use Rattle.net_model.specs.Valid.{address_count}
use Rattle.plan_core.specs.Steps.{PutsOn}
use Rattle.plan_core.proofs.Linking.{FirstFilled}
use Rattle.plan_core.proofs.put_on.add_addresses.Given as goal

abbrev pub invariant-loop-there : goal.invariant-loop-there
invariant-loop-there l = PutsOn (address_count (take l.there-index l.initial.draft.target.links)) (FirstFilled l.there-index) l.initial.draft l.draft
