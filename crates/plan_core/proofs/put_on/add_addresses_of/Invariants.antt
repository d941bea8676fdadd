use Rattle.net_model.specs.Valid.{same_block}
use Rattle.link_planner.specs.Drafts.{DraftData}
use Rattle.plan_core.specs.Parts.{HasAddress}
use Rattle.plan_core.specs.Steps.{PutsOn}
use Rattle.plan_core.proofs.Stepping.{OfFirst}
use Rattle.plan_core.proofs.put_on.add_addresses_of.Given as goal

abbrev pub invariant-loop-addr : goal.invariant-loop-addr
invariant-loop-addr l = PutsOn l.addr-index (OfFirst same_block (λ (e : DraftData). HasAddress e.net l.there.name) (λ (e : DraftData). l.there.addrs) l.addr-index) l.initial.draft l.draft
