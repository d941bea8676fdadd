use Rattle.net_model.specs.Valid.{same_block}
use Rattle.link_planner.specs.Drafts.{DraftData}
use Rattle.plan_core.specs.Parts.{AddressFits}
use Rattle.plan_core.specs.Steps.{TakesOff}
use Rattle.plan_core.proofs.Stepping.{OfFirst}
use Rattle.plan_core.proofs.take_off.drop_addresses_of.Given as goal

abbrev pub invariant-loop-addr : goal.invariant-loop-addr
invariant-loop-addr l = TakesOff l.addr-index (OfFirst same_block (λ (e : DraftData). AddressFits e.target e.net l.link.name) (λ (e : DraftData). l.link.addrs) l.addr-index) l.initial.draft l.draft
