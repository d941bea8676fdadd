use Rattle.std.proofs.Common.{◌∙◌, sym, ap}
use Rattle.std.specs.List.{list_any}
use Rattle.document_model.specs.declared.Claim.TheVariants.{To}
use Rattle.merge_model.specs.BrokenPorts.{same_claim}
use Rattle.link_members.specs.Listers.{rivals}
use Rattle.link_rules.proofs.Contradicted.{by_first, contradicted, uncontradicted}
use Rattle.link_rules.proofs.ports.is_contradicted.Goals as goal

pub returns-then-not-same_claim : goal.returns-then-not-same_claim
returns-then-not-same_claim c =
    by_first c.same_claim.result (same_claim c.args.claim (To c.in-Some.first.now.name)) (list_any (rivals c.args.members.now c.args.name.now) c.args.members.now)
    (c.same_claim.ensures ∙ ap (λ n. same_claim c.args.claim (To n)) c.name.ensures)
    c.if-not-same_claim.true
    ∙ sym (contradicted c.args.members.now c.args.name.now c.args.claim c.in-Some.first.now (sym c.in-Some.ensures))

pub returns-in-None : goal.returns-in-None
returns-in-None c = sym (uncontradicted c.args.members.now c.args.name.now c.args.claim (sym c.in-None.ensures))
