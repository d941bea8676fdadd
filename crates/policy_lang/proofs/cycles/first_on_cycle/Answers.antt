use Rattle.std.proofs.Common.{◌∙◌, sym, find}
use Rattle.policy_model.specs.Policies.{reaches_itself}
use Rattle.policy_lang.proofs.lemmas.Walks.{all_passed}
use Rattle.policy_lang.proofs.Walks.{not_this, this_one}
use Rattle.policy_lang.proofs.cycles.first_on_cycle.Goals as goal

pub loop-i-preserved : goal.loop-i-preserved
loop-i-preserved c =
    not_this (reaches_itself c.args.captures.now) c.args.captures.now c.loop-i.i c.loop-i.invariant c.index-captures-i.result c.loop-i-test.true c.index-captures-i.is (sym c.if-branch.false ∙ c.in_ok-reaches_itself.ensures)

pub returns-then-branch : goal.returns-then-branch
returns-then-branch c =
    this_one (reaches_itself c.args.captures.now) c.args.captures.now c.loop-i.i c.loop-i.invariant c.index-captures-i.result c.loop-i-test.true c.index-captures-i.is (sym c.if-branch.true ∙ c.in_ok-reaches_itself.ensures)

pub returns : goal.returns
returns c = all_passed (find (reaches_itself c.args.captures.now)) c.args.captures.now c.loop-i.i _ c.loop-i.invariant c.loop-i-test.false
