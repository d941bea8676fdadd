use Rattle.std.proofs.Common.{◌∙◌, sym, find}
use Rattle.policy_model.specs.Policies.{names_unknown}
use Rattle.policy_lang.proofs.lemmas.Walks.{all_passed}
use Rattle.policy_lang.proofs.Walks.{not_this, this_one}
use Rattle.policy_lang.proofs.sites.first_unknown.Goals as goal

pub loop-site-preserved : goal.loop-site-preserved
loop-site-preserved c = not_this (names_unknown c.args.captures.now) c.args.sites.now c.loop-site.site-index c.loop-site.invariant c.site-item.result c.loop-site-test.true c.site-item.is (sym c.if-names_unknown.false ∙ c.names_unknown.ensures)

pub returns-then-names_unknown : goal.returns-then-names_unknown
returns-then-names_unknown c = this_one (names_unknown c.args.captures.now) c.args.sites.now c.loop-site.site-index c.loop-site.invariant c.site-item.result c.loop-site-test.true c.site-item.is (sym c.if-names_unknown.true ∙ c.names_unknown.ensures)

pub returns : goal.returns
returns c = all_passed (find (names_unknown c.args.captures.now)) c.args.sites.now c.loop-site.site-index _ c.loop-site.invariant c.loop-site-test.false
