use Rattle.std.proofs.Common.{◌∙◌, sym, find}
use Rattle.policy_model.specs.Policies.{is_unread}
use Rattle.policy_lang.proofs.lemmas.Walks.{all_passed}
use Rattle.policy_lang.proofs.Walks.{not_this, this_one}
use Rattle.policy_lang.proofs.sites.first_unread.Goals as goal

pub loop-site-preserved : goal.loop-site-preserved
loop-site-preserved c = not_this is_unread c.args.sites.now c.loop-site.site-index c.loop-site.invariant c.site-item.result c.loop-site-test.true c.site-item.is (sym c.if-is_unread.false ∙ c.is_unread.ensures)

pub returns-then-is_unread : goal.returns-then-is_unread
returns-then-is_unread c = this_one is_unread c.args.sites.now c.loop-site.site-index c.loop-site.invariant c.site-item.result c.loop-site-test.true c.site-item.is (sym c.if-is_unread.true ∙ c.is_unread.ensures)

pub returns : goal.returns
returns c = all_passed (find is_unread) c.args.sites.now c.loop-site.site-index _ c.loop-site.invariant c.loop-site-test.false
