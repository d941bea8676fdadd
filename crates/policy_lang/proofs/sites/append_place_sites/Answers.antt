use Rattle.policy_model.specs.Policies.{place_site}
use Rattle.policy_lang.proofs.Walks.{rows_on}
use Rattle.policy_lang.proofs.sites.append_place_sites.Goals as goal

pub loop-placed-preserved : goal.loop-placed-preserved
loop-placed-preserved c =
    rows_on place_site c.args.places.now c.loop-placed.placed-index c.args.sites.now.items c.loop-placed.sites.items _ c.placed-item.result c.in_ok-place_site.field-0 c.loop-placed.invariant
    c.loop-placed-test.true c.placed-item.is c.in_ok-place_site.ensures c.in_ok-push.ensures.items
