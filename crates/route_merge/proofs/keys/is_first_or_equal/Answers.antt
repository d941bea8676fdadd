use Rattle.std.proofs.Common.{◌≡◌, Some, sym, ap, ◌∙◌}
use Rattle.std.specs.BTreeMap.{get}
use Rattle.route_merge.specs.Keys.{key_of, key_cmp}
use Rattle.route_merge.proofs.SameKeys.{one_equal_more, one_first_more}
use Rattle.route_merge.proofs.keys.is_first_or_equal.Goals as goal

pub returns-in-Some-clause-equal : goal.returns-in-Some-clause-equal
returns-in-Some-clause-equal c =
    let found : get key_cmp c.args.firsts.now (key_of c.args.route.now) ≡ Some c.in-Some.first.now = ap (get key_cmp c.args.firsts.now) (sym c.key_of.ensures) ∙ sym c.in-Some.ensures.value in
    rw found c.same_route.ensures

pub returns-in-Some-clause-firsts : goal.returns-in-Some-clause-firsts
returns-in-Some-clause-firsts c = λ equal seen at h.
    one_equal_more seen at c.args.route.now c.in-Some.first.now c.args.firsts.now h (ap (get key_cmp c.args.firsts.now) (sym c.key_of.ensures) ∙ sym c.in-Some.ensures.value) (sym c.same_route.ensures ∙ equal)

pub returns-clause-firsts : goal.returns-clause-firsts
returns-clause-firsts c = λ equal seen at h.
    one_first_more seen at c.args.route.now c.key_of-2.result c.args.firsts.now c.insert.new.self c.key_of-2.ensures h (ap (get key_cmp c.args.firsts.now) (sym c.key_of.ensures) ∙ sym c.in_default.ensures.value) c.in_ok-insert.ensures.updates
