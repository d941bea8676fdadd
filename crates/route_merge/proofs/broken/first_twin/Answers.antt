use Rattle.std.proofs.Common.{ℕ, Bool, ◌&&◌, not, [], ◌∷◌, ◌++◌, take, sym, ap, subst, ◌∙◌, arith}
use Rattle.net_model.specs.Valid.{same_key}
use Rattle.net_model.specs.declared.Route.{Route}
use Rattle.merge_model.specs.Routes.{same_route}
use Rattle.merge_model.proofs.lemmas.Steps.{take_one}
use Rattle.merge_model.proofs.lemmas.FirstSecond.{second_here, second_later}
use Rattle.route_merge.specs.Keys.{HasFirsts}
use Rattle.route_merge.proofs.SameKeys.{is_twin}
use Rattle.route_merge.proofs.broken.first_twin.Goals as goal

abbrev twin : ℕ × Route → ℕ × Route → Bool
twin a b = same_key a.1 b.1 && not (same_route a.1 b.1)

pub returns-then-not-branch : goal.returns-then-not-branch
returns-then-not-branch c =
    sym (second_here twin c.args.stated.now c.loop-i.i c.index-stated-i.result (omega (arith, c.loop-i-test.true)) c.index-stated-i.is
    (is_twin (take c.loop-i.i c.args.stated.now) c.index-stated-i.result c.route.result.now c.loop-i.firsts c.in_ok-is_first_or_equal.field-0 c.route.ensures c.loop-i.invariant.0 c.in_ok-is_first_or_equal.ensures.equal
    ∙ ap not c.if-not-branch.true))
    ∙ c.loop-i.invariant.1

pub loop-i-preserved : goal.loop-i-preserved
loop-i-preserved c = (
  subst (HasFirsts c.is_first_or_equal.new.firsts) (ap (λ (r : Route). take c.loop-i.i c.args.stated.now ++ (c.index-stated-i.result.0, r) ∷ []) c.route.ensures ∙ sym (take_one c.args.stated.now c.loop-i.i c.index-stated-i.result (omega (arith, c.loop-i-test.true)) c.index-stated-i.is))
      (c.in_ok-is_first_or_equal.ensures.firsts c.if-not-branch.false (take c.loop-i.i c.args.stated.now) c.index-stated-i.result.0 c.loop-i.invariant.0),
  second_later twin c.args.stated.now c.loop-i.i c.index-stated-i.result (omega (arith, c.loop-i-test.true)) c.index-stated-i.is
      (is_twin (take c.loop-i.i c.args.stated.now) c.index-stated-i.result c.route.result.now c.loop-i.firsts c.in_ok-is_first_or_equal.field-0 c.route.ensures c.loop-i.invariant.0 c.in_ok-is_first_or_equal.ensures.equal
      ∙ ap not c.if-not-branch.false)
      ∙ c.loop-i.invariant.1,
)
