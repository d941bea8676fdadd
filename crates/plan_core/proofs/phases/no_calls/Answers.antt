use Rattle.std.proofs.Common.{[], refl, sym, subst, arith}
use Rattle.plan_model.specs.Plans.{IsPlan}
use Rattle.plan_core.proofs.phases.no_calls.Goals as goal

pub returns : goal.returns
returns c =
    let plan : IsPlan c.args.now_net.now c.args.to_net.now [] = record {
      run = sym c.requires;
      gentle = c.plan_laws.ensures.gentle c.args.now_net.now c.args.to_net.now [] c.args.now_net.now refl;
      short = omega arith;
      idle = λ same. refl;
    } in
    subst (IsPlan c.args.now_net.now c.args.to_net.now) (sym c.new-calls.ensures.items) plan
