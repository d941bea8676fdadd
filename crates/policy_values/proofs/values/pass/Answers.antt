use Rattle.std.proofs.Common.{◌∙◌, ap, sym, add-one}
use Rattle.doc_tree.specs.Shape.{shape}
use Rattle.policy_values.specs.Tables.{halfway}
use Rattle.policy_values.proofs.Advance.{halfway_all}
use Rattle.policy_values.proofs.values.pass.Goals as goal

pub loop-i-preserved : goal.loop-i-preserved
loop-i-preserved c = record {
  whole = c.in_ok-bring_on.ensures.whole;
  half = λ n are known. c.in_ok-bring_on.ensures.step n are (c.loop-i.invariant.half n are known) ∙ ap (halfway c.args.captures.now (shape c.args.running.now) n) (sym (add-one c.loop-i.i));
}

pub returns : goal.returns
returns c = record {
  pass = λ n are known. c.loop-i.invariant.half n are known ∙ halfway_all c.args.captures.now (shape c.args.running.now) n c.loop-i.i c.loop-i-test.false;
}
