use Rattle.std.proofs.Common.{true, false, sym, ◌∙◌}
use Rattle.net_model.specs.NetData.{IsNet}
use Rattle.net_model.proofs.lemmas.InOrder.{in_order_passes, sorted_in_order, is_net_exact, no_net-order, no_net-broken, tested}
use Rattle.net_core.proofs.net.Net.of_parts.Goals as goal

pub least_broken-requires : goal.least_broken-requires
least_broken-requires c = sorted_in_order c.args.parts (in_order_passes c.args.parts (sym c.is_in_order.ensures ∙ c.if-not-is_in_order.false))

pub invariant_of-result : goal.invariant_of-result
invariant_of-result c = record {
  valid = sym c.in_ok-least_broken.ensures ∙ c.in-None.is;
  in_order = in_order_passes c.args.parts (sym c.is_in_order.ensures ∙ c.if-not-is_in_order.false);
}

pub returns-then-not-is_in_order : goal.returns-then-not-is_in_order
returns-then-not-is_in_order c = tested c.args.parts false (no_net-order c.args.parts (sym c.is_in_order.ensures ∙ c.if-not-is_in_order.true))

pub returns-in-Some : goal.returns-in-Some
returns-in-Some c = tested c.args.parts false (no_net-broken c.args.parts c.in-Some.field-0 (sym c.in_ok-least_broken.ensures ∙ c.in-Some.is))

pub returns-in-None : goal.returns-in-None
returns-in-None c =
    let is : IsNet c.args.parts = record {
      valid = sym c.in_ok-least_broken.ensures ∙ c.in-None.is;
      in_order = in_order_passes c.args.parts (sym c.is_in_order.ensures ∙ c.if-not-is_in_order.false);
    } in
    tested c.args.parts true ((is_net_exact c.args.parts).1 is)
