use Rattle.std.proofs.Common.{sym, ap, ◌∙◌, false}
use Rattle.std.specs.Option.{option_map_or}
use Rattle.net_model.specs.Name.{same_bytes}
use Rattle.link_order.proofs.Leads.{led_by, led_mentioned, led_nowhere}
use Rattle.link_order.proofs.ranking.leader.Goals as goal

pub returns-then-is_mentioned : goal.returns-then-is_mentioned
returns-then-is_mentioned c = led_mentioned c.args.net.now.links c.args.entries.now c.args.link.now (sym c.is_mentioned.ensures ∙ c.if-is_mentioned.true)

pub returns-in-Some : goal.returns-in-Some
returns-in-Some c =
    led_by c.args.net.now.links c.args.entries.now c.args.link.now c.in-Some.name c.place_of.result (sym c.is_mentioned.ensures ∙ c.if-is_mentioned.false)
    (λ q. ap (λ o. option_map_or (λ n. same_bytes n q) o false) (sym c.in-Some.is) ∙ c.hangs_on.ensures q) c.place_of.ensures

pub returns-in-None : goal.returns-in-None
returns-in-None c =
    led_nowhere c.args.net.now.links c.args.entries.now c.args.link.now (λ q. ap (λ o. option_map_or (λ n. same_bytes n q) o false) (sym c.in-None.is) ∙ c.hangs_on.ensures q)
