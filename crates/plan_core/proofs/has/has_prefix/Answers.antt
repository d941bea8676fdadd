use Rattle.std.proofs.Common.{◌∙◌, sym, rules}
use Rattle.net_model.specs.Address.{Block}
use Rattle.net_model.specs.Valid.{same_address, same_block}
use Rattle.plan_core.proofs.Places.{none_less, as_there}
use Rattle.plan_core.proofs.Exact.{block_key}
use Rattle.plan_core.proofs.has.has_prefix.Goals as goal

pub returns-in-At : goal.returns-in-At
returns-in-At c = c.is_same_prefix.ensures ∙ as_there (λ (a b : Block). same_address a.addr b.addr) same_block c.args.prefix.now (block_key c.args.prefix.now) c.args.addrs.now c.in-At.i c.in-At.ensures c.index-addrs-i.result (λ d. search rules)

pub returns-in-Gap : goal.returns-in-Gap
returns-in-Gap c = sym (none_less (same_block c.args.prefix.now) (λ (b : Block). same_address c.args.prefix.now.addr b.addr) (block_key c.args.prefix.now) c.args.addrs.now c.in-Gap.ensures.none)
