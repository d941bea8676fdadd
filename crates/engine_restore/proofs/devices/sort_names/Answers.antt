use Rattle.std.proofs.Common.{rules}
use Rattle.std.proofs.lemmas.Map.Lookups.{exact_bytes}
use Rattle.std.proofs.lemmas.Result.{on_ok_weaker}
use Rattle.std.specs.Cmp.{IsTotalOrder}
use Rattle.std.specs.Cmp.Rules.{comparing}
use Rattle.net_model.specs.Order.{name_cmp}
use Rattle.net_model.proofs.lemmas.Rises.{Climbs-sorted}
use Rattle.net_model.proofs.lemmas.Sorting.{exact_sorted}
use Rattle.engine_restore.proofs.devices.sort_names.Goals as goal

name_cmp_total : IsTotalOrder name_cmp
name_cmp_total = search (comparing, rules)

pub returns : goal.returns
returns c = on_ok_weaker c.sort.result
    (λ up. exact_sorted name_cmp name_cmp_total exact_bytes c.args.names.now.items c.sort.new.self.items c.sort.ensures.permutation (Climbs-sorted name_cmp name_cmp_total c.sort.new.self.items up))
    c.sort.ensures.sorted
