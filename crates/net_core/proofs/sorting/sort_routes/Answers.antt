use Rattle.std.proofs.Common.{rules}
use Rattle.std.proofs.lemmas.Result.{on_ok_weaker}
use Rattle.std.proofs.lemmas.List.Sorted.{answers_always}
use Rattle.net_model.specs.declared.route.Route.{Route}
use Rattle.net_core.proofs.sorting.sort_routes.Goals as goal

pub returns-clause-sorted : goal.returns-clause-sorted
returns-clause-sorted c =
    on_ok_weaker c.sort_by_key.result (λ s. s (λ (l : Route). (l.dest, l.table, l.metric)) (answers_always _ _ _ (λ f a r g k. search rules))) c.sort_by_key.ensures.sorted
