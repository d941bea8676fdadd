use Rattle.std.proofs.Common.{rules, ℕ, List}
use Rattle.std.proofs.lemmas.Result.{on_ok_weaker}
use Rattle.std.proofs.lemmas.List.Sorted.{answers_always, IsNonDecreasingBy-from_sort}
use Rattle.link_planner.proofs.order.sort_places.Goals as goal

pub returns-clause-sorted : goal.returns-clause-sorted
returns-clause-sorted c =
    on_ok_weaker c.sort_by_key.result (λ s. IsNonDecreasingBy-from_sort (λ (p : ℕ × List ℕ). p.0) c.sort_by_key.new.self.items (s (λ (p : ℕ × List ℕ). p.0) (answers_always _ _ _ (λ f a r g k. search rules)))) c.sort_by_key.ensures.sorted
