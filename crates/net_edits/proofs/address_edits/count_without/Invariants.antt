use Rattle.std.proofs.Common.{◌≡◌, ◌+◌, not, filter, length}
use Rattle.std.specs.List.{sum_by}
use Rattle.net_model.specs.Words.{is_among}
use Rattle.net_model.specs.Valid.{address_count}
use Rattle.net_lists.proofs.lemmas.Counting.{own_count}
use Rattle.net_edits.proofs.address_edits.count_without.Given as goal

-- what is counted are those of the links that stay and of the names that are left
abbrev pub invariant-loop-name : goal.invariant-loop-name
invariant-loop-name l = l.count ≡ address_count (filter (λ k. not (is_among l.fn.goes k.name)) l.links) + sum_by (own_count l.links) l.left

abbrev pub decreases-loop-name : goal.decreases-loop-name
decreases-loop-name l = length l.left
