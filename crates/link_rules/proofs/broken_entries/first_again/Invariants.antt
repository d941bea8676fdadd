use Rattle.std.proofs.Common.{◌≡◌, [], take, drop}
use Rattle.net_model.specs.Name.{same_bytes}
use Rattle.merge_model.specs.Places.{first_second}
use Rattle.merge_model.proofs.lemmas.FirstSecond.{seen_so_far}
use Rattle.link_rules.proofs.broken_entries.first_again.Given as goal

-- it is looked for among those that are left
abbrev pub invariant-loop-i : goal.invariant-loop-i
invariant-loop-i l = first_second (λ a b. same_bytes a.name b.name) (seen_so_far [] (take l.i l.list)) (drop l.i l.list) ≡ first_second (λ a b. same_bytes a.name b.name) [] l.list
