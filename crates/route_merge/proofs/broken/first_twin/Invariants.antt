use Rattle.std.proofs.Common.{◌≡◌, ◌&&◌, not, [], take, drop}
use Rattle.net_model.specs.Valid.{same_key}
use Rattle.merge_model.specs.Routes.{same_route}
use Rattle.merge_model.specs.Places.{first_second}
use Rattle.merge_model.proofs.lemmas.FirstSecond.{seen_so_far}
use Rattle.route_merge.specs.Keys.{HasFirsts}
use Rattle.route_merge.proofs.broken.first_twin.Given as goal

-- the map has the first of each key so far, and the twin is looked for among the routes that are left
abbrev pub invariant-loop-i : goal.invariant-loop-i
invariant-loop-i l = HasFirsts l.firsts (take l.i l.stated) × (first_second (λ a b. same_key a.1 b.1 && not (same_route a.1 b.1)) (seen_so_far [] (take l.i l.stated)) (drop l.i l.stated) ≡ first_second (λ a b. same_key a.1 b.1 && not (same_route a.1 b.1)) [] l.stated)
