use Rattle.std.proofs.Common.{rules, ◌≡◌, ℕ, List, map, refl}
use Rattle.link_planner.specs.Depths.{by_base}
use Rattle.link_planner.proofs.Placing.{base_first, moved_all, moved_count}
use Rattle.link_planner.proofs.order.by_depth.Goals as goal

pub returns-clause-order : goal.returns-clause-order
returns-clause-order c =
    let are : c.in_ok-names.names.items ≡ map (λ (p : ℕ × List ℕ). p.1) c.sort_places.new.places.items = search rules in
    base_first c.args.net.now c.laws.ensures.facts c.in_ok-places.places.items c.sort_places.new.places.items c.in_ok-places.ensures c.sort_places.ensures.moved c.in_ok-sort_places.ensures.sorted c.in_ok-names.names.items are

pub returns-clause-all : goal.returns-clause-all
returns-clause-all c =
    let are : c.in_ok-names.names.items ≡ map (λ (p : ℕ × List ℕ). p.1) c.sort_places.new.places.items = search rules in
    moved_all c.args.net.now.links (by_base c.args.net.now.links) (λ l. refl) c.in_ok-places.places.items c.sort_places.new.places.items c.in_ok-places.ensures c.sort_places.ensures.moved c.in_ok-names.names.items are

pub returns-clause-count : goal.returns-clause-count
returns-clause-count c =
    let are : c.in_ok-names.names.items ≡ map (λ (p : ℕ × List ℕ). p.1) c.sort_places.new.places.items = search rules in
    moved_count c.args.net.now.links (by_base c.args.net.now.links) c.in_ok-places.places.items c.sort_places.new.places.items c.in_ok-places.ensures c.sort_places.ensures.moved c.in_ok-names.names.items are
