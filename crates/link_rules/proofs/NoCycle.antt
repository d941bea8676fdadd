-- Where the arrows of dependence don't lead round, no link depends on itself.
use Rattle.std.proofs.Common.{◌≡◌, ◌<◌, ℕ, Bool, true, false, not, ◌&&◌, List, [], ◌∷◌, map, length, filter, None, refl, subst, arith}
use Rattle.std.specs.List.{list_all}
use Rattle.std.specs.Option.{option_map}
use Rattle.reach.specs.Reach.{IsGraph, Represents}
use Rattle.reach.specs.Cycle.{target, HasRanks, Decides}
use Rattle.net_model.specs.Dependence.{depends_on, on_cycle, no_cycle}
use Rattle.net_model.specs.Valid.{names_differ}
use Rattle.net_model.specs.declared.Link.{Link}
use Rattle.reach.proofs.lemmas.Positions.{rows-IsGraph, rows-Represents}
use Rattle.net_model.proofs.lemmas.Cycles.{rows, decided_at}
use Rattle.merge_model.specs.Places.{least_name}
use Rattle.link_rules.specs.Rows.{row_below}
use Rattle.link_rules.proofs.Below.{below-Represents, below_graph}

-- ranks that fall along the arrows of one graph fall along those of another of the same members
carried : {X : Type 0} (leads : X → X → Bool) (starts : X → Bool) (xs : List X) (d : X) (one other : List (List ℕ)) (ss : List Bool) → Represents leads starts xs d one ss → Represents leads starts xs d other ss → IsGraph other → HasRanks one → HasRanks other
carried leads starts xs d one other ss a b graph r = record {
  rank = r.rank;
  falls = λ i k lt below.
      let inside : i < length xs = omega (arith, b.whole, lt) in
      let to : target other i k < length xs = omega (arith, b.whole, graph i k lt below) in
      let s = a.arrow i (target other i k) inside to (b.leading i k inside below) in
      subst (λ n. r.rank n < r.rank i) s.2 (r.falls i s.0 (omega (arith, a.whole, inside)) s.1);
}

module _ (links : List Link) (d : Link) where
  drawn : HasRanks (map (row_below links) links) → HasRanks (rows links)
  drawn = carried depends_on (λ _. false) links d (map (row_below links) links) (rows links) (map (λ _. false) links)
      (below-Represents links (λ _. false) d) (rows-Represents depends_on (λ _. false) links d) (rows-IsGraph depends_on (λ _. false) links d)

  back : HasRanks (rows links) → HasRanks (map (row_below links) links)
  back = carried depends_on (λ _. false) links d (rows links) (map (row_below links) links) (map (λ _. false) links)
      (rows-Represents depends_on (λ _. false) links d) (below-Represents links (λ _. false) d) (below_graph links)

  decides : (cycle : Bool) → Decides cycle (map (row_below links) links) → Decides cycle (rows links)
  decides false ranks = drawn ranks
  decides true none = λ r. none (back r)

-- whether the arrows lead round decides whether some link depends on itself
pub decided_for : (links : List Link) → names_differ links ≡ true → (cycle : Bool) (arrows : List (List ℕ)) → arrows ≡ map (row_below links) links → Decides cycle arrows → not cycle ≡ no_cycle links
decided_for [] differ false arrows e decides_it = refl
decided_for [] differ true arrows e decides_it = absurd (subst (λ a. HasRanks a → ⊥) e decides_it (record { rank = λ _. 0; falls = λ i k lt below. absurd (omega arith) }))
decided_for (x ∷ xs) differ cycle arrows e decides_it = decided_at (x ∷ xs) x differ cycle (decides (x ∷ xs) x cycle (subst (Decides cycle) e decides_it))

none_pass : {X : Type 0} (p : X → Bool) (xs : List X) → list_all (λ x. not (p x)) xs ≡ true → filter p xs ≡ []
none_pass p [] h = refl
none_pass p (x ∷ xs) h = elim (p x) as (λ v. p x ≡ v → (not v && list_all (λ y. not (p y)) xs) ≡ true → filter p (x ∷ xs) ≡ []) [
  | true ↦ λ e none. absurd cc
  | false ↦ λ e none. rw e (none_pass p xs none)
] refl h

-- and then there is no least name
pub none_least : (links : List Link) → no_cycle links ≡ true → None ≡ option_map (λ (l : Link). l.name) (least_name (filter (on_cycle links) links))
none_least links none = rw (none_pass (on_cycle links) links none) refl
