-- Links depend on each other in a cycle exactly where the arrows of dependence lead round.
use Rattle.std.proofs.Common.{◌≡◌, ℕ, ◌<◌, zero, suc, Bool, true, false, not, ◌&&◌, ◌||◌, List, [], ◌∷◌, map, length, get_or, Some, refl, sym, ap, subst, ◌∙◌, arith}
use Rattle.reach.specs.Reach.{is_reached, IsGraph, Represents}
use Rattle.reach.specs.Cycle.{target, HasRanks, Decides}
use Rattle.reach.specs.Positions.{positions}
use Rattle.reach.proofs.lemmas.Least.{any_index}
use Rattle.net_model.specs.Words.{rises}
use Rattle.net_model.specs.Order.{link_cmp}
use Rattle.net_model.specs.Links.{find_link, is_named, same_name}
use Rattle.net_model.specs.Dependence.{depends_on, on_cycle, no_cycle}
use Rattle.net_model.specs.Arrows.{Draws}
use Rattle.net_model.specs.Valid.{names_differ}
use Rattle.net_model.specs.declared.link.Link.{Link}
use Rattle.net_model.proofs.lemmas.Truth.{and_left, and_right}
use Rattle.net_model.proofs.lemmas.Orders.{link_cmp_total}
use Rattle.net_model.proofs.lemmas.Found.{itself, found_at, names_tie, names_differ-rises}
use Rattle.reach.proofs.lemmas.Positions.{rows-IsGraph, rows-Represents, all_places}
use Rattle.net_model.proofs.lemmas.Drawn.{drawn-IsGraph, drawn-Represents}
use Rattle.net_model.proofs.lemmas.Places.{only_itself}
use Rattle.net_model.proofs.lemmas.Ranks.{or_elim, rank-falls}
use Rattle.reach.proofs.lemmas.Saturate.{tally}
use Rattle.net_model.specs.Dependence.{reaches}

-- for each link, the places of those that it depends on
abbrev pub rows : List Link → List (List ℕ)
rows links = map (λ l. positions (depends_on l) 0 links) links

module _ (links : List Link) (d : Link) (differ : names_differ links ≡ true) (arrows : List (List ℕ)) (is_graph : IsGraph arrows) (graph : Represents depends_on (λ l. false) links d arrows (map (λ l. false) links)) where
  -- what is reached has a lower rank
  lower : (r : HasRanks arrows) (i : ℕ) → i < length links → (steps j : ℕ) → j < length links → is_reached depends_on (is_named (get_or links i d).name) links steps (get_or links j d) ≡ true → r.rank j < r.rank i
  lower r i lt zero j below h = absurd cc
  lower r i lt (suc steps) j below h =
      let n = (get_or links i d).name in
      let c = any_index (λ c. depends_on c (get_or links j d) && (is_named (get_or links i d).name c || is_reached depends_on (is_named (get_or links i d).name) links steps c)) links d h in
      let on = and_left (depends_on (get_or links c.0 d) (get_or links j d)) (is_named (get_or links i d).name (get_or links c.0 d) || is_reached depends_on (is_named (get_or links i d).name) links steps (get_or links c.0 d)) c.2 in
      let either = and_right (depends_on (get_or links c.0 d) (get_or links j d)) (is_named (get_or links i d).name (get_or links c.0 d) || is_reached depends_on (is_named (get_or links i d).name) links steps (get_or links c.0 d)) c.2 in
      let arrow = graph.arrow c.0 j c.1 below on in
      let step : r.rank j < r.rank c.0 = subst (λ m. r.rank m < r.rank c.0) arrow.2 (r.falls c.0 arrow.0 (omega (arith, graph.whole, c.1)) arrow.1) in
      or_elim (is_named (get_or links i d).name (get_or links c.0 d)) (is_reached depends_on (is_named (get_or links i d).name) links steps (get_or links c.0 d)) (r.rank j < r.rank i)
      (λ e. subst (λ m. r.rank j < r.rank m) (only_itself same_name link_cmp link_cmp_total names_tie links differ i c.0 d lt c.1 e) step)
      (λ e. omega (arith, step, lower r i lt steps c.0 c.1 e))
      either

  off : (b : Bool) → (b ≡ true → ⊥) → b ≡ false
  off true h = absurd (h refl)
  off false h = refl

  ranked_none : HasRanks arrows → no_cycle links ≡ true
  ranked_none r = all_places (on_cycle links) links (λ k e lt. at_default k e lt (off (on_cycle links (get_or links k d)) (λ on. absurd (omega (arith, lower r k lt (length links) k lt on)))))
    where
      same : (xs : List Link) (k : ℕ) (e : Link) → k < length xs → get_or xs k d ≡ get_or xs k e
      same [] k e lt = absurd (omega arith)
      same (x ∷ xs) zero e lt = refl
      same (x ∷ xs) (suc k) e lt = same xs k e (omega arith)

      at_default : (k : ℕ) (e : Link) → k < length links → on_cycle links (get_or links k d) ≡ false → on_cycle links (get_or links k e) ≡ false
      at_default k e lt h = ap (on_cycle links) (sym (same links k e lt)) ∙ h

  none_ranked : no_cycle links ≡ true → HasRanks arrows
  none_ranked none = record {
    rank = λ j. tally (reaches links (length links) (get_or links j d).name) links;
    falls = λ i k lt below.
        let inside : i < length links = omega (arith, graph.whole, lt) in
        let to : target arrows i k < length links = omega (arith, graph.whole, is_graph i k lt below) in
        let here : find_link (get_or links i d).name links ≡ Some (get_or links i d) = found_at links (get_or links i d).name i d differ inside (itself (get_or links i d).name) in
        let there : find_link (get_or links (target arrows i k) d).name links ≡ Some (get_or links (target arrows i k) d) = found_at links (get_or links (target arrows i k) d).name (target arrows i k) d differ to (itself (get_or links (target arrows i k) d).name) in
        rank-falls links differ none (get_or links i d) (get_or links (target arrows i k) d) here there (graph.leading i k inside below);
  }

  decided_graph : (cycle : Bool) → Decides cycle arrows → not cycle ≡ no_cycle links
  decided_graph false ranks = sym (ranked_none ranks)
  decided_graph true no_ranks = sym (off (no_cycle links) (λ h. no_ranks (none_ranked h)))

-- whether the rows of the links lead round decides whether links depend on each other in a cycle
pub decided_at : (links : List Link) (d : Link) → names_differ links ≡ true → (cycle : Bool) → Decides cycle (rows links) → not cycle ≡ no_cycle links
decided_at links d differ = decided_graph links d differ (rows links) (rows-IsGraph depends_on (λ l. false) links d) (rows-Represents depends_on (λ l. false) links d)

-- and so do the arrows that are drawn
pub decided_links : (links : List Link) → rises link_cmp links ≡ true → (cycle : Bool) (arrows : List (List ℕ)) → Draws links (length links) (length links) arrows → Decides cycle arrows → not cycle ≡ no_cycle links
decided_links [] up false arrows drawn decides = refl
decided_links [] up true arrows drawn decides = absurd (decides (record { rank = λ _. 0; falls = λ i k lt below. absurd (omega (arith, lt, drawn.whole)) }))
decided_links (x ∷ xs) up cycle arrows drawn decides = decided_graph (x ∷ xs) x (names_differ-rises (x ∷ xs) up) arrows (drawn-IsGraph (x ∷ xs) arrows drawn) (drawn-Represents (x ∷ xs) arrows drawn (λ _. false) x) cycle decides
