use Rattle.std.proofs.Common.{◌∙◌, ◌+◌, ◌++◌, ◌∷◌, [], ℕ, List, cond, drop, refl, sym, ap, append_assoc, Vec, Global}
use Rattle.reach.specs.Positions.{positions}
use Rattle.policy_model.specs.Policies.{have_name}
use Rattle.policy_model.specs.declared.Capture.{Capture}
use Rattle.policy_lang.proofs.lemmas.Walks.{passed}
use Rattle.policy_lang.proofs.Walks.{found_all}
use Rattle.policy_lang.proofs.cycles.places_of.Goals as goal
use Rattle.policy_lang.proofs.cycles.places_of.Goals.{then-is_named+in_ok-push, else-is_named}

pub loop-at-preserved : goal.loop-at-preserved
loop-at-preserved c =
    let named = have_name c.args.names.now in
    let captures = c.args.captures.now in
    let at = c.loop-at.at in
    let capture = c.index-captures-at.result in
    let found = c.loop-at.places.items in
    let behind : List ℕ → ℕ → List Capture → List ℕ = λ places i rest. places ++ positions named i rest in
    elim c.if-is_named.branch [
      | then-is_named+in_ok-push w ↦
          ap (λ (places : Vec ℕ Global). behind places.items (at + 1) (drop (at + 1) captures)) w.places-is
          ∙ ap (λ (places : List ℕ). behind places (at + 1) (drop (at + 1) captures)) w.in_ok-push.ensures.items
          ∙ passed (behind found at) captures at _ c.loop-at.invariant (behind (found ++ at ∷ []) (at + 1)) capture c.loop-at-test.true c.index-captures-at.is
          (λ rest. append_assoc found (at ∷ []) (positions named (at + 1) rest)
          ∙ ap (λ b. found ++ cond b (at ∷ positions named (at + 1) rest) (positions named (at + 1) rest)) (sym w.if-is_named.true ∙ c.is_named.ensures))
      | else-is_named w ↦
          ap (λ (places : Vec ℕ Global). behind places.items (at + 1) (drop (at + 1) captures)) w.places-is
          ∙ passed (behind found at) captures at _ c.loop-at.invariant (behind found (at + 1)) capture c.loop-at-test.true c.index-captures-at.is
          (λ rest. ap (λ b. found ++ cond b (at ∷ positions named (at + 1) rest) (positions named (at + 1) rest)) (sym w.if-is_named.false ∙ c.is_named.ensures))
    ]

pub returns : goal.returns
returns c = found_all (positions (have_name c.args.names.now) c.loop-at.at) c.args.captures.now c.loop-at.at c.loop-at.places.items _ refl c.loop-at.invariant c.loop-at-test.false
