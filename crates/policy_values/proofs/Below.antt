-- A map on the way of a path: what is set or narrowed in it is so under its first key.
use Rattle.std.proofs.Common.{◌≡◌, ◌∙◌, ◌≤◌, ◌-◌, List, [], ◌∷◌, take, drop, length, get_or, Option, Some, option_map, refl, sym, ap, arith}
use Rattle.std.specs.Option.{option_and_then}
use Rattle.std.proofs.lemmas.List.{take_all}
use Rattle.doc_tree.specs.Shape.{Shape, Pairs, nothing, truth, whole, text, list, mapping}
use Rattle.doc_tree.specs.Lookup.{find, get}
use Rattle.policy_model.specs.Keys.{Text}
use Rattle.policy_model.specs.Steps.{set, set_under, narrowed, only}
use Rattle.policy_model.specs.Values.{step_value, steps_value}
use Rattle.policy_model.specs.declared.Constant.{Constant}
use Rattle.policy_model.specs.declared.expression.Verb.{Verb}
use Rattle.policy_model.specs.declared.expression.Step.{Step}

-- the path behind its first key
abbrev pub rest : List Text → List Text
rest path = take (length path - 1) (drop 1 path)

rest_is : (k : Text) (ks : List Text) → rest (k ∷ ks) ≡ ks
rest_is k ks = take_all (length (k ∷ ks) - 1) ks (omega arith)

set_map : (v : Constant) (path : List Text) (k : Text) (ps : Pairs) → 1 ≤ length path → k ≡ get_or path 0 k → set v path (mapping ps) ≡ option_map mapping (set_under v k (rest path) ps)
set_map v [] k ps le is = absurd (omega (arith, le))
set_map v (x ∷ xs) k ps le is =
    ap (λ (q : Text). option_map mapping (set_under v q xs ps)) (sym is) ∙ ap (λ (ks : List Text). option_map mapping (set_under v k ks ps)) (sym (rest_is x xs))

pub set_in_map : (v : Constant) (path : List Text) (k : Text) (s : Shape) (ps : Pairs) (found : Option Pairs) → s ≡ mapping ps → 1 ≤ length path → k ≡ get_or path 0 k → found ≡ set_under v k (rest path) ps
    → option_map mapping found ≡ set v path s
set_in_map v path k s ps found shaped le is e = ap (option_map mapping) e ∙ sym (set_map v path k ps le is) ∙ ap (set v path) (sym shaped)

narrowed_map : (verb : Verb) (v : Constant) (path : List Text) (k : Text) (ps : Pairs) → 1 ≤ length path → k ≡ get_or path 0 k
    → narrowed verb v path (mapping ps) ≡ option_and_then (λ s. option_map (only k) (narrowed verb v (rest path) s)) (find k ps)
narrowed_map verb v [] k ps le is = absurd (omega (arith, le))
narrowed_map verb v (x ∷ xs) k ps le is =
    ap (λ (q : Text). option_and_then (λ s. option_map (only q) (narrowed verb v xs s)) (find q ps)) (sym is)
    ∙ ap (λ (ks : List Text). option_and_then (λ s. option_map (only k) (narrowed verb v ks s)) (find k ps)) (sym (rest_is x xs))

pub narrowed_in_map : (verb : Verb) (v : Constant) (path : List Text) (k : Text) (s below : Shape) (ps : Pairs) (found : Option Shape) → s ≡ mapping ps → 1 ≤ length path → k ≡ get_or path 0 k
    → Some below ≡ find k ps → found ≡ narrowed verb v (rest path) below → option_map (only k) found ≡ narrowed verb v path s
narrowed_in_map verb v path k s below ps found shaped le is there e =
    ap (option_map (only k)) e
    ∙ ap (λ (o : Option Shape). option_and_then (λ x. option_map (only k) (narrowed verb v (rest path) x)) o) there
    ∙ sym (narrowed_map verb v path k ps le is) ∙ ap (narrowed verb v path) (sym shaped)

-- the same of a tree that has the key, which is a map
pub narrowed_in : (verb : Verb) (v : Constant) (path : List Text) (k : Text) (s below : Shape) (found : Option Shape) → 1 ≤ length path → k ≡ get_or path 0 k → Some below ≡ get k s
    → found ≡ narrowed verb v (rest path) below → option_map (only k) found ≡ narrowed verb v path s
narrowed_in verb v path k nothing below found le is there e = absurd cc
narrowed_in verb v path k (truth b) below found le is there e = absurd cc
narrowed_in verb v path k (whole z) below found le is there e = absurd cc
narrowed_in verb v path k (text t) below found le is there e = absurd cc
narrowed_in verb v path k (list ss) below found le is there e = absurd cc
narrowed_in verb v path k (mapping ps) below found le is there e = narrowed_in_map verb v path k (mapping ps) below ps found refl le is there e

-- ---- steps

-- what the others make of what the first gives is what all make
pub steps_behind : (value : Text → Option Shape) (steps : List Step) (step : Step) (s first : Shape) → 1 ≤ length steps → step ≡ get_or steps 0 step → Some first ≡ step_value value step s
    → steps_value value (take (length steps - 1) (drop 1 steps)) first ≡ steps_value value steps s
steps_behind value [] step s first le is e = absurd (omega (arith, le))
steps_behind value (x ∷ xs) step s first le is e =
    ap (λ (ss : List Step). steps_value value ss first) (take_all (length (x ∷ xs) - 1) xs (omega arith))
    ∙ ap (option_and_then (steps_value value xs)) (e ∙ ap (λ (x : Step). step_value value x s) is)
