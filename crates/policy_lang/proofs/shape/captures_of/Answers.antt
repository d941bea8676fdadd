use Rattle.std.proofs.Common.{◌≡◌, ◌∙◌, ◌++◌, ◌∷◌, [], ◌<◌, ◌+◌, ℕ, List, map, drop, length, get_or, refl, ap, append_assoc, arith}
use Rattle.doc_tree.specs.Shape.{shape, pair_shape, pairs_of}
use Rattle.doc_tree.specs.declared.Tree.{Tree}
use Rattle.policy_model.specs.Policies.{string_in, captures_of}
use Rattle.policy_model.specs.declared.Capture.{Capture}
use Rattle.policy_lang.proofs.lemmas.Walks.{passed}
use Rattle.policy_lang.proofs.Walks.{found_all}
use Rattle.policy_lang.proofs.shape.captures_of.Goals as goal

pub loop-pair-preserved : goal.loop-pair-preserved
loop-pair-preserved c =
    let pairs = c.args.pairs.now.items in
    let i = c.loop-pair.pair-index in
    let p = c.pair-item.result in
    let cs = c.loop-pair.captures.items in
    let made : Capture = record { name = c.in_ok-name.name; text = c.in_ok-text.text } in
    let same : made ≡ record { name = p.0; text = string_in (shape p.1) } = λ j. record { name = c.in_ok-name.ensures j; text = c.in_ok-text.ensures j } in
    let lt : i < length pairs = omega (arith, ap (λ (ps : List (List ℕ × Tree)). length ps) c.deref-pair-items.ensures.value) in
    let behind : List Capture → List (List ℕ × Tree) → List Capture = λ ds ps. ds ++ captures_of (pairs_of (map pair_shape ps)) in
    ap (λ (ds : List Capture). behind ds (drop (i + 1) pairs)) c.in_ok-push.ensures.items
    ∙ passed (behind cs) pairs i _ c.loop-pair.invariant (behind (cs ++ made ∷ [])) p lt (c.pair-item.is ∙ ap (λ (ps : List (List ℕ × Tree)). get_or ps i p) c.deref-pair-items.ensures.value)
    (λ rest. append_assoc cs (made ∷ []) (captures_of (pairs_of (map pair_shape rest))) ∙ ap (λ (d : Capture). cs ++ d ∷ captures_of (pairs_of (map pair_shape rest))) same)

pub returns : goal.returns
returns c =
    found_all (λ (ps : List (List ℕ × Tree)). captures_of (pairs_of (map pair_shape ps))) c.args.pairs.now.items c.loop-pair.pair-index c.loop-pair.captures.items _ refl c.loop-pair.invariant
    (omega (arith, ap (λ (ps : List (List ℕ × Tree)). length ps) c.deref-pair-items.ensures.value))
