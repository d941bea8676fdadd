-- Places are what begins and ends with braces, and hold a reference.
use Rattle.std.proofs.Common.{◌≡◌, ◌∙◌, ◌+◌, ◌-◌, ℕ, Bool, cond, ◌↔◌, ◌++◌, take, drop, length, Some, None, option_and_then, IfSome, bytes_eq, codes, refl, sym, ap, arith}
use Rattle.std.proofs.lemmas.List.{length-append, take-append-drop, take_at, drop_at}
use Rattle.std.proofs.lemmas.Slice.Eq.{bytes_eq-Decides}
use Rattle.policy_model.specs.Keys.{Text}
use Rattle.policy_model.specs.Grammar.{SpellsReference}
use Rattle.policy_model.specs.Reading.{trimmed, reference_of, behind_braces, before_braces, inside, place_of}
use Rattle.policy_model.specs.declared.expression.Reference.{Reference}
use Rattle.policy_model.specs.declared.expression.Operand.TheVariants.{Refers}
use Rattle.policy_grammar.specs.Places.{IsPlace, SpellsPlace}
use Rattle.policy_grammar.proofs.Options.{if_test, if_then, if_such, of_some}
use Rattle.policy_grammar.proofs.Spaces.{trimmed_spaced, trimmed_inner}
use Rattle.policy_grammar.proofs.Operands.{reference_sound}
use Rattle.policy_grammar.proofs.Written.{reference_complete, operand_bare}

-- ---- the braces

opened : (t : Text) → IfSome (behind_braces t) (λ rest. t ≡ codes "{{" ++ rest)
opened t =
    if_test (bytes_eq (take 2 t) (codes "{{")) (Some (drop 2 t)) (λ (rest : Text). t ≡ codes "{{" ++ rest)
    (λ same. sym (take-append-drop 2 t) ∙ ap (λ (x : Text). x ++ drop 2 t) ((bytes_eq-Decides (take 2 t) (codes "{{")).0 same))

closed : (t : Text) → IfSome (before_braces t) (λ inner. t ≡ inner ++ codes "}}")
closed t =
    if_test (bytes_eq (drop (length t - 2) t) (codes "}}")) (Some (take (length t - 2) t)) (λ (inner : Text). t ≡ inner ++ codes "}}")
    (λ same. sym (take-append-drop (length t - 2) t) ∙ ap (λ (x : Text). take (length t - 2) t ++ x) ((bytes_eq-Decides (drop (length t - 2) t) (codes "}}")).0 same))

inside_sound : (t : Text) → IfSome (inside t) (IsPlace t)
inside_sound t =
    if_then before_braces (behind_braces t) (λ (rest : Text). t ≡ codes "{{" ++ rest) (IsPlace t) (opened t)
    (λ rest is. if_such (before_braces rest) (λ (inner : Text). rest ≡ inner ++ codes "}}") (IsPlace t) (closed rest) (λ inner e. is ∙ ap (λ (x : Text). codes "{{" ++ x) e))

closed_reads : (inner : Text) → before_braces (inner ++ codes "}}") ≡ Some inner
closed_reads inner =
    let sum : length (inner ++ codes "}}") ≡ length inner + 2 = length-append inner (codes "}}") in
    let long : length (inner ++ codes "}}") - 2 ≡ length inner = omega (arith, sum) in
    let same = (bytes_eq-Decides (codes "}}") (codes "}}")).1 refl in
    ap (λ (n : ℕ). cond (bytes_eq (drop n (inner ++ codes "}}")) (codes "}}")) (Some (take n (inner ++ codes "}}"))) None) long
    ∙ ap (λ (x : Text). cond (bytes_eq x (codes "}}")) (Some (take (length inner) (inner ++ codes "}}"))) None) (drop_at inner (codes "}}") (length inner) refl)
    ∙ ap (λ (v : Bool). cond v (Some (take (length inner) (inner ++ codes "}}"))) None) same
    ∙ ap (λ (x : Text). Some x) (take_at inner (codes "}}") (length inner) refl)

inside_complete : (t inner : Text) → IsPlace t inner → inside t ≡ Some inner
inside_complete t inner is =
    ap inside is
    ∙ ap (λ (v : Bool). option_and_then before_braces (cond v (Some (inner ++ codes "}}")) None)) ((bytes_eq-Decides (codes "{{") (codes "{{")).1 refl)
    ∙ closed_reads inner

-- a place is braces, and what stands between them
pub braces : (t inner : Text) → (inside t ≡ Some inner) ↔ IsPlace t inner
braces t inner = (of_some (inside t) inner (IsPlace t) (inside_sound t), inside_complete t inner)

-- ---- the reference

place_sound : (inner : Text) → IfSome (place_of inner) (SpellsPlace inner)
unfolding place_of
place_sound inner = if_such (reference_of (trimmed inner)) (SpellsReference (trimmed inner)) (SpellsPlace inner) (reference_sound (trimmed inner)) (λ r h. (trimmed inner, trimmed_spaced inner, h))

place_complete : (inner : Text) (r : Reference) → SpellsPlace inner r → place_of inner ≡ Some r
unfolding place_of
place_complete inner r h =
    ap (λ (x : Text). reference_of (trimmed x)) h.1.2
    ∙ ap reference_of (trimmed_inner h.1.0 h.1.1 h.0 (operand_bare h.0 (Refers r) h.2))
    ∙ reference_complete h.0 r h.2

-- what stands in a place is read as the reference that it spells
pub place : (inner : Text) (r : Reference) → (place_of inner ≡ Some r) ↔ SpellsPlace inner r
place inner r = (of_some (place_of inner) r (SpellsPlace inner) (place_sound inner), place_complete inner r)
