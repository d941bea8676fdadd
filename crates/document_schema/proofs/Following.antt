-- Readings that follow one another, where all give a value.
use Rattle.std.proofs.Common.{◌≡◌, ◌∙◌, List, [], ap, subst}
use Rattle.std.specs.Prelude.{Ok}
use Rattle.base_model.specs.declared.Path.{Path}
use Rattle.tree_schema.specs.Reading.{Reading, with_value, and_then}
use Rattle.tree_schema.specs.Faults.{told}
use Rattle.tree_schema.specs.Reached.{Reached, reached, from}
use Rattle.tree_schema.proofs.lemmas.Reaching.{next_ok, with_value_ok, told-from, told_from}

pub four_ok : {A B C D X : Type 0} (make : A → B → C → D → X) (r r₁ r₂ r₃ r₄ : Reached) (ra : Reading A) (rb : Reading B) (rc : Reading C) (rd : Reading D) (a : A) (b : B) (c : C) (d : D)
    → from r ra ≡ Ok (a, r₁) → from r₁ rb ≡ Ok (b, r₂) → from r₂ rc ≡ Ok (c, r₃) → from r₃ rd ≡ Ok (d, r₄)
    → from r (and_then ra (λ a. and_then rb (λ b. and_then rc (λ c. with_value (make a b c) rd)))) ≡ Ok (make a b c d, r₄)
four_ok make r r₁ r₂ r₃ r₄ ra rb rc rd a b c d ha hb hc hd =
    next_ok r r₁ ra (λ a. and_then rb (λ b. and_then rc (λ c. with_value (make a b c) rd))) a ha
    ∙ (next_ok r₁ r₂ rb (λ b. and_then rc (λ c. with_value (make a b c) rd)) b hb
    ∙ (next_ok r₂ r₃ rc (λ c. with_value (make a b c) rd) c hc
    ∙ with_value_ok r₃ r₄ (make a b c) rd d hd))

-- what is told of a reading from the top
pub told_ok : {X Y : Type 0} (make : X → List Path → Y) (reading : Reading X) (start new : Reached) (x : X) → start ≡ reached [] [] → from start reading ≡ Ok (x, new) → told make reading ≡ Ok (make x new.notes)
told_ok make reading start new x is read = told-from make reading ∙ ap (told_from make) (subst (λ at. from at reading ≡ Ok (x, new)) is read)
