-- Steps and expressions: what a text is read as, it spells.
use Rattle.std.proofs.Common.{◌≡◌, ◌∙◌, ℕ, Bool, true, false, cond, eqb, ◌&&◌, List, [], ◌∷◌, ◌++◌, replicate, Option, Some, None, IfSome, bytes_eq, refl, sym, ap, subst, append_assoc}
use Rattle.std.specs.List.{join_with_byte}
use Rattle.std.proofs.lemmas.Bool.{eqb-true, and_parts, cond_both}
use Rattle.std.proofs.lemmas.Slice.Eq.{bytes_eq-Decides}
use Rattle.yaml_plain.specs.Bytes.{space, skip_spaces}
use Rattle.yaml_plain.specs.Plain.{with_front}
use Rattle.policy_model.specs.Keys.{Text, is_key, dotted, capture_word}
use Rattle.policy_model.specs.Grammar.{SpellsOperand, sign, SpellsStep, bar, SpellsSteps, SpellsStart, SpellsFrom, Spells}
use Rattle.policy_model.specs.Reading.{trimmed, between, path_of, operand_of, is_path_byte, path_split, step_from, signed, step_of, starting, start_of, and_step, steps_of, begun, parted, expression_of}
use Rattle.policy_model.specs.declared.expression.Operand.{Operand}
use Rattle.policy_model.specs.declared.expression.Verb.{Verb}
use Rattle.policy_model.specs.declared.expression.Verb.TheVariants.{Keep, Set}
use Rattle.policy_model.specs.declared.expression.Step.{Step}
use Rattle.policy_model.specs.declared.expression.Expression.{Expression}
use Rattle.policy_grammar.proofs.Options.{if_test, if_then, if_mapped, of_some}
use Rattle.policy_grammar.proofs.Spaces.{skipped, trimmed_spaced}
use Rattle.policy_grammar.proofs.Parts.{parts_join}
use Rattle.policy_grammar.proofs.Operands.{IsPathOf, path_sound, operand_sound}

-- ---- steps

-- the bytes of a path and the rest are the text
split_joins : (t : Text) → (path_split t).0 ++ (path_split t).1 ≡ t
split_joins [] = refl
split_joins (b ∷ bs) =
    cond_both (is_path_byte b) (with_front b (path_split bs)) ([], b ∷ bs) (λ p. p.0 ++ p.1 ≡ b ∷ bs) (λ is. ap (λ (x : Text). b ∷ x) (split_joins bs)) (λ is. refl)

abbrev pub step : List Text → Verb → Operand → Step
step path verb operand = record { path = path; verb = verb; operand = operand }

-- between spaces the text is the path, spaces and the rest
abbrev IsFront : Text → Text → Text → Type 0
IsFront t path rest = (a : ℕ) × (m : ℕ) × (z : ℕ) × (t ≡ replicate a space ++ (path ++ (replicate m space ++ rest)) ++ replicate z space)

front_of : (t : Text) → IsFront t (path_split (trimmed t)).0 (skip_spaces (path_split (trimmed t)).1)
front_of t =
    let ends = trimmed_spaced t in
    let rest = skipped (path_split (trimmed t)).1 in
    (ends.0, rest.0, ends.1, ends.2 ∙ ap (λ (x : Text). replicate ends.0 space ++ x ++ replicate ends.1 space) (sym (split_joins (trimmed t)) ∙ ap (λ (x : Text). (path_split (trimmed t)).0 ++ x) rest.1))

pub regroup : (a p m s k o z : Text) → a ++ (p ++ (m ++ (s ++ (k ++ o)))) ++ z ≡ (a ++ p ++ m) ++ s ++ (k ++ o ++ z)
regroup a p m s k o z = simp append_assoc

step_spelled : (t path : Text) (verb : Verb) (bs : Text) (keys : List Text) (operand : Operand) → IsFront t path (sign verb ++ bs) → IsPathOf path keys → SpellsOperand (skip_spaces bs) operand → SpellsStep t (step keys verb operand)
step_spelled t path verb bs keys operand front is spelled =
    let gap = skipped bs in
    record {
      left = replicate front.0 space ++ path ++ replicate front.1 space;
      right = replicate gap.0 space ++ skip_spaces bs ++ replicate front.2 space;
      operand = skip_spaces bs;
      written = front.3 ∙ ap (λ (x : Text). replicate front.0 space ++ (path ++ (replicate front.1 space ++ (sign verb ++ x))) ++ replicate front.2 space) gap.1 ∙ regroup (replicate front.0 space) path (replicate front.1 space) (sign verb) (replicate gap.0 space) (skip_spaces bs) (replicate front.2 space);
      spaced_path = (front.0, front.1, ap (λ (x : Text). replicate front.0 space ++ x ++ replicate front.1 space) is.0);
      path = is.1;
      spaced_operand = (gap.0, front.2, refl);
      is_operand = spelled;
    }

step_from_sound : (P : List Text → Type 0) (Q : Operand → Type 0) (S : Step → Type 0) (o : Option (List Text)) (verb : Verb) (u : Option Operand) → IfSome o P → IfSome u Q
    → ((keys : List Text) (operand : Operand) → P keys → Q operand → S (step keys verb operand)) → IfSome (step_from o verb u) S
step_from_sound P Q S None verb u h g made = tt
step_from_sound P Q S (Some keys) verb None h g made = tt
step_from_sound P Q S (Some keys) verb (Some operand) h g made = made keys operand h g

verb_sound : (t path : Text) (o : Option (List Text)) (verb : Verb) (rest bs : Text) → rest ≡ sign verb ++ bs → IsFront t path rest → IfSome o (IsPathOf path)
    → IfSome (step_from o verb (operand_of (skip_spaces bs))) (SpellsStep t)
verb_sound t path o verb rest bs is front h =
    step_from_sound (IsPathOf path) (SpellsOperand (skip_spaces bs)) (SpellsStep t) o verb (operand_of (skip_spaces bs)) h (operand_sound (skip_spaces bs))
    (λ keys operand. step_spelled t path verb bs keys operand (subst (IsFront t path) is front))

two_bytes : (x y c d : ℕ) (bs : Text) → eqb x c ≡ true → eqb y d ≡ true → x ∷ y ∷ bs ≡ c ∷ d ∷ bs
two_bytes x y c d bs first second = λ k. eqb-true x c first k ∷ eqb-true y d second k ∷ bs

sign_sound : (t path : Text) (o : Option (List Text)) (x y : ℕ) (bs : Text) (u v w : Bool) → eqb x 0x3D ≡ u → eqb x 0x3A ≡ v → eqb y 0x3D ≡ w → IsFront t path (x ∷ y ∷ bs) → IfSome o (IsPathOf path)
    → IfSome (cond (u && w) (step_from o Keep (operand_of (skip_spaces bs))) (cond (v && w) (step_from o Set (operand_of (skip_spaces bs))) None)) (SpellsStep t)
sign_sound t path o x y bs true v true first other second front h = verb_sound t path o Keep (x ∷ y ∷ bs) bs (two_bytes x y 0x3D 0x3D bs first second) front h
sign_sound t path o x y bs true true false first other second front h = tt
sign_sound t path o x y bs true false false first other second front h = tt
sign_sound t path o x y bs false true true first other second front h = verb_sound t path o Set (x ∷ y ∷ bs) bs (two_bytes x y 0x3A 0x3D bs other second) front h
sign_sound t path o x y bs false true false first other second front h = tt
sign_sound t path o x y bs false false w first other second front h = tt

signed_sound : (t path : Text) (o : Option (List Text)) (rest : Text) → IsFront t path rest → IfSome o (IsPathOf path) → IfSome (signed o rest) (SpellsStep t)
signed_sound t path o [] front h = tt
signed_sound t path o (x ∷ []) front h = tt
signed_sound t path o (x ∷ y ∷ bs) front h = sign_sound t path o x y bs (eqb x 0x3D) (eqb x 0x3A) (eqb y 0x3D) refl refl refl front h

-- a text that is read as a step spells it
step_sound : (t : Text) → IfSome (step_of t) (SpellsStep t)
unfolding step_of
step_sound t = signed_sound t (path_split (trimmed t)).0 (path_of (path_split (trimmed t)).0) (skip_spaces (path_split (trimmed t)).1) (front_of t) (path_sound (path_split (trimmed t)).0)

-- ---- a start

start_spelled : (t word name : Text) → word ≡ capture_word → IsPathOf (trimmed t) (word ∷ name ∷ []) → SpellsStart name t
start_spelled t word name is h =
    let ends = trimmed_spaced t in
    let all = and_parts (is_key word) (is_key name && true) h.1.1 in
    ((ends.0, ends.1, ends.2 ∙ ap (λ (x : Text). replicate ends.0 space ++ x ++ replicate ends.1 space) (h.0 ∙ ap (λ (w : Text). dotted (w ∷ name ∷ [])) is)), (and_parts (is_key name) true all.1).0)

starting_sound : (t : Text) (keys : List Text) → IsPathOf (trimmed t) keys → IfSome (starting keys) (λ name. SpellsStart name t)
starting_sound t [] h = tt
starting_sound t (word ∷ []) h = tt
starting_sound t (word ∷ name ∷ []) h =
    if_test (bytes_eq word capture_word) (Some name) (λ (n : Text). SpellsStart n t) (λ same. start_spelled t word name ((bytes_eq-Decides word capture_word).0 same) h)
starting_sound t (word ∷ name ∷ key ∷ keys) h = tt

-- a text that is read as a start spells it
start_sound : (t : Text) → IfSome (start_of t) (λ name. SpellsStart name t)
unfolding start_of
start_sound t = if_then starting (path_of (trimmed t)) (IsPathOf (trimmed t)) (λ (n : Text). SpellsStart n t) (path_sound (trimmed t)) (starting_sound t)

-- ---- expressions

and_step_sound : (P : Step → Type 0) (Q R : List Step → Type 0) (s : Option Step) (ss : Option (List Step)) → IfSome s P → IfSome ss Q → ((x : Step) (xs : List Step) → P x → Q xs → R (x ∷ xs)) → IfSome (and_step s ss) R
and_step_sound P Q R None ss h g made = tt
and_step_sound P Q R (Some x) None h g made = tt
and_step_sound P Q R (Some x) (Some xs) h g made = made x xs h g

last_step : (part : Text) (s : Step) (ss : List Step) → SpellsStep part s → ss ≡ [] → SpellsSteps (s ∷ ss) part
last_step part s ss h none = subst (λ (xs : List Step). SpellsSteps (s ∷ xs) part) (sym none) h

step_before : (part rest : Text) (s : Step) (ss : List Step) → SpellsStep part s → SpellsSteps ss rest → SpellsSteps (s ∷ ss) (part ++ bar ∷ rest)
step_before part rest s [] h g = absurd g
step_before part rest s (u ∷ us) h g = record { first = part; rest = rest; written = refl; is_first = h; is_rest = g }

-- parts that are read as steps, with bars between them, spell these
steps_sound : (part : Text) (parts : List Text) → IfSome (steps_of (part ∷ parts)) (λ ss. SpellsSteps ss (join_with_byte bar (part ∷ parts)))
steps_sound part [] =
    and_step_sound (SpellsStep part) (λ (ss : List Step). ss ≡ []) (λ (ss : List Step). SpellsSteps ss part) (step_of part) (Some []) (step_sound part) refl (last_step part)
steps_sound part (next ∷ parts) =
    and_step_sound (SpellsStep part) (λ (ss : List Step). SpellsSteps ss (join_with_byte bar (next ∷ parts))) (λ (ss : List Step). SpellsSteps ss (join_with_byte bar (part ∷ next ∷ parts)))
    (step_of part) (steps_of (next ∷ parts)) (step_sound part) (steps_sound next parts) (step_before part (join_with_byte bar (next ∷ parts)))

abbrev pub expression : Option Text → List Step → Expression
expression start steps = record { start = start; steps = steps }

start_before : (name part rest : Text) (ss : List Step) → SpellsStart name part → SpellsSteps ss rest → SpellsFrom (Some name) ss (part ++ bar ∷ rest)
start_before name part rest [] h g = absurd g
start_before name part rest (u ∷ us) h g = record { first = part; rest = rest; written = refl; is_first = h; is_rest = g }

begun_sound : (o : Option Text) (part : Text) (parts : List Text) → IfSome o (λ name. SpellsStart name part) → IfSome (begun o part parts) (Spells (join_with_byte bar (part ∷ parts)))
begun_sound None part parts h =
    if_mapped (expression None) (steps_of (part ∷ parts)) (λ (ss : List Step). SpellsSteps ss (join_with_byte bar (part ∷ parts))) (Spells (join_with_byte bar (part ∷ parts))) (steps_sound part parts) (λ ss g. g)
begun_sound (Some name) part [] h = h
begun_sound (Some name) part (next ∷ parts) h =
    if_mapped (expression (Some name)) (steps_of (next ∷ parts)) (λ (ss : List Step). SpellsSteps ss (join_with_byte bar (next ∷ parts))) (Spells (join_with_byte bar (part ∷ next ∷ parts)))
    (steps_sound next parts) (λ ss g. start_before name part (join_with_byte bar (next ∷ parts)) ss h g)

parted_sound : (parts : List Text) → IfSome (parted parts) (Spells (join_with_byte bar parts))
parted_sound [] = tt
parted_sound (part ∷ parts) = begun_sound (start_of part) part parts (start_sound part)

-- what a text is read as, it spells
pub sound : (t : Text) (e : Expression) → expression_of t ≡ Some e → Spells t e
unfolding expression_of
sound t e is = subst (λ (x : Text). Spells x e) (parts_join bar false t) (of_some (parted (between bar false t)) e (Spells (join_with_byte bar (between bar false t))) (parted_sound (between bar false t)) is)
