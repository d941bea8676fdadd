-- What paths lead to, what steps make and what stands for places keeps a tree's keys apart and its lists short.
use Rattle.std.proofs.Common.{◌≡◌, ◌∙◌, ◌≤◌, ◌&&◌, ℕ, zero, suc, Bool, true, false, cond, refl, ap, subst, arith, List, [], ◌∷◌, length, Option, Some, None}
use Rattle.std.specs.Prelude.{nat_lt, ◌^◌, bytes_eq, not, option_map, unwrap_or}
use Rattle.std.proofs.lemmas.Bool.{and_from, and_parts}
use Rattle.std.proofs.lemmas.Option.{same_Some, option_and_then_some}
use Rattle.doc_tree.specs.Shape.{Shape, nothing, truth, whole, text, list, mapping, Shapes, no_shapes, more, Pairs, no_pairs, pair, lacks, item_count}
use Rattle.doc_tree.specs.Lookup.{find}
use Rattle.policy_model.specs.Keys.{Text}
use Rattle.policy_model.specs.Reading.{inside, place_of}
use Rattle.policy_model.specs.Leading.{item_at, is_position, step_into, led}
use Rattle.policy_model.specs.Places.{put_in, filled, filled_among, filled_under}
use Rattle.policy_model.specs.Steps.{tree_of, matches, kept, and_shape, with_shape, added, set, set_each, set_under, changed, only, narrowed}
use Rattle.policy_model.specs.Values.{referred, operand_value, step_value, steps_value, start_value, expression_value, expression_named, value_within, capture_value, place_value}
use Rattle.policy_model.specs.declared.capture.Capture.{Capture}
use Rattle.policy_model.specs.declared.expression.Constant.{Constant}
use Rattle.policy_model.specs.declared.expression.Constant.TheVariants as constant
use Rattle.policy_model.specs.declared.expression.Verb.{Verb}
use Rattle.policy_model.specs.declared.expression.Verb.TheVariants.{Keep, Set}
use Rattle.policy_model.specs.declared.expression.Reference.{Reference}
use Rattle.policy_model.specs.declared.expression.Step.{Step}
use Rattle.policy_model.specs.declared.expression.Expression.{Expression}
use Rattle.policy_values.proofs.Fair.{Fair, FairItems, FairPairs, list_count, list_items, fair_list, fair_first, fair_others, fair_more, map_pairs, fair_map, key_alone, fair_value, fair_rest, fair_pair, no_items, none_under, fewer, fair_found}

-- ---- options that hold something

only_if : (b : Bool) (o : Option Shape) (t : Shape) → cond b o None ≡ Some t → o ≡ Some t
only_if true o t e = e
only_if false o t e = absurd cc

-- what holds of the image of what is held holds of the image
mapped : {A B : Type 0} (P : B → Type 0) (f : A → B) (o : Option A) (y : B) → option_map f o ≡ Some y → ((x : A) → o ≡ Some x → P (f x)) → P y
mapped P f None y e go = absurd cc
mapped P f (Some x) y e go = subst P (same_Some (f x) y e) (go x refl)

-- ---- where paths lead

item_fair : (n : ℕ) (ss : Shapes) (t : Shape) → FairItems ss → item_at n ss ≡ Some t → Fair t
item_fair n no_shapes t f e = absurd cc
item_fair zero (more s ss) t f e = subst Fair (same_Some s t e) (fair_first s ss f)
item_fair (suc n) (more s ss) t f e = item_fair n ss t (fair_others s ss f) e

into_fair : (k : Text) (s t : Shape) → Fair s → step_into k s ≡ Some t → Fair t
into_fair k nothing t f e = absurd cc
into_fair k (truth b) t f e = absurd cc
into_fair k (whole z) t f e = absurd cc
into_fair k (text s) t f e = absurd cc
into_fair k (list ss) t f e = item_fair _ ss t (list_items ss f) (only_if (is_position k) _ t e)
into_fair k (mapping ps) t f e = fair_found k ps t (map_pairs ps f) e

pub led_fair : (ks : List Text) (s t : Shape) → Fair s → led ks s ≡ Some t → Fair t
led_fair [] s t f e = subst Fair (same_Some s t e) f
led_fair (k ∷ ks) s t f e = option_and_then_some (led ks) (step_into k s) t e (λ x is there. led_fair ks x t (into_fair k s x f is) there)

-- ---- what is kept

tree_fair : (v : Constant) → Fair (tree_of v)
tree_fair (constant.Text t) = record { distinct = refl; short = refl }
tree_fair (constant.Int z) = record { distinct = refl; short = refl }
tree_fair (constant.Bool b) = record { distinct = refl; short = refl }

kept_fair : (v : Constant) (path : List Text) (ss : Shapes) → FairItems ss → FairItems (kept v path ss)
kept_fair v path no_shapes f = no_items
kept_fair v path (more s ss) f =
    elim (matches v path s) as (λ b. FairItems (cond b (more s (kept v path ss)) (kept v path ss))) [
      | true ↦ fair_more s (kept v path ss) (fair_first s ss f) (kept_fair v path ss (fair_others s ss f))
      | false ↦ kept_fair v path ss (fair_others s ss f)
    ]

kept_count : (v : Constant) (path : List Text) (ss : Shapes) → item_count (kept v path ss) ≤ item_count ss
kept_count v path no_shapes = omega arith
kept_count v path (more s ss) =
    elim (matches v path s) as (λ b. item_count (cond b (more s (kept v path ss)) (kept v path ss)) ≤ suc (item_count ss)) [
      | true ↦ omega (arith, kept_count v path ss)
      | false ↦ omega (arith, kept_count v path ss)
    ]

-- ---- what is set

and_shape_parts : (P : Shapes → Type 0) (o : Option Shape) (os : Option Shapes) (ts : Shapes) → and_shape o os ≡ Some ts → ((s : Shape) (ss : Shapes) → o ≡ Some s → os ≡ Some ss → P (more s ss)) → P ts
and_shape_parts P None None ts e go = absurd cc
and_shape_parts P None (Some ss) ts e go = absurd cc
and_shape_parts P (Some s) None ts e go = absurd cc
and_shape_parts P (Some s) (Some ss) ts e go = subst P (same_Some (more s ss) ts e) (go s ss refl refl)

with_shape_parts : (P : Pairs → Type 0) (k : Text) (o : Option Shape) (ps qs : Pairs) → with_shape k o ps ≡ Some qs → ((s : Shape) → o ≡ Some s → P (pair k s ps)) → P qs
with_shape_parts P k None ps qs e go = absurd cc
with_shape_parts P k (Some s) ps qs e go = subst P (same_Some (pair k s ps) qs e) (go s refl)

-- a key that a map lacks and that isn't the one that is set is lacked after
lacks_set : (x : Text) (v : Constant) (k : Text) (ks : List Text) (ps qs : Pairs) → lacks x ps ≡ true → bytes_eq x k ≡ false → set_under v k ks ps ≡ Some qs → lacks x qs ≡ true
lacks_set x v k [] no_pairs qs h other e = subst (λ rs. lacks x rs ≡ true) (same_Some (pair k (tree_of v) no_pairs) qs e) (rw other refl)
lacks_set x v k (l ∷ ls) no_pairs qs h other e = absurd cc
lacks_set x v k ks (pair l s ps) qs h other e =
    let parts = and_parts (not (bytes_eq x l)) (lacks x ps) h in
    elim (bytes_eq l k) as (λ b. cond b (with_shape l (set v ks s) ps) (option_map (pair l s) (set_under v k ks ps)) ≡ Some qs → lacks x qs ≡ true) [
      | true ↦ λ is. with_shape_parts (λ rs. lacks x rs ≡ true) l (set v ks s) ps qs is (λ t there. and_from (not (bytes_eq x l)) (lacks x ps) parts.0 parts.1)
      | false ↦ λ is. mapped (λ rs. lacks x rs ≡ true) (pair l s) (set_under v k ks ps) qs is
          (λ rs there. and_from (not (bytes_eq x l)) (lacks x rs) parts.0 (lacks_set x v k ks ps rs parts.1 other there))
    ] e

added_fair : (v : Constant) (k : Text) (ks : List Text) (qs : Pairs) → added v k ks ≡ Some qs → FairPairs qs
added_fair v k [] qs e = subst FairPairs (same_Some (pair k (tree_of v) no_pairs) qs e) (fair_pair k (tree_of v) no_pairs refl (tree_fair v) none_under)
added_fair v k (l ∷ ls) qs e = absurd cc

each_count : (v : Constant) (path : List Text) (ss ts : Shapes) → set_each v path ss ≡ Some ts → item_count ts ≤ item_count ss
each_count v path no_shapes ts e = subst (λ us. item_count us ≤ 0) (same_Some no_shapes ts e) (omega arith)
each_count v path (more s ss) ts e =
    and_shape_parts (λ us. item_count us ≤ suc (item_count ss)) (set v path s) (set_each v path ss) ts e (λ u us is rest. let few : item_count us ≤ item_count ss = each_count v path ss us rest in omega arith)

-- a value alone
leaf_fair : (v : Constant) (t : Shape) → Some (tree_of v) ≡ Some t → Fair t
leaf_fair v t e = subst Fair (same_Some (tree_of v) t e) (tree_fair v)

mutual
  pub set_fair : (v : Constant) (path : List Text) (s t : Shape) → Fair s → set v path s ≡ Some t → Fair t
  set_fair v [] nothing t f e = leaf_fair v t e
  set_fair v [] (truth b) t f e = leaf_fair v t e
  set_fair v [] (whole z) t f e = leaf_fair v t e
  set_fair v [] (text x) t f e = leaf_fair v t e
  set_fair v [] (list ss) t f e = leaf_fair v t e
  set_fair v [] (mapping ps) t f e = leaf_fair v t e
  set_fair v (k ∷ ks) nothing t f e = absurd cc
  set_fair v (k ∷ ks) (truth b) t f e = absurd cc
  set_fair v (k ∷ ks) (whole z) t f e = absurd cc
  set_fair v (k ∷ ks) (text x) t f e = absurd cc
  set_fair v (k ∷ ks) (list ss) t f e =
      mapped Fair list (set_each v (k ∷ ks) ss) t e
      (λ ts is. fair_list ts (fewer (item_count ss) (item_count ts) (each_count v (k ∷ ks) ss ts is) (list_count ss f)) (each_fair v (k ∷ ks) ss ts (list_items ss f) is))
  set_fair v (k ∷ ks) (mapping ps) t f e = mapped Fair mapping (set_under v k ks ps) t e (λ qs is. fair_map qs (under_fair v k ks ps qs (map_pairs ps f) is))

  each_fair : (v : Constant) (path : List Text) (ss ts : Shapes) → FairItems ss → set_each v path ss ≡ Some ts → FairItems ts
  each_fair v path no_shapes ts f e = subst FairItems (same_Some no_shapes ts e) no_items
  each_fair v path (more s ss) ts f e =
      and_shape_parts FairItems (set v path s) (set_each v path ss) ts e (λ u us is rest. fair_more u us (set_fair v path s u (fair_first s ss f) is) (each_fair v path ss us (fair_others s ss f) rest))

  under_fair : (v : Constant) (k : Text) (ks : List Text) (ps qs : Pairs) → FairPairs ps → set_under v k ks ps ≡ Some qs → FairPairs qs
  under_fair v k ks no_pairs qs f e = added_fair v k ks qs e
  under_fair v k ks (pair l s ps) qs f e =
      elim (bytes_eq l k) as (λ b. bytes_eq l k ≡ b → cond b (with_shape l (set v ks s) ps) (option_map (pair l s) (set_under v k ks ps)) ≡ Some qs → FairPairs qs) [
        | true ↦ λ same is. with_shape_parts FairPairs l (set v ks s) ps qs is (λ t there. fair_pair l t ps (key_alone l s ps f) (set_fair v ks s t (fair_value l s ps f) there) (fair_rest l s ps f))
        | false ↦ λ other is. mapped FairPairs (pair l s) (set_under v k ks ps) qs is
            (λ rs there. fair_pair l s rs (lacks_set l v k ks ps rs (key_alone l s ps f) other there) (fair_value l s ps f) (under_fair v k ks ps rs (fair_rest l s ps f) there))
      ] refl e

-- ---- what a step makes

changed_fair : (verb : Verb) (v : Constant) (path : List Text) (ss ts : Shapes) → Fair (list ss) → changed verb v path ss ≡ Some ts → Fair (list ts)
changed_fair Keep v path ss ts f e =
    subst (λ us. Fair (list us)) (same_Some (kept v path ss) ts e)
    (fair_list (kept v path ss) (fewer (item_count ss) (item_count (kept v path ss)) (kept_count v path ss) (list_count ss f)) (kept_fair v path ss (list_items ss f)))
changed_fair Set v path ss ts f e = fair_list ts (fewer (item_count ss) (item_count ts) (each_count v path ss ts e) (list_count ss f)) (each_fair v path ss ts (list_items ss f) e)

only_fair : (k : Text) (s : Shape) → Fair s → Fair (only k s)
only_fair k s f = fair_map (pair k s no_pairs) (fair_pair k s no_pairs refl f none_under)

listed_fair : (verb : Verb) (v : Constant) (path : List Text) (ss : Shapes) (t : Shape) → Fair (list ss) → option_map list (changed verb v path ss) ≡ Some t → Fair t
listed_fair verb v path ss t f e = mapped Fair list (changed verb v path ss) t e (λ ts is. changed_fair verb v path ss ts f is)

pub narrowed_fair : (verb : Verb) (v : Constant) (path : List Text) (s t : Shape) → Fair s → narrowed verb v path s ≡ Some t → Fair t
narrowed_fair verb v [] nothing t f e = absurd cc
narrowed_fair verb v [] (truth b) t f e = absurd cc
narrowed_fair verb v [] (whole z) t f e = absurd cc
narrowed_fair verb v [] (text x) t f e = absurd cc
narrowed_fair verb v [] (list ss) t f e = listed_fair verb v [] ss t f e
narrowed_fair verb v [] (mapping ps) t f e = absurd cc
narrowed_fair verb v (k ∷ ks) nothing t f e = absurd cc
narrowed_fair verb v (k ∷ ks) (truth b) t f e = absurd cc
narrowed_fair verb v (k ∷ ks) (whole z) t f e = absurd cc
narrowed_fair verb v (k ∷ ks) (text x) t f e = absurd cc
narrowed_fair verb v (k ∷ ks) (list ss) t f e = listed_fair verb v (k ∷ ks) ss t f e
narrowed_fair verb v (k ∷ ks) (mapping ps) t f e =
    option_and_then_some (λ s. option_map (only k) (narrowed verb v ks s)) (find k ps) t e
    (λ s is below. mapped Fair (only k) (narrowed verb v ks s) t below (λ u there. only_fair k u (narrowed_fair verb v ks s u (fair_found k ps s (map_pairs ps f) is) there)))

-- ---- the values of captures

-- what is known is fair
abbrev pub AllFair : (Text → Option Shape) → Type 0
AllFair value = (name : Text) (t : Shape) → value name ≡ Some t → Fair t

module _ (value : Text → Option Shape) (known : AllFair value) where
  pub referred_fair : (r : Reference) (t : Shape) → referred value r ≡ Some t → Fair t
  referred_fair r t e = option_and_then_some (led r.path) (value r.name) t e (λ s is there. led_fair r.path s t (known r.name s is) there)

  step_fair : (step : Step) (s t : Shape) → Fair s → step_value value step s ≡ Some t → Fair t
  step_fair step s t f e =
      option_and_then_some (λ v. narrowed step.verb v step.path s) (operand_value value step.operand) t e (λ v is there. narrowed_fair step.verb v step.path s t f there)

  steps_fair : (steps : List Step) (s t : Shape) → Fair s → steps_value value steps s ≡ Some t → Fair t
  steps_fair [] s t f e = subst Fair (same_Some s t e) f
  steps_fair (step ∷ steps) s t f e = option_and_then_some (steps_value value steps) (step_value value step s) t e (λ u is there. steps_fair steps u t (step_fair step s u f is) there)

  start_fair : (running : Shape) (start : Option Text) (t : Shape) → Fair running → start_value value running start ≡ Some t → Fair t
  start_fair running None t f e = subst Fair (same_Some running t e) f
  start_fair running (Some name) t f e = known name t e

  expression_fair : (running : Shape) (x : Expression) (t : Shape) → Fair running → expression_value value running x ≡ Some t → Fair t
  expression_fair running x t f e =
      option_and_then_some (steps_value value x.steps) (start_value value running x.start) t e (λ s is there. steps_fair x.steps s t (start_fair running x.start s f is) there)

within_fair : (captures : List Capture) (running : Shape) → Fair running → (n : ℕ) → AllFair (value_within captures running n)
within_fair captures running f zero name t e = absurd cc
within_fair captures running f (suc n) name t e =
    option_and_then_some (expression_value (value_within captures running n) running) (expression_named captures name) t e
    (λ x is there. expression_fair (value_within captures running n) (within_fair captures running f n) running x t f there)

pub captures_fair : (captures : List Capture) (running : Shape) → Fair running → AllFair (capture_value captures running)
unfolding capture_value
captures_fair captures running f = within_fair captures running f (length captures)

-- ---- what stands for places

module _ (value : Text → Shape) (stands : (inner : Text) → Fair (value inner)) where
  put_fair : (t : Text) (o : Option Text) → Fair (put_in value t o)
  put_fair t None = record { distinct = refl; short = refl }
  put_fair t (Some inner) = stands inner

  lacks_filled : (k : Text) (ps : Pairs) → lacks k (filled_under value ps) ≡ lacks k ps
  lacks_filled k no_pairs = refl
  lacks_filled k (pair l s ps) = ap (λ b. not (bytes_eq k l) && b) (lacks_filled k ps)

  count_filled : (ss : Shapes) → item_count (filled_among value ss) ≡ item_count ss
  count_filled no_shapes = refl
  count_filled (more s ss) = ap suc (count_filled ss)

  mutual
    pub filled_fair : (s : Shape) → Fair s → Fair (filled value s)
    filled_fair nothing f = f
    filled_fair (truth b) f = f
    filled_fair (whole z) f = f
    filled_fair (text t) f = put_fair t (inside t)
    filled_fair (list ss) f =
        fair_list (filled_among value ss) (ap (λ n. nat_lt n (2 ^ 31)) (count_filled ss) ∙ list_count ss f) (among_fair ss (list_items ss f))
    filled_fair (mapping ps) f = fair_map (filled_under value ps) (below_fair ps (map_pairs ps f))

    among_fair : (ss : Shapes) → FairItems ss → FairItems (filled_among value ss)
    among_fair no_shapes f = no_items
    among_fair (more s ss) f = fair_more (filled value s) (filled_among value ss) (filled_fair s (fair_first s ss f)) (among_fair ss (fair_others s ss f))

    below_fair : (ps : Pairs) → FairPairs ps → FairPairs (filled_under value ps)
    below_fair no_pairs f = none_under
    below_fair (pair k s ps) f =
        fair_pair k (filled value s) (filled_under value ps) (lacks_filled k ps ∙ key_alone k s ps f) (filled_fair s (fair_value k s ps f)) (below_fair ps (fair_rest k s ps f))

-- ---- the value of a policy

placed_fair : (o : Option Shape) → ((t : Shape) → o ≡ Some t → Fair t) → Fair (unwrap_or o nothing)
placed_fair None h = record { distinct = refl; short = refl }
placed_fair (Some t) h = h t refl

-- what is wanted, with what the captures give in its places
pub wanted_fair : (value : Text → Option Shape) (desired : Shape) → AllFair value → Fair desired → Fair (filled (λ inner. unwrap_or (place_value value inner) nothing) desired)
wanted_fair value desired known f =
    filled_fair (λ inner. unwrap_or (place_value value inner) nothing)
    (λ inner. placed_fair (place_value value inner) (λ t e. option_and_then_some (referred value) (place_of inner) t e (λ r is there. referred_fair value known r t there))) desired f
