-- Loops over a list that add to a front, copy, find the first, or read steps.
use Rattle.std.proofs.Common.{◌≡◌, ◌∙◌, ◌<◌, ◌≤◌, ◌+◌, ◌++◌, ℕ, Bool, true, false, cond, List, [], ◌∷◌, map, take, drop, find, length, get_or, Option, Some, None, option_map, refl, sym, ap, append_assoc, append-nil}
use Rattle.std.proofs.lemmas.List.{take_more, take_all, map_more}
use Rattle.policy_model.specs.Reading.{and_step}
use Rattle.policy_model.specs.declared.Step.{Step}
use Rattle.policy_lang.proofs.lemmas.Walks.{passed, settles, all_passed}

-- the same behind what there was before
pub rows_on : {A B : Type 0} (f : A → B) (xs : List A) (i : ℕ) (front ys new : List B) (x : A) (y : B) → ys ≡ front ++ map f (take i xs) → i < length xs → x ≡ get_or xs i x → y ≡ f x → new ≡ ys ++ y ∷ []
    → new ≡ front ++ map f (take (i + 1) xs)
rows_on f xs i front ys new x y h lt is to pushed =
    pushed
    ∙ ap (λ zs. zs ++ y ∷ []) h
    ∙ append_assoc front (map f (take i xs)) (y ∷ [])
    ∙ ap (λ z. front ++ (map f (take i xs) ++ z ∷ [])) (to ∙ ap f is)
    ∙ ap (λ zs. front ++ zs) (sym (map_more f xs i x lt))

-- a copy of the list itself
pub copied_on : {A : Type 0} (xs : List A) (i : ℕ) (ys new : List A) (x y : A) → ys ≡ take i xs → i < length xs → x ≡ get_or xs i x → y ≡ x → new ≡ ys ++ y ∷ [] → new ≡ take (i + 1) xs
copied_on xs i ys new x y h lt is to pushed = pushed ∙ ap (λ zs. zs ++ y ∷ []) h ∙ ap (λ z. take i xs ++ z ∷ []) (to ∙ is) ∙ sym (take_more xs i x lt)

-- behind the last item all rows are made
pub rows_all : {A B : Type 0} (f : A → B) (xs : List A) (i : ℕ) (ys : List B) → ys ≡ map f (take i xs) → length xs ≤ i → ys ≡ map f xs
rows_all f xs i ys h le = h ∙ ap (map f) (take_all i xs le)

-- what was found, where nothing is left
pub found_all : {A B : Type 0} (rest : List A → List B) (xs : List A) (i : ℕ) (found all : List B) → rest [] ≡ [] → found ++ rest (drop i xs) ≡ all → length xs ≤ i → found ≡ all
found_all rest xs i found all none h le = sym (append-nil found) ∙ ap (λ ys. found ++ ys) (sym none) ∙ all_passed (λ ys. found ++ rest ys) xs i all h le

-- ---- the first that meets a test

module _ {A : Type 0} (test : A → Bool) (xs : List A) (i : ℕ) (h : find test (drop i xs) ≡ find test xs) (x : A) (lt : i < length xs) (is : x ≡ get_or xs i x) where
  pub not_this : false ≡ test x → find test (drop (i + 1) xs) ≡ find test xs
  not_this fails = passed (find test) xs i _ h (find test) x lt is (λ rest. ap (λ b. cond b (Some x) (find test rest)) fails)

  pub this_one : true ≡ test x → Some x ≡ find test xs
  this_one meets = settles (find test) xs i _ h (Some x) x lt is (λ rest. ap (λ b. cond b (Some x) (find test rest)) meets)

-- ---- steps, read one after another

-- none was read so far, one more is, and none is left
pub no_steps_yet : (found : Option (List Step)) → option_map (λ rest. [] ++ rest) found ≡ found
no_steps_yet None = refl
no_steps_yet (Some rest) = refl

pub step_on : (front : List Step) (step : Step) (found : Option (List Step)) → option_map (λ rest. (front ++ step ∷ []) ++ rest) found ≡ option_map (λ rest. front ++ rest) (and_step (Some step) found)
step_on front step None = refl
step_on front step (Some rest) = ap (λ ss. Some ss) (append_assoc front (step ∷ []) rest)

pub steps_end : (front : List Step) → Some front ≡ option_map (λ rest. front ++ rest) (Some [])
steps_end front = ap (λ ss. Some ss) (sym (append-nil front))
