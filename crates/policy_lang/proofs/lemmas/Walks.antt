-- Loops over a list, step by step.
use Rattle.std.proofs.Common.{◌≡◌, ◌∙◌, ◌<◌, ◌≤◌, ◌+◌, ◌++◌, ℕ, List, [], ◌∷◌, map, take, drop, length, get_or, sym, ap}
use Rattle.std.proofs.lemmas.List.{drop_more, at_drop_all, take_more, map_push, map_more}

-- the first of what is left
here : {A : Type 0} (xs : List A) (i : ℕ) (x : A) → i < length xs → x ≡ get_or xs i x → drop i xs ≡ x ∷ drop (i + 1) xs
here xs i x lt is = drop_more xs i x lt ∙ ap (λ y. y ∷ drop (i + 1) xs) (sym is)

-- ---- what is left gives the result

module _ {A B : Type 0} (F : List A → B) (xs : List A) (i : ℕ) (all : B) (h : F (drop i xs) ≡ all) where
  -- an item is passed, and what comes of the rest is what would have come of both
  pub passed : (G : List A → B) (x : A) → i < length xs → x ≡ get_or xs i x → ((rest : List A) → G rest ≡ F (x ∷ rest)) → G (drop (i + 1) xs) ≡ all
  passed G x lt is same = same (drop (i + 1) xs) ∙ ap F (sym (here xs i x lt is)) ∙ h

  -- an item settles the result
  pub settles : (r : B) (x : A) → i < length xs → x ≡ get_or xs i x → ((rest : List A) → r ≡ F (x ∷ rest)) → r ≡ all
  settles r x lt is same = same (drop (i + 1) xs) ∙ ap F (sym (here xs i x lt is)) ∙ h

  -- behind the last item the result is that of nothing
  pub all_passed : length xs ≤ i → F [] ≡ all
  all_passed le = sym (at_drop_all F xs i le) ∙ h

-- ---- lists that are made item by item

module _ {A B C : Type 0} (g : B → C) (f : A → C) (xs : List A) (i : ℕ) (ys : List B) (h : map g ys ≡ map f (take i xs)) where
  -- one item more
  pub made_on : (x : A) (new : List B) (y : B) → i < length xs → x ≡ get_or xs i x → g y ≡ f x → new ≡ ys ++ y ∷ [] → map g new ≡ map f (take (i + 1) xs)
  made_on x new y lt is to pushed =
      ap (map g) pushed
      ∙ map_push g ys y
      ∙ ap (λ zs. zs ++ g y ∷ []) h
      ∙ ap (λ z. map f (take i xs) ++ z ∷ []) (to ∙ ap f is)
      ∙ sym (map_more f xs i x lt)

module _ {A B : Type 0} (f : A → B) (xs : List A) (i : ℕ) (ys : List B) (h : ys ≡ map f (take i xs)) where
  -- the same where the items are told as they are
  pub row_on : (x : A) (new : List B) (y : B) → i < length xs → x ≡ get_or xs i x → y ≡ f x → new ≡ ys ++ y ∷ [] → new ≡ map f (take (i + 1) xs)
  row_on x new y lt is to pushed = pushed ∙ ap (λ zs. zs ++ y ∷ []) h ∙ ap (λ z. map f (take i xs) ++ z ∷ []) (to ∙ ap f is) ∙ sym (map_more f xs i x lt)

-- pairs are one where both of their parts are
pub both_same : {A B : Type 0} (p q : A × B) → p.0 ≡ q.0 → p.1 ≡ q.1 → p ≡ q
both_same p q e f = λ i. (e i, f i)
