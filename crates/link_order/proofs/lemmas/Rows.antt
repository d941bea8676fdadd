-- Arrows that are drawn one after another, to places that are found by name.
use Rattle.std.proofs.Common.{◌≡◌, ◌≢◌, ◌⊎◌, inl, inr, ◌<◌, ◌+◌, ◌++◌, ℕ, zero, suc, Bool, true, false, List, [], ◌∷◌, map, take, length, get_or, set, replicate, Some, None, if◌then◌else◌, refl, sym, ap, ap₂, subst, ◌∙◌, arith}
use Rattle.std.specs.Option.{option_to_list}
use Rattle.std.proofs.lemmas.List.{append-nil, append_assoc, ext_get_or, get_or-map, get_or-set_same, get_or-set_other, length-map, length-set, length-take-le}
use Rattle.reach.specs.Positions.{positions}
use Rattle.net_model.specs.Links.{is_named, same_name, find_link}
use Rattle.net_model.specs.Order.{link_cmp}
use Rattle.net_model.specs.Valid.{names_differ}
use Rattle.net_model.specs.declared.Link.{Link}
use Rattle.reach.proofs.lemmas.Positions.{positions_sound, positions_whole}
use Rattle.net_model.proofs.lemmas.Found.{one_name, names_tie, found_at}
use Rattle.net_model.proofs.lemmas.Orders.{link_cmp_total}
use Rattle.net_model.proofs.lemmas.Places.{only_itself}
use Rattle.link_order.specs.Rows.{rows_to}
use Rattle.link_order.proofs.lemmas.More.{take_one}

off : (b : Bool) → (b ≡ true → ⊥) → b ≡ false
off true h = absurd (h refl)
off false h = refl

same_or_other : (i k : ℕ) → (i ≡ k) ⊎ (i ≢ k)
same_or_other i k = grind arith

-- ---- the places of those that pass a test

-- two tests that agree find the same places
pub positions_same : {X : Type 0} (p q : X → Bool) → ((x : X) → p x ≡ q x) → (at : ℕ) (xs : List X) → positions p at xs ≡ positions q at xs
positions_same p q same at [] = refl
positions_same p q same at (x ∷ xs) = ap₂ (λ (b : Bool) (rest : List ℕ). if b then at ∷ rest else rest) (same x) (positions_same p q same (at + 1) xs)

-- none, where none passes
pub no_places : {X : Type 0} (p : X → Bool) (at : ℕ) (xs : List X) → ((k : ℕ) (d : X) → k < length xs → p (get_or xs k d) ≡ false) → positions p at xs ≡ []
no_places p at [] none = refl
no_places p at (x ∷ xs) none =
    ap (λ (b : Bool). if b then at ∷ positions p (at + 1) xs else positions p (at + 1) xs) (none 0 x (omega arith))
    ∙ no_places p (at + 1) xs (λ k d lt. none (suc k) d (omega arith))

-- one, where one alone passes
pub one_place : {X : Type 0} (p : X → Bool) (at : ℕ) (xs : List X) (i : ℕ) → i < length xs → ((d : X) → p (get_or xs i d) ≡ true) → ((k : ℕ) (d : X) → k < length xs → p (get_or xs k d) ≡ true → k ≡ i) → positions p at xs ≡ (at + i) ∷ []
one_place p at [] i lt here only = absurd (omega arith)
one_place p at (x ∷ xs) zero lt here only =
    ap (λ (b : Bool). if b then at ∷ positions p (at + 1) xs else positions p (at + 1) xs) (here x)
    ∙ ap (λ (rest : List ℕ). at ∷ rest) (no_places p (at + 1) xs (λ k d below. off (p (get_or xs k d)) (λ h. let wrong : suc k ≡ 0 = only (suc k) d (omega arith) h in absurd (omega arith))))
    ∙ ap (λ n. n ∷ []) (omega arith)
one_place p at (x ∷ xs) (suc i) lt here only =
    ap (λ (b : Bool). if b then at ∷ positions p (at + 1) xs else positions p (at + 1) xs) (off (p x) (λ h. let wrong : 0 ≡ suc i = only 0 x (omega arith) h in absurd (omega arith)))
    ∙ one_place p (at + 1) xs i (omega arith) here (λ k d below h. let same : suc k ≡ suc i = only (suc k) d (omega arith) h in omega arith)
    ∙ ap (λ n. n ∷ []) (omega arith)

-- the place of the link of a name, where names differ
pub named_place : (links : List Link) (name : List ℕ) (i : ℕ) → names_differ links ≡ true → i < length links → ((d : Link) → is_named name (get_or links i d) ≡ true) → option_to_list (Some i) ≡ positions (is_named name) 0 links
named_place links name i differ lt named =
    sym (one_place (is_named name) 0 links i lt named
    (λ k d below h.
    let here : (get_or links i d).name ≡ name = one_name (get_or links i d).name name (named d) in
    only_itself same_name link_cmp link_cmp_total names_tie links differ i k d lt below (rw here h))
    ∙ ap (λ (n : ℕ). n ∷ []) (omega arith))

pub unnamed_place : (links : List Link) (name : List ℕ) → names_differ links ≡ true → find_link name links ≡ None → option_to_list {X = ℕ} None ≡ positions (is_named name) 0 links
unnamed_place links name differ none =
    sym (no_places (is_named name) 0 links (λ k d lt. off (is_named name (get_or links k d)) (λ h.
    let wrong : Some (get_or links k d) ≡ None = sym (found_at links name k d differ lt h) ∙ none in
    absurd cc)))

-- those of a list that is one longer
positions_push : {X : Type 0} (p : X → Bool) (at : ℕ) (xs : List X) (x : X) → positions p at (xs ++ x ∷ []) ≡ positions p at xs ++ (if p x then (at + length xs) ∷ [] else [])
positions_push p at [] x = ap (λ n. if p x then n ∷ [] else []) (omega arith)
positions_push p at (y ∷ ys) x =
    ap (λ (rest : List ℕ). if p y then at ∷ rest else rest) (positions_push p (at + 1) ys x ∙ ap (λ n. positions p (at + 1) ys ++ (if p x then n ∷ [] else [])) (omega arith))
    ∙ by (p y)
  where
    by : (b : Bool) → (if b then at ∷ (positions p (at + 1) ys ++ (if p x then (at + suc (length ys)) ∷ [] else [])) else positions p (at + 1) ys ++ (if p x then (at + suc (length ys)) ∷ [] else [])) ≡ (if b then at ∷ positions p (at + 1) ys else positions p (at + 1) ys) ++ (if p x then (at + suc (length ys)) ∷ [] else [])
    by true = refl
    by false = refl

positions_next : {X : Type 0} (p : X → Bool) (xs : List X) (n : ℕ) (x : X) → n < length xs → x ≡ get_or xs n x → positions p 0 (take (n + 1) xs) ≡ positions p 0 (take n xs) ++ (if p x then n ∷ [] else [])
positions_next p xs n x lt is =
    let long : length (take n xs) ≡ n = length-take-le n xs (omega arith) in
    ap (positions p 0) (take_one xs n x lt is) ∙ positions_push p 0 (take n xs) x
    ∙ ap (λ (m : ℕ). positions p 0 (take n xs) ++ (if p x then m ∷ [] else [])) (omega (arith, long))

-- ---- rows

abbrev nothing : {X : Type 0} → X → List ℕ
nothing x = []

-- at the beginning nothing is drawn
pub rows_none : {X : Type 0} (leads : X → X → Bool) (xs : List X) → replicate (length xs) [] ≡ rows_to (λ x. []) leads xs 0
rows_none leads xs = same xs
  where
    same : {Y : Type 0} (ys : List Y) → replicate (length ys) [] ≡ map nothing ys
    same [] = refl
    same {Y} (y ∷ ys) = ap (λ (rest : List (List ℕ)). [] ∷ rest) (same ys)

-- nothing but what is there at first
pub rows_first : {X : Type 0} (first : X → List ℕ) (leads : X → X → Bool) (xs : List X) → map first xs ≡ rows_to first leads xs 0
rows_first first leads xs = same xs
  where
    same : (ys : List _) → map first ys ≡ map (λ y. first y ++ []) ys
    same [] = refl
    same (y ∷ ys) = ap₂ (λ (row : List ℕ) (rest : List (List ℕ)). row ∷ rest) (sym (append-nil (first y))) (same ys)

module _ {X : Type 0} (first : X → List ℕ) (leads : X → X → Bool) (xs : List X) (n : ℕ) (x : X) (inside : n < length xs) (own : x ≡ get_or xs n x) where
  row : ℕ → X → List ℕ
  row m y = first y ++ positions (leads y) 0 (take m xs)

  row_at : (m j : ℕ) → j < length xs → get_or (rows_to first leads xs m) j [] ≡ first (get_or xs j x) ++ positions (leads (get_or xs j x)) 0 (take m xs)
  row_at m j lt = get_or-map (λ y. first y ++ positions (leads y) 0 (take m xs)) xs j x [] lt

  led : (y : X) → leads y x ≡ true → (first y ++ positions (leads y) 0 (take n xs)) ++ n ∷ [] ≡ first y ++ positions (leads y) 0 (take (n + 1) xs)
  led y h =
      append_assoc {A = ℕ} (first y) (positions (leads y) 0 (take n xs)) (n ∷ [])
      ∙ ap (λ (rest : List ℕ). first y ++ rest) (sym (positions_next (leads y) xs n x inside own ∙ ap (λ (b : Bool). positions (leads y) 0 (take n xs) ++ (if b then n ∷ [] else [])) h))

  passed : (y : X) → leads y x ≡ false → first y ++ positions (leads y) 0 (take n xs) ≡ first y ++ positions (leads y) 0 (take (n + 1) xs)
  passed y h =
      ap (λ (rest : List ℕ). first y ++ rest)
      (sym (positions_next (leads y) xs n x inside own ∙ ap (λ (b : Bool). positions (leads y) 0 (take n xs) ++ (if b then n ∷ [] else [])) h ∙ append-nil (positions (leads y) 0 (take n xs))))

  -- where none leads to the next, no arrow is drawn
  pub row_passed : (rows : List (List ℕ)) → option_to_list {X = ℕ} None ≡ positions (λ y. leads y x) 0 xs → rows ≡ rows_to first leads xs n → rows ≡ rows_to first leads xs (n + 1)
  row_passed rows none so = so ∙ ext_get_or [] (rows_to first leads xs n) (rows_to first leads xs (n + 1))
      (length-map xs (λ y. first y ++ positions (leads y) 0 (take n xs)) ∙ sym (length-map xs (λ y. first y ++ positions (leads y) 0 (take (n + 1) xs))))
      (λ j lt.
      let jt : j < length xs = omega (arith, lt, length-map xs (λ y. first y ++ positions (leads y) 0 (take n xs))) in
      row_at n j jt ∙ passed (get_or xs j x) (nobody j jt) ∙ sym (row_at (n + 1) j jt))
    where
      nobody : (j : ℕ) → j < length xs → leads (get_or xs j x) x ≡ false
      nobody j lt = off (leads (get_or xs j x) x) (λ h.
          let s = positions_whole (λ y. leads y x) 0 xs j x lt h in
          absurd (omega (arith, s.1, ap length none)))

  drawn_length : (rows : List (List ℕ)) → rows ≡ rows_to first leads xs n → length rows ≡ length xs
  drawn_length rows so = ap length so ∙ length-map xs (λ y. first y ++ positions (leads y) 0 (take n xs))

  leader : (i : ℕ) → option_to_list (Some i) ≡ positions (λ y. leads y x) 0 xs → (i < length xs) × (leads (get_or xs i x) x ≡ true)
  leader i one =
      let s = positions_sound (λ y. leads y x) 0 xs 0 x (subst (λ (ps : List ℕ). 0 < length ps) one (omega arith)) in
      let same : i ≡ s.0 = ap (λ (ps : List ℕ). get_or ps 0 0) one ∙ s.2 ∙ omega arith in
      (omega (arith, same, s.1), subst (λ j. leads (get_or xs j x) x ≡ true) (sym same) s.3)

  -- the place that leads to the next has a row
  pub row_inside : (i : ℕ) (rows : List (List ℕ)) → option_to_list (Some i) ≡ positions (λ y. leads y x) 0 xs → rows ≡ rows_to first leads xs n → i < length rows
  row_inside i rows one so = omega (arith, (leader i one).0, drawn_length rows so)

  -- where one alone does, one is
  pub row_drawn : (i : ℕ) (old new : List (List ℕ)) → option_to_list (Some i) ≡ positions (λ y. leads y x) 0 xs → old ≡ rows_to first leads xs n → new ≡ set old i (get_or old i [] ++ n ∷ []) → new ≡ rows_to first leads xs (n + 1)
  row_drawn i old new one so is = ext_get_or [] new (rows_to first leads xs (n + 1)) (long ∙ sym (length-map xs (λ y. first y ++ positions (leads y) 0 (take (n + 1) xs)))) each
    where
      short : length old ≡ length xs
      short = drawn_length old so

      long : length new ≡ length xs
      long = ap length is ∙ length-set old i (get_or old i [] ++ n ∷ []) ∙ short

      single : (j k : ℕ) → k < length (option_to_list (Some i)) → get_or (option_to_list (Some i)) k 0 ≡ 0 + j → j ≡ i
      single j zero lt e = omega (arith, e)
      single j (suc k) lt e = absurd (omega (arith, lt))

      others : (j : ℕ) → j < length xs → j ≢ i → leads (get_or xs j x) x ≡ false
      others j lt apart = off (leads (get_or xs j x) x) (λ h.
          let s : (k : ℕ) × (k < length (option_to_list (Some i))) × (get_or (option_to_list (Some i)) k 0 ≡ 0 + j) = subst (λ (ps : List ℕ). (k : ℕ) × (k < length ps) × (get_or ps k 0 ≡ 0 + j)) (sym one) (positions_whole (λ y. leads y x) 0 xs j x lt h) in
          absurd (apart (single j s.0 s.1 s.2)))

      old_at : (j : ℕ) → j < length xs → get_or old j [] ≡ first (get_or xs j x) ++ positions (leads (get_or xs j x)) 0 (take n xs)
      old_at j lt = ap (λ (rows : List (List ℕ)). get_or rows j []) so ∙ row_at n j lt

      each : (j : ℕ) → j < length new → get_or new j [] ≡ get_or (rows_to first leads xs (n + 1)) j []
      each j lt =
          let jt : j < length xs = omega (arith, lt, long) in
          elim (same_or_other j i) [
            | inl same ↦
                ap (λ m. get_or new m []) same ∙ ap (λ (rows : List (List ℕ)). get_or rows i []) is
                ∙ get_or-set_same old i (get_or old i [] ++ n ∷ []) [] (omega (arith, short, (leader i one).0))
                ∙ ap (λ (r : List ℕ). r ++ n ∷ []) (old_at i (leader i one).0)
                ∙ led (get_or xs i x) (leader i one).1
                ∙ sym (row_at (n + 1) i (leader i one).0)
                ∙ ap (λ m. get_or (rows_to first leads xs (n + 1)) m []) (sym same)
            | inr apart ↦
                ap (λ (rows : List (List ℕ)). get_or rows j []) is
                ∙ get_or-set_other old i j (get_or old i [] ++ n ∷ []) [] apart
                ∙ old_at j jt
                ∙ passed (get_or xs j x) (others j jt apart)
                ∙ sym (row_at (n + 1) j jt)
          ]
