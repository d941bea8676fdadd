-- As many steps as there are members reach all that any number of steps reaches.
use Rattle.std.proofs.Common.{◌≡◌, ℕ, ◌+◌, ◌<◌, ◌≤◌, ◌⊎◌, Bool, true, false, ◌||◌, ◌&&◌, List, [], ◌∷◌, length, zero, suc, refl, inl, inr, arith}
use Rattle.std.specs.List.{list_any}
use Rattle.reach.specs.Reach.{is_reached}

pub and_left : (b c : Bool) → (b && c) ≡ true → b ≡ true
and_left true c h = refl
and_left false c h = cc

pub and_right : (b c : Bool) → (b && c) ≡ true → c ≡ true
and_right true c h = h
and_right false c h = cc

pub and_both : (b c : Bool) → b ≡ true → c ≡ true → (b && c) ≡ true
and_both b c h k = rw (h, k) refl

pub or_mono : (a b c : Bool) → (b ≡ true → c ≡ true) → (a || b) ≡ true → (a || c) ≡ true
or_mono true b c f h = refl
or_mono false b c f h = f h

pub and_mono : (a b c : Bool) → (b ≡ true → c ≡ true) → (a && b) ≡ true → (a && c) ≡ true
and_mono true b c f h = f h
and_mono false b c f h = h

pub any_mono : {X : Type 0} (p q : X → Bool) → ((x : X) → p x ≡ true → q x ≡ true) → (xs : List X) → list_any p xs ≡ true → list_any q xs ≡ true
any_mono p q more [] h = h
any_mono p q more (x ∷ xs) h = elim (p x) as (λ v. p x ≡ v → (v || list_any p xs) ≡ true → (q x || list_any q xs) ≡ true) [
  | true ↦ λ e _. rw (more x e) refl
  | false ↦ λ e later. or_right (q x) (list_any q xs) (any_mono p q more xs later)
] refl h
  where
    or_right : (a b : Bool) → b ≡ true → (a || b) ≡ true
    or_right true b k = refl
    or_right false b k = k

abbrev bit : Bool → ℕ
bit true = 1
bit false = 0

abbrev pub tally : {X : Type 0} → (X → Bool) → List X → ℕ
tally f [] = 0
tally f (x ∷ xs) = bit (f x) + tally f xs

bit_le : (b c : Bool) → (b ≡ true → c ≡ true) → bit b ≤ bit c
bit_le true c f = rw (f refl) (omega arith)
bit_le false c f = omega arith

bit_same : (b c : Bool) → bit b ≡ bit c → b ≡ c
bit_same true true h = refl
bit_same false false h = refl
bit_same true false h = absurd (omega arith)
bit_same false true h = absurd (omega arith)

bit_one : (b : Bool) → bit b ≤ 1
bit_one true = omega arith
bit_one false = omega arith

pub tally_le : {X : Type 0} (f g : X → Bool) → ((x : X) → f x ≡ true → g x ≡ true) → (xs : List X) → tally f xs ≤ tally g xs
tally_le f g more [] = omega arith
tally_le f g more (x ∷ xs) = omega (arith, bit_le (f x) (g x) (more x), tally_le f g more xs)

pub tally_length : {X : Type 0} (f : X → Bool) (xs : List X) → tally f xs ≤ length xs
tally_length f [] = omega arith
tally_length f (x ∷ xs) = omega (arith, bit_one (f x), tally_length f xs)

pub tally_same : {X : Type 0} (f g : X → Bool) → ((x : X) → f x ≡ g x) → (xs : List X) → tally f xs ≡ tally g xs
tally_same f g same [] = refl
tally_same f g same (x ∷ xs) = rw (same x, tally_same f g same xs) refl

abbrev pub AgreeOn : {X : Type 0} → (X → Bool) → (X → Bool) → List X → Type 0
AgreeOn f g [] = Unit {0}
AgreeOn f g (x ∷ xs) = (f x ≡ g x) × AgreeOn f g xs

-- where as many pass the weaker test, the two agree on the members
agree_tally : {X : Type 0} (f g : X → Bool) → ((x : X) → f x ≡ true → g x ≡ true) → (xs : List X) → tally f xs ≡ tally g xs → AgreeOn f g xs
agree_tally f g more [] h = tt
agree_tally f g more (x ∷ xs) h =
    let first : bit (f x) ≡ bit (g x) = omega (arith, bit_le (f x) (g x) (more x), tally_le f g more xs) in
    let rest : tally f xs ≡ tally g xs = omega (arith, bit_le (f x) (g x) (more x), tally_le f g more xs) in
    (bit_same (f x) (g x) first, agree_tally f g more xs rest)

any_agree : {X : Type 0} (l s f g : X → Bool) → (xs : List X) → AgreeOn f g xs → list_any (λ c. l c && (s c || f c)) xs ≡ list_any (λ c. l c && (s c || g c)) xs
any_agree l s f g [] a = refl
any_agree l s f g (x ∷ xs) a = rw (a.0, any_agree l s f g xs a.1) refl

-- a step more reaches what was reached
pub reached_more : {X : Type 0} (leads : X → X → Bool) (starts : X → Bool) (xs : List X) (d : ℕ) (x : X) → is_reached leads starts xs d x ≡ true → is_reached leads starts xs (suc d) x ≡ true
reached_more leads starts xs zero x h = absurd cc
reached_more leads starts xs (suc d) x h =
    any_mono (λ c. leads c x && (starts c || is_reached leads starts xs d c)) (λ c. leads c x && (starts c || is_reached leads starts xs (suc d) c))
    (λ c. and_mono (leads c x) (starts c || is_reached leads starts xs d c) (starts c || is_reached leads starts xs (suc d) c) (or_mono (starts c) (is_reached leads starts xs d c) (is_reached leads starts xs (suc d) c) (reached_more leads starts xs d c)))
    xs h

abbrev count : {X : Type 0} → (X → X → Bool) → (X → Bool) → List X → ℕ → ℕ
count leads starts xs d = tally (is_reached leads starts xs d) xs

abbrev IsStable : {X : Type 0} → (X → X → Bool) → (X → Bool) → List X → ℕ → Type 0
IsStable leads starts xs d = count leads starts xs d ≡ count leads starts xs (suc d)

stable_next : {X : Type 0} (leads : X → X → Bool) (starts : X → Bool) (xs : List X) (d : ℕ) → IsStable leads starts xs d → IsStable leads starts xs (suc d)
stable_next leads starts xs d h =
    tally_same (is_reached leads starts xs (suc d)) (is_reached leads starts xs (suc (suc d)))
    (λ x. any_agree (λ c. leads c x) starts (is_reached leads starts xs d) (is_reached leads starts xs (suc d)) xs (agree_tally (is_reached leads starts xs d) (is_reached leads starts xs (suc d)) (reached_more leads starts xs d) xs h)) xs

equal_or_less : (a b : ℕ) → a ≤ b → (a ≡ b) ⊎ (a < b)
equal_or_less a b h = grind arith

progress : {X : Type 0} (leads : X → X → Bool) (starts : X → Bool) (xs : List X) (d : ℕ) → IsStable leads starts xs d ⊎ (d ≤ count leads starts xs d)
progress leads starts xs zero = inr (omega arith)
progress leads starts xs (suc d) = elim (progress leads starts xs d) [
  | inl stable ↦ inl (stable_next leads starts xs d stable)
  | inr many ↦ elim (equal_or_less (count leads starts xs d) (count leads starts xs (suc d)) (tally_le (is_reached leads starts xs d) (is_reached leads starts xs (suc d)) (reached_more leads starts xs d) xs)) [
    | inl same ↦ inl (stable_next leads starts xs d same)
    | inr more ↦ inr (omega (arith, many, more))
  ]
]

-- so it is enough: on the members a further step reaches nothing more
pub reached_all : {X : Type 0} (leads : X → X → Bool) (starts : X → Bool) (xs : List X) → AgreeOn (is_reached leads starts xs (length xs)) (is_reached leads starts xs (suc (length xs))) xs
reached_all leads starts xs =
    agree_tally (is_reached leads starts xs (length xs)) (is_reached leads starts xs (suc (length xs))) (reached_more leads starts xs (length xs)) xs
    (elim (progress leads starts xs (length xs)) [
      | inl stable ↦ stable
      | inr many ↦ omega (arith, many, tally_length (is_reached leads starts xs (length xs)) xs, tally_length (is_reached leads starts xs (suc (length xs))) xs, tally_le (is_reached leads starts xs (length xs)) (is_reached leads starts xs (suc (length xs))) (reached_more leads starts xs (length xs)) xs)
    ])

-- fewer arrows and sources reach no more
pub reached_fewer : {X : Type 0} (few many : X → X → Bool) (some all : X → Bool) → ((x y : X) → few x y ≡ true → many x y ≡ true) → ((x : X) → some x ≡ true → all x ≡ true) → (xs : List X) (d : ℕ) (x : X) → is_reached few some xs d x ≡ true → is_reached many all xs d x ≡ true
reached_fewer few many some all arrows sources xs zero x h = absurd cc
reached_fewer few many some all arrows sources xs (suc d) x h =
    any_mono (λ c. few c x && (some c || is_reached few some xs d c)) (λ c. many c x && (all c || is_reached many all xs d c))
    (λ c. both (few c x) (many c x) (some c || is_reached few some xs d c) (all c || is_reached many all xs d c) (arrows c x)
    (either (some c) (all c) (is_reached few some xs d c) (is_reached many all xs d c) (sources c) (reached_fewer few many some all arrows sources xs d c)))
    xs h
  where
    both : (a b c e : Bool) → (a ≡ true → b ≡ true) → (c ≡ true → e ≡ true) → (a && c) ≡ true → (b && e) ≡ true
    both true b c e f g h = rw (f refl, g h) refl
    both false b c e f g h = absurd cc

    either : (a b c e : Bool) → (a ≡ true → b ≡ true) → (c ≡ true → e ≡ true) → (a || c) ≡ true → (b || e) ≡ true
    either true b c e f g h = rw (f refl) refl
    either false true c e f g h = refl
    either false false c e f g h = g h
