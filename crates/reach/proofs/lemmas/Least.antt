-- The least closed marks are what is reached within as many steps as there are members.
use Rattle.std.proofs.Common.{◌≡◌, ℕ, ◌<◌, Bool, true, false, ◌||◌, ◌&&◌, List, [], ◌∷◌, length, get_or, zero, suc, refl, sym, ap, ◌∙◌, arith}
use Rattle.std.specs.List.{list_any}
use Rattle.reach.specs.Reach.{is_reached, is_marked, IsClosed, IsGraph, IsLeast, Represents}
use Rattle.reach.proofs.lemmas.Saturate.{AgreeOn, reached_all, and_left, and_right, and_both}

agree_at : {X : Type 0} (f g : X → Bool) (xs : List X) (d : X) → AgreeOn f g xs → (i : ℕ) → i < length xs → f (get_or xs i d) ≡ g (get_or xs i d)
agree_at f g [] d a i h = absurd (omega arith)
agree_at f g (x ∷ xs) d a zero h = a.0
agree_at f g (x ∷ xs) d a (suc i) h = agree_at f g xs d a.1 i (omega arith)

or_right : (a b : Bool) → b ≡ true → (a || b) ≡ true
or_right true b k = refl
or_right false b k = k

any_at : {X : Type 0} (p : X → Bool) (xs : List X) (d : X) (i : ℕ) → i < length xs → p (get_or xs i d) ≡ true → list_any p xs ≡ true
any_at p [] d i h here = absurd (omega arith)
any_at p (x ∷ xs) d zero h here = rw here refl
any_at p (x ∷ xs) d (suc i) h here = or_right (p x) (list_any p xs) (any_at p xs d i (omega arith) here)

-- where one passes, there is a place of it
pub any_index : {X : Type 0} (p : X → Bool) (xs : List X) (d : X) → list_any p xs ≡ true → (i : ℕ) × (i < length xs) × (p (get_or xs i d) ≡ true)
any_index p [] d h = absurd cc
any_index p (x ∷ xs) d h = elim (p x) as (λ v. p x ≡ v → (v || list_any p xs) ≡ true → (i : ℕ) × (i < suc (length xs)) × (p (get_or (x ∷ xs) i d) ≡ true)) [
  | true ↦ λ e _. (0, omega arith, e)
  | false ↦ λ e later. let i = any_index p xs d later in (suc i.0, omega (arith, i.1), i.2)
] refl h

or_elim : (a b c : Bool) → a ≡ c → (b ≡ true → c ≡ true) → (a || b) ≡ true → c ≡ true
or_elim true b c e f h = sym e
or_elim false b c e f h = f h

or_map : (a b c d : Bool) → a ≡ c → (b ≡ true → d ≡ true) → (a || b) ≡ true → (c || d) ≡ true
or_map a b true d e f h = refl
or_map true b false d e f h = absurd cc
or_map false b false d e f h = f h

same_bool : (a b : Bool) → (a ≡ true → b ≡ true) → (b ≡ true → a ≡ true) → a ≡ b
same_bool true b f g = sym (f refl)
same_bool false true f g = g refl
same_bool false false f g = refl

-- what is reached within so many steps is closed
reached_closed : {X : Type 0} (leads : X → X → Bool) (starts : X → Bool) (xs : List X) (d : X) (arrows : List (List ℕ)) (ss : List Bool) → Represents leads starts xs d arrows ss → IsGraph arrows → IsClosed arrows ss (λ j. is_reached leads starts xs (length xs) (get_or xs j d))
reached_closed leads starts xs d arrows ss r graph i inside on k h =
    let j : ℕ = get_or (get_or arrows i []) k 0 in
    let at : i < length xs = omega (arith, r.whole, inside) in
    let to : get_or (get_or arrows i []) k 0 < length xs = omega (arith, r.whole, graph i k inside h) in
    let further : is_reached leads starts xs (suc (length xs)) (get_or xs (get_or (get_or arrows i []) k 0) d) ≡ true =
    any_at (λ c. leads c (get_or xs (get_or (get_or arrows i []) k 0) d) && (starts c || is_reached leads starts xs (length xs) c)) xs d i at
    (and_both (leads (get_or xs i d) (get_or xs (get_or (get_or arrows i []) k 0) d)) (starts (get_or xs i d) || is_reached leads starts xs (length xs) (get_or xs i d))
    (r.leading i k at h) (or_map (is_marked ss i) (is_reached leads starts xs (length xs) (get_or xs i d)) (starts (get_or xs i d)) (is_reached leads starts xs (length xs) (get_or xs i d)) (r.starting i at) (λ q. q) on)) in
    agree_at (is_reached leads starts xs (length xs)) (is_reached leads starts xs (suc (length xs))) xs d (reached_all leads starts xs) (get_or (get_or arrows i []) k 0) to ∙ further

-- and each closed set of marks has it
reached_marked : {X : Type 0} (leads : X → X → Bool) (starts : X → Bool) (xs : List X) (d : X) (arrows : List (List ℕ)) (ss marks : List Bool) → Represents leads starts xs d arrows ss → IsClosed arrows ss (is_marked marks) → (steps : ℕ) (j : ℕ) → j < length xs → is_reached leads starts xs steps (get_or xs j d) ≡ true → is_marked marks j ≡ true
reached_marked leads starts xs d arrows ss marks r closed zero j h reached = absurd cc
reached_marked leads starts xs d arrows ss marks r closed (suc steps) j h reached =
    let i = any_index (λ c. leads c (get_or xs j d) && (starts c || is_reached leads starts xs steps c)) xs d reached in
    let arrow = r.arrow i.0 j i.1 h (and_left (leads (get_or xs i.0 d) (get_or xs j d)) (starts (get_or xs i.0 d) || is_reached leads starts xs steps (get_or xs i.0 d)) i.2) in
    let on : (is_marked ss i.0 || is_marked marks i.0) ≡ true =
    or_map (starts (get_or xs i.0 d)) (is_reached leads starts xs steps (get_or xs i.0 d)) (is_marked ss i.0) (is_marked marks i.0) (sym (r.starting i.0 i.1))
    (reached_marked leads starts xs d arrows ss marks r closed steps i.0 i.1)
    (and_right (leads (get_or xs i.0 d) (get_or xs j d)) (starts (get_or xs i.0 d) || is_reached leads starts xs steps (get_or xs i.0 d)) i.2) in
    ap (is_marked marks) (sym arrow.2) ∙ closed i.0 (omega (arith, r.whole, i.1)) on arrow.0 arrow.1

-- what `closure` marks is what is reached within as many steps as there are members
pub least_is_reached : {X : Type 0} (leads : X → X → Bool) (starts : X → Bool) (xs : List X) (d : X) (arrows : List (List ℕ)) (ss marks : List Bool) → Represents leads starts xs d arrows ss → IsGraph arrows → IsLeast arrows ss marks → (j : ℕ) → j < length xs → is_marked marks j ≡ is_reached leads starts xs (length xs) (get_or xs j d)
least_is_reached leads starts xs d arrows ss marks r graph least j h =
    same_bool (is_marked marks j) (is_reached leads starts xs (length xs) (get_or xs j d))
    (least.least (λ i. is_reached leads starts xs (length xs) (get_or xs i d)) (reached_closed leads starts xs d arrows ss r graph) j)
    (reached_marked leads starts xs d arrows ss marks r least.closed (length xs) j h)
