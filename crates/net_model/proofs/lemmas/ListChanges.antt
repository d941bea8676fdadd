-- What a change of the list of one name means for all lists.
use Rattle.std.proofs.Common.{◌≡◌, ◌∙◌, ℕ, Bool, true, false, not, ◌+◌, ◌<◌, ◌||◌, cond, List, [], ◌∷◌, ◌++◌, filter, length, take, get_or, Ordering, refl, sym, ap}
use Rattle.std.specs.Prelude.{if◌then◌else◌}
use Rattle.std.specs.List.{list_any}
use Rattle.std.proofs.lemmas.List.{append-nil, take_more}
use Rattle.net_model.specs.Name.{same_bytes}
use Rattle.net_model.specs.Words.{put, is_among}
use Rattle.net_model.proofs.lemmas.Found.{one_name, itself}
use Rattle.net_model.proofs.lemmas.Truth.{or_left_false, or_right_false}
use Rattle.net_model.specs.Listed.{ChangesAt, Puts, LeavesOut}
use Rattle.net_model.proofs.lemmas.Listing.{keys_of, keys_one, keys_none}

-- names that differ, differ either way
pub turned : (a b : List ℕ) → same_bytes a b ≡ false → same_bytes b a ≡ false
turned a b off = elim (same_bytes b a) as (λ v. same_bytes b a ≡ v → v ≡ false) [
  | true ↦ λ e. sym (itself a) ∙ ap (same_bytes a) (sym (one_name b a e)) ∙ off
  | false ↦ λ e. refl
] refl

-- and names are the same either way
pub either_way : (a b : List ℕ) → same_bytes a b ≡ same_bytes b a
either_way a b = elim (same_bytes b a) as (λ v. same_bytes b a ≡ v → same_bytes a b ≡ v) [
  | true ↦ λ e. ap (same_bytes a) (one_name b a e) ∙ itself a
  | false ↦ λ e. turned b a e
] refl

-- a value put into the list of one name
pub puts_at : {V : Type 0} (R : V → V → Ordering) (value : V) (name : List ℕ) (old new : List ℕ → List V) → ChangesAt name (put R value (old name)) old new → Puts R value (same_bytes name) old new
puts_at {V} R value name old new changes k =
    elim (same_bytes k name) as (λ v. same_bytes k name ≡ v → new k ≡ (if same_bytes name k then put R value (old k) else old k)) [
      | true ↦ λ e.
          let one : k ≡ name = one_name k name e in
          ap new one ∙ changes.here ∙ ap (λ (n : List ℕ). put R value (old n)) (sym one)
          ∙ sym (ap (λ v. if v then put R value (old k) else old k) (ap (same_bytes name) one ∙ itself name))
      | false ↦ λ e. changes.others k e ∙ sym (ap (λ v. if v then put R value (old k) else old k) (turned k name e))
    ] refl

-- what isn't there is taken out without a change
pub none_left_out : (name : List ℕ) (ns : List (List ℕ)) → is_among ns name ≡ false → filter (λ n. not (same_bytes n name)) ns ≡ ns
none_left_out name [] h = refl
none_left_out name (n ∷ ns) h =
    rw (or_left_false (same_bytes n name) (is_among ns name) h) (ap (λ (ms : List (List ℕ)). n ∷ ms) (none_left_out name ns (or_right_false (same_bytes n name) (is_among ns name) h)))

-- a name taken out of the only list that may have it is taken out of all
pub leaves_out : (of name : List ℕ) (old new : List ℕ → List (List ℕ)) → ChangesAt of (filter (λ n. not (same_bytes n name)) (old of)) old new → ((k : List ℕ) → same_bytes of k ≡ false → is_among (old k) name ≡ false) → LeavesOut name old new
leaves_out of name old new changes away k =
    elim (same_bytes k of) as (λ v. same_bytes k of ≡ v → new k ≡ filter (λ n. not (same_bytes n name)) (old k)) [
      | true ↦ λ e.
          let one : k ≡ of = one_name k of e in
          ap new one ∙ changes.here ∙ ap (λ (n : List ℕ). filter (λ m. not (same_bytes m name)) (old n)) (sym one)
      | false ↦ λ e. changes.others k e ∙ sym (none_left_out name (old k) (away k (turned k of e)))
    ] refl

-- what a list hasn't, what is kept of it hasn't
pub none_kept : (q : List ℕ → Bool) (name : List ℕ) (ns : List (List ℕ)) → is_among ns name ≡ false → is_among (filter q ns) name ≡ false
none_kept q name [] h = refl
none_kept q name (n ∷ ns) h =
    let rest : is_among (filter q ns) name ≡ false = none_kept q name ns (or_right_false (same_bytes n name) (is_among ns name) h) in
    elim (q n) as (λ v. is_among (cond v (n ∷ filter q ns) (filter q ns)) name ≡ false) [
      | true ↦ rw (or_left_false (same_bytes n name) (is_among ns name) h) rest
      | false ↦ rest
    ]

any_append : {X : Type 0} (p : X → Bool) (xs ys : List X) → list_any p (xs ++ ys) ≡ (list_any p xs || list_any p ys)
any_append p [] ys = refl
any_append p (x ∷ xs) ys = ap (λ v. p x || v) (any_append p xs ys) ∙ grouped (p x) (list_any p xs) (list_any p ys)
  where
    grouped : (a b c : Bool) → (a || (b || c)) ≡ ((a || b) || c)
    grouped true b c = refl
    grouped false b c = refl

-- whether a name is one of the first so many, and one more
pub among_more : (names : List (List ℕ)) (i : ℕ) (name k : List ℕ) → i < length names → name ≡ get_or names i name → is_among (take (i + 1) names) k ≡ (is_among (take i names) k || (same_bytes name k || false))
among_more names i name k lt own =
    ap (λ (ns : List (List ℕ)). is_among ns k) (take_more names i name lt) ∙ any_append (λ n. same_bytes n k) (take i names) (get_or names i name ∷ [])
    ∙ ap (λ (n : List ℕ). is_among (take i names) k || (same_bytes n k || false)) (sym own)

-- where nothing goes, all is kept
pub all_kept : {X : Type 0} (xs : List X) → filter (λ x. true) xs ≡ xs
all_kept [] = refl
all_kept {X} (x ∷ xs) = ap (λ (ys : List X). x ∷ ys) (all_kept xs)

-- one name more that is taken out
pub left_out_more : (goes : List (List ℕ)) (i : ℕ) (name : List ℕ) (first old new : List ℕ → List (List ℕ)) → i < length goes → name ≡ get_or goes i name
    → ((k : List ℕ) → old k ≡ filter (λ n. not (is_among (take i goes) n)) (first k)) → LeavesOut name old new
    → (k : List ℕ) → new k ≡ filter (λ n. not (is_among (take (i + 1) goes) n)) (first k)
left_out_more goes i name first old new lt own is leaves k = leaves k ∙ ap (filter (λ n. not (same_bytes n name))) (is k) ∙ both (first k)
  where
    more : (n : List ℕ) → not (is_among (take (i + 1) goes) n) ≡ not (is_among (take i goes) n || (same_bytes n name || false))
    more n = ap not (among_more goes i name n lt own ∙ ap (λ v. is_among (take i goes) n || (v || false)) (either_way name n))

    both : (ns : List (List ℕ)) → filter (λ n. not (same_bytes n name)) (filter (λ n. not (is_among (take i goes) n)) ns) ≡ filter (λ n. not (is_among (take (i + 1) goes) n)) ns
    both [] = refl
    both (n ∷ ns) =
        elim (is_among (take i goes) n) as (λ v. filter (λ m. not (same_bytes m name)) (cond (not v) (n ∷ filter (λ m. not (is_among (take i goes) m)) ns) (filter (λ m. not (is_among (take i goes) m)) ns))
        ≡ cond (not (v || (same_bytes n name || false))) (n ∷ filter (λ m. not (is_among (take (i + 1) goes) m)) ns) (filter (λ m. not (is_among (take (i + 1) goes) m)) ns)) [
          | true ↦ both ns
          | false ↦ elim (same_bytes n name) as (λ w. cond (not w) (n ∷ filter (λ m. not (same_bytes m name)) (filter (λ m. not (is_among (take i goes) m)) ns)) (filter (λ m. not (same_bytes m name)) (filter (λ m. not (is_among (take i goes) m)) ns))
              ≡ cond (not (w || false)) (n ∷ filter (λ m. not (is_among (take (i + 1) goes) m)) ns) (filter (λ m. not (is_among (take (i + 1) goes) m)) ns)) [
                | true ↦ both ns
                | false ↦ ap (λ (ms : List (List ℕ)). n ∷ ms) (both ns)
              ]
        ]
        ∙ ap (λ v. cond v (n ∷ filter (λ m. not (is_among (take (i + 1) goes) m)) ns) (filter (λ m. not (is_among (take (i + 1) goes) m)) ns)) (sym (more n))

-- one name more whose list is emptied
pub cleared_more : {V : Type 0} (goes : List (List ℕ)) (i : ℕ) (name : List ℕ) (first old new : List ℕ → List V) → i < length goes → name ≡ get_or goes i name
    → ((k : List ℕ) → old k ≡ (if is_among (take i goes) k then [] else first k)) → ChangesAt name [] old new
    → (k : List ℕ) → new k ≡ (if is_among (take (i + 1) goes) k then [] else first k)
cleared_more {V} goes i name first old new lt own is changes k =
    let more : is_among (take (i + 1) goes) k ≡ (is_among (take i goes) k || (same_bytes name k || false)) = among_more goes i name k lt own in
    elim (same_bytes k name) as (λ v. same_bytes k name ≡ v → new k ≡ (if is_among (take (i + 1) goes) k then [] else first k)) [
      | true ↦ λ e.
          let one : k ≡ name = one_name k name e in
          ap new one ∙ changes.here ∙ sym (ap (λ v. if v then [] else first k) (more ∙ ap (λ v. is_among (take i goes) k || (v || false)) (ap (same_bytes name) one ∙ itself name) ∙ either (is_among (take i goes) k)))
      | false ↦ λ e. changes.others k e ∙ is k ∙ sym (ap (λ v. if v then [] else first k) (more ∙ ap (λ v. is_among (take i goes) k || (v || false)) (turned k name e) ∙ neither (is_among (take i goes) k)))
    ] refl
  where
    either : (b : Bool) → (b || (true || false)) ≡ true
    either true = refl
    either false = refl

    neither : (b : Bool) → (b || (false || false)) ≡ b
    neither true = refl
    neither false = refl

-- a key that is appended to the list that its member is filed under
module _ {X Y : Type 0} (key : X → Y) (under : List ℕ → X → Bool) (a : X) where
  -- of a member that is filed under one name
  pub filed_more : (name : List ℕ) → ((k : List ℕ) → under k a ≡ same_bytes name k) → (old new : List ℕ → List Y) → ChangesAt name (old name ++ key a ∷ []) old new → (k : List ℕ) → new k ≡ old k ++ keys_of key (under k) (a ∷ [])
  filed_more name filed old new changes k =
      elim (same_bytes k name) as (λ v. same_bytes k name ≡ v → new k ≡ old k ++ keys_of key (under k) (a ∷ [])) [
        | true ↦ λ e.
            let one : k ≡ name = one_name k name e in
            ap new one ∙ changes.here ∙ ap (λ (n : List ℕ). old n ++ key a ∷ []) (sym one)
            ∙ ap (λ (ys : List Y). old k ++ ys) (sym (keys_one key (under k) a (filed k ∙ ap (λ (n : List ℕ). same_bytes n k) (sym one) ∙ itself k)))
        | false ↦ λ e. changes.others k e ∙ sym (append-nil (old k)) ∙ ap (λ (ys : List Y). old k ++ ys) (sym (keys_none key (under k) a (filed k ∙ turned k name e)))
      ] refl

  -- of a member that is filed under none
  pub filed_none : ((k : List ℕ) → under k a ≡ false) → (old : List ℕ → List Y) → (k : List ℕ) → old k ≡ old k ++ keys_of key (under k) (a ∷ [])
  filed_none none old k = sym (append-nil (old k)) ∙ ap (λ (ys : List Y). old k ++ ys) (sym (keys_none key (under k) a (none k)))
