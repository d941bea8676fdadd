-- Without a cycle links have ranks, which fall with each step of dependence; and where there are such ranks there is no cycle.
use Rattle.std.proofs.Common.{◌≡◌, ℕ, ◌<◌, zero, suc, Bool, true, false, not, ◌&&◌, ◌||◌, cond, List, [], ◌∷◌, length, Some, refl, sym, ap, subst, ◌∙◌, arith}
use Rattle.reach.proofs.lemmas.Saturate.{tally, AgreeOn, tally_le, reached_all}
use Rattle.net_model.specs.Links.{find_link, is_named}
use Rattle.net_model.specs.Dependence.{depends_on, reaches, on_cycle, no_cycle}
use Rattle.net_model.specs.Valid.{names_differ}
use Rattle.net_model.specs.declared.link.Link.{Link}
use Rattle.net_model.proofs.lemmas.Truth.{and_left, and_right, and_both, or_right, not_true}
use Rattle.net_model.proofs.lemmas.Found.{one_name, itself}
use Rattle.net_model.proofs.lemmas.Grounded.{found_named, any_found}
use Rattle.net_model.proofs.lemmas.ByName.{or_left, all_found, by_name, some_found}

-- the rank falls with each step
abbrev pub Falls : List Link → (List ℕ → ℕ) → Type 0
Falls links rank = (a b : Link) → find_link a.name links ≡ Some a → find_link b.name links ≡ Some b → depends_on a b ≡ true → rank b.name < rank a.name

pub or_elim : (a b : Bool) (X : Type 0) → (a ≡ true → X) → (b ≡ true → X) → (a || b) ≡ true → X
or_elim true b X f g h = f refl
or_elim false b X f g h = g h

-- what is reached has a lower rank
pub lower : (links : List Link) (rank : List ℕ → ℕ) → names_differ links ≡ true → Falls links rank → (n : List ℕ) (d : ℕ) (x : Link) → find_link x.name links ≡ Some x → reaches links d n x ≡ true → rank x.name < rank n
lower links rank differ falls n zero x found h = absurd cc
lower links rank differ falls n (suc d) x found h =
    let c = some_found (λ c. depends_on c x && (is_named n c || reaches links d n c)) links differ h in
    let step : rank x.name < rank c.0.name = falls c.0 x c.1 found (and_left (depends_on c.0 x) (is_named n c.0 || reaches links d n c.0) c.2) in
    or_elim (is_named n c.0) (reaches links d n c.0) (rank x.name < rank n)
    (λ e. subst (λ m. rank x.name < rank m) (one_name c.0.name n e) step)
    (λ e. omega (arith, step, lower links rank differ falls n d c.0 c.1 e))
    (and_right (depends_on c.0 x) (is_named n c.0 || reaches links d n c.0) c.2)

-- so none reaches itself
pub falls-no_cycle : (links : List Link) (rank : List ℕ → ℕ) → names_differ links ≡ true → Falls links rank → no_cycle links ≡ true
falls-no_cycle links rank differ falls =
    by_name (λ l. not (on_cycle links l)) links differ (λ n l found.
    let own : find_link l.name links ≡ Some l = ap (λ m. find_link m links) (found_named links n l found) ∙ found in
    off l own (on_cycle links l) refl)
  where
    off : (l : Link) → find_link l.name links ≡ Some l → (b : Bool) → on_cycle links l ≡ b → not b ≡ true
    off l own true e = absurd (omega (arith, lower links rank differ falls l.name (length links) l own e))
    off l own false e = refl

tally_agree : (f g : Link → Bool) (xs : List Link) → AgreeOn f g xs → tally f xs ≡ tally g xs
tally_agree f g [] a = refl
tally_agree f g (x ∷ xs) a = rw (a.0, tally_agree f g xs a.1) refl

-- a member that passes the weaker test alone makes the count less
tally_less : (f g : Link → Bool) → ((x : Link) → f x ≡ true → g x ≡ true) → (xs : List Link) (n : List ℕ) (b : Link) → find_link n xs ≡ Some b → f b ≡ false → g b ≡ true → tally f xs < tally g xs
tally_less f g more [] n b found fails holds = absurd cc
tally_less f g more (x ∷ xs) n b found fails holds =
    elim (is_named n x) as (λ v. cond v (Some x) (find_link n xs) ≡ Some b → tally f (x ∷ xs) < tally g (x ∷ xs)) [
      | true ↦ λ k.
          let same : x ≡ b = cc in
          let fx : f x ≡ false = ap f same ∙ fails in
          let gx : g x ≡ true = ap g same ∙ holds in
          rw (fx, gx) (omega (arith, tally_le f g more xs))
      | false ↦ λ k.
          let rest : tally f xs < tally g xs = tally_less f g more xs n b k fails holds in
          elim (f x) as (λ v. f x ≡ v → tally f (x ∷ xs) < tally g (x ∷ xs)) [
            | true ↦ λ e. rw (e, more x e) (omega (arith, rest))
            | false ↦ λ e. elim (g x) as (λ v. g x ≡ v → tally f (x ∷ xs) < tally g (x ∷ xs)) [ true ↦ λ h. rw (e, h) (omega (arith, rest)) | false ↦ λ h. rw (e, h) (omega (arith, rest)) ] refl
          ] refl
    ] found

module _ (links : List Link) where
  -- a link reaches what it depends on
  pub stands_reaches : (a b : Link) → find_link a.name links ≡ Some a → depends_on a b ≡ true → (d : ℕ) → reaches links (suc d) a.name b ≡ true
  stands_reaches a b found on d =
      any_found (λ c. depends_on c b && (is_named a.name c || reaches links d a.name c)) links a.name a found
      (and_both (depends_on a b) (is_named a.name a || reaches links d a.name a) on (or_left (is_named a.name a) (reaches links d a.name a) (itself a.name)))

  -- and, in a step more, what that reaches
  pub reaches_further : (a b : Link) → find_link a.name links ≡ Some a → depends_on a b ≡ true → find_link b.name links ≡ Some b → names_differ links ≡ true → (d : ℕ) (x : Link) → reaches links d b.name x ≡ true → reaches links (suc d) a.name x ≡ true
  reaches_further a b found on below differ zero x h = absurd cc
  reaches_further a b found on below differ (suc d) x h =
      let c = some_found (λ c. depends_on c x && (is_named b.name c || reaches links d b.name c)) links differ h in
      let step : depends_on c.0 x ≡ true = and_left (depends_on c.0 x) (is_named b.name c.0 || reaches links d b.name c.0) c.2 in
      let there : reaches links (suc d) a.name c.0 ≡ true =
      or_elim (is_named b.name c.0) (reaches links d b.name c.0) (reaches links (suc d) a.name c.0 ≡ true)
      (λ e.
      let one : b ≡ c.0 = (let s : Some b ≡ Some c.0 = sym below ∙ ap (λ m. find_link m links) (sym (one_name c.0.name b.name e)) ∙ c.1 in cc) in
      subst (λ y. reaches links (suc d) a.name y ≡ true) one (stands_reaches a b found on d))
      (reaches_further a b found on below differ d c.0)
      (and_right (depends_on c.0 x) (is_named b.name c.0 || reaches links d b.name c.0) c.2) in
      any_found (λ y. depends_on y x && (is_named a.name y || reaches links (suc d) a.name y)) links c.0.name c.0 c.1
      (and_both (depends_on c.0 x) (is_named a.name c.0 || reaches links (suc d) a.name c.0) step (or_right (is_named a.name c.0) (reaches links (suc d) a.name c.0) there))

  -- as many steps as there are links are enough
  pub reaches_enough : (n : List ℕ) (x : Link) → find_link x.name links ≡ Some x → reaches links (suc (length links)) n x ≡ reaches links (length links) n x
  reaches_enough n x found = sym (agree_at (reaches links (length links) n) (reaches links (suc (length links)) n) links x.name x (reached_all depends_on (is_named n) links) found)
    where
      agree_at : (f g : Link → Bool) (xs : List Link) (m : List ℕ) (x : Link) → AgreeOn f g xs → find_link m xs ≡ Some x → f x ≡ g x
      agree_at f g [] m x a found = absurd cc
      agree_at f g (y ∷ ys) m x a found =
          elim (is_named m y) as (λ v. cond v (Some y) (find_link m ys) ≡ Some x → f x ≡ g x) [
            | true ↦ λ k. let same : y ≡ x = cc in ap f (sym same) ∙ a.0 ∙ ap g same
            | false ↦ λ k. agree_at f g ys m x a.1 k
          ] found

  -- how many links are reached from the one of this name
  abbrev pub rank : List ℕ → ℕ
  rank n = tally (reaches links (length links) n) links

  -- without a cycle this falls
  pub rank-falls : names_differ links ≡ true → no_cycle links ≡ true → (a b : Link) → find_link a.name links ≡ Some a → find_link b.name links ≡ Some b → depends_on a b ≡ true → tally (reaches links (length links) b.name) links < tally (reaches links (length links) a.name) links
  rank-falls differ none a b found below on =
      let off : on_cycle links b ≡ false = not_true (on_cycle links b) (all_found (λ l. not (on_cycle links l)) links b.name b none below) in
      let less : tally (reaches links (length links) b.name) links < tally (reaches links (suc (length links)) a.name) links =
      tally_less (reaches links (length links) b.name) (reaches links (suc (length links)) a.name) (reaches_further a b found on below differ (length links)) links b.name b below off (stands_reaches a b found on (length links)) in
      let same : tally (reaches links (length links) a.name) links ≡ tally (reaches links (suc (length links)) a.name) links =
      tally_agree (reaches links (length links) a.name) (reaches links (suc (length links)) a.name) links (reached_all depends_on (is_named a.name) links) in
      omega (arith, less, same)
