-- What is known of the tree that a policy wants, where there is one.
use Rattle.std.proofs.Common.{◌≡◌, ◌∙◌, ◌≤◌, ℕ, Bool, true, false, cond, List, map, length, Option, Some, None, find, is_none, option_map, refl, sym, ap, subst}
use Rattle.std.specs.Prelude.{not, ◌-◌, nat_le, is_some, unwrap_or, Result, Ok, Err, IfOk, if◌then◌else◌}
use Rattle.std.proofs.lemmas.Bool.{leb-true}
use Rattle.base_model.specs.declared.path.Path.{Path}
use Rattle.base_model.specs.declared.path.PathStep.TheVariants.{Key}
use Rattle.doc_tree.specs.Shape.{Shape, nothing, shape, levels, is_distinct, has_short_lists}
use Rattle.doc_tree.specs.declared.Tree.{Tree}
use Rattle.doc_tree.specs.declared.limits.TheConstants.{MAX_LEVELS}
use Rattle.policy_model.specs.declared.limits.TheConstants.{MAX_NODES}
use Rattle.policy_model.specs.Keys.{Text, desired_word}
use Rattle.policy_model.specs.Places.{Steps as Way, below, places, filled}
use Rattle.policy_model.specs.Values.{PolicyData, capture_at, is_empty_handed, capture_value, place_value, first_empty, first_nowhere, nodes, unless, within_limits, filled_or, policy_value}
use Rattle.policy_model.specs.declared.Capture.{Capture}
use Rattle.policy_model.specs.declared.parts.Placed.{Placed}
use Rattle.policy_model.specs.declared.PolicyFault.{PolicyFault}
use Rattle.policy_model.specs.declared.PolicyFault.TheVariants.{NoValue, TooDeep, TooLarge}
use Rattle.policy_model.specs.Policies.{IsPolicy}
use Rattle.policy_lang.specs.Answers.{GivesTree}
use Rattle.policy_lang.specs.Held.{Held, data_of}
use Rattle.policy_values.specs.Sizes.{left_behind}
use Rattle.policy_values.specs.Tables.{Table, found_in, tables, seen}
use Rattle.policy_values.proofs.Passes.{last_table}
use Rattle.policy_values.proofs.Fair.{Fair}
use Rattle.policy_values.proofs.Keeping.{AllFair, captures_fair, wanted_fair}

-- ---- what is answered

-- a fault whose place was found is answered with that place ..
told_at : (found : Option Way) (way : Way) (at : Path) (answer : Result Shape PolicyFault) → Some way ≡ found → at.steps ≡ way → unless NoValue found answer ≡ Err (NoValue at)
told_at found way at answer is here = ap (λ o. unless NoValue o answer) (sym is) ∙ ap (λ (w : Way). Err (NoValue (record { steps = w }))) (sym here)

-- .. and where none was, what comes next
not_told : (found : Option Way) (answer : Result Shape PolicyFault) → None ≡ found → unless NoValue found answer ≡ answer
not_told found answer is = ap (λ o. unless NoValue o answer) (sym is)

module _ (value : Text → Option Shape) (captures : List Capture) (desired : Shape) where
  abbrev wants : PolicyData
  wants = record { captures = captures; desired = desired }

  abbrev wanted : Shape
  wanted = filled (λ inner. unwrap_or (place_value value inner) nothing) desired

  abbrev leads_nowhere : Placed → Bool
  leads_nowhere p = is_none (place_value value p.inner)

  abbrev wanted_places : List Placed
  wanted_places = map (below (Key desired_word)) (places desired)

  abbrev after_captures : Result Shape PolicyFault
  after_captures = unless NoValue (first_nowhere value wanted_places) (within_limits wanted)

  -- the first capture without a value is told ..
  pub told_empty : (c : Capture) (at : Path) → Some c ≡ find (is_empty_handed value) captures → at.steps ≡ capture_at c → filled_or value wants ≡ Err (NoValue at)
  told_empty c at is here = told_at (first_empty value captures) (capture_at c) at after_captures (ap (λ o. option_map capture_at o) is) here

  module _ (full : None ≡ find (is_empty_handed value) captures) where
    captures_full : filled_or value wants ≡ after_captures
    captures_full = not_told (first_empty value captures) after_captures (ap (λ o. option_map capture_at o) full)

    -- .. and where there is none, the first place
    pub told_nowhere : (p : Placed) (at : Path) → Some p ≡ find leads_nowhere wanted_places → at.steps ≡ p.at → filled_or value wants ≡ Err (NoValue at)
    told_nowhere p at is here = captures_full ∙ told_at (first_nowhere value wanted_places) p.at at (within_limits wanted) (ap (λ o. option_map (λ (q : Placed). q.at) o) is) here

    -- where all have values, the answer is the one on the limits
    pub told_within : (r : Result Tree PolicyFault) → None ≡ find leads_nowhere wanted_places → GivesTree (within_limits wanted) r → GivesTree (filled_or value wants) r
    told_within r is h = subst (λ d. GivesTree d r) (sym (captures_full ∙ not_told (first_nowhere value wanted_places) (within_limits wanted) (ap (λ o. option_map (λ (q : Placed). q.at) o) is))) h

-- what is left behind so many says that there are no more
few_nodes : (n left : ℕ) (rest : Option ℕ) → rest ≡ left_behind left n → is_some rest ≡ true → nat_le n left ≡ true
few_nodes n left rest is some = go (nat_le n left) refl
  where
    go : (b : Bool) → nat_le n left ≡ b → nat_le n left ≡ true
    go true few = few
    go false many =
        let none : rest ≡ None = is ∙ ap (λ b. cond b (Some (left - n)) None) many in
        let wrong : false ≡ true = sym (ap (λ (o : Option ℕ). is_some o) none) ∙ some in
        absurd cc

-- a tree that was counted and fits is given as it was made
pub within_given : (wanted made : Shape) (rest : Option ℕ) → rest ≡ left_behind MAX_NODES (nodes wanted) → is_some rest ≡ true → nat_le (levels wanted) MAX_LEVELS ≡ true → made ≡ wanted
    → within_limits wanted ≡ Ok made
within_given wanted made rest is some low same =
    ap (λ b. if not b then Err TooDeep else if not (nat_le (nodes wanted) MAX_NODES) then Err TooLarge else Ok wanted) low
    ∙ ap (λ b. if not b then Err TooLarge else Ok wanted) (few_nodes (nodes wanted) MAX_NODES rest is some)
    ∙ ap (λ (s : Shape). Ok s) (sym same)

-- ---- what is known of a tree that is given

-- where nothing stands in its way, the answer is what comes next
unless_given : (fault : Path → PolicyFault) (found : Option Way) (answer : Result Shape PolicyFault) (t : Shape) → unless fault found answer ≡ Ok t → answer ≡ Ok t
unless_given fault None answer t e = e
unless_given fault (Some way) answer t e = absurd cc

-- a tree within the limits is given as it is
limits_given : (s t : Shape) → within_limits s ≡ Ok t → (s ≡ t) × (levels t ≤ MAX_LEVELS)
limits_given s t e = go (nat_le (levels s) MAX_LEVELS) (nat_le (nodes s) MAX_NODES) refl e
  where
    go : (low few : Bool) → nat_le (levels s) MAX_LEVELS ≡ low → (if not low then Err TooDeep else if not few then Err TooLarge else Ok s) ≡ Ok t → (s ≡ t) × (levels t ≤ MAX_LEVELS)
    go false few is e = absurd cc
    go true false is e = absurd cc
    go true true is e =
        let same : s ≡ t = cc in
        (same, subst (λ u. levels u ≤ MAX_LEVELS) same (leb-true (levels s) MAX_LEVELS is))

-- what is given is what is wanted, with its places replaced
given : (value : Text → Option Shape) (p : PolicyData) (t : Shape) → filled_or value p ≡ Ok t → (filled (λ inner. unwrap_or (place_value value inner) nothing) p.desired ≡ t) × (levels t ≤ MAX_LEVELS)
given value p t e =
    let wanted = filled (λ inner. unwrap_or (place_value value inner) nothing) p.desired in
    let placed = unless NoValue (first_nowhere value (map (below (Key desired_word)) (places p.desired))) (within_limits wanted) in
    limits_given wanted t (unless_given NoValue (first_nowhere value (map (below (Key desired_word)) (places p.desired))) (within_limits wanted) t (unless_given NoValue (first_empty value p.captures) placed t e))

-- a tree that can be printed, and read as a document
pub record Printable (s : Shape) : Type 0 where
  pub fair : Fair s
  pub low : levels s ≤ MAX_LEVELS

module _ (captures : List Capture) (running desired : Shape) (table : Table) (known : table ≡ tables captures running (length captures)) where
  -- the table has the values of the captures
  values_are : found_in captures table ≡ capture_value captures running
  values_are = ap (λ (t : Table). found_in captures t) known ∙ last_table captures running

  abbrev policy : PolicyData
  policy = record { captures = captures; desired = desired }

  pub value_given : (r : Result Tree PolicyFault) → GivesTree (filled_or (found_in captures table) policy) r → GivesTree (policy_value running policy) r
  unfolding policy_value
  value_given r h = subst (λ (v : Text → Option Shape). GivesTree (filled_or v policy) r) values_are h

  all_fair : Fair running → AllFair (found_in captures table)
  all_fair f = subst AllFair (sym values_are) (captures_fair captures running f)

  pub printable : Fair running → Fair desired → (r : Result Tree PolicyFault) → GivesTree (filled_or (found_in captures table) policy) r → IfOk r (λ tree. Printable (shape tree))
  printable f g (Ok tree) h =
      let is = given (found_in captures table) policy (shape tree) h in
      record { fair = subst Fair is.0 (wanted_fair (found_in captures table) desired (all_fair f) g); low = is.1 }
  printable f g (Err fault) h = tt

distinct_of : (r : Result Tree PolicyFault) → IfOk r (λ tree. Printable (shape tree)) → IfOk r (λ tree. is_distinct (shape tree) ≡ true)
distinct_of (Ok tree) h = h.fair.distinct
distinct_of (Err fault) h = tt

short_of : (r : Result Tree PolicyFault) → IfOk r (λ tree. Printable (shape tree)) → IfOk r (λ tree. has_short_lists (shape tree) ≡ true)
short_of (Ok tree) h = h.fair.short
short_of (Err fault) h = tt

low_of : (r : Result Tree PolicyFault) → IfOk r (λ tree. Printable (shape tree)) → IfOk r (λ tree. levels (shape tree) ≤ MAX_LEVELS)
low_of (Ok tree) h = h.low
low_of (Err fault) h = tt

-- the same of a policy as it is held
module _ (p : Held) (running : Shape) (captures : List Capture) (wanted : Tree) (values : List (Option Tree)) (r : Result Tree PolicyFault) (of : captures ≡ p.captures) (for : wanted ≡ p.desired)
    (known : seen values ≡ tables captures running (length captures)) (h : GivesTree (filled_or (found_in captures (seen values)) (record { captures = captures; desired = shape wanted })) r) where
  same : ◌≡◌ {A = Held} (record { captures = captures; desired = wanted }) p
  same = λ i. record { captures = of i; desired = for i }

  pub held_given : GivesTree (policy_value running (data_of p)) r
  held_given = subst (λ (q : Held). GivesTree (policy_value running (data_of q)) r) same (value_given captures running (shape wanted) (seen values) known r h)

  module _ (f : Fair running) (g : IsPolicy (data_of p)) where
    held_printable : IfOk r (λ tree. Printable (shape tree))
    held_printable =
        let fair : Fair (shape p.desired) = record { distinct = g.distinct; short = g.short } in
        printable captures running (shape wanted) (seen values) known f (subst (λ (t : Tree). Fair (shape t)) (sym for) fair) r h

    pub held_distinct : IfOk r (λ tree. is_distinct (shape tree) ≡ true)
    held_distinct = distinct_of r held_printable

    pub held_short : IfOk r (λ tree. has_short_lists (shape tree) ≡ true)
    held_short = short_of r held_printable

    pub held_low : IfOk r (λ tree. levels (shape tree) ≤ MAX_LEVELS)
    held_low = low_of r held_printable
