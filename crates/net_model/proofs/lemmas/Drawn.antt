-- How arrows are drawn, one after another.
use Rattle.std.proofs.Common.{◌≡◌, ◌≢◌, ◌⊎◌, inl, inr, ⊎_elim, ◌<◌, ◌+◌, ◌++◌, ◌∙◌, ℕ, suc, Bool, true, false, ◌||◌, List, [], ◌∷◌, length, get_or, set, map, replicate, Option, Some, None, refl, sym, ap, subst, arith}
use Rattle.std.proofs.lemmas.List.{length-set, length-append, length-replicate, get_or-set_same, get_or-set_other, get_or_append_left, get_or_at, get_or-replicate, get_or-map, get_or_default}
use Rattle.std.specs.Prelude.{Result, Ok, Err, OnOk}
use Rattle.reach.specs.Reach.{IsGraph, IsLeast, Represents}
use Rattle.reach.proofs.lemmas.Least.{least_is_reached}
use Rattle.net_model.specs.Name.{same_bytes}
use Rattle.net_model.specs.Words.{rises}
use Rattle.net_model.specs.Order.{link_cmp}
use Rattle.net_model.specs.Links.{is_named, is_port_of, same_name}
use Rattle.net_model.specs.Dependence.{has_base, depends_on, reaches}
use Rattle.net_model.specs.declared.link.Link.{Link}
use Rattle.net_model.proofs.lemmas.Found.{one_name, itself, names_tie, names_differ-rises, found_at}
use Rattle.net_model.proofs.lemmas.Orders.{link_cmp_total}
use Rattle.net_model.proofs.lemmas.Places.{only_itself}
use Rattle.net_model.specs.Positions.{Places}
use Rattle.net_model.specs.Arrows.{IsOnly, FindsOnly, IsOver, IsPort, Draws}

-- what follows from what holds of Ok
pub on_ok : {T E P Q : Type 0} (r : Result T E) → (P → Q) → OnOk r P → OnOk r Q
on_ok (Ok x) f h = f h
on_ok (Err e) f h = tt

off : (b : Bool) → (b ≡ true → ⊥) → b ≡ false
off true h = absurd (h refl)
off false h = refl

-- a link that passes a test of its name is the only one
pub by_name : (p : Link → Bool) (links : List Link) (name : List ℕ) (place : Option ℕ) → rises link_cmp links ≡ true → ((l : Link) → p l ≡ same_bytes name l.name) → Places place name links → FindsOnly p links place
by_name p links name (Some i) order is at = record {
  inside = at.inside;
  passes = λ d. is (get_or links i d) ∙ ap (λ (n : List ℕ). same_bytes name n) (one_name (get_or links i d).name name (at.named d)) ∙ itself name;
  only = λ k d lt h.
      let there : name ≡ (get_or links k d).name = one_name name (get_or links k d).name (sym (is (get_or links k d)) ∙ h) in
      let here : (get_or links i d).name ≡ name = one_name (get_or links i d).name name (at.named d) in
      only_itself same_name link_cmp link_cmp_total names_tie links (names_differ-rises links order) i k d at.inside lt
      (rw (here, sym there) (itself name));
}
by_name p links name None order is none = λ k d lt. off (p (get_or links k d)) (λ h.
    let there : name ≡ (get_or links k d).name = one_name name (get_or links k d).name (sym (is (get_or links k d)) ∙ h) in
    let named : same_bytes (get_or links k d).name name ≡ true = ap (λ (n : List ℕ). same_bytes n name) (sym there) ∙ itself name in
    let some = found_at links name k d (names_differ-rises links order) lt named in
    let wrong : Some (get_or links k d) ≡ None = sym some ∙ none in
    absurd cc)

same_or_other : (i k : ℕ) → (i ≡ k) ⊎ (i ≢ k)
same_or_other i k = grind arith

module _ (links : List Link) (bases ports bases2 ports2 from to : ℕ) (old new : List (List ℕ)) (drawn : Draws links bases ports old) (inside : from < length links)
    (is : new ≡ set old from (get_or old from [] ++ to ∷ []))
    (arrow : IsOver links bases2 from to ⊎ IsPort links ports2 from to)
    (keeps : (i j : ℕ) → IsOver links bases i j ⊎ IsPort links ports i j → IsOver links bases2 i j ⊎ IsPort links ports2 i j)
    (only : (i j : ℕ) → IsOver links bases2 i j ⊎ IsPort links ports2 i j → (IsOver links bases i j ⊎ IsPort links ports i j) ⊎ ((i ≡ from) × (j ≡ to))) where
  here : get_or new from [] ≡ get_or old from [] ++ to ∷ []
  here = ap (λ (l : List (List ℕ)). get_or l from []) is ∙ get_or-set_same old from (get_or old from [] ++ to ∷ []) [] (omega (arith, drawn.whole, inside))

  there : (i : ℕ) → i ≢ from → get_or new i [] ≡ get_or old i []
  there i apart = ap (λ (l : List (List ℕ)). get_or l i []) is ∙ get_or-set_other old from i (get_or old from [] ++ to ∷ []) [] apart

  -- one more arrow is drawn
  pub one_more : Draws links bases2 ports2 new
  one_more = record {
    whole = ap length is ∙ length-set old from (get_or old from [] ++ to ∷ []) ∙ drawn.whole;
    sound = λ i k lt below. elim (same_or_other i from) [
      | inl e ↦ sound_here i k e lt below
      | inr apart ↦ sound_there i k apart lt below
    ];
    all = λ i j h. elim (only i j h) [
      | inl was ↦ all_there i j was
      | inr e ↦ all_here i j e.0 e.1
    ];
  }
    where
      sound_there : (i k : ℕ) → i ≢ from → i < length links → k < length (get_or new i []) → IsOver links bases2 i (get_or (get_or new i []) k 0) ⊎ IsPort links ports2 i (get_or (get_or new i []) k 0)
      sound_there i k apart lt below =
          subst (λ (r : List ℕ). IsOver links bases2 i (get_or r k 0) ⊎ IsPort links ports2 i (get_or r k 0)) (sym (there i apart))
          (keeps i (get_or (get_or old i []) k 0) (drawn.sound i k lt (subst (λ (r : List ℕ). k < length r) (there i apart) below)))

      at_end : (k : ℕ) → k < suc (length (get_or old from [])) → IsOver links bases2 from (get_or (get_or old from [] ++ to ∷ []) k 0) ⊎ IsPort links ports2 from (get_or (get_or old from [] ++ to ∷ []) k 0)
      at_end k below = elim (same_or_other k (length (get_or old from []))) [
        | inl e ↦ subst (λ j. IsOver links bases2 from j ⊎ IsPort links ports2 from j) (sym (get_or_at (get_or old from []) to [] 0 k (sym e))) arrow
        | inr apart ↦ subst (λ j. IsOver links bases2 from j ⊎ IsPort links ports2 from j) (sym (get_or_append_left (get_or old from []) (to ∷ []) 0 k (omega (arith, below, apart))))
            (keeps from (get_or (get_or old from []) k 0) (drawn.sound from k inside (omega (arith, below, apart))))
      ]

      sound_here : (i k : ℕ) → i ≡ from → i < length links → k < length (get_or new i []) → IsOver links bases2 i (get_or (get_or new i []) k 0) ⊎ IsPort links ports2 i (get_or (get_or new i []) k 0)
      sound_here i k e lt below =
          let row_is : get_or new i [] ≡ get_or old from [] ++ to ∷ [] = ap (λ n. get_or new n []) e ∙ here in
          let short : k < suc (length (get_or old from [])) = omega (arith, below, ap length row_is, length-append (get_or old from []) (to ∷ [])) in
          subst (λ n. IsOver links bases2 n (get_or (get_or new i []) k 0) ⊎ IsPort links ports2 n (get_or (get_or new i []) k 0)) (sym e)
          (subst (λ (r : List ℕ). IsOver links bases2 from (get_or r k 0) ⊎ IsPort links ports2 from (get_or r k 0)) (sym row_is) (at_end k short))

      all_here : (i j : ℕ) → i ≡ from → j ≡ to → (k : ℕ) × (k < length (get_or new i [])) × (get_or (get_or new i []) k 0 ≡ j)
      all_here i j e f =
          let row_is : get_or new i [] ≡ get_or old from [] ++ to ∷ [] = ap (λ n. get_or new n []) e ∙ here in
          (length (get_or old from []), omega (arith, ap length row_is, length-append (get_or old from []) (to ∷ [])), ap (λ (r : List ℕ). get_or r (length (get_or old from [])) 0) row_is ∙ get_or_at (get_or old from []) to [] 0 (length (get_or old from [])) refl ∙ sym f)

      all_there : (i j : ℕ) → IsOver links bases i j ⊎ IsPort links ports i j → (k : ℕ) × (k < length (get_or new i [])) × (get_or (get_or new i []) k 0 ≡ j)
      all_there i j was =
          let k = drawn.all i j was in
          elim (same_or_other i from) [
            | inl e ↦
                let row_is : get_or new i [] ≡ get_or old i [] ++ to ∷ [] = ap (λ n. get_or new n []) e ∙ here ∙ ap (λ n. get_or old n [] ++ to ∷ []) (sym e) in
                (k.0, omega (arith, k.1, ap length row_is, length-append (get_or old i []) (to ∷ [])), ap (λ (r : List ℕ). get_or r k.0 0) row_is ∙ get_or_append_left (get_or old i []) (to ∷ []) 0 k.0 k.1 ∙ k.2)
            | inr apart ↦ (k.0, subst (λ (r : List ℕ). k.0 < length r) (sym (there i apart)) k.1, ap (λ (r : List ℕ). get_or r k.0 0) (there i apart) ∙ k.2)
          ]

-- no arrow is drawn, and none is missing
pub no_more : (links : List Link) (bases ports bases2 ports2 : ℕ) (old : List (List ℕ)) → Draws links bases ports old
    → ((i j : ℕ) → IsOver links bases i j ⊎ IsPort links ports i j → IsOver links bases2 i j ⊎ IsPort links ports2 i j)
    → ((i j : ℕ) → IsOver links bases2 i j ⊎ IsPort links ports2 i j → IsOver links bases i j ⊎ IsPort links ports i j) → Draws links bases2 ports2 old
no_more links bases ports bases2 ports2 old drawn keeps only = record {
  whole = drawn.whole;
  sound = λ i k lt below. keeps i (get_or (get_or old i []) k 0) (drawn.sound i k lt below);
  all = λ i j h. drawn.all i j (only i j h);
}

-- at the beginning there is none
pub none_drawn : (links : List Link) → Draws links 0 0 (replicate (length links) [])
none_drawn links = record {
  whole = length-replicate (length links) [];
  sound = λ i k lt below. absurd (omega (arith, below, ap (λ (r : List ℕ). length r) (get_or-replicate (length links) i [] [] lt)));
  all = λ i j h. ⊎_elim (λ o. absurd (omega (arith, o.early))) (λ p. absurd (omega (arith, p.early))) h;
}

module _ (links : List Link) (at : ℕ) (inside : at < length links) where
  over_keeps : (i j : ℕ) → IsOver links at i j ⊎ IsPort links at i j → IsOver links (at + 1) i j ⊎ IsPort links at i j
  over_keeps i j (inl o) = inl (record { from = o.from; to = o.to; early = omega (arith, o.early); base = o.base })
  over_keeps i j (inr p) = inr p

  ports_keep : (i j : ℕ) → IsOver links (at + 1) i j ⊎ IsPort links at i j → IsOver links (at + 1) i j ⊎ IsPort links (at + 1) i j
  ports_keep i j (inl o) = inl o
  ports_keep i j (inr p) = inr (record { from = p.from; to = p.to; early = omega (arith, p.early); port = p.port })

  -- the arrow to the base
  pub base_drawn : (l : Link) → ((d : Link) → l ≡ get_or links at d) → (b : ℕ) → IsOnly (λ x. has_base l.kind x.name) links b → (old new : List (List ℕ))
      → Draws links at at old → new ≡ set old at (get_or old at [] ++ b ∷ []) → Draws links (at + 1) at new
  base_drawn l own b one old new drawn added =
      one_more links at at (at + 1) at at b old new drawn inside added
      (inl (record { from = inside; to = one.inside; early = omega arith; base = λ d. ap (λ (x : Link). has_base x.kind (get_or links b d).name) (sym (own d)) ∙ one.passes d }))
      over_keeps only
    where
      only : (i j : ℕ) → IsOver links (at + 1) i j ⊎ IsPort links at i j → (IsOver links at i j ⊎ IsPort links at i j) ⊎ ((i ≡ at) × (j ≡ b))
      only i j (inr p) = inl (inr p)
      only i j (inl o) = elim (same_or_other i at) [
        | inl e ↦ inr (e, one.only j l o.to (ap (λ (x : Link). has_base x.kind (get_or links j l).name) (own l ∙ ap (λ n. get_or links n l) (sym e)) ∙ o.base l))
        | inr apart ↦ inl (inl (record { from = o.from; to = o.to; early = omega (arith, o.early, apart); base = o.base }))
      ]

  -- there is none
  pub base_missing : (l : Link) → ((d : Link) → l ≡ get_or links at d) → ((k : ℕ) (d : Link) → k < length links → has_base l.kind (get_or links k d).name ≡ false) → (old : List (List ℕ))
      → Draws links at at old → Draws links (at + 1) at old
  base_missing l own none old drawn = no_more links at at (at + 1) at old drawn over_keeps only
    where
      only : (i j : ℕ) → IsOver links (at + 1) i j ⊎ IsPort links at i j → IsOver links at i j ⊎ IsPort links at i j
      only i j (inr p) = inr p
      only i j (inl o) = elim (same_or_other i at) [
        | inl e ↦
            let wrong : true ≡ false = sym (ap (λ (x : Link). has_base x.kind (get_or links j l).name) (own l ∙ ap (λ n. get_or links n l) (sym e)) ∙ o.base l) ∙ none j l o.to in
            absurd cc
        | inr apart ↦ inl (record { from = o.from; to = o.to; early = omega (arith, o.early, apart); base = o.base })
      ]

  -- the arrow from the controller
  pub port_drawn : (l : Link) → ((d : Link) → l ≡ get_or links at d) → (c : ℕ) → IsOnly (λ x. is_port_of x.name l) links c → (old new : List (List ℕ))
      → Draws links (at + 1) at old → new ≡ set old c (get_or old c [] ++ at ∷ []) → Draws links (at + 1) (at + 1) new
  port_drawn l own c one old new drawn added =
      one_more links (at + 1) at (at + 1) (at + 1) c at old new drawn one.inside added
      (inr (record { from = one.inside; to = inside; early = omega arith; port = λ d. ap (λ (x : Link). is_port_of (get_or links c d).name x) (sym (own d)) ∙ one.passes d }))
      ports_keep only
    where
      only : (i j : ℕ) → IsOver links (at + 1) i j ⊎ IsPort links (at + 1) i j → (IsOver links (at + 1) i j ⊎ IsPort links at i j) ⊎ ((i ≡ c) × (j ≡ at))
      only i j (inl o) = inl (inl o)
      only i j (inr p) = elim (same_or_other j at) [
        | inl e ↦ inr (one.only i l p.from (ap (λ (x : Link). is_port_of (get_or links i l).name x) (own l ∙ ap (λ n. get_or links n l) (sym e)) ∙ p.port l), e)
        | inr apart ↦ inl (inr (record { from = p.from; to = p.to; early = omega (arith, p.early, apart); port = p.port }))
      ]

  -- there is none
  pub port_missing : (l : Link) → ((d : Link) → l ≡ get_or links at d) → ((k : ℕ) (d : Link) → k < length links → is_port_of (get_or links k d).name l ≡ false) → (old : List (List ℕ))
      → Draws links (at + 1) at old → Draws links (at + 1) (at + 1) old
  port_missing l own none old drawn = no_more links (at + 1) at (at + 1) (at + 1) old drawn ports_keep only
    where
      only : (i j : ℕ) → IsOver links (at + 1) i j ⊎ IsPort links (at + 1) i j → IsOver links (at + 1) i j ⊎ IsPort links at i j
      only i j (inl o) = inl o
      only i j (inr p) = elim (same_or_other j at) [
        | inl e ↦
            let wrong : true ≡ false = sym (ap (λ (x : Link). is_port_of (get_or links i l).name x) (own l ∙ ap (λ n. get_or links n l) (sym e)) ∙ p.port l) ∙ none i l p.from in
            absurd cc
        | inr apart ↦ inr (record { from = p.from; to = p.to; early = omega (arith, p.early, apart); port = p.port })
      ]

module _ (links : List Link) (arrows : List (List ℕ)) (drawn : Draws links (length links) (length links) arrows) where
  pub drawn-IsGraph : IsGraph arrows
  drawn-IsGraph i k lt below = ⊎_elim (λ o. omega (arith, o.to, drawn.whole)) (λ p. omega (arith, p.to, drawn.whole)) (drawn.sound i k (omega (arith, lt, drawn.whole)) below)

  stands : (a b : Link) → (has_base a.kind b.name ≡ true) ⊎ (is_port_of a.name b ≡ true) → depends_on a b ≡ true
  stands a b (inl h) = rw h refl
  stands a b (inr h) = rw h (or_true (has_base a.kind b.name))
    where
      or_true : (x : Bool) → (x || true) ≡ true
      or_true true = refl
      or_true false = refl

  either : (a b : Bool) → (a || b) ≡ true → (a ≡ true) ⊎ (b ≡ true)
  either true b h = inl refl
  either false b h = inr h

  same_links : (d : Link) (i j : ℕ) → i < length links → j < length links → (e : Link) → (get_or links i e ≡ get_or links i d) × (get_or links j e ≡ get_or links j d)
  same_links d i j lt jt e = (get_or_default links i e d lt, get_or_default links j e d jt)

  -- the arrows are the graph of dependence
  pub drawn-Represents : (starts : Link → Bool) (d : Link) → Represents depends_on starts links d arrows (map starts links)
  drawn-Represents starts d = record {
    whole = drawn.whole;
    starting = λ i lt. get_or-map starts links i d false lt;
    leading = λ i k lt below. ⊎_elim
        (λ o. stands (get_or links i d) (get_or links (get_or (get_or arrows i []) k 0) d) (inl (o.base d)))
        (λ p. stands (get_or links i d) (get_or links (get_or (get_or arrows i []) k 0) d) (inr (p.port d)))
        (drawn.sound i k lt below);
    arrow = λ i j lt jt h. drawn.all i j (⊎_elim
        (λ b. inl (record { from = lt; to = jt; early = lt; base = λ e. let s = same_links d i j lt jt e in rw (s.0, s.1) b }))
        (λ p. inr (record { from = lt; to = jt; early = jt; port = λ e. let s = same_links d i j lt jt e in rw (s.0, s.1) p }))
        (either (has_base (get_or links i d).kind (get_or links j d).name) (is_port_of (get_or links i d).name (get_or links j d)) h));
  }

  -- what is marked is what is reached from the link of a name
  pub marked : (port : List ℕ) (d : Link) (starts marks : List Bool) → starts ≡ map (is_named port) links → IsLeast arrows starts marks → (i : ℕ) → i < length links
      → (get_or marks i false ≡ reaches links (length links) port (get_or links i d)) × (length marks ≡ length links)
  marked port d starts marks is least i lt =
      let closed = subst (λ (s : List Bool). IsLeast arrows s marks) is least in
      (least_is_reached depends_on (is_named port) links d arrows (map (is_named port) links) marks (drawn-Represents (is_named port) d) drawn-IsGraph closed i lt, closed.whole ∙ drawn.whole)
