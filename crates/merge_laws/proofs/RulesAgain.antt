-- The rules at the second time are those of the first: an entry without a priority finds its own rule again, or gets its
-- number again.
use Rattle.std.proofs.Common.{◌≡◌, ◌++◌, ◌⊎◌, inl, inr, ℕ, Bool, true, false, ◌==◌, if◌then◌else◌, List, [], ◌∷◌, length, filter, Ordering, Less, Equal, Greater, refl, sym, ap, subst, ◌∙◌}
use Rattle.std.specs.List.{list_any, filter_map, fold}
use Rattle.std.specs.Ordering.{is_eq}
use Rattle.std.proofs.lemmas.Cmp.{tied_itself}
use Rattle.net_model.specs.Words.{sorted}
use Rattle.net_model.specs.Order.{rule_cmp}
use Rattle.net_model.specs.OrderLaws.{rule_cmp_total}
use Rattle.net_model.specs.Rule.{RuleParts}
use Rattle.net_model.specs.Valid.{same_body, same_rule}
use Rattle.net_model.proofs.lemmas.Ties.{rules_tie}
use Rattle.net_model.proofs.lemmas.Truth.{and_left, and_right, and_both}
use Rattle.document_model.specs.declared.RuleEntry.{RuleEntry}
use Rattle.merge_model.specs.RuleNumbers.{is_taken, is_rule_kept, numbered_rule, unnumbered_rule, free_from, take_unnumbered, first_taken, merged_rules}
use Rattle.merge_laws.proofs.RuleLaws.{rules_differ-law}
use Rattle.merge_laws.proofs.Membership.{In, in_left, in_right, in_either, in_filter, filter_in, in_once, once_in, in_sorted, sorted_in, in_any, any_in, sorted_members}
use Rattle.merge_model.proofs.lemmas.Equal.{one_rule}
use Rattle.merge_model.proofs.lemmas.FreeNumbers.{same_of, first_free, one_first_free}

itself : (a : RuleParts) → same_rule a a ≡ true
itself a = rules_tie a a ∙ ap is_eq (tied_itself rule_cmp_total a)

body_itself : (a : RuleParts) → same_body a a ≡ true
body_itself a = and_right (a.priority == a.priority) (same_body a a) (itself a)

number_itself : (a : RuleParts) → (a.priority == a.priority) ≡ true
number_itself a = and_left (a.priority == a.priority) (same_body a a) (itself a)

-- rules of one body are one but for the priority
one_body : (a b : RuleParts) → same_body a b ≡ true → record a { priority = b.priority } ≡ b
one_body a b h = one_rule (record a { priority = b.priority }) b (and_both (b.priority == b.priority) (same_body a b) (number_itself b) h)

body_turned : (a b : RuleParts) → same_body a b ≡ true → same_body b a ≡ true
body_turned a b h = subst (λ x. same_body x a ≡ true) (one_body a b h) (body_itself a)

-- a rule of this body
abbrev has_body : List RuleParts → RuleParts → Bool
has_body rules r = list_any (λ t. same_body t r) rules

-- the rule that an entry without a priority becomes, where none of its body was taken
abbrev numbered : List RuleParts → RuleParts → RuleParts
numbered rules u = record u { priority = free_from rules (length rules) 30000 }

taken_is : (rules : List RuleParts) (u : RuleParts) → has_body rules u ≡ true → take_unnumbered rules u ≡ rules
taken_is rules u h = ap (λ b. if b then rules else rules ++ numbered rules u ∷ []) h

new_is : (rules : List RuleParts) (u : RuleParts) → has_body rules u ≡ false → take_unnumbered rules u ≡ rules ++ numbered rules u ∷ []
new_is rules u h = ap (λ b. if b then rules else rules ++ numbered rules u ∷ []) h

-- what is taken stays
stays_taken : (rules : List RuleParts) (u r : RuleParts) → In r rules → In r (take_unnumbered rules u)
stays_taken rules u r h = by (has_body rules u) refl
  where
    by : (b : Bool) → has_body rules u ≡ b → In r (take_unnumbered rules u)
    by true e = subst (In r) (sym (taken_is rules u e)) h
    by false e = subst (In r) (sym (new_is rules u e)) (in_left r rules (numbered rules u ∷ []) h)

grows : (us rules : List RuleParts) (r : RuleParts) → In r rules → In r (fold take_unnumbered rules us)
grows [] rules r h = h
grows (u ∷ us) rules r h = grows us (take_unnumbered rules u) r (stays_taken rules u r h)

-- what comes new has another body and another number
abbrev IsNew : List RuleParts → RuleParts → Type 0
IsNew rules r = (has_body rules r ≡ false) × (is_taken rules r.priority ≡ false)

fewer : (p : RuleParts → Bool) (rules : List RuleParts) (u : RuleParts) → list_any p (take_unnumbered rules u) ≡ false → list_any p rules ≡ false
fewer p rules u h = by (list_any p rules) refl
  where
    by : (b : Bool) → list_any p rules ≡ b → b ≡ false
    by false e = refl
    by true e =
        let z = any_in p rules e in
        absurd (let wrong : true ≡ false = sym (in_any p z.0 (take_unnumbered rules u) (stays_taken rules u z.0 z.1) z.2) ∙ h in cc)

old_or_new : (us rules : List RuleParts) (r : RuleParts) → In r (fold take_unnumbered rules us) → In r rules ⊎ IsNew rules r
old_or_new [] rules r h = inl h
old_or_new (u ∷ us) rules r h = elim (old_or_new us (take_unnumbered rules u) r h) [
  | inl old ↦ step (has_body rules u) refl old
  | inr new ↦ inr (fewer (λ t. same_body t r) rules u new.0, fewer (λ t. t.priority == r.priority) rules u new.1)
]
  where
    step : (b : Bool) → has_body rules u ≡ b → In r (take_unnumbered rules u) → In r rules ⊎ IsNew rules r
    step true e k = inl (subst (In r) (taken_is rules u e) k)
    step false e k = elim (in_either r rules (numbered rules u ∷ []) (subst (In r) (new_is rules u e) k)) [
      | inl old ↦ inl old
      | inr last ↦ elim last [
        | inl same ↦ inr (subst (IsNew rules) (sym same) (e, (first_free rules 30000).free))
        | inr none ↦ absurd none
      ]
    ]

-- ---- two runs beside each other

module _ (keep : RuleParts → Bool) (all : List RuleParts) where
  -- at the second time what the first has taken so far is there, and of all its rules those that no entry takes away
  record IsBeside (first second : List RuleParts) : Type 0 where
    pub has : (r : RuleParts) → In r first → In r second
    pub only : (r : RuleParts) → In r second → In r first ⊎ (In r all × (keep r ≡ true))
    pub kept : (r : RuleParts) → In r all → keep r ≡ true → In r second

  -- so a number that is free at the first time is free at the second
  same_number : (us first second : List RuleParts) (u : RuleParts) → all ≡ fold take_unnumbered first (u ∷ us) → IsBeside first second → has_body first u ≡ false → has_body second u ≡ false → free_from second (length second) 30000 ≡ free_from first (length first) 30000
  same_number us first second u is beside lacks none =
      let f = first_free first 30000 in
      let n : ℕ = free_from first (length first) 30000 in
      let made : In (numbered first u) (take_unnumbered first u) = subst (In (numbered first u)) (sym (new_is first u lacks)) (in_right (numbered first u) first (numbered first u ∷ []) (inl refl)) in
      one_first_free second 30000 (free_from second (length second) 30000) n (first_free second 30000) (record {
        from = f.from;
        free = free (is_taken second n) refl f.free made;
        taken = λ m low high.
            let z = any_in (λ r. r.priority == m) first (f.taken m low high) in
            in_any (λ r. r.priority == m) z.0 second (beside.has z.0 z.1) z.2;
      })
    where
      no_old : (r : RuleParts) → In r first → (r.priority == free_from first (length first) 30000) ≡ true → is_taken first (free_from first (length first) 30000) ≡ false → ⊥
      no_old r old e f = let wrong : true ≡ false = sym (in_any (λ t. t.priority == free_from first (length first) 30000) r first old e) ∙ f in cc

      no_later : (r : RuleParts) → In r all → In r second → (r.priority == free_from first (length first) 30000) ≡ true → is_taken first (free_from first (length first) 30000) ≡ false → In (numbered first u) (take_unnumbered first u) → ⊥
      no_later r there here e f made = elim (old_or_new us (take_unnumbered first u) r (subst (In r) is there)) [
        | inl old ↦ elim (in_either r first (numbered first u ∷ []) (subst (In r) (new_is first u lacks) old)) [
          | inl older ↦ no_old r older e f
          | inr last ↦ elim last [
            | inl same ↦
                let body : same_body r u ≡ true = ap (λ x. same_body x u) same ∙ body_itself u in
                let wrong : true ≡ false = sym (in_any (λ t. same_body t u) r second here body) ∙ none in
                cc
            | inr nothing ↦ absurd nothing
          ]
        ]
        | inr new ↦
            let n : ℕ = free_from first (length first) 30000 in
            let same : r.priority ≡ n = same_of r.priority n e in
            let taken : is_taken (take_unnumbered first u) r.priority ≡ true = in_any (λ t. t.priority == r.priority) (numbered first u) (take_unnumbered first u) made (ap (λ q. n == q) same ∙ number_itself (numbered first u)) in
            let wrong : true ≡ false = sym taken ∙ new.1 in
            cc
      ]

      free : (b : Bool) → is_taken second (free_from first (length first) 30000) ≡ b → is_taken first (free_from first (length first) 30000) ≡ false → In (numbered first u) (take_unnumbered first u) → b ≡ false
      free false e f made = refl
      free true e f made =
          let z = any_in (λ r. r.priority == free_from first (length first) 30000) second e in
          absurd (elim (beside.only z.0 z.1) [
            | inl old ↦ no_old z.0 old z.2 f
            | inr later ↦ no_later z.0 later.0 z.1 z.2 f made
          ])

  -- the rule of this body that is there already is the one that the first time makes
  found_again : (us first : List RuleParts) (u t : RuleParts) → all ≡ fold take_unnumbered first (u ∷ us) → has_body first u ≡ false → In t all → same_body t u ≡ true → t ≡ numbered first u
  found_again us first u t is lacks there body = elim (old_or_new us (take_unnumbered first u) t (subst (In t) is there)) [
    | inl old ↦ elim (in_either t first (numbered first u ∷ []) (subst (In t) (new_is first u lacks) old)) [
      | inl older ↦ absurd (let wrong : true ≡ false = sym (in_any (λ q. same_body q u) t first older body) ∙ lacks in cc)
      | inr last ↦ elim last [
        | inl same ↦ same
        | inr nothing ↦ absurd nothing
      ]
    ]
    | inr new ↦
        let made : In (numbered first u) (take_unnumbered first u) = subst (In (numbered first u)) (sym (new_is first u lacks)) (in_right (numbered first u) first (numbered first u ∷ []) (inl refl)) in
        absurd (let wrong : true ≡ false = sym (in_any (λ q. same_body q t) (numbered first u) (take_unnumbered first u) made (body_turned t u body)) ∙ new.0 in cc)
  ]

  step : (us first second : List RuleParts) (u : RuleParts) → all ≡ fold take_unnumbered first (u ∷ us) → IsBeside first second → IsBeside (take_unnumbered first u) (take_unnumbered second u)
  step us first second u is beside = by (has_body first u) refl (has_body second u) refl
    where
      by : (b : Bool) → has_body first u ≡ b → (c : Bool) → has_body second u ≡ c → IsBeside (take_unnumbered first u) (take_unnumbered second u)
      by true e true k = subst (λ xs. IsBeside xs (take_unnumbered second u)) (sym (taken_is first u e)) (subst (λ xs. IsBeside first xs) (sym (taken_is second u k)) beside)
      by true e false k =
          let z = any_in (λ t. same_body t u) first e in
          absurd (let wrong : true ≡ false = sym (in_any (λ t. same_body t u) z.0 second (beside.has z.0 z.1) z.2) ∙ k in cc)
      by false e true k =
          let z = any_in (λ t. same_body t u) second k in
          let mine : z.0 ≡ numbered first u = elim (beside.only z.0 z.1) [
            | inl old ↦ absurd (let wrong : true ≡ false = sym (in_any (λ t. same_body t u) z.0 first old z.2) ∙ e in cc)
            | inr later ↦ found_again us first u z.0 is e later.0 z.2
          ] in
          subst (λ xs. IsBeside xs (take_unnumbered second u)) (sym (new_is first u e)) (subst (λ xs. IsBeside (first ++ numbered first u ∷ []) xs) (sym (taken_is second u k)) (record {
            has = λ r h. elim (in_either r first (numbered first u ∷ []) h) [
              | inl old ↦ beside.has r old
              | inr last ↦ elim last [
                | inl same ↦ subst (λ q. In q second) (mine ∙ sym same) z.1
                | inr nothing ↦ absurd nothing
              ]
            ];
            only = λ r h. elim (beside.only r h) [
              | inl old ↦ inl (in_left r first (numbered first u ∷ []) old)
              | inr later ↦ inr later
            ];
            kept = beside.kept;
          }))
      by false e false k =
          let same : numbered second u ≡ numbered first u = ap (λ n. record u { priority = n }) (same_number us first second u is beside e k) in
          subst (λ xs. IsBeside xs (take_unnumbered second u)) (sym (new_is first u e)) (subst (λ xs. IsBeside (first ++ numbered first u ∷ []) xs) (sym (new_is second u k)) (record {
            has = λ r h. elim (in_either r first (numbered first u ∷ []) h) [
              | inl old ↦ in_left r second (numbered second u ∷ []) (beside.has r old)
              | inr last ↦ in_right r second (numbered second u ∷ []) (elim last [
                | inl e ↦ inl (e ∙ sym same)
                | inr nothing ↦ inr nothing
              ])
            ];
            only = λ r h. elim (in_either r second (numbered second u ∷ []) h) [
              | inl old ↦ elim (beside.only r old) [
                | inl older ↦ inl (in_left r first (numbered first u ∷ []) older)
                | inr later ↦ inr later
              ]
              | inr last ↦ inl (in_right r first (numbered first u ∷ []) (elim last [
                | inl e ↦ inl (e ∙ same)
                | inr nothing ↦ inr nothing
              ]))
            ];
            kept = λ r h q. in_left r second (numbered second u ∷ []) (beside.kept r h q);
          }))

  -- at the end both have the same rules
  runs : (us first second : List RuleParts) → all ≡ fold take_unnumbered first us → IsBeside first second → (r : RuleParts) → (In r (fold take_unnumbered second us) → In r all) × (In r all → In r (fold take_unnumbered second us))
  runs [] first second is beside r = (
    λ h. elim (beside.only r h) [
      | inl old ↦ subst (In r) (sym is) old
      | inr later ↦ later.0
    ],
    λ h. beside.has r (subst (In r) is h),
  )
  runs (u ∷ us) first second is beside r = runs us (take_unnumbered first u) (take_unnumbered second u) is (step us first second u is beside) r

-- where both begin
begins : (es : List RuleEntry) (rules : List RuleParts) → IsBeside (is_rule_kept es) (merged_rules es rules) (first_taken es rules) (first_taken es (sorted rule_cmp (merged_rules es rules)))
begins es rules =
    let us : List RuleParts = filter_map unnumbered_rule es in
    let stated : List RuleParts = filter_map numbered_rule es in
    let all : List RuleParts = merged_rules es rules in
    let later : List RuleParts = sorted rule_cmp (merged_rules es rules) in
    let keep : (r : RuleParts) → In r (merged_rules es rules) → is_rule_kept es r ≡ true → In r (first_taken es (sorted rule_cmp (merged_rules es rules))) = λ r h k.
    once_in same_rule one_rule r (filter (is_rule_kept es) later ++ stated) (in_left r (filter (is_rule_kept es) later) stated (filter_in (is_rule_kept es) r later (sorted_in rule_cmp r all h) k)) in
    record {
      has = λ r h. elim (in_either r (filter (is_rule_kept es) rules) stated (in_once same_rule r (filter (is_rule_kept es) rules ++ stated) h)) [
        | inl old ↦ keep r (grows us (first_taken es rules) r h) (in_filter (is_rule_kept es) r rules old).1
        | inr new ↦ once_in same_rule one_rule r (filter (is_rule_kept es) later ++ stated) (in_right r (filter (is_rule_kept es) later) stated new)
      ];
      only = λ r h. elim (in_either r (filter (is_rule_kept es) later) stated (in_once same_rule r (filter (is_rule_kept es) later ++ stated) h)) [
        | inl old ↦ let f = in_filter (is_rule_kept es) r later old in inr (in_sorted rule_cmp r all f.0, f.1)
        | inr new ↦ inl (once_in same_rule one_rule r (filter (is_rule_kept es) rules ++ stated) (in_right r (filter (is_rule_kept es) rules) stated new))
      ];
      kept = keep;
    }

pub rules_again : (es : List RuleEntry) (rules : List RuleParts) → sorted rule_cmp (merged_rules es (sorted rule_cmp (merged_rules es rules))) ≡ sorted rule_cmp (merged_rules es rules)
rules_again es rules =
    let later : List RuleParts = sorted rule_cmp (merged_rules es rules) in
    let both = runs (is_rule_kept es) (merged_rules es rules) (filter_map unnumbered_rule es) (first_taken es rules) (first_taken es later) refl (begins es rules) in
    sorted_members same_rule rule_cmp rule_cmp_total rules_tie (merged_rules es later) (merged_rules es rules) (rules_differ-law es later) (rules_differ-law es rules) (λ r. (both r).0) (λ r. (both r).1)
