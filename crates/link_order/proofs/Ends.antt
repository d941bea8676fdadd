-- The implied links and their names, with one more.
use Rattle.std.proofs.Common.{◌≡◌, ℕ, ◌+◌, ◌<◌, Bool, true, false, ◌||◌, cond, List, [], ◌∷◌, ◌++◌, length, get_or, take, Option, Some, None, if◌then◌else◌, refl, sym, ap, ap₂, subst, ◌∙◌}
use Rattle.std.specs.List.{list_any, filter_map}
use Rattle.std.specs.Option.{option_map_or, option_to_list}
use Rattle.std.specs.Ordering.{is_eq}
use Rattle.std.specs.Cmp.Lexicographic.{texts_ties}
use Rattle.std.proofs.lemmas.List.{append-nil}
use Rattle.net_model.specs.Name.{same_bytes}
use Rattle.net_model.specs.Order.{name_cmp}
use Rattle.net_model.proofs.lemmas.Found.{one_name}
use Rattle.merge_model.specs.Once.{once}
use Rattle.merge_model.specs.Members.{Member, same_member}
use Rattle.merge_model.proofs.lemmas.Once.{once_more}
use Rattle.merge_model.proofs.lemmas.Steps.{filter_map_one}
use Rattle.link_order.specs.Implied.{further}

either : (a b : Bool) → cond b true a ≡ (a || (b || false))
either true true = refl
either true false = refl
either false true = refl
either false false = refl

regroup : (a b c : Bool) → (a || (b || c)) ≡ ((a || b) || c)
regroup true b c = refl
regroup false b c = refl

behind : (q : List ℕ) (ms : List Member) (m : Member) → (list_any (λ x. same_bytes x.name q) ms || (same_bytes m.name q || false)) ≡ list_any (λ x. same_bytes x.name q) (ms ++ m ∷ [])
behind q [] m = refl
behind q (x ∷ ms) m = sym (regroup (same_bytes x.name q) (list_any (λ y. same_bytes y.name q) ms) (same_bytes m.name q || false)) ∙ ap (λ b. same_bytes x.name q || b) (behind q ms m)

-- the name of a further one is put into the set
pub one_more_end : (q : List ℕ) (ms : List Member) (m : Member) (old new : Bool) → old ≡ list_any (λ x. same_bytes x.name q) ms → new ≡ cond (is_eq (name_cmp m.name q)) true old → new ≡ list_any (λ x. same_bytes x.name q) (ms ++ m ∷ [])
one_more_end q ms m old new so e =
    e
    ∙ ap₂ (λ (tie was : Bool). cond tie true was) (sym (texts_ties m.name q)) so
    ∙ either (list_any (λ x. same_bytes x.name q) ms) (same_bytes m.name q)
    ∙ behind q ms m

-- one whose name is there adds nothing
pub nothing_more : (ms : List Member) (m : Member) (has : Bool) → has ≡ list_any (λ x. same_bytes x.name m.name) ms → has ≡ true → ms ≡ ms ++ further ms m
nothing_more ms m has is h = sym (append-nil ms) ∙ ap (λ (b : Bool). ms ++ (if b then [] else m ∷ [])) (sym h ∙ is)

-- one whose name isn't there comes last
pub one_end_more : (ms : List Member) (m : Member) (has : Bool) → has ≡ list_any (λ x. same_bytes x.name m.name) ms → has ≡ false → ms ++ m ∷ [] ≡ ms ++ further ms m
one_end_more ms m has is h = ap (λ (b : Bool). ms ++ (if b then [] else m ∷ [])) (sym h ∙ is)

through : (a b c : Member) → same_member a b ≡ true → same_member b c ≡ true → same_member a c ≡ true
through a b c h k = subst (λ n. same_bytes n c.name ≡ true) (sym (one_name a.name b.name h)) k

once_with : (xs : List Member) (o : Option Member) → once same_member (xs ++ option_to_list o) ≡ once same_member xs ++ option_map_or (further (once same_member xs)) o []
once_with xs None = ap (once same_member) (append-nil xs) ∙ sym (append-nil (once same_member xs))
once_with xs (Some m) = once_more same_member through xs m

-- what a further one implies, unless one of that name is implied already
pub end_more : (by : Member → Option Member) (made : List Member) (i : ℕ) (m : Member) → i < length made → m ≡ get_or made i m
    → once same_member (filter_map by (take (i + 1) made)) ≡ once same_member (filter_map by (take i made)) ++ option_map_or (further (once same_member (filter_map by (take i made)))) (by m) []
end_more by made i m lt is = ap (once same_member) (filter_map_one by made i m lt is) ∙ once_with (filter_map by (take i made)) (by m)
