-- The names that lists of links of different names have.
use Rattle.std.proofs.Common.{◌≡◌, ℕ, ◌+◌, ◌<◌, Bool, true, false, not, ◌&&◌, ◌||◌, cond, List, [], ◌∷◌, length, get_or, take, Some, None, refl, sym, ap, ◌∙◌}
use Rattle.std.specs.List.{list_any, find}
use Rattle.std.specs.Option.{option_map_or, unwrap_or}
use Rattle.std.specs.Ordering.{is_eq}
use Rattle.std.specs.Cmp.Lexicographic.{texts_ties}
use Rattle.net_model.specs.Name.{same_bytes}
use Rattle.net_model.specs.Words.{is_among}
use Rattle.net_model.specs.Order.{name_cmp}
use Rattle.net_model.proofs.lemmas.Found.{one_name}
use Rattle.document_model.specs.declared.Claim.{Claim}
use Rattle.document_model.specs.declared.Claim.TheVariants.{Nobody, To}
use Rattle.merge_model.specs.Members.{Member}
use Rattle.merge_model.specs.Controllers.{stated_ports, lists}
use Rattle.merge_model.specs.BrokenPorts.{same_claim}
use Rattle.link_members.specs.Listers.{is_rival, rivals}
use Rattle.link_members.proofs.Firsts.{listed}
use Rattle.link_order.proofs.lemmas.More.{take_one, any_more}

-- before any name
pub no_contest : (o : Bool) → o ≡ (o || false)
no_contest true = refl
no_contest false = refl

-- a name that is put into a set
pub put_in : (name q : List ℕ) (old new rival : Bool) → rival ≡ true → new ≡ cond (is_eq (name_cmp name q)) true old → new ≡ (old || (same_bytes name q && rival))
put_in name q old new rival so e =
    e
    ∙ ap (λ b. cond b true old) (sym (texts_ties name q))
    ∙ by (same_bytes name q) old
    ∙ ap (λ r. old || (same_bytes name q && r)) (sym so)
  where
    by : (s o : Bool) → cond s true o ≡ (o || (s && true))
    by true true = refl
    by true false = refl
    by false true = refl
    by false false = refl

same_name : (o a r : Bool) → ((o || (a && r)) || r) ≡ (o || r)
same_name true a r = refl
same_name false true true = refl
same_name false true false = refl
same_name false false r = refl

-- one name more
pub one_contest : (ms : List Member) (names : List (List ℕ)) (i : ℕ) (name : List ℕ) → i < length names → name ≡ get_or names i name → (lister q : List ℕ) (old now rival : Bool)
    → rival ≡ is_rival ms name lister → now ≡ (old || (is_among (take i names) q && is_rival ms q lister))
    → (now || (same_bytes name q && rival)) ≡ (old || (is_among (take (i + 1) names) q && is_rival ms q lister))
one_contest ms names i name lt is lister q old now rival told e =
    ap (λ b. b || (same_bytes name q && rival)) e
    ∙ by (same_bytes name q) refl
    ∙ ap (λ b. old || (b && is_rival ms q lister)) (sym (ap (λ ns. is_among ns q) (take_one names i name lt is) ∙ any_more (λ n. same_bytes n q) (take i names) name))
  where
    by : (s : Bool) → same_bytes name q ≡ s → ((old || (is_among (take i names) q && is_rival ms q lister)) || (s && rival)) ≡ (old || (cond s true (is_among (take i names) q) && is_rival ms q lister))
    by true same =
        ap (λ b. (old || (is_among (take i names) q && is_rival ms q lister)) || b) (told ∙ ap (λ n. is_rival ms n lister) (one_name name q same))
        ∙ same_name old (is_among (take i names) q) (is_rival ms q lister)
    by false same = sym (no_contest (old || (is_among (take i names) q && is_rival ms q lister)))

either : (o x : Bool) → (o || x) ≡ cond x true o
either true true = refl
either true false = refl
either false true = refl
either false false = refl

-- one link more
pub one_rival : (ms : List Member) (i : ℕ) (m : Member) → i < length ms → m ≡ get_or ms i m → (ports : List (List ℕ)) → ports ≡ unwrap_or (stated_ports m) [] → (name : List ℕ) → name ≡ m.name → (q : List ℕ) (old new : Bool)
    → old ≡ list_any (rivals ms q) (take i ms) → new ≡ (old || (is_among ports q && is_rival ms q name)) → new ≡ list_any (rivals ms q) (take (i + 1) ms)
one_rival ms i m lt is ports are name called q old new before more =
    more
    ∙ ap (λ o. o || (is_among ports q && is_rival ms q name)) before
    ∙ ap (λ b. list_any (rivals ms q) (take i ms) || (b && is_rival ms q name)) (ap (λ ns. is_among ns q) are ∙ listed (stated_ports m) q)
    ∙ ap (λ n. list_any (rivals ms q) (take i ms) || (lists m q && is_rival ms q n)) called
    ∙ either (list_any (rivals ms q) (take i ms)) (rivals ms q m)
    ∙ sym (ap (list_any (rivals ms q)) (take_one ms i m lt is) ∙ any_more (rivals ms q) (take i ms) m)
