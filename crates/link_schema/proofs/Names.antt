-- The names of links, with one more.
use Rattle.std.proofs.Common.{◌≡◌, ℕ, Bool, true, false, ◌||◌, cond, List, [], ◌∷◌, ◌++◌, refl, sym, ap, ap₂, ◌∙◌}
use Rattle.std.specs.List.{list_any}
use Rattle.std.specs.Ordering.{is_eq}
use Rattle.std.specs.Cmp.Lexicographic.{texts_ties}
use Rattle.net_model.specs.Links.{is_named}
use Rattle.net_model.specs.Order.{name_cmp}
use Rattle.net_model.specs.declared.link.Link.{Link}

either : (a b : Bool) → cond b true a ≡ (a || (b || false))
either true true = refl
either true false = refl
either false true = refl
either false false = refl

regroup : (a b c : Bool) → (a || (b || c)) ≡ ((a || b) || c)
regroup true b c = refl
regroup false b c = refl

one_behind : (q : List ℕ) (links : List Link) (link : Link) → (list_any (is_named q) links || (is_named q link || false)) ≡ list_any (is_named q) (links ++ link ∷ [])
one_behind q [] link = refl
one_behind q (l ∷ links) link = sym (regroup (is_named q l) (list_any (is_named q) links) (is_named q link || false)) ∙ ap (λ b. is_named q l || b) (one_behind q links link)

pub one_more_name : (q : List ℕ) (links : List Link) (link : Link) (old new : Bool) → old ≡ list_any (is_named q) links → new ≡ cond (is_eq (name_cmp link.name q)) true old → new ≡ list_any (is_named q) (links ++ link ∷ [])
one_more_name q links link old new so e =
    e
    ∙ ap₂ (λ (tie was : Bool). cond tie true was) (sym (texts_ties link.name q)) so
    ∙ either (list_any (is_named q) links) (is_named q link)
    ∙ one_behind q links link
