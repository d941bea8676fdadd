-- What is wanted is distinct and has short lists, as the tree is in which it stands.
use Rattle.std.proofs.Common.{◌≡◌, ◌∙◌, true, Option, Some, None, refl, ap}
use Rattle.std.specs.Prelude.{unwrap_or}
use Rattle.doc_tree.specs.Shape.{Shape, nothing, is_distinct, has_short_lists}
use Rattle.doc_tree.specs.Lookup.{get}
use Rattle.doc_tree.proofs.lemmas.Trees.{distinct-get, short-get}
use Rattle.policy_model.specs.Keys.{desired_word}

distinct_found : (tree : Shape) (found : Option Shape) → is_distinct tree ≡ true → get desired_word tree ≡ found → is_distinct (unwrap_or found nothing) ≡ true
distinct_found tree None h e = refl
distinct_found tree (Some t) h e = distinct-get desired_word tree t h e

short_found : (tree : Shape) (found : Option Shape) → has_short_lists tree ≡ true → get desired_word tree ≡ found → has_short_lists (unwrap_or found nothing) ≡ true
short_found tree None h e = refl
short_found tree (Some t) h e = short-get desired_word tree t h e

-- it is distinct ..
pub wanted_distinct : (tree desired : Shape) → desired ≡ unwrap_or (get desired_word tree) nothing → is_distinct tree ≡ true → is_distinct desired ≡ true
wanted_distinct tree desired is h = ap is_distinct is ∙ distinct_found tree (get desired_word tree) h refl

-- .. and has short lists
pub wanted_short : (tree desired : Shape) → desired ≡ unwrap_or (get desired_word tree) nothing → has_short_lists tree ≡ true → has_short_lists desired ≡ true
wanted_short tree desired is h = ap has_short_lists is ∙ short_found tree (get desired_word tree) h refl
