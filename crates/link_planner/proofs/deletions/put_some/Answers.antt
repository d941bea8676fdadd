use Rattle.std.proofs.Common.{◌≡◌, ◌∙◌, ◌||◌, ℕ, List, Option, false, OnOk, sym, ap, subst}
use Rattle.std.specs.Option.{option_map_or}
use Rattle.std.specs.BTreeSet.{contains}
use Rattle.net_model.specs.Name.{same_bytes}
use Rattle.net_model.specs.Order.{name_cmp}
use Rattle.link_planner.proofs.Noted.{none_put}
use Rattle.link_planner.proofs.deletions.put_some.Goals as goal

pub returns-in-Some : goal.returns-in-Some
returns-in-Some c =
    subst (λ (o : Option (List ℕ)). OnOk c.put.result ((n : List ℕ) → contains name_cmp c.put.new.names n ≡ (contains name_cmp c.args.names.now n || option_map_or (λ p. same_bytes p n) o false))) (sym c.in-Some.is) c.put.ensures

pub returns-in-None : goal.returns-in-None
returns-in-None c = λ n.
    none_put (contains name_cmp c.args.names.now n) ∙ ap (λ (o : Option (List ℕ)). contains name_cmp c.args.names.now n || option_map_or (λ p. same_bytes p n) o false) (sym c.in-None.is)
