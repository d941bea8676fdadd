-- What an index lists.
use Rattle.std.specs.Prelude.{ℕ, List, []}
use Rattle.std.specs.Option.{option_map_or}
use Rattle.std.specs.Global.{Vec}
use Rattle.indexmap.specs.IndexMap.{IndexMap, get}
use Rattle.net_model.specs.Name.{same_bytes}
use Rattle.net_index.specs.declared.index.Index.{Index}

-- the list of this name, which is empty where there is none
abbrev pub list_in : {V S : Type 0} → IndexMap (List ℕ) (Vec V) S → List ℕ → List V
list_in lists name = option_map_or (λ v. v.items) (get same_bytes lists name) []

abbrev pub listed : {V : Type 0} → Index V → List ℕ → List V
listed index name = list_in index.lists name
