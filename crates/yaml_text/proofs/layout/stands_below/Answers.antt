use Rattle.std.proofs.Common.{◌≡◌, length, eqb}
use Rattle.yaml_text.proofs.Walk.{items_test, pairs_test, shape-List, shape-Map}
use Rattle.yaml_text.proofs.layout.stands_below.Goals as goal

pub returns-in-List : goal.returns-in-List
returns-in-List c =
    let e : c.is_empty.result ≡ eqb (length c.in-List.trees.items) 0 = cc (c.is_empty.ensures, c.in-List.trees.ok.0) in
    rw (c.in-List.is, shape-List c.in-List.trees, e) (items_test c.in-List.trees.items)

pub returns-in-Map : goal.returns-in-Map
returns-in-Map c =
    let e : c.is_empty-in-Map.result ≡ eqb (length c.in-Map.pairs.items) 0 = cc (c.is_empty-in-Map.ensures, c.in-Map.pairs.ok.0) in
    rw (c.in-Map.is, shape-Map c.in-Map.pairs, e) (pairs_test c.in-Map.pairs.items)
