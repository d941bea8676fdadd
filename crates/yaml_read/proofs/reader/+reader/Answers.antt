use Rattle.std.proofs.Common.{◌≡◌, ◌∙◌, ◌+◌, ◌-◌, ◌++◌, ◌∷◌, [], List, ℕ, Bool, map, Ok, sym, ap, ap₂, arith}
use Rattle.std.proofs.lemmas.Result.{err_from_is_err_and}
use Rattle.std.proofs.lemmas.List.{map_push}
use Rattle.doc_tree.specs.Shape.{Shape, shape, pair_shape}
use Rattle.doc_tree.specs.declared.tree.Tree.{Tree}
use Rattle.yaml_plain.specs.Bytes.{tail}
use Rattle.yaml_read.specs.Keys.{◌>>=◌}
use Rattle.yaml_read.specs.Rows.{is_dash}
use Rattle.yaml_read.specs.Reading.{value_of, items, pairs, node}
use Rattle.yaml_read.specs.Seen.{seen, all_seen}
use Rattle.yaml_read.proofs.Fronts.{behind_front, Refuses-bind, Refuses-same, Refuses-named}
use Rattle.doc_tree.proofs.lemmas.Trees.{shape-Null}
use Rattle.yaml_read.proofs.ReaderLaws.{items_end, items_fail, items_go, items_turns, pairs_end, pairs_repeat, pairs_fail, pairs_go, pairs_turns, node_nil, node_deep, node_list, node_map, list_rest, map_rest}
use Rattle.yaml_read.proofs.reader.+reader.Goals as goal

pub items-returns-in_default : goal.items-returns-in_default
items-returns-in_default t c = items_end c.args.levels (node c.args.levels) c.args.turns c.loop-turn._turn c.args.column c.loop-turn-test.true (map shape c.loop-turn.items.items) (all_seen c.loop-turn.rest.now) _ c.loop-turn.invariant (sym c.in_default.ensures)

pub items-returns-in_err-tree : goal.items-returns-in_err-tree
items-returns-in_err-tree t c =
    let p = err_from_is_err_and c.from_residual.result c.from_residual.ensures.1 in
    let same = ap₂ (λ (x : List ℕ) (b : Bool). value_of c.args.levels (node c.args.levels) (seen c.in-Some.row.now) x b (all_seen c.in-Some.below.now)) (c.tail.ensures ∙ ap tail c.deref.ensures.value) c.begins_deeper-follows.ensures in
    rw (p.1, p.2) (items_fail c.args.levels (node c.args.levels) c.args.turns c.loop-turn._turn c.args.column c.loop-turn-test.true (map shape c.loop-turn.items.items) (all_seen c.loop-turn.rest.now) _ c.loop-turn.invariant (seen c.in-Some.row.now, all_seen c.in-Some.below.now) (sym c.in-Some.ensures) c.in_err-tree.field-0.0 (Refuses-same c.in_err-tree.field-0.0 _ _ same c.in_err-tree.ensures))

pub items-loop-turn-preserved : goal.items-loop-turn-preserved
items-loop-turn-preserved t c =
    let same = ap₂ (λ (x : List ℕ) (b : Bool). value_of c.args.levels (node c.args.levels) (seen c.in-Some.row.now) x b (all_seen c.in-Some.below.now)) (c.tail.ensures ∙ ap tail c.deref.ensures.value) c.begins_deeper-follows.ensures in
    let pushed : map shape c.push.new.self.items ≡ map shape c.loop-turn.items.items ++ shape c.in_ok-tree.tree ∷ [] =
    ap (λ (v : List Tree). map shape v) c.in_ok-push.ensures.items ∙ map_push shape c.loop-turn.items.items c.in_ok-tree.tree in
    ap (λ (f : List Shape). behind_front f (items c.args.levels (node c.args.levels) (c.args.turns - (c.loop-turn._turn + 1)) c.args.column (all_seen c.in_ok-tree.after.now))) pushed
    ∙ items_go c.args.levels (node c.args.levels) c.args.turns c.loop-turn._turn c.args.column c.loop-turn-test.true (map shape c.loop-turn.items.items) (all_seen c.loop-turn.rest.now) _ c.loop-turn.invariant (seen c.in-Some.row.now, all_seen c.in-Some.below.now) (sym c.in-Some.ensures) (shape c.in_ok-tree.tree) (all_seen c.in_ok-tree.after.now) (sym same ∙ c.in_ok-tree.ensures)

pub items-returns : goal.items-returns
items-returns t c =
    let all : c.loop-turn._turn ≡ c.args.turns = omega arith in
    items_turns c.args.levels (node c.args.levels) c.args.turns c.args.column (map shape c.loop-turn.items.items) (all_seen c.loop-turn.rest.now) _
    (ap (λ k. behind_front (map shape c.loop-turn.items.items) (items c.args.levels (node c.args.levels) (c.args.turns - k) c.args.column (all_seen c.loop-turn.rest.now))) (sym all) ∙ c.loop-turn.invariant)

pub node-returns-in_default : goal.node-returns-in_default
node-returns-in_default t c = node_nil c.args.levels c.args.rows.now c.in_default.len_below ∙ ap (λ s. Ok (s, all_seen c.args.rows.now)) (sym shape-Null)

pub node-returns-then-levels-eq0 : goal.node-returns-then-levels-eq0
node-returns-then-levels-eq0 t c =
    Refuses-named c.fault_of.result _ _ c.fault_of.ensures (node_deep c.args.levels c.args.rows.now c.first-item.result c.in-len1-up.len_at_least c.first-item.is c.if-levels-eq0.true)

pub node-returns-in_err-items : goal.node-returns-in_err-items
node-returns-in_err-items t c =
    let p = err_from_is_err_and c.from_residual.result c.from_residual.ensures.1 in
    rw (p.1, p.2) (Refuses-same c.in_err-items.field-0.0 _ _ (sym (node_list c.args.levels c.args.rows.now c.first-item.result c.in-len1-up.len_at_least c.first-item.is (omega arith) (ap is_dash (sym c.deref.ensures.value) ∙ sym c.if-is_dash.ensures))) (Refuses-bind c.in_err-items.field-0.0 _ (list_rest (seen c.first-item.result)) c.in_err-items.ensures))

pub node-returns-then-is_dash : goal.node-returns-then-is_dash
node-returns-then-is_dash t c =
    rw (node_list c.args.levels c.args.rows.now c.first-item.result c.in-len1-up.len_at_least c.first-item.is (omega arith) (ap is_dash (sym c.deref.ensures.value) ∙ sym c.if-is_dash.ensures) ∙ ap (λ r. r >>= list_rest (seen c.first-item.result)) c.in_ok-items.ensures) c.some_items.ensures

pub node-returns-in_err-pairs : goal.node-returns-in_err-pairs
node-returns-in_err-pairs t c =
    let p = err_from_is_err_and c.from_residual-in_err-pairs.result c.from_residual-in_err-pairs.ensures.1 in
    rw (p.1, p.2) (Refuses-same c.in_err-pairs.field-0.0 _ _ (sym (node_map c.args.levels c.args.rows.now c.first-item.result c.in-len1-up.len_at_least c.first-item.is (omega arith) (ap is_dash (sym c.deref.ensures.value) ∙ sym c.if-is_dash.ensures))) (Refuses-bind c.in_err-pairs.field-0.0 _ (map_rest (seen c.first-item.result)) c.in_err-pairs.ensures))

pub node-returns : goal.node-returns
node-returns t c =
    rw (node_map c.args.levels c.args.rows.now c.first-item.result c.in-len1-up.len_at_least c.first-item.is (omega arith) (ap is_dash (sym c.deref.ensures.value) ∙ sym c.if-is_dash.ensures) ∙ ap (λ r. r >>= map_rest (seen c.first-item.result)) c.in_ok-pairs.ensures) c.some_pairs.ensures

pub pairs-returns-in_default : goal.pairs-returns-in_default
pairs-returns-in_default t c =
    let e = rw c.in_default.is at c.in_ok-name.ensures in
    pairs_end c.args.levels (node c.args.levels) c.args.turns c.loop-turn._turn c.args.column c.loop-turn-test.true (map pair_shape c.loop-turn.entries) (map (λ p. p.0) c.loop-turn.entries) (all_seen c.loop-turn.rest.now) _ c.loop-turn.invariant (sym e)
    ∙ ap (λ (ps : List (List ℕ × Tree)). Ok (map pair_shape ps, all_seen c.loop-turn.rest.now)) (sym c.into_pairs.ensures)

pub pairs-returns-then-has : goal.pairs-returns-then-has
pairs-returns-then-has t c =
    let e = rw c.in-Some.is at c.in_ok-name.ensures in
    Refuses-named c.fault_of.result _ _ c.fault_of.ensures (pairs_repeat c.args.levels (node c.args.levels) c.args.turns c.loop-turn._turn c.args.column c.loop-turn-test.true (map pair_shape c.loop-turn.entries) (map (λ p. p.0) c.loop-turn.entries) (all_seen c.loop-turn.rest.now) _ c.loop-turn.invariant ((c.in-Some.name, c.in-Some.text.now), seen c.in-Some.row.now, all_seen c.in-Some.below.now) (sym e) (sym c.if-has.ensures))

pub pairs-returns-in_err-tree : goal.pairs-returns-in_err-tree
pairs-returns-in_err-tree t c =
    let p = err_from_is_err_and c.from_residual-in_err-tree.result c.from_residual-in_err-tree.ensures.1 in
    let e = rw c.in-Some.is at c.in_ok-name.ensures in
    let same = ap (λ (b : Bool). value_of c.args.levels (node c.args.levels) (seen c.in-Some.row.now) c.in-Some.text.now b (all_seen c.in-Some.below.now)) c.begins_below_key-follows.ensures in
    rw (p.1, p.2) (pairs_fail c.args.levels (node c.args.levels) c.args.turns c.loop-turn._turn c.args.column c.loop-turn-test.true (map pair_shape c.loop-turn.entries) (map (λ p. p.0) c.loop-turn.entries) (all_seen c.loop-turn.rest.now) _ c.loop-turn.invariant ((c.in-Some.name, c.in-Some.text.now), seen c.in-Some.row.now, all_seen c.in-Some.below.now) (sym e) (sym c.if-has.ensures) c.in_err-tree.field-0.0 (Refuses-same c.in_err-tree.field-0.0 _ _ same c.in_err-tree.ensures))

pub pairs-loop-turn-preserved : goal.pairs-loop-turn-preserved
pairs-loop-turn-preserved t c =
    let e = rw c.in-Some.is at c.in_ok-name.ensures in
    let same = ap (λ (b : Bool). value_of c.args.levels (node c.args.levels) (seen c.in-Some.row.now) c.in-Some.text.now b (all_seen c.in-Some.below.now)) c.begins_below_key-follows.ensures in
    let pair : List ℕ × Tree = (c.in-Some.name, c.in_ok-tree.tree) in
    let pushed : map pair_shape c.in_ok-longer.longer ≡ map pair_shape c.loop-turn.entries ++ pair_shape pair ∷ [] =
    ap (λ (v : List (List ℕ × Tree)). map pair_shape v) c.in_ok-longer.ensures ∙ map_push pair_shape c.loop-turn.entries pair in
    let keys : map (λ p. p.0) c.in_ok-longer.longer ≡ map (λ p. p.0) c.loop-turn.entries ++ c.in-Some.name ∷ [] =
    ap (λ (v : List (List ℕ × Tree)). map (λ p. p.0) v) c.in_ok-longer.ensures ∙ map_push (λ p. p.0) c.loop-turn.entries pair in
    ap₂ (λ (f : List (List ℕ × Shape)) (k : List (List ℕ)). behind_front f (pairs c.args.levels (node c.args.levels) (c.args.turns - (c.loop-turn._turn + 1)) c.args.column k (all_seen c.in_ok-tree.after.now))) pushed keys
    ∙ pairs_go c.args.levels (node c.args.levels) c.args.turns c.loop-turn._turn c.args.column c.loop-turn-test.true (map pair_shape c.loop-turn.entries) (map (λ p. p.0) c.loop-turn.entries) (all_seen c.loop-turn.rest.now) _ c.loop-turn.invariant ((c.in-Some.name, c.in-Some.text.now), seen c.in-Some.row.now, all_seen c.in-Some.below.now) (sym e) (sym c.if-has.ensures) (shape c.in_ok-tree.tree) (all_seen c.in_ok-tree.after.now) (sym same ∙ c.in_ok-tree.ensures)

pub pairs-returns : goal.pairs-returns
pairs-returns t c =
    let all : c.loop-turn._turn ≡ c.args.turns = omega arith in
    pairs_turns c.args.levels (node c.args.levels) c.args.turns c.args.column (map pair_shape c.loop-turn.entries) (map (λ p. p.0) c.loop-turn.entries) (all_seen c.loop-turn.rest.now) _
    (ap (λ k. behind_front (map pair_shape c.loop-turn.entries) (pairs c.args.levels (node c.args.levels) (c.args.turns - k) c.args.column (map (λ p. p.0) c.loop-turn.entries) (all_seen c.loop-turn.rest.now))) (sym all) ∙ c.loop-turn.invariant)
    ∙ ap (λ (ps : List (List ℕ × Tree)). Ok (map pair_shape ps, all_seen c.loop-turn.rest.now)) (sym c.into_pairs-2.ensures)
