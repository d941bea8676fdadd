use Rattle.std.proofs.Common.{◌≡◌, ◌∙◌, ◌+◌, ◌-◌, ◌++◌, ◌∷◌, [], List, ℕ, map, Ok, Err, sym, ap, ap₂, arith}
use Rattle.std.proofs.lemmas.Result.{err_from_is_err_and}
use Rattle.std.proofs.lemmas.List.{map_push}
use Rattle.doc_tree.specs.Shape.{Shape, shape, pair_shape}
use Rattle.doc_tree.specs.declared.tree.Tree.{Tree}
use Rattle.yaml_plain.specs.Bytes.{begins, tail}
use Rattle.yaml_read.specs.Keys.{◌>>=◌}
use Rattle.yaml_read.specs.Flow.{next_key, flow, flow_items, flow_pairs}
use Rattle.yaml_read.proofs.Fronts.{behind_front, Fails-bind, Fails-same}
use Rattle.doc_tree.proofs.lemmas.Trees.{shape-List, shape-Map}
use Rattle.yaml_read.proofs.FlowLaws.{items_end, items_fail, items_unparted, items_go, items_turns, pairs_end, keys_fail, values_fail, pairs_unparted, pairs_go, pairs_turns, flow_other, flow_deep, flow_unfit, flow_list, flow_map, flow_scalar, list_rest, map_rest}
use Rattle.yaml_read.proofs.flow.+flow.Goals as goal
use Rattle.yaml_read.proofs.flow.+flow.Goals.{flow-then-begins_node, flow-else-begins_node}
use Rattle.doc_tree.specs.declared.limits.TheConstants.{MAX_BYTES}

pub flow-returns-then-begins_other : goal.flow-returns-then-begins_other
flow-returns-then-begins_other t c = flow_other c.args.repeats c.args.levels c.args.text.now (sym c.if-begins_other.ensures)

pub flow-returns-then-levels-eq0 : goal.flow-returns-then-levels-eq0
flow-returns-then-levels-eq0 t c = elim c.if-begins_node.branch [
  | flow-then-begins_node w ↦
      flow_deep c.args.repeats c.args.levels c.args.text.now (sym c.if-begins_other.ensures) c.if-levels-eq0.true (sym c.begins_node.ensures ∙ w.if-begins_node.true) ∙ ap (λ x. Err x) (sym w.result-is)
  | flow-else-begins_node w ↦
      flow_unfit c.args.repeats c.args.levels c.args.text.now (sym c.if-begins_other.ensures) c.if-levels-eq0.true (sym c.begins_node.ensures ∙ w.if-begins_node.false) ∙ ap (λ x. Err x) (sym w.result-is)
]

pub flow-returns-in_err-items : goal.flow-returns-in_err-items
flow-returns-in_err-items t c =
    let p = err_from_is_err_and c.from_residual.result c.from_residual.ensures.1 in
    let e = flow_list c.args.repeats c.args.levels c.args.text.now (sym c.if-begins_other.ensures) (omega arith) (sym c.if-begins.ensures) in
    let inner = Fails-same c.in_err-items.field-0.0 _ _ (ap (flow_items c.args.repeats (c.args.levels - 1) (flow c.args.repeats (c.args.levels - 1)) MAX_BYTES) c.tail.ensures) c.in_err-items.ensures in
    rw (p.1, p.2) (Fails-same c.in_err-items.field-0.0 _ _ (sym e) (Fails-bind c.in_err-items.field-0.0 _ list_rest inner))

pub flow-returns-then-begins : goal.flow-returns-then-begins
flow-returns-then-begins t c =
    flow_list c.args.repeats c.args.levels c.args.text.now (sym c.if-begins_other.ensures) (omega arith) (sym c.if-begins.ensures)
    ∙ (ap (λ b. flow_items c.args.repeats (c.args.levels - 1) (flow c.args.repeats (c.args.levels - 1)) MAX_BYTES b >>= list_rest) (sym c.tail.ensures)
    ∙ (ap (λ r. r >>= list_rest) c.in_ok-items.ensures ∙ ap (λ s. Ok (s, c.in_ok-items.rest.now)) (sym (shape-List c.in_ok-items.items))))

pub flow-returns-in_err-pairs : goal.flow-returns-in_err-pairs
flow-returns-in_err-pairs t c =
    let p = err_from_is_err_and c.from_residual-in_err-pairs.result c.from_residual-in_err-pairs.ensures.1 in
    let e = flow_map c.args.repeats c.args.levels c.args.text.now (sym c.if-begins_other.ensures) (omega arith) (sym c.if-begins.ensures) (sym c.if-begins-2.ensures) in
    let inner = Fails-same c.in_err-pairs.field-0.0 _ _ (ap (flow_pairs c.args.repeats (c.args.levels - 1) (flow c.args.repeats (c.args.levels - 1)) MAX_BYTES []) c.tail-then-begins-2.ensures) c.in_err-pairs.ensures in
    rw (p.1, p.2) (Fails-same c.in_err-pairs.field-0.0 _ _ (sym e) (Fails-bind c.in_err-pairs.field-0.0 _ map_rest inner))

pub flow-returns-then-begins-2 : goal.flow-returns-then-begins-2
flow-returns-then-begins-2 t c =
    flow_map c.args.repeats c.args.levels c.args.text.now (sym c.if-begins_other.ensures) (omega arith) (sym c.if-begins.ensures) (sym c.if-begins-2.ensures)
    ∙ (ap (λ b. flow_pairs c.args.repeats (c.args.levels - 1) (flow c.args.repeats (c.args.levels - 1)) MAX_BYTES [] b >>= map_rest) (sym c.tail-then-begins-2.ensures)
    ∙ (ap (λ r. r >>= map_rest) c.in_ok-pairs.ensures ∙ ap (λ s. Ok (s, c.in_ok-pairs.rest.now)) (sym (shape-Map c.in_ok-pairs.pairs))))

pub flow-returns : goal.flow-returns
flow-returns t c =
    rw (flow_scalar c.args.repeats c.args.levels c.args.text.now (sym c.if-begins_other.ensures) (omega arith) (sym c.if-begins.ensures) (sym c.if-begins-2.ensures)) c.scalar.ensures

-- ---- the items of a list
pub flow_items-returns-then-begins : goal.flow_items-returns-then-begins
flow_items-returns-then-begins t c =
    items_end c.args.repeats c.args.levels (flow c.args.repeats c.args.levels) c.args.turns c.loop-turn._turn c.loop-turn-test.true (map shape c.loop-turn.items.items) c.loop-turn.rest.now _ c.loop-turn.invariant (ap (begins 93) (sym c.skip_spaces-at.ensures) ∙ sym c.if-begins.ensures)
    ∙ ap (λ b. Ok (map shape c.loop-turn.items.items, b)) (ap tail (sym c.skip_spaces-at.ensures) ∙ sym c.tail.ensures)

pub flow_items-returns-in_err-item : goal.flow_items-returns-in_err-item
flow_items-returns-in_err-item t c =
    let p = err_from_is_err_and c.from_residual.result c.from_residual.ensures.1 in
    rw (p.1, p.2) (items_fail c.args.repeats c.args.levels (flow c.args.repeats c.args.levels) c.args.turns c.loop-turn._turn c.loop-turn-test.true (map shape c.loop-turn.items.items) c.loop-turn.rest.now _ c.loop-turn.invariant (ap (begins 93) (sym c.skip_spaces-at.ensures) ∙ sym c.if-begins.ensures) c.in_err-item.field-0.0
    (Fails-same c.in_err-item.field-0.0 _ _ (ap (flow c.args.repeats c.args.levels) c.skip_spaces-at.ensures) c.in_err-item.ensures))

pub flow_items-returns-in_err-behind : goal.flow_items-returns-in_err-behind
flow_items-returns-in_err-behind t c =
    let p = err_from_is_err_and c.from_residual-in_err-behind.result c.from_residual-in_err-behind.ensures.1 in
    rw (p.1, p.2) (items_unparted c.args.repeats c.args.levels (flow c.args.repeats c.args.levels) c.args.turns c.loop-turn._turn c.loop-turn-test.true (map shape c.loop-turn.items.items) c.loop-turn.rest.now _ c.loop-turn.invariant (ap (begins 93) (sym c.skip_spaces-at.ensures) ∙ sym c.if-begins.ensures) (shape c.in_ok-item.item) c.in_ok-item.behind.now
    (ap (flow c.args.repeats c.args.levels) (sym c.skip_spaces-at.ensures) ∙ c.in_ok-item.ensures) c.in_err-behind.field-0.0 c.in_err-behind.ensures)

pub flow_items-loop-turn-preserved : goal.flow_items-loop-turn-preserved
flow_items-loop-turn-preserved t c =
    let pushed : map shape c.push.new.self.items ≡ map shape c.loop-turn.items.items ++ shape c.in_ok-item.item ∷ [] =
    ap (λ (v : List Tree). map shape v) c.in_ok-push.ensures.items ∙ map_push shape c.loop-turn.items.items c.in_ok-item.item in
    ap (λ (f : List Shape). behind_front f (flow_items c.args.repeats c.args.levels (flow c.args.repeats c.args.levels) (c.args.turns - (c.loop-turn._turn + 1)) c.in_ok-behind.behind.now)) pushed
    ∙ items_go c.args.repeats c.args.levels (flow c.args.repeats c.args.levels) c.args.turns c.loop-turn._turn c.loop-turn-test.true (map shape c.loop-turn.items.items) c.loop-turn.rest.now _ c.loop-turn.invariant (ap (begins 93) (sym c.skip_spaces-at.ensures) ∙ sym c.if-begins.ensures) (shape c.in_ok-item.item) c.in_ok-item.behind.now
    (ap (flow c.args.repeats c.args.levels) (sym c.skip_spaces-at.ensures) ∙ c.in_ok-item.ensures) c.in_ok-behind.behind.now c.in_ok-behind.ensures

pub flow_items-returns : goal.flow_items-returns
flow_items-returns t c =
    let all : c.loop-turn._turn ≡ c.args.turns = omega arith in
    items_turns c.args.repeats c.args.levels (flow c.args.repeats c.args.levels) c.args.turns (map shape c.loop-turn.items.items) c.loop-turn.rest.now _
    (ap (λ k. behind_front (map shape c.loop-turn.items.items) (flow_items c.args.repeats c.args.levels (flow c.args.repeats c.args.levels) (c.args.turns - k) c.loop-turn.rest.now)) (sym all) ∙ c.loop-turn.invariant)

-- ---- the pairs of a map
pub flow_pairs-returns-then-begins : goal.flow_pairs-returns-then-begins
flow_pairs-returns-then-begins t c =
    pairs_end c.args.repeats c.args.levels (flow c.args.repeats c.args.levels) c.args.turns c.loop-turn._turn c.loop-turn-test.true (map pair_shape c.loop-turn.entries) (map (λ p. p.0) c.loop-turn.entries) c.loop-turn.rest.now _ c.loop-turn.invariant (ap (begins 125) (sym c.skip_spaces-at.ensures) ∙ sym c.if-begins.ensures)
    ∙ ap₂ (λ (ps : List (List ℕ × Tree)) (b : List ℕ). Ok (map pair_shape ps, b)) (sym c.into_pairs.ensures) (ap tail (sym c.skip_spaces-at.ensures) ∙ sym c.tail.ensures)

pub flow_pairs-returns-in_err-name : goal.flow_pairs-returns-in_err-name
flow_pairs-returns-in_err-name t c =
    let p = err_from_is_err_and c.from_residual.result c.from_residual.ensures.1 in
    let same = ap (next_key c.args.repeats (map (λ p. p.0) c.loop-turn.entries)) c.skip_spaces-at.ensures in
    rw (p.1, p.2) (keys_fail c.args.repeats c.args.levels (flow c.args.repeats c.args.levels) c.args.turns c.loop-turn._turn c.loop-turn-test.true (map pair_shape c.loop-turn.entries) (map (λ p. p.0) c.loop-turn.entries) c.loop-turn.rest.now _ c.loop-turn.invariant (ap (begins 125) (sym c.skip_spaces-at.ensures) ∙ sym c.if-begins.ensures) c.in_err-name.field-0.0 (Fails-same c.in_err-name.field-0.0 _ _ same c.in_err-name.ensures))

pub flow_pairs-returns-in_err-value : goal.flow_pairs-returns-in_err-value
flow_pairs-returns-in_err-value t c =
    let p = err_from_is_err_and c.from_residual-in_err-value.result c.from_residual-in_err-value.ensures.1 in
    rw (p.1, p.2) (values_fail c.args.repeats c.args.levels (flow c.args.repeats c.args.levels) c.args.turns c.loop-turn._turn c.loop-turn-test.true (map pair_shape c.loop-turn.entries) (map (λ p. p.0) c.loop-turn.entries) c.loop-turn.rest.now _ c.loop-turn.invariant (ap (begins 125) (sym c.skip_spaces-at.ensures) ∙ sym c.if-begins.ensures) c.in_ok-name.name c.in_ok-name.behind.now (ap (next_key c.args.repeats (map (λ p. p.0) c.loop-turn.entries)) (sym c.skip_spaces-at.ensures) ∙ c.in_ok-name.ensures) c.in_err-value.field-0.0 c.in_err-value.ensures)

pub flow_pairs-returns-in_err-behind : goal.flow_pairs-returns-in_err-behind
flow_pairs-returns-in_err-behind t c =
    let p = err_from_is_err_and c.from_residual-in_err-behind.result c.from_residual-in_err-behind.ensures.1 in
    rw (p.1, p.2) (pairs_unparted c.args.repeats c.args.levels (flow c.args.repeats c.args.levels) c.args.turns c.loop-turn._turn c.loop-turn-test.true (map pair_shape c.loop-turn.entries) (map (λ p. p.0) c.loop-turn.entries) c.loop-turn.rest.now _ c.loop-turn.invariant (ap (begins 125) (sym c.skip_spaces-at.ensures) ∙ sym c.if-begins.ensures) c.in_ok-name.name c.in_ok-name.behind.now (ap (next_key c.args.repeats (map (λ p. p.0) c.loop-turn.entries)) (sym c.skip_spaces-at.ensures) ∙ c.in_ok-name.ensures) (shape c.in_ok-value.value) c.in_ok-value.behind.now c.in_ok-value.ensures c.in_err-behind.field-0.0 c.in_err-behind.ensures)

pub flow_pairs-loop-turn-preserved : goal.flow_pairs-loop-turn-preserved
flow_pairs-loop-turn-preserved t c =
    let pair : List ℕ × Tree = (c.in_ok-name.name, c.in_ok-value.value) in
    let pushed : map pair_shape c.in_ok-longer.longer ≡ map pair_shape c.loop-turn.entries ++ pair_shape pair ∷ [] =
    ap (λ (v : List (List ℕ × Tree)). map pair_shape v) c.in_ok-longer.ensures ∙ map_push pair_shape c.loop-turn.entries pair in
    let keys : map (λ p. p.0) c.in_ok-longer.longer ≡ map (λ p. p.0) c.loop-turn.entries ++ c.in_ok-name.name ∷ [] =
    ap (λ (v : List (List ℕ × Tree)). map (λ p. p.0) v) c.in_ok-longer.ensures ∙ map_push (λ p. p.0) c.loop-turn.entries pair in
    ap₂ (λ (f : List (List ℕ × Shape)) (k : List (List ℕ)). behind_front f (flow_pairs c.args.repeats c.args.levels (flow c.args.repeats c.args.levels) (c.args.turns - (c.loop-turn._turn + 1)) k c.in_ok-behind.behind.now)) pushed keys
    ∙ pairs_go c.args.repeats c.args.levels (flow c.args.repeats c.args.levels) c.args.turns c.loop-turn._turn c.loop-turn-test.true (map pair_shape c.loop-turn.entries) (map (λ p. p.0) c.loop-turn.entries) c.loop-turn.rest.now _ c.loop-turn.invariant (ap (begins 125) (sym c.skip_spaces-at.ensures) ∙ sym c.if-begins.ensures) c.in_ok-name.name c.in_ok-name.behind.now (ap (next_key c.args.repeats (map (λ p. p.0) c.loop-turn.entries)) (sym c.skip_spaces-at.ensures) ∙ c.in_ok-name.ensures) (shape c.in_ok-value.value) c.in_ok-value.behind.now c.in_ok-value.ensures c.in_ok-behind.behind.now c.in_ok-behind.ensures

pub flow_pairs-returns : goal.flow_pairs-returns
flow_pairs-returns t c =
    let all : c.loop-turn._turn ≡ c.args.turns = omega arith in
    pairs_turns c.args.repeats c.args.levels (flow c.args.repeats c.args.levels) c.args.turns (map pair_shape c.loop-turn.entries) (map (λ p. p.0) c.loop-turn.entries) c.loop-turn.rest.now _
    (ap (λ k. behind_front (map pair_shape c.loop-turn.entries) (flow_pairs c.args.repeats c.args.levels (flow c.args.repeats c.args.levels) (c.args.turns - k) (map (λ p. p.0) c.loop-turn.entries) c.loop-turn.rest.now)) (sym all) ∙ c.loop-turn.invariant)
