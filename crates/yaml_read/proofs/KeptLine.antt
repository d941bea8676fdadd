-- What is read of a line is distinct, has no more levels than it may, and short lists.
use Rattle.std.proofs.Common.{◌≡◌, ℕ, zero, suc, ◌<◌, ◌^◌, Bool, true, false, cond, List, [], ◌∷◌, ◌++◌, Option, Some, None, Result, Ok, Err, refl, subst, arith}
use Rattle.std.specs.Prelude.{◌||◌, option_map}
use Rattle.std.specs.Str.Parse.{signed_digits_value}
use Rattle.doc_tree.specs.Shape.{Shape, nothing, list, mapping, shapes_of, pairs_of}
use Rattle.yaml_read.specs.declared.stop.Why.{Why}
use Rattle.yaml_read.specs.declared.stop.Why.TheVariants.{Outside, Repeated, Deep, Unfit}
use Rattle.yaml_read.specs.declared.stop.Repeats.TheVariants.{Refused}
use Rattle.yaml_plain.specs.Bytes.{comma, left_bracket, right_bracket, left_brace, right_brace, begins, tail, skip_spaces, trim_end}
use Rattle.yaml_plain.specs.Plain.{is_integer, is_null, plain_value, begins_plain, plain_split}
use Rattle.yaml_read.specs.Quoted.{begins_quoted, quoted}
use Rattle.yaml_read.specs.Keys.{Read, ◌>>=◌, or_unfit, begins_other, quoted_value, value_of_plain, scalar, key, is_among}
use Rattle.yaml_read.specs.Flow.{behind_entry, begins_node, next_key, flow_items, pair_value_at, flow_value, flow_pairs, flow}
use Rattle.yaml_read.specs.OnLine.{is_blank, is_over, is_over_plain, alone, value_at, on_line, entry_on_line}
use Rattle.yaml_read.proofs.Fronts.{one_more}
use Rattle.yaml_read.proofs.Kept.{Kept, AllKept, PairsKept, Kept-nothing, Kept-truth, Kept-whole, Kept-text, AllKept-none, AllKept-more, Kept-list, PairsKept-none, PairsKept-more, Kept-map}
use Rattle.doc_tree.specs.declared.limits.TheConstants.{MAX_BYTES}
use Rattle.yaml_plain.specs.declared.style.Style.TheVariants.{Block, Flow}
use Rattle.yaml_plain.specs.declared.style.Style.{Style}

abbrev ok : {A : Type 0} → A → Result A Why
ok x = Ok x

ok_same : {A : Type 0} (x y : A) → ok x ≡ ok y → x ≡ y
ok_same x y e = cc

bound : {A B : Type 0} (r : Result A Why) (f : A → Result B Why) (y : B) → (r >>= f) ≡ Ok y → (x : A) × (r ≡ Ok x) × (f x ≡ Ok y)
bound (Ok x) f y e = (x, refl, e)
bound (Err w) f y e = absurd cc

-- a test at which it didn't fail
otherwise : {A : Type 0} (b : Bool) (w : Why) (r : Result A Why) (y : A) → cond b (Err w) r ≡ Ok y → (b ≡ false) × (r ≡ Ok y)
otherwise true w r y e = absurd cc
otherwise false w r y e = (refl, e)

Kept-if : (n : ℕ) (b : Bool) (x y : Shape) → Kept n x → Kept n y → Kept n (cond b x y)
Kept-if n true x y first second = first
Kept-if n false x y first second = second

plain_kept : (n : ℕ) (bs : List ℕ) → 0 < n → Kept n (plain_value bs)
unfolding plain_value
plain_kept n bs some =
    Kept-if n (is_integer bs) _ _ (Kept-whole n (signed_digits_value 10 bs) some)
    (Kept-if n _ _ _ (Kept-truth n true some) (Kept-if n _ _ _ (Kept-truth n false some) (Kept-if n (is_null bs) _ _ (Kept-nothing n some) (Kept-text n bs some))))

quoted_kept : (n : ℕ) (o : Option (List ℕ × List ℕ)) (x : Shape × List ℕ) → 0 < n → or_unfit (option_map quoted_value o) ≡ Ok x → Kept n x.0
quoted_kept n None x some e = absurd cc
quoted_kept n (Some p) x some e = subst (λ (y : Shape × List ℕ). Kept n y.0) (ok_same (quoted_value p) x e) (Kept-text n p.0 some)

unquoted_kept : (n : ℕ) (b : Bool) (p : List ℕ × List ℕ) (x : Shape × List ℕ) → 0 < n → cond b (Ok (value_of_plain p)) (Err Unfit) ≡ Ok x → Kept n x.0
unquoted_kept n true p x some e = subst (λ (y : Shape × List ℕ). Kept n y.0) (ok_same (value_of_plain p) x e) (plain_kept n (trim_end p.0) some)
unquoted_kept n false p x some e = absurd cc

scalar_cases : (n : ℕ) (style : Style) (bs : List ℕ) (b : Bool) (x : Shape × List ℕ) → 0 < n
    → cond b (or_unfit (option_map quoted_value (quoted bs))) (cond (begins_plain style bs) (Ok (value_of_plain (plain_split style false bs))) (Err Unfit)) ≡ Ok x → Kept n x.0
scalar_cases n style bs true x some e = quoted_kept n (quoted bs) x some e
scalar_cases n style bs false x some e = unquoted_kept n (begins_plain style bs) (plain_split style false bs) x some e

scalar_kept : (n : ℕ) (style : Style) (bs : List ℕ) (x : Shape × List ℕ) → 0 < n → scalar style bs ≡ Ok x → Kept n x.0
unfolding scalar
scalar_kept n style bs x some e = scalar_cases n style bs (begins_quoted bs) x some e

new_key : (keys : List (List ℕ)) (bs : List ℕ) (k : List ℕ × List ℕ) → next_key Refused keys bs ≡ Ok k → is_among k.0 keys ≡ false
unfolding next_key
new_key keys bs k e =
    let plain = otherwise (begins_other bs) Outside (or_unfit (key Flow bs) >>= (λ k. cond (is_among k.0 keys) (Err Repeated) (Ok k))) k e in
    let found = bound (or_unfit (key Flow bs)) (λ k. cond (is_among k.0 keys) (Err Repeated) (Ok k)) k plain.1 in
    let new = otherwise (is_among found.0.0 keys) Repeated (Ok found.0) k found.2 in
    subst (λ (x : List ℕ × List ℕ). is_among x.0 keys ≡ false) (ok_same found.0 k new.1) new.0

module _ (n : ℕ) (value : List ℕ → Read Shape) (value_kept : (bs : List ℕ) (x : Shape × List ℕ) → value bs ≡ Ok x → Kept n x.0) where
  abbrev items_go : ℕ → Shape × List ℕ → List ℕ → Read (List Shape)
  items_go turns v rest = one_more v.0 (flow_items Refused n value turns rest)

  item_kept : (turns : ℕ) (bs : List ℕ) → ((line : List ℕ) (x : List Shape × List ℕ) → flow_items Refused n value turns line ≡ Ok x → AllKept n turns x.0)
      → (b : Bool) (x : List Shape × List ℕ) → cond b (Ok ([], tail bs)) (value bs >>= (λ v. behind_entry right_bracket v.1 >>= items_go turns v)) ≡ Ok x → AllKept n (suc turns) x.0
  item_kept turns bs ih true x e = subst (λ (y : List Shape × List ℕ). AllKept n (suc turns) y.0) (ok_same ([], tail bs) x e) (AllKept-none n (suc turns))
  item_kept turns bs ih false x e =
      let v = bound (value bs) (λ v. behind_entry right_bracket v.1 >>= items_go turns v) x e in
      let rest = bound (behind_entry right_bracket v.0.1) (items_go turns v.0) x v.2 in
      let others = bound (flow_items Refused n value turns rest.0) (λ more. Ok (v.0.0 ∷ more.0, more.1)) x rest.2 in
      let made : List Shape × List ℕ = (v.0.0 ∷ others.0.0, others.0.1) in
      subst (λ (y : List Shape × List ℕ). AllKept n (suc turns) y.0) (ok_same made x others.2) (AllKept-more n turns v.0.0 others.0.0 (value_kept bs v.0 v.1) (ih rest.0 others.0 others.1))

  items_kept : (turns : ℕ) (line : List ℕ) (x : List Shape × List ℕ) → flow_items Refused n value turns line ≡ Ok x → AllKept n turns x.0
  unfolding flow_items
  items_kept zero line x e = absurd cc
  items_kept (suc turns) line x e = item_kept turns (skip_spaces line) (items_kept turns) (begins right_bracket (skip_spaces line)) x e

  nothing_or_kept : (b : Bool) (bs : List ℕ) (x : Shape × List ℕ) → 0 < n → cond b (Ok (nothing, bs)) (value bs) ≡ Ok x → Kept n x.0
  nothing_or_kept true bs x some e = subst (λ (y : Shape × List ℕ). Kept n y.0) (ok_same (nothing, bs) x e) (Kept-nothing n some)
  nothing_or_kept false bs x some e = value_kept bs x e

  at_level : (m : ℕ) (line : List ℕ) (x : Shape × List ℕ) → m ≡ n → pair_value_at Refused n value m line ≡ Ok x → Kept n x.0
  at_level zero line x is e = absurd cc
  at_level (suc m) line x is e = nothing_or_kept (begins comma (skip_spaces line) || begins right_brace (skip_spaces line)) (skip_spaces line) x (omega arith) e

  pair_kept : (line : List ℕ) (x : Shape × List ℕ) → flow_value Refused n value line ≡ Ok x → Kept n x.0
  unfolding flow_value
  pair_kept line x e = at_level n line x refl e

  abbrev PairsRead : Type 0
  PairsRead = List (List ℕ × Shape) × List ℕ

  abbrev pairs_go : ℕ → List (List ℕ) → List ℕ → Shape × List ℕ → List ℕ → Read (List (List ℕ × Shape))
  pairs_go turns keys k v rest = one_more (k, v.0) (flow_pairs Refused n value turns (keys ++ k ∷ []) rest)

  abbrev valued : ℕ → List (List ℕ) → List ℕ → Shape × List ℕ → Read (List (List ℕ × Shape))
  valued turns keys k v = behind_entry right_brace v.1 >>= pairs_go turns keys k v

  abbrev keyed : ℕ → List (List ℕ) → List ℕ × List ℕ → Read (List (List ℕ × Shape))
  keyed turns keys k = flow_value Refused n value k.1 >>= valued turns keys k.0

  pairs_case : (turns : ℕ) (keys : List (List ℕ)) (bs : List ℕ) → ((keys : List (List ℕ)) (line : List ℕ) (x : PairsRead) → flow_pairs Refused n value turns keys line ≡ Ok x → PairsKept n keys x.0)
      → (b : Bool) (x : PairsRead) → cond b (Ok ([], tail bs)) (next_key Refused keys bs >>= keyed turns keys) ≡ Ok x → PairsKept n keys x.0
  pairs_case turns keys bs ih true x e = subst (λ (y : PairsRead). PairsKept n keys y.0) (ok_same ([], tail bs) x e) (PairsKept-none n keys)
  pairs_case turns keys bs ih false x e =
      let k = bound (next_key Refused keys bs) (keyed turns keys) x e in
      let v = bound (flow_value Refused n value k.0.1) (valued turns keys k.0.0) x k.2 in
      let rest = bound (behind_entry right_brace v.0.1) (pairs_go turns keys k.0.0 v.0) x v.2 in
      let others = bound (flow_pairs Refused n value turns (keys ++ k.0.0 ∷ []) rest.0) (λ more. Ok ((k.0.0, v.0.0) ∷ more.0, more.1)) x rest.2 in
      let made : PairsRead = ((k.0.0, v.0.0) ∷ others.0.0, others.0.1) in
      subst (λ (y : PairsRead). PairsKept n keys y.0) (ok_same made x others.2)
      (PairsKept-more n keys k.0.0 v.0.0 others.0.0 (new_key keys bs k.0 k.1) (pair_kept k.0.1 v.0 v.1) (ih (keys ++ k.0.0 ∷ []) rest.0 others.0 others.1))

  pairs_kept : (turns : ℕ) (keys : List (List ℕ)) (line : List ℕ) (x : PairsRead) → flow_pairs Refused n value turns keys line ≡ Ok x → PairsKept n keys x.0
  unfolding flow_pairs
  pairs_kept zero keys line x e = absurd cc
  pairs_kept (suc turns) keys line x e = pairs_case turns keys (skip_spaces line) (pairs_kept turns) (begins right_brace (skip_spaces line)) x e

deep_fails : (a b : Bool) (x : Shape × List ℕ) → cond a (Err Outside) (cond b (Err Deep) (Err Unfit)) ≡ ok x → ⊥
deep_fails true b x e = absurd cc
deep_fails false true x e = absurd cc
deep_fails false false x e = absurd cc

abbrev flow_list : ℕ → List ℕ → Read Shape
flow_list n bs = flow_items Refused n (flow Refused n) MAX_BYTES (tail bs) >>= (λ x. Ok (list (shapes_of x.0), x.1))

abbrev flow_map : ℕ → List ℕ → Read Shape
flow_map n bs = flow_pairs Refused n (flow Refused n) MAX_BYTES [] (tail bs) >>= (λ x. Ok (mapping (pairs_of x.0), x.1))

few : MAX_BYTES < 2 ^ 31
few = omega arith

flow_cases : (n : ℕ) (bs : List ℕ) → ((bs : List ℕ) (x : Shape × List ℕ) → flow Refused n bs ≡ Ok x → Kept n x.0)
    → (a b : Bool) (x : Shape × List ℕ) → cond a (flow_list n bs) (cond b (flow_map n bs) (scalar Flow bs)) ≡ Ok x → Kept (suc n) x.0
flow_cases n bs ih true b x e =
    let r = bound (flow_items Refused n (flow Refused n) MAX_BYTES (tail bs)) (λ x. Ok (list (shapes_of x.0), x.1)) x e in
    let made : Shape × List ℕ = (list (shapes_of r.0.0), r.0.1) in
    subst (λ (y : Shape × List ℕ). Kept (suc n) y.0) (ok_same made x r.2) (Kept-list n MAX_BYTES r.0.0 few (items_kept n (flow Refused n) ih MAX_BYTES (tail bs) r.0 r.1))
flow_cases n bs ih false true x e =
    let r = bound (flow_pairs Refused n (flow Refused n) MAX_BYTES [] (tail bs)) (λ x. Ok (mapping (pairs_of x.0), x.1)) x e in
    let made : Shape × List ℕ = (mapping (pairs_of r.0.0), r.0.1) in
    subst (λ (y : Shape × List ℕ). Kept (suc n) y.0) (ok_same made x r.2) (Kept-map n [] r.0.0 (pairs_kept n (flow Refused n) ih MAX_BYTES [] (tail bs) r.0 r.1))
flow_cases n bs ih false false x e = scalar_kept (suc n) Flow bs x (omega arith) e

flow_kept : (n : ℕ) (bs : List ℕ) (x : Shape × List ℕ) → flow Refused n bs ≡ Ok x → Kept n x.0
unfolding flow
flow_kept zero bs x e = absurd (deep_fails (begins_other bs) (begins_node bs) x e)
flow_kept (suc n) bs x e =
    let plain = otherwise (begins_other bs) Outside (cond (begins left_bracket bs) (flow_list n bs) (cond (begins left_brace bs) (flow_map n bs) (scalar Flow bs))) x e in
    flow_cases n bs (flow_kept n) (begins left_bracket bs) (begins left_brace bs) x plain.1

abbrev some : Shape → Option Shape
some t = Some t

some_same : (t u : Shape) → some t ≡ some u → t ≡ u
some_same t u e = cc

alone_is : (b : Bool) (t u : Shape) → alone b t ≡ Ok (Some u) → t ≡ u
alone_is true t u e = some_same t u (ok_same (some t) (some u) e)
alone_is false t u e = absurd cc

alone_kept : (n : ℕ) (read : Read Shape) (over : List ℕ → Bool) → ((x : Shape × List ℕ) → read ≡ Ok x → Kept n x.0) → (t : Shape) → (read >>= (λ p. alone (over p.1) p.0)) ≡ Ok (Some t) → Kept n t
alone_kept n read over kept t e =
    let r = bound read (λ p. alone (over p.1) p.0) (some t) e in
    subst (Kept n) (alone_is (over r.0.1) r.0.0 t r.2) (kept r.0 r.1)

value_cases : (n : ℕ) (bs : List ℕ) (a b : Bool) (t : Shape) → 0 < n
    → cond a (flow Refused n bs >>= (λ p. alone (is_over p.1) p.0)) (cond b (scalar Block bs >>= (λ p. alone (is_over p.1) p.0)) (scalar Block bs >>= (λ p. alone (is_over_plain p.1) p.0))) ≡ Ok (Some t) → Kept n t
value_cases n bs true b t more e = alone_kept n (flow Refused n bs) is_over (flow_kept n bs) t e
value_cases n bs false true t more e = alone_kept n (scalar Block bs) is_over (λ x. scalar_kept n Block bs x more) t e
value_cases n bs false false t more e = alone_kept n (scalar Block bs) is_over_plain (λ x. scalar_kept n Block bs x more) t e

line_cases : (n : ℕ) (bs : List ℕ) (b : Bool) (t : Shape) → 0 < n → cond b (ok None) (value_at Refused n bs) ≡ Ok (Some t) → Kept n t
line_cases n bs true t more e = let none : None ≡ some t = ok_same None (some t) e in absurd cc
line_cases n bs false t more e =
    let plain = otherwise (begins_other bs) Outside _ (some t) e in
    value_cases n bs (begins left_bracket bs || begins left_brace bs) (begins_quoted bs) t more plain.1

-- the value of an entry that stands on its line; where it may stand there is a level
pub entry_kept : (n : ℕ) (line : List ℕ) (t : Shape) → entry_on_line n line ≡ Ok (Some t) → Kept n t
unfolding on_line
entry_kept zero line t e = absurd cc
entry_kept (suc n) line t e = line_cases (suc n) (skip_spaces line) (is_blank line) t (omega arith) e

pub entry_level : (n : ℕ) (line : List ℕ) (o : Option Shape) → entry_on_line n line ≡ Ok o → 0 < n
entry_level zero line o e = absurd cc
entry_level (suc n) line o e = omega arith
