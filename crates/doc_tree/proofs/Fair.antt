-- A value that a text reads as: its objects are in order, and it is no larger than its text, so its lists are short.
use Rattle.std.proofs.Common.{◌≡◌, ◌<◌, ◌≤◌, ◌+◌, ◌^◌, ◌++◌, ◌∷◌, [], ℕ, suc, List, length, Bool, true, false, Option, Some, None, option_map, option_and_then, Ordering, Less, Equal, Greater, refl, ap, subst, arith, length-append}
use Rattle.std.specs.Prelude.{⊤, nat_lt}
use Rattle.std.proofs.lemmas.Bool.{and_from, lt-ltb}
use Rattle.std.specs.Ordering.{nat_cmp, match_ordering}
use Rattle.std.specs.Cmp.Lexicographic.{slice_cmp}
use Rattle.json.specs.Token.{Token}
use Rattle.json.specs.Lex.{tokens, Lexeme, token, comma, colon, Class, quote, backslash, operator, space, other, class, Mode, between, in_word, in_string, in_escape, lex, lex_byte, Place, fresh, after_value, after_comma, after_key, punctuate, place_token, if_allowed, begins_colon, may_begin, may_close}
use Rattle.json.specs.Json as json
use Rattle.json.specs.Tree.{json_tokens, items_tokens, members_tokens}
use Rattle.json.proofs.Unique.Spelling.{value-json_tokens_back}
use Rattle.serde_json.specs.Data.{Data, Num, unsigned, negative, float, null, boolean, number, string, Items, no_items, item, Members, no_members, member, array, object, put}
use Rattle.serde_json.specs.Read.{number_of, of_json, of_items, of_members, max_depth, read}
use Rattle.doc_tree.specs.Shape.{item_count, has_short_lists, shapes_have_short_lists, pairs_have_short_lists}
use Rattle.doc_tree.specs.Order.{is_in_order, shapes_are_in_order}
use Rattle.doc_tree.specs.JsonTree.{shape_of, items_shape, members_shape, number_shape}
use Rattle.doc_tree.proofs.Sorted.{AreInOrder, order-put}

-- ---- the nodes of a value, and its lists

abbrev mutual
  weight : Data → ℕ
  weight null = 1
  weight (boolean b) = 1
  weight (number x) = 1
  weight (string s) = 1
  weight (array ds) = suc (items_weight ds)
  weight (object ms) = suc (members_weight ms)

  items_weight : Items → ℕ
  items_weight no_items = 0
  items_weight (item d ds) = weight d + items_weight ds

  members_weight : Members → ℕ
  members_weight no_members = 0
  members_weight (member k d ms) = weight d + members_weight ms

positive : (d : Data) → 0 < weight d
positive null = omega arith
positive (boolean b) = omega arith
positive (number x) = omega arith
positive (string s) = omega arith
positive (array ds) = omega arith
positive (object ms) = omega arith

item_count-weight : (ds : Items) → item_count (items_shape ds) ≤ items_weight ds
item_count-weight no_items = omega arith
item_count-weight (item d ds) = omega (arith, positive d, item_count-weight ds)

number_short : (x : Num) → has_short_lists (number_shape x) ≡ true
number_short (unsigned n) = refl
number_short (negative z) = refl
number_short (float x) = refl

mutual
  short : (d : Data) → weight d < 2 ^ 31 → has_short_lists (shape_of d) ≡ true
  short null h = refl
  short (boolean b) h = refl
  short (number x) h = number_short x
  short (string s) h = refl
  short (array ds) h =
      let count : item_count (items_shape ds) < 2 ^ 31 = omega (arith, item_count-weight ds) in
      and_from (nat_lt (item_count (items_shape ds)) (2 ^ 31)) (shapes_have_short_lists (items_shape ds)) (lt-ltb _ _ count) (items_short ds (omega arith))
  short (object ms) h = members_short ms (omega arith)

  items_short : (ds : Items) → items_weight ds < 2 ^ 31 → shapes_have_short_lists (items_shape ds) ≡ true
  items_short no_items h = refl
  items_short (item d ds) h = and_from (has_short_lists (shape_of d)) (shapes_have_short_lists (items_shape ds)) (short d (omega arith)) (items_short ds (omega arith))

  members_short : (ms : Members) → members_weight ms < 2 ^ 31 → pairs_have_short_lists (members_shape ms) ≡ true
  members_short no_members h = refl
  members_short (member k d ms) h = and_from (has_short_lists (shape_of d)) (pairs_have_short_lists (members_shape ms)) (short d (omega arith)) (members_short ms (omega arith))

-- ---- from a JSON value of so many tokens

abbrev Holds : {A : Type 0} → (A → Type 0) → Option A → Type 0
Holds P None = ⊤
Holds P (Some a) = P a

Holds-map : {A B : Type 0} (P : A → Type 0) (Q : B → Type 0) (h : A → B) → ((a : A) → P a → Q (h a)) → (o : Option A) → Holds P o → Holds Q (option_map h o)
Holds-map P Q h k None x = tt
Holds-map P Q h k (Some a) x = k a x

Holds-and_then : {A B : Type 0} (P : A → Type 0) (Q : B → Type 0) (h : A → Option B) → ((a : A) → P a → Holds Q (h a)) → (o : Option A) → Holds P o → Holds Q (option_and_then h o)
Holds-and_then P Q h k None x = tt
Holds-and_then P Q h k (Some a) x = k a x

record IsFair (n : ℕ) (d : Data) : Type 0 where
  order : is_in_order (shape_of d) ≡ true
  size : weight d ≤ n

record AreFair (n : ℕ) (ds : Items) : Type 0 where
  order : shapes_are_in_order (items_shape ds) ≡ true
  size : items_weight ds ≤ n

record IsFairMap (n : ℕ) (ms : Members) : Type 0 where
  order : AreInOrder ms
  size : members_weight ms ≤ n

weight-match_ordering : (o : Ordering) (a b c : Members) (n : ℕ) → members_weight a ≤ n → members_weight b ≤ n → members_weight c ≤ n → members_weight (match_ordering o a b c) ≤ n
weight-match_ordering Less a b c n p q r = p
weight-match_ordering Equal a b c n p q r = q
weight-match_ordering Greater a b c n p q r = r

weight-put : (k : List ℕ) (d : Data) (ms : Members) → members_weight (put k d ms) ≤ weight d + members_weight ms
weight-put k d no_members = omega arith
weight-put k d (member l e ms) =
    weight-match_ordering (slice_cmp nat_cmp k l) (member k d (member l e ms)) (member l d ms) (member l e (put k d ms)) _ (omega arith) (omega arith) (omega (arith, weight-put k d ms))

fair-put : (m n : ℕ) (k : List ℕ) (d : Data) (ms : Members) → IsFair m d → IsFairMap n ms → IsFairMap (m + n) (put k d ms)
fair-put m n k d ms one all = record { order = order-put k d ms one.order all.order; size = omega (arith, weight-put k d ms, one.size, all.size) }

number_order : (x : Num) → is_in_order (number_shape x) ≡ true
number_order (unsigned n) = refl
number_order (negative z) = refl
number_order (float x) = refl

fair_number : (x : Num) → IsFair 1 (number x)
fair_number x = record { order = number_order x; size = omega arith }

fair_numbers : (o : Option Num) → Holds (IsFair 1) (option_map number o)
fair_numbers None = tt
fair_numbers (Some x) = fair_number x

mutual
  fair-of_json : (j : json.Json) → Holds (IsFair (length (json_tokens j))) (of_json j)
  fair-of_json json.null = record { order = refl; size = omega arith }
  fair-of_json (json.boolean b) = record { order = refl; size = omega arith }
  fair-of_json (json.number s) = fair_numbers (number_of s)
  fair-of_json (json.string s) = record { order = refl; size = omega arith }
  fair-of_json (json.array js) =
      Holds-map (AreFair (length (items_tokens js))) (IsFair (suc (length (items_tokens js)))) array (λ ds x. record { order = x.order; size = omega (arith, x.size) }) (of_items js) (fair-of_items js)
  fair-of_json (json.object ms) =
      Holds-map (IsFairMap (length (members_tokens ms))) (IsFair (suc (length (members_tokens ms)))) object (λ ds x. record { order = x.order; size = omega (arith, x.size) }) (of_members ms no_members)
      (fair-of_members ms no_members 0 (length (members_tokens ms)) (record { order = refl; size = omega arith }) (omega arith))

  fair-of_items : (js : json.Items) → Holds (AreFair (length (items_tokens js))) (of_items js)
  fair-of_items json.no_items = record { order = refl; size = omega arith }
  fair-of_items (json.item j js) =
      let a = length (json_tokens j) in
      let b = length (items_tokens js) in
      let n = length (json_tokens j ++ items_tokens js) in
      let sum : n ≡ a + b = length-append (json_tokens j) (items_tokens js) in
      Holds-and_then (IsFair a) (AreFair n) (λ d. option_map (item d) (of_items js))
      (λ d x.
      Holds-map (AreFair b) (AreFair n) (item d)
      (λ ds y. record { order = and_from (is_in_order (shape_of d)) (shapes_are_in_order (items_shape ds)) x.order y.order; size = omega (arith, x.size, y.size, sum) }) (of_items js) (fair-of_items js))
      (of_json j) (fair-of_json j)

  fair-of_members : (ms : json.Members) (found : Members) (n m : ℕ) → IsFairMap n found → n + length (members_tokens ms) ≤ m → Holds (IsFairMap m) (of_members ms found)
  fair-of_members json.no_members found n m x h = record { order = x.order; size = omega (arith, x.size) }
  fair-of_members (json.member k j ms) found n m x h =
      let a = length (json_tokens j) in
      let sum = length-append (json_tokens j) (members_tokens ms) in
      Holds-and_then (IsFair a) (IsFairMap m) (λ d. of_members ms (put k d found))
      (λ d y. fair-of_members ms (put k d found) (a + n) m (fair-put a n k d found y x) (omega (arith, sum))) (of_json j) (fair-of_json j)

-- ---- a text has no more tokens than bytes, but for one that tells of a fault

lex_byte-length : (m : Mode) (c : Class) (x : ℕ) (xs : List ℕ) (k : Mode → List Lexeme) (n : ℕ) → ((next : Mode) → length (k next) ≤ n) → length (lex_byte m c x xs k) ≤ suc n
lex_byte-length between quote x xs k n h = omega (arith, h in_string)
lex_byte-length between backslash x xs k n h = omega (arith, h in_word)
lex_byte-length between operator x xs k n h = omega (arith, h between)
lex_byte-length between space x xs k n h = omega (arith, h between)
lex_byte-length between other x xs k n h = omega (arith, h in_word)
lex_byte-length in_word quote x xs k n h = omega (arith, h in_word)
lex_byte-length in_word backslash x xs k n h = omega (arith, h in_word)
lex_byte-length in_word operator x xs k n h = omega (arith, h between)
lex_byte-length in_word space x xs k n h = omega (arith, h between)
lex_byte-length in_word other x xs k n h = omega (arith, h in_word)
lex_byte-length in_string quote x xs k n h = omega (arith, h between)
lex_byte-length in_string backslash x xs k n h = omega (arith, h in_escape)
lex_byte-length in_string operator x xs k n h = omega (arith, h in_string)
lex_byte-length in_string space x xs k n h = omega (arith, h in_string)
lex_byte-length in_string other x xs k n h = omega (arith, h in_string)
lex_byte-length in_escape c x xs k n h = omega (arith, h in_string)

lex-length : (m : Mode) (xs : List ℕ) → length (lex m xs) ≤ length xs
unfolding lex
lex-length m [] = omega arith
lex-length m (x ∷ xs) = lex_byte-length m (class x) x xs (λ next. lex next xs) (length xs) (λ next. lex-length next xs)

if_allowed-length : (b : Bool) (t : Token) (k : Place → List Token) (next : Place) (n : ℕ) → ((p : Place) → length (k p) ≤ suc n) → length (if_allowed b t k next) ≤ suc (suc n)
if_allowed-length true t k next n h = omega (arith, h next)
if_allowed-length false t k next n h = omega arith

place_token-length : (p : Place) (t : Token) (b : Bool) (k : Place → List Token) (n : ℕ) → ((q : Place) → length (k q) ≤ suc n) → length (place_token p t b k) ≤ suc (suc n)
place_token-length p Token.begin_object b k n h = if_allowed-length (may_begin p) Token.begin_object k fresh n h
place_token-length p Token.end_object b k n h = if_allowed-length (may_close p) Token.end_object k after_value n h
place_token-length p Token.begin_array b k n h = if_allowed-length (may_begin p) Token.begin_array k fresh n h
place_token-length p Token.end_array b k n h = if_allowed-length (may_close p) Token.end_array k after_value n h
place_token-length p (Token.key s) b k n h = omega arith
place_token-length p (Token.string s) true k n h = if_allowed-length (may_begin p) (Token.key s) k after_key n h
place_token-length p (Token.string s) false k n h = if_allowed-length (may_begin p) (Token.string s) k after_value n h
place_token-length p (Token.number s) b k n h = if_allowed-length (may_begin p) (Token.number s) k after_value n h
place_token-length p (Token.boolean v) b k n h = if_allowed-length (may_begin p) (Token.boolean v) k after_value n h
place_token-length p Token.null b k n h = if_allowed-length (may_begin p) Token.null k after_value n h
place_token-length p Token.bad b k n h = omega arith

punctuate-length : (p : Place) (ls : List Lexeme) → length (punctuate p ls) ≤ suc (length ls)
unfolding punctuate
punctuate-length fresh [] = omega arith
punctuate-length after_value [] = omega arith
punctuate-length after_comma [] = omega arith
punctuate-length after_key [] = omega arith
punctuate-length fresh (token t ∷ ls) = place_token-length fresh t (begins_colon ls) (λ next. punctuate next ls) (length ls) (λ q. punctuate-length q ls)
punctuate-length after_value (token t ∷ ls) = place_token-length after_value t (begins_colon ls) (λ next. punctuate next ls) (length ls) (λ q. punctuate-length q ls)
punctuate-length after_comma (token t ∷ ls) = place_token-length after_comma t (begins_colon ls) (λ next. punctuate next ls) (length ls) (λ q. punctuate-length q ls)
punctuate-length after_key (token t ∷ ls) = place_token-length after_key t (begins_colon ls) (λ next. punctuate next ls) (length ls) (λ q. punctuate-length q ls)
punctuate-length fresh (comma ∷ ls) = omega arith
punctuate-length after_value (comma ∷ ls) = omega (arith, punctuate-length after_comma ls)
punctuate-length after_comma (comma ∷ ls) = omega arith
punctuate-length after_key (comma ∷ ls) = omega arith
punctuate-length fresh (colon ∷ ls) = omega arith
punctuate-length after_value (colon ∷ ls) = omega arith
punctuate-length after_comma (colon ∷ ls) = omega arith
punctuate-length after_key (colon ∷ ls) = omega (arith, punctuate-length fresh ls)

tokens-length : (text : List ℕ) → length (tokens text) ≤ suc (length text)
tokens-length text = omega (arith, punctuate-length fresh (lex between text), lex-length between text)

-- ---- the value of a text

last_tokens : (ts : List Token) (o : Option (json.Json × List Token)) → ((j : json.Json) (r : List Token) → o ≡ Some (j, r) → ts ≡ json_tokens j ++ r)
    → Holds (λ j. length (json_tokens j) ≤ length ts) (option_and_then (λ p. json.if_last p.0 p.1) o)
last_tokens ts None h = tt
last_tokens ts (Some (j, [])) h = omega (arith, ap length (h j [] refl), length-append (json_tokens j) [])
last_tokens ts (Some (j, t ∷ r)) h = tt

Holds-weaker : {A : Type 0} (P Q : A → Type 0) → ((a : A) → P a → Q a) → (o : Option A) → Holds P o → Holds Q o
Holds-weaker P Q k None x = tt
Holds-weaker P Q k (Some a) x = k a x

fair_value : (text : List ℕ) → Holds (IsFair (suc (length text))) (read text)
fair_value text =
    Holds-and_then (λ j. length (json_tokens j) ≤ length (tokens text)) (IsFair (suc (length text))) of_json
    (λ j x.
    let n = length (json_tokens j) in
    let at_most : n ≤ suc (length text) = omega (arith, tokens-length text) in
    Holds-weaker (IsFair n) (IsFair (suc (length text))) (λ d y. record { order = y.order; size = omega (arith, y.size) }) (of_json j) (fair-of_json j))
    _ (last_tokens (tokens text) _ (λ j r e. value-json_tokens_back max_depth (tokens text) r j e))

pub read-IsOfText : (text : List ℕ) (d : Data) → read text ≡ Some d → length text + 1 < 2 ^ 31 → (is_in_order (shape_of d) ≡ true) × (has_short_lists (shape_of d) ≡ true)
read-IsOfText text d e h =
    let fair = subst (Holds (IsFair (suc (length text)))) e (fair_value text) in
    (fair.order, short d (omega (arith, fair.size)))
