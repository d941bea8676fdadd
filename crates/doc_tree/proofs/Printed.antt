-- The tokens of a tree's compact text, and the value that they are.
use Rattle.std.proofs.Common.{◌≡◌, ◌∙◌, ◌++◌, ◌∷◌, [], ◌≤◌, ◌^◌, ℕ, zero, suc, ℤ, pos, negsuc, List, length, Bool, true, false, Some, None, refl, sym, ap, arith, append_assoc, length-append, ltb-true}
use Rattle.std.specs.Prelude.{is_some, unwrap_or, nat_lt, if◌then◌else◌}
use Rattle.std.proofs.lemmas.Bool.{and_parts}
use Rattle.json.specs.Token.{Token}
use Rattle.json.specs.Lex.{lex, Lexeme, token, colon, between, Place, fresh, after_value, after_comma, after_key, may_begin, begins_colon, punctuate, place_token}
use Rattle.json.specs.Print.{quoted}
use Rattle.json.specs.Json as json
use Rattle.json.specs.Json.{value, items, members, after_end_array, parse_map}
use Rattle.json.specs.Tree.{json_tokens, items_tokens, members_tokens, depth, items_depth, members_depth}
use Rattle.serde_json.specs.Data.{null, number, unsigned, negative}
use Rattle.serde_json.specs.Written.{outline, items_outline, members_outline, compact_text, items_text, members_text}
use Rattle.doc_tree.specs.Shape.{Shape, nothing, truth, whole, text, list, mapping, Shapes, no_shapes, more, Pairs, no_pairs, pair}
use Rattle.doc_tree.specs.JsonText.{number_of, fits, shapes_fit, pairs_fit, data_of, items_of, members_of}
use Rattle.doc_tree.proofs.Spelled.{Ends, ends-comma, ends-items, ends-members, lex-quoted, lex-decimal, lex-below_zero, lex-true, lex-false, lex-null}

-- ---- a token where a value may begin

at_token : (p : Place) (t : Token) (ls : List Lexeme) → punctuate p (token t ∷ ls) ≡ place_token p t (begins_colon ls) (λ next. punctuate next ls)
unfolding punctuate
at_token fresh t ls = refl
at_token after_value t ls = refl
at_token after_comma t ls = refl
at_token after_key t ls = refl

module _ (p : Place) (begins : may_begin p ≡ true) where
  at_array : (ls : List Lexeme) → punctuate p (token Token.begin_array ∷ ls) ≡ Token.begin_array ∷ punctuate fresh ls
  at_array ls = at_token p Token.begin_array ls ∙ (rw begins refl)

  at_object : (ls : List Lexeme) → punctuate p (token Token.begin_object ∷ ls) ≡ Token.begin_object ∷ punctuate fresh ls
  at_object ls = at_token p Token.begin_object ls ∙ (rw begins refl)

  at_number : (s : List ℕ) (ls : List Lexeme) → punctuate p (token (Token.number s) ∷ ls) ≡ Token.number s ∷ punctuate after_value ls
  at_number s ls = at_token p (Token.number s) ls ∙ (rw begins refl)

  at_boolean : (b : Bool) (ls : List Lexeme) → punctuate p (token (Token.boolean b) ∷ ls) ≡ Token.boolean b ∷ punctuate after_value ls
  at_boolean b ls = at_token p (Token.boolean b) ls ∙ (rw begins refl)

  at_null : (ls : List Lexeme) → punctuate p (token Token.null ∷ ls) ≡ Token.null ∷ punctuate after_value ls
  at_null ls = at_token p Token.null ls ∙ (rw begins refl)

  at_string : (s : List ℕ) (ls : List Lexeme) → begins_colon ls ≡ false → punctuate p (token (Token.string s) ∷ ls) ≡ Token.string s ∷ punctuate after_value ls
  at_string s ls none = at_token p (Token.string s) ls ∙ (rw (none, begins) refl)

  at_key : (s : List ℕ) (ls : List Lexeme) → punctuate p (token (Token.string s) ∷ colon ∷ ls) ≡ Token.key s ∷ punctuate fresh ls
  unfolding punctuate
  at_key s ls = at_token p (Token.string s) (colon ∷ ls) ∙ (rw begins refl)

-- ---- the tokens of a tree's text, in front of what follows it

abbrev AreTokens : Place → List ℕ → List Token → List ℕ → Type 0
AreTokens p front ts rest = punctuate p (lex between (front ++ rest)) ≡ ts ++ punctuate after_value (lex between rest)

number_tokens : (p : Place) → may_begin p ≡ true → (z : ℤ) → is_some (number_of z) ≡ true → (rest : List ℕ) → Ends rest → AreTokens p (compact_text (unwrap_or (number_of z) null)) (json_tokens (outline (unwrap_or (number_of z) null))) rest
number_tokens p begins (pos n) fit rest e = go (nat_lt n (2 ^ 64)) refl fit where
  go : (b : Bool) → nat_lt n (2 ^ 64) ≡ b → is_some (if b then Some (number (unsigned n)) else None) ≡ true
      → AreTokens p (compact_text (unwrap_or (if b then Some (number (unsigned n)) else None) null)) (json_tokens (outline (unwrap_or (if b then Some (number (unsigned n)) else None) null))) rest
  go true h k = ap (punctuate p) (lex-decimal n rest (ltb-true n (2 ^ 64) h) e) ∙ at_number p begins _ (lex between rest)
  go false h k = absurd (cc)
number_tokens p begins (negsuc n) fit rest e = go (nat_lt n (2 ^ 63)) refl fit where
  go : (b : Bool) → nat_lt n (2 ^ 63) ≡ b → is_some (if b then Some (number (negative (negsuc n))) else None) ≡ true
      → AreTokens p (compact_text (unwrap_or (if b then Some (number (negative (negsuc n))) else None) null)) (json_tokens (outline (unwrap_or (if b then Some (number (negative (negsuc n))) else None) null))) rest
  go true h k = ap (punctuate p) (lex-below_zero n rest (ltb-true n (2 ^ 63) h) e) ∙ at_number p begins _ (lex between rest)
  go false h k = absurd (cc)

truth_tokens : (p : Place) → may_begin p ≡ true → (b : Bool) (rest : List ℕ) → Ends rest → AreTokens p (compact_text (data_of (truth b))) (Token.boolean b ∷ []) rest
truth_tokens p begins true rest e = ap (punctuate p) (lex-true rest e) ∙ at_boolean p begins true (lex between rest)
truth_tokens p begins false rest e = ap (punctuate p) (lex-false rest e) ∙ at_boolean p begins false (lex between rest)

open_array : (p : Place) → may_begin p ≡ true → (xs : List ℕ) → punctuate p (lex between (91 ∷ xs)) ≡ Token.begin_array ∷ punctuate fresh (lex between xs)
unfolding lex
open_array p begins xs = at_array p begins (lex between xs)

open_object : (p : Place) → may_begin p ≡ true → (xs : List ℕ) → punctuate p (lex between (123 ∷ xs)) ≡ Token.begin_object ∷ punctuate fresh (lex between xs)
unfolding lex
open_object p begins xs = at_object p begins (lex between xs)

-- a closing bracket may stand where no item has been, and after one
close_array : (later : Bool) (rest : List ℕ) → AreTokens (if later then after_value else fresh) (93 ∷ []) (Token.end_array ∷ []) rest
unfolding lex punctuate
close_array true rest = refl
close_array false rest = refl

close_object : (later : Bool) (rest : List ℕ) → AreTokens (if later then after_value else fresh) (125 ∷ []) (Token.end_object ∷ []) rest
unfolding lex punctuate
close_object true rest = refl
close_object false rest = refl

past_comma : (xs : List ℕ) → punctuate after_value (lex between (44 ∷ xs)) ≡ punctuate after_comma (lex between xs)
unfolding lex punctuate
past_comma xs = refl

past_key : (p : Place) → may_begin p ≡ true → (k xs : List ℕ) → punctuate p (lex between (quoted k ++ 58 ∷ xs)) ≡ Token.key k ∷ punctuate fresh (lex between xs)
unfolding lex
past_key p begins k xs = ap (punctuate p) (lex-quoted k (58 ∷ xs)) ∙ at_key p begins k (lex between xs)

ends-more_items : (ss : Shapes) (rest : List ℕ) → Ends (items_text true (items_of ss) ++ rest)
ends-more_items no_shapes rest = ends-items rest
ends-more_items (more s ss) rest = ends-comma _

ends-more_members : (ps : Pairs) (rest : List ℕ) → Ends (members_text true (members_of ps) ++ rest)
ends-more_members no_pairs rest = ends-members rest
ends-more_members (pair k s ps) rest = ends-comma _

-- a value and what comes after it
joined_tokens : (p : Place) (t us : List ℕ) (ts vs : List Token) (rest : List ℕ) → AreTokens p t ts (us ++ rest) → AreTokens after_value us vs rest → AreTokens p (t ++ us) (ts ++ vs) rest
joined_tokens p t us ts vs rest first later =
    ap (λ x. punctuate p (lex between x)) (append_assoc t us rest) ∙ (first ∙ (ap (λ x. ts ++ x) later ∙ sym (append_assoc ts vs (punctuate after_value (lex between rest)))))

-- a key and what comes after it
keyed_tokens : (p : Place) → may_begin p ≡ true → (k t : List ℕ) (ts : List Token) (rest : List ℕ) → AreTokens fresh t ts rest → AreTokens p (quoted k ++ 58 ∷ t) (Token.key k ∷ ts) rest
keyed_tokens p begins k t ts rest later = ap (λ x. punctuate p (lex between x)) (append_assoc (quoted k) (58 ∷ t) rest) ∙ (past_key p begins k (t ++ rest) ∙ ap (λ x. Token.key k ∷ x) later)

mutual
  pub text_tokens : (p : Place) → may_begin p ≡ true → (s : Shape) → fits s ≡ true → (rest : List ℕ) → Ends rest → AreTokens p (compact_text (data_of s)) (json_tokens (outline (data_of s))) rest
  text_tokens p begins nothing h rest e = ap (punctuate p) (lex-null rest e) ∙ at_null p begins (lex between rest)
  text_tokens p begins (truth b) h rest e = truth_tokens p begins b rest e
  text_tokens p begins (whole z) h rest e = number_tokens p begins z h rest e
  text_tokens p begins (text s) h rest e = ap (punctuate p) (lex-quoted s rest) ∙ at_string p begins s (lex between rest) e.value
  text_tokens p begins (list ss) h rest e = open_array p begins (items_text false (items_of ss) ++ rest) ∙ ap (λ ts. Token.begin_array ∷ ts) (items_text_tokens false ss h rest)
  text_tokens p begins (mapping ps) h rest e = open_object p begins (members_text false (members_of ps) ++ rest) ∙ ap (λ ts. Token.begin_object ∷ ts) (members_text_tokens false ps h rest)

  items_text_tokens : (later : Bool) (ss : Shapes) → shapes_fit ss ≡ true → (rest : List ℕ) → AreTokens (if later then after_value else fresh) (items_text later (items_of ss)) (items_tokens (items_outline (items_of ss))) rest
  items_text_tokens later no_shapes h rest = close_array later rest
  items_text_tokens false (more s ss) h rest =
      let both = and_parts (fits s) (shapes_fit ss) h in
      joined_tokens fresh _ _ _ _ rest (text_tokens fresh refl s both.0 _ (ends-more_items ss rest)) (items_text_tokens true ss both.1 rest)
  items_text_tokens true (more s ss) h rest =
      let both = and_parts (fits s) (shapes_fit ss) h in
      past_comma _ ∙ joined_tokens after_comma _ _ _ _ rest (text_tokens after_comma refl s both.0 _ (ends-more_items ss rest)) (items_text_tokens true ss both.1 rest)

  members_text_tokens : (later : Bool) (ps : Pairs) → pairs_fit ps ≡ true → (rest : List ℕ) → AreTokens (if later then after_value else fresh) (members_text later (members_of ps)) (members_tokens (members_outline (members_of ps))) rest
  members_text_tokens later no_pairs h rest = close_object later rest
  members_text_tokens false (pair k s ps) h rest =
      let both = and_parts (fits s) (pairs_fit ps) h in
      keyed_tokens fresh refl k _ _ rest (joined_tokens fresh _ _ _ _ rest (text_tokens fresh refl s both.0 _ (ends-more_members ps rest)) (members_text_tokens true ps both.1 rest))
  members_text_tokens true (pair k s ps) h rest =
      let both = and_parts (fits s) (pairs_fit ps) h in
      past_comma _
      ∙ keyed_tokens after_comma refl k _ _ rest (joined_tokens fresh _ _ _ _ rest (text_tokens fresh refl s both.0 _ (ends-more_members ps rest)) (members_text_tokens true ps both.1 rest))

-- ---- the value of the tokens

some_tokens : (j : json.Json) → 1 ≤ length (json_tokens j)
some_tokens json.null = omega arith
some_tokens (json.boolean b) = omega arith
some_tokens (json.number s) = omega arith
some_tokens (json.string s) = omega arith
some_tokens (json.array js) = omega arith
some_tokens (json.object ms) = omega arith

begins_no_end : (j : json.Json) (ts : List Token) → after_end_array (json_tokens j ++ ts) ≡ None
begins_no_end json.null ts = refl
begins_no_end (json.boolean b) ts = refl
begins_no_end (json.number s) ts = refl
begins_no_end (json.string s) ts = refl
begins_no_end (json.array js) ts = refl
begins_no_end (json.object ms) ts = refl

mutual
  unfolding value items members

  pub value-tokens : (n : ℕ) (j : json.Json) → depth j ≤ n → (ts : List Token) → value n (json_tokens j ++ ts) ≡ Some (j, ts)
  value-tokens zero json.null h ts = refl
  value-tokens zero (json.boolean b) h ts = refl
  value-tokens zero (json.number s) h ts = refl
  value-tokens zero (json.string s) h ts = refl
  value-tokens zero (json.array js) h ts = absurd (omega (arith, h))
  value-tokens zero (json.object ms) h ts = absurd (omega (arith, h))
  value-tokens (suc n) json.null h ts = refl
  value-tokens (suc n) (json.boolean b) h ts = refl
  value-tokens (suc n) (json.number s) h ts = refl
  value-tokens (suc n) (json.string s) h ts = refl
  value-tokens (suc n) (json.array js) h ts =
      ap (parse_map json.array) (items-tokens n js (omega (arith, h)) (length (items_tokens js ++ ts)) ts (omega (arith, length-append (items_tokens js) ts)))
  value-tokens (suc n) (json.object ms) h ts =
      ap (parse_map json.object) (members-tokens n ms (omega (arith, h)) (length (members_tokens ms ++ ts)) ts (omega (arith, length-append (members_tokens ms) ts)))

  items-tokens : (n : ℕ) (js : json.Items) → items_depth js ≤ n → (turns : ℕ) (ts : List Token) → length (items_tokens js) ≤ turns → items (value n) turns (items_tokens js ++ ts) ≡ Some (js, ts)
  items-tokens n json.no_items h zero ts few = absurd (omega (arith, few))
  items-tokens n json.no_items h (suc turns) ts few = refl
  items-tokens n (json.item j js) h zero ts few = absurd (omega (arith, few, some_tokens j, length-append (json_tokens j) (items_tokens js)))
  items-tokens n (json.item j js) h (suc turns) ts few =
      let us = items_tokens js in
      let left : length us ≤ turns = omega (arith, few, some_tokens j, length-append (json_tokens j) us) in
      rw (append_assoc (json_tokens j) us ts, begins_no_end j (us ++ ts), value-tokens n j (omega (arith, h)) (us ++ ts), items-tokens n js (omega (arith, h)) turns ts left) refl

  members-tokens : (n : ℕ) (ms : json.Members) → members_depth ms ≤ n → (turns : ℕ) (ts : List Token) → length (members_tokens ms) ≤ turns → members (value n) turns (members_tokens ms ++ ts) ≡ Some (ms, ts)
  members-tokens n json.no_members h zero ts few = absurd (omega (arith, few))
  members-tokens n json.no_members h (suc turns) ts few = refl
  members-tokens n (json.member k j ms) h zero ts few = absurd (omega (arith, few))
  members-tokens n (json.member k j ms) h (suc turns) ts few =
      let us = members_tokens ms in
      let left : length us ≤ turns = omega (arith, few, length-append (json_tokens j) us) in
      rw (append_assoc (json_tokens j) us ts, value-tokens n j (omega (arith, h)) (us ++ ts), members-tokens n ms (omega (arith, h)) turns ts left) refl
