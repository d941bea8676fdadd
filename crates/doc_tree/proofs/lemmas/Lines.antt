-- The JSON text of a tree, alone and on its line, is read as the tree in order.
use Rattle.std.proofs.Common.{◌≡◌, ◌∙◌, ◌≤◌, ◌++◌, ◌∷◌, [], ℕ, List, length, true, Some, option_and_then, refl, sym, ap, arith, append-nil}
use Rattle.std.specs.Prelude.{Ok}
use Rattle.std.specs.Char.{encode_utf8}
use Rattle.std.specs.Str.{IsUtf8, is_utf8, chars}
use Rattle.std.proofs.lemmas.Str.{IsUtf8-append, IsUtf8-from_is_utf8}
use Rattle.json.specs.Json.{value, if_last}
use Rattle.json.specs.Tree.{json_tokens}
use Rattle.json.specs.Lex.{between, lex, fresh, after_value, punctuate, tokens}
use Rattle.serde_json.specs.Data.{depth}
use Rattle.serde_json.specs.Read.{read, of_json, max_depth}
use Rattle.serde_json.specs.Written.{outline}
use Rattle.doc_tree.specs.Shape.{Shape, is_distinct, levels}
use Rattle.doc_tree.specs.Order.{in_order}
use Rattle.doc_tree.specs.JsonTree.{json_tree}
use Rattle.doc_tree.specs.JsonText.{fits, data_of, json_text}
use Rattle.doc_tree.specs.Strings.{HasUtf8}
use Rattle.doc_tree.specs.declared.limits.TheConstants.{MAX_BYTES, MAX_LEVELS}
use Rattle.doc_tree.proofs.JsonLemmas.{fits-in_order}
use Rattle.doc_tree.proofs.Spelled.{Ends, ends-none, ends-line}
use Rattle.doc_tree.proofs.Printed.{text_tokens, value-tokens}
use Rattle.doc_tree.proofs.Kept.{of_json-in_order, depth-outline}
use Rattle.doc_tree.proofs.TextUtf8.{json_text_utf8}
use Rattle.doc_tree.proofs.ReadsBack.{reads_back}

line_feed : IsUtf8 (10 ∷ [])
unfolding is_utf8 chars encode_utf8
line_feed = IsUtf8-from_is_utf8 (10 ∷ []) refl

module _ (s : Shape) (distinct : is_distinct s ≡ true) (fit : fits s ≡ true) where
  -- before what has no token the text is read as its value
  read_before : (rest : List ℕ) → Ends rest → punctuate after_value (lex between rest) ≡ [] → depth (data_of (in_order s)) ≤ max_depth → read (json_text s ++ rest) ≡ Some (data_of (in_order s))
  read_before rest ends none deep =
      let d = data_of (in_order s) in
      let j = outline d in
      let spelled : tokens (json_text s ++ rest) ≡ json_tokens j ++ [] = text_tokens fresh refl (in_order s) (fits-in_order s fit) rest ends ∙ ap (λ ts. json_tokens j ++ ts) none in
      ap (λ ts. option_and_then of_json (option_and_then (λ p. if_last p.0 p.1) (value max_depth ts))) spelled
      ∙ (ap (λ r. option_and_then of_json (option_and_then (λ p. if_last p.0 p.1) r)) (value-tokens max_depth j (omega (arith, depth-outline d, deep)) [])
      ∙ of_json-in_order s distinct fit)

  read_alone : depth (data_of (in_order s)) ≤ max_depth → read (json_text s) ≡ Some (data_of (in_order s))
  unfolding lex punctuate
  read_alone deep = ap read (sym (append-nil (json_text s))) ∙ read_before [] ends-none refl deep

  read_line : depth (data_of (in_order s)) ≤ max_depth → read (json_text s ++ 10 ∷ []) ≡ Some (data_of (in_order s))
  unfolding lex punctuate
  read_line deep = read_before (10 ∷ []) ends-line refl deep

  module _ (utf8 : HasUtf8 s) (low : levels s ≤ MAX_LEVELS) where
    -- the text of a tree is read as the tree in order
    pub json_back : length (json_text s) ≤ MAX_BYTES → json_tree (json_text s) ≡ Ok (in_order s)
    json_back small = reads_back (json_text s) (data_of (in_order s)) s (json_text_utf8 s utf8) read_alone fit refl low small

    -- and so is its line, which a line feed ends
    pub json_line : length (json_text s ++ 10 ∷ []) ≤ MAX_BYTES → json_tree (json_text s ++ 10 ∷ []) ≡ Ok (in_order s)
    json_line small =
        reads_back (json_text s ++ 10 ∷ []) (data_of (in_order s)) s (IsUtf8-append (json_text s) (10 ∷ []) (json_text_utf8 s utf8) line_feed) read_line fit refl low small
