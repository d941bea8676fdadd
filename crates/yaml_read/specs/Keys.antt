-- Scalars and keys, read from the front of a text.
use Rattle.std.specs.Prelude.{ℕ, Bool, false, ◌&&◌, ◌||◌, if◌then◌else◌, List, codes, Option, Some, None, option_map, option_and_then, Result, Ok, Err}
use Rattle.std.specs.List.{list_any}
use Rattle.doc_tree.specs.Shape.{Shape, text}
use Rattle.yaml_plain.specs.declared.style.Style.{Style}
use Rattle.yaml_read.specs.declared.stop.Why.{Why}
use Rattle.yaml_read.specs.declared.stop.Why.TheVariants.{Unfit}
use Rattle.yaml_plain.specs.Bytes.{colon, comma, right_brace, begins, begins_with, is_same, tail, trim_end, at_gap, is_flow}
use Rattle.yaml_plain.specs.Plain.{plain_value, begins_plain, plain_split}
use Rattle.yaml_read.specs.Quoted.{begins_quoted, quoted}

-- something read from the front, and the text behind it
abbrev pub Read : Type 0 → Type 0
Read A = Result (A × List ℕ) Why

infixl 10 ◌>>=◌
abbrev pub ◌>>=◌ : {A B E : Type 0} → Result A E → (A → Result B E) → Result B E
(Ok x) >>= f = f x
(Err e) >>= f = Err e

abbrev pub or_unfit : {A : Type 0} → Option A → Result A Why
or_unfit (Some x) = Ok x
or_unfit None = Err Unfit

-- an anchor, an alias, a tag, a block scalar or a long key begins here
unfoldable pub begins_other : List ℕ → Bool
begins_other bs = list_any (λ c. begins c bs) (codes "&*!|>") || begins_with (codes "? ") bs

abbrev pub quoted_value : List ℕ × List ℕ → Shape × List ℕ
quoted_value p = (text p.0, p.1)

abbrev pub value_of_plain : List ℕ × List ℕ → Shape × List ℕ
value_of_plain p = (plain_value (trim_end p.0), p.1)

-- a scalar as a value
unfoldable pub scalar : Style → List ℕ → Read Shape
scalar style bs =
    if begins_quoted bs then or_unfit (option_map quoted_value (quoted bs))
    else if begins_plain style bs then Ok (value_of_plain (plain_split style false bs))
    else Err Unfit

-- what may follow a key's colon: a gap, and in flow a sign that ends the value
abbrev pub ends_value : Style → List ℕ → Bool
ends_value style bs = at_gap bs || (is_flow style && (begins comma bs || begins right_brace bs))

-- a key, where its colon follows, and the text behind that
abbrev pub behind_colon : Style → List ℕ × List ℕ → Option (List ℕ × List ℕ)
behind_colon style p = if begins colon p.1 && ends_value style (tail p.1) then Some (p.0, tail p.1) else None

abbrev pub trimmed : List ℕ × List ℕ → List ℕ × List ℕ
trimmed p = (trim_end p.0, p.1)

-- a key with its colon, where one stands there, and the text behind the colon
unfoldable pub key : Style → List ℕ → Option (List ℕ × List ℕ)
key style bs =
    if begins_quoted bs then option_and_then (behind_colon style) (quoted bs)
    else if begins_plain style bs then behind_colon style (trimmed (plain_split style false bs))
    else None

-- the key is one of these
abbrev pub is_among : List ℕ → List (List ℕ) → Bool
is_among k keys = list_any (is_same k) keys
