-- Tables of what is known of captures, as they are held.
use Rattle.std.proofs.Common.{◌≡◌, ◌∙◌, ◌<◌, ◌+◌, ℕ, zero, suc, false, cond, List, ◌∷◌, map, drop, length, get_or, Option, None, option_map, sym, ap, arith}
use Rattle.std.specs.Str.{bytes_eq}
use Rattle.std.proofs.lemmas.List.{drop_more, length-map}
use Rattle.doc_tree.specs.Shape.{Shape, shape}
use Rattle.doc_tree.specs.declared.Tree.{Tree}
use Rattle.policy_model.specs.Keys.{Text}
use Rattle.policy_model.specs.declared.Capture.{Capture}
use Rattle.policy_values.specs.Tables.{Table, found_in, seen, tables}

-- a table that is made capture by capture has one entry for each
pub made_length : (values : List (Option Tree)) (f : Capture → Option Shape) (captures : List Capture) → seen values ≡ map f captures → length values ≡ length captures
made_length values f captures is = sym (length-map values (option_map shape)) ∙ ap (λ (t : Table). length t) is ∙ length-map captures f

tables_length : (captures : List Capture) (running : Shape) (n : ℕ) → length (tables captures running n) ≡ length captures
tables_length captures running zero = length-map captures _
tables_length captures running (suc n) = length-map captures _

pub table_length : (values : List (Option Tree)) (captures : List Capture) (running : Shape) (n : ℕ) → seen values ≡ tables captures running n → length values ≡ length captures
table_length values captures running n is = sym (length-map values (option_map shape)) ∙ ap (λ (t : Table). length t) is ∙ tables_length captures running n

-- the first capture of what is left has another name
pub found_on : (captures : List Capture) (table : List (Option Tree)) (name : Text) (i : ℕ) (c : Capture) (all : Option Shape) → i < length captures → length table ≡ length captures
    → c ≡ get_or captures i c → bytes_eq c.name name ≡ false → found_in (drop i captures) (seen (drop i table)) name ≡ all → found_in (drop (i + 1) captures) (seen (drop (i + 1) table)) name ≡ all
found_on captures table name i c all lt same is other h =
    let cs : drop i captures ≡ c ∷ drop (i + 1) captures = drop_more captures i c lt ∙ ap (λ (d : Capture). d ∷ drop (i + 1) captures) (sym is) in
    let vs : drop i table ≡ get_or table i None ∷ drop (i + 1) table = drop_more table i None (omega arith) in
    ap (λ b. cond b (option_map shape (get_or table i None)) (found_in (drop (i + 1) captures) (seen (drop (i + 1) table)) name)) (sym other)
    ∙ ap (λ (ds : List Capture). found_in ds (seen (get_or table i None ∷ drop (i + 1) table)) name) (sym cs)
    ∙ ap (λ (us : List (Option Tree)). found_in (drop i captures) (seen us) name) (sym vs)
    ∙ h
