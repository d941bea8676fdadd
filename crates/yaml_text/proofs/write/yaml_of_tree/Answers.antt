use Rattle.std.proofs.Common.{◌≡◌, ◌∙◌, ℕ, List, Vec, Global, ap, sym, subst, string_bytes}
use Rattle.std.proofs.lemmas.Str.{IsUtf8-string_bytes}
use Rattle.std.specs.Str.{IsUtf8}
use Rattle.doc_tree.specs.Shape.{shape}
use Rattle.yaml_read.specs.Rows.{rows_of}
use Rattle.yaml_read.specs.Standing.{StandsFor}
use Rattle.yaml_text.specs.Layout.{yaml_text_of}
use Rattle.yaml_text.proofs.TextStands.{filled_stands}
use Rattle.yaml_text.proofs.write.yaml_of_tree.Goals as goal

pub returns-clause-stands : goal.returns-clause-stands
returns-clause-stands c = λ filled.
    let is : c.into_bytes.result.items ≡ yaml_text_of (shape c.args.tree.now) = ap (λ (v : Vec ℕ Global). v.items) c.into_bytes.ensures.value ∙ c.in_ok-text.ensures in
    subst (λ (bs : List ℕ). StandsFor bs (shape c.args.tree.now)) (sym is) (filled_stands (shape c.args.tree.now) filled c.requires.distinct c.integer_laws.ensures c.requires.depth)

pub returns-clause-alone : goal.returns-clause-alone
returns-clause-alone c = λ filled u other.
    c.reading_laws.ensures.one_tree (rows_of c.into_bytes.result.items) u (shape c.args.tree.now) other (returns-clause-stands c filled)

pub returns-clause-reads : goal.returns-clause-reads
returns-clause-reads c = λ filled small.
    let is : c.into_bytes.result.items ≡ string_bytes c.in_ok-text.text = ap (λ (v : Vec ℕ Global). v.items) c.into_bytes.ensures.value in
    c.reading_laws.ensures.text_complete c.into_bytes.result.items (shape c.args.tree.now) small (subst IsUtf8 (sym is) (IsUtf8-string_bytes c.in_ok-text.text)) (returns-clause-stands c filled)
