use Rattle.std.proofs.Common.{◌∙◌, ℕ, List, map, sym, ap}
use Rattle.std.proofs.lemmas.List.{map_push}
use Rattle.std.specs.Str.{bytes_eq}
use Rattle.std.proofs.lemmas.Map.Text.{is_eq-slice_cmp}
use Rattle.doc_tree.specs.declared.tree.Tree.{Tree}
use Rattle.yaml_read.specs.Keys.{is_among}
use Rattle.yaml_read.proofs.IndexLaws.{put_key}
use Rattle.yaml_read.proofs.entries.Entries.with.Goals as goal

pub invariant_of-result : goal.invariant_of-result
invariant_of-result c = λ q.
    let pair : List ℕ × Tree = (c.args.name, c.args.tree) in
    let keys = map_push (λ p. p.0) c.self.inside.pairs.items pair in
    c.in_ok-insert.ensures.updates.0 q
    ∙ (put_key q c.args.name (map (λ p. p.0) c.self.inside.pairs.items) _ _ (is_eq-slice_cmp c.in_ok-copy.field-0 q ∙ ap (λ (k : List ℕ). bytes_eq k q) c.in_ok-copy.ensures) (c.self.invariant q)
    ∙ ap (is_among q) (sym keys ∙ ap (λ (v : List (List ℕ × Tree)). map (λ p. p.0) v) (sym c.in_ok-push.ensures.items)))
