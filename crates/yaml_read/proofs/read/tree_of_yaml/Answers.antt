use Rattle.std.proofs.Common.{◌≡◌, ◌≤◌, true, ℕ, List, Result, Ok, Err}
use Rattle.std.specs.Prelude.{IfOk}
use Rattle.doc_tree.specs.declared.tree.Tree.{Tree}
use Rattle.doc_tree.specs.Shape.{shape, is_distinct, levels, has_short_lists}
use Rattle.yaml_read.specs.declared.fault.YamlFault.{YamlFault}
use Rattle.yaml_read.specs.Reading.{reading}
use Rattle.yaml_read.specs.Seen.{Answers}
use Rattle.yaml_read.proofs.Kept.{Kept}
use Rattle.yaml_read.proofs.KeptRows.{reading_kept}
use Rattle.yaml_read.proofs.read.tree_of_yaml.Goals as goal
use Rattle.doc_tree.specs.declared.limits.TheConstants.{MAX_LEVELS}

kept : (bytes : List ℕ) (r : Result Tree YamlFault) → Answers shape r (reading bytes) → IfOk r (λ tree. Kept MAX_LEVELS (shape tree))
kept bytes (Ok tree) is = reading_kept bytes (shape tree) is
kept bytes (Err f) is = tt

distinct : (r : Result Tree YamlFault) → IfOk r (λ tree. Kept MAX_LEVELS (shape tree)) → IfOk r (λ tree. is_distinct (shape tree) ≡ true)
distinct (Ok tree) is = is.distinct
distinct (Err f) is = tt

depth : (r : Result Tree YamlFault) → IfOk r (λ tree. Kept MAX_LEVELS (shape tree)) → IfOk r (λ tree. levels (shape tree) ≤ MAX_LEVELS)
depth (Ok tree) is = is.depth
depth (Err f) is = tt

short : (r : Result Tree YamlFault) → IfOk r (λ tree. Kept MAX_LEVELS (shape tree)) → IfOk r (λ tree. has_short_lists (shape tree) ≡ true)
short (Ok tree) is = is.short
short (Err f) is = tt

pub returns : goal.returns
returns c =
    let all = kept c.args.bytes.now c.read_tree.result c.read_tree.ensures in
    record {
      exact = c.read_tree.ensures;
      distinct = distinct c.read_tree.result all;
      depth = depth c.read_tree.result all;
      short = short c.read_tree.result all;
    }
