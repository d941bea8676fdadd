use Rattle.std.proofs.Common.{◌∙◌, ap, sym, arith}
use Rattle.yaml_read.specs.Rows.{rows_of, without_start}
use Rattle.yaml_read.specs.Reading.{document}
use Rattle.yaml_read.specs.Seen.{all_seen}
use Rattle.yaml_read.proofs.LineLaws.{lines_count}
use Rattle.yaml_read.proofs.read.tree_of_text.Goals as goal

pub rows_from-requires : goal.rows_from-requires
rows_from-requires c = omega (arith, lines_count c.args.text.now, c.requires)

pub returns : goal.returns
unfolding rows_of
returns c =
    rw (ap (λ rows. document (without_start rows)) (sym c.in_ok-rows.ensures)
    ∙ (ap (λ rows. document (without_start (all_seen rows))) (sym c.deref.ensures.value) ∙ ap document (sym c.without_start.ensures))) c.document.ensures
