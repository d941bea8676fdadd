use Rattle.std.specs.Prelude.{codes}
use Rattle.command_words.specs.Program.{required, limit, nodes}
use Rattle.command_words.proofs.line.rollout_line.Goals as goal

pub returns : goal.returns
returns c =
    c.with.ensures _ nodes (c.with-file.ensures _ (required (codes "FILE")) (c.line_with-held.ensures limit c.limit.ensures) c.required.ensures) c.nodes.ensures
