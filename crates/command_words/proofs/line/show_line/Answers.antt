use Rattle.std.specs.Prelude.{codes}
use Rattle.clap.specs.Words.{new_rule}
use Rattle.command_words.proofs.line.show_line.Goals as goal

pub returns : goal.returns
returns c =
    c.with_flag.ensures _ (c.line_with-line.ensures (new_rule (codes "IFNAME")) c.positional.ensures)
