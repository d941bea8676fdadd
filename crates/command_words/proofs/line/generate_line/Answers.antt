use Rattle.command_words.specs.Program.{device_count, seed}
use Rattle.command_words.proofs.line.generate_line.Goals as goal

pub returns : goal.returns
returns c =
    c.with.ensures _ seed (c.line_with-count.ensures device_count c.device_count.ensures) c.seed.ensures
