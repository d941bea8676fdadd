use Rattle.command_words.specs.Program.{service_app, rollout_app, with_lists}
use Rattle.command_words.proofs.line.with_folders.Goals as goal

pub returns : goal.returns
returns c =
    c.and.ensures _ rollout_app (c.and-service.ensures with_lists service_app c.with_lists.ensures c.service_line.ensures) c.rollout_line.ensures
