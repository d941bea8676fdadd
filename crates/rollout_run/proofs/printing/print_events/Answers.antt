use Rattle.std.proofs.Common.{option_to_list}
use Rattle.rollout_run.proofs.Prints.{prints_lines}
use Rattle.rollout_run.proofs.printing.print_events.Goals as goal

pub returns : goal.returns
returns g c = prints_lines g.W.Sink.tells c.args.printed c.print_event-printed.result c.print_event.result (option_to_list c.args.told.now.first) (option_to_list c.args.told.now.second)
    (g.W.Sink.told c.args.out.now) (g.W.Sink.told c.print_event-printed.new.out) (g.W.Sink.told c.print_event.new.out) c.print_event-printed.ensures c.print_event.ensures
