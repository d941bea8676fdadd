use Rattle.std.proofs.Common.{sym, subst}
use Rattle.host_core.specs.HostView.{IsFirst}
use Rattle.command_laws.proofs.lemmas.Makes.{first_is}
use Rattle.plain_commands.proofs.init.make_first.Goals as goal

pub make-requires : goal.make-requires
make-requires g c = subst IsFirst (sym c.in-Ok.ensures) (first_is c.args.links c.requires)
