use Rattle.command_laws.proofs.lemmas.Releases.{finds_released, looks_released}
use Rattle.plain_commands.proofs.look.look.Goals as goal

pub returns-clause-finds : goal.returns-clause-finds
returns-clause-finds g c =
    finds_released g.H.Host.tells (g.H.Host.told c.args.host.now) (g.H.Host.told c.dumped-found.new.host) (g.H.Host.told c.release.new.self) c.release.ensures.untouched c.release.ensures.faults g.H.Host.honest c.dumped-found.result c.dumped-found.ensures.finds

pub returns-clause-looks : goal.returns-clause-looks
returns-clause-looks g c =
    looks_released g.H.Host.tells (g.H.Host.told c.args.host.now) (g.H.Host.told c.dumped-found.new.host) (g.H.Host.told c.release.new.self) c.release.ensures.untouched c.release.ensures.faults c.dumped-found.ensures.looks
