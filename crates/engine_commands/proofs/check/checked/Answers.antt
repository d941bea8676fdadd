use Rattle.checkpoint_cell.specs.Settled.{standing}
use Rattle.engine_model.specs.Checks.{check}
use Rattle.engine_model.specs.Stations.{entry_of}
use Rattle.command_laws.proofs.lemmas.Releases.{says_released, answers_released, sound_released, exit_released, looks_released}
use Rattle.engine_commands.proofs.check.checked.Goals as goal

pub returns-clause-says : goal.returns-clause-says
returns-clause-says g c =
    says_released g.H.Host.tells (g.H.Host.told c.args.host.now) (g.H.Host.told c.check-answer.new.host) (g.H.Host.told c.release.new.self) c.release.ensures.untouched c.release.ensures.faults
    c.check-answer.result c.check-answer.ensures.says

pub returns-clause-answer : goal.returns-clause-answer
returns-clause-answer g c = λ honest.
    answers_released g.H.Host.tells (g.H.Host.told c.args.host.now) (g.H.Host.told c.check-answer.new.host) (g.H.Host.told c.release.new.self) c.release.ensures.untouched c.release.ensures.faults
    (check (standing (g.H.Host.told c.args.host.now).state)) c.check-answer.result (c.check-answer.ensures.answer honest)

pub returns-clause-sound : goal.returns-clause-sound
returns-clause-sound g c = λ honest.
    sound_released g.H.Host.tells (g.H.Host.told c.args.host.now) (g.H.Host.told c.check-answer.new.host) (g.H.Host.told c.release.new.self) c.release.ensures.untouched c.release.ensures.faults
    (g.met.H.Host.honest_tells honest) c.check-answer.result (c.check-answer.ensures.sound honest)

pub returns-clause-exit : goal.returns-clause-exit
returns-clause-exit g c = λ honest sound.
    exit_released g.H.Host.tells (g.H.Host.told c.args.host.now) (g.H.Host.told c.check-answer.new.host) (g.H.Host.told c.release.new.self) c.release.ensures.untouched c.release.ensures.faults
    (entry_of (g.H.Host.told c.args.host.now)) c.check-answer.result (c.check-answer.ensures.exit honest sound)

pub returns-clause-looks : goal.returns-clause-looks
returns-clause-looks g c =
    let e = c.check-answer.ensures in
    looks_released g.H.Host.tells (g.H.Host.told c.args.host.now) (g.H.Host.told c.check-answer.new.host) (g.H.Host.told c.release.new.self) c.release.ensures.untouched c.release.ensures.faults
    (record { state = e.state; stops = e.stops; unmade = e.unmade; later = e.later })
