use Rattle.engine_model.specs.Stations.{Only, IsCommitted}
use Rattle.engine_model.specs.Machine.{commit}
use Rattle.checkpoint_cell.specs.Settled.{standing}
use Rattle.engine_model.proofs.lemmas.Leading.{kept_wider}
use Rattle.engine_core.proofs.Ends.{commit_answers, commit_exit, commit_reads, committed_is}
use Rattle.engine_core.proofs.engine.commit.Goals as goal

pub returns-clause-answer : goal.returns-clause-answer
returns-clause-answer g c =
    let e = c.end_waiting.ensures in
    commit_answers g.H.Host.tells c.args.now (g.H.Host.told c.args.host.now) (g.H.Host.told c.end_waiting.new.host) c.end_waiting.result e.waited e.none e.unfinished e.expired e.fault e.doubt e.unbegun e.left

pub returns-clause-exit : goal.returns-clause-exit
returns-clause-exit g c = λ tells sound.
    let e = c.end_waiting.ensures in
    commit_exit g.H.Host.tells c.args.now (g.H.Host.told c.args.host.now) (g.H.Host.told c.end_waiting.new.host) ((g.met.H.Host.lawful c.args.host.now).reads tells) ((g.met.H.Host.lawful c.end_waiting.new.host).reads tells) c.end_waiting.result
    (e.waited tells) (e.done tells sound) e.unbegun (e.looked tells) (e.doubted tells sound)

pub returns-clause-reads : goal.returns-clause-reads
returns-clause-reads g c = λ tells sound.
    let e = c.end_waiting.ensures in
    commit_reads g.H.Host.tells c.args.now (g.H.Host.told c.args.host.now) (g.H.Host.told c.end_waiting.new.host) ((g.met.H.Host.lawful c.args.host.now).reads tells) ((g.met.H.Host.lawful c.end_waiting.new.host).reads tells) tells c.end_waiting.result
    (e.waited tells) (e.done tells sound) e.unbegun (e.doubted tells sound)

pub returns-clause-kept : goal.returns-clause-kept
returns-clause-kept g c = λ tells sound.
    let old = g.H.Host.told c.args.host.now in
    let new = g.H.Host.told c.end_waiting.new.host in
    kept_wider (IsCommitted c.args.now old.state) (Only (commit c.args.now (standing old.state)).after) (λ a is. committed_is g.H.Host.tells c.args.now old new ((g.met.H.Host.lawful c.args.host.now).reads tells) ((g.met.H.Host.lawful c.end_waiting.new.host).reads tells) a is) old new (c.end_waiting.ensures.kept tells sound)
