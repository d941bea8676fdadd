use Rattle.std.proofs.Common.{arith, ap}
use Rattle.engine_model.specs.declared.answers.Left.TheVariants.{NotBegun}
use Rattle.engine_core.proofs.Says.{said_left, said_doubt}
use Rattle.engine_model.specs.Stations.{Only, Either, Settled, entry_of}
use Rattle.engine_model.specs.Machine.{apply, asked}
use Rattle.engine_core.specs.Applying.{IsApplied}
use Rattle.checkpoint_cell.specs.Settled.{Standing, standing}
use Rattle.engine_model.proofs.lemmas.Leading.{kept_wider}
use Rattle.engine_core.specs.Calm.{CalmSince}
use Rattle.engine_core.proofs.Calms.{calm_first, ended_calm}
use Rattle.engine_core.proofs.Idles.{idle_stops}
use Rattle.engine_core.proofs.Applies.{applied_is, apply_exit, apply_reads, apply_answers}
use Rattle.engine_core.proofs.engine.apply.Goals as goal

pub returns-clause-kept : goal.returns-clause-kept
returns-clause-kept g c = λ honest sound.
    let old = g.H.Host.told c.args.host.now in
    let here = (g.met.H.Host.lawful c.args.host.now).reads (g.met.H.Host.honest_tells honest) in
    kept_wider (IsApplied (asked c.args.doc.now c.args.opts.now c.args.now) old.state) (Either (Settled c.args.now (entry_of old)) (Only (apply (asked c.args.doc.now c.args.opts.now c.args.now) (standing old.state)).after))
    (applied_is c.args.doc.now c.args.opts.now c.args.now old (sound.fit old.state here)) old (g.H.Host.told c.settle_and_change.new.host) (c.settle_and_change.ensures.kept honest sound)

pub returns-clause-exit : goal.returns-clause-exit
returns-clause-exit g c = λ honest sound.
    let old = g.H.Host.told c.args.host.now in
    let here = (g.met.H.Host.lawful c.args.host.now).reads (g.met.H.Host.honest_tells honest) in
    let new = g.H.Host.told c.settle_and_change.new.host in
    let e = c.settle_and_change.ensures in
    apply_exit c.args.doc.now c.args.opts.now c.args.now old new here (sound.fit old.state here) c.settle_and_change.result (e.exit honest sound) (idle_stops g.H.Host.tells c.args.now old new c.settle_and_change.result e.unbegun)

pub returns-clause-reads : goal.returns-clause-reads
returns-clause-reads g c = λ honest sound.
    let old = g.H.Host.told c.args.host.now in
    let new = g.H.Host.told c.settle_and_change.new.host in
    let tells = g.met.H.Host.honest_tells honest in
    let here = (g.met.H.Host.lawful c.args.host.now).reads tells in
    let e = c.settle_and_change.ensures in
    apply_reads c.args.doc.now c.args.opts.now c.args.now old new here (sound.fit old.state here) ((g.met.H.Host.lawful c.settle_and_change.new.host).reads tells) c.settle_and_change.result (e.exit honest sound)
    (λ is. (said_left g.H.Host.tells (asked c.args.doc.now c.args.opts.now c.args.now) old new c.settle_and_change.result NotBegun is e.says).1 tells)

pub returns-clause-answer : goal.returns-clause-answer
returns-clause-answer g c = λ honest sound.
    let old = g.H.Host.told c.args.host.now in
    let new = g.H.Host.told c.settle_and_change.new.host in
    let tells = g.met.H.Host.honest_tells honest in
    let e = c.settle_and_change.ensures in
    apply_answers c.args.doc.now c.args.opts.now c.args.now old new ((g.met.H.Host.lawful c.settle_and_change.new.host).reads tells) (sound.fit old.state ((g.met.H.Host.lawful c.args.host.now).reads tells))
    c.settle_and_change.result (e.exit honest sound) e.value
    (λ left is. (said_left g.H.Host.tells (asked c.args.doc.now c.args.opts.now c.args.now) old new c.settle_and_change.result left is e.says).0)
    (λ is. said_doubt g.H.Host.tells (asked c.args.doc.now c.args.opts.now c.args.now) old new c.settle_and_change.result is e.says)

pub returns-clause-undisturbed : goal.returns-clause-undisturbed
returns-clause-undisturbed g c = λ honest sound from to is merges quiet memory.
    let old = g.H.Host.told c.args.host.now in
    let new = g.H.Host.told c.settle_and_change.new.host in
    let tells = g.met.H.Host.honest_tells honest in
    let lawful = g.met.H.Host.lawful c.args.host.now in
    let e = c.settle_and_change.ensures in
    (ended_calm c.args.doc.now c.args.opts.now c.args.now g.H.Host.tells old new ((g.met.H.Host.lawful c.settle_and_change.new.host).reads tells) (sound.fit old.state (lawful.reads tells))
    c.settle_and_change.result (e.exit honest sound) e.value e.says from to is merges quiet memory (CalmSince from to old.stops.moment new)
    (e.calm honest old.stops.moment (omega arith) from to is merges
    (calm_first from to old lawful.stops (lawful.reads tells) sound (ap (λ (x : Standing). x.cell) is) (ap (λ (x : Standing). x.net) is)))).pair

pub returns-clause-calm : goal.returns-clause-calm
returns-clause-calm g c = λ honest sound from to is merges quiet memory since le calm.
    let old = g.H.Host.told c.args.host.now in
    let new = g.H.Host.told c.settle_and_change.new.host in
    let tells = g.met.H.Host.honest_tells honest in
    let e = c.settle_and_change.ensures in
    ended_calm c.args.doc.now c.args.opts.now c.args.now g.H.Host.tells old new ((g.met.H.Host.lawful c.settle_and_change.new.host).reads tells) (sound.fit old.state ((g.met.H.Host.lawful c.args.host.now).reads tells))
    c.settle_and_change.result (e.exit honest sound) e.value e.says from to is merges quiet memory (CalmSince from to since new) (e.calm honest since le from to is merges calm)
