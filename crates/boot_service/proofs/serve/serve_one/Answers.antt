use Rattle.std.proofs.Common.{◌≡◌, refl, subst}
use Rattle.std.specs.Prelude.{Result, Ok, Err}
use Rattle.engine_model.specs.Machine.{asked}
use Rattle.engine_model.specs.declared.answers.ApplyOpts.{ApplyOpts}
use Rattle.engine_model.specs.declared.answers.Applied.{Applied}
use Rattle.engine_model.specs.declared.answers.ApplyFault.{ApplyFault}
use Rattle.boot_service.specs.Serving.{Applies}
use Rattle.boot_service.proofs.Merging.{Laws}
use Rattle.boot_service.proofs.Serving.{applies_done, serves_fault, serves_marked, serves_unmarked}
use Rattle.boot_service.proofs.serve.serve_one.Goals as goal

pub returns-in-Err : goal.returns-in-Err
returns-in-Err g c =
    let e = c.in-Err.ensures in
    let old = g.H.Host.told c.args.host.now in
    let new = g.H.Host.told c.apply.new.host in
    let laws : Laws = record { valid = c.merge_laws.ensures.valid; again = c.merge_laws.ensures.again } in
    let done : Result Applied ApplyFault = Err c.in-Err.fault in
    let applies : Applies g.H.Host.honest g.H.Host.tells (asked c.args.doc.now c.defaults-opts.result c.args.now) old new done = record {
      says = e.says;
      counts = e.counts;
      answer = e.answer;
      exact = e.exact;
      unbegun = e.unbegun;
      intact = e.intact;
      waits = e.waits;
      exit = e.exit;
      reads = e.reads;
      kept = e.kept;
      seen = e.seen;
      undisturbed = e.undisturbed;
      tries = e.tries;
      twice = e.twice;
      dumps = e.dumps;
      backs = e.backs;
      moment = e.moment;
      later = e.later;
    } in
    serves_fault laws g.H.Host.honest g.H.Host.tells g.F.Folder.tells (c.args.folder.now ≡ c.args.folder.now) c.args.doc.now c.args.name.now c.args.now old new (g.F.Folder.told c.args.folder.now) c.requires.document
    (g.met.H.Host.lawful c.args.host.now).stops c.in-Err.fault refl
    (subst (λ (o : ApplyOpts). Applies g.H.Host.honest g.H.Host.tells (asked c.args.doc.now o c.args.now) old new done) c.defaults-opts.ensures applies)

pub returns-in-Ok-mark : goal.returns-in-Ok-mark
returns-in-Ok-mark g c =
    let e = c.in-Ok.ensures in
    let m = c.in-Ok-mark.ensures in
    let old = g.H.Host.told c.args.host.now in
    let new = g.H.Host.told c.apply.new.host in
    let laws : Laws = record { valid = c.merge_laws.ensures.valid; again = c.merge_laws.ensures.again } in
    let done : Result Applied ApplyFault = Ok c.in-Ok.field-0 in
    let applies : Applies g.H.Host.honest g.H.Host.tells (asked c.args.doc.now c.defaults-opts.result c.args.now) old new done = record {
      says = e.says;
      counts = e.counts;
      answer = e.answer;
      exact = e.exact;
      unbegun = e.unbegun;
      intact = e.intact;
      waits = e.waits;
      exit = e.exit;
      reads = e.reads;
      kept = e.kept;
      seen = e.seen;
      undisturbed = e.undisturbed;
      tries = e.tries;
      twice = e.twice;
      dumps = e.dumps;
      backs = e.backs;
      moment = e.moment;
      later = e.later;
    } in
    serves_marked laws g.H.Host.honest g.H.Host.tells g.F.Folder.tells (c.mark.new.self ≡ c.args.folder.now) c.args.doc.now c.args.name.now c.args.now old new (g.F.Folder.told c.args.folder.now) c.requires.document
    (g.met.H.Host.lawful c.args.host.now).stops (g.met.F.Folder.lawful c.args.folder.now).differ
    (applies_done g.H.Host.honest g.H.Host.tells c.args.doc.now c.args.now old new c.in-Ok.field-0
    (subst (λ (o : ApplyOpts). Applies g.H.Host.honest g.H.Host.tells (asked c.args.doc.now o c.args.now) old new done) c.defaults-opts.ensures applies))
    (g.F.Folder.told c.mark.new.self) (record { files = m.marked; stays = m.stays; stops = m.stops; later = m.cause.later })

pub returns-in-Err-mark : goal.returns-in-Err-mark
returns-in-Err-mark g c =
    let e = c.in-Ok.ensures in
    let m = c.in-Err-mark.ensures in
    let old = g.H.Host.told c.args.host.now in
    let new = g.H.Host.told c.apply.new.host in
    let laws : Laws = record { valid = c.merge_laws.ensures.valid; again = c.merge_laws.ensures.again } in
    let done : Result Applied ApplyFault = Ok c.in-Ok.field-0 in
    let applies : Applies g.H.Host.honest g.H.Host.tells (asked c.args.doc.now c.defaults-opts.result c.args.now) old new done = record {
      says = e.says;
      counts = e.counts;
      answer = e.answer;
      exact = e.exact;
      unbegun = e.unbegun;
      intact = e.intact;
      waits = e.waits;
      exit = e.exit;
      reads = e.reads;
      kept = e.kept;
      seen = e.seen;
      undisturbed = e.undisturbed;
      tries = e.tries;
      twice = e.twice;
      dumps = e.dumps;
      backs = e.backs;
      moment = e.moment;
      later = e.later;
    } in
    serves_unmarked laws g.H.Host.honest g.H.Host.tells g.F.Folder.tells (c.mark.new.self ≡ c.args.folder.now) c.args.doc.now c.args.name.now c.args.now old new (g.F.Folder.told c.args.folder.now) c.requires.document
    (g.met.H.Host.lawful c.args.host.now).stops (g.met.F.Folder.lawful c.args.folder.now).differ
    (applies_done g.H.Host.honest g.H.Host.tells c.args.doc.now c.args.now old new c.in-Ok.field-0
    (subst (λ (o : ApplyOpts). Applies g.H.Host.honest g.H.Host.tells (asked c.args.doc.now o c.args.now) old new done) c.defaults-opts.ensures applies))
    (g.F.Folder.told c.mark.new.self) (record { files = m.maybe; stops = m.stops; rose = m.cause.failed; later = m.cause.later })
