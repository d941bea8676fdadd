use Rattle.std.proofs.Common.{◌∙◌, inl, inr, true, refl, sym, ap}
use Rattle.std.specs.Prelude.{Err}
use Rattle.boot_service.specs.Stops.{pending}
use Rattle.boot_service.proofs.lemmas.Pending.{names_pending}
use Rattle.host_core.specs.Folders.{Files}
use Rattle.host_core.specs.declared.folder.NamesFault.{NamesFault}
use Rattle.top_model.specs.declared.report.Cause.TheVariants.{FolderFault, OutOfMemory}
use Rattle.service_run.specs.Course.{world}
use Rattle.service_run.specs.Services.{names_of}
use Rattle.service_run.proofs.Wholes.{is_service}
use Rattle.service_run.proofs.service.serve_all.Goals as goal

pub returns-in-Err-Failed : goal.returns-in-Err-Failed
returns-in-Err-Failed g c =
    let open_after = c.tell_unlisted.ensures.is_open in
    let e = c.in-Err-Failed.ensures in (
      open_after,
      is_service g.H.Host g.F.Folder g.W.Sink g.C.Clock g.met.H.Host.lawful g.met.F.Folder.lawful (world c.args.host.now c.args.folder.now c.args.out.now c.args.err.now c.args.clock.now true)
          (world c.args.host.now c.names.new.self c.tell_unlisted.new.out c.tell_unlisted.new.err c.args.clock.now open_after) c.tell_unlisted.result refl
          (inl (record {
            cause = FolderFault;
            host = refl;
            folder = record { unmoved = e.unmoved; later = e.cause.later };
            fails = inr (refl, e.cause.failed (ap (λ (f : NamesFault). Err f) c.in-Err-Failed.field-0-is));
            said = c.tell_unlisted.ensures.said;
            told = c.tell_unlisted.ensures.report;
          })),
    )

pub returns-in-Err-OutOfMemory : goal.returns-in-Err-OutOfMemory
returns-in-Err-OutOfMemory g c =
    let t = c.tell_unlisted-in-Err-OutOfMemory in
    let open_after = t.ensures.is_open in
    let e = c.in-Err-OutOfMemory.ensures in (
      open_after,
      is_service g.H.Host g.F.Folder g.W.Sink g.C.Clock g.met.H.Host.lawful g.met.F.Folder.lawful (world c.args.host.now c.args.folder.now c.args.out.now c.args.err.now c.args.clock.now true)
          (world c.args.host.now c.names.new.self t.new.out t.new.err c.args.clock.now open_after) t.result refl
          (inl (record {
            cause = OutOfMemory;
            host = refl;
            folder = record { unmoved = e.unmoved; later = e.cause.later };
            fails = inl refl;
            said = t.ensures.said;
            told = t.ensures.report;
          })),
    )

pub serve_names-requires : goal.serve_names-requires
serve_names-requires g c = λ t.
    let old = g.F.Folder.told c.args.folder.now in
    let e = c.in-Ok.ensures in
    ap (λ (fs : Files). names_of (pending fs)) (e.unmoved.files t) ∙ names_pending old.files ∙ sym (e.names t) ∙ sym c.deref.ensures.value

pub returns : goal.returns
returns g c =
    let ran = c.serve_names.ensures in
    let e = c.in-Ok.ensures in (
      ran.0,
      is_service g.H.Host g.F.Folder g.W.Sink g.C.Clock g.met.H.Host.lawful g.met.F.Folder.lawful (world c.args.host.now c.args.folder.now c.args.out.now c.args.err.now c.args.clock.now true)
          (world c.serve_names.new.host c.serve_names.new.folder c.serve_names.new.out c.serve_names.new.err c.serve_names.new.clock ran.0) c.serve_names.result refl
          (inr (record {
            names = c.deref.result.now;
            listed = c.names.new.self;
            folder = record { unmoved = e.unmoved; later = e.cause.later };
            are = λ t. c.deref.ensures.value ∙ e.names t;
            ran = ran.1;
          })),
    )
