use Rattle.std.proofs.Common.{Option, Err, ap, subst}
use Rattle.checkpoint_cell.specs.declared.loading.Pending.{Pending}
use Rattle.checkpoint_cell.specs.Cell.{cell_of}
use Rattle.checkpoint_cell.specs.Loaded.{IsLoaded}
use Rattle.engine_model.proofs.lemmas.Failing.{looked}
use Rattle.engine_model.proofs.lemmas.Restores.{held_stays}
use Rattle.engine_restore.proofs.Readies.{set_loaded, never_empty, host_failed, no_memory, no_image}
use Rattle.engine_restore.proofs.restoring.load_held.Goals as goal

pub returns-in-Ok-Some : goal.returns-in-Ok-Some
returns-in-Ok-Some g c =
    let old = g.H.Host.told c.args.host.now in
    let new = g.H.Host.told c.load.new.host in
    let look = c.load.ensures.untouched in
    record {
      set = λ tells.
          let was = c.requires tells in
          set_loaded c.in-Ok-Some.pending was.0 old new was.1
          (subst (λ (o : Option Pending). IsLoaded o (cell_of old.state.cell)) c.in-Ok-Some.field-0-is (c.in-Ok-Some.ensures.loaded tells)) (held_stays _ old new was.1 look.stops (look.cell tells));
      fault = tt;
      untouched = look;
      later = c.load.ensures.cause.later;
    }

pub returns-in-Ok-None : goal.returns-in-Ok-None
returns-in-Ok-None g c =
    let old = g.H.Host.told c.args.host.now in
    let new = g.H.Host.told c.load.new.host in
    let look = c.load.ensures.untouched in
    record {
      set = tt;
      fault = no_image g.H.Host.tells g.H.Host.honest g.met.H.Host.honest_tells old new (looked g.H.Host.tells old new look) (g.met.H.Host.lawful c.args.host.now).reads (λ tells.
          let was = c.requires tells in
          absurd (never_empty was.0 old was.1 (subst (λ (o : Option Pending). IsLoaded o (cell_of old.state.cell)) c.in-Ok-None.field-0-is (c.in-Ok-None.ensures.loaded tells))));
      untouched = look;
      later = c.load.ensures.cause.later;
    }

pub returns-in-Err-Failed : goal.returns-in-Err-Failed
returns-in-Err-Failed g c =
    let old = g.H.Host.told c.args.host.now in
    let new = g.H.Host.told c.load.new.host in
    let look = c.load.ensures.untouched in
    record {
      set = tt;
      fault = host_failed g.H.Host.tells g.H.Host.honest g.met.H.Host.honest_tells old new (looked g.H.Host.tells old new look) (c.in-Err-Failed.ensures.cause.failed (ap (λ e. Err e) c.in-Err-Failed.field-0-is));
      untouched = look;
      later = c.load.ensures.cause.later;
    }

pub returns-in-Err-Damaged : goal.returns-in-Err-Damaged
returns-in-Err-Damaged g c =
    let old = g.H.Host.told c.args.host.now in
    let new = g.H.Host.told c.load.new.host in
    let look = c.load.ensures.untouched in
    record {
      set = tt;
      fault = no_image g.H.Host.tells g.H.Host.honest g.met.H.Host.honest_tells old new (looked g.H.Host.tells old new look) (g.met.H.Host.lawful c.args.host.now).reads
          (λ tells. c.in-Err-Damaged.ensures.damaged tells (ap (λ e. Err e) c.in-Err-Damaged.field-0-is));
      untouched = look;
      later = c.load.ensures.cause.later;
    }

pub returns-in-Err-OutOfMemory : goal.returns-in-Err-OutOfMemory
returns-in-Err-OutOfMemory g c =
    let old = g.H.Host.told c.args.host.now in
    let new = g.H.Host.told c.load.new.host in
    let look = c.load.ensures.untouched in
    record {
      set = tt;
      fault = no_memory g.H.Host.tells g.H.Host.honest g.met.H.Host.honest_tells old new (looked g.H.Host.tells old new look);
      untouched = look;
      later = c.load.ensures.cause.later;
    }
