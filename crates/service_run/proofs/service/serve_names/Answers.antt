use Rattle.std.proofs.Common.{rules, ◌≡◌, ◌∙◌, ◌≤◌, ◌<◌, ◌+◌, ◌++◌, ◌∷◌, List, [], true, length, get_or, take, drop, refl, sym, subst, append-nil}
use Rattle.std.proofs.lemmas.List.{take_all}
use Rattle.top_model.specs.Orders.{Text}
use Rattle.top_model.specs.Texts.{error_line}
use Rattle.service_run.specs.Documents.{applied_line, at_line}
use Rattle.service_run.specs.Telling.{Speaks, sinks}
use Rattle.service_run.specs.Course.{world, WentOn, Went}
use Rattle.service_run.proofs.Steps.{may_mark, next_name, last_name, all_names, on_of, stop_of, left_on, went_more}
use Rattle.service_run.proofs.service.serve_names.Goals as goal

pub serve_named-notes-requires : goal.serve_named-notes-requires
serve_named-notes-requires g c =
    let names = c.args.names.now in
    let i = c.loop-name.name-index in
    let x = c.name-item.result in
    let within : i < length names = search rules in
    let is : x ≡ get_or names i x = search rules in
    may_mark g.F.Folder.tells (g.F.Folder.told c.loop-name.folder) (g.met.F.Folder.lawful c.loop-name.folder) x (drop (i + 1) names) (λ t. c.loop-name.invariant.left t ∙ next_name names i x within is)

pub returns-in-Some : goal.returns-in-Some
returns-in-Some g c =
    let names = c.args.names.now in
    let i = c.loop-name.name-index in
    let x = c.name-item.result in
    let within : i < length names = search rules in
    let is : x ≡ get_or names i x = search rules in
    let open_after = c.tell_stop.ensures.is_open in
    let mid = world c.loop-name.host c.loop-name.folder c.loop-name.out c.loop-name.err c.loop-name.clock c.loop-name.is_open in
    let new = world c.serve_named-notes.new.host c.serve_named-notes.new.folder c.tell_stop.new.out c.tell_stop.new.err c.now-now.new.self open_after in
    let said = subst (λ (notes : Text). Speaks g.W.Sink.tells [] ((notes ++ at_line x) ++ error_line c.in-Some.cause) (sinks (g.W.Sink.told c.loop-name.out) (g.W.Sink.told c.loop-name.err)) (sinks (g.W.Sink.told c.tell_stop.new.out) (g.W.Sink.told c.tell_stop.new.err)) c.loop-name.is_open open_after)
    c.deref-in-Some.ensures.value c.tell_stop.ensures.said in (
      open_after,
      record {
        done = take i names;
        more = x ∷ drop (i + 1) names;
        all = all_names names i x within is;
        mid = mid;
        went = c.loop-name.invariant.went;
        ends = stop_of g.H.Host g.F.Folder g.W.Sink g.C.Clock g.met.H.Host.lawful g.met.F.Folder.lawful x c.now-now.result mid new c.serve_named-notes.result.notes.items c.serve_named-notes.result.cause c.in-Some.cause c.tell_stop.result
            c.now-now.ensures c.serve_named-notes.ensures c.in-Some.is said c.tell_stop.ensures.report;
      },
    )

pub loop-name-preserved : goal.loop-name-preserved
loop-name-preserved g c =
    let names = c.args.names.now in
    let i = c.loop-name.name-index in
    let x = c.name-item.result in
    let within : i < length names = search rules in
    let is : x ≡ get_or names i x = search rules in
    let first = world c.args.host.now c.args.folder.now c.args.out.now c.args.err.now c.args.clock.now true in
    let mid = world c.loop-name.host c.loop-name.folder c.loop-name.out c.loop-name.err c.loop-name.clock c.loop-name.is_open in
    let new = world c.serve_named-notes.new.host c.serve_named-notes.new.folder c.tell_applied-is_open.new.out c.tell_applied-is_open.new.err c.now-now.new.self c.tell_applied-is_open.result in
    let said = subst (λ (notes : Text). Speaks g.W.Sink.tells (applied_line x) notes (sinks (g.W.Sink.told c.loop-name.out) (g.W.Sink.told c.loop-name.err)) (sinks (g.W.Sink.told c.tell_applied-is_open.new.out) (g.W.Sink.told c.tell_applied-is_open.new.err)) c.loop-name.is_open c.tell_applied-is_open.result)
    c.deref.ensures.value c.tell_applied-is_open.ensures in
    let on : WentOn g.H.Host g.F.Folder g.W.Sink g.C.Clock x mid new =
    on_of g.H.Host g.F.Folder g.W.Sink g.C.Clock g.met.H.Host.lawful g.met.F.Folder.lawful x c.now-now.result mid new c.serve_named-notes.result.notes.items c.serve_named-notes.result.cause c.now-now.ensures c.serve_named-notes.ensures c.in-None.is said in
    record {
      left = left_on g.H.Host g.F.Folder g.W.Sink g.C.Clock g.met.H.Host.lawful g.met.F.Folder.lawful x (drop (i + 1) names) mid new (λ t. c.loop-name.invariant.left t ∙ next_name names i x within is) on;
      went = subst (λ (ns : List Text). Went g.H.Host g.F.Folder g.W.Sink g.C.Clock ns first new) (last_name names i x within is)
          (went_more g.H.Host g.F.Folder g.W.Sink g.C.Clock g.met.H.Host.lawful g.met.F.Folder.lawful x (take i names) first mid new c.loop-name.invariant.went on);
    }

pub returns : goal.returns
returns g c =
    let names = c.args.names.now in
    let i = c.loop-name.name-index in
    let past : length names ≤ i = search rules in
    let first = world c.args.host.now c.args.folder.now c.args.out.now c.args.err.now c.args.clock.now true in
    let last = world c.loop-name.host c.loop-name.folder c.loop-name.out c.loop-name.err c.loop-name.clock c.loop-name.is_open in (
      c.loop-name.is_open,
      record {
        done = names;
        more = [];
        all = sym (append-nil names);
        mid = last;
        went = subst (λ (ns : List Text). Went g.H.Host g.F.Folder g.W.Sink g.C.Clock ns first last) (take_all i names past) c.loop-name.invariant.went;
        ends = (refl, c.finished.ensures);
      },
    )
