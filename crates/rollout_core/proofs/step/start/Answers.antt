use Rattle.std.proofs.Common.{length, [], ◌∷◌, ap, refl}
use Rattle.std.proofs.lemmas.Option.{slice_get_read}
use Rattle.rollout_model.specs.declared.node.Event.{Event}
use Rattle.rollout_model.specs.declared.node.Event.TheVariants as ev
use Rattle.rollout_core.proofs.step.start.Goals as goal

pub returns : goal.returns
returns g c =
    let done = c.apply-answer.ensures in (
      c.apply-answer.result,
      record {
        before = c.index_mut-host.result.now;
        after = c.apply-answer.new.host;
        is_before = slice_get_read c.args.hosts.now.items (length c.args.hosts.now.items) c.args.i c.index_mut-host.result.now refl c.requires.there c.index_mut-host.ensures.value;
        is_after = refl;
        called = record {
          says = done.says;
          counts = done.counts;
          answers = done.answer;
          exact = done.exact;
          unbegun = done.unbegun;
          intact = done.intact;
          waits = done.waits;
          exit = done.exit;
          reads = done.reads;
          kept = done.kept;
          seen = done.seen;
          undisturbed = done.undisturbed;
          tries = done.tries;
          twice = done.twice;
          dumps = done.dumps;
          backs = done.backs;
          moment = done.moment;
          later = done.later;
        };
      },
      ap (λ (e : Event). ev.Start c.args.i ∷ e ∷ []) c.opening.ensures,
    )
