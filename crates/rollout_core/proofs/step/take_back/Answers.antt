use Rattle.std.proofs.Common.{length, [], ◌∷◌, ap, refl}
use Rattle.std.proofs.lemmas.Option.{slice_get_read}
use Rattle.rollout_model.specs.declared.node.Event.{Event}
use Rattle.rollout_core.proofs.step.take_back.Goals as goal

pub returns : goal.returns
returns g c = λ a.
    let done = c.rollback-answer.ensures in (
      c.rollback-answer.result,
      record {
        before = c.index_mut-host.result.now;
        after = c.rollback-answer.new.host;
        is_before = slice_get_read c.args.hosts.now.items (length c.args.hosts.now.items) c.args.i c.index_mut-host.result.now refl c.requires c.index_mut-host.ensures.value;
        is_after = refl;
        called = record {
          says = done.says;
          counts = done.counts;
          answers = done.answer;
          exact = done.exact;
          gave = done.gave;
          unbegun = done.unbegun;
          exit = done.exit;
          reads = done.reads;
          kept = done.kept;
          later = done.later;
        };
      },
      ap (λ (e : Event). e ∷ []) c.returning.ensures,
    )
