use Rattle.std.proofs.Common.{length, ◌∙◌, ℕ, [], ◌∷◌, ap, sym, refl}
use Rattle.std.proofs.lemmas.Option.{slice_get_read}
use Rattle.rollout_model.specs.declared.node.Event.{Event}
use Rattle.rollout_core.specs.Answers.{probing}
use Rattle.rollout_core.proofs.step.probe.Goals as goal

pub returns : goal.returns
returns g c = λ a is.
    let done = c.check-answer.ensures in (
      c.check-answer.result,
      record {
        before = c.index_mut-host.result.now;
        after = c.check-answer.new.host;
        is_before = slice_get_read c.args.hosts.now.items (length c.args.hosts.now.items) c.args.i c.index_mut-host.result.now refl c.requires c.index_mut-host.ensures.value;
        is_after = refl;
        called = record {
          says = done.says;
          answers = done.answer;
          exit = done.exit;
          stays = done.stops;
          same = done.state;
          later = done.later;
        };
      },
      ap (λ (e : Event). e ∷ []) (c.probing.ensures ∙ ap (λ (n : ℕ). probing n c.args.i c.check-answer.result) (sym is)),
    )
