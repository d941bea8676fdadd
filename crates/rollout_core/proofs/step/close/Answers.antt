use Rattle.std.proofs.Common.{length, ℕ, [], ◌∷◌, ap, sym, subst, refl}
use Rattle.std.proofs.lemmas.Option.{slice_get_read}
use Rattle.rollout_model.specs.declared.node.Event.{Event}
use Rattle.rollout_core.specs.Calls.{Commits}
use Rattle.rollout_core.proofs.step.close.Goals as goal

pub returns : goal.returns
returns g c = λ a is.
    let done = c.commit-answer.ensures in (
      c.commit-answer.result,
      record {
        before = c.index_mut-host.result.now;
        after = c.commit-answer.new.host;
        is_before = slice_get_read c.args.hosts.now.items (length c.args.hosts.now.items) c.args.i c.index_mut-host.result.now refl c.requires c.index_mut-host.ensures.value;
        is_after = refl;
        called = subst (λ (n : ℕ). Commits g.H.Host.tells g.H.Host.honest (g.H.Host.told c.index_mut-host.result.now) (g.H.Host.told c.commit-answer.new.host) n c.commit-answer.result) (sym is)
            (record {
              answers = done.answer;
              unbegun = done.unbegun;
              exit = done.exit;
              reads = done.reads;
              kept = done.kept;
              later = done.later;
            });
      },
      ap (λ (e : Event). e ∷ []) c.closing.ensures,
    )
