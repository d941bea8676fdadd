use Rattle.std.proofs.Common.{◌≡◌, ◌∙◌, sym, Option, Some, None}
use Rattle.top_model.specs.Orders.{Text}
use Rattle.top_model.proofs.lemmas.Scripted.{is_script, no_script}
use Rattle.nmstate_top.proofs.run.run_named.Goals as goal

some_none : (file : Option Text) → Some file ≡ None → ⊥
some_none file e = cc

none_some : (file : Option Text) → None ≡ Some file → ⊥
none_some file e = cc

pub returns-in-Some : goal.returns-in-Some
returns-in-Some g c =
    let named = sym c.requires ∙ c.in-Some.is in (
      c.now.result,
      c.now.ensures,
      record {
        answered = λ none. absurd (some_none c.in-Some.file (sym c.in-Some.is ∙ (c.requires ∙ none)));
        apart = λ none. absurd (some_none c.in-Some.file (sym c.in-Some.is ∙ (c.requires ∙ none)));
        script = is_script _ _ (c.run_file.ensures c.args.words.now.items named);
        ran = λ file is. c.run_file.ensures c.args.words.now.items named;
      },
    )

pub returns-in-None : goal.returns-in-None
returns-in-None g c =
    let e = c.run_clocked.ensures in (
      e.0,
      e.1,
      record {
        answered = λ none. e.2;
        apart = λ none. e.3;
        script = no_script _ _ (sym c.requires ∙ c.in-None.is);
        ran = λ file is. absurd (none_some file (sym c.in-None.is ∙ (c.requires ∙ is)));
      },
    )
