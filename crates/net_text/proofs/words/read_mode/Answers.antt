use Rattle.std.proofs.Common.{◌≡◌, Some, subst, sym}
use Rattle.std.specs.Prelude.{◌↔◌}
use Rattle.net_text.specs.Line.{mode_word}
use Rattle.net_text.proofs.lemmas.Words.{modes_exact}
use Rattle.net_text.proofs.words.read_mode.Goals as goal

pub returns-clause-exact : goal.returns-clause-exact
returns-clause-exact c = λ x. subst (λ r. (r ≡ Some x) ↔ (c.args.word.now ≡ mode_word x)) (sym c.mode_of.ensures) (modes_exact c.args.word.now x)
