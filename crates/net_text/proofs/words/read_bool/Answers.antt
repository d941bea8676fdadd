use Rattle.std.proofs.Common.{◌≡◌, Some, subst, sym}
use Rattle.std.specs.Prelude.{◌↔◌}
use Rattle.net_text.specs.Line.{bool_word}
use Rattle.net_text.proofs.lemmas.Words.{booleans_exact}
use Rattle.net_text.proofs.words.read_bool.Goals as goal

pub returns-clause-exact : goal.returns-clause-exact
returns-clause-exact c = λ x. subst (λ r. (r ≡ Some x) ↔ (c.args.word.now ≡ bool_word x)) (sym c.bool_of.ensures) (booleans_exact c.args.word.now x)
