use Rattle.std.proofs.Common.{◌≡◌, Some, subst, sym}
use Rattle.std.specs.Prelude.{◌↔◌}
use Rattle.net_text.specs.Line.{rate_word}
use Rattle.net_text.proofs.lemmas.Words.{rates_exact}
use Rattle.net_text.proofs.words.read_rate.Goals as goal

pub returns-clause-exact : goal.returns-clause-exact
returns-clause-exact c = λ x. subst (λ r. (r ≡ Some x) ↔ (c.args.word.now ≡ rate_word x)) (sym c.rate_of.ensures) (rates_exact c.args.word.now x)
