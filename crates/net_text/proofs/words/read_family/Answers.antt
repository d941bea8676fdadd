use Rattle.std.proofs.Common.{◌≡◌, Some, subst, sym}
use Rattle.std.specs.Prelude.{◌↔◌}
use Rattle.net_text.specs.Line.{family_word}
use Rattle.net_text.proofs.lemmas.Words.{families_exact}
use Rattle.net_text.proofs.words.read_family.Goals as goal

pub returns-clause-exact : goal.returns-clause-exact
returns-clause-exact c = λ x. subst (λ r. (r ≡ Some x) ↔ (c.args.word.now ≡ family_word x)) (sym c.family_of.ensures) (families_exact c.args.word.now x)
