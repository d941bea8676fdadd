use Rattle.std.proofs.Common.{◌≡◌, Some, subst, sym}
use Rattle.std.specs.Prelude.{◌↔◌}
use Rattle.net_text.specs.Line.{policy_word}
use Rattle.net_text.proofs.lemmas.Words.{policies_exact}
use Rattle.net_text.proofs.words.read_policy.Goals as goal

pub returns-clause-exact : goal.returns-clause-exact
returns-clause-exact c = λ x. subst (λ r. (r ≡ Some x) ↔ (c.args.word.now ≡ policy_word x)) (sym c.policy_of.ensures) (policies_exact c.args.word.now x)
