use Rattle.std.proofs.Common.{◌≡◌, Some, subst, sym}
use Rattle.std.specs.Prelude.{◌↔◌}
use Rattle.net_text.specs.Line.{proto_word}
use Rattle.net_text.proofs.lemmas.Words.{protocols_exact}
use Rattle.net_text.proofs.words.read_proto.Goals as goal

pub returns-clause-exact : goal.returns-clause-exact
returns-clause-exact c = λ x. subst (λ r. (r ≡ Some x) ↔ (c.args.word.now ≡ proto_word x)) (sym c.proto_of.ensures) (protocols_exact c.args.word.now x)
