use Rattle.std.proofs.Common.{◌∙◌, ap, sym, option_map, Some, None}
use Rattle.std.specs.Borrow.{Bor}
use Rattle.clap.specs.Words.{Text, found_of}
use Rattle.command_words.proofs.FoundLemmas.{set_found}
use Rattle.command_words.proofs.found.is_set.Goals as goal

pub returns-in-Some : goal.returns-in-Some
returns-in-Some c = c.eq.ensures ∙ set_found c.args.name.now (found_of c.args.matches.now) (Some c.in-Some.text) (ap (option_map (λ (s : Bor Text). s.now)) (sym c.in-Some.is) ∙ c.get_str.ensures)

pub returns-in-None : goal.returns-in-None
returns-in-None c = set_found c.args.name.now (found_of c.args.matches.now) None (ap (option_map (λ (s : Bor Text). s.now)) (sym c.in-None.is) ∙ c.get_str.ensures)
