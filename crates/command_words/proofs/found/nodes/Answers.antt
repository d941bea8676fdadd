use Rattle.std.proofs.Common.{◌∙◌, ap, sym, map, option_map, List, Some, None}
use Rattle.std.proofs.lemmas.Result.{IfOk-weaker}
use Rattle.std.specs.Borrow.{Bor}
use Rattle.clap.specs.Words.{Text, found_of}
use Rattle.command_words.proofs.FoundLemmas.{nodes_found}
use Rattle.command_words.proofs.found.nodes.Goals as goal

abbrev folders : Bor (List (Bor Text)) → List Text
folders dirs = map (λ dir. dir.now) dirs.now

pub returns-in-Some : goal.returns-in-Some
returns-in-Some c =
    IfOk-weaker c.nodes_or_one.result _ _
    (λ nodes is. is ∙ nodes_found (found_of c.args.matches.now) (Some (folders c.in-Some.dirs)) (ap (option_map folders) (sym c.in-Some.is) ∙ c.get_strs.ensures)) c.nodes_or_one.ensures

pub returns-in-None : goal.returns-in-None
returns-in-None c =
    IfOk-weaker c.nodes_or_one-in-None.result _ _
    (λ nodes is. is ∙ nodes_found (found_of c.args.matches.now) None (ap (option_map folders) (sym c.in-None.is) ∙ c.get_strs.ensures)) c.nodes_or_one-in-None.ensures
