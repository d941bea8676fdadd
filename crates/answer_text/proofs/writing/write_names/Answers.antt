use Rattle.std.proofs.Common.{◌∙◌, ℕ, List, ◌++◌, codes, sym, ap}
use Rattle.std.specs.List.{flat_map}
use Rattle.top_model.specs.Texts.{spaced}
use Rattle.answer_text.proofs.Pieces.{same, spaced_is}
use Rattle.answer_text.proofs.writing.write_names.Goals as goal

pub returns-in-Some : goal.returns-in-Some
returns-in-Some g c =
    same g.W.Sink.tells (c.in-Some.first.now ++ flat_map (λ (name : List ℕ). codes " " ++ name) c.in-Some.more.now) (spaced c.args.names.now) (g.W.Sink.told c.args.sink.now) (g.W.Sink.told c.write_from_name.new.sink) c.write_from_name.result
    (sym (ap spaced c.in-Some.ensures.cases.0 ∙ spaced_is c.in-Some.first.now c.in-Some.more.now)) c.write_from_name.ensures
