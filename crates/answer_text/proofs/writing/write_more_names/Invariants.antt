use Rattle.std.proofs.Common.{take, flat_map, codes, ◌++◌}
use Rattle.std.specs.Prelude.{Ok, ℕ, List}
use Rattle.answer_text.specs.Writing.{Writes}
use Rattle.answer_text.proofs.writing.write_more_names.Given as goal

-- the names so far were written
abbrev pub invariant-loop-name : goal.invariant-loop-name
invariant-loop-name g l = Writes g.W.Sink.tells (flat_map (λ (name : List ℕ). codes " " ++ name) (take l.name-index l.names)) (g.W.Sink.told l.initial.sink) (g.W.Sink.told l.sink) (Ok tt)
