use Rattle.std.proofs.Common.{◌≡◌, length}
use Rattle.std.specs.Prelude.{option_map}
use denote.Text.{Utf8}
use denote.Shadow.{shadow}
use Rattle.top_model.specs.Lines.{words_in}
use Rattle.order_reading.specs.Steps.{unless_empty, words_seen}
use Rattle.order_reading.proofs.Parts.{in_front}
use Rattle.order_reading.proofs.line.words_of.Given as goal

abbrev pub invariant-loop-word : goal.invariant-loop-word
invariant-loop-word l = record {
  is_text : shadow (Utf8 l.rest);
  so_far : option_map (in_front (words_seen l.words)) (unless_empty (words_in l.rest)) ≡ unless_empty (words_in l.text);
}

abbrev pub decreases-loop-word : goal.decreases-loop-word
decreases-loop-word l = length l.rest
