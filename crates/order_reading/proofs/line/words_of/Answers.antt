use Rattle.std.proofs.Common.{◌∙◌, rules, sym}
use Rattle.top_model.specs.Lines.{words_in}
use Rattle.order_reading.specs.Steps.{unless_empty, words_seen}
use Rattle.order_reading.proofs.Parts.{none_so_far, pushed, not_empty, words_on, words_all}
use Rattle.order_reading.proofs.line.words_of.Goals as goal

pub loop-word-init : goal.loop-word-init
loop-word-init c = record { is_text = c.utf8.text; so_far = rw c.new-words.ensures.items (none_so_far (unless_empty (words_in c.args.text.now))) }

pub loop-word-preserved : goal.loop-word-preserved
loop-word-preserved c = record {
  is_text = search rules;
  so_far =
      words_on c.loop-word.rest.now c.in-Some.word.now c.in-Some.more.now (words_seen c.loop-word.words) (words_seen c.push.new.self) (unless_empty (words_in c.args.text.now)) c.in-Some.ensures.0
      (not_empty c.in-Some.word.now (sym c.is_empty.ensures ∙ c.if-is_empty.false))
      (pushed c.loop-word.words.items c.push.new.self.items c.in_ok-from_str.field-0 c.in-Some.word.now c.in_ok-push.ensures.items c.in_ok-from_str.ensures.ok)
      c.loop-word.invariant.so_far;
}

pub returns : goal.returns
returns c =
    words_all c.loop-word.rest.now (words_seen c.loop-word.words) (words_seen c.push-2.new.self) (unless_empty (words_in c.args.text.now)) c.in_default.ensures
    (not_empty c.loop-word.rest.now (sym c.is_empty-2.ensures ∙ c.if-is_empty-2.false))
    (pushed c.loop-word.words.items c.push-2.new.self.items c.in_ok-from_str-2.field-0 c.loop-word.rest.now c.in_ok-push-2.ensures.items c.in_ok-from_str-2.ensures.ok)
    c.loop-word.invariant.so_far
