use Rattle.std.proofs.Common.{◌∙◌, sym, map, string_bytes}
use Rattle.std.proofs.lemmas.Result.{IfOk-weaker}
use Rattle.command_words.proofs.lemmas.Usage.{clap_reads, in_range_of, lone_is, usage_of}
use Rattle.command_words.proofs.words.command_of.Goals as goal

pub returns-in-Some-clause-command : goal.returns-in-Some-clause-command
returns-in-Some-clause-command c = sym (lone_is (map string_bytes c.args.words.now) c.in-Some.command (sym c.lone.ensures ∙ c.in-Some.is))

pub returns-in-Some-clause-usage : goal.returns-in-Some-clause-usage
returns-in-Some-clause-usage c = usage_of (map string_bytes c.args.words.now) _ (sym (lone_is (map string_bytes c.args.words.now) c.in-Some.command (sym c.lone.ensures ∙ c.in-Some.is)))

pub returns-in-None-clause-command : goal.returns-in-None-clause-command
returns-in-None-clause-command c =
    IfOk-weaker c.unescaped.result _ _ (λ command is. is ∙ sym (clap_reads (map string_bytes c.args.words.now) (sym c.lone.ensures ∙ c.in-None.is))) c.unescaped.ensures

pub returns-in-None-clause-usage : goal.returns-in-None-clause-usage
returns-in-None-clause-usage c =
    IfOk-weaker c.unescaped.result _ _ (λ command is. usage_of (map string_bytes c.args.words.now) command (is ∙ sym (clap_reads (map string_bytes c.args.words.now) (sym c.lone.ensures ∙ c.in-None.is)))) c.unescaped.ensures

pub returns-in-Some-clause-range : goal.returns-in-Some-clause-range
returns-in-Some-clause-range c = in_range_of (map string_bytes c.args.words.now) _ (sym (lone_is (map string_bytes c.args.words.now) c.in-Some.command (sym c.lone.ensures ∙ c.in-Some.is)))

pub returns-in-None-clause-range : goal.returns-in-None-clause-range
returns-in-None-clause-range c =
    IfOk-weaker c.unescaped.result _ _ (λ command is. in_range_of (map string_bytes c.args.words.now) command (is ∙ sym (clap_reads (map string_bytes c.args.words.now) (sym c.lone.ensures ∙ c.in-None.is)))) c.unescaped.ensures
