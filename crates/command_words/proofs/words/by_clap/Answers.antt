use Rattle.std.proofs.Common.{◌∙◌, ap, map, string_bytes}
use Rattle.clap.specs.Walk.{texts}
use Rattle.command_words.proofs.ParseLemmas.{refused, taken}
use Rattle.command_words.proofs.words.by_clap.Goals as goal

pub returns-in-Ok : goal.returns-in-Ok
returns-in-Ok c =
    c.in_ok-command_found-in-Ok.ensures
    ∙ taken _ _ (map string_bytes c.args.words.now) c.in-Ok.matches c.in_ok-line.ensures.0 (ap texts c.as_slice.ensures.value ∙ c.in_ok-given.ensures) c.in-Ok.ensures.matches c.in-Ok.ensures.kinds

pub returns : goal.returns
returns c =
    refused _ _ (map string_bytes c.args.words.now) c.in-Err.error c.in_ok-line.ensures.0 (ap texts c.as_slice.ensures.value ∙ c.in_ok-given.ensures) c.in-Err.ensures.kinds (λ memory. c.in_default.not-OutOfMemory (c.kind.ensures ∙ memory))
