use Rattle.std.proofs.Common.{◌≡◌, ◌++◌, map, take, string_bytes}
use Rattle.clap.specs.Walk.{texts}
use Rattle.command_words.specs.Words.{without_dashes}
use Rattle.command_words.proofs.given.push_without_dashes.Given as goal

-- the words so far that aren't `-`
abbrev pub invariant-loop-word : goal.invariant-loop-word
invariant-loop-word l = texts l.given.items ≡ texts l.initial.given.items ++ without_dashes (map string_bytes (take l.word-index l.words))
