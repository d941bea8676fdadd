use Rattle.std.proofs.Common.{◌≡◌, ◌++◌, map, take, string_bytes}
use Rattle.clap.specs.Walk.{texts}
use Rattle.command_words.proofs.given.push_all.Given as goal

-- the words so far
abbrev pub invariant-loop-word : goal.invariant-loop-word
invariant-loop-word l = texts l.given.items ≡ texts l.initial.given.items ++ map string_bytes (take l.word-index l.words)
