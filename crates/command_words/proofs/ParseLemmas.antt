-- What clap's answer to the words says of the command.
use Rattle.std.proofs.Common.{◌≡◌, ◌∙◌, true, List, [], ◌∷◌, ap, ap₂, sym, subst, refl, inl, inr, None}
use Rattle.clap.specs.Words.{App, HasKind, HasMatchesOf, IsAmong, Kinds, Text, fault_of, is_simple, is_simple_and_free, kind_of, subcommand_of, subcommand_rows_of}
use Rattle.clap.specs.declared.error.Error.{Error}
use Rattle.clap.specs.declared.error.kind.ErrorKind.{ErrorKind}
use Rattle.clap.specs.declared.error.kind.ErrorKind.TheVariants.{OutOfMemory}
use Rattle.clap.specs.declared.parser.matches.ArgMatches.{ArgMatches}
use Rattle.command_words.specs.Program.{command_line}
use Rattle.command_words.specs.Words.{by_clap, for_clap, named, unless_fault}

line_is_simple : is_simple command_line ≡ true
line_is_simple = refl

line_is_free : is_simple_and_free command_line ≡ true
line_is_free = refl

-- words that clap takes
pub taken : (app : App) (given words : List Text) (m : ArgMatches) → app ≡ command_line → given ≡ for_clap words → HasMatchesOf app given m
    → (is_simple_and_free app ≡ true → fault_of app given ≡ []) → named (subcommand_rows_of m) ≡ by_clap words
taken app given words m line same matches passes =
    let none : fault_of command_line (for_clap words) ≡ [] = ap₂ fault_of (sym line) (sym same) ∙ passes (ap is_simple_and_free line ∙ line_is_free) in
    ap named ((matches (ap is_simple line ∙ line_is_simple)).1 ∙ ap₂ subcommand_of line same) ∙ ap (λ (kinds : Kinds). unless_fault kinds (for_clap words)) (sym none)

none_at_fault : (kinds : Kinds) (kind : ErrorKind) (words : List Text) → IsAmong kind kinds → None ≡ unless_fault kinds words
none_at_fault [] kind words among = absurd among
none_at_fault (k ∷ kinds) kind words among = refl

-- words that clap refuses
pub refused : (app : App) (given words : List Text) (e : Error) → app ≡ command_line → given ≡ for_clap words
    → (is_simple_and_free app ≡ true → HasKind (fault_of app given) e) → (kind_of e ≡ OutOfMemory → ⊥) → None ≡ by_clap words
refused app given words e line same fails no_memory = elim (fails (ap is_simple_and_free line ∙ line_is_free)) [
  | inl memory ↦ absurd (no_memory memory)
  | inr among ↦ none_at_fault _ (kind_of e) (for_clap words) (subst (IsAmong (kind_of e)) (ap₂ fault_of line same) among)
]
