-- The single words that take no memory.
use Rattle.std.proofs.Common.{◌≡◌, inl, inr, List, [], ◌∷◌, refl, codes, Option, Some, None}
use Rattle.std.specs.Option.{option_or}
use Rattle.std.specs.Str.{bytes_eq}
use Rattle.std.proofs.lemmas.Bool.{cases_Bool}
use Rattle.top_model.specs.Orders.{Text}
use Rattle.command_words.specs.Words.{lone_word, lone, unescaped, command_of}
use Rattle.command_words.specs.declared.Command.{Command}
use Rattle.order_reading.specs.AsDefined.{TakesMemory}

abbrev TakesNone : Option Command → Type 0
TakesNone o = TakesMemory o → ⊥

word_takes_none : (word : Text) → TakesNone (lone_word word)
word_takes_none word = elim (cases_Bool (bytes_eq word (codes "commit"))) [
  | inl commit ↦ rw commit (λ takes. takes)
  | inr a ↦ elim (cases_Bool (bytes_eq word (codes "rollback"))) [
    | inl rollback ↦ rw (a, rollback) (λ takes. takes)
    | inr b ↦ elim (cases_Bool (bytes_eq word (codes "recover"))) [
      | inl recover ↦ rw (a, b, recover) (λ takes. takes)
      | inr d ↦ rw (a, b, d) (λ takes. takes)
    ]
  ]
]

lone_takes_none : (words : List Text) → TakesNone (lone words)
lone_takes_none [] takes = takes
lone_takes_none (word ∷ []) takes = word_takes_none word takes
lone_takes_none (word ∷ next ∷ words) takes = takes

other : (o more : Option Command) → TakesNone o → TakesMemory (option_or o more) → o ≡ None
other None more none takes = refl
other (Some command) more none takes = absurd (none takes)

-- words for which memory is taken are none of these
pub takes_more : (words : List Text) → TakesMemory (command_of words) → lone words ≡ None
unfolding command_of
takes_more words takes = other (lone words) (unescaped words) (lone_takes_none words) takes
