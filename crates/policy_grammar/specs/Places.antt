-- The texts of places, apart from any reading.
use Rattle.std.specs.Prelude.{◌≡◌, ◌++◌, codes}
use Rattle.policy_model.specs.Keys.{Text}
use Rattle.policy_model.specs.Grammar.{IsSpaced, SpellsReference}
use Rattle.policy_model.specs.declared.expression.Reference.{Reference}

-- the text is a place: braces, and what stands between them
abbrev pub IsPlace : Text → Text → Type 0
IsPlace text inner = text ≡ codes "{{" ++ inner ++ codes "}}"

-- what stands there is one reference, with spaces around it or none
abbrev pub SpellsPlace : Text → Reference → Type 0
SpellsPlace inner r = (written : Text) × IsSpaced inner written × SpellsReference written r
