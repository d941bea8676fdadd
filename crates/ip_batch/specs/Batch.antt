-- Texts of lines, the calls that they stand for, and the first line that stands for none.
use Rattle.std.specs.Prelude.{◌≡◌, ◌⊎◌, ℕ, ◌+◌, List, [], ◌∷◌, ◌++◌, flat_map, codes, Bool, true, not, ◌==◌, ◌&&◌, All, length, take}
use Rattle.net_model.specs.Name.{same_bytes}
use Rattle.net_model.specs.declared.call.Call.{Call}
use Rattle.ip_batch.specs.Spelling.{Text, spelling, Spells}

-- ---- what is written

-- the spelling of each call with its line's end
abbrev pub batch_text : List Call → Text
batch_text calls = flat_map (λ call. spelling call ++ codes "\n") calls

-- ---- what a text stands for

-- a comment that is a call's
abbrev pub is_own : Text → Bool
is_own line = same_bytes (take 3 line) (codes "#! ")

-- empty, or a comment that is none
abbrev pub is_skipped : Text → Bool
is_skipped [] = true
is_skipped (byte ∷ bytes) = (byte == 35) && not (is_own (byte ∷ bytes))

-- it is skipped, or spells a call
abbrev pub Stands : Text → Type 0
Stands line = (is_skipped line ≡ true) ⊎ ((call : Call) × Spells line call)

-- one call a line, but for those that are skipped
abbrev pub StandFor : List Text → List Call → Type 0
StandFor [] calls = calls ≡ []
StandFor (line ∷ lines) calls =
    ((is_skipped line ≡ true) × StandFor lines calls)
    ⊎ ((call : Call) × (rest : List Call) × (calls ≡ call ∷ rest) × Spells line call × StandFor lines rest)

-- the line of this number, from 1, is the first that neither is skipped nor spells a call
pub record IsFirstBad (lines : List Text) (n : ℕ) : Type 0 where
  pub before : List Text
  pub line : Text
  pub after : List Text
  pub is : lines ≡ before ++ line ∷ after
  pub number : n ≡ length before + 1
  pub good : All Stands before
  pub bad : Stands line → ⊥
