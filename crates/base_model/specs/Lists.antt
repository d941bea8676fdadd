-- Lists that a document can hold.
use Rattle.std.specs.Prelude.{Bool, ◌^◌, nat_lt, List, length}

-- fewer than 2^31 items
abbrev pub is_short : {X : Type 0} → List X → Bool
is_short xs = nat_lt (length xs) (2 ^ 31)
