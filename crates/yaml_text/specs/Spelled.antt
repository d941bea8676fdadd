-- Printing character by character.
use Rattle.std.specs.Prelude.{ℕ, nat_lt, if◌then◌else◌, List, encode_utf8}

-- a character printed as this map of bytes says, which leaves the bytes of those beyond ASCII as they are
abbrev pub spelled : (ℕ → List ℕ) → ℕ → List ℕ
spelled f c = if nat_lt c 128 then f c else encode_utf8 c
