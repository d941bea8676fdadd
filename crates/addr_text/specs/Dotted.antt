-- IPv4 addresses as four decimal numbers with dots between them.
use Rattle.std.specs.Prelude.{◌≡◌, ℕ, ◌+◌, ◌*◌, ◌/◌, ◌%◌, ◌^◌, ◌<◌, ◌==◌, List, [], ◌∷◌, Option, Some, None, take, drop, suc, zero}
use Rattle.std.specs.Fmt.{decimal}
use Rattle.std.specs.List.{position}
use Rattle.std.specs.Option.{option_map}
use Rattle.addr_text.specs.Digits.{octet_of}
use Rattle.addr_text.specs.Find.{at_place}
use Rattle.addr_text.specs.Parts.{joined}

-- the text of a number below 2 ^ 32: its four octets, decimal, without leading zeros
abbrev pub dotted : ℕ → List ℕ
dotted n = joined 46 (decimal (n / 2 ^ 24) ∷ decimal (n / 2 ^ 16 % 256) ∷ decimal (n / 2 ^ 8 % 256) ∷ decimal (n % 256) ∷ [])

-- the text is that of the IPv4 address of this number
abbrev pub IsDotted : List ℕ → ℕ → Type 0
IsDotted text n = (n < 2 ^ 32) × (text ≡ dotted n)

-- an octet before a dot, and the number of what follows it
abbrev pub octet_before : ℕ → Option ℕ → Option ℕ → Option ℕ
octet_before weight None rest = None
octet_before weight (Some a) rest = option_map (λ n. a * weight + n) rest

-- what the reader gives for an octet and as many further ones as said
abbrev pub octets_of : ℕ → List ℕ → Option ℕ
octets_of zero t = octet_of t
octets_of (suc k) t = at_place (position (λ b. b == 46) t) None (λ i. octet_before (256 ^ suc k) (octet_of (take i t)) (octets_of k (drop (i + 1) t)))

-- what it gives for the whole text
abbrev pub dotted_of : List ℕ → Option ℕ
dotted_of t = octets_of 3 t
