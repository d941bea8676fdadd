-- Counts that rose.
use Rattle.std.proofs.Common.{◌≤◌, ℕ, arith}
use Rattle.host_core.specs.Faults.{Rose, RoseTwice}

-- what rose later rose on the whole
pub rose_after : (a b c : ℕ) → a ≤ b → Rose b c → Rose a c
rose_after a b c le rose = omega (arith, le, rose)

-- what rose earlier rose on the whole
pub rose_before : (a b c : ℕ) → Rose a b → b ≤ c → Rose a c
rose_before a b c rose le = omega (arith, rose, le)

-- what rose in a part rose in the whole
pub rose_in : (a b c d : ℕ) → a ≤ b → c ≤ d → Rose b c → Rose a d
rose_in a b c d le more rose = omega (arith, le, more, rose)

-- what rose in both parts rose in the whole
pub rose_both : (a b c : ℕ) → Rose a b → Rose b c → Rose a c
rose_both a b c one two = omega (arith, one, two)

-- and rose twice
pub rose_twice : (a b c : ℕ) → Rose a b → Rose b c → RoseTwice a c
rose_twice a b c one two = omega (arith, one, two)

-- what rose twice rose
pub rose_once : (a b : ℕ) → RoseTwice a b → Rose a b
rose_once a b twice = omega (arith, twice)

-- what rose twice later rose twice on the whole
pub twice_after : (a b c : ℕ) → a ≤ b → RoseTwice b c → RoseTwice a c
twice_after a b c le twice = omega (arith, le, twice)
