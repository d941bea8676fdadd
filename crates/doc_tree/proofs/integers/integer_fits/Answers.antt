use Rattle.std.proofs.Common.{◌≡◌, ◌^◌, true, ℤ, pos, negsuc, SFits}
use Rattle.std.specs.Int.{w128}
use Rattle.std.proofs.lemmas.Bool.{lt-ltb}
use Rattle.doc_tree.specs.Integers.{has_128_bits}
use Rattle.doc_tree.proofs.integers.integer_fits.Goals as goal

within : (z : ℤ) → SFits w128 z → has_128_bits z ≡ true
within (pos n) fits = lt-ltb n (2 ^ 127) fits.sfits
within (negsuc n) fits = lt-ltb n (2 ^ 127) fits.sfits

pub returns : goal.returns
returns c = within c.args._n c.ranges._n
