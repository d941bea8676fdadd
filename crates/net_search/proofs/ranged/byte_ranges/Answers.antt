use Rattle.std.proofs.lemmas.List.Elements.{All-from_get_or}
use Rattle.net_search.specs.Ranges.{IsU8}
use Rattle.net_search.proofs.ranged.byte_ranges.Goals as goal

pub returns : goal.returns
returns c = All-from_get_or IsU8 c.args._bytes.now 0 (λ i lt. (c.type_inv._bytes i).fits)
