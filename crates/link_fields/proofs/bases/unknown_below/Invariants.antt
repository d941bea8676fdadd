use Rattle.std.proofs.Common.{◌<◌, length}
use Rattle.link_fields.specs.Bases.{AreInside}
use Rattle.link_fields.proofs.bases.unknown_below.Given as goal

-- the places so far, and the next one
abbrev pub invariant-loop : goal.invariant-loop
invariant-loop l = (l.at < length l.members) × AreInside l.members l.places.items
