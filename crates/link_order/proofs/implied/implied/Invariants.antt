use Rattle.std.proofs.Common.{◌≡◌, take}
use Rattle.std.specs.List.{filter_map}
use Rattle.merge_model.specs.Once.{once}
use Rattle.merge_model.specs.Members.{same_member, implied_by}
use Rattle.link_order.specs.Implied.{HasNames}
use Rattle.link_order.proofs.implied.implied.Given as goal

-- those of the links so far, of each name the first, and their names
abbrev pub invariant-loop-member : goal.invariant-loop-member
invariant-loop-member l = record {
  members : l.members.items ≡ once same_member (filter_map (implied_by l.net.links l.entries) (take l.member-index l.made));
  names : HasNames l.members.items l.names;
}
