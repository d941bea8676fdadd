use Rattle.shown_merge.proofs.Itself.{keeps, keeps_members, keeps_links, breaks_none, merges_to_itself}
use Rattle.shown_merge.proofs.laws.shown_laws.Goals as goal

pub returns-clause-lists : goal.returns-clause-lists
returns-clause-lists c = keeps

pub returns-clause-members : goal.returns-clause-members
returns-clause-members c = keeps_members

pub returns-clause-links : goal.returns-clause-links
returns-clause-links c = keeps_links

pub returns-clause-link_rules : goal.returns-clause-link_rules
returns-clause-link_rules c = breaks_none

pub returns-clause-same : goal.returns-clause-same
returns-clause-same c = merges_to_itself
