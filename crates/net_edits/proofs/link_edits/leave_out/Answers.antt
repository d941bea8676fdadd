use Rattle.std.proofs.Common.{◌≡◌, List, not, filter, subst}
use Rattle.net_model.specs.Links.{is_named}
use Rattle.net_model.specs.declared.link.Link.{Link}
use Rattle.net_lists.proofs.lemmas.LinkLists.{not_there}
use Rattle.net_lists.proofs.lemmas.RouteLists.{none_removed}
use Rattle.net_edits.proofs.link_edits.leave_out.Goals as goal

pub returns-in-Gap : goal.returns-in-Gap
returns-in-Gap c =
    subst (λ (ls : List Link). ls ≡ filter (λ l. not (is_named c.args.name.now l)) ls) c.deref.ensures.value
    (none_removed (is_named c.args.name.now) c.deref.result.now (not_there (is_named c.args.name.now) c.deref.result.now c.in-Gap.ensures.none))
