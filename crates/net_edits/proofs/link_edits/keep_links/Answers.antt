use Rattle.std.proofs.Common.{◌∙◌, rules}
use Rattle.std.proofs.lemmas.Fn.{filter_same}
use Rattle.net_lists.proofs.lemmas.Going.{one_goes}
use Rattle.net_edits.proofs.link_edits.keep_links.Goals as goal

pub returns-in-len1 : goal.returns-in-len1
returns-in-len1 c = c.leave_out.ensures ∙ one_goes c.args.goes.now c.name-item.result c.name-item.result c.in-len1.len_at_least c.in-len1.len_below c.name-item.is c.args.links.now.items

pub returns-in_default : goal.returns-in_default
returns-in_default c = filter_same _ _ _ (λ x b f' k. search rules) _ _ c.retain.ensures.filtered
