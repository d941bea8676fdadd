use Rattle.std.proofs.Common.{sym, subst}
use Rattle.net_model.specs.NetData.{IsNet}
use Rattle.link_planner.specs.Drafts.{DraftData, with_links}
use Rattle.link_planner.proofs.draft.Draft.put_in.Goals as goal

pub put_links-requires : goal.put_links-requires
put_links-requires c = subst (λ (v : DraftData). IsNet (with_links c.args.links.now.items v.net)) (sym c.self.view_is) c.requires.net
