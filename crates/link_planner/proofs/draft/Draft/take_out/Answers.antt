use Rattle.std.proofs.Common.{sym, subst}
use Rattle.net_model.specs.NetData.{IsNet}
use Rattle.net_model.specs.Words.{is_among}
use Rattle.net_model.specs.Edits.{without}
use Rattle.link_planner.specs.Drafts.{DraftData, Holds, draft_of, with_deleted}
use Rattle.link_planner.proofs.draft.Draft.take_out.Goals as goal

pub remove_links-requires-clause-left : goal.remove_links-requires-clause-left
remove_links-requires-clause-left c = subst (λ (v : DraftData). IsNet (without (is_among c.args.goes.now) v.net)) (sym c.self.view_is) c.requires.holds.net

pub invariant_of-self-2 : goal.invariant_of-self-2
invariant_of-self-2 c =
    let d : DraftData = draft_of c.self.inside.start.now c.self.inside.target.now c.self.inside.net c.self.inside.calls.items in
    let holds : Holds (with_deleted c.args.goes.now c.args.calls.now.items d) = subst (λ (v : DraftData). Holds (with_deleted c.args.goes.now c.args.calls.now.items v)) (sym c.self.view_is) c.requires.holds in
    rw (c.in_ok-append.ensures.items, c.remove_links.ensures) holds.draft
