use Rattle.std.proofs.Common.{sym, subst}
use Rattle.link_planner.specs.Drafts.{DraftData, IsSafe, draft_of}
use Rattle.link_planner.proofs.Drafting.{drafted}
use Rattle.link_planner.proofs.draft.Draft.add.Goals as goal

pub make_call-requires : goal.make_call-requires
make_call-requires g c =
    let d : DraftData = draft_of c.self.inside.start.now c.self.inside.target.now c.self.inside.net c.self.inside.calls.items in
    let safe : IsSafe d.start d.target c.args.call d.net = subst (λ (v : DraftData). IsSafe v.start v.target c.args.call v.net) (sym c.self.view_is) c.requires in
    safe.accepted

pub invariant_of-self-2 : goal.invariant_of-self-2
invariant_of-self-2 g c =
    let d : DraftData = draft_of c.self.inside.start.now c.self.inside.target.now c.self.inside.net c.self.inside.calls.items in
    let safe : IsSafe d.start d.target c.args.call d.net = subst (λ (v : DraftData). IsSafe v.start v.target c.args.call v.net) (sym c.self.view_is) c.requires in
    rw (c.in_ok-push.ensures.items, c.reserve.ensures.items) (drafted c.plan_laws.ensures.more c.args.call d c.make_call.new.net c.laws.ensures.net c.self.invariant safe c.in_ok-make_call.ensures.made)
