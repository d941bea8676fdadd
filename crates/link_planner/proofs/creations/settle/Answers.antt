use Rattle.std.proofs.Common.{◌≡◌, List, OnOk, sym, subst}
use Rattle.net_model.specs.declared.link.Link.{Link}
use Rattle.link_planner.specs.Drafts.{Holds, with_created}
use Rattle.link_planner.proofs.creations.settle.Goals as goal

pub put_in-requires : goal.put_in-requires
put_in-requires c = subst (λ (ls : List Link). Holds (with_created ls c.args.creations.now.calls.items c.args.draft.now)) (sym c.in_ok-links.ensures) c.requires

pub returns : goal.returns
returns c = subst (λ (ls : List Link). OnOk c.put_in.result (c.put_in.new.self ≡ with_created ls c.args.creations.now.calls.items c.args.draft.now)) c.in_ok-links.ensures c.put_in.ensures
