use Rattle.std.proofs.Common.{◌≡◌, ◌∙◌, ◌++◌, List, IsPermutation, ap, subst}
use Rattle.net_model.specs.declared.link.Link.{Link}
use Rattle.link_planner.proofs.Joining.{sorted_links}
use Rattle.link_planner.proofs.draft.joined.Goals as goal

pub returns : goal.returns
returns c =
    let both : c.append.new.self.items ≡ c.args.links.now.items ++ c.args.more.now.items = c.in_ok-append.ensures.items ∙ ap (λ (ls : List Link). ls ++ c.args.more.now.items) c.in_ok-all.ensures in
    sorted_links (c.args.links.now.items ++ c.args.more.now.items) c.sort_links.new.links.items
    (subst (λ (ls : List Link). IsPermutation ls c.sort_links.new.links.items) both c.in_ok-sort_links.ensures.moved)
    c.in_ok-sort_links.ensures.sorted c.requires
