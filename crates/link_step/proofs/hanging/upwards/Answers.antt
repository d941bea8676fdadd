use Rattle.std.proofs.Common.{rules, ◌≡◌, ◌∙◌, ◌<◌, ◌≤◌, ◌+◌, ℕ, List, [], ◌∷◌, ◌++◌, length, get_or, sym, ap, subst}
use Rattle.reach.proofs.lemmas.Marks.{any_default}
use Rattle.net_model.specs.declared.link.Link.{Link}
use Rattle.link_step.specs.Hanging.{affected_over}
use Rattle.link_step.proofs.Upwards.{Climbing, climb_root, climb_on, climbed}
use Rattle.link_step.proofs.hanging.upwards.Goals as goal

pub loop-at-init : goal.loop-at-init
loop-at-init c =
    let first : c.push.new.self.items ≡ c.args.root.now ∷ [] = c.in_ok-push.ensures.items ∙ ap (λ (ns : List (List ℕ)). ns ++ c.args.root.now ∷ []) c.new-names.ensures.items in
    subst (Climbing c.args.which c.args.parts.now.links c.args.root.now 0) (sym {A = List (List ℕ)} first) (climb_root c.args.parts.now c.requires.net c.args.root.now c.args.which c.requires.there)

pub loop-at-preserved : goal.loop-at-preserved
loop-at-preserved c =
    let links : List Link = c.args.parts.now.links in
    let names : List (List ℕ) = c.loop-at.names.items in
    let lt : c.loop-at.at < length names = search rules in
    let base : c.index.result.now ≡ get_or names c.loop-at.at [] = c.index.ensures ∙ any_default names c.loop-at.at c.index.result.now [] lt in
    let on : c.append_over.new.names.items ≡ names ++ affected_over c.args.which links (get_or names c.loop-at.at []) = c.in_ok-append_over.ensures ∙ ap (λ (b : List ℕ). names ++ affected_over c.args.which links b) base in
    subst (Climbing c.args.which links c.args.root.now (c.loop-at.at + 1)) (sym {A = List (List ℕ)} on) (climb_on c.args.parts.now c.requires.net c.args.root.now c.args.which c.loop-at.at names c.loop-at.invariant lt)

pub returns : goal.returns
returns c =
    let all : length c.loop-at.names.items ≤ c.loop-at.at = search rules in
    climbed c.args.parts.now c.requires.net c.args.root.now c.args.which c.loop-at.at c.loop-at.names.items c.loop-at.invariant all
