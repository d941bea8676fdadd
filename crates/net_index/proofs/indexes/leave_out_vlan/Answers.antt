use Rattle.std.proofs.Common.{◌≡◌, ◌∙◌, ℕ, List, false, Some, ap, sym, subst}
use Rattle.std.specs.Option.{option_map_or}
use Rattle.net_model.specs.Name.{same_bytes}
use Rattle.net_model.specs.Dependence.{has_base}
use Rattle.net_model.specs.declared.link.Link.{Link}
use Rattle.net_model.specs.Words.{is_among}
use Rattle.net_model.proofs.lemmas.Found.{one_name}
use Rattle.net_model.specs.Listed.{LeavesOut}
use Rattle.net_index.specs.InIndex.{listed}
use Rattle.net_model.proofs.lemmas.ListChanges.{none_left_out}
use Rattle.net_lists.proofs.lemmas.LinkLists.{listed_as}
use Rattle.net_index.proofs.indexes.leave_out_vlan.Goals as goal

pub leave_out_of_base-requires-clause-alone : goal.leave_out_of_base-requires-clause-alone
leave_out_of_base-requires-clause-alone c = λ k off.
    let name : List ℕ = c.args.name.now in
    let l : Link = c.index-links-i.result in
    let one : l.name ≡ name = one_name l.name name (ap (λ (m : Link). same_bytes m.name name) c.index-links-i.is ∙ c.in-At.ensures.named l) in
    ap (is_among (listed c.args.index.now k)) one
    ∙ c.requires.within k (listed_as (λ (l : Link). has_base l.kind k) c.args.links.now name c.requires.in_order ∙ ap (λ o. option_map_or (λ (l : Link). has_base l.kind k) o false) (c.in-At.ensures.found l ∙ ap Some (sym c.index-links-i.is)) ∙ off)

pub returns-in-At : goal.returns-in-At
returns-in-At c =
    let name : List ℕ = c.args.name.now in
    let l : Link = c.index-links-i.result in
    let one : l.name ≡ name = one_name l.name name (ap (λ (m : Link). same_bytes m.name name) c.index-links-i.is ∙ c.in-At.ensures.named l) in
    subst (λ (n : List ℕ). LeavesOut n (listed c.args.index.now) (listed c.leave_out_of_base.new.index)) one c.leave_out_of_base.ensures

pub returns-in-Gap : goal.returns-in-Gap
returns-in-Gap c = λ k.
    let name : List ℕ = c.args.name.now in
    sym (none_left_out name (listed c.args.index.now k) (c.requires.within k (listed_as (λ (l : Link). has_base l.kind k) c.args.links.now name c.requires.in_order ∙ ap (λ o. option_map_or (λ (l : Link). has_base l.kind k) o false) c.in-Gap.ensures.none)))
