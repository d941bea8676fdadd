use Rattle.std.proofs.Common.{ℕ, List, refl, subst}
use Rattle.doc_tree.specs.Shape.{text}
use Rattle.show_core.specs.Pairs.{IsTree}
use Rattle.show_core.proofs.links.bond_options.Goals as goal

pub returns : goal.returns
returns c =
    let rate = subst (λ (w : List ℕ). IsTree (text w) c.word_tree.result) c.rate_word.ensures c.word_tree.ensures in
    let primary = c.put_some_name.ensures _ c.new.ensures in
    let lacp_rate = c.put_if.ensures _ _ _ primary c.is_802_3ad.ensures rate in
    let hash_policy = c.put_word.ensures _ _ lacp_rate c.policy_word.ensures in
    let miimon = c.put_number.ensures _ _ hash_policy refl in
    let updelay = c.put_number-2.ensures _ _ miimon refl in
    let downdelay = c.put_number-3.ensures _ _ updelay refl in
    c.into_tree.ensures _ downdelay
