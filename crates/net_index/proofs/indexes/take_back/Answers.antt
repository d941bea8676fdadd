use Rattle.std.proofs.Common.{◌∙◌, Bool, not, ◌&&◌, sym, ap}
use Rattle.std.specs.BTreeSet.{contains}
use Rattle.net_model.specs.Twins.{vlan_cmp, has_key}
use Rattle.net_model.proofs.lemmas.VlanKeys.{and_true}
use Rattle.net_index.proofs.indexes.take_back.Goals as goal

pub returns-then-first : goal.returns-then-first
returns-then-first c = λ q.
    c.leave_out_seen.ensures q ∙ sym (ap (λ (b : Bool). contains vlan_cmp c.args.seen.now q && not (b && has_key q c.args.link.now.kind)) c.if-first.true)

pub returns-else-first : goal.returns-else-first
returns-else-first c = λ q.
    sym (ap (λ (b : Bool). contains vlan_cmp c.args.seen.now q && not (b && has_key q c.args.link.now.kind)) c.if-first.false ∙ and_true (contains vlan_cmp c.args.seen.now q))
