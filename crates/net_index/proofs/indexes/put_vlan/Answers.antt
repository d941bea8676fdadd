use Rattle.std.proofs.Common.{◌∙◌, ℕ, Bool, List, ap, sym}
use Rattle.std.specs.Prelude.{if◌then◌else◌}
use Rattle.indexmap.proofs.MapLemmas.{OnOk-map}
use Rattle.net_model.specs.Words.{put}
use Rattle.net_model.specs.Order.{name_cmp}
use Rattle.net_model.specs.Dependence.{has_base}
use Rattle.net_model.specs.declared.link.Kind.{Kind}
use Rattle.net_index.specs.InIndex.{listed}
use Rattle.net_lists.proofs.lemmas.LinkLists.{no_base}
use Rattle.net_index.proofs.indexes.put_vlan.Goals as goal

pub returns-in-Vlan-clause-ok : goal.returns-in-Vlan-clause-ok
returns-in-Vlan-clause-ok c =
    let old : List ℕ → List (List ℕ) = listed c.args.index.now in
    OnOk-map c.put_name.result _ _ (λ puts k. puts k ∙ ap (λ (v : Bool). if v then put name_cmp c.args.link.now.name (old k) else old k) (sym (ap (λ (kind : Kind). has_base kind k) c.in-Vlan.is))) c.put_name.ensures.ok

pub returns-in_default : goal.returns-in_default
returns-in_default c =
    let old : List ℕ → List (List ℕ) = listed c.args.index.now in
    record { ok = λ k. sym (ap (λ (v : Bool). if v then put name_cmp c.args.link.now.name (old k) else old k) (no_base c.args.link.now.kind c.in_default.not-Vlan k)); err = _ }
