-- The names of the links before their fields.
use Rattle.std.proofs.Common.{◌≡◌, Bool, true, List, map, refl, sym, ap, ◌∙◌}
use Rattle.std.proofs.lemmas.Cmp.{nat_list_eq_equiv}
use Rattle.net_model.specs.Name.{same_bytes}
use Rattle.net_model.specs.Words.{apart}
use Rattle.net_model.specs.Links.{same_name}
use Rattle.net_model.specs.Valid.{names_differ}
use Rattle.net_model.specs.declared.Link.{Link}
use Rattle.net_model.proofs.lemmas.ValidMoved.{apart_map}
use Rattle.document_model.specs.declared.LinkEntry.{LinkEntry}
use Rattle.merge_model.specs.Members.{Member, members_by_rank}
use Rattle.merge_model.specs.Controllers.{with_controllers}
use Rattle.merge_model.specs.Lifted.{raised, with_lifted}
use Rattle.merge_model.specs.Merged.{merged_link, merged_links}
use Rattle.merge_model.specs.Merge.{links_of}

abbrev same : Member → Member → Bool
same a b = same_bytes a.name b.name

fields_keep : (ms : List Member) → apart same_bytes (map (λ (m : Member). m.name) ms) ≡ names_differ (merged_links (with_lifted ms))
fields_keep ms =
    apart_map (λ (m : Member). m.name) same same_bytes (λ x y. refl) ms
    ∙ sym (apart_map (raised ms) same same (λ x y. refl) ms)
    ∙ sym (apart_map (merged_link (with_lifted ms)) same same_name (λ x y. nat_list_eq_equiv.symm y.name x.name) (with_lifted ms))

-- where the merged links' names differ, theirs do
pub names_apart : (links : List Link) (entries : List LinkEntry) (list : List Member) → list ≡ with_controllers (members_by_rank links entries) → names_differ (links_of links entries) ≡ true → apart same_bytes (map (λ (m : Member). m.name) list) ≡ true
names_apart links entries list e differ = ap (λ (ms : List Member). apart same_bytes (map (λ (m : Member). m.name) ms)) e ∙ fields_keep (with_controllers (members_by_rank links entries)) ∙ differ
