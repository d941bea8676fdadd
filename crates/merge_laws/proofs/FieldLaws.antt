-- The fields of the merged links are by their rules from those of their bases.
use Rattle.std.proofs.Common.{◌≡◌, List, Option, Some, None, refl, sym, ap, ◌∙◌}
use Rattle.std.specs.Option.{option_map}
use Rattle.std.proofs.lemmas.List.{length-map}
use Rattle.net_model.specs.Lists.{NetData}
use Rattle.net_model.specs.Dependence.{ends}
use Rattle.net_model.specs.Valid.{HasAllParts, each_base_stands, vlans_differ}
use Rattle.net_model.specs.declared.Link.{Link}
use Rattle.net_model.proofs.lemmas.AllParts.{all_parts}
use Rattle.net_model.proofs.lemmas.Truth.{and_left}
use Rattle.document_model.specs.declared.Doc.{Doc}
use Rattle.merge_model.specs.Members.{Member, find_member}
use Rattle.merge_model.specs.Lifted.{members}
use Rattle.merge_model.specs.Merged.{merged_link, merged_links, up_over, mtu_over, mac_over}
use Rattle.merge_model.specs.Merge.{merged}
use Rattle.merge_laws.specs.Laws.{IsMergeable, HaveFieldsByRule}
use Rattle.merge_laws.proofs.Lookups.{link_mapped}
use Rattle.merge_laws.proofs.Chains.{SameKinds, unrolled, chain_ends}
use Rattle.merge_laws.proofs.Valid.{breaks_none, valid_parts}

kinds_of : (ms : List Member) (o : Option Member) → option_map (λ (l : Link). l.kind) (option_map (merged_link ms) o) ≡ option_map (λ (m : Member). m.kind) o
kinds_of ms None = refl
kinds_of ms (Some m) = refl

same_kinds : (ms : List Member) → SameKinds (merged_links ms) ms
same_kinds ms n = ap (option_map (λ (l : Link). l.kind)) (link_mapped (merged_link ms) (λ m. refl) n ms) ∙ kinds_of ms (find_member n ms)

pub fields_by_rule : (net : NetData) (doc : Doc) → IsMergeable net doc → HaveFieldsByRule (members net.links doc.links)
fields_by_rule net doc is m found =
    let ms : List Member = members net.links doc.links in
    let parts : HasAllParts (merged net doc) = valid_parts net doc (all_parts net is.running.valid) is.fits (breaks_none net doc is.rules) in
    let chain = chain_ends (merged_links ms) (and_left (each_base_stands (merged_links ms)) (vlans_differ (merged_links ms)) parts.bases) parts.cycles m.name (merged_link ms m) (link_mapped (merged_link ms) (λ q. refl) m.name ms ∙ ap (option_map (merged_link ms)) found) in
    let short = sym (ap (λ n. ends (merged_links ms) n m.kind) (length-map ms (merged_link ms))) ∙ chain in
    record {
      up = unrolled up_over ms (merged_links ms) (same_kinds ms) m short;
      mtu = unrolled mtu_over ms (merged_links ms) (same_kinds ms) m short;
      mac = unrolled mac_over ms (merged_links ms) (same_kinds ms) m short;
    }
