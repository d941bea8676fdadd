-- The merged links in order, and what is found in them.
use Rattle.std.proofs.Common.{◌≡◌, ◌++◌, ℕ, Bool, true, false, if◌then◌else◌, List, [], map, refl, ap, ◌∙◌}
use Rattle.std.specs.Option.{option_map}
use Rattle.net_model.specs.Address.{Block}
use Rattle.net_model.specs.Words.{sorted}
use Rattle.net_model.specs.Order.{block_cmp, link_cmp}
use Rattle.net_model.specs.OrderLaws.{block_cmp_total}
use Rattle.net_model.specs.Links.{find_link}
use Rattle.net_model.specs.Lists.{NetData}
use Rattle.net_model.specs.NetData.{arranged, ordered}
use Rattle.net_model.specs.Valid.{names_differ}
use Rattle.net_model.specs.declared.Link.{Link}
use Rattle.net_model.proofs.lemmas.Exact.{exact_blocks}
use Rattle.document_model.specs.declared.Doc.{Doc}
use Rattle.document_model.specs.declared.LinkEntry.{LinkEntry}
use Rattle.merge_model.specs.Stated.{is_absent}
use Rattle.merge_model.specs.Members.{Member, find_member, members_by_rank}
use Rattle.merge_model.specs.Controllers.{with_controllers, with_controller}
use Rattle.merge_model.specs.Lifted.{members, raised}
use Rattle.merge_model.specs.Addresses.{v4_of, v6_of, addrs_of}
use Rattle.merge_model.specs.Merged.{merged_link, is_up}
use Rattle.merge_model.specs.Merge.{links_of, merged}
use Rattle.merge_laws.proofs.Each.{map_map, map_each, each_of}
use Rattle.merge_laws.proofs.SortedLists.{found_sorted, sorted_twice}
use Rattle.merge_laws.proofs.Lookups.{link_mapped}

-- a member with its controller and with whether it is lifted
abbrev pub whole : List Link → List LinkEntry → Member → Member
whole links es s = raised (with_controllers (members_by_rank links es)) (with_controller (members_by_rank links es) s)

-- and its merged link
abbrev pub member_link : List Link → List LinkEntry → Member → Link
member_link links es s = merged_link (members links es) (whole links es s)

pub members_from_ranked : (links : List Link) (es : List LinkEntry) → members links es ≡ map (whole links es) (members_by_rank links es)
members_from_ranked links es = map_map (raised (with_controllers (members_by_rank links es))) (with_controller (members_by_rank links es)) (members_by_rank links es)

pub links_from_ranked : (links : List Link) (es : List LinkEntry) → links_of links es ≡ map (member_link links es) (members_by_rank links es)
links_from_ranked links es = ap (map (merged_link (members links es))) (members_from_ranked links es) ∙ map_map (merged_link (members links es)) (whole links es) (members_by_rank links es)

addrs_twice : (ms : List Member) (m : Member) (up : Bool) → sorted block_cmp (addrs_of ms m up) ≡ addrs_of ms m up
addrs_twice ms m up = by (is_absent m.wish) (v4_of ms m ++ (if up then v6_of ms m else []))
  where
    by : (b : Bool) (xs : List Block) → sorted block_cmp (if b then [] else sorted block_cmp xs) ≡ (if b then [] else sorted block_cmp xs)
    by true xs = refl
    by false xs = sorted_twice block_cmp block_cmp_total exact_blocks xs

-- the addresses of a merged link are in order
pub arranged_already : (ms : List Member) (m : Member) → arranged (merged_link ms m) ≡ merged_link ms m
arranged_already ms m = ap (λ (bs : List Block). record (merged_link ms m) { addrs = bs }) (addrs_twice ms m (is_up ms m))

all_already : (ms xs : List Member) → map arranged (map (merged_link ms) xs) ≡ map (merged_link ms) xs
all_already ms xs = map_map arranged (merged_link ms) xs ∙ map_each (λ m. arranged (merged_link ms m)) (merged_link ms) xs (each_of (λ m. arranged (merged_link ms m) ≡ merged_link ms m) (arranged_already ms) xs)

-- the links of the merged network
pub ordered_links : (net : NetData) (doc : Doc) → (ordered (merged net doc)).links ≡ sorted link_cmp (links_of net.links doc.links)
ordered_links net doc = ap (sorted link_cmp) (all_already (members net.links doc.links) (members net.links doc.links))

pub found_in_merged : (links : List Link) (es : List LinkEntry) → names_differ (links_of links es) ≡ true → (n : List ℕ) → find_link n (sorted link_cmp (links_of links es)) ≡ option_map (member_link links es) (find_member n (members_by_rank links es))
found_in_merged links es differ n =
    found_sorted n (links_of links es) differ ∙ ap (find_link n) (links_from_ranked links es) ∙ link_mapped (member_link links es) (λ m. refl) n (members_by_rank links es)
