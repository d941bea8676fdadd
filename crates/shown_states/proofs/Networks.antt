-- The first network and the merged ones are printable.
use Rattle.std.proofs.Common.{◌≡◌, Bool, true, ◌&&◌, List, [], map, Option, Some, None, is_none, is_some, refl, sym, ap, subst, ◌∙◌}
use Rattle.std.specs.Prelude.{Result, Ok, IfOk}
use Rattle.std.specs.List.{list_all}
use Rattle.std.proofs.lemmas.List.Sums.{list_all-from_AllPass}
use Rattle.net_model.specs.Words.{sorted}
use Rattle.net_model.specs.Order.{link_cmp}
use Rattle.net_model.specs.Hardware.{device_of}
use Rattle.net_model.specs.NetData.{NetData, net_of, no_dns, arranged, ordered}
use Rattle.net_model.specs.Valid.{least_broken}
use Rattle.net_model.specs.declared.Link.{Link}
use Rattle.net_model.proofs.lemmas.Arranged.{ordered_net}
use Rattle.net_model.proofs.lemmas.Orders.{link_cmp_total}
use Rattle.net_model.proofs.lemmas.Permute.{list_all-IsPermutation}
use Rattle.net_model.proofs.lemmas.Sorting.{sorted_moves}
use Rattle.net_model.proofs.lemmas.Truth.{and_left}
use Rattle.document_model.specs.Entries.{is_station, is_link_entry, is_route_entry, is_rule_entry, is_document}
use Rattle.document_model.specs.declared.Doc.{Doc}
use Rattle.document_model.specs.declared.Refused.{Refused}
use Rattle.merge_model.specs.Members.{Member}
use Rattle.merge_model.specs.Lifted.{members}
use Rattle.merge_model.specs.Merge.{merged, least_refusal}
use Rattle.merge_laws.specs.Laws.{IsMergeable, target}
use Rattle.merge_model.specs.MergedNet.{merge, unless_refused}
use Rattle.link_schema.specs.Hardware.{built_in}
use Rattle.scenario_model.specs.Asking.{first_net}
use Rattle.shown_model.specs.Printable.{IsPrintable}
use Rattle.shown_states.specs.States.{HasStations, IsHardwareList, StaysPrintable}
use Rattle.shown_states.proofs.Tests.{is_clear, has_station, is_shown, all_weaker, all_mapped, three, three_hold, stations_pass, pass_stations, printable_pass, pass_printable}
use Rattle.shown_states.proofs.Members.{is_known, members_known}
use Rattle.shown_states.proofs.Links.{sorted_clear, links_shown, links_devices}

-- ---- lists in order

-- what is known of all links, each put in order, is known of the links of the ordered network
in_order_all : (p : Link → Bool) → ((l : Link) → p l ≡ true → p (arranged l) ≡ true) → (net : NetData) → list_all p net.links ≡ true → list_all p (ordered net).links ≡ true
in_order_all p same net h =
    sym (list_all-IsPermutation p (map arranged net.links) (sorted link_cmp (map arranged net.links)) (sorted_moves link_cmp link_cmp_total (map arranged net.links)))
    ∙ all_mapped arranged p p same net.links h

arranged_shown : (l : Link) → is_shown l ≡ true → is_shown (arranged l) ≡ true
arranged_shown l h =
    let t = three (is_station l.mac) (list_all is_clear l.addrs) (has_station l.kind) h in
    three_hold (is_station l.mac) (list_all is_clear (arranged l).addrs) (has_station l.kind) t.0 (sorted_clear l.addrs t.1) t.2

-- ---- the merged network

entries_fit : (doc : Doc) → is_document doc ≡ true → list_all is_link_entry doc.links ≡ true
entries_fit doc fits =
    and_left (list_all is_link_entry doc.links) (list_all is_route_entry doc.routes)
    (and_left (list_all is_link_entry doc.links && list_all is_route_entry doc.routes) (list_all is_rule_entry doc.rules) fits)

shown_kind : (l : Link) → is_shown l ≡ true → has_station l.kind ≡ true
shown_kind l h = (three (is_station l.mac) (list_all is_clear l.addrs) (has_station l.kind) h).2

module _ (net : NetData) (doc : Doc) (fits : is_document doc ≡ true) where
  target_shown : list_all is_shown net.links ≡ true → list_all is_shown (target net doc).links ≡ true
  target_shown h =
      in_order_all is_shown arranged_shown (merged net doc)
      (links_shown (members net.links doc.links) (members_known is_shown shown_kind net.links doc.links h (entries_fit doc fits)))

  target_devices : list_all (λ (l : Link). has_station l.kind) net.links ≡ true → list_all (λ (l : Link). has_station l.kind) (target net doc).links ≡ true
  target_devices h =
      in_order_all (λ (l : Link). has_station l.kind) (λ l k. k) (merged net doc)
      (links_devices (members net.links doc.links)
      (all_weaker (is_known (λ (l : Link). has_station l.kind) (λ l k. k)) (λ (m : Member). has_station m.kind) (λ m k. (three (has_station m.kind) _ _ k).0) (members net.links doc.links)
      (members_known (λ (l : Link). has_station l.kind) (λ l k. k) net.links doc.links h (entries_fit doc fits))))

  pub target_stations : HasStations net → HasStations (target net doc)
  target_stations h = pass_stations (target net doc) (target_devices (stations_pass net h))

  pub target_printable : IsPrintable net → HasStations net → IsPrintable (target net doc)
  target_printable p h = pass_printable (target net doc) (target_shown (printable_pass net p h))

-- the merged lists are valid where no rule is broken
abbrev pub MergesValid : Type 0
MergesValid = (net : NetData) (doc : Doc) → IsMergeable net doc → least_broken (merged net doc) ≡ None

module _ (law : MergesValid) where
  target_stays : (net : NetData) (doc : Doc) → StaysPrintable net → is_document doc ≡ true → least_refusal net doc ≡ None → StaysPrintable (target net doc)
  target_stays net doc s fits none = record {
    valid = ordered_net (merged net doc) (law net doc (record { running = s.valid; fits = fits; rules = none }));
    printable = target_printable net doc fits s.printable s.stations;
    stations = target_stations net doc fits s.stations;
  }

  pub merge_stays : (net : NetData) (doc : Doc) → StaysPrintable net → is_document doc ≡ true → IfOk (merge net doc) StaysPrintable
  unfolding merge
  merge_stays net doc s fits = by (least_refusal net doc) refl
    where
      by : (o : Option Refused) → least_refusal net doc ≡ o → IfOk (unless_refused (ordered (merged net doc)) (least_refusal net doc)) StaysPrintable
      by None e = subst (λ o. IfOk (unless_refused (ordered (merged net doc)) o) StaysPrintable) (sym e) (target_stays net doc s fits e)
      by (Some refused) e = subst (λ o. IfOk (unless_refused (ordered (merged net doc)) o) StaysPrintable) (sym e) tt

  pub merged_stays : (net to : NetData) (doc : Doc) → StaysPrintable net → is_document doc ≡ true → merge net doc ≡ Ok to → StaysPrintable to
  merged_stays net to doc s fits e = subst (λ (r : Result NetData Refused). IfOk r StaysPrintable) e (merge_stays net doc s fits)

-- ---- the first network

nothing_broken : {X : Type 0} (o : Option X) → is_none o ≡ true → o ≡ None
nothing_broken None h = refl
nothing_broken (Some x) h = cc

-- a link that is built in with a station's MAC
built_shown : (l : Link) → l ≡ built_in l.name l.mac → is_station l.mac ≡ true → is_shown l ≡ true
built_shown l b h = ap is_shown b ∙ three_hold (is_station l.mac) true (is_station l.mac) h refl h

all_built : (links : List Link) → IsHardwareList links → list_all is_shown links ≡ true
all_built links h =
    list_all-from_AllPass is_shown links (λ k d lt. built_shown _ (h.built k d lt) (h.stations k d lt))

pub first_stays : (links : List Link) → IsHardwareList links → StaysPrintable (first_net links)
first_stays links h =
    let none : least_broken (net_of links [] [] no_dns) ≡ None = nothing_broken (least_broken (net_of links [] [] no_dns)) (and_left (is_none (least_broken (net_of links [] [] no_dns))) (list_all (λ (l : Link). is_some (device_of l.name l.kind)) links) h.valid) in
    let shown : list_all is_shown (first_net links).links ≡ true = in_order_all is_shown arranged_shown (net_of links [] [] no_dns) (all_built links h) in
    record {
      valid = ordered_net (net_of links [] [] no_dns) none;
      printable = pass_printable (first_net links) shown;
      stations = pass_stations (first_net links) (all_weaker is_shown (λ (l : Link). has_station l.kind) shown_kind (first_net links).links shown);
    }
