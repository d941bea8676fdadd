-- Each link has one member, of its kind and in its place.
use Rattle.std.proofs.Common.{◌≡◌, ◌++◌, ℕ, Bool, true, false, not, ◌&&◌, cond, if◌then◌else◌, List, [], ◌∷◌, map, filter, Option, Some, None, is_some, is_none, refl, sym, ap, ◌∙◌, append-nil}
use Rattle.std.specs.List.{list_all, filter_map, cons_option}
use Rattle.std.specs.Option.{option_map, option_map_or, option_and_then}
use Rattle.net_model.specs.Name.{same_bytes}
use Rattle.net_model.specs.Words.{rises}
use Rattle.net_model.specs.Order.{link_cmp}
use Rattle.net_model.specs.Links.{find_link, peer_of, has_peer, peer_passes}
use Rattle.net_model.specs.Valid.{names_differ, peers_stand}
use Rattle.net_model.specs.declared.Link.{Link}
use Rattle.net_model.specs.declared.Kind.{Kind}
use Rattle.net_model.specs.declared.Kind.TheVariants.{Ethernet, Bond, Bridge, Vlan, Vrf, Dummy, Veth}
use Rattle.net_model.proofs.lemmas.Truth.{and_left, and_right}
use Rattle.net_model.proofs.lemmas.Found.{named_passes_found}
use Rattle.document_model.specs.declared.LinkEntry.{LinkEntry}
use Rattle.document_model.specs.declared.Claim.TheVariants.{To}
use Rattle.document_model.specs.declared.Wish.TheVariants.{Up, Down}
use Rattle.merge_model.specs.Stated.{find_entry, is_absent}
use Rattle.merge_model.specs.Kinds.{merged_kind}
use Rattle.merge_model.specs.Once.{once}
use Rattle.merge_model.specs.Members.{Member, member, same_member, retired, entered, entered_over, stated_wish, is_gone, stays, left_alone, is_unheard, other_end, implied_by, implied, members_by_rank}
use Rattle.shown_model.specs.Shown.{kind_word, bond_part, bridge_part, vlan_part, vrf_part, veth_part, shown_ip, shown_link}
use Rattle.shown_merge.proofs.Each.{Each, each_weaker, none_left, IsFound, each_found}

-- the entry of the link with its kind apart
abbrev pub entry_of : List Link → Link → Kind → LinkEntry
entry_of links l kind = record {
  name = l.name;
  word = Some (kind_word kind);
  wish = Some (if l.up then Up else Down);
  mac = Some l.mac;
  mtu = Some l.mtu;
  controller = option_map To l.controller;
  v4 = Some (shown_ip false l.addrs);
  v6 = Some (shown_ip true l.addrs);
  bond = bond_part links l kind;
  bridge = bridge_part links l kind;
  vlan = vlan_part kind;
  vrf = vrf_part links l kind;
  veth = veth_part kind;
}

-- nothing is stated absent
pub live : (up : Bool) → is_absent (Some (if up then Up else Down)) ≡ false
live true = refl
live false = refl

-- the stated kind is the link's
pub kind_stays : (links : List Link) (l : Link) (kind : Kind) → merged_kind (entry_of links l kind) (Some kind) ≡ Some kind
kind_stays links l (Ethernet permanent) = refl
kind_stays links l (Bond mode) = refl
kind_stays links l Bridge = refl
kind_stays links l (Vlan base id proto) = refl
kind_stays links l (Vrf table) = refl
kind_stays links l Dummy = refl
kind_stays links l (Veth peer) = refl

pub found_entry : (links : List Link) (name : List ℕ) (xs : List Link) → find_entry name (map (shown_link links) xs) ≡ option_map (shown_link links) (find_link name xs)
found_entry links name [] = refl
found_entry links name (l ∷ ls) = ap (cond (same_bytes l.name name) (Some (shown_link links l))) (found_entry links name ls) ∙ out (same_bytes l.name name)
  where
    out : (b : Bool) → cond b (Some (shown_link links l)) (option_map (shown_link links) (find_link name ls)) ≡ option_map (shown_link links) (cond b (Some l) (find_link name ls))
    out true = refl
    out false = refl

abbrev pub stated_member : List Link → Link → Member
stated_member links l = member l.name l.kind (Some l) (Some (shown_link links l)) (Some (if l.up then Up else Down))

enters : (links : List Link) (l : Link) → IsFound links l → entered_over links (shown_link links l) ≡ Some (stated_member links l)
enters links l found =
    ap (entered (shown_link links l)) found
    ∙ ap (λ b. if b then retired l.name (Some l) else option_map (λ kind. member l.name kind (Some l) (Some (shown_link links l)) (stated_wish (shown_link links l) (Some l))) (merged_kind (shown_link links l) (Some l.kind))) (live l.up)
    ∙ ap (option_map (λ kind. member l.name kind (Some l) (Some (shown_link links l)) (stated_wish (shown_link links l) (Some l)))) (kind_stays links l l.kind)

all_enter : (links xs : List Link) → Each (IsFound links) xs → filter_map (entered_over links) (map (shown_link links) xs) ≡ map (stated_member links) xs
all_enter links [] h = refl
all_enter links (l ∷ ls) h =
    ap (λ o. cons_option o (filter_map (entered_over links) (map (shown_link links) ls))) (enters links l h.0)
    ∙ ap (λ ms. stated_member links l ∷ ms) (all_enter links ls h.1)

-- none is left alone: each is mentioned
mentioned : (links : List Link) (l : Link) → IsFound links l → stays links (map (shown_link links) links) l ≡ false
mentioned links l found = ap (λ o. not (is_some o) && not (is_gone links (map (shown_link links) links) l)) (found_entry links l.name links ∙ ap (option_map (shown_link links)) found)

-- a veth's peer is there
abbrev HasPeer : List Link → Link → Type 0
HasPeer links l = peer_passes (λ p. has_peer p.kind l.name) links l.kind ≡ true

-- so it implies none
known_peer : (links : List Link) (name peer : List ℕ) (o : Option Link) → find_link peer links ≡ o → option_map_or (λ p. has_peer p.kind name) o false ≡ true → is_unheard links (map (shown_link links) links) peer ≡ false
known_peer links name peer None found h = absurd cc
known_peer links name peer (Some p) found h = ap (λ o. is_none o && is_none (find_entry peer (map (shown_link links) links))) found

implies_none : (links : List Link) (l : Link) → rises link_cmp links ≡ true → HasPeer links l → (kind : Kind) → l.kind ≡ kind → implied_by links (map (shown_link links) links) (stated_member links l) ≡ None
implies_none links l up h (Veth peer) e =
    ap (λ k. option_and_then (λ q. if is_unheard links (map (shown_link links) links) q then Some (other_end q l.name) else None) (peer_of k)) e
    ∙ ap (λ b. if b then Some (other_end peer l.name) else None)
    (known_peer links l.name peer (find_link peer links) refl (sym (named_passes_found (λ p. has_peer p.kind l.name) links peer up) ∙ ap (peer_passes (λ p. has_peer p.kind l.name) links) (sym e) ∙ h))
implies_none links l up h (Ethernet permanent) e = ap (λ k. option_and_then (λ q. if is_unheard links (map (shown_link links) links) q then Some (other_end q l.name) else None) (peer_of k)) e
implies_none links l up h (Bond mode) e = ap (λ k. option_and_then (λ q. if is_unheard links (map (shown_link links) links) q then Some (other_end q l.name) else None) (peer_of k)) e
implies_none links l up h Bridge e = ap (λ k. option_and_then (λ q. if is_unheard links (map (shown_link links) links) q then Some (other_end q l.name) else None) (peer_of k)) e
implies_none links l up h (Vlan base id proto) e = ap (λ k. option_and_then (λ q. if is_unheard links (map (shown_link links) links) q then Some (other_end q l.name) else None) (peer_of k)) e
implies_none links l up h (Vrf table) e = ap (λ k. option_and_then (λ q. if is_unheard links (map (shown_link links) links) q then Some (other_end q l.name) else None) (peer_of k)) e
implies_none links l up h Dummy e = ap (λ k. option_and_then (λ q. if is_unheard links (map (shown_link links) links) q then Some (other_end q l.name) else None) (peer_of k)) e

all_imply_none : (links xs : List Link) → rises link_cmp links ≡ true → Each (HasPeer links) xs → filter_map (implied_by links (map (shown_link links) links)) (map (stated_member links) xs) ≡ []
all_imply_none links [] up h = refl
all_imply_none links (l ∷ ls) up h =
    ap (λ o. cons_option o (filter_map (implied_by links (map (shown_link links) links)) (map (stated_member links) ls))) (implies_none links l up h.0 l.kind refl)
    ∙ all_imply_none links ls up h.1

-- no link is implied: both ends of a pair are printed
pub none_implied : (links : List Link) → rises link_cmp links ≡ true → names_differ links ≡ true → peers_stand links ≡ true → implied links (map (shown_link links) links) ≡ []
none_implied links up differ peers =
    ap (once same_member) (ap (filter_map (implied_by links (map (shown_link links) links))) (all_enter links links (each_found links differ))
    ∙ all_imply_none links links up (each_peer links peers))
  where
    each_peer : (xs : List Link) → list_all (λ l. not (has_peer l.kind l.name) && peer_passes (λ p. has_peer p.kind l.name) links l.kind) xs ≡ true → Each (HasPeer links) xs
    each_peer [] h = tt
    each_peer (l ∷ ls) h =
        (and_right (not (has_peer l.kind l.name)) (peer_passes (λ p. has_peer p.kind l.name) links l.kind) (and_left (not (has_peer l.kind l.name) && peer_passes (λ p. has_peer p.kind l.name) links l.kind) (list_all (λ x. not (has_peer x.kind x.name) && peer_passes (λ p. has_peer p.kind x.name) links x.kind) ls) h), each_peer ls (and_right (not (has_peer l.kind l.name) && peer_passes (λ p. has_peer p.kind l.name) links l.kind) (list_all (λ x. not (has_peer x.kind x.name) && peer_passes (λ p. has_peer p.kind x.name) links x.kind) ls) h))

pub ranked_stay : (links : List Link) → rises link_cmp links ≡ true → names_differ links ≡ true → peers_stand links ≡ true → members_by_rank links (map (shown_link links) links) ≡ map (stated_member links) links
ranked_stay links up differ peers =
    let found : Each (IsFound links) links = each_found links differ in
    ap (λ ms. ms ++ (implied links (map (shown_link links) links) ++ map left_alone (filter (stays links (map (shown_link links) links)) links))) (all_enter links links found)
    ∙ ap (λ ms. map (stated_member links) links ++ (ms ++ map left_alone (filter (stays links (map (shown_link links) links)) links))) (none_implied links up differ peers)
    ∙ ap (λ ls. map (stated_member links) links ++ map left_alone ls)
    (none_left (stays links (map (shown_link links) links)) links (each_weaker (IsFound links) (λ l. stays links (map (shown_link links) links) l ≡ false) (mentioned links) links found))
    ∙ append-nil (map (stated_member links) links)
