-- Creations that are noted: what the draft is with them, and what a call for one more link leads to.
use Rattle.std.proofs.Common.{◌≡◌, ℕ, true, false, ◌||◌, List, [], ◌∷◌, ◌++◌, Option, Some, None, refl, sym, ap, subst, ◌∙◌, append_assoc, append-nil}
use Rattle.std.specs.Prelude.{option_map}
use Rattle.std.specs.BTreeMap.{insert_entry}
use Rattle.net_model.specs.Name.{same_bytes}
use Rattle.net_model.specs.Words.{sorted}
use Rattle.net_model.specs.Order.{name_cmp, link_cmp}
use Rattle.net_model.specs.Links.{find_link}
use Rattle.net_model.specs.NetData.{NetData, IsNet}
use Rattle.net_model.specs.declared.mac.Mac.{Mac}
use Rattle.net_model.specs.declared.link.Link.{Link}
use Rattle.net_model.specs.declared.link.Kind.{Kind}
use Rattle.net_model.specs.declared.link.Kind.TheVariants.{Veth}
use Rattle.net_model.specs.declared.call.Call.{Call}
use Rattle.net_model.specs.declared.call.Call.TheVariants.{AddLink}
use Rattle.net_model.proofs.lemmas.Truth.{or_left_false, or_right_false}
use Rattle.net_model.proofs.lemmas.ListChanges.{turned}
use Rattle.kernel_model.specs.Words.{has_link}
use Rattle.kernel_model.specs.MadeLinks.{peer_taken, add_link_refusals, with_new, with_peer}
use Rattle.kernel_model.specs.Kernel.{after}
use Rattle.kernel_laws.proofs.lemmas.Accepting.{NoneHolds, accepted, none_holds, there_link}
use Rattle.plan_model.specs.Laws.{OneMore}
use Rattle.link_planner.specs.declared.creations.NewLink.{NewLink}
use Rattle.link_planner.specs.declared.creations.Creations.{Creations}
use Rattle.link_planner.specs.declared.phase.Phase.TheVariants.{CreateLinks}
use Rattle.link_planner.specs.Drafts.{DraftData, draft_of, with_call, with_links}
use Rattle.link_planner.specs.Phases.{IsNext}
use Rattle.link_planner.specs.Growing.{IsMade}
use Rattle.link_planner.specs.Creations.{first_of, made_links, noted, AreNone, peer_put, Notes, mtu_and_mac, ComesAs, MayServe, HasServed}
use Rattle.link_planner.proofs.Drafting.{held}
use Rattle.link_planner.proofs.Joining.{differ_from, joined_new, with_none}
use Rattle.link_planner.proofs.Making.{create_next}
use Rattle.link_planner.proofs.Phasing.{served}

-- ---- one creation more

not_there : (name : List ℕ) (links : List Link) → has_link name links ≡ false → find_link name links ≡ None
not_there name links h = of (find_link name links) refl
  where
    of : (o : Option Link) → find_link name links ≡ o → o ≡ None
    of None e = refl
    of (Some l) e = let wrong : true ≡ false = sym (there_link name links l e) ∙ h in absurd cc

module _ (old new : Creations) (d : DraftData) (name : List ℕ) (kind : Kind) (first : NewLink) (may : MayServe (noted old d) name) (comes : ComesAs (noted old d) name kind)
    (own : first ≡ first_of (noted old d).net.links name kind) (notes : Notes name first old new) where
  abbrev before : NetData
  before = with_links (made_links old.links.entries) d.net

  next : IsNext CreateLinks (noted old d) name (AddLink name kind)
  next = subst (λ k. IsNext CreateLinks (noted old d) name (AddLink name k)) comes.kind (create_next (noted old d) may.holds name comes.there comes.at comes.missing may.due.stands (may.due.base refl))

  unrefused : NoneHolds (add_link_refusals name kind before)
  unrefused = none_holds (add_link_refusals name kind before) (accepted (AddLink name kind) before (after (AddLink name kind) before) next.safe.accepted).0

  -- its peer isn't there either
  free : (peer : List ℕ) → kind ≡ Veth peer → (find_link peer before.links ≡ None) × (same_bytes name peer ≡ false)
  free peer e =
      let taken : (has_link peer before.links || same_bytes peer name) ≡ false = ap (λ k. peer_taken name k before.links) (sym e) ∙ or_right_false (has_link name before.links) (peer_taken name kind before.links) unrefused.0 in
      (not_there peer before.links (or_left_false (has_link peer before.links) (same_bytes peer name) taken), turned peer name (or_right_false (has_link peer before.links) (same_bytes peer name) taken))

  links_more : sorted link_cmp (d.net.links ++ made_links new.links.entries) ≡ with_peer name kind (with_new name kind before.links)
  links_more =
      ap (λ (es : List (List ℕ × NewLink)). sorted link_cmp (d.net.links ++ made_links es)) (notes.links ∙ ap (λ (f : NewLink). peer_put name f.kind (insert_entry name_cmp old.links.entries name f)) own)
      ∙ joined_new d.net.links old.links.entries name kind (differ_from (d.net.links ++ made_links old.links.entries) may.holds.net.in_order.links) comes.missing free

  calls_more : d.calls ++ new.calls.items ≡ (d.calls ++ old.calls.items) ++ AddLink name kind ∷ []
  calls_more =
      ap (λ (cs : List Call). d.calls ++ cs) (notes.calls ∙ ap (λ (f : NewLink). old.calls.items ++ AddLink name f.kind ∷ []) own) ∙ sym (append_assoc d.calls old.calls.items (AddLink name kind ∷ []))

  -- so the draft is as after the call
  noted_more : noted new d ≡ with_call (AddLink name kind) (noted old d)
  noted_more =
      ap (λ (ls : List Link). draft_of d.start d.target (record d.net { links = ls }) (d.calls ++ new.calls.items)) links_more
      ∙ ap (λ (cs : List Call). draft_of d.start d.target (record d.net { links = with_peer name kind (with_new name kind before.links) }) cs) calls_more

-- a link whose creation is noted has been served
pub note_served : OneMore → (old new : Creations) (d : DraftData) (name : List ℕ) (kind : Kind) (first : NewLink) → MayServe (noted old d) name → ComesAs (noted old d) name kind → first ≡ first_of (noted old d).net.links name kind → Notes name first old new
    → HasServed name (noted old d) (noted new d)
note_served one_more old new d name kind first may comes own notes =
    let next : IsNext CreateLinks (noted old d) name (AddLink name kind) = next old new d name kind first may comes own notes in
    subst (HasServed name (noted old d)) (sym (noted_more old new d name kind first may comes own notes))
    (record { served = served CreateLinks (noted old d) name (Some (AddLink name kind)) may.due next; holds = held one_more (noted old d) (AddLink name kind) may.holds next.safe })

-- a link that is there has been served without a call
pub there_served : (d : DraftData) (name : List ℕ) → MayServe d name → IsMade d.target d.net name → HasServed name d d
there_served d name may made = record { served = served CreateLinks d name None may.due made; holds = may.holds }

-- ---- links that are there, and links that come

module _ (d : DraftData) (n : List ℕ) where
  -- what target hasn't needn't be made
  pub none_made : find_link n d.target.links ≡ None → IsMade d.target d.net n
  none_made none = λ t at. absurd (let no : (let o : Option Link = None in o) ≡ Some t = sym none ∙ at in cc)

  -- what is there is made
  pub there_made : (p : ℕ × Mac) → option_map mtu_and_mac (find_link n d.net.links) ≡ Some p → IsMade d.target d.net n
  there_made p is = λ t at. of (find_link n d.net.links) is
    where
      of : (o : Option Link) → option_map mtu_and_mac o ≡ Some p → (l : Link) × (o ≡ Some l)
      of None h = absurd cc
      of (Some l) h = (l, refl)

  -- and what isn't there comes
  pub comes_as : (there : Link) → find_link n d.target.links ≡ Some there → option_map mtu_and_mac (find_link n d.net.links) ≡ None → ComesAs d n there.kind
  comes_as there at is = record { there = there; at = at; kind = refl; missing = of (find_link n d.net.links) is }
    where
      of : (o : Option Link) → option_map mtu_and_mac o ≡ None → o ≡ None
      of None h = refl
      of (Some l) h = absurd cc

-- ---- where none is noted

pub noted_none : (creations : Creations) (d : DraftData) → IsNet d.net → AreNone creations → noted creations d ≡ d
noted_none creations d is none =
    ap (λ (n : NetData). draft_of d.start d.target n (d.calls ++ creations.calls.items)) (ap (λ (es : List (List ℕ × NewLink)). with_links (made_links es) d.net) none.links ∙ with_none d.net is)
    ∙ ap (λ (cs : List Call). draft_of d.start d.target d.net cs) (ap (λ (cs : List Call). d.calls ++ cs) none.calls ∙ append-nil d.calls)
