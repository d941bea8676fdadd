use Rattle.std.proofs.Common.{◌≡◌, ◌∙◌, ℕ, Bool, true, ◌||◌, List, sym, ap}
use Rattle.std.specs.List.{list_any, list_all}
use Rattle.net_model.specs.Words.{rises, is_among}
use Rattle.net_model.specs.Order.{link_cmp}
use Rattle.net_model.specs.Valid.{each_base_stands, vlans_differ}
use Rattle.net_model.specs.Edits.{has_primary_port, may_be_named, without}
use Rattle.net_model.specs.NetData.{NetData, IsNet}
use Rattle.net_model.proofs.lemmas.AllParts.{all_parts}
use Rattle.net_model.proofs.lemmas.ByName.{or_left}
use Rattle.net_lists.proofs.lemmas.Going.{primaries_left}
use Rattle.net_lists.proofs.lemmas.LinkLists.{rises_left, twins_left}
use Rattle.net_model.proofs.lemmas.Truth.{and_right, or_right}
use Rattle.link_step.proofs.Leaving.{without_twice}
use Rattle.link_step.proofs.Primaries.{primaries}
use Rattle.link_step.proofs.Released.{stays_free, none_then, left_free}
use Rattle.link_step.proofs.made.delete.Goals as goal

-- no two of a network's links are twins
no_twins : (net : NetData) → IsNet net → vlans_differ net.links ≡ true
no_twins net is = and_right (each_base_stands net.links) (vlans_differ net.links) (all_parts net is.valid).bases

pub release_all-requires-2 : goal.release_all-requires-2
release_all-requires-2 c = c.release_all.ensures.released.net

pub remove-requires-clause-in_order : goal.remove-requires-clause-in_order
remove-requires-clause-in_order c = c.release_all-2.ensures.released.net.in_order.links

pub remove-requires-clause-twins : goal.remove-requires-clause-twins
remove-requires-clause-twins c = no_twins c.release_all-2.new.parts c.release_all-2.ensures.released.net

-- each primary of a network is one of its bond's ports
pub remove-requires-clause-primaries : goal.remove-requires-clause-primaries
remove-requires-clause-primaries c = primaries c.release_all-2.new.parts c.release_all-2.ensures.released.net

-- what the first release has left without ports and controllers, the second leaves so
pub remove-requires-clause-free : goal.remove-requires-clause-free
remove-requires-clause-free c =
    let mid : NetData = c.release_all.new.parts in
    let net : NetData = c.release_all-2.new.parts in
    none_then (may_be_named mid.links) (may_be_named net.links) (stays_free c.args.with_peer.now mid net c.release_all-2.ensures.released) c.args.goes.now c.release_all.ensures.free

pub remove-requires-2-clause-in_order : goal.remove-requires-2-clause-in_order
remove-requires-2-clause-in_order c =
    ap (λ (n : NetData). rises link_cmp n.links) c.remove.ensures ∙ rises_left (is_among c.args.goes.now) c.release_all-2.new.parts.links c.release_all-2.ensures.released.net.in_order.links

pub remove-requires-2-clause-twins : goal.remove-requires-2-clause-twins
remove-requires-2-clause-twins c =
    let net : NetData = c.release_all-2.new.parts in
    ap (λ (n : NetData). vlans_differ n.links) c.remove.ensures ∙ twins_left (is_among c.args.goes.now) net.links (no_twins net c.release_all-2.ensures.released.net)

pub remove-requires-2-clause-primaries : goal.remove-requires-2-clause-primaries
remove-requires-2-clause-primaries c =
    let net : NetData = c.release_all-2.new.parts in
    ap (λ (n : NetData). list_all (has_primary_port n.links) n.links) c.remove.ensures ∙ primaries_left (is_among c.args.goes.now) net.links (primaries net c.release_all-2.ensures.released.net)

pub remove-requires-2-clause-free : goal.remove-requires-2-clause-free
remove-requires-2-clause-free c =
    let net : NetData = c.release_all-2.new.parts in
    let goes : List ℕ → Bool = is_among c.args.goes.now in
    ap (λ (n : NetData). list_any (may_be_named n.links) c.args.with_peer.now) c.remove.ensures
    ∙ none_then (may_be_named net.links) (may_be_named (without goes net).links) (λ n free. left_free goes n net free) c.args.with_peer.now c.release_all-2.ensures.free

-- to release what goes leaves what remains as it was
pub returns : goal.returns
returns c =
    let net : NetData = c.args.parts.now in
    let p : List ℕ → Bool = is_among c.args.goes.now in
    let q : List ℕ → Bool = is_among c.args.with_peer.now in
    c.remove-2.ensures
    ∙ ap (without q) c.remove.ensures
    ∙ without_twice p q c.release_all-2.new.parts
    ∙ c.release_all-2.ensures.released.same (λ n. p n || q n) (λ n h. or_right (p n) (q n) h)
    ∙ c.release_all.ensures.released.same (λ n. p n || q n) (λ n h. or_left (p n) (q n) h)
    ∙ sym (without_twice p q net)
