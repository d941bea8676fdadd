-- What a phase reaches where it makes no call.
use Rattle.std.proofs.Common.{◌≡◌, ℕ, List, Option, Some, None, refl, sym, subst, ◌∙◌}
use Rattle.net_model.specs.declared.link.Link.{Link}
use Rattle.net_model.proofs.lemmas.ByName.{some_same}
use Rattle.link_planner.specs.Drafts.{DraftData}
use Rattle.link_planner.specs.Pairs.{AreUnpaired, ArePair}
use Rattle.link_planner.specs.Growing.{IsToward, SameController, Reaches}
use Rattle.link_planner.proofs.Editing.{way_of}

-- nothing is left where one of the two links isn't there
pub reached_unpaired : (R : Link → Link → Type 0) (d : DraftData) (n : List ℕ) → AreUnpaired d n → Reaches R d.target d.net n
reached_unpaired R d n none l t here at = absurd (none l t (record { here = here; at = at }))

-- nor where the two are as they should be
pub reached_pair : (R : Link → Link → Type 0) (d : DraftData) (n : List ℕ) (link there : Link) → ArePair d n link there → R link there → Reaches R d.target d.net n
reached_pair R d n link there pair holds l t here at =
    subst (λ x. R x t) (some_same link l (sym pair.here ∙ here)) (subst (R link) (some_same there t (sym pair.at ∙ at)) holds)

-- a link has no controller where target's has none
pub reached_free : (d : DraftData) → IsToward d.target d.net → (n : List ℕ) (link there : Link) → ArePair d n link there → there.controller ≡ None → Reaches SameController d.target d.net n
reached_free d toward n link there pair none = reached_pair SameController d n link there pair (of link.controller refl ∙ sym none)
  where
    of : (o : Option (List ℕ)) → link.controller ≡ o → link.controller ≡ None
    of None e = e
    of (Some c) e = absurd (let no : (let o : Option (List ℕ) = None in o) ≡ Some c = sym none ∙ (way_of d.target d.net toward n link there pair.here pair.at).controller c e in cc)
