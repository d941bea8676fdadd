-- The links of a name in a draft: the one so far, and that of target.
use Rattle.std.specs.Prelude.{◌≡◌, ℕ, List, Some}
use Rattle.net_model.specs.Links.{find_link}
use Rattle.net_model.specs.declared.Link.{Link}
use Rattle.link_planner.specs.Drafts.{DraftData}

pub record ArePair (d : DraftData) (n : List ℕ) (link there : Link) : Type 0 where
  pub here : find_link n d.net.links ≡ Some link
  pub at : find_link n d.target.links ≡ Some there

-- one of the two isn't there
abbrev pub AreUnpaired : DraftData → List ℕ → Type 0
AreUnpaired d n = (link there : Link) → ArePair d n link there → ⊥
