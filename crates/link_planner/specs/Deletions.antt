-- Deletions that are noted, while their links still stand in the network.
use Rattle.std.specs.Prelude.{◌≡◌, ℕ, Bool, true, false, ◌&&◌, ◌||◌, List, [], ◌∷◌, ◌++◌, Option, option_map}
use Rattle.std.specs.List.{list_all}
use Rattle.std.specs.Option.{option_map_or}
use Rattle.std.specs.BTreeSet.{contains}
use Rattle.net_model.specs.Name.{same_bytes}
use Rattle.net_model.specs.Order.{name_cmp}
use Rattle.net_model.specs.Links.{find_link}
use Rattle.net_model.specs.Edits.{without}
use Rattle.net_model.specs.OfName.{over}
use Rattle.net_model.specs.declared.Link.{Link}
use Rattle.net_model.specs.declared.Kind.{Kind}
use Rattle.net_model.specs.declared.Call.TheVariants.{DelLink}
use Rattle.link_planner.specs.declared.deletions.Deletions.{Deletions}
use Rattle.link_planner.specs.declared.phase.Phase.TheVariants.{DeleteLinks}
use Rattle.link_planner.specs.Drafts.{DraftData, Holds, draft_of}
use Rattle.link_planner.specs.Phases.{IsDue, IsServed}
use Rattle.link_planner.specs.Shrinking.{MustGo}

-- the link of this name goes
abbrev pub is_noted : Deletions → List ℕ → Bool
is_noted deletions name = contains name_cmp deletions.names name

-- the draft as it is with these deletions
abbrev pub noted : Deletions → DraftData → DraftData
noted deletions d = draft_of d.start d.target (without (is_noted deletions) d.net) (d.calls ++ deletions.calls.items)

-- there is none
pub record AreNone (deletions : Deletions) : Type 0 where
  pub names : deletions.names.keys ≡ []
  pub calls : deletions.calls.items ≡ []

-- this is the link's name, or its peer's
abbrev pub is_either : List ℕ → Option (List ℕ) → List ℕ → Bool
is_either name peer n = same_bytes name n || option_map_or (λ p. same_bytes p n) peer false

-- the link is deleted, and goes with its peer
pub record Notes (name : List ℕ) (peer : Option (List ℕ)) (old new : Deletions) : Type 0 where
  pub names : (n : List ℕ) → is_noted new n ≡ (is_noted old n || is_either name peer n)
  pub calls : new.calls.items ≡ old.calls.items ++ DelLink name ∷ []

-- the kind of the link of this name
abbrev pub kind_at : List Link → List ℕ → Option Kind
kind_at links name = option_map (λ (l : Link). l.kind) (find_link name links)

-- each VLAN directly over the link goes
abbrev pub is_bare : Deletions → List Link → List ℕ → Bool
is_bare deletions links name = list_all (is_noted deletions) (over links name)

-- and each over its peer
abbrev pub are_bare : Deletions → List Link → List ℕ → Option (List ℕ) → Bool
are_bare deletions links name peer = is_bare deletions links name && option_map_or (is_bare deletions links) peer true

-- the link of this name must go, and is of this kind
pub record GoesAs (d : DraftData) (n : List ℕ) (k : Kind) : Type 0 where
  pub must : MustGo d.start d.target d.net n
  pub kind : must.link.kind ≡ k

-- the name may be served
pub record MayServe (d : DraftData) (n : List ℕ) : Type 0 where
  pub holds : Holds d
  pub due : IsDue DeleteLinks d n

-- the name has been served, and the draft still holds
pub record HasServed (n : List ℕ) (old new : DraftData) : Type 0 where
  pub served : IsServed DeleteLinks n old new
  pub holds : Holds new
