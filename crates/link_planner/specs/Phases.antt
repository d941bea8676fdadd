-- The phases of a plan for links: what each needs, what it changes and what it reaches.
use Rattle.std.specs.Prelude.{◌≡◌, ◌<◌, ◌+◌, ℕ, Bool, true, false, List, [], ◌∷◌, length, filter, take, Option, Some, None}
use Rattle.net_model.specs.Links.{named_passes, is_bond, is_bridge}
use Rattle.net_model.specs.Lists.{NetData}
use Rattle.net_model.specs.declared.Call.{Call}
use Rattle.link_planner.specs.declared.phase.Phase.{Phase}
use Rattle.link_planner.specs.declared.phase.Phase.TheVariants.{DetachPorts, TakeLinksDown, DeleteLinks, CreateLinks, RaiseMtus, LowerMtus, SetMacs, SetBonds, SetBridges, AttachPorts, SetPorts, SetPrimaries, TakeLinksUp}
use Rattle.link_planner.specs.Depths.{IsBaseFirst, NamesAll}
use Rattle.link_planner.specs.Drafts.{DraftData, IsSafe, Advances, with_call}
use Rattle.link_planner.specs.Kept.{EachOf}
use Rattle.link_planner.specs.Shrinking.{IsShrunk, KeepsRulesAndDns, KeepsPorts, IsFree, IsLow, HasStayed}
use Rattle.link_planner.specs.Growing.{IsToward, IsNearer, IsMade, Reaches, OfBase, EnoughMtu, SameMtu, SameMac, AlmostSameBond, SameBond, SameBridge, SameController, SamePort, SameUp}

-- how many phases come before it
abbrev pub rank : Phase → ℕ
rank DetachPorts = 0
rank TakeLinksDown = 1
rank DeleteLinks = 2
rank CreateLinks = 3
rank RaiseMtus = 4
rank LowerMtus = 5
rank SetMacs = 6
rank SetBonds = 7
rank SetBridges = 8
rank AttachPorts = 9
rank SetPorts = 10
rank SetPrimaries = 11
rank TakeLinksUp = 12

-- the first three take away, the others build up
abbrev pub builds : Phase → Bool
builds DetachPorts = false
builds TakeLinksDown = false
builds DeleteLinks = false
builds _ = true

-- it goes from each base to what stands on it
abbrev pub is_upward : Phase → Bool
is_upward CreateLinks = true
is_upward RaiseMtus = true
is_upward TakeLinksUp = true
is_upward _ = false

-- what it reaches for a name
abbrev pub Done : Phase → DraftData → List ℕ → Type 0
Done DetachPorts d n = IsFree d.start d.target d.net n
Done TakeLinksDown d n = IsLow d.start d.target d.net n
Done DeleteLinks d n = HasStayed d.start d.target d.net n
Done CreateLinks d n = IsMade d.target d.net n
Done RaiseMtus d n = Reaches EnoughMtu d.target d.net n
Done LowerMtus d n = Reaches SameMtu d.target d.net n
Done SetMacs d n = Reaches SameMac d.target d.net n
Done SetBonds d n = Reaches AlmostSameBond d.target d.net n
Done SetBridges d n = Reaches SameBridge d.target d.net n
Done AttachPorts d n = Reaches SameController d.target d.net n
Done SetPorts d n = Reaches SamePort d.target d.net n
Done SetPrimaries d n = Reaches SameBond d.target d.net n
Done TakeLinksUp d n = Reaches SameUp d.target d.net n

-- the phases of either half that come before a rank have reached all names
abbrev pub AllDone : Bool → ℕ → DraftData → Type 0
AllDone half k d = (q : Phase) → builds q ≡ half → rank q < k → (n : List ℕ) → Done q d n

-- what holds where the phase of a rank may take away
pub record MayTakeAway (k : ℕ) (d : DraftData) : Type 0 where
  pub shrunk : IsShrunk d.start d.net
  pub ports : k < 2 → KeepsPorts d.start d.target d.net
  pub done : AllDone false k d

-- and where it may build up
pub record MayBuildUp (k : ℕ) (d : DraftData) : Type 0 where
  pub toward : IsToward d.target d.net
  pub done : AllDone true k d

abbrev pub Stands : Bool → ℕ → DraftData → Type 0
Stands false k d = MayTakeAway k d
Stands true k d = MayBuildUp k d

-- what the phase of a rank changes where it takes away
pub record Sheds (k : ℕ) (old new : DraftData) : Type 0 where
  pub shrunk : IsShrunk old.net new.net
  pub rest : KeepsRulesAndDns old.net new.net
  pub ports : k < 2 → KeepsPorts new.start new.target new.net
  pub low : 0 < k → (n : List ℕ) → IsLow old.start old.target old.net n → IsLow new.start new.target new.net n

-- and where it builds up
pub record Grows (old new : DraftData) : Type 0 where
  pub toward : IsToward new.target new.net
  pub nearer : IsNearer new.target old.net new.net

abbrev pub Moves : Bool → ℕ → DraftData → DraftData → Type 0
Moves false k old new = Sheds k old new
Moves true k old new = Grows old new

-- it may make a call for this name
abbrev pub counts : Phase → NetData → List ℕ → Bool
counts SetBonds target = named_passes (λ l. is_bond l.kind) target.links
counts SetBridges target = named_passes (λ l. is_bridge l.kind) target.links
counts _ target = λ n. true

-- how many of the names it may make a call for
abbrev pub most : Phase → NetData → List (List ℕ) → ℕ
most p target names = length (filter (counts p target) names)

-- the name is next
pub record IsDue (p : Phase) (d : DraftData) (n : List ℕ) : Type 0 where
  pub stands : Stands (builds p) (rank p) d
  pub base : is_upward p ≡ true → OfBase d.target (Done p d) n

-- the call may be made for the name, and reaches what the phase is for
pub record IsNext (p : Phase) (d : DraftData) (n : List ℕ) (call : Call) : Type 0 where
  pub safe : IsSafe d.start d.target call d.net
  pub moves : Moves (builds p) (rank p) d (with_call call d)
  pub done : Done p (with_call call d) n
  pub counted : counts p d.target n ≡ true

-- the call that the phase makes for the name, or none, where all is reached
abbrev pub Serves : Phase → DraftData → List ℕ → Option Call → Type 0
Serves p d n None = Done p d n
Serves p d n (Some call) = IsNext p d n call

-- the name has been served
pub record IsServed (p : Phase) (n : List ℕ) (old new : DraftData) : Type 0 where
  pub advances : Advances (most p old.target (n ∷ [])) old new
  pub moves : Moves (builds p) (rank p) old new
  pub done : Done p new n

-- the network whose links the phase goes over
abbrev pub gone_over : Bool → DraftData → NetData
gone_over false d = d.start
gone_over true d = d.target

-- the names are all that the phase is to serve, in an order that suits it
pub record IsOrder (p : Phase) (d : DraftData) (names : List (List ℕ)) : Type 0 where
  pub all : NamesAll (gone_over (builds p) d).links names
  pub upward : is_upward p ≡ true → IsBaseFirst d.target.links names

-- so many of the names have been served
pub record IsAlong (p : Phase) (names : List (List ℕ)) (i : ℕ) (old new : DraftData) : Type 0 where
  pub advances : Advances (most p old.target (take i names)) old new
  pub moves : Moves (builds p) (rank p) old new
  pub done : EachOf (take i names) (Done p new)

-- the phase is over
pub record HasRun (p : Phase) (names : List (List ℕ)) (old new : DraftData) : Type 0 where
  pub advances : Advances (most p old.target names) old new
  pub moves : Moves (builds p) (rank p) old new
  pub stands : Stands (builds p) (rank p + 1) new
