-- The networks that documents lead to, one after another, and how far a service has come.
use Rattle.std.specs.Prelude.{◌≡◌, ◌⊎◌, List, [], ◌∷◌, ◌++◌, Option, Some, None}
use Rattle.net_model.specs.NetData.{NetData, IsNet}

-- what a document makes of a network, or nothing where it is refused
abbrev pub Taking : Type 0 → Type 0
Taking X = NetData → X → Option NetData

abbrev pub onward : NetData → Option NetData → (NetData → NetData) → NetData
onward net None next = net
onward net (Some to) next = next to

-- the network after the documents, in order, up to the first that is refused
abbrev pub folded : {X : Type 0} → Taking X → NetData → List X → NetData
folded take net [] = net
folded take net (x ∷ xs) = onward net (take net x) (λ to. folded take to xs)

-- each of the documents is taken, and they lead from the one network to the other
abbrev pub Takes : {X : Type 0} → Taking X → NetData → List X → NetData → Type 0
Takes take from [] to = from ≡ to
Takes take from (x ∷ xs) to = (next : NetData) × (take from x ≡ Some next) × Takes take next xs to

-- the network takes the document, and what this makes of it is a network that takes it again and stays as it is
pub record IsTaken {X : Type 0} (take : Taking X) (from : NetData) (x : X) (to : NetData) : Type 0 where
  pub taken : take from x ≡ Some to
  pub valid : IsNet to
  pub again : take to x ≡ Some to

-- the last document that was taken isn't marked yet; taken again it changes nothing
pub record LastLeft {X : Type 0} (take : Taking X) (net : NetData) (taken rest left : List X) : Type 0 where
  pub before : List X
  pub last : X
  pub is : taken ≡ before ++ last ∷ []
  pub still : left ≡ last ∷ rest
  pub again : take net last ≡ Some net

-- From a first network and all its documents a service came to this network, with these documents left that aren't marked: the
-- network is the one after a prefix of all documents, and what is marked is this prefix, or all of it but its last document.
pub record IsStage {X : Type 0} (take : Taking X) (first : NetData) (all : List X) (net : NetData) (left : List X) : Type 0 where
  pub taken : List X
  pub rest : List X
  pub is : taken ++ rest ≡ all
  pub leads : Takes take first taken net
  pub valid : IsNet net
  pub marks : (left ≡ rest) ⊎ LastLeft take net taken rest left
