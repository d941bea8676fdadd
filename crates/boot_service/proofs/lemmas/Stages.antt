-- How far a service has come, document after document.
use Rattle.std.proofs.Common.{◌≡◌, ◌∙◌, ◌⊎◌, List, [], ◌∷◌, ◌++◌, Some, refl, sym, ap, subst, inl, inr, append_assoc, append-nil}
use Rattle.net_model.specs.NetData.{NetData, IsNet}
use Rattle.boot_service.specs.Fold.{Taking, folded, Takes, IsTaken, LastLeft, IsStage}

-- a service begins with all documents left
pub stage_begins : {X : Type 0} (take : Taking X) (first : NetData) (all : List X) → IsNet first → IsStage take first all first all
stage_begins take first all valid = record { taken = []; rest = all; is = refl; leads = refl; valid = valid; marks = inl refl }

-- one document more
pub takes_push : {X : Type 0} (take : Taking X) (from : NetData) (xs : List X) (x : X) (mid to : NetData) → Takes take from xs mid → take mid x ≡ Some to → Takes take from (xs ++ x ∷ []) to
takes_push take from [] x mid to h e = (to, subst (λ (n : NetData). take n x ≡ Some to) (sym h) e, refl)
takes_push take from (y ∷ ys) x mid to h e = (h.0, h.1, takes_push take h.0 ys x mid to h.2 e)

-- documents that are taken lead to their fold
pub takes_folded : {X : Type 0} (take : Taking X) (from : NetData) (xs : List X) (to : NetData) → Takes take from xs to → folded take from xs ≡ to
takes_folded take from [] to h = h
takes_folded take from (x ∷ xs) to h = rw h.1 (takes_folded take h.0 xs to h.2)

-- a stage's network is the fold of a prefix
pub stage_folds : {X : Type 0} (take : Taking X) (first : NetData) (all : List X) (net : NetData) (left : List X) (s : IsStage take first all net left) → folded take first s.taken ≡ net
stage_folds take first all net left s = takes_folded take first s.taken net s.leads

-- the first document that is left was taken, and isn't marked yet
fresh_taken : {X : Type 0} (take : Taking X) (first : NetData) (all : List X) (net : NetData) (x : X) (left : List X) (to : NetData) (s : IsStage take first all net (x ∷ left)) → x ∷ left ≡ s.rest → IsTaken take net x to
    → IsStage take first all to (x ∷ left) × IsStage take first all to left
fresh_taken {X = X} take first all net x left to s e h =
    let whole : (s.taken ++ x ∷ []) ++ left ≡ all = append_assoc s.taken (x ∷ []) left ∙ (ap (λ (r : List X). s.taken ++ r) e ∙ s.is) in
    let leads = takes_push take first s.taken x net to s.leads h.taken in (
      record {
        taken = s.taken ++ x ∷ [];
        rest = left;
        is = whole;
        leads = leads;
        valid = h.valid;
        marks = inr (record { before = s.taken; last = x; is = refl; still = refl; again = h.again });
      },
      record { taken = s.taken ++ x ∷ []; rest = left; is = whole; leads = leads; valid = h.valid; marks = inl refl },
    )

-- it was taken before, and taken again it changed nothing
again_taken : {X : Type 0} (take : Taking X) (first : NetData) (all : List X) (net : NetData) (x : X) (left : List X) (to : NetData) (s : IsStage take first all net (x ∷ left))
    → LastLeft take net s.taken s.rest (x ∷ left) → IsTaken take net x to → IsStage take first all to (x ∷ left) × IsStage take first all to left
again_taken {X = X} take first all net x left to s l h =
    let list : x ∷ left ≡ l.last ∷ s.rest = l.still in
    let same : x ≡ l.last = cc in
    let tail : left ≡ s.rest = cc in
    let again : take net x ≡ Some net = ap (λ (y : X). take net y) same ∙ l.again in
    let two : Some to ≡ Some net = sym h.taken ∙ again in
    let one : net ≡ to = cc in
    subst (λ (n : NetData). IsStage take first all n (x ∷ left) × IsStage take first all n left) one
    (s, record { taken = s.taken; rest = s.rest; is = s.is; leads = s.leads; valid = s.valid; marks = inl tail })

-- once the first document that is left was taken, the service came on, whether it is marked or not
pub stage_taken : {X : Type 0} (take : Taking X) (first : NetData) (all : List X) (net : NetData) (x : X) (left : List X) (to : NetData)
    → IsStage take first all net (x ∷ left) → IsTaken take net x to → IsStage take first all to (x ∷ left) × IsStage take first all to left
stage_taken take first all net x left to s h =
    elim s.marks [
      | inl e ↦ fresh_taken take first all net x left to s e h
      | inr l ↦ again_taken take first all net x left to s l h
    ]

nothing_left : {X : Type 0} (take : Taking X) (net : NetData) (taken rest : List X) → ([] ≡ rest) ⊎ LastLeft take net taken rest [] → [] ≡ rest
nothing_left take net taken rest (inl e) = e
nothing_left take net taken rest (inr l) = let e = l.still in absurd cc

-- where nothing is left, all documents were taken, each once
pub stage_ends : {X : Type 0} (take : Taking X) (first : NetData) (all : List X) (net : NetData) → IsStage take first all net [] → Takes take first all net
stage_ends {X = X} take first all net s =
    let e = nothing_left take net s.taken s.rest s.marks in
    let whole : s.taken ≡ all = sym (append-nil s.taken) ∙ (ap (λ (r : List X). s.taken ++ r) e ∙ s.is) in
    subst (λ (xs : List X). Takes take first xs net) whole s.leads
