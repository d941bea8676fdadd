use Rattle.std.proofs.Common.{◌≡◌, ℕ, List, [], ◌∷◌, ◌++◌, get_or, take, replicate, refl, rules}
use Rattle.net_model.proofs.mac.Mac.of_virtual.Goals as goal

five : (bs : List ℕ) → get_or bs 0 0 ∷ get_or bs 1 0 ∷ get_or bs 2 0 ∷ get_or bs 3 0 ∷ get_or bs 4 0 ∷ [] ≡ take 5 (bs ++ replicate 5 0)
five [] = refl
five (a ∷ []) = refl
five (a ∷ b ∷ []) = refl
five (a ∷ b ∷ c ∷ []) = refl
five (a ∷ b ∷ c ∷ d ∷ []) = refl
five (a ∷ b ∷ c ∷ d ∷ e ∷ rest) = refl

pub returns : goal.returns
returns c =
    let same = five c.args.name.now in
    search (rules, same)
