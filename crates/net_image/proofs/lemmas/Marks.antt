-- The four bytes at the front of an image tell its version.
use Rattle.std.proofs.Common.{◌≡◌, true, false, eqb, List, ◌++◌, ℕ, take, get_or, sym, ap, ◌∙◌}
use Rattle.net_model.specs.NetData.{NetData}
use Rattle.net_image.specs.Image.{lists, network, first_network, version_1, version_2, IsImage, IsFirstImage}

-- what begins with an image of version 2 begins with the bytes of version 2
pub second_mark : (bytes rest : List ℕ) (net : NetData) → IsImage bytes net → take 4 (bytes ++ rest) ≡ version_2
unfolding network lists
second_mark bytes rest net is = ap (λ (l : List ℕ). take 4 (l ++ rest)) is.spelled

-- what begins with an image of version 1 begins with the bytes of version 1
pub first_mark : (bytes rest : List ℕ) (net : NetData) → IsFirstImage bytes net → take 4 (bytes ++ rest) ≡ version_1
unfolding first_network lists
first_mark bytes rest net is = ap (λ (l : List ℕ). take 4 (l ++ rest)) is.spelled

-- no bytes begin with both
pub not_both : (front : List ℕ) → front ≡ version_2 → front ≡ version_1 → ⊥
not_both front two one = let wrong : true ≡ false = ap (λ (l : List ℕ). eqb (get_or l 3 0) 50) (sym two ∙ one) in cc
