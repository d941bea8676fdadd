-- The version of an image is told by its first four bytes.
use Rattle.std.proofs.Common.{◌≡◌, ℕ, true, false, List, refl, ap, ◌∙◌}
use Rattle.net_model.specs.NetData.{NetData}
use Rattle.net_image.specs.Image.{network, first_network, lists, IsImage, IsFirstImage}
use Rattle.call_journal.specs.Area.{is_first}

latest_written : (net : NetData) → is_first (network.write net) ≡ false
unfolding network lists
latest_written net = refl

first_written : (net : NetData) → is_first (first_network.write net) ≡ true
unfolding first_network lists
first_written net = refl

-- an image of version 2 isn't of version 1
pub latest_version : (image : List ℕ) (net : NetData) → IsImage image net → is_first image ≡ false
latest_version image net is = ap is_first is.spelled ∙ latest_written net

-- and one of version 1 is
pub first_version : (image : List ℕ) (net : NetData) → IsFirstImage image net → is_first image ≡ true
first_version image net is = ap is_first is.spelled ∙ first_written net
