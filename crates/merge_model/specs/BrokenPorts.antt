-- Rules 6 to 8 of the merge, which look at the stated controllers and port lists.
use Rattle.std.specs.Prelude.{ℕ, Bool, true, false, not, ◌&&◌, ◌||◌, List, [], ◌∷◌, Option, find, is_some, is_none}
use Rattle.std.specs.List.{list_any}
use Rattle.std.specs.Option.{option_map_or, unwrap_or}
use Rattle.net_model.specs.Name.{same_bytes}
use Rattle.net_model.specs.Words.{apart}
use Rattle.document_model.specs.declared.Claim.{Claim}
use Rattle.document_model.specs.declared.Claim.TheVariants.{Nobody, To}
use Rattle.document_model.specs.declared.Place.{Place}
use Rattle.merge_model.specs.Members.{Member, find_member}
use Rattle.merge_model.specs.Controllers.{stated_ports, lists, own_claim, claims}
use Rattle.merge_model.specs.Places.{at_member}

abbrev pub is_missing : List Member → List ℕ → Bool
is_missing ms name = is_none (find_member name ms)

abbrev pub claims_missing : List Member → Claim → Bool
claims_missing ms Nobody = false
claims_missing ms (To name) = is_missing ms name

-- 6: a stated port list or a stated controller names a link that isn't in the merged network; the place is the stating
-- link
abbrev pub port_missing : List Member → Option Place
port_missing ms = at_member (find (λ m. list_any (is_missing ms) (unwrap_or (stated_ports m) []) || option_map_or (claims_missing ms) (own_claim m) false) ms)

-- 7: a stated port list names a link twice
abbrev pub port_twice : List Member → Option Place
port_twice ms = at_member (find (λ m. not (apart same_bytes (unwrap_or (stated_ports m) []))) ms)

abbrev pub same_claim : Claim → Claim → Bool
same_claim Nobody Nobody = true
same_claim (To a) (To b) = same_bytes a b
same_claim _ _ = false

-- two of the claims differ: one of them differs from the first
abbrev pub claims_differ : List Claim → Bool
claims_differ [] = false
claims_differ (claim ∷ more) = list_any (λ c. not (same_claim claim c)) more

-- the controller has a stated port list, and the port isn't in it
abbrev pub leaves_out : List ℕ → Member → Bool
leaves_out port c = is_some (stated_ports c) && not (lists c port)

abbrev pub is_left_out : List Member → List ℕ → Claim → Bool
is_left_out ms port Nobody = false
is_left_out ms port (To name) = option_map_or (leaves_out port) (find_member name ms) false

-- 8: two claims on a link differ, or a link claims a controller whose stated port list lacks it; the place is the port
abbrev pub port_conflict : List Member → Option Place
port_conflict ms = at_member (find (λ m. claims_differ (claims ms m) || option_map_or (is_left_out ms m.name) (own_claim m) false) ms)
