-- Rule 21 of the merge: a count is above its limit. The limits are numbered, and the first that is passed is reported.
use Rattle.std.specs.Prelude.{ℕ, Bool, not, nat_le, List, [], ◌∷◌, length, filter, Option, Some, None, if◌then◌else◌}
use Rattle.net_model.specs.Lists.{NetData}
use Rattle.net_model.specs.Valid.{address_count}
use Rattle.net_model.specs.declared.limits.TheConstants.{MAX_LINKS, MAX_LINK_ADDRESSES, MAX_ADDRESSES, MAX_ROUTES, MAX_RULES, MAX_SERVERS, MAX_SEARCH}
use Rattle.net_model.specs.declared.Link.{Link}
use Rattle.document_model.specs.declared.Place.{Place}
use Rattle.document_model.specs.declared.Place.TheVariants.{Whole}
use Rattle.document_model.specs.declared.Refused.{Refused}
use Rattle.merge_model.specs.Places.{at_link, least_name, first_of}

-- more than so many
abbrev pub above : ℕ → ℕ → Option Place
above most count = if nat_le count most then None else Some Whole

abbrev pub is_crowded : Link → Bool
is_crowded l = not (nat_le (length l.addrs) MAX_LINK_ADDRESSES)

-- 1 links, 2 addresses of a link, 3 addresses of all links, 4 routes, 5 rules, 6 DNS servers, 7 DNS search domains
abbrev pub limits : NetData → List (ℕ × Option Place)
limits net =
    (1, above MAX_LINKS (length net.links)) ∷ (2, at_link (least_name (filter is_crowded net.links))) ∷ (3, above MAX_ADDRESSES (address_count net.links))
    ∷ (4, above MAX_ROUTES (length net.routes)) ∷ (5, above MAX_RULES (length net.rules)) ∷ (6, above MAX_SERVERS (length net.dns.servers)) ∷ (7, above MAX_SEARCH (length net.dns.search)) ∷ []

abbrev pub at_limit : ℕ → Place → Refused
at_limit which place = record { rule = 21; which = which; place = place }

abbrev pub limit_passed : NetData → Option Refused
limit_passed net = first_of at_limit (limits net)
