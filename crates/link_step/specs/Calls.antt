-- The calls on links.
use Rattle.std.specs.Prelude.{Bool, true, false}
use Rattle.net_model.specs.declared.Call.{Call}
use Rattle.net_model.specs.declared.Call.TheVariants.{AddAddress, DelAddress, AddRoute, DelRoute, AddRule, DelRule, SetDns}

-- the call makes, deletes or sets a link: it is none on addresses, routes, rules or DNS
abbrev pub is_on_links : Call → Bool
is_on_links (AddAddress name addr) = false
is_on_links (DelAddress name addr) = false
is_on_links (AddRoute route) = false
is_on_links (DelRoute route) = false
is_on_links (AddRule rule) = false
is_on_links (DelRule rule) = false
is_on_links (SetDns dns) = false
is_on_links _ = true
