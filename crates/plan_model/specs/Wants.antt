-- Which calls a plan makes: each for its reason in the two networks.
use Rattle.std.specs.Prelude.{◌≡◌, ◌≢◌, ◌⊎◌, ℕ, Bool, true, false, List, Some, None, option_map}
use Rattle.std.specs.List.{list_any}
use Rattle.std.specs.Option.{option_map_or}
use Rattle.net_model.specs.Address.{Block}
use Rattle.net_model.specs.Links.{find_link, named_passes}
use Rattle.net_model.specs.Valid.{same_rule}
use Rattle.net_model.specs.Lists.{NetData}
use Rattle.net_model.specs.declared.Link.{Link}
use Rattle.net_model.specs.declared.Call.{Call}
use Rattle.net_model.specs.declared.Call.TheVariants.{AddLink, DelLink, Up, Down, SetMtu, SetMac, SetBond, SetBridge, Attach, Detach, SetPort, AddAddress, DelAddress, AddRoute, DelRoute, AddRule, DelRule, SetDns}
use Rattle.kernel_model.specs.Addresses.{has_block}
use Rattle.plan_model.specs.Touched.{is_lost, must_fall}
use Rattle.plan_model.specs.Undisturbed.{has_route}

-- the link of this name is there and has the address, with its length
abbrev pub has_address : NetData → List ℕ → Block → Bool
has_address net name block = option_map_or (λ l. has_block block l.addrs) (find_link name net.links) false

-- a link is made with target's kind, taken up where target's is up, and given what target's has, a bond perhaps without the
-- primary; it is deleted where start's is virtual and target lacks it or has another kind, taken down where start's must
-- fall, and detached where start's has a controller that target's hasn't; addresses, routes and rules are added that
-- target has, and deleted that it hasn't; DNS becomes target's
abbrev pub Wants : NetData → NetData → Call → Type 0
Wants start target (AddLink name kind) = option_map (λ (t : Link). t.kind) (find_link name target.links) ≡ Some kind
Wants start target (DelLink name) = named_passes (is_lost target) start.links name ≡ true
Wants start target (Up name) = option_map (λ (t : Link). t.up) (find_link name target.links) ≡ Some true
Wants start target (Down name) = named_passes (must_fall start target) start.links name ≡ true
Wants start target (SetMtu name mtu) = option_map (λ (t : Link). t.mtu) (find_link name target.links) ≡ Some mtu
Wants start target (SetMac name mac) = option_map (λ (t : Link). t.mac) (find_link name target.links) ≡ Some mac
Wants start target (SetBond name opts) =
    (option_map (λ (t : Link). t.bond) (find_link name target.links) ≡ Some opts)
    ⊎ (option_map (λ (t : Link). record t.bond { primary = None }) (find_link name target.links) ≡ Some opts)
Wants start target (SetBridge name opts) = option_map (λ (t : Link). t.bridge) (find_link name target.links) ≡ Some opts
Wants start target (Attach port controller) = option_map (λ (t : Link). t.controller) (find_link port target.links) ≡ Some (Some controller)
Wants start target (Detach port) =
    (c : List ℕ) × (option_map (λ (l : Link). l.controller) (find_link port start.links) ≡ Some (Some c))
    × (option_map (λ (t : Link). t.controller) (find_link port target.links) ≢ Some (Some c))
Wants start target (SetPort port opts) = option_map (λ (t : Link). t.port) (find_link port target.links) ≡ Some opts
Wants start target (AddAddress name addr) = has_address target name addr ≡ true
Wants start target (DelAddress name addr) = has_address target name addr ≡ false
Wants start target (AddRoute route) = has_route route target.routes ≡ true
Wants start target (DelRoute route) = has_route route target.routes ≡ false
Wants start target (AddRule rule) = list_any (same_rule rule) target.rules ≡ true
Wants start target (DelRule rule) = list_any (same_rule rule) target.rules ≡ false
Wants start target (SetDns dns) = dns ≡ target.dns
