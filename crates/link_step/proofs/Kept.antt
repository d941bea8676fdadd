-- What a call writes on a link, no index reads and no count.
use Rattle.std.proofs.Common.{◌≡◌, refl}
use Rattle.net_model.specs.declared.Link.{Link}
use Rattle.net_model.specs.declared.Call.{Call}
use Rattle.net_model.specs.declared.Call.TheVariants.{AddLink, DelLink, Up, Down, SetMtu, SetMac, SetBond, SetBridge, Attach, Detach, SetPort, AddAddress, DelAddress, AddRoute, DelRoute, AddRule, DelRule, SetDns}
use Rattle.link_step.specs.OneLink.{written}

pub written_name : (call : Call) (l : Link) → (written call l).name ≡ l.name
written_name (AddLink name kind) l = refl
written_name (DelLink name) l = refl
written_name (Up name) l = refl
written_name (Down name) l = refl
written_name (SetMtu name mtu) l = refl
written_name (SetMac name mac) l = refl
written_name (SetBond name opts) l = refl
written_name (SetBridge name opts) l = refl
written_name (Attach port controller) l = refl
written_name (Detach port) l = refl
written_name (SetPort port opts) l = refl
written_name (AddAddress name addr) l = refl
written_name (DelAddress name addr) l = refl
written_name (AddRoute route) l = refl
written_name (DelRoute route) l = refl
written_name (AddRule rule) l = refl
written_name (DelRule rule) l = refl
written_name (SetDns dns) l = refl

pub written_kind : (call : Call) (l : Link) → (written call l).kind ≡ l.kind
written_kind (AddLink name kind) l = refl
written_kind (DelLink name) l = refl
written_kind (Up name) l = refl
written_kind (Down name) l = refl
written_kind (SetMtu name mtu) l = refl
written_kind (SetMac name mac) l = refl
written_kind (SetBond name opts) l = refl
written_kind (SetBridge name opts) l = refl
written_kind (Attach port controller) l = refl
written_kind (Detach port) l = refl
written_kind (SetPort port opts) l = refl
written_kind (AddAddress name addr) l = refl
written_kind (DelAddress name addr) l = refl
written_kind (AddRoute route) l = refl
written_kind (DelRoute route) l = refl
written_kind (AddRule rule) l = refl
written_kind (DelRule rule) l = refl
written_kind (SetDns dns) l = refl

pub written_controller : (call : Call) (l : Link) → (written call l).controller ≡ l.controller
written_controller (AddLink name kind) l = refl
written_controller (DelLink name) l = refl
written_controller (Up name) l = refl
written_controller (Down name) l = refl
written_controller (SetMtu name mtu) l = refl
written_controller (SetMac name mac) l = refl
written_controller (SetBond name opts) l = refl
written_controller (SetBridge name opts) l = refl
written_controller (Attach port controller) l = refl
written_controller (Detach port) l = refl
written_controller (SetPort port opts) l = refl
written_controller (AddAddress name addr) l = refl
written_controller (DelAddress name addr) l = refl
written_controller (AddRoute route) l = refl
written_controller (DelRoute route) l = refl
written_controller (AddRule rule) l = refl
written_controller (DelRule rule) l = refl
written_controller (SetDns dns) l = refl

pub written_addrs : (call : Call) (l : Link) → (written call l).addrs ≡ l.addrs
written_addrs (AddLink name kind) l = refl
written_addrs (DelLink name) l = refl
written_addrs (Up name) l = refl
written_addrs (Down name) l = refl
written_addrs (SetMtu name mtu) l = refl
written_addrs (SetMac name mac) l = refl
written_addrs (SetBond name opts) l = refl
written_addrs (SetBridge name opts) l = refl
written_addrs (Attach port controller) l = refl
written_addrs (Detach port) l = refl
written_addrs (SetPort port opts) l = refl
written_addrs (AddAddress name addr) l = refl
written_addrs (DelAddress name addr) l = refl
written_addrs (AddRoute route) l = refl
written_addrs (DelRoute route) l = refl
written_addrs (AddRule rule) l = refl
written_addrs (DelRule rule) l = refl
written_addrs (SetDns dns) l = refl
