-- How many bytes a call has at most.
use Rattle.std.proofs.Common.{ℕ, eqb, arith}
use Rattle.net_model.specs.declared.call.Call.TheVariants.{AddLink, DelLink, Up, Down, SetMtu, SetMac, SetBond, SetBridge, Attach, Detach, SetPort, AddAddress, DelAddress, AddRoute, DelRoute, AddRule, DelRule, SetDns}
use Rattle.net_image.specs.Form.{◌⨾◌, byte, variant, number}
use Rattle.net_image.specs.Fields.{name, mac, prefix}
use Rattle.net_image.specs.Links.{kind, bond_options, bridge_options, port_options}
use Rattle.net_image.specs.Image.{route, rule, settings}
use Rattle.net_image.specs.Laws.{TakesAtMost}
use Rattle.net_image.proofs.lemmas.Short.{byte_short, number_short, never_short, variant_short, seq_short, tagged_short, if_short, longer, name_short, mac_short, prefix_short, kind_short, bond_options_short, bridge_options_short, port_options_short, route_short, rule_short, settings_short}
use Rattle.call_journal.specs.Calls.{call_number, call_behind, call_form, add_link_held, del_link_held, up_held, down_held, set_mtu_held, set_mac_held, set_bond_held, set_bridge_held, attach_held, detach_held, set_port_held, add_address_held, del_address_held, add_route_held, del_route_held, add_rule_held, del_rule_held, set_dns_held}

call_behind_short : (n : ℕ) → TakesAtMost 4338 (call_behind n)
call_behind_short n =
    (if_short 4338 (eqb n 1) _ _ (longer 36 4338 (variant (λ f. AddLink f.0 f.1) add_link_held (name ⨾ kind)) (omega arith) (variant_short 36 (λ f. AddLink f.0 f.1) add_link_held (name ⨾ kind) (seq_short 16 20 name kind name_short kind_short)))
    (if_short 4338 (eqb n 2) _ _ (longer 16 4338 (variant DelLink del_link_held name) (omega arith) (variant_short 16 DelLink del_link_held name name_short))
    (if_short 4338 (eqb n 3) _ _ (longer 16 4338 (variant Up up_held name) (omega arith) (variant_short 16 Up up_held name name_short))
    (if_short 4338 (eqb n 4) _ _ (longer 16 4338 (variant Down down_held name) (omega arith) (variant_short 16 Down down_held name name_short))
    (if_short 4338 (eqb n 5) _ _ (longer 20 4338 (variant (λ f. SetMtu f.0 f.1) set_mtu_held (name ⨾ number 4)) (omega arith) (variant_short 20 (λ f. SetMtu f.0 f.1) set_mtu_held (name ⨾ number 4) (seq_short 16 4 name (number 4) name_short (number_short 4))))
    (if_short 4338 (eqb n 6) _ _ (longer 22 4338 (variant (λ f. SetMac f.0 f.1) set_mac_held (name ⨾ mac)) (omega arith) (variant_short 22 (λ f. SetMac f.0 f.1) set_mac_held (name ⨾ mac) (seq_short 16 6 name mac name_short mac_short)))
    (if_short 4338 (eqb n 7) _ _ (longer 46 4338 (variant (λ f. SetBond f.0 f.1) set_bond_held (name ⨾ bond_options)) (omega arith) (variant_short 46 (λ f. SetBond f.0 f.1) set_bond_held (name ⨾ bond_options) (seq_short 16 30 name bond_options name_short bond_options_short)))
    (if_short 4338 (eqb n 8) _ _ (longer 26 4338 (variant (λ f. SetBridge f.0 f.1) set_bridge_held (name ⨾ bridge_options)) (omega arith) (variant_short 26 (λ f. SetBridge f.0 f.1) set_bridge_held (name ⨾ bridge_options) (seq_short 16 10 name bridge_options name_short bridge_options_short)))
    (if_short 4338 (eqb n 9) _ _ (longer 32 4338 (variant (λ f. Attach f.0 f.1) attach_held (name ⨾ name)) (omega arith) (variant_short 32 (λ f. Attach f.0 f.1) attach_held (name ⨾ name) (seq_short 16 16 name name name_short name_short)))
    (if_short 4338 (eqb n 10) _ _ (longer 16 4338 (variant Detach detach_held name) (omega arith) (variant_short 16 Detach detach_held name name_short))
    (if_short 4338 (eqb n 11) _ _ (longer 20 4338 (variant (λ f. SetPort f.0 f.1) set_port_held (name ⨾ port_options)) (omega arith) (variant_short 20 (λ f. SetPort f.0 f.1) set_port_held (name ⨾ port_options) (seq_short 16 4 name port_options name_short port_options_short)))
    (if_short 4338 (eqb n 12) _ _ (longer 34 4338 (variant (λ f. AddAddress f.0 f.1) add_address_held (name ⨾ prefix)) (omega arith) (variant_short 34 (λ f. AddAddress f.0 f.1) add_address_held (name ⨾ prefix) (seq_short 16 18 name prefix name_short prefix_short)))
    (if_short 4338 (eqb n 13) _ _ (longer 34 4338 (variant (λ f. DelAddress f.0 f.1) del_address_held (name ⨾ prefix)) (omega arith) (variant_short 34 (λ f. DelAddress f.0 f.1) del_address_held (name ⨾ prefix) (seq_short 16 18 name prefix name_short prefix_short)))
    (if_short 4338 (eqb n 14) _ _ (longer 59 4338 (variant AddRoute add_route_held route) (omega arith) (variant_short 59 AddRoute add_route_held route route_short))
    (if_short 4338 (eqb n 15) _ _ (longer 59 4338 (variant DelRoute del_route_held route) (omega arith) (variant_short 59 DelRoute del_route_held route route_short))
    (if_short 4338 (eqb n 16) _ _ (longer 72 4338 (variant AddRule add_rule_held rule) (omega arith) (variant_short 72 AddRule add_rule_held rule rule_short))
    (if_short 4338 (eqb n 17) _ _ (longer 72 4338 (variant DelRule del_rule_held rule) (omega arith) (variant_short 72 DelRule del_rule_held rule rule_short))
    (if_short 4338 (eqb n 18) _ _ (variant_short 4338 SetDns set_dns_held settings settings_short) (never_short 4338)))))))))))))))))))

-- no call has more bytes
pub call_short : TakesAtMost 4339 call_form
unfolding call_form
call_short = tagged_short 1 4338 call_number byte call_behind byte_short call_behind_short
