-- The form of a call is exact.
use Rattle.std.proofs.Common.{◌≡◌, ℕ, zero, suc, ◌≤◌, Bool, true, false, cond, eqb, ltb, List, [], ◌∷◌, ◌++◌, length, take, drop, Option, Some, None, refl, sym, ap, subst, ◌∙◌, append_assoc, arith, length-append}
use Rattle.std.specs.Option.{option_map, option_map_or}
use Rattle.std.proofs.lemmas.Bool.{and_parts, and_from, eqb-true, le-ltb, ltb-false}
use Rattle.std.proofs.lemmas.Option.{cond_some}
use Rattle.std.proofs.lemmas.List.{append-nil, nil_from_length, take_at, drop_at, take-append-drop, length-take-le}
use Rattle.net_model.specs.Address.{Block}
use Rattle.net_model.specs.Rule.{RuleParts}
use Rattle.net_model.specs.declared.call.Call.{Call}
use Rattle.net_model.specs.declared.call.Call.TheVariants.{AddLink, DelLink, Up, Down, SetMtu, SetMac, SetBond, SetBridge, Attach, Detach, SetPort, AddAddress, DelAddress, AddRoute, DelRoute, AddRule, DelRule, SetDns}
use Rattle.net_model.specs.declared.dns.Dns.{Dns}
use Rattle.net_model.specs.declared.link.Kind.{Kind}
use Rattle.net_model.specs.declared.mac.Mac.{Mac}
use Rattle.net_model.specs.declared.options.BondOpts.{BondOpts}
use Rattle.net_model.specs.declared.options.BridgeOpts.{BridgeOpts}
use Rattle.net_model.specs.declared.options.PortOpts.{PortOpts}
use Rattle.net_model.specs.declared.route.Route.{Route}
use Rattle.net_image.specs.Form.{Form, ◌⨾◌, byte, never, such_that, number, whole}
use Rattle.net_image.specs.Fields.{name, mac, prefix}
use Rattle.net_image.specs.Links.{kind, bond_options, bridge_options, port_options}
use Rattle.net_image.specs.Image.{route, rule, settings}
use Rattle.net_image.specs.Laws.{AreBytes, IsWritten, IsExact}
use Rattle.net_image.proofs.lemmas.Exact.{byte_exact, never_exact, such_that_exact, made_exact, variant_exact, seq_exact, tagged_exact}
use Rattle.net_image.proofs.lemmas.Reading.{bind_some, map_some, rest_are_bytes}
use Rattle.net_image.proofs.lemmas.Numbers.{number_exact}
use Rattle.net_image.proofs.lemmas.FieldLaws.{if_exact, told, name_exact, mac_exact, prefix_exact}
use Rattle.net_image.proofs.lemmas.LinkLaws.{kind_exact, bond_options_exact, bridge_options_exact, port_options_exact}
use Rattle.net_image.proofs.lemmas.RouteLaws.{route_exact}
use Rattle.net_image.proofs.lemmas.NetLaws.{rule_exact, settings_exact}
use Rattle.call_journal.specs.Calls.{call_number, call_behind, call_form, add_link_held, del_link_held, up_held, down_held, set_mtu_held, set_mac_held, set_bond_held, set_bridge_held, attach_held, detach_held, set_port_held, add_address_held, del_address_held, add_route_held, del_route_held, add_rule_held, del_rule_held, set_dns_held}
use Rattle.call_journal.specs.Records.{sized, sized_call, open_gate, open_record}

-- ---- what a variant holds is its fields

add_link_there : (c : Call) (f : List ℕ × Kind) → add_link_held c ≡ Some f → AddLink f.0 f.1 ≡ c
add_link_there (AddLink n k) f is = let same : ◌≡◌ {A = List ℕ × Kind} f (n, k) = cc in ap (λ (g : List ℕ × Kind). AddLink g.0 g.1) same
add_link_there _ f is = absurd cc

del_link_there : (c : Call) (f : List ℕ) → del_link_held c ≡ Some f → DelLink f ≡ c
del_link_there (DelLink n) f is = ap DelLink cc
del_link_there _ f is = absurd cc

up_there : (c : Call) (f : List ℕ) → up_held c ≡ Some f → Up f ≡ c
up_there (Up n) f is = ap Up cc
up_there _ f is = absurd cc

down_there : (c : Call) (f : List ℕ) → down_held c ≡ Some f → Down f ≡ c
down_there (Down n) f is = ap Down cc
down_there _ f is = absurd cc

set_mtu_there : (c : Call) (f : List ℕ × ℕ) → set_mtu_held c ≡ Some f → SetMtu f.0 f.1 ≡ c
set_mtu_there (SetMtu n v) f is = let same : ◌≡◌ {A = List ℕ × ℕ} f (n, v) = cc in ap (λ (g : List ℕ × ℕ). SetMtu g.0 g.1) same
set_mtu_there _ f is = absurd cc

set_mac_there : (c : Call) (f : List ℕ × Mac) → set_mac_held c ≡ Some f → SetMac f.0 f.1 ≡ c
set_mac_there (SetMac n v) f is = let same : ◌≡◌ {A = List ℕ × Mac} f (n, v) = cc in ap (λ (g : List ℕ × Mac). SetMac g.0 g.1) same
set_mac_there _ f is = absurd cc

set_bond_there : (c : Call) (f : List ℕ × BondOpts) → set_bond_held c ≡ Some f → SetBond f.0 f.1 ≡ c
set_bond_there (SetBond n v) f is = let same : ◌≡◌ {A = List ℕ × BondOpts} f (n, v) = cc in ap (λ (g : List ℕ × BondOpts). SetBond g.0 g.1) same
set_bond_there _ f is = absurd cc

set_bridge_there : (c : Call) (f : List ℕ × BridgeOpts) → set_bridge_held c ≡ Some f → SetBridge f.0 f.1 ≡ c
set_bridge_there (SetBridge n v) f is = let same : ◌≡◌ {A = List ℕ × BridgeOpts} f (n, v) = cc in ap (λ (g : List ℕ × BridgeOpts). SetBridge g.0 g.1) same
set_bridge_there _ f is = absurd cc

attach_there : (c : Call) (f : List ℕ × List ℕ) → attach_held c ≡ Some f → Attach f.0 f.1 ≡ c
attach_there (Attach n v) f is = let same : ◌≡◌ {A = List ℕ × List ℕ} f (n, v) = cc in ap (λ (g : List ℕ × List ℕ). Attach g.0 g.1) same
attach_there _ f is = absurd cc

detach_there : (c : Call) (f : List ℕ) → detach_held c ≡ Some f → Detach f ≡ c
detach_there (Detach n) f is = ap Detach cc
detach_there _ f is = absurd cc

set_port_there : (c : Call) (f : List ℕ × PortOpts) → set_port_held c ≡ Some f → SetPort f.0 f.1 ≡ c
set_port_there (SetPort n v) f is = let same : ◌≡◌ {A = List ℕ × PortOpts} f (n, v) = cc in ap (λ (g : List ℕ × PortOpts). SetPort g.0 g.1) same
set_port_there _ f is = absurd cc

add_address_there : (c : Call) (f : List ℕ × Block) → add_address_held c ≡ Some f → AddAddress f.0 f.1 ≡ c
add_address_there (AddAddress n v) f is = let same : ◌≡◌ {A = List ℕ × Block} f (n, v) = cc in ap (λ (g : List ℕ × Block). AddAddress g.0 g.1) same
add_address_there _ f is = absurd cc

del_address_there : (c : Call) (f : List ℕ × Block) → del_address_held c ≡ Some f → DelAddress f.0 f.1 ≡ c
del_address_there (DelAddress n v) f is = let same : ◌≡◌ {A = List ℕ × Block} f (n, v) = cc in ap (λ (g : List ℕ × Block). DelAddress g.0 g.1) same
del_address_there _ f is = absurd cc

add_route_there : (c : Call) (f : Route) → add_route_held c ≡ Some f → AddRoute f ≡ c
add_route_there (AddRoute r) f is = ap AddRoute cc
add_route_there _ f is = absurd cc

del_route_there : (c : Call) (f : Route) → del_route_held c ≡ Some f → DelRoute f ≡ c
del_route_there (DelRoute r) f is = ap DelRoute cc
del_route_there _ f is = absurd cc

add_rule_there : (c : Call) (f : RuleParts) → add_rule_held c ≡ Some f → AddRule f ≡ c
add_rule_there (AddRule r) f is = ap AddRule cc
add_rule_there _ f is = absurd cc

del_rule_there : (c : Call) (f : RuleParts) → del_rule_held c ≡ Some f → DelRule f ≡ c
del_rule_there (DelRule r) f is = ap DelRule cc
del_rule_there _ f is = absurd cc

set_dns_there : (c : Call) (f : Dns) → set_dns_held c ≡ Some f → SetDns f ≡ c
set_dns_there (SetDns d) f is = ap SetDns cc
set_dns_there _ f is = absurd cc

-- ---- calls

call_behind_exact : (n : ℕ) → IsExact (call_behind n)
call_behind_exact n =
    (if_exact (eqb n 1) _ _ (variant_exact (λ f. AddLink f.0 f.1) add_link_held (name ⨾ kind) (seq_exact name kind name_exact kind_exact) add_link_there (λ f fits. refl))
    (if_exact (eqb n 2) _ _ (variant_exact DelLink del_link_held name name_exact del_link_there (λ f fits. refl))
    (if_exact (eqb n 3) _ _ (variant_exact Up up_held name name_exact up_there (λ f fits. refl))
    (if_exact (eqb n 4) _ _ (variant_exact Down down_held name name_exact down_there (λ f fits. refl))
    (if_exact (eqb n 5) _ _ (variant_exact (λ f. SetMtu f.0 f.1) set_mtu_held (name ⨾ number 4) (seq_exact name (number 4) name_exact (number_exact 4)) set_mtu_there (λ f fits. refl))
    (if_exact (eqb n 6) _ _ (variant_exact (λ f. SetMac f.0 f.1) set_mac_held (name ⨾ mac) (seq_exact name mac name_exact mac_exact) set_mac_there (λ f fits. refl))
    (if_exact (eqb n 7) _ _ (variant_exact (λ f. SetBond f.0 f.1) set_bond_held (name ⨾ bond_options) (seq_exact name bond_options name_exact bond_options_exact) set_bond_there (λ f fits. refl))
    (if_exact (eqb n 8) _ _ (variant_exact (λ f. SetBridge f.0 f.1) set_bridge_held (name ⨾ bridge_options) (seq_exact name bridge_options name_exact bridge_options_exact) set_bridge_there (λ f fits. refl))
    (if_exact (eqb n 9) _ _ (variant_exact (λ f. Attach f.0 f.1) attach_held (name ⨾ name) (seq_exact name name name_exact name_exact) attach_there (λ f fits. refl))
    (if_exact (eqb n 10) _ _ (variant_exact Detach detach_held name name_exact detach_there (λ f fits. refl))
    (if_exact (eqb n 11) _ _ (variant_exact (λ f. SetPort f.0 f.1) set_port_held (name ⨾ port_options) (seq_exact name port_options name_exact port_options_exact) set_port_there (λ f fits. refl))
    (if_exact (eqb n 12) _ _ (variant_exact (λ f. AddAddress f.0 f.1) add_address_held (name ⨾ prefix) (seq_exact name prefix name_exact prefix_exact) add_address_there (λ f fits. refl))
    (if_exact (eqb n 13) _ _ (variant_exact (λ f. DelAddress f.0 f.1) del_address_held (name ⨾ prefix) (seq_exact name prefix name_exact prefix_exact) del_address_there (λ f fits. refl))
    (if_exact (eqb n 14) _ _ (variant_exact AddRoute add_route_held route route_exact add_route_there (λ f fits. refl))
    (if_exact (eqb n 15) _ _ (variant_exact DelRoute del_route_held route route_exact del_route_there (λ f fits. refl))
    (if_exact (eqb n 16) _ _ (variant_exact AddRule add_rule_held rule rule_exact add_rule_there (λ f fits. refl))
    (if_exact (eqb n 17) _ _ (variant_exact DelRule del_rule_held rule rule_exact del_rule_there (λ f fits. refl))
    (if_exact (eqb n 18) _ _ (variant_exact SetDns set_dns_held settings settings_exact set_dns_there (λ f fits. refl)) never_exact))))))))))))))))))

-- what a variant has bytes of is of that variant
of_variant : {Y : Type 0} (n : ℕ) (held : Call → Option Y) (to : Y → Call) (fits : Y → Bool) (c : Call) (o : Option Y) → held c ≡ o → ((f : Y) → held c ≡ Some f → to f ≡ c) → ((f : Y) → call_number (to f) ≡ n)
    → option_map_or fits o false ≡ true → call_number c ≡ n
of_variant n held to fits c None is there numbered has = absurd cc
of_variant n held to fits c (Some f) is there numbered has = ap call_number (sym (there f is)) ∙ numbered f

call_told : (n : ℕ) (c : Call) → (call_behind n).fits c ≡ true → call_number c ≡ n
call_told n c fits =
    told n 1 call_number _ _ c fits (λ h. of_variant 1 add_link_held (λ f. AddLink f.0 f.1) (name ⨾ kind).fits c (add_link_held c) refl (add_link_there c) (λ f. refl) h) (λ o1.
    told n 2 call_number _ _ c o1 (λ h. of_variant 2 del_link_held DelLink name.fits c (del_link_held c) refl (del_link_there c) (λ f. refl) h) (λ o2.
    told n 3 call_number _ _ c o2 (λ h. of_variant 3 up_held Up name.fits c (up_held c) refl (up_there c) (λ f. refl) h) (λ o3.
    told n 4 call_number _ _ c o3 (λ h. of_variant 4 down_held Down name.fits c (down_held c) refl (down_there c) (λ f. refl) h) (λ o4.
    told n 5 call_number _ _ c o4 (λ h. of_variant 5 set_mtu_held (λ f. SetMtu f.0 f.1) (name ⨾ number 4).fits c (set_mtu_held c) refl (set_mtu_there c) (λ f. refl) h) (λ o5.
    told n 6 call_number _ _ c o5 (λ h. of_variant 6 set_mac_held (λ f. SetMac f.0 f.1) (name ⨾ mac).fits c (set_mac_held c) refl (set_mac_there c) (λ f. refl) h) (λ o6.
    told n 7 call_number _ _ c o6 (λ h. of_variant 7 set_bond_held (λ f. SetBond f.0 f.1) (name ⨾ bond_options).fits c (set_bond_held c) refl (set_bond_there c) (λ f. refl) h) (λ o7.
    told n 8 call_number _ _ c o7 (λ h. of_variant 8 set_bridge_held (λ f. SetBridge f.0 f.1) (name ⨾ bridge_options).fits c (set_bridge_held c) refl (set_bridge_there c) (λ f. refl) h) (λ o8.
    told n 9 call_number _ _ c o8 (λ h. of_variant 9 attach_held (λ f. Attach f.0 f.1) (name ⨾ name).fits c (attach_held c) refl (attach_there c) (λ f. refl) h) (λ o9.
    told n 10 call_number _ _ c o9 (λ h. of_variant 10 detach_held Detach name.fits c (detach_held c) refl (detach_there c) (λ f. refl) h) (λ o10.
    told n 11 call_number _ _ c o10 (λ h. of_variant 11 set_port_held (λ f. SetPort f.0 f.1) (name ⨾ port_options).fits c (set_port_held c) refl (set_port_there c) (λ f. refl) h) (λ o11.
    told n 12 call_number _ _ c o11 (λ h. of_variant 12 add_address_held (λ f. AddAddress f.0 f.1) (name ⨾ prefix).fits c (add_address_held c) refl (add_address_there c) (λ f. refl) h) (λ o12.
    told n 13 call_number _ _ c o12 (λ h. of_variant 13 del_address_held (λ f. DelAddress f.0 f.1) (name ⨾ prefix).fits c (del_address_held c) refl (del_address_there c) (λ f. refl) h) (λ o13.
    told n 14 call_number _ _ c o13 (λ h. of_variant 14 add_route_held AddRoute route.fits c (add_route_held c) refl (add_route_there c) (λ f. refl) h) (λ o14.
    told n 15 call_number _ _ c o14 (λ h. of_variant 15 del_route_held DelRoute route.fits c (del_route_held c) refl (del_route_there c) (λ f. refl) h) (λ o15.
    told n 16 call_number _ _ c o15 (λ h. of_variant 16 add_rule_held AddRule rule.fits c (add_rule_held c) refl (add_rule_there c) (λ f. refl) h) (λ o16.
    told n 17 call_number _ _ c o16 (λ h. of_variant 17 del_rule_held DelRule rule.fits c (del_rule_held c) refl (del_rule_there c) (λ f. refl) h) (λ o17.
    told n 18 call_number _ never c o17 (λ h. of_variant 18 set_dns_held SetDns settings.fits c (set_dns_held c) refl (set_dns_there c) (λ f. refl) h) (λ o18. absurd cc))))))))))))))))))

-- reading a call gives back what was written, and nothing else
pub call_exact : IsExact call_form
unfolding call_form
call_exact = tagged_exact call_number byte call_behind byte_exact call_behind_exact call_told

-- all of the bytes are read
pub whole_again : {X : Type 0} (form : Form X) → IsExact form → (x : X) → form.fits x ≡ true → whole form (form.write x) ≡ Some x
whole_again form exact x fits =
    let all : form.read (form.write x) ≡ Some (x, []) = ap form.read (sym (append-nil (form.write x))) ∙ exact.again x [] fits in
    rw all refl

module _ {X : Type 0} (count : Form ℕ) (form : Form X) (count_exact : IsExact count) (exact : IsExact form) where
  sized_again : (x : X) (rest : List ℕ) → (sized count form).fits x ≡ true → (sized count form).read ((sized count form).write x ++ rest) ≡ Some (x, rest)
  sized_again x rest fits =
      let w = form.write x in
      let n = length w in
      let parts = and_parts (form.fits x) (count.fits n) fits in
      let regrouped : (count.write n ++ w) ++ rest ≡ count.write n ++ (w ++ rest) = append_assoc (count.write n) w rest in
      let long : ltb (length (w ++ rest)) n ≡ false = le-ltb _ _ (omega (arith, length-append w rest)) in
      let body : whole form (take n (w ++ rest)) ≡ Some x = ap (whole form) (take_at w rest n refl) ∙ whole_again form exact x parts.0 in
      ap (sized count form).read regrouped ∙ rw (count_exact.again n (w ++ rest) parts.1, long, body) (ap (λ (l : List ℕ). Some (x, l)) (drop_at w rest n refl))

  sized_only : (bytes rest : List ℕ) (x : X) → AreBytes bytes → (sized count form).read bytes ≡ Some (x, rest) → IsWritten (sized count form) bytes x rest
  sized_only bytes rest x are got =
      let a = bind_some (count.read bytes) (λ (p : ℕ × List ℕ). cond (ltb (length p.1) p.0) None (option_map (λ (y : X). (y, drop p.0 p.1)) (whole form (take p.0 p.1)))) (x, rest) got in
      let n = a.0.0 in
      let behind = a.0.1 in
      let b = kept (ltb (length behind) n) (option_map (λ (y : X). (y, drop n behind)) (whole form (take n behind))) (x, rest) a.2 in
      let m = map_some (whole form (take n behind)) (λ (y : X). (y, drop n behind)) (x, rest) b.1 in
      let number = count_exact.only bytes behind n are a.1 in
      let behind_are : AreBytes behind = rest_are_bytes (count.write n) behind (subst AreBytes number.bytes_are are) in
      let front = whole_only (take n behind) m.0 (front_are n behind behind_are) m.1 in
      let long : n ≤ length behind = ltb-false _ _ b.0 in
      let size : length (form.write m.0) ≡ n = sym (ap length front.1) ∙ length-take-le n behind long in
      let whole_bytes : bytes ≡ (count.write (length (form.write m.0)) ++ form.write m.0) ++ drop n behind =
      number.bytes_are ∙ ap (λ (l : List ℕ). count.write n ++ l) (sym (take-append-drop n behind) ∙ ap (λ (l : List ℕ). l ++ drop n behind) front.1)
      ∙ sym (append_assoc (count.write n) (form.write m.0) (drop n behind)) ∙ ap (λ (k : ℕ). (count.write k ++ form.write m.0) ++ drop n behind) (sym size) in
      subst (λ (q : X × List ℕ). IsWritten (sized count form) bytes q.0 q.1) m.2
      (record { bytes_are = whole_bytes; fits = and_from _ _ front.0 (ap count.fits size ∙ number.fits) })
    where
      kept : (t : Bool) (o : Option (X × List ℕ)) (y : X × List ℕ) → cond t None o ≡ Some y → (t ≡ false) × (o ≡ Some y)
      kept true o y e = absurd cc
      kept false o y e = (refl, e)

      front_are : (n : ℕ) (l : List ℕ) → AreBytes l → AreBytes (take n l)
      front_are zero l l_are i = omega arith
      front_are (suc n) [] l_are i = l_are i
      front_are (suc n) (c ∷ l) l_are zero = l_are 0
      front_are (suc n) (c ∷ l) l_are (suc i) = front_are n l (λ j. l_are (suc j)) i

      -- what is read whole was written so
      whole_only : (l : List ℕ) (y : X) → AreBytes l → whole form l ≡ Some y → (form.fits y ≡ true) × (l ≡ form.write y)
      whole_only l y l_are is =
          let p = bind_some (form.read l) (λ (q : X × List ℕ). cond (eqb (length q.1) 0) (Some q.0) None) y is in
          let c = cond_some (eqb (length p.0.1) 0) p.0.0 y p.2 in
          let none : p.0.1 ≡ [] = nil_from_length p.0.1 (eqb-true _ _ c.0) in
          let w = exact.only l p.0.1 p.0.0 l_are p.1 in
          (ap form.fits (sym c.1) ∙ w.fits, w.bytes_are ∙ ap (λ (r : List ℕ). form.write p.0.0 ++ r) none ∙ append-nil (form.write p.0.0) ∙ ap form.write c.1)

  -- so does a value behind its length
  pub sized_exact : IsExact (sized count form)
  sized_exact = record { again = sized_again; only = sized_only }

-- a call behind its length
pub sized_call_exact : IsExact sized_call
unfolding sized_call
sized_call_exact = sized_exact (number 2) call_form (number_exact 2) call_exact

open_gate_exact : IsExact open_gate
open_gate_exact = made_exact (λ n. tt) (λ u. 1) (such_that (λ n. eqb n 1) byte) (such_that_exact (λ n. eqb n 1) byte byte_exact) (λ u fits. refl) (λ n fits. sym (eqb-true n 1 (and_parts _ _ fits).0))

-- and a record
pub record_exact : IsExact open_record
unfolding open_record
record_exact = made_exact (λ p. p.1) (λ c. (tt, c)) (open_gate ⨾ sized_call) (seq_exact open_gate sized_call open_gate_exact sized_call_exact) (λ c fits. refl) (λ p fits. refl)
