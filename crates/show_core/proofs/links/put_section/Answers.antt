use Rattle.show_core.proofs.links.put_section.Goals as goal

pub returns-in-Bond : goal.returns-in-Bond
returns-in-Bond c held h = rw c.in-Bond.is (c.put.ensures held _ h c.bond_section.ensures)

pub returns-in-Bridge : goal.returns-in-Bridge
returns-in-Bridge c held h = rw c.in-Bridge.is (c.put-in-Bridge.ensures held _ h c.bridge_section.ensures)

pub returns-in-Vlan : goal.returns-in-Vlan
returns-in-Vlan c held h = rw c.in-Vlan.is (c.put-in-Vlan.ensures held _ h c.vlan_section.ensures)

pub returns-in-Vrf : goal.returns-in-Vrf
returns-in-Vrf c held h = rw c.in-Vrf.is (c.put-in-Vrf.ensures held _ h c.vrf_section.ensures)

pub returns-in-Veth : goal.returns-in-Veth
returns-in-Veth c held h = rw c.in-Veth.is (c.put-in-Veth.ensures held _ h c.veth_section.ensures)
