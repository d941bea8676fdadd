use Rattle.net_index.proofs.indexes.Indexes.fill.Goals as goal

pub returns : goal.returns
returns c = record {
  over = c.in_ok-add_bases.ensures;
  ports = c.in_ok-add_ports.ensures;
  by_dev = c.in_ok-add_keys.ensures;
  vlans = c.in_ok-add_vlan_keys.ensures;
}
