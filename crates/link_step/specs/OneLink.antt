-- What a call on links writes on the link that it names, where it changes that link alone and nothing that an index reads.
use Rattle.net_model.specs.declared.Link.{Link}
use Rattle.net_model.specs.declared.Call.{Call}
use Rattle.net_model.specs.declared.Call.TheVariants.{Up, SetMac, SetBond, SetBridge, SetPort}
use Rattle.kernel_model.specs.UpDown.{raised}
use Rattle.kernel_model.specs.Settings.{with_mac, with_bond, with_bridge}
use Rattle.kernel_model.specs.Ports.{with_port}

abbrev pub written : Call → Link → Link
written (Up name) l = raised l
written (SetMac name mac) l = with_mac mac l
written (SetBond name opts) l = with_bond opts l
written (SetBridge name opts) l = with_bridge opts l
written (SetPort port opts) l = with_port opts l
written _ l = l
