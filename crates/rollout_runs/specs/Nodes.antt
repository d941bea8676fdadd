-- What the host of a node tells: what the host in memory tells that it holds.
use Rattle.host_core.specs.HostView.{HostView, IsLawfulHost}
use Rattle.host_memory.specs.HostMemory.{told_of, lawful_host}
use Rattle.rollout_runs.specs.declared.nodes.Node.{Node}

abbrev pub node_told : Node → HostView
node_told node = told_of node.host

pub lawful_node : (node : Node) → IsLawfulHost (Unit {0}) (node_told node)
lawful_node node = lawful_host node.host
