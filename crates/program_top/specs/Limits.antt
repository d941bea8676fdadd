-- The numbers that definitions take from the code, each as the documents write it.
use Rattle.std.specs.Prelude.{◌≡◌}
use Rattle.net_model.specs.declared.limits.TheConstants.{MIN_MTU, MAX_MTU, DEFAULT_MTU, MAX_VLAN_ID, MAX_NAME_LEN, MAX_DOMAIN_LEN, MAX_LINKS, MAX_LINK_ADDRESSES, MAX_ADDRESSES, MAX_ROUTES, MAX_RULES, MAX_SERVERS, MAX_SEARCH}
use Rattle.doc_tree.specs.declared.limits.TheConstants.{MAX_BYTES, MAX_LEVELS}
use Rattle.policy_model.specs.declared.limits.TheConstants as policy
use Rattle.ip_batch.specs.declared.fault.TheConstants.{MAX_BATCH_BYTES}
use Rattle.command_words.specs.declared.command.TheConstants as words
use Rattle.kernel_model.specs.declared.refusal.TheConstants as refusal
use Rattle.net_image.specs.declared.first.TheConstants.{FIRST_MAX_LINKS, FIRST_MAX_ADDRESSES, FIRST_MAX_ROUTES, FIRST_MAX_RULES}
use Rattle.scenario_model.specs.declared.device.TheConstants as drawn
use Rattle.scenario_model.specs.declared.work.TheConstants as trial

-- what is read: the bytes of an input and of lines in the manner of ip(8), and the levels of a tree; the captures of a policy, and
-- the nodes of its value
pub record Inputs : Type 0 where
  pub bytes : MAX_BYTES ≡ 4194304
  pub batch_bytes : MAX_BATCH_BYTES ≡ 4194304
  pub levels : MAX_LEVELS ≡ 32
  pub captures : policy.MAX_CAPTURES ≡ 64
  pub nodes : policy.MAX_NODES ≡ 1048576

-- the parts of a network: MTUs in bytes, a VLAN id, the bytes of a link's name and of a search domain
pub record Parts : Type 0 where
  pub least_mtu : MIN_MTU ≡ 68
  pub greatest_mtu : MAX_MTU ≡ 65535
  pub new_mtu : DEFAULT_MTU ≡ 1500
  pub vlan_id : MAX_VLAN_ID ≡ 4094
  pub name : MAX_NAME_LEN ≡ 15
  pub domain : MAX_DOMAIN_LEN ≡ 253

-- how many of each a network may have
pub record Counts : Type 0 where
  pub links : MAX_LINKS ≡ 1024
  pub link_addresses : MAX_LINK_ADDRESSES ≡ 64
  pub addresses : MAX_ADDRESSES ≡ 8192
  pub routes : MAX_ROUTES ≡ 8192
  pub rules : MAX_RULES ≡ 2048
  pub servers : MAX_SERVERS ≡ 16
  pub search : MAX_SEARCH ≡ 16

-- and an image of version 1
pub record FirstImage : Type 0 where
  pub links : FIRST_MAX_LINKS ≡ 512
  pub addresses : FIRST_MAX_ADDRESSES ≡ 4096
  pub routes : FIRST_MAX_ROUTES ≡ 4096
  pub rules : FIRST_MAX_RULES ≡ 1024

-- the words: the seconds of an `apply` that names none, the devices of a workload, the nodes of a rollout and how many it may hold
pub record Arguments : Type 0 where
  pub timeout : words.DEFAULT_TIMEOUT ≡ 60
  pub least_devices : words.MIN_DEVICES ≡ 1
  pub most_devices : words.MAX_DEVICES ≡ 100
  pub least_nodes : words.MIN_NODES ≡ 1
  pub most_nodes : words.MAX_NODES ≡ 64

-- why the kernel refuses a call
pub record Refusals : Type 0 where
  pub no_link : refusal.NO_LINK ≡ 1
  pub link_exists : refusal.LINK_EXISTS ≡ 2
  pub physical : refusal.PHYSICAL ≡ 3
  pub bad_base : refusal.BAD_BASE ≡ 4
  pub vlan_twin : refusal.VLAN_TWIN ≡ 5
  pub cycle : refusal.CYCLE ≡ 6
  pub base_down : refusal.BASE_DOWN ≡ 7
  pub bad_mtu : refusal.BAD_MTU ≡ 8
  pub has_controller : refusal.HAS_CONTROLLER ≡ 9
  pub port_kind : refusal.PORT_KIND ≡ 10
  pub port_up : refusal.PORT_UP ≡ 11
  pub port_address : refusal.PORT_ADDRESS ≡ 12
  pub no_controller : refusal.NO_CONTROLLER ≡ 13
  pub bad_options : refusal.BAD_OPTIONS ≡ 14
  pub address_exists : refusal.ADDRESS_EXISTS ≡ 15
  pub no_address : refusal.NO_ADDRESS ≡ 16
  pub link_down : refusal.LINK_DOWN ≡ 17
  pub bad_gateway : refusal.BAD_GATEWAY ≡ 18
  pub route_exists : refusal.ROUTE_EXISTS ≡ 19
  pub no_route : refusal.NO_ROUTE ≡ 20
  pub rule_exists : refusal.RULE_EXISTS ≡ 21
  pub no_rule : refusal.NO_RULE ≡ 22
  pub limit : refusal.LIMIT ≡ 23

-- what a workload draws, and what its two documents state of it
pub record Draws : Type 0 where
  pub modulus : drawn.DRAW_MODULUS ≡ 65537
  pub factor : drawn.DRAW_FACTOR ≡ 75
  pub step : drawn.DRAW_STEP ≡ 74
  pub vlan_ids : drawn.VLAN_IDS ≡ 4095
  pub metrics : drawn.METRICS ≡ 1000
  pub devices : drawn.MAX_DEVICES ≡ 100
  pub rule_table : drawn.RULE_TABLE ≡ 100
  pub raised_mtu : drawn.RAISED_MTU ≡ 9000

-- and when it is applied, in seconds
pub record Trials : Type 0 where
  pub timeout : trial.TIMEOUT ≡ 60
  pub first_at : trial.FIRST_AT ≡ 100
  pub second_at : trial.SECOND_AT ≡ 200
