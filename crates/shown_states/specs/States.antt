-- The networks that the commands leave, as far as printing them is concerned.
use Rattle.std.specs.Prelude.{◌≡◌, ℕ, Bool, true, List, None, IfSome, IfOk}
use Rattle.std.specs.List.{All}
use Rattle.net_model.specs.NetData.{NetData, IsNet}
use Rattle.net_model.specs.declared.Link.{Link}
use Rattle.document_model.specs.Entries.{passes, is_station, is_document}
use Rattle.merge_model.specs.Kinds.{permanent_of}
use Rattle.link_schema.specs.Hardware.{built_in}
use Rattle.checkpoint_cell.specs.Settled.{Standing}
use Rattle.scenario_model.specs.Asking.{is_hardware}
use Rattle.shown_model.specs.Printable.{IsPrintable}
use Rattle.top_model.specs.Orders.{Text, Inputs, Order, document_on, applying, applying_policy, making, order_of}
use Rattle.top_model.specs.Machine.{machine_of}

-- ---- networks

-- the permanent MAC of each Ethernet link has an even first byte and isn't all zero
abbrev pub HasStations : NetData → Type 0
HasStations net = All (λ (l : Link). passes is_station (permanent_of l.kind) ≡ true) net.links

-- A network that is printable and stays so: an Ethernet link that is stated absent gets its permanent MAC back, so that
-- one has to be right too.
pub record StaysPrintable (net : NetData) : Type 0 where
  pub valid : IsNet net
  pub printable : IsPrintable net
  pub stations : HasStations net

-- the network that stands, if any, and the one in the checkpoint, if any
pub record PrintableStanding (e : Standing) : Type 0 where
  pub net : IfSome e.net StaysPrintable
  pub saved : IfSome e.cell (λ c. IfSome c.net StaysPrintable)

-- ---- orders

-- the links of a hardware list: a valid network of devices, each as it is built in, with a MAC whose first byte is even
-- and that isn't all zero
pub record IsHardwareList (links : List Link) : Type 0 where
  pub valid : is_hardware links ≡ true
  pub built : All (λ (l : Link). l ≡ built_in l.name l.mac) links
  pub stations : All (λ (l : Link). is_station l.mac ≡ true) links

-- the document that an order applies, or that its policy is on any network, and the links that it makes a network of, are as the readers
-- give them
abbrev pub IsRight : Order → Type 0
IsRight (applying doc opts) = is_document doc ≡ true
IsRight (applying_policy p opts) = (net : NetData) → IfOk (document_on p net) (λ doc. is_document doc ≡ true)
IsRight (making links) = IsHardwareList links
IsRight _ = Unit {0}

-- ---- what is reached

-- where there is neither a network nor a checkpoint
abbrev pub nothing : Standing
nothing = record { net = None; cell = None }

-- nothing, and what the order of any words leaves, whatever stands in the inputs, of what was reached
pub data IsReached : Standing → Type 0 where
  begins : IsReached nothing
  goes_on : (now : ℕ) (in_script : Bool) (inputs : Inputs) (words : List Text) (e : Standing) → IsReached e → IsReached (machine_of now (order_of in_script inputs words) e).after
