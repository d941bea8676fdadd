-- What a run is: the first network, and the changes that are made of it.
use Rattle.std.specs.Prelude.{◌≡◌, ◌⊎◌, ℕ, Bool, true, false, ◌&&◌, List, [], is_none, is_some, Result, Ok, Err}
use Rattle.std.specs.List.{list_all}
use Rattle.net_model.specs.Hardware.{device_of}
use Rattle.net_model.specs.NetData.{NetData, net_of, no_dns, ordered}
use Rattle.net_model.specs.Valid.{least_broken}
use Rattle.net_model.specs.declared.Link.{Link}
use Rattle.document_model.specs.declared.Doc.{Doc}
use Rattle.document_model.specs.declared.Refused.{Refused}
use Rattle.merge_model.specs.MergedNet.{merge}
use Rattle.engine_model.specs.Machine.{Asked, asked}
use Rattle.engine_model.specs.declared.answers.ApplyOpts.{ApplyOpts}
use Rattle.scenario_model.specs.declared.work.TheConstants.{TIMEOUT, FIRST_AT, SECOND_AT}

-- these links alone are a valid network, of devices; those of a hardware list are
abbrev pub is_hardware : List Link → Bool
is_hardware links = is_none (least_broken (net_of links [] [] no_dns)) && list_all (λ l. is_some (device_of l.name l.kind)) links

-- the network of these devices and nothing else
abbrev pub first_net : List Link → NetData
first_net links = ordered (net_of links [] [] no_dns)

-- what the document makes of a network that another one made, if that made one
abbrev pub then_merge : Doc → Result NetData Refused → Result NetData Refused
then_merge doc (Ok net) = merge net doc
then_merge doc (Err refused) = Err refused

-- what both documents make of a network, one after the other, or the refusal of one of the merges
abbrev pub both_merged : NetData → Doc → Doc → Result NetData Refused
both_merged from first second = then_merge second (merge from first)

abbrev pub options : Bool → ApplyOpts
options no_commit = record { no_commit = no_commit; no_verify = false; timeout = TIMEOUT }

-- the first document is applied without commit, to be taken back; then it is applied to stay, and the second one after it
abbrev pub trial : Doc → Asked
trial first = asked first (options true) 0

abbrev pub first_change : Doc → Asked
first_change first = asked first (options false) FIRST_AT

abbrev pub second_change : Doc → Asked
second_change second = asked second (options false) SECOND_AT

abbrev pub IsChange : Doc → Doc → Asked → Type 0
IsChange first second a = (a ≡ trial first) ⊎ (a ≡ first_change first) ⊎ (a ≡ second_change second)
