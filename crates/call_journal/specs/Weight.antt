-- What the records of a journal weigh: how dear they are to replay.
use Rattle.std.specs.Prelude.{ℕ, zero, suc, ◌+◌, ◌-◌, Bool, true, false, List, length, if◌then◌else◌}
use Rattle.std.specs.Option.{option_map_or}
use Rattle.net_model.specs.declared.call.Call.{Call}
use Rattle.net_model.specs.declared.call.Call.TheVariants.{DelLink, Down, SetMtu, DelAddress}
use Rattle.call_journal.specs.Records.{open_record, is_open}

-- the call may change more than the link that it names: what hangs on that, or the routes over it
abbrev pub is_wide : Call → Bool
is_wide (DelLink _) = true
is_wide (Down _) = true
is_wide (SetMtu _ _) = true
is_wide (DelAddress _ _) = true
is_wide _ = false

-- the record of a call, which has so many bytes: its length, or for a wide call always the same
abbrev pub weight_of : Call → ℕ → ℕ
weight_of call size = if is_wide call then 1024 else size

-- the records up to the first gate that isn't open, or to an open gate without a whole record
abbrev pub weight_in : ℕ → List ℕ → ℕ
weight_in zero bytes = 0
weight_in (suc n) bytes = if is_open bytes then option_map_or (λ r. weight_of r.0 (length bytes - length r.1) + weight_in n r.1) (open_record.read bytes) 0 else 0

-- a record has bytes, so that there are no more records than bytes
unfoldable pub journal_weight : List ℕ → ℕ
journal_weight bytes = weight_in (length bytes) bytes

-- how much more a journal of this weight may weigh before a call folds
abbrev pub spare_of : ℕ → ℕ
spare_of weight = 131072 - weight
