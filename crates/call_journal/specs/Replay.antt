-- What the records of a journal lead to.
use Rattle.std.specs.Prelude.{◌≡◌, ℕ, zero, suc, ◌-◌, true, false, List, [], ◌∷◌, ◌++◌, length, Option, Some, None, option_map, option_and_then, Ok, Err, if◌then◌else◌}
use Rattle.std.specs.List.{flat_map, list_all}
use Rattle.net_model.specs.NetData.{NetData}
use Rattle.net_model.specs.declared.call.Call.{Call}
use Rattle.kernel_model.specs.Kernel.{step}
use Rattle.kernel_model.specs.Outcome.{Outcome}
use Rattle.kernel_model.specs.Runs.{Runs}
use Rattle.call_journal.specs.Records.{open_record, is_open}

-- ---- as they are read

-- the calls of the records up to the first gate that isn't open, and the bytes from there on
abbrev pub records_in : ℕ → List ℕ → Option (List Call × List ℕ)
records_in zero bytes = Some ([], bytes)
records_in (suc n) bytes =
    if is_open bytes then option_and_then (λ r. option_map (λ rest. (r.0 ∷ rest.0, rest.1)) (records_in n r.1)) (open_record.read bytes)
    else Some ([], bytes)

-- a record has bytes, so that there are no more records than bytes
unfoldable pub journal : List ℕ → Option (List Call × List ℕ)
journal bytes = records_in (length bytes) bytes

abbrev pub accepted : Outcome → Option NetData
accepted (Ok net) = Some net
accepted (Err k) = None

-- the network after the calls, where each is accepted in turn
abbrev pub after_calls : List Call → NetData → Option NetData
after_calls [] net = Some net
after_calls (call ∷ calls) net = option_and_then (after_calls calls) (accepted (step call net))

-- The network that the records lead to, and the place of the first gate that isn't open, or the length where there is
-- none. There is neither where an open gate isn't followed by a whole record of a call that is accepted there.
unfoldable pub replayed : NetData → List ℕ → Option (NetData × ℕ)
replayed net bytes = option_and_then (λ j. option_map (λ last. (last, length bytes - length j.1)) (after_calls j.0 net)) (journal bytes)

-- ---- as they are written

-- the bytes are records of these calls, and what is behind them doesn't begin with an open gate
pub record IsJournal (bytes : List ℕ) (calls : List Call) (rest : List ℕ) : Type 0 where
  pub fits : list_all open_record.fits calls ≡ true
  pub spelled : bytes ≡ flat_map open_record.write calls ++ rest
  pub ends : is_open rest ≡ false

-- the records of the bytes lead from the one network to the other, and end at this place
pub record Replays (net : NetData) (bytes : List ℕ) (last : NetData) (place : ℕ) : Type 0 where
  pub calls : List Call
  pub rest : List ℕ
  pub records : IsJournal bytes calls rest
  pub runs : Runs calls net last
  pub place_is : place ≡ length (flat_map open_record.write calls)

-- a prefix of the records leads from the one network to the other
pub record LedTo (net : NetData) (bytes : List ℕ) (last : NetData) : Type 0 where
  pub calls : List Call
  pub rest : List ℕ
  pub fits : list_all open_record.fits calls ≡ true
  pub spelled : bytes ≡ flat_map open_record.write calls ++ rest
  pub runs : Runs calls net last
