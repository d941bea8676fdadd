-- A record of the journal: a gate, the length of a call in two bytes, and the bytes of the call.
use Rattle.std.specs.Prelude.{ℕ, ◌==◌, ◌&&◌, nat_lt, List, ◌++◌, length, take, drop, None, option_map, option_and_then, slice_index, Bool, if◌then◌else◌}
use Rattle.net_model.specs.declared.call.Call.{Call}
use Rattle.net_image.specs.Form.{Form, ◌⨾◌, byte, such_that, made, number, whole}
use Rattle.call_journal.specs.Calls.{call_form}

-- the bytes of a value behind their length: so many bytes, and all of them are the value's
abbrev pub sized : {X : Type 0} → Form ℕ → Form X → Form X
sized count form = record {
  write = λ x. count.write (length (form.write x)) ++ form.write x;
  fits = λ x. form.fits x && count.fits (length (form.write x));
  read = λ bytes. option_and_then (λ n. if nat_lt (length n.1) n.0 then None else option_map (λ x. (x, drop n.0 n.1)) (whole form (take n.0 n.1))) (count.read bytes);
}

-- a gate that is open: what follows it counts
abbrev pub open_gate : Form (Unit {0})
open_gate = made (λ n. tt) (λ u. 1) (such_that (λ n. n == 1) byte)

-- a call behind its length in two bytes
unfoldable pub sized_call : Form Call
sized_call = sized (number 2) call_form

-- an open gate, and a call behind its length
unfoldable pub open_record : Form Call
open_record = made (λ p. p.1) (λ c. (tt, c)) (open_gate ⨾ sized_call)

-- the bytes begin with an open gate
abbrev pub is_open : List ℕ → Bool
is_open bytes = slice_index bytes 0 == 1
