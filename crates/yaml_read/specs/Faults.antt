-- The fault of a line that can't continue a valid document.
use Rattle.std.specs.Prelude.{ℕ, Bool, true, false, ◌||◌, if◌then◌else◌, List, length, Option, Some, None, Result, Ok, Err}
use Rattle.doc_tree.specs.Shape.{Shape}
use Rattle.yaml_read.specs.declared.stop.Why.{Why}
use Rattle.yaml_read.specs.declared.stop.Why.TheVariants.{Outside, Repeated, Deep, Unfit}
use Rattle.yaml_read.specs.declared.stop.Repeats.{Repeats}
use Rattle.yaml_read.specs.declared.stop.Repeats.TheVariants.{Refused, Taken}
use Rattle.yaml_read.specs.declared.fault.YamlFault.{YamlFault}
use Rattle.yaml_read.specs.declared.fault.YamlFault.TheVariants as faults
use Rattle.yaml_read.specs.Keys.{key}
use Rattle.yaml_read.specs.OnLine.{on_line}
use Rattle.yaml_read.specs.Rows.{Row}
use Rattle.yaml_read.specs.Outside.{is_outside, entry_is_open, entry_of, has_two_dashes}
use Rattle.yaml_plain.specs.declared.style.Style.TheVariants.{Block}

abbrev pub behind_key : List ℕ → Option (List ℕ × List ℕ) → List ℕ
behind_key bs (Some k) = k.1
behind_key bs None = bs

-- an entry read by itself, as deep as it may be: the value behind its key, or the value that it is
unfoldable pub entry_by_itself : Repeats → List ℕ → Result (Option Shape) Why
entry_by_itself repeats bs = on_line repeats (length bs) (behind_key bs (key Block bs))

abbrev pub is_other : Result (Option Shape) Why → Bool
is_other (Ok t) = false
is_other (Err Outside) = true
is_other (Err Repeated) = false
is_other (Err Deep) = false
is_other (Err Unfit) = false

abbrev pub is_repeat : Result (Option Shape) Why → Bool
is_repeat (Ok t) = false
is_repeat (Err Outside) = false
is_repeat (Err Repeated) = true
is_repeat (Err Deep) = false
is_repeat (Err Unfit) = false

-- The line by itself lies outside the subset: as a whole, by two dashes, by what isn't closed, or by a sign where a value or
-- a key begins, up to the place where the line stops being an entry. Repeated keys don't stop it there.
unfoldable pub has_other : Row → Bool
has_other r =
    (is_outside r || has_two_dashes r.line)
    || (entry_is_open (entry_of r.line) || is_other (entry_by_itself Taken (entry_of r.line)))

-- a flow map on the line has a repeated key before that place
unfoldable pub has_repeat : Row → Bool
has_repeat r = is_repeat (entry_by_itself Refused (entry_of r.line))

abbrev pub by_cause : Why → ℕ → YamlFault
by_cause Outside n = faults.Unsupported n
by_cause Repeated n = faults.DuplicateKey n
by_cause Deep n = faults.TooDeep n
by_cause Unfit n = faults.Malformed n

-- the fault of a row, by the line alone and then by why it can't continue
unfoldable pub fault_of : Why → Row → YamlFault
fault_of why r =
    if has_other r then faults.Unsupported r.number
    else if has_repeat r then faults.DuplicateKey r.number
    else by_cause why r.number
