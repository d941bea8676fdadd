-- What the code's values show.
use Rattle.std.specs.Prelude.{◌≡◌, List, map, Result, Ok, Err}
use Rattle.yaml_read.specs.declared.stop.Why.{Why}
use Rattle.yaml_read.specs.declared.stop.Stop.{Stop}
use Rattle.yaml_read.specs.declared.stop.Stop.TheVariants.{Memory, Because}
use Rattle.yaml_read.specs.declared.fault.YamlFault.{YamlFault}
use Rattle.yaml_read.specs.declared.fault.YamlFault.TheVariants.{NotUtf8, Unsupported, Malformed, DuplicateKey, TooDeep, TooLarge, OutOfMemory}
use Rattle.yaml_read.specs.declared.rows.Row as code
use Rattle.yaml_read.specs.Rows.{Row}

-- a row of the code as a row of the definition
abbrev pub seen : code.Row → Row
seen r = record { number = r.number; column = r.column; text = r.text.items; line = r.line.items }

abbrev pub all_seen : List code.Row → List Row
all_seen rows = map seen rows

-- a reading of a line failed so, unless memory ran out
abbrev pub Fails : {Y : Type 0} → Stop → Result Y Why → Type 0
Fails Memory read = Unit {0}
Fails (Because why) read = read ≡ Err why

-- what a function returned, seen by view, is what the reading of a line gives, unless memory ran out
abbrev pub Gives : {X Y : Type 0} → (X → Y) → Result X Stop → Result Y Why → Type 0
Gives view (Ok x) read = read ≡ Ok (view x)
Gives view (Err e) read = Fails e read

-- the same of rows
abbrev pub Refuses : {Y : Type 0} → YamlFault → Result Y YamlFault → Type 0
Refuses (NotUtf8 n) read = read ≡ Err (NotUtf8 n)
Refuses (Unsupported n) read = read ≡ Err (Unsupported n)
Refuses (Malformed n) read = read ≡ Err (Malformed n)
Refuses (DuplicateKey n) read = read ≡ Err (DuplicateKey n)
Refuses (TooDeep n) read = read ≡ Err (TooDeep n)
Refuses TooLarge read = read ≡ Err TooLarge
Refuses OutOfMemory read = Unit {0}

abbrev pub Answers : {X Y : Type 0} → (X → Y) → Result X YamlFault → Result Y YamlFault → Type 0
Answers view (Ok x) read = read ≡ Ok (view x)
Answers view (Err f) read = Refuses f read

-- a fault is this one, unless memory ran out
abbrev pub Names : YamlFault → YamlFault → Type 0
Names (NotUtf8 n) fault = NotUtf8 n ≡ fault
Names (Unsupported n) fault = Unsupported n ≡ fault
Names (Malformed n) fault = Malformed n ≡ fault
Names (DuplicateKey n) fault = DuplicateKey n ≡ fault
Names (TooDeep n) fault = TooDeep n ≡ fault
Names TooLarge fault = TooLarge ≡ fault
Names OutOfMemory fault = Unit {0}
