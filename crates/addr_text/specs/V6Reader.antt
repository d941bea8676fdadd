-- What the reader of IPv6 texts gives, step by step; specs/V6.antt has the grammar that it is shown to meet.
use Rattle.std.specs.Prelude.{ℕ, ◌+◌, ◌-◌, ◌*◌, ◌^◌, ◌<◌, ◌==◌, nat_le, List, [], ◌∷◌, Option, Some, None, take, drop, suc, zero, if◌then◌else◌}
use Rattle.std.specs.List.{position}
use Rattle.std.specs.Option.{option_map}
use Rattle.addr_text.specs.declared.v6.Last.{Last}
use Rattle.addr_text.specs.declared.v6.Last.TheVariants.{Field, FieldOrDotted}
use Rattle.addr_text.specs.declared.v6.Fields.{Fields}
use Rattle.addr_text.specs.Digits.{field_of}
use Rattle.addr_text.specs.Dotted.{dotted_of}
use Rattle.addr_text.specs.Find.{gap_of, at_place}

abbrev pub fields : ℕ → ℕ → Fields
fields n bits = record { count = n; bits = bits }

-- so many fields make no greater number
abbrev pub IsWithin : Fields → Type 0
IsWithin f = f.bits < 65536 ^ f.count

-- a dotted tail stands for two fields
abbrev pub tail_of : Last → ℕ → List ℕ → Option Fields
tail_of Field room t = None
tail_of FieldOrDotted room t = if nat_le 2 room then option_map (fields 2) (dotted_of t) else None

-- the last part of a run
abbrev pub end_of : Last → ℕ → List ℕ → Option Fields
end_of last room t = at_place (field_of t) (tail_of last room t) (λ v. Some (fields 1 v))

-- a field before a colon and what follows it
abbrev pub field_before : Option ℕ → Option Fields → Option Fields
field_before None rest = None
field_before (Some v) rest = option_map (λ f. fields (f.count + 1) (v * 65536 ^ f.count + f.bits)) rest

-- a run of at least one field and at most as many as said
abbrev pub run_of : Last → ℕ → List ℕ → Option Fields
run_of last zero t = None
run_of last (suc room) t = at_place (position (λ b. b == 58) t) (end_of last (suc room) t) (λ i. field_before (field_of (take i t)) (run_of last room (drop (i + 1) t)))

-- a run that may be empty
abbrev pub some_run_of : Last → List ℕ → Option Fields
some_run_of last [] = Some (fields 0 0)
some_run_of last (x ∷ xs) = run_of last 7 (x ∷ xs)

abbrev pub all_eight : Option Fields → Option ℕ
all_eight None = None
all_eight (Some f) = if f.count == 8 then Some f.bits else None

abbrev pub whole_of : List ℕ → Option ℕ
whole_of t = all_eight (run_of FieldOrDotted 8 t)

-- the two runs with zeros between them, at least one
abbrev pub around : Option Fields → Option Fields → Option ℕ
around None back = None
around (Some f) None = None
around (Some f) (Some g) = if nat_le (f.count + g.count) 7 then Some (f.bits * 65536 ^ (8 - f.count) + g.bits) else None

abbrev pub short_of : List ℕ → List ℕ → Option ℕ
short_of front back = around (some_run_of Field front) (some_run_of FieldOrDotted back)

-- the number of the whole text
abbrev pub v6_of : List ℕ → Option ℕ
v6_of t = at_place (gap_of t) (whole_of t) (λ i. short_of (take i t) (drop (i + 2) t))
