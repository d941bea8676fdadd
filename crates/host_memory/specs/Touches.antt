-- What a stop leaves of one area, by what touched it: the writes and syncs of a record, the newest of them first.
use Rattle.std.specs.Prelude.{ℕ, zero, suc, ◌+◌, ◌-◌, ◌/◌, Bool, true, false, List, [], ◌∷◌, ◌++◌, length, take, drop, replicate, map, reverse, Option, Some, None, ⊤}
use Rattle.std.specs.Coded.{×_prop, Unit-prop}
use Rattle.std.proofs.Props.{props}
use Rattle.host_core.specs.Bytes.{Torn}

-- an event as one area sees it: a write with what was there before, a sync, or neither
pub data Touch : Type 0 where
  Writes : (at len : ℕ) (before : List ℕ) → Touch
  Syncs : Touch
  Spares : Touch

-- what was there before it, if it is a write
abbrev pub before_of : Touch → Option (List ℕ)
before_of (Writes at len before) = Some before
before_of Syncs = None
before_of Spares = None

-- where it wrote, and how many bytes
abbrev pub range_of : Touch → Option (ℕ × ℕ)
range_of (Writes at len before) = Some (at, len)
range_of Syncs = None
range_of Spares = None

abbrev pub syncs : Touch → Bool
syncs (Writes at len before) = false
syncs Syncs = true
syncs Spares = false

-- the bytes before these events
abbrev pub undone : List ℕ → List Touch → List ℕ
undone now [] = now
undone now (Writes at len before ∷ events) = undone before events
undone now (Syncs ∷ events) = undone now events
undone now (Spares ∷ events) = undone now events

-- Each write led from what was there before it to what was there after it, torn at most.
abbrev pub IsTouched : List ℕ → List Touch → Type 0
IsTouched now [] = ⊤
IsTouched now (Writes at len before ∷ events) = Torn at len before now × IsTouched before events
IsTouched now (Syncs ∷ events) = IsTouched now events
IsTouched now (Spares ∷ events) = IsTouched now events

-- these facts have one proof at most, as a type asks of what it keeps
pub Torn-prop : (at len : ℕ) (old new : List ℕ) → IsProp (Torn at len old new)
Torn-prop at len old new = Prim.hlevel props

pub IsTouched-prop : (now : List ℕ) (events : List Touch) → IsProp (IsTouched now events)
IsTouched-prop now [] = Unit-prop
IsTouched-prop now (Writes at len before ∷ events) = ×_prop (Torn-prop at len before now) (IsTouched-prop before events)
IsTouched-prop now (Syncs ∷ events) = IsTouched-prop now events
IsTouched-prop now (Spares ∷ events) = IsTouched-prop now events

-- the bytes at the last sync
abbrev pub synced : List ℕ → List Touch → List ℕ
synced now [] = now
synced now (Writes at len before ∷ events) = synced before events
synced now (Syncs ∷ events) = now
synced now (Spares ∷ events) = synced now events

-- the byte that stands for any byte
abbrev pub spoilt_byte : ℕ
spoilt_byte = 7

-- these bytes with that one at each place from the first on and before the second
abbrev pub spoil : ℕ → ℕ → List ℕ → List ℕ
spoil from to bytes = take from bytes ++ (replicate (length (take (to - from) (drop from bytes))) spoilt_byte ++ drop (length (take from bytes) + length (take (to - from) (drop from bytes))) bytes)

-- how far into a range its second half begins
abbrev pub half_of : Bool → ℕ → ℕ
half_of true len = len / 2
half_of false len = 0

-- the bytes with each range spoilt, or its second half, that was written since the last sync
abbrev pub spoilt : Bool → List ℕ → List Touch → List ℕ
spoilt half bytes [] = bytes
spoilt half bytes (Writes at len before ∷ events) = spoilt half (spoil (at + half_of half len) (at + len) bytes) events
spoilt half bytes (Syncs ∷ events) = bytes
spoilt half bytes (Spares ∷ events) = spoilt half bytes events

-- What is picked of what a stop may leave: 0 the bytes of the last sync, 1 the bytes as they read, 2 these with each range
-- spoilt that was written since, 3 the second half of each.
abbrev pub picked : ℕ → List ℕ → List Touch → List ℕ
picked zero now events = synced now events
picked (suc zero) now events = now
picked (suc (suc zero)) now events = spoilt false now events
picked _ now events = spoilt true now events

-- the same behind so many events, the oldest of them first, of an area that reads as these bytes after all
abbrev pub bytes_stopped : {E : Type 0} → (E → Touch) → ℕ → ℕ → List ℕ → List E → List ℕ
bytes_stopped touch after pick now events = picked pick (undone now (map touch (reverse (drop after events)))) (map touch (reverse (take after events)))
