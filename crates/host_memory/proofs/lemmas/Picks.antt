-- What is picked of the bytes of one area is what a stop may leave of them.
use Rattle.std.proofs.Common.{◌≡◌, ◌++◌, ◌∙◌, ℕ, zero, suc, Bool, true, false, List, [], ◌∷◌, take, drop, map, reverse, refl, sym, ap, subst}
use Rattle.std.proofs.lemmas.List.{take-append-drop, reverse-append, map-append}
use Rattle.host_core.specs.Bytes.{Torn}
use Rattle.host_memory.specs.Touches.{Touch, Writes, Syncs, Spares, IsTouched, undone, synced, spoilt, picked, bytes_stopped}
use Rattle.host_memory.proofs.lemmas.Torn.{torn_same}
use Rattle.host_memory.proofs.Spoiling.{torn_spoilt, torn_among}

-- what a stop may leave of the bytes after these events, the newest of them first
abbrev pub LeftOf : List ℕ → List Touch → List ℕ → Type 0
LeftOf now [] bytes = bytes ≡ now
LeftOf now (Writes at len before ∷ events) bytes = (r : List ℕ) × LeftOf before events r × Torn at len r bytes
LeftOf now (Syncs ∷ events) bytes = bytes ≡ now
LeftOf now (Spares ∷ events) bytes = LeftOf now events bytes

-- a stop may leave the bytes as they read
pub left_now : (now : List ℕ) (events : List Touch) → IsTouched now events → LeftOf now events now
left_now now [] is = refl
left_now now (Writes at len before ∷ events) is = (before, left_now before events is.1, is.0)
left_now now (Syncs ∷ events) is = refl
left_now now (Spares ∷ events) is = left_now now events is

left_synced : (now : List ℕ) (events : List Touch) → LeftOf now events (synced now events)
left_synced now [] = refl
left_synced now (Writes at len before ∷ events) = (synced before events, left_synced before events, torn_same at len (synced before events))
left_synced now (Syncs ∷ events) = refl
left_synced now (Spares ∷ events) = left_synced now events

left_spoilt : (half : Bool) (now : List ℕ) (events : List Touch) → IsTouched now events → LeftOf now events (spoilt half now events)
left_spoilt half now [] is = refl
left_spoilt half now (Writes at len before ∷ events) is =
    (spoilt half before events, left_spoilt half before events is.1, torn_among half at len before _ events (torn_spoilt half at len before now is.0))
left_spoilt half now (Syncs ∷ events) is = refl
left_spoilt half now (Spares ∷ events) is = left_spoilt half now events is

left_picked : (pick : ℕ) (now : List ℕ) (events : List Touch) → IsTouched now events → LeftOf now events (picked pick now events)
left_picked zero now events is = left_synced now events
left_picked (suc zero) now events is = left_now now events is
left_picked (suc (suc zero)) now events is = left_spoilt false now events is
left_picked (suc (suc (suc pick))) now events is = left_spoilt true now events is

-- the writes before the later events led to what was there before these
pub touched_before : (now : List ℕ) (later earlier : List Touch) → IsTouched now (later ++ earlier) → IsTouched (undone now later) earlier
touched_before now [] earlier is = is
touched_before now (Writes at len before ∷ later) earlier is = touched_before before later earlier is.1
touched_before now (Syncs ∷ later) earlier is = touched_before now later earlier is
touched_before now (Spares ∷ later) earlier is = touched_before now later earlier is

-- the events, the newest of them first, are those behind so many and these many
pub in_two : {E : Type 0} (after : ℕ) (events : List E) → reverse events ≡ reverse (drop after events) ++ reverse (take after events)
in_two after events = ap reverse (sym (take-append-drop after events)) ∙ reverse-append (take after events) (drop after events)

module _ {E : Type 0} (touch : E → Touch) (after : ℕ) (now : List ℕ) (events : List E) (is : IsTouched now (map touch (reverse events))) where
  pub touched_then : IsTouched (undone now (map touch (reverse (drop after events)))) (map touch (reverse (take after events)))
  touched_then =
      let all = ap (λ (l : List E). map touch l) (in_two after events) ∙ map-append touch (reverse (drop after events)) (reverse (take after events)) in
      touched_before now (map touch (reverse (drop after events))) (map touch (reverse (take after events))) (subst (λ (l : List Touch). IsTouched now l) all is)

  -- what is picked behind so many events is what a stop there may leave
  pub left_stopped : (pick : ℕ) → LeftOf (undone now (map touch (reverse (drop after events)))) (map touch (reverse (take after events))) (bytes_stopped touch after pick now events)
  left_stopped pick = left_picked pick (undone now (map touch (reverse (drop after events)))) (map touch (reverse (take after events))) touched_then
