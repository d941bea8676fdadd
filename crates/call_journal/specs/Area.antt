-- What the bytes of a kernel area stand for: a selector, and two slots with an image and a journal of calls.
use Rattle.std.specs.Prelude.{◌≡◌, ◌≢◌, ◌⊎◌, ◌≤◌, ℕ, ◌+◌, ◌%◌, ◌^◌, ◌==◌, ◌&&◌, ◌||◌, nat_eq, nat_le, nat_lt, Bool, true, false, List, [], ◌∷◌, ◌++◌, length, take, drop, slice_index, Option, Some, None, option_map, option_and_then, if◌then◌else◌}
use Rattle.std.specs.List.{flat_map, list_all, starts_with}
use Rattle.byteorder.specs.Endian.{big_bytes, big_number}
use Rattle.net_model.specs.NetData.{NetData}
use Rattle.net_model.specs.declared.call.Call.{Call}
use Rattle.kernel_model.specs.Runs.{Runs}
use Rattle.net_image.specs.Image.{IsAnyImage, version_1, net_of}
use Rattle.call_journal.specs.Records.{open_record, is_open}
use Rattle.call_journal.specs.Replay.{replayed}
use Rattle.call_journal.specs.Weight.{journal_weight, spare_of}

-- ---- slots

-- whether the second slot is selected
abbrev pub selects : List ℕ → Bool
selects bytes = slice_index bytes 0 == 1

-- the byte that selects a slot
abbrev pub selector : Bool → ℕ
selector true = 1
selector false = 0

-- where a slot begins
abbrev pub slot_at : Bool → ℕ
slot_at true = 1048577
slot_at false = 1

-- the bytes of a slot, up to its end or the end of the area
abbrev pub slot_of : Bool → List ℕ → List ℕ
slot_of second bytes = take 1048576 (drop (slot_at second) bytes)

-- ---- as it is read

-- the four bytes of version 1 begin the image
abbrev pub is_first : List ℕ → Bool
is_first image = starts_with nat_eq image version_1

-- what a slot holds: whether its image is of version 1, its network, the place in it of the closed gate that ends its
-- journal, if it has one, and how much more its journal may weigh
pub record Held : Type 0 where
  pub first_image : Bool
  pub net : NetData
  pub gate : Option ℕ
  pub spare : ℕ

abbrev pub held : Bool → NetData → Option ℕ → ℕ → Held
held first net gate spare = record { first_image = first; net = net; gate = gate; spare = spare }

-- the highest bit of the first four bytes says whether a journal follows the image, the others how long the image is
abbrev pub has_journal : List ℕ → Bool
has_journal slot = nat_le (2 ^ 31) (big_number 4 slot)

abbrev pub image_length : List ℕ → ℕ
image_length slot = big_number 4 slot % 2 ^ 31

-- the slot begins with an image of this length, of this version and of this network, and with the word whether a journal
-- follows
pub record HasImage (slot : List ℕ) (n : ℕ) (journal first : Bool) (image : NetData) : Type 0 where
  pub size : image_length slot ≡ n
  pub bit : has_journal slot ≡ journal
  pub small : n ≤ 1048572
  pub inside : 4 + n ≤ length slot
  pub version : is_first (take n (drop 4 slot)) ≡ first
  pub is_image : net_of (take n (drop 4 slot)) ≡ Some image

-- A journal that begins at this place of the slot. It ends at its first closed gate, or with the slot; a slot that is cut
-- off before holds nothing.
abbrev pub journal_held : Bool → ℕ → List ℕ → NetData → Option Held
journal_held first from slot net =
    option_and_then (λ r.
    if nat_lt (from + r.1) (length slot) then Some (held first r.0 (Some (from + r.1)) (spare_of (journal_weight (drop from slot))))
    else if length slot == 1048576 then Some (held first r.0 None 0)
    else None)
    (replayed net (drop from slot))

-- what an image of this length holds, and the journal behind it, if there is one
abbrev pub image_held : ℕ → List ℕ → Option Held
image_held n slot =
    option_and_then (λ net. if has_journal slot then journal_held (is_first (take n (drop 4 slot))) (4 + n) slot net else Some (held (is_first (take n (drop 4 slot))) net None 0))
    (net_of (take n (drop 4 slot)))

-- what the bytes of a slot hold: behind four bytes an image of at most 1,048,572 bytes, and perhaps a journal
unfoldable pub slot_held : List ℕ → Option Held
slot_held slot =
    if nat_le (image_length slot) 1048572 && nat_le (4 + image_length slot) (length slot) then image_held (image_length slot) slot
    else None

-- what the selected slot holds
abbrev pub kernel_held : List ℕ → Option Held
kernel_held bytes = slot_held (slot_of (selects bytes) bytes)

abbrev pub net_held : Option Held → Option NetData
net_held h = option_map (λ (k : Held). k.net) h

-- the network that the area stands for
abbrev pub kernel_net : List ℕ → Option NetData
kernel_net bytes = net_held (kernel_held bytes)

-- ---- as it is written

abbrev pub journal_bit : Bool → ℕ
journal_bit true = 2 ^ 31
journal_bit false = 0

-- the length of an image, with the highest bit where a journal follows, and the image
abbrev pub with_length : Bool → List ℕ → List ℕ
with_length journal image = big_bytes 4 (journal_bit journal + length image) ++ image

-- an image with an empty journal, which a closed gate ends
unfoldable pub new_slot : List ℕ → List ℕ
new_slot image = with_length true image ++ 0 ∷ []

-- a record, and the closed gate that ends the journal then
unfoldable pub new_record : Call → List ℕ
new_record call = open_record.write call ++ 0 ∷ []

-- an image without a journal: what is behind it isn't looked at
pub record IsPlain (slot : List ℕ) (net : NetData) : Type 0 where
  pub image : List ℕ
  pub behind : List ℕ
  pub is_image : IsAnyImage image net
  pub small : length image ≤ 1048572
  pub spelled : slot ≡ with_length false image ++ behind

-- an image and a journal, whose calls lead from the network of the image to this one; the journal ends at a closed gate, or with the slot
pub record IsJournaled (slot : List ℕ) (net : NetData) : Type 0 where
  pub image : List ℕ
  pub first : NetData
  pub calls : List Call
  pub rest : List ℕ
  pub is_image : IsAnyImage image first
  pub small : length image ≤ 1048572
  pub spelled : slot ≡ with_length true image ++ (flat_map open_record.write calls ++ rest)
  pub fits : list_all open_record.fits calls ≡ true
  pub ends : is_open rest ≡ false
  pub whole : (rest ≢ []) ⊎ (length slot ≡ 1048576)
  pub runs : Runs calls first net

-- the area stands for the network
abbrev pub Stands : List ℕ → NetData → Type 0
Stands bytes net = IsPlain (slot_of (selects bytes) bytes) net ⊎ IsJournaled (slot_of (selects bytes) bytes) net

-- ---- what a kernel call writes

-- the place in the slot of the closed gate at which a record of so many bytes is appended: what the slot holds has a
-- closed gate and isn't an image of version 1, its journal may weigh more, and the record and one further gate fit in the
-- slot
abbrev pub room_for : Held → ℕ → Option ℕ
room_for k size = if k.first_image || k.spare == 0 then None else option_and_then (λ gate. if nat_le (gate + size + 1) 1048576 then Some gate else None) k.gate

-- the same of the selected slot
abbrev pub room_in : Option Held → ℕ → Option ℕ
room_in h size = option_and_then (λ k. room_for k size) h
