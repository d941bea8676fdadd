-- What reads tell of a slot.
use Rattle.std.proofs.Common.{◌≡◌, ℕ, ◌+◌, ◌-◌, ◌%◌, ◌^◌, ◌<◌, ◌≤◌, Bool, List, [], ◌∷◌, ◌++◌, length, take, drop, refl, sym, ap, ◌∙◌, arith, length-drop, Some, None, leb}
use Rattle.std.specs.Prelude.{min}
use Rattle.std.proofs.lemmas.List.{drop-drop, drop-take, take-take, take_all, drop_all, length-take, append-nil}
use Rattle.byteorder.specs.Endian.{big_number}
use Rattle.byteorder.specs.Numbers.{big_from-take}
use Rattle.net_model.specs.NetData.{NetData}
use Rattle.net_image.specs.Image.{net_of}
use Rattle.host_core.specs.Bytes.{Filled}
use Rattle.image_slot.proofs.lemmas.Fills.{number}
use Rattle.call_journal.specs.Area.{HasImage, is_first, selects, slot_at, slot_of, slot_held, net_held, kernel_net, image_length, has_journal}
use Rattle.call_journal.proofs.lemmas.Slots.{no_image}
use Rattle.disk_host.specs.Kept.{IsKept, held_by}
use Rattle.disk_host.specs.declared.kept.Kept.{Kept}

-- the bytes of an image in a slot
image_bytes : (b : Bool) (n : ℕ) (area : List ℕ) → n ≤ 1048572 → take n (drop 4 (slot_of b area)) ≡ take n (drop (slot_at b + 4) area)
image_bytes b n area small =
    sym (drop-take 4 n (slot_of b area)) ∙ ap (drop 4) (take-take (4 + n) 1048576 (drop (slot_at b) area) (omega (arith, small)))
    ∙ drop-take 4 n (drop (slot_at b) area) ∙ ap (take n) (drop-drop 4 (slot_at b) area)

module _ (b : Bool) (area head : List ℕ) (many : ℕ) (filled : Filled (slot_at b) area (0 ∷ 0 ∷ 0 ∷ 0 ∷ []) head many) where
  slot_number : big_number 4 (slot_of b area) ≡ big_number 4 head
  slot_number = big_from-take 0 4 1048576 (drop (slot_at b) area) (omega arith) ∙ number (slot_at b) area head many filled

  size_is : image_length (slot_of b area) ≡ big_number 4 head % 2 ^ 31
  size_is = ap (λ (k : ℕ). k % 2 ^ 31) slot_number

  pub bit_is : has_journal (slot_of b area) ≡ leb (2 ^ 31) (big_number 4 head)
  bit_is = ap (λ (k : ℕ). leb (2 ^ 31) k) slot_number

  pub too_short : many < 4 → slot_held (slot_of b area) ≡ None
  too_short short = no_image (slot_of b area) (image_length (slot_of b area)) refl
      (λ small inside. absurd (omega (arith, inside, short, filled.many, length-take 1048576 (drop (slot_at b) area))))

  pub too_long : 1048572 < big_number 4 head % 2 ^ 31 → slot_held (slot_of b area) ≡ None
  too_long long = no_image (slot_of b area) (image_length (slot_of b area)) refl (λ small inside. absurd (omega (arith, small, long, size_is)))

  module _ (n : ℕ) (is : big_number 4 head % 2 ^ 31 ≡ n) (small : n ≤ 1048572) (buf image : List ℕ) (got : ℕ) (long : length buf ≡ n) (then : Filled (slot_at b + 4) area buf image got) where
    pub cut_short : got < n → slot_held (slot_of b area) ≡ None
    cut_short short = no_image (slot_of b area) n (size_is ∙ is)
        (λ le inside. absurd (omega (arith, inside, short, then.many, long, length-take 1048576 (drop (slot_at b) area), length-drop (slot_at b) area, length-drop (slot_at b + 4) area)))

    pub image_is : n ≤ got → image ≡ take n (drop 4 (slot_of b area))
    image_is enough =
        then.bytes ∙ ap (λ (l : List ℕ). take (length buf) (drop (slot_at b + 4) area) ++ l) (drop_all got buf (omega (arith, long, enough))) ∙ append-nil (take (length buf) (drop (slot_at b + 4) area))
        ∙ ap (λ (k : ℕ). take k (drop (slot_at b + 4) area)) long ∙ sym (image_bytes b n area small)

    pub no_net : n ≤ got → net_of image ≡ None → slot_held (slot_of b area) ≡ None
    no_net enough none = no_image (slot_of b area) n (size_is ∙ is) (λ le inside. ap net_of (sym (image_is enough)) ∙ none)

    pub has_image : 4 ≤ many → n ≤ got → (net : NetData) → net_of image ≡ Some net → HasImage (slot_of b area) n (leb (2 ^ 31) (big_number 4 head)) (is_first image) net
    has_image some enough net found = record {
      size = size_is ∙ is;
      bit = bit_is;
      small = small;
      inside = omega (arith, some, enough, small, filled.many, then.many, long, length-take 1048576 (drop (slot_at b) area), length-drop (slot_at b) area, length-drop (slot_at b + 4) area);
      version = ap is_first (sym (image_is enough));
      is_image = ap net_of (sym (image_is enough)) ∙ found;
    }

-- the bytes of a journal in a slot
module _ (b : Bool) (from there got : ℕ) (area buf journal : List ℕ) (le : from ≤ 1048576) (inside : from ≤ length (slot_of b area)) (is : there ≡ min (1048576 - from) (length area - (slot_at b + from)))
    (long : length buf ≡ there) (filled : Filled (slot_at b + from) area buf journal got) where
  pub all_there : there ≤ got
  all_there = omega (arith, filled.many, is, long, length-drop (slot_at b + from) area)

  pub slot_size : length (slot_of b area) ≡ from + there
  slot_size = omega (arith, is, le, inside, length-take 1048576 (drop (slot_at b) area), length-drop (slot_at b) area)

  pub journal_is : journal ≡ drop from (slot_of b area)
  journal_is =
      let room : 1048576 ≡ from + (1048576 - from) = omega (arith, le) in
      let behind : drop from (slot_of b area) ≡ take (1048576 - from) (drop (slot_at b + from) area) =
      ap (λ (k : ℕ). drop from (take k (drop (slot_at b) area))) room ∙ drop-take from (1048576 - from) (drop (slot_at b) area) ∙ ap (take (1048576 - from)) (drop-drop from (slot_at b) area) in
      let size : length (take (1048576 - from) (drop (slot_at b + from) area)) ≡ there = omega (arith, is, length-take (1048576 - from) (drop (slot_at b + from) area), length-drop (slot_at b + from) area) in
      let whole : take there (take (1048576 - from) (drop (slot_at b + from) area)) ≡ take (1048576 - from) (drop (slot_at b + from) area) = take_all there (take (1048576 - from) (drop (slot_at b + from) area)) (omega (arith, size)) in
      let cut : take there (take (1048576 - from) (drop (slot_at b + from) area)) ≡ take there (drop (slot_at b + from) area) = take-take there (1048576 - from) (drop (slot_at b + from) area) (omega (arith, is)) in
      filled.bytes ∙ ap (λ (l : List ℕ). take (length buf) (drop (slot_at b + from) area) ++ l) (drop_all got buf (omega (arith, long, all_there))) ∙ append-nil (take (length buf) (drop (slot_at b + from) area))
      ∙ ap (λ (k : ℕ). take k (drop (slot_at b + from) area)) long ∙ sym cut ∙ whole ∙ sym behind

-- ---- the selected slot

-- what was read of it is what is kept
pub kept_is : (kept : Kept) (second : Bool) (area : List ℕ) → second ≡ selects area → kept.second ≡ second → slot_held (slot_of second area) ≡ Some (held_by kept) → IsKept kept area
kept_is kept second area is same holds = record { second = sym (same ∙ is); held = ap (λ (b : Bool). slot_held (slot_of b area)) (sym is) ∙ holds }

-- where it holds nothing, there is no network
pub none_is : (second : Bool) (area : List ℕ) → second ≡ selects area → slot_held (slot_of second area) ≡ None → kernel_net area ≡ None
none_is second area is none = ap (λ (b : Bool). net_held (slot_held (slot_of b area))) (sym is) ∙ ap net_held none
