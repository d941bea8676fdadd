-- A kernel area stands for the network that is read from it.
use Rattle.std.proofs.Common.{◌≡◌, ◌≢◌, ◌⊎◌, inl, inr, ⊎_elim, ℕ, ◌+◌, ◌%◌, ◌^◌, ◌<◌, ◌≤◌, Bool, true, false, leb, List, [], ◌∷◌, ◌++◌, length, take, drop, Some, refl, sym, ap, subst, ◌∙◌, append_assoc, arith, length-append, length-drop, take-append-drop}
use Rattle.std.specs.List.{flat_map}
use Rattle.std.proofs.Math.Nat.{mod-eq_of_lt, add-mod_left, mod-add-div}
use Rattle.std.proofs.lemmas.Bool.{le-leb, leb-true, leb-false, false_from_ne_true}
use Rattle.std.proofs.lemmas.List.{take_at, drop_at, drop-drop, length-take, length-take-le, get_or-take, get_or-drop, get_or_past}
use Rattle.std.proofs.lemmas.Bool.{cases_lt}
use Rattle.byteorder.specs.Endian.{big_number, big_bytes}
use Rattle.byteorder.specs.Numbers.{big_from-take, big_from-bytes, big_from-lt, length-bytes_high_first}
use Rattle.net_model.specs.NetData.{NetData}
use Rattle.net_image.specs.Image.{IsAnyImage, net_of}
use Rattle.net_image.specs.Laws.{AreBytes, ImageLaws}
use Rattle.net_image.proofs.lemmas.Numbers.{bytes_again}
use Rattle.net_image.proofs.lemmas.Reading.{map_some}
use Rattle.kernel_model.specs.Runs.{Runs}
use Rattle.call_journal.specs.Records.{open_record}
use Rattle.call_journal.specs.Replay.{replayed}
use Rattle.call_journal.specs.Area.{Held, HasImage, is_first, selects, slot_at, slot_of, slot_held, net_held, kernel_net, journal_bit, with_length, IsPlain, IsJournaled, Stands}
use Rattle.call_journal.proofs.lemmas.Slots.{Holding, plain, gated, full, parts_of, plain_held, journaled_held, gate_held, full_held}
use Rattle.call_journal.proofs.Journals.{records_read, journal_found}

-- ---- the length, and its highest bit

bit_small : (journal : Bool) → journal_bit journal ≤ 2 ^ 31
bit_small true = omega arith
bit_small false = omega arith

low : (journal : Bool) (n : ℕ) → n ≤ 1048572 → (journal_bit journal + n) % 2 ^ 31 ≡ n
low true n small = add-mod_left (2 ^ 31) n ∙ mod-eq_of_lt (omega arith)
low false n small = let e : 0 + n ≡ n = omega arith in ap (λ (k : ℕ). k % 2 ^ 31) e ∙ mod-eq_of_lt (omega arith)

high : (journal : Bool) (n : ℕ) → n ≤ 1048572 → leb (2 ^ 31) (journal_bit journal + n) ≡ journal
high true n small = le-leb (2 ^ 31) (2 ^ 31 + n) (omega arith)
high false n small = false_from_ne_true (leb (2 ^ 31) (0 + n)) (λ t. omega (arith, leb-true (2 ^ 31) (0 + n) t))

-- the length that was written is read
written : (journal : Bool) (image behind slot : List ℕ) (net : NetData) → length image ≤ 1048572 → net_of image ≡ Some net → slot ≡ with_length journal image ++ behind → HasImage slot (length image) journal (is_first image) net
written journal image behind slot net small is spelled =
    let n = length image in
    let front = big_bytes 4 (journal_bit journal + n) in
    let four : length front ≡ 4 = length-bytes_high_first 4 (journal_bit journal + n) in
    let whole : slot ≡ front ++ (image ++ behind) = spelled ∙ append_assoc front image behind in
    let number : big_number 4 slot ≡ journal_bit journal + n = ap (big_number 4) whole ∙ big_from-bytes 4 (journal_bit journal + n) (image ++ behind) ∙ mod-eq_of_lt (omega (arith, bit_small journal, small)) in
    let rest : drop 4 slot ≡ image ++ behind = ap (drop 4) whole ∙ drop_at front (image ++ behind) 4 four in
    let image_is : take n (drop 4 slot) ≡ image = ap (take n) rest ∙ take_at image behind n refl in
    record {
      size = ap (λ (k : ℕ). k % 2 ^ 31) number ∙ low journal n small;
      bit = ap (λ (k : ℕ). leb (2 ^ 31) k) number ∙ high journal n small;
      small = small;
      inside = omega (arith, ap length whole, four, length-append front (image ++ behind), length-append image behind);
      version = ap is_first image_is;
      is_image = ap net_of image_is ∙ is;
    }

behind_image : (journal : Bool) (image behind slot : List ℕ) → slot ≡ with_length journal image ++ behind → drop (4 + length image) slot ≡ behind
behind_image journal image behind slot spelled =
    let front = with_length journal image in
    let four : length (big_bytes 4 (journal_bit journal + length image)) ≡ 4 = length-bytes_high_first 4 (journal_bit journal + length image) in
    ap (drop (4 + length image)) spelled ∙ drop_at front behind (4 + length image) (omega (arith, four, length-append (big_bytes 4 (journal_bit journal + length image)) image))

-- ---- what an area stands for is read

module _ (laws : ImageLaws) where
  any_read : (image : List ℕ) (net : NetData) → IsAnyImage image net → net_of image ≡ Some net
  any_read image net is = ⊎_elim (λ latest. laws.read image net latest) (λ first. laws.first_read image net first) is

  plain_read : (slot : List ℕ) (net : NetData) → IsPlain slot net → net_held (slot_held slot) ≡ Some net
  plain_read slot net p =
      ap net_held (plain_held slot (length p.image) (is_first p.image) net (written false p.image p.behind slot net p.small (any_read p.image net p.is_image) p.spelled))

  journal_read : (slot : List ℕ) (net : NetData) → IsJournaled slot net → net_held (slot_held slot) ≡ Some net
  journal_read slot net j =
      let n = length j.image in
      let first = is_first j.image in
      let recs = flat_map open_record.write j.calls in
      let has = written true j.image (recs ++ j.rest) slot j.first j.small (any_read j.image j.first j.is_image) j.spelled in
      let behind = behind_image true j.image (recs ++ j.rest) slot j.spelled in
      let all : replayed j.first (drop (4 + n) slot) ≡ Some (net, length recs) = ap (replayed j.first) behind ∙ records_read j.calls j.rest j.first net j.fits j.ends j.runs in
      let size : length slot ≡ (4 + n) + (length recs + length j.rest) = omega (arith, ap length behind, length-append recs j.rest, length-drop (4 + n) slot, has.inside) in
      elim (cases_lt ((4 + n) + length recs) (length slot)) [
        | inl within ↦ ap net_held (journaled_held slot n first j.first has ∙ gate_held first (4 + n) (length recs) slot j.first net all within)
        | inr past ↦ ap net_held (journaled_held slot n first j.first has ∙ full_held first (4 + n) (length recs) slot j.first net all past (whole_of j.rest (omega (arith, size, past)) j.whole))
      ]
    where
      whole_of : (rest : List ℕ) → length rest ≤ 0 → (rest ≢ []) ⊎ (length slot ≡ 1048576) → length slot ≡ 1048576
      whole_of [] none (inl some) = absurd (some refl)
      whole_of (r ∷ rest) none (inl some) = absurd (omega arith)
      whole_of rest none (inr is) = is

  pub area_read : (bytes : List ℕ) (net : NetData) → Stands bytes net → kernel_net bytes ≡ Some net
  area_read bytes net stands = ⊎_elim (λ p. plain_read (slot_of (selects bytes) bytes) net p) (λ j. journal_read (slot_of (selects bytes) bytes) net j) stands

  -- ---- and what is read is what it stands for

  parts_are : (n : ℕ) (l : List ℕ) → AreBytes l → AreBytes (take n l)
  parts_are n l are i = elim (cases_lt i n) [
    | inl lt ↦ subst (λ (k : ℕ). k < 256) (sym (get_or-take n l i 0 lt)) (are i)
    | inr past ↦ subst (λ (k : ℕ). k < 256) (sym (get_or_past (take n l) i 0 (omega (arith, length-take n l, past)))) (omega arith)
  ]

  behind_are : (n : ℕ) (l : List ℕ) → AreBytes l → AreBytes (drop n l)
  behind_are n l are i = subst (λ (k : ℕ). k < 256) (sym (get_or-drop n l i 0)) (are (n + i))

  bit_of : (journal : Bool) (x n : ℕ) → leb (2 ^ 31) x ≡ journal → x % 2 ^ 31 ≡ n → x < 2 ^ 32 → x ≡ journal_bit journal + n
  bit_of true x n bit is below = let q = mod-add-div x (2 ^ 31) in let le = leb-true (2 ^ 31) x bit in omega (arith, q, is, le, below)
  bit_of false x n bit is below = let lt = leb-false (2 ^ 31) x bit in sym (mod-eq_of_lt lt) ∙ is ∙ (let e : n ≡ 0 + n = omega arith in e)

  -- a slot that begins with an image was written so
  spelled : (slot : List ℕ) (n : ℕ) (journal first : Bool) (net : NetData) → AreBytes slot → HasImage slot n journal first net
      → (slot ≡ with_length journal (take n (drop 4 slot)) ++ drop (4 + n) slot) × IsAnyImage (take n (drop 4 slot)) net
  spelled slot n journal first net are has =
      let image = take n (drop 4 slot) in
      let size : length image ≡ n = length-take-le n (drop 4 slot) (omega (arith, has.inside, length-drop 4 slot)) in
      let four : length (take 4 slot) ≡ 4 = length-take-le 4 slot (omega (arith, has.inside)) in
      let below : big_number 4 slot < 256 ^ 4 = big_from-lt 0 4 slot are in
      let number : big_number 4 slot ≡ journal_bit journal + n = bit_of journal (big_number 4 slot) n has.bit has.size (omega (arith, below)) in
      let front : take 4 slot ≡ big_bytes 4 (journal_bit journal + length image) =
      sym (bytes_again 4 (take 4 slot) four (parts_are 4 slot are)) ∙ ap (big_bytes 4) (big_from-take 0 4 4 slot (omega arith) ∙ number ∙ (ap (λ (k : ℕ). journal_bit journal + k) (sym size))) in
      let tail : drop 4 slot ≡ image ++ drop (4 + n) slot = sym (take-append-drop n (drop 4 slot)) ∙ ap (λ (l : List ℕ). image ++ l) (drop-drop n 4 slot) in (
        sym (take-append-drop 4 slot) ∙ ap (λ (l : List ℕ). l ++ drop 4 slot) front ∙ ap (λ (l : List ℕ). big_bytes 4 (journal_bit journal + length image) ++ l) tail
            ∙ sym (append_assoc (big_bytes 4 (journal_bit journal + length image)) image (drop (4 + n) slot)),
        laws.found image net (parts_are n (drop 4 slot) (behind_are 4 slot are)) has.is_image,
      )

  small_of : (slot : List ℕ) (n : ℕ) (journal first : Bool) (net : NetData) → HasImage slot n journal first net → length (take n (drop 4 slot)) ≤ 1048572
  small_of slot n journal first net has = omega (arith, has.small, length-take n (drop 4 slot))

  by_holding : (slot : List ℕ) (h : Held) (net : NetData) → AreBytes slot → Holding slot h → h.net ≡ net → IsPlain slot net ⊎ IsJournaled slot net
  by_holding slot h net are (plain n first image has e) is =
      let s = spelled slot n false first image are has in
      let same : image ≡ net = ap (λ (k : Held). k.net) (sym e) ∙ is in
      inl (record { image = take n (drop 4 slot); behind = drop (4 + n) slot; small = small_of slot n false first image has; is_image = subst (IsAnyImage (take n (drop 4 slot))) same s.1; spelled = s.0 })
  by_holding slot h net are (gated n place first image last has all within e) is =
      let s = spelled slot n true first image are has in
      let r = journal_found image last (drop (4 + n) slot) place (behind_are (4 + n) slot are) all in
      let same : last ≡ net = ap (λ (k : Held). k.net) (sym e) ∙ is in
      inr (record {
        image = take n (drop 4 slot);
        first = image;
        calls = r.calls;
        rest = r.rest;
        is_image = s.1;
        small = small_of slot n true first image has;
        spelled = s.0 ∙ ap (λ (l : List ℕ). with_length true (take n (drop 4 slot)) ++ l) r.records.spelled;
        fits = r.records.fits;
        ends = r.records.ends;
        whole = inl (λ none. omega (arith, within, r.place_is, ap length r.records.spelled, ap length none, length-append (flat_map open_record.write r.calls) r.rest, length-drop (4 + n) slot));
        runs = subst (λ (k : NetData). Runs r.calls image k) same r.runs;
      })
  by_holding slot h net are (full n place first image last has all past whole e) is =
      let s = spelled slot n true first image are has in
      let r = journal_found image last (drop (4 + n) slot) place (behind_are (4 + n) slot are) all in
      let same : last ≡ net = ap (λ (k : Held). k.net) (sym e) ∙ is in
      inr (record {
        image = take n (drop 4 slot);
        first = image;
        calls = r.calls;
        rest = r.rest;
        is_image = s.1;
        small = small_of slot n true first image has;
        spelled = s.0 ∙ ap (λ (l : List ℕ). with_length true (take n (drop 4 slot)) ++ l) r.records.spelled;
        fits = r.records.fits;
        ends = r.records.ends;
        whole = inr whole;
        runs = subst (λ (k : NetData). Runs r.calls image k) same r.runs;
      })

  pub area_found : (bytes : List ℕ) (net : NetData) → AreBytes bytes → kernel_net bytes ≡ Some net → Stands bytes net
  area_found bytes net are is =
      let slot = slot_of (selects bytes) bytes in
      let slot_are : AreBytes slot = parts_are 1048576 (drop (slot_at (selects bytes)) bytes) (behind_are (slot_at (selects bytes)) bytes are) in
      let m = map_some (slot_held slot) (λ (h : Held). h.net) net is in
      by_holding slot m.0 net slot_are (parts_of slot m.0 m.1) m.2
