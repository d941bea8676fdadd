-- What a journal weighs, record by record.
use Rattle.std.proofs.Common.{◌≡◌, inl, inr, ℕ, zero, suc, ◌+◌, ◌-◌, ◌≤◌, true, false, cond, List, [], ◌∷◌, length, take, drop, Option, Some, None, refl, sym, ap, subst, ◌∙◌, arith, length-drop}
use Rattle.std.specs.Option.{option_map_or}
use Rattle.std.proofs.lemmas.List.{drop-drop, drop-take, take-take}
use Rattle.byteorder.specs.Endian.{big_number}
use Rattle.net_model.specs.NetData.{NetData}
use Rattle.net_model.specs.declared.call.Call.{Call}
use Rattle.call_journal.specs.Records.{open_record, is_open}
use Rattle.call_journal.specs.Replay.{replayed}
use Rattle.call_journal.specs.Weight.{weight_of, weight_in, journal_weight}
use Rattle.call_journal.proofs.lemmas.Record.{begins, begins_read, begins_alike}
use Rattle.call_journal.proofs.lemmas.Replaying.{First, shorter, at_end, first, no_bytes, open_or_closed}

-- as many turns as there are bytes are enough
with_turns : (size k m : ℕ) (o : Option (Call × List ℕ)) → ((call : Call) (rest : List ℕ) → o ≡ Some (call, rest) → weight_in k rest ≡ weight_in m rest)
    → option_map_or (λ (r : Call × List ℕ). weight_of r.0 (size - length r.1) + weight_in k r.1) o 0 ≡ option_map_or (λ (r : Call × List ℕ). weight_of r.0 (size - length r.1) + weight_in m r.1) o 0
with_turns size k m None same = refl
with_turns size k m (Some (call, rest)) same = ap (λ (w : ℕ). weight_of call (size - length rest) + w) (same call rest refl)

enough : (k m : ℕ) (bytes : List ℕ) → length bytes ≤ k → length bytes ≤ m → weight_in k bytes ≡ weight_in m bytes
enough zero zero bytes lk lm = refl
enough zero (suc m) [] lk lm = refl
enough zero (suc m) (b ∷ bytes) lk lm = absurd (omega arith)
enough (suc k) zero [] lk lm = refl
enough (suc k) zero (b ∷ bytes) lk lm = absurd (omega arith)
enough (suc k) (suc m) bytes lk lm =
    ap (λ (w : ℕ). cond (is_open bytes) w 0)
    (with_turns (length bytes) k m (open_record.read bytes) (λ call rest is. enough k m rest (omega (arith, shorter bytes rest call is)) (omega (arith, shorter bytes rest call is))))

-- without a record nothing
pub weight_closed : (bytes : List ℕ) → is_open bytes ≡ false → journal_weight bytes ≡ 0
unfolding journal_weight
weight_closed [] closed = refl
weight_closed (b ∷ bytes) closed = rw closed refl

-- a record, and what is behind it
pub weight_opened : (bytes rest : List ℕ) (call : Call) → is_open bytes ≡ true → open_record.read bytes ≡ Some (call, rest) → journal_weight bytes ≡ weight_of call (length bytes - length rest) + journal_weight rest
unfolding journal_weight
weight_opened [] rest call opens got = absurd (let e : false ≡ true = opens in cc)
weight_opened (b ∷ bytes) rest call opens got =
    rw (opens, got) (ap (λ (w : ℕ). weight_of call (length (b ∷ bytes) - length rest) + w)
    (enough (length bytes) (length rest) rest (omega (arith, shorter (b ∷ bytes) rest call got)) (omega arith)))

-- a journal that begins with the same records weighs as much, and what is behind them
abbrev Along : ℕ → Type 0
Along n = (net last : NetData) (bytes other : List ℕ) (place : ℕ) → length bytes ≤ n → replayed net bytes ≡ Some (last, place) → place ≤ length other → take place other ≡ take place bytes
    → journal_weight other ≡ journal_weight bytes + journal_weight (drop place other)

along_closed : (net last : NetData) (bytes other : List ℕ) (place : ℕ) → is_open bytes ≡ false → replayed net bytes ≡ Some (last, place) → journal_weight other ≡ journal_weight bytes + journal_weight (drop place other)
along_closed net last bytes other place closed all =
    let e : ◌≡◌ {A = Option (NetData × ℕ)} (Some (net, 0)) (Some (last, place)) = sym (at_end net bytes closed) ∙ all in
    let pair : ◌≡◌ {A = NetData × ℕ} (net, 0) (last, place) = cc in
    let none : journal_weight other ≡ journal_weight bytes + journal_weight other = omega (arith, weight_closed bytes closed) in
    subst (λ (q : NetData × ℕ). journal_weight other ≡ journal_weight bytes + journal_weight (drop q.1 other)) pair none

along_record : (m : ℕ) → Along m → (net last : NetData) (bytes other : List ℕ) (place : ℕ) → length bytes ≤ suc m → First net bytes last place → place ≤ length other → take place other ≡ take place bytes
    → journal_weight other ≡ journal_weight bytes + journal_weight (drop place other)
along_record m behind net last bytes other place short f long same =
    let b = begins bytes f.rest f.call f.got in
    let size = 3 + big_number 2 (drop 1 bytes) in
    let there : size ≤ length bytes = omega (arith, b.0.sized.long, length-drop 1 bytes) in
    let used : length bytes - length f.rest ≡ size = omega (arith, ap length b.1, length-drop size bytes, there) in
    let within : size ≤ place = omega (arith, used, f.within) in
    let front : take size other ≡ take size bytes = sym (take-take size place other within) ∙ ap (take size) same ∙ take-take size place bytes within in
    let too = begins_alike bytes other (big_number 2 (drop 1 bytes)) f.call b.0 front (omega (arith, within, long)) in
    let far : length other - length (drop size other) ≡ size = omega (arith, length-drop size other, within, long) in
    let sum : size + (place - size) ≡ place = omega (arith, within) in
    let rest_same : take (place - size) (drop size other) ≡ take (place - size) f.rest =
    sym (drop-take size (place - size) other) ∙ ap (λ (k : ℕ). drop size (take k other)) sum ∙ ap (drop size) same
    ∙ ap (λ (k : ℕ). drop size (take k bytes)) (sym sum) ∙ drop-take size (place - size) bytes ∙ ap (take (place - size)) (sym b.1) in
    let rest_all : replayed f.next f.rest ≡ Some (last, place - size) = f.behind ∙ ap (λ (k : ℕ). Some (last, place - k)) used in
    let further : drop (place - size) (drop size other) ≡ drop place other = drop-drop (place - size) size other ∙ ap (λ (k : ℕ). drop k other) sum in
    let shorter_rest : length f.rest ≤ m = omega (arith, used, there, short) in
    let room : place - size ≤ length (drop size other) = omega (arith, length-drop size other, long) in
    let of_other : journal_weight other ≡ weight_of f.call size + journal_weight (drop size other) =
    weight_opened other (drop size other) f.call too.opens (begins_read other (big_number 2 (drop 1 bytes)) f.call too)
    ∙ ap (λ (k : ℕ). weight_of f.call k + journal_weight (drop size other)) far in
    let of_bytes : journal_weight bytes ≡ weight_of f.call size + journal_weight f.rest =
    weight_opened bytes f.rest f.call b.0.opens f.got ∙ ap (λ (k : ℕ). weight_of f.call k + journal_weight f.rest) used in
    let of_rest : journal_weight (drop size other) ≡ journal_weight f.rest + journal_weight (drop place other) =
    behind f.next last f.rest (drop size other) (place - size) shorter_rest rest_all room rest_same
    ∙ ap (λ (l : List ℕ). journal_weight f.rest + journal_weight l) further in
    omega (arith, of_other, of_bytes, of_rest)

along_all : (n : ℕ) → Along n
along_all zero net last bytes other place short all long same = along_closed net last bytes other place (no_bytes bytes short) all
along_all (suc m) net last bytes other place short all long same = elim (open_or_closed (is_open bytes)) [
  | inl opens ↦ along_record m (along_all m) net last bytes other place short (first net last bytes place opens all) long same
  | inr closed ↦ along_closed net last bytes other place closed all
]

pub weight_along : (net last : NetData) (bytes other : List ℕ) (place : ℕ) → replayed net bytes ≡ Some (last, place) → place ≤ length other → take place other ≡ take place bytes
    → journal_weight other ≡ journal_weight bytes + journal_weight (drop place other)
weight_along net last bytes other place all long same = along_all (length bytes) net last bytes other place (omega arith) all long same

-- what is left of the spare weight behind a record
pub weighed_on : (bytes : List ℕ) (at behind spare left all : ℕ) (call : Call) → open_record.read (drop at bytes) ≡ Some (call, drop behind bytes) → is_open (drop at bytes) ≡ true → behind ≤ length bytes
    → spare - journal_weight (drop at bytes) ≡ all → left ≡ spare - weight_of call (behind - at) → left - journal_weight (drop behind bytes) ≡ all
weighed_on bytes at behind spare left all call got opens within before is =
    let used : length (drop at bytes) - length (drop behind bytes) ≡ behind - at = omega (arith, length-drop at bytes, length-drop behind bytes, within) in
    let parts : journal_weight (drop at bytes) ≡ weight_of call (behind - at) + journal_weight (drop behind bytes) =
    weight_opened (drop at bytes) (drop behind bytes) call opens got ∙ ap (λ (k : ℕ). weight_of call k + journal_weight (drop behind bytes)) used in
    omega (arith, before, is, parts)

-- and where the last gate isn't open
pub weighed_all : (bytes : List ℕ) (at left all : ℕ) → is_open (drop at bytes) ≡ false → left - journal_weight (drop at bytes) ≡ all → left ≡ all
weighed_all bytes at left all closed before = omega (arith, weight_closed (drop at bytes) closed, before)
