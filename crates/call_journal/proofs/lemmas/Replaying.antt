-- How a journal is replayed, record by record.
use Rattle.std.proofs.Common.{◌≡◌, ◌⊎◌, inl, inr, ℕ, zero, suc, ◌+◌, ◌-◌, ◌≤◌, Bool, true, false, cond, List, [], ◌∷◌, length, take, drop, Option, Some, None, Ok, Err, refl, sym, ap, subst, ◌∙◌, arith, length-drop}
use Rattle.std.specs.Option.{option_map, option_and_then}
use Rattle.std.proofs.lemmas.List.{drop-drop, drop-take, take-take}
use Rattle.net_model.specs.NetData.{NetData}
use Rattle.net_model.specs.declared.call.Call.{Call}
use Rattle.kernel_model.specs.Kernel.{step}
use Rattle.kernel_model.specs.Outcome.{Outcome}
use Rattle.byteorder.specs.Endian.{big_number}
use Rattle.net_image.proofs.lemmas.Reading.{bind_some, map_some}
use Rattle.call_journal.specs.Records.{open_record, is_open}
use Rattle.call_journal.specs.Replay.{records_in, journal, accepted, after_calls, replayed}
use Rattle.call_journal.proofs.lemmas.Record.{begins, begins_read, begins_alike}

-- ---- records are shorter than what they begin

-- what is behind a record is shorter by three bytes and more
pub shorter : (bytes rest : List ℕ) (call : Call) → open_record.read bytes ≡ Some (call, rest) → 3 + length rest ≤ length bytes
shorter bytes rest call got =
    let parts = begins bytes rest call got in
    omega (arith, parts.0.sized.long, length-drop 1 bytes, ap length parts.1, length-drop (3 + big_number 2 (drop 1 bytes)) bytes)

-- as many turns as there are bytes are enough
with_turns : (k m : ℕ) (o : Option (Call × List ℕ)) → ((call : Call) (rest : List ℕ) → o ≡ Some (call, rest) → records_in k rest ≡ records_in m rest)
    → option_and_then {U = List Call × List ℕ} (λ (r : Call × List ℕ). option_map (λ (rest : List Call × List ℕ). (r.0 ∷ rest.0, rest.1)) (records_in k r.1)) o
    ≡ option_and_then {U = List Call × List ℕ} (λ (r : Call × List ℕ). option_map (λ (rest : List Call × List ℕ). (r.0 ∷ rest.0, rest.1)) (records_in m r.1)) o
with_turns k m None same = refl
with_turns k m (Some (call, rest)) same = ap (option_map (λ (r : List Call × List ℕ). (call ∷ r.0, r.1))) (same call rest refl)

-- with as many turns as there are bytes, or more, the same records are read
pub enough : (k m : ℕ) (bytes : List ℕ) → length bytes ≤ k → length bytes ≤ m → records_in k bytes ≡ records_in m bytes
enough zero zero bytes lk lm = refl
enough zero (suc m) [] lk lm = refl
enough zero (suc m) (b ∷ bytes) lk lm = absurd (omega arith)
enough (suc k) zero [] lk lm = refl
enough (suc k) zero (b ∷ bytes) lk lm = absurd (omega arith)
enough (suc k) (suc m) bytes lk lm =
    ap (λ (o : Option (List Call × List ℕ)). cond (is_open bytes) o (Some ([], bytes)))
    (with_turns k m (open_record.read bytes) (λ call rest is. enough k m rest (omega (arith, shorter bytes rest call is)) (omega (arith, shorter bytes rest call is))))

-- ---- one record

-- a place further on
abbrev pub shifted : ℕ → Option (NetData × ℕ) → Option (NetData × ℕ)
shifted n o = option_map (λ (r : NetData × ℕ). (r.0, n + r.1)) o

-- the journal of what is behind a record, behind the record
abbrev carried : ℕ → NetData → Option (List Call × List ℕ) → Option (NetData × ℕ)
carried size net o = option_and_then (λ (j : List Call × List ℕ). option_map (λ (last : NetData). (last, size - length j.1)) (after_calls j.0 net)) o

replays_as : (net : NetData) (bytes : List ℕ) → replayed net bytes ≡ carried (length bytes) net (journal bytes)
unfolding replayed
replays_as net bytes = refl

journal_closed : (bytes : List ℕ) → is_open bytes ≡ false → journal bytes ≡ Some ([], bytes)
unfolding journal
journal_closed [] closed = refl
journal_closed (b ∷ bytes) closed = rw closed refl

journal_opened : (bytes rest : List ℕ) (call : Call) → is_open bytes ≡ true → open_record.read bytes ≡ Some (call, rest) → journal bytes ≡ option_map (λ (r : List Call × List ℕ). (call ∷ r.0, r.1)) (journal rest)
unfolding journal
journal_opened [] rest call opens got = absurd (let e : false ≡ true = opens in cc)
journal_opened (b ∷ bytes) rest call opens got =
    rw (opens, got) (ap (option_map (λ (r : List Call × List ℕ). (call ∷ r.0, r.1)))
    (enough (length bytes) (length rest) rest (omega (arith, shorter (b ∷ bytes) rest call got)) (omega arith)))

journal_broken : (bytes : List ℕ) → is_open bytes ≡ true → open_record.read bytes ≡ None → journal bytes ≡ None
unfolding journal
journal_broken [] opens got = absurd (let e : false ≡ true = opens in cc)
journal_broken (b ∷ bytes) opens got = rw (opens, got) refl

-- one turn of the reading of records
turn_shorter : (n : ℕ) → ((bytes rest : List ℕ) (calls : List Call) → records_in n bytes ≡ Some (calls, rest) → length rest ≤ length bytes)
    → (bytes rest : List ℕ) (calls : List Call) (t : Bool) (o : Option (Call × List ℕ)) → ((call : Call) (after : List ℕ) → o ≡ Some (call, after) → 3 + length after ≤ length bytes)
    → cond t (option_and_then {U = List Call × List ℕ} (λ (r : Call × List ℕ). option_map (λ (after : List Call × List ℕ). (r.0 ∷ after.0, after.1)) (records_in n r.1)) o) (Some ([], bytes)) ≡ Some (calls, rest) → length rest ≤ length bytes
turn_shorter n behind bytes rest calls false o short is = let p : ◌≡◌ {A = List Call × List ℕ} ([], bytes) (calls, rest) = cc in omega (arith, ap (λ (q : List Call × List ℕ). length q.1) p)
turn_shorter n behind bytes rest calls true None short is = absurd cc
turn_shorter n behind bytes rest calls true (Some (call, after)) short is =
    let m = map_some (records_in n after) (λ (r : List Call × List ℕ). (call ∷ r.0, r.1)) (calls, rest) is in
    omega (arith, short call after refl, behind after m.0.1 m.0.0 m.1, ap (λ (q : List Call × List ℕ). length q.1) m.2)

rest_shorter : (n : ℕ) (bytes rest : List ℕ) (calls : List Call) → records_in n bytes ≡ Some (calls, rest) → length rest ≤ length bytes
rest_shorter zero bytes rest calls got = let p : ◌≡◌ {A = List Call × List ℕ} ([], bytes) (calls, rest) = cc in omega (arith, ap (λ (q : List Call × List ℕ). length q.1) p)
rest_shorter (suc n) bytes rest calls got = turn_shorter n (rest_shorter n) bytes rest calls (is_open bytes) (open_record.read bytes) (λ call after is. shorter bytes after call is) got

journal_shorter : (bytes rest : List ℕ) (calls : List Call) → journal bytes ≡ Some (calls, rest) → length rest ≤ length bytes
unfolding journal
journal_shorter bytes rest calls got = rest_shorter (length bytes) bytes rest calls got

-- where no gate is open, nothing is carried out
pub at_end : (net : NetData) (bytes : List ℕ) → is_open bytes ≡ false → replayed net bytes ≡ Some (net, 0)
at_end net bytes closed =
    let none : length bytes - length bytes ≡ 0 = omega arith in
    replays_as net bytes ∙ ap (carried (length bytes) net) (journal_closed bytes closed) ∙ ap (λ (k : ℕ). Some (net, k)) none

-- a record whose call is accepted is carried out, and then what is behind it
pub goes_on : (net next : NetData) (bytes rest : List ℕ) (call : Call) → is_open bytes ≡ true → open_record.read bytes ≡ Some (call, rest) → step call net ≡ Ok next
    → replayed net bytes ≡ shifted (length bytes - length rest) (replayed next rest)
goes_on net next bytes rest call opens got stepped =
    replays_as net bytes ∙ ap (carried (length bytes) net) (journal_opened bytes rest call opens got)
    ∙ both (journal rest) (λ calls r is. journal_shorter rest r calls is) ∙ ap (shifted (length bytes - length rest)) (sym (replays_as next rest))
  where
    after_all : (o : Option NetData) (r : List ℕ) → length r ≤ length rest
        → option_map (λ (last : NetData). (last, length bytes - length r)) o ≡ shifted (length bytes - length rest) (option_map (λ (last : NetData). (last, length rest - length r)) o)
    after_all None r le = refl
    after_all (Some last) r le = let e : length bytes - length r ≡ (length bytes - length rest) + (length rest - length r) = omega (arith, shorter bytes rest call got) in ap (λ (k : ℕ). Some (last, k)) e

    both : (o : Option (List Call × List ℕ)) → ((calls : List Call) (r : List ℕ) → o ≡ Some (calls, r) → length r ≤ length rest)
        → carried (length bytes) net (option_map (λ (r : List Call × List ℕ). (call ∷ r.0, r.1)) o) ≡ shifted (length bytes - length rest) (carried (length rest) next o)
    both None short = refl
    both (Some (calls, r)) short =
        ap (λ (o : Outcome). option_map (λ (last : NetData). (last, length bytes - length r)) (option_and_then (after_calls calls) (accepted o))) stepped ∙ after_all (after_calls calls next) r (short calls r refl)

-- an open gate without a whole record
pub no_record : (net : NetData) (bytes : List ℕ) → is_open bytes ≡ true → open_record.read bytes ≡ None → replayed net bytes ≡ None
no_record net bytes opens got = replays_as net bytes ∙ ap (carried (length bytes) net) (journal_broken bytes opens got)

-- a record whose call is refused
pub refused_there : (net : NetData) (bytes rest : List ℕ) (call : Call) (k : ℕ) → is_open bytes ≡ true → open_record.read bytes ≡ Some (call, rest) → step call net ≡ Err k → replayed net bytes ≡ None
refused_there net bytes rest call k opens got stepped =
    replays_as net bytes ∙ ap (carried (length bytes) net) (journal_opened bytes rest call opens got) ∙ none (journal rest)
  where
    none : (o : Option (List Call × List ℕ)) → carried (length bytes) net (option_map (λ (r : List Call × List ℕ). (call ∷ r.0, r.1)) o) ≡ None
    none None = refl
    none (Some (calls, r)) = ap (λ (o : Outcome). option_map (λ (last : NetData). (last, length bytes - length r)) (option_and_then (after_calls calls) (accepted o))) stepped

-- ---- the other way round

-- the first record of what is replayed
pub record First (net : NetData) (bytes : List ℕ) (last : NetData) (place : ℕ) : Type 0 where
  pub call : Call
  pub rest : List ℕ
  pub got : open_record.read bytes ≡ Some (call, rest)
  pub next : NetData
  pub stepped : step call net ≡ Ok next
  pub within : length bytes - length rest ≤ place
  pub behind : replayed next rest ≡ Some (last, place - (length bytes - length rest))

-- what is replayed from an open gate has a first record
pub first : (net last : NetData) (bytes : List ℕ) (place : ℕ) → is_open bytes ≡ true → replayed net bytes ≡ Some (last, place) → First net bytes last place
first net last bytes place opens all = by_record (open_record.read bytes) refl
  where
    by_step : (call : Call) (rest : List ℕ) (got : open_record.read bytes ≡ Some (call, rest)) (o : Outcome) → step call net ≡ o → First net bytes last place
    by_step call rest got (Err k) is = absurd (let e : None ≡ Some (last, place) = sym (refused_there net bytes rest call k opens got is) ∙ all in cc)
    by_step call rest got (Ok next) is =
        let k = length bytes - length rest in
        let m = map_some (replayed next rest) (λ (r : NetData × ℕ). (r.0, k + r.1)) (last, place) (sym (goes_on net next bytes rest call opens got is) ∙ all) in
        let same : m.0.0 ≡ last = ap (λ (q : NetData × ℕ). q.0) m.2 in
        let further : k + m.0.1 ≡ place = ap (λ (q : NetData × ℕ). q.1) m.2 in
        let left : m.0.1 ≡ place - k = omega (arith, further) in
        record {
          call = call;
          rest = rest;
          got = got;
          next = next;
          stepped = is;
          within = omega (arith, further);
          behind = m.1 ∙ ap (λ (n : NetData). Some (n, m.0.1)) same ∙ ap (λ (j : ℕ). Some (last, j)) left;
        }

    by_record : (o : Option (Call × List ℕ)) → open_record.read bytes ≡ o → First net bytes last place
    by_record None is = absurd (let e : None ≡ Some (last, place) = sym (no_record net bytes opens is) ∙ all in cc)
    by_record (Some (call, rest)) is = by_step call rest is (step call net) refl

-- ---- another journal that begins with the same records

-- a place that isn't further on
pub no_shift : (o : Option (NetData × ℕ)) → o ≡ shifted 0 o
no_shift None = refl
no_shift (Some (net, n)) = let e : n ≡ 0 + n = omega arith in ap (λ (k : ℕ). Some (net, k)) e

-- and one that is further on twice
pub more_shift : (a b c : ℕ) (o : Option (NetData × ℕ)) → a + b ≡ c → shifted a (shifted b o) ≡ shifted c o
more_shift a b c None e = refl
more_shift a b c (Some (net, n)) e = let same : a + (b + n) ≡ c + n = omega (arith, e) in ap (λ (k : ℕ). Some (net, k)) same

-- what is replayed of a journal up to a place is replayed of each other that is the same up to there
abbrev Along : ℕ → Type 0
Along n = (net last : NetData) (bytes other : List ℕ) (place : ℕ) → length bytes ≤ n → replayed net bytes ≡ Some (last, place) → place ≤ length other → take place other ≡ take place bytes
    → replayed net other ≡ shifted place (replayed last (drop place other))

along_closed : (net last : NetData) (bytes other : List ℕ) (place : ℕ) → is_open bytes ≡ false → replayed net bytes ≡ Some (last, place) → replayed net other ≡ shifted place (replayed last (drop place other))
along_closed net last bytes other place closed all =
    let e : ◌≡◌ {A = Option (NetData × ℕ)} (Some (net, 0)) (Some (last, place)) = sym (at_end net bytes closed) ∙ all in
    let pair : ◌≡◌ {A = NetData × ℕ} (net, 0) (last, place) = cc in
    subst (λ (q : NetData × ℕ). replayed net other ≡ shifted q.1 (replayed q.0 (drop q.1 other))) pair (no_shift (replayed net other))

along_record : (m : ℕ) → Along m → (net last : NetData) (bytes other : List ℕ) (place : ℕ) → length bytes ≤ suc m → First net bytes last place → place ≤ length other → take place other ≡ take place bytes
    → replayed net other ≡ shifted place (replayed last (drop place other))
along_record m behind net last bytes other place short f long same =
    let b = begins bytes f.rest f.call f.got in
    let size = 3 + big_number 2 (drop 1 bytes) in
    let there : size ≤ length bytes = omega (arith, b.0.sized.long, length-drop 1 bytes) in
    let used : length bytes - length f.rest ≡ size = omega (arith, ap length b.1, length-drop size bytes, there) in
    let within : size ≤ place = omega (arith, used, f.within) in
    let front : take size other ≡ take size bytes = sym (take-take size place other within) ∙ ap (take size) same ∙ take-take size place bytes within in
    let too = begins_alike bytes other (big_number 2 (drop 1 bytes)) f.call b.0 front (omega (arith, within, long)) in
    let far : length other - length (drop size other) ≡ size = omega (arith, length-drop size other, within, long) in
    let sum : size + (place - size) ≡ place = omega (arith, within) in
    let rest_same : take (place - size) (drop size other) ≡ take (place - size) f.rest =
    sym (drop-take size (place - size) other) ∙ ap (λ (k : ℕ). drop size (take k other)) sum ∙ ap (drop size) same
    ∙ ap (λ (k : ℕ). drop size (take k bytes)) (sym sum) ∙ drop-take size (place - size) bytes ∙ ap (take (place - size)) (sym b.1) in
    let rest_all : replayed f.next f.rest ≡ Some (last, place - size) = f.behind ∙ ap (λ (k : ℕ). Some (last, place - k)) used in
    let further : drop (place - size) (drop size other) ≡ drop place other = drop-drop (place - size) size other ∙ ap (λ (k : ℕ). drop k other) sum in
    let shorter_rest : length f.rest ≤ m = omega (arith, used, there, short) in
    let room : place - size ≤ length (drop size other) = omega (arith, length-drop size other, long) in
    goes_on net f.next other (drop size other) f.call too.opens (begins_read other (big_number 2 (drop 1 bytes)) f.call too) f.stepped
    ∙ ap (λ (k : ℕ). shifted k (replayed f.next (drop size other))) far
    ∙ ap (shifted size) (behind f.next last f.rest (drop size other) (place - size) shorter_rest rest_all room rest_same)
    ∙ more_shift size (place - size) place (replayed last (drop (place - size) (drop size other))) sum
    ∙ ap (λ (l : List ℕ). shifted place (replayed last l)) further

-- without bytes no gate is open
pub no_bytes : (bytes : List ℕ) → length bytes ≤ 0 → is_open bytes ≡ false
no_bytes [] short = refl
no_bytes (b ∷ bytes) short = absurd (omega arith)

-- a gate is open or closed
pub open_or_closed : (t : Bool) → (t ≡ true) ⊎ (t ≡ false)
open_or_closed true = inl refl
open_or_closed false = inr refl

along_all : (n : ℕ) → Along n
along_all zero net last bytes other place short all long same = along_closed net last bytes other place (no_bytes bytes short) all
along_all (suc m) net last bytes other place short all long same = elim (open_or_closed (is_open bytes)) [
  | inl opens ↦ along_record m (along_all m) net last bytes other place short (first net last bytes place opens all) long same
  | inr closed ↦ along_closed net last bytes other place closed all
]

-- a journal that begins with the same records is replayed over them, and then on
pub along : (net last : NetData) (bytes other : List ℕ) (place : ℕ) → replayed net bytes ≡ Some (last, place) → place ≤ length other → take place other ≡ take place bytes
    → replayed net other ≡ shifted place (replayed last (drop place other))
along net last bytes other place all long same = along_all (length bytes) net last bytes other place (omega arith) all long same

-- what is replayed ends where no gate is open
pub closed_there : (net last : NetData) (bytes : List ℕ) (place : ℕ) → replayed net bytes ≡ Some (last, place) → place ≤ length bytes → is_open (drop place bytes) ≡ false
closed_there net last bytes place all within = elim (open_or_closed (is_open (drop place bytes))) [
  | inl opens ↦
      let behind = along net last bytes bytes place all within refl in
      let m = map_some (replayed last (drop place bytes)) (λ (r : NetData × ℕ). (r.0, place + r.1)) (last, place) (sym behind ∙ all) in
      let f = first last m.0.0 (drop place bytes) m.0.1 opens m.1 in
      absurd (omega (arith, f.within, shorter (drop place bytes) f.rest f.call f.got, ap (λ (q : NetData × ℕ). q.1) m.2))
  | inr closed ↦ closed
]

-- a replay ends within the bytes
pub within_bytes : (net last : NetData) (bytes : List ℕ) (place : ℕ) → replayed net bytes ≡ Some (last, place) → place ≤ length bytes
unfolding replayed
within_bytes net last bytes place all =
    let b = bind_some (journal bytes) (λ (j : List Call × List ℕ). option_map (λ (n : NetData). (n, length bytes - length j.1)) (after_calls j.0 net)) (last, place) all in
    let m = map_some (after_calls b.0.0 net) (λ (n : NetData). (n, length bytes - length b.0.1)) (last, place) b.2 in
    omega (arith, ap (λ (q : NetData × ℕ). q.1) m.2)
