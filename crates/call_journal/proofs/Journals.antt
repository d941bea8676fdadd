-- What holds of calls, of journals and of kernel areas follows from their forms' being exact.
use Rattle.std.proofs.Common.{◌≡◌, inl, inr, ℕ, zero, suc, ◌+◌, ◌-◌, ◌≤◌, true, false, cond, eqb, List, [], ◌∷◌, ◌++◌, length, drop, Some, None, Ok, refl, sym, ap, subst, ◌∙◌, append_assoc, arith, length-append}
use Rattle.std.specs.List.{flat_map, list_all}
use Rattle.std.proofs.lemmas.Bool.{eqb-true, and_parts, and_from}
use Rattle.std.proofs.lemmas.List.{append-nil, nil_from_length, drop_all}
use Rattle.std.proofs.lemmas.Option.{cond_some, same_Some}
use Rattle.net_model.specs.NetData.{NetData}
use Rattle.net_model.specs.declared.call.Call.{Call}
use Rattle.kernel_model.specs.Kernel.{step}
use Rattle.kernel_model.specs.Runs.{Runs}
use Rattle.net_image.specs.Form.{whole}
use Rattle.net_image.specs.Laws.{AreBytes, IsWritten}
use Rattle.net_image.proofs.lemmas.Reading.{bind_some, rest_are_bytes}
use Rattle.call_journal.specs.Calls.{call_form}
use Rattle.call_journal.specs.Laws.{IsCall}
use Rattle.call_journal.specs.Records.{open_record, is_open}
use Rattle.call_journal.specs.Replay.{replayed, Replays}
use Rattle.call_journal.proofs.lemmas.Record.{record_is}
use Rattle.call_journal.proofs.lemmas.Replaying.{shifted, shorter, at_end, goes_on, first, no_bytes, open_or_closed}
use Rattle.call_journal.proofs.lemmas.CallLaws.{call_exact, record_exact, whole_again}
use Rattle.call_journal.proofs.CallShort.{call_short}

-- ---- calls

-- what was written as a call is read as it
pub read : (bytes : List ℕ) (call : Call) → IsCall bytes call → whole call_form bytes ≡ Some call
read bytes call is = ap (whole call_form) is.spelled ∙ whole_again call_form call_exact call is.fits

-- a call that is read up to the end is read whole
pub whole_read : (bytes : List ℕ) (behind : ℕ) (call : Call) → call_form.read bytes ≡ Some (call, drop behind bytes) → length bytes ≤ behind → whole call_form bytes ≡ Some call
whole_read bytes behind call got past =
    let e : call_form.read bytes ≡ Some (call, []) = got ∙ ap (λ (l : List ℕ). Some (call, l)) (drop_all behind bytes past) in
    rw e refl

-- and what is read as a call was written so
pub found : (bytes : List ℕ) (call : Call) → AreBytes bytes → whole call_form bytes ≡ Some call → IsCall bytes call
found bytes call are got =
    let b = bind_some (call_form.read bytes) (λ (x : Call × List ℕ). cond (eqb (length x.1) 0) (Some x.0) None) call got in
    let c = cond_some (eqb (length b.0.1) 0) b.0.0 call b.2 in
    let none : b.0.1 ≡ [] = nil_from_length b.0.1 (eqb-true _ _ c.0) in
    let w = call_exact.only bytes b.0.1 b.0.0 are b.1 in
    subst (IsCall bytes) c.1 (record { fits = w.fits; spelled = w.bytes_are ∙ ap (λ (l : List ℕ). call_form.write b.0.0 ++ l) none ∙ append-nil (call_form.write b.0.0) })

-- a call has one spelling
pub one : (a b : List ℕ) (call : Call) → IsCall a call → IsCall b call → a ≡ b
one a b call is too = is.spelled ∙ sym too.spelled

-- bytes are those of one call
pub alone : (bytes : List ℕ) (c d : Call) → IsCall bytes c → IsCall bytes d → c ≡ d
alone bytes c d is too = same_Some c d (sym (read bytes c is) ∙ read bytes d too)

front_read : (bytes rest : List ℕ) (call : Call) → IsCall bytes call → call_form.read (bytes ++ rest) ≡ Some (call, rest)
front_read bytes rest call is = ap (λ (l : List ℕ). call_form.read (l ++ rest)) is.spelled ∙ call_exact.again call rest is.fits

-- no call begins another
pub no_prefix : (a rest : List ℕ) (c d : Call) → IsCall a c → IsCall (a ++ rest) d → rest ≡ []
no_prefix a rest c d is longer =
    let short : call_form.read (a ++ rest) ≡ Some (c, rest) = front_read a rest c is in
    let all : call_form.read (a ++ rest) ≡ Some (d, []) = ap call_form.read (sym (append-nil (a ++ rest))) ∙ front_read (a ++ rest) [] d longer in
    ap (λ (p : Call × List ℕ). p.1) (same_Some (c, rest) (d, []) (sym short ∙ all))

-- no call has more bytes
pub short : (bytes : List ℕ) (call : Call) → IsCall bytes call → length bytes ≤ 4339
short bytes call is = let most = call_short.at_most call is.fits in omega (arith, ap length is.spelled)

-- ---- journals

opens : (call : Call) (l : List ℕ) → is_open (open_record.write call ++ l) ≡ true
opens call l = ap (λ (w : List ℕ). is_open (w ++ l)) (record_is call)

-- records of calls that run are replayed
pub records_read : (calls : List Call) (rest : List ℕ) (net last : NetData) → list_all open_record.fits calls ≡ true → is_open rest ≡ false → Runs calls net last
    → replayed net (flat_map open_record.write calls ++ rest) ≡ Some (last, length (flat_map open_record.write calls))
records_read [] rest net last fits ends runs = at_end net rest ends ∙ ap (λ (n : NetData). Some (n, 0)) (sym runs)
records_read (call ∷ calls) rest net last fits ends (next, stepped, runs) =
    let parts = and_parts (open_record.fits call) (list_all open_record.fits calls) fits in
    let w = open_record.write call in
    let more = flat_map open_record.write calls in
    let regrouped : (w ++ more) ++ rest ≡ w ++ (more ++ rest) = append_assoc w more rest in
    let used : length (w ++ (more ++ rest)) - length (more ++ rest) ≡ length w = omega (arith, length-append w (more ++ rest)) in
    let sum : length w + length more ≡ length (w ++ more) = omega (arith, length-append w more) in
    ap (replayed net) regrouped ∙ goes_on net next (w ++ (more ++ rest)) (more ++ rest) call (opens call (more ++ rest)) (record_exact.again call (more ++ rest) parts.0) stepped
    ∙ ap (λ (k : ℕ). shifted k (replayed next (more ++ rest))) used ∙ ap (shifted (length w)) (records_read calls rest next last parts.1 ends runs) ∙ ap (λ (k : ℕ). Some (last, k)) sum

-- so is what leads somewhere
pub journal_read : (net last : NetData) (bytes : List ℕ) (place : ℕ) → Replays net bytes last place → replayed net bytes ≡ Some (last, place)
journal_read net last bytes place r =
    ap (replayed net) r.records.spelled ∙ records_read r.calls r.rest net last r.records.fits r.records.ends r.runs ∙ ap (λ (k : ℕ). Some (last, k)) (sym r.place_is)

one_more : (net next last : NetData) (bytes rest : List ℕ) (call : Call) (place : ℕ) → IsWritten open_record bytes call rest → step call net ≡ Ok next → length bytes - length rest ≤ place
    → Replays next rest last (place - (length bytes - length rest)) → Replays net bytes last place
one_more net next last bytes rest call place w stepped within r =
    let used : length bytes - length rest ≡ length (open_record.write call) = omega (arith, ap length w.bytes_are, length-append (open_record.write call) rest) in
    record {
      calls = call ∷ r.calls;
      rest = r.rest;
      records = record {
        fits = and_from (open_record.fits call) (list_all open_record.fits r.calls) w.fits r.records.fits;
        spelled = w.bytes_are ∙ ap (λ (l : List ℕ). open_record.write call ++ l) r.records.spelled ∙ sym (append_assoc (open_record.write call) (flat_map open_record.write r.calls) r.rest);
        ends = r.records.ends;
      };
      runs = (next, stepped, r.runs);
      place_is = omega (arith, used, within, r.place_is, length-append (open_record.write call) (flat_map open_record.write r.calls));
    }

none_there : (net last : NetData) (bytes : List ℕ) (place : ℕ) → is_open bytes ≡ false → replayed net bytes ≡ Some (last, place) → Replays net bytes last place
none_there net last bytes place closed all =
    let e : ◌≡◌ {A = NetData × ℕ} (net, 0) (last, place) = same_Some (net, 0) (last, place) (sym (at_end net bytes closed) ∙ all) in
    record {
      calls = [];
      rest = bytes;
      records = record { fits = refl; spelled = refl; ends = closed };
      runs = sym (ap (λ (q : NetData × ℕ). q.0) e);
      place_is = sym (ap (λ (q : NetData × ℕ). q.1) e);
    }

journal_found_in : (n : ℕ) (net last : NetData) (bytes : List ℕ) (place : ℕ) → length bytes ≤ n → AreBytes bytes → replayed net bytes ≡ Some (last, place) → Replays net bytes last place
journal_found_in zero net last bytes place short are all = none_there net last bytes place (no_bytes bytes short) all
journal_found_in (suc n) net last bytes place short are all = elim (open_or_closed (is_open bytes)) [
  | inl opens ↦
      let f = first net last bytes place opens all in
      let w = record_exact.only bytes f.rest f.call are f.got in
      one_more net f.next last bytes f.rest f.call place w f.stepped f.within
      (journal_found_in n f.next last f.rest (place - (length bytes - length f.rest)) (omega (arith, shorter bytes f.rest f.call f.got, short)) (rest_are_bytes (open_record.write f.call) f.rest (subst AreBytes w.bytes_are are)) f.behind)
  | inr closed ↦ none_there net last bytes place closed all
]

-- and what is replayed leads there
pub journal_found : (net last : NetData) (bytes : List ℕ) (place : ℕ) → AreBytes bytes → replayed net bytes ≡ Some (last, place) → Replays net bytes last place
journal_found net last bytes place are all = journal_found_in (length bytes) net last bytes place (omega arith) are all
