-- One turn of a replay.
use Rattle.std.proofs.Common.{◌≡◌, ℕ, ◌+◌, ◌-◌, ◌<◌, ◌≤◌, true, false, List, [], ◌∷◌, ◌++◌, length, drop, Option, Some, None, Ok, Err, refl, sym, ap, ◌∙◌, append_assoc, arith, length-drop}
use Rattle.std.specs.List.{flat_map, list_all}
use Rattle.std.proofs.lemmas.Bool.{and_parts, and_from}
use Rattle.std.proofs.lemmas.List.{append-nil}
use Rattle.net_model.specs.NetData.{NetData}
use Rattle.net_model.specs.declared.call.Call.{Call}
use Rattle.kernel_model.specs.Kernel.{step}
use Rattle.kernel_model.specs.Runs.{Runs}
use Rattle.net_image.specs.Laws.{AreBytes}
use Rattle.net_image.proofs.lemmas.Taking.{behind_are_bytes}
use Rattle.call_journal.specs.Records.{open_record, is_open}
use Rattle.call_journal.specs.Replay.{replayed, LedTo}
use Rattle.call_journal.proofs.lemmas.CallLaws.{record_exact}
use Rattle.call_journal.proofs.lemmas.Replaying.{shifted, more_shift, at_end, goes_on, no_record, refused_there}

-- the records up to a place lead from the one network to the other
pub record LedUpTo (net : NetData) (bytes : List ℕ) (at : ℕ) (last : NetData) : Type 0 where
  pub calls : List Call
  pub fits : list_all open_record.fits calls ≡ true
  pub spelled : bytes ≡ flat_map open_record.write calls ++ drop at bytes
  pub runs : Runs calls net last

-- before the first record
pub start : (net : NetData) (bytes : List ℕ) → LedUpTo net bytes 0 net
start net bytes = record { calls = []; fits = refl; spelled = refl; runs = refl }

-- up to a place a prefix of the records leads
pub led : (net last : NetData) (bytes : List ℕ) (at : ℕ) → LedUpTo net bytes at last → LedTo net bytes last
led net last bytes at l = record { calls = l.calls; rest = drop at bytes; fits = l.fits; spelled = l.spelled; runs = l.runs }

runs_more : (calls : List Call) (call : Call) (a b c : NetData) → Runs calls a b → step call b ≡ Ok c → Runs (calls ++ call ∷ []) a c
runs_more [] call a b c runs stepped = (c, ap (step call) (sym runs) ∙ stepped, refl)
runs_more (first ∷ calls) call a b c (next, one, rest) stepped = (next, one, runs_more calls call next b c rest stepped)

all_more : (calls : List Call) (call : Call) → list_all open_record.fits calls ≡ true → open_record.fits call ≡ true → list_all open_record.fits (calls ++ call ∷ []) ≡ true
all_more [] call all one = and_from (open_record.fits call) true one refl
all_more (first ∷ calls) call all one =
    let parts = and_parts (open_record.fits first) (list_all open_record.fits calls) all in
    and_from (open_record.fits first) (list_all open_record.fits (calls ++ call ∷ [])) parts.0 (all_more calls call parts.1 one)

written_more : (calls : List Call) (call : Call) → flat_map open_record.write (calls ++ call ∷ []) ≡ flat_map open_record.write calls ++ open_record.write call
written_more [] call = append-nil (open_record.write call)
written_more (first ∷ calls) call = ap (λ (l : List ℕ). open_record.write first ++ l) (written_more calls call) ∙ sym (append_assoc (open_record.write first) (flat_map open_record.write calls) (open_record.write call))

module _ (bytes : List ℕ) (are : AreBytes bytes) (at behind : ℕ) (call : Call) (mid : NetData) (got : open_record.read (drop at bytes) ≡ Some (call, drop behind bytes)) where
  pub led_on : (net next : NetData) → LedUpTo net bytes at mid → step call mid ≡ Ok next → LedUpTo net bytes behind next
  led_on net next l stepped =
      let w = record_exact.only (drop at bytes) (drop behind bytes) call (behind_are_bytes at bytes are) got in
      record {
        calls = l.calls ++ call ∷ [];
        fits = all_more l.calls call l.fits w.fits;
        spelled = l.spelled ∙ ap (λ (r : List ℕ). flat_map open_record.write l.calls ++ r) w.bytes_are
            ∙ sym (append_assoc (flat_map open_record.write l.calls) (open_record.write call) (drop behind bytes)) ∙ ap (λ (r : List ℕ). r ++ drop behind bytes) (sym (written_more l.calls call));
        runs = runs_more l.calls call net mid next l.runs stepped;
      }

  pub carried_on : (next : NetData) (all : Option (NetData × ℕ)) → is_open (drop at bytes) ≡ true → at < behind → behind ≤ length bytes → step call mid ≡ Ok next
      → shifted at (replayed mid (drop at bytes)) ≡ all → shifted behind (replayed next (drop behind bytes)) ≡ all
  carried_on next all opens further within stepped before =
      let used : length (drop at bytes) - length (drop behind bytes) ≡ behind - at = omega (arith, length-drop at bytes, length-drop behind bytes, further, within) in
      sym (more_shift at (behind - at) behind (replayed next (drop behind bytes)) (omega (arith, further)))
      ∙ ap (λ (k : ℕ). shifted at (shifted k (replayed next (drop behind bytes)))) (sym used)
      ∙ ap (shifted at) (sym (goes_on mid next (drop at bytes) (drop behind bytes) call opens got stepped)) ∙ before

  pub refused_now : (k : ℕ) (all : Option (NetData × ℕ)) → is_open (drop at bytes) ≡ true → step call mid ≡ Err k → shifted at (replayed mid (drop at bytes)) ≡ all → all ≡ None
  refused_now k all opens stepped before = sym before ∙ ap (shifted at) (refused_there mid (drop at bytes) (drop behind bytes) call k opens got stepped)

-- an open gate without a whole record ends a replay with nothing
pub broken_now : (bytes : List ℕ) (at : ℕ) (mid : NetData) (all : Option (NetData × ℕ)) → is_open (drop at bytes) ≡ true → open_record.read (drop at bytes) ≡ None → shifted at (replayed mid (drop at bytes)) ≡ all → all ≡ None
broken_now bytes at mid all opens got before = sym before ∙ ap (shifted at) (no_record mid (drop at bytes) opens got)

-- a gate that is closed ends it
pub ends_now : (bytes : List ℕ) (at : ℕ) (mid : NetData) (all : Option (NetData × ℕ)) → is_open (drop at bytes) ≡ false → shifted at (replayed mid (drop at bytes)) ≡ all → all ≡ Some (mid, at)
ends_now bytes at mid all closed before = sym before ∙ ap (shifted at) (at_end mid (drop at bytes) closed) ∙ (let e : at + 0 ≡ at = omega arith in ap (λ (k : ℕ). Some (mid, k)) e)
