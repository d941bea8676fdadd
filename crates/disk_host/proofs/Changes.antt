-- What a kernel call needs before it writes, and what it wrote.
use Rattle.std.proofs.Common.{◌≡◌, inl, ℕ, ◌+◌, ◌≤◌, Bool, true, false, cond, eqb, leb, List, [], ◌∷◌, ◌++◌, length, Option, Some, None, Ok, refl, sym, ap, subst, ◌∙◌, arith, length-append}
use Rattle.std.specs.Prelude.{not, ◌||◌}
use Rattle.std.specs.Option.{option_and_then}
use Rattle.std.proofs.lemmas.Bool.{leb-true}
use Rattle.std.proofs.lemmas.Option.{cond_some}
use Rattle.net_model.specs.NetData.{NetData}
use Rattle.net_model.specs.declared.call.Call.{Call}
use Rattle.net_model.specs.declared.call.Call.TheVariants.{SetDns}
use Rattle.net_model.specs.declared.limits.TheConstants.{MAX_SERVERS, MAX_SEARCH}
use Rattle.kernel_model.specs.Kernel.{step}
use Rattle.kernel_model.specs.Outcome.{unless_refused}
use Rattle.kernel_model.specs.Rest.{after_set_dns}
use Rattle.kernel_model.specs.declared.refusal.TheConstants.{LIMIT}
use Rattle.net_image.specs.Image.{IsImage}
use Rattle.host_core.specs.Bytes.{Written}
use Rattle.host_core.specs.HostView.{Accepts}
use Rattle.call_journal.specs.Calls.{HasBytes}
use Rattle.call_journal.specs.Records.{sized_call, open_record}
use Rattle.call_journal.specs.Area.{Held, slot_at, selects, net_held, kernel_net, new_record, room_for, room_in}
use Rattle.call_journal.proofs.lemmas.Record.{sized_length, record_length}
use Rattle.disk_host.specs.Slots.{IsApart}
use Rattle.disk_host.specs.Kept.{IsAfter, held_by}
use Rattle.disk_host.specs.Writes.{IsFolded, WritesAt, Writes}
use Rattle.disk_host.specs.declared.kept.Kept.{Kept}

-- a call that the network accepts has bytes
pub has_bytes : (call : Call) (net next : NetData) → step call net ≡ Ok next → HasBytes call
has_bytes (SetDns dns) net next stepped = few (leb (length dns.servers) MAX_SERVERS) (leb (length dns.search) MAX_SEARCH) refl refl stepped
  where
    few : (s t : Bool) → leb (length dns.servers) MAX_SERVERS ≡ s → leb (length dns.search) MAX_SEARCH ≡ t → unless_refused (cond (not s || not t) (Some LIMIT) None) (after_set_dns dns net) ≡ Ok next
        → (length dns.servers ≤ MAX_SERVERS) × (length dns.search ≤ MAX_SEARCH)
    few true true servers search is = (leb-true _ _ servers, leb-true _ _ search)
    few true false servers search is = absurd cc
    few false t servers search is = absurd cc
has_bytes _ net next stepped = tt

-- what is behind the gate is as long as the record
pub record_size : (call : Call) → length (sized_call.write call ++ 0 ∷ []) ≡ length (open_record.write call)
record_size call = omega (arith, record_length call, sized_length call, length-append (sized_call.write call) (0 ∷ []))

-- a slot begins within the first megabyte
pub slot_small : (b : Bool) → slot_at b ≤ 1048577
slot_small true = omega arith
slot_small false = omega arith

-- a slot with room for so many bytes at a gate
pub record HasRoom (k : Held) (n gate : ℕ) : Type 0 where
  pub has : k.gate ≡ Some gate
  pub fits : gate + n + 1 ≤ 1048576

pub has_room : (k : Held) (n gate : ℕ) → room_for k n ≡ Some gate → HasRoom k n gate
has_room k n gate is = by (k.first_image || eqb k.spare 0) k.gate refl is
  where
    by : (v : Bool) (g : Option ℕ) → k.gate ≡ g → cond v None (option_and_then (λ (x : ℕ). cond (leb (x + n + 1) 1048576) (Some x) None) g) ≡ Some gate → HasRoom k n gate
    by true g has e = absurd cc
    by false None has e = absurd cc
    by false (Some x) has e =
        let c = cond_some (leb (x + n + 1) 1048576) x gate e in
        record { has = has ∙ ap (λ (y : ℕ). Some y) c.1; fits = omega (arith, leb-true (x + n + 1) 1048576 c.0, c.1) }

pub not_not : (b : Bool) → b ≡ not (not b)
not_not true = refl
not_not false = refl

module _ (call : Call) (kept : Kept) (old : List ℕ) (after : IsAfter call kept old) where
  -- the network before the call
  pub was : kernel_net old ≡ Some after.before
  was = ap net_held after.is_kept.held

  pub apart : (b : Bool) → IsApart b old
  apart b = inl (λ none. let e : Some after.before ≡ None = sym was ∙ none in absurd cc)

  pub selected : selects old ≡ not (not kept.second)
  selected = after.is_kept.second ∙ not_not kept.second

  -- a record that was appended where there was room
  pub wrote_record : (gate : ℕ) (new : List ℕ) → room_in (Some (held_by kept)) (length (open_record.write call)) ≡ Some gate → Written (slot_at kept.second + gate) (new_record call) old new → Writes call old new
  wrote_record gate new room wrote =
      subst (λ (h : Option Held). WritesAt (room_in h (length (open_record.write call))) call old new) (sym after.is_kept.held)
      (subst (λ (o : Option ℕ). WritesAt o call old new) (sym room)
      (subst (λ (b : Bool). Written (slot_at b + gate) (new_record call) old new) (sym after.is_kept.second) wrote))

  -- an image that was folded where there was none
  pub wrote_image : (image new : List ℕ) → room_in (Some (held_by kept)) (length (open_record.write call)) ≡ None → IsImage image kept.net → IsFolded image old new → Writes call old new
  wrote_image image new room is folded =
      subst (λ (h : Option Held). WritesAt (room_in h (length (open_record.write call))) call old new) (sym after.is_kept.held)
      (subst (λ (o : Option ℕ). WritesAt o call old new) (sym room)
      (record {
        net = kept.net;
        image = image;
        accepted = subst (λ (n : Option NetData). Accepts call n (Some kept.net)) (sym was) (record { next = kept.net; stepped = after.stepped; becomes = refl });
        is_image = is;
        folded = folded;
      }))
