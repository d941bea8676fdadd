-- All that is said of the making of a first network.
use Rattle.std.proofs.Common.{◌≡◌, ◌∙◌, ◌⊎◌, inl, inr, refl, sym, ap, subst, arith, ℕ, Bool, List, [], ◌∷◌, ◌++◌, length, get_or, Option, None, Some}
use Rattle.std.specs.Prelude.{◌≢◌, true, map, is_none, is_some, IsSome, Result, Ok, Err}
use Rattle.std.specs.List.{list_all}
use Rattle.net_model.specs.Words.{sorted}
use Rattle.net_model.specs.Hardware.{device_of}
use Rattle.net_model.specs.NetData.{NetData, net_of, no_dns, arranged}
use Rattle.net_model.specs.Order.{link_cmp}
use Rattle.net_model.specs.Valid.{least_broken}
use Rattle.net_model.proofs.lemmas.ByName.{all_map}
use Rattle.net_model.proofs.lemmas.Orders.{link_cmp_total}
use Rattle.net_model.proofs.lemmas.Permute.{list_all-IsPermutation}
use Rattle.net_model.proofs.lemmas.Sorting.{sorted_moves}
use Rattle.net_model.proofs.lemmas.Truth.{and_right}
use Rattle.net_model.specs.declared.Link.{Link}
use Rattle.host_core.specs.HostView.{State, HostView, IsFirst, IsMade, MaybeMade}
use Rattle.host_core.specs.Stops.{Stays}
use Rattle.host_core.proofs.lemmas.Moments.{stays as stays_there, weaken}
use Rattle.checkpoint_cell.specs.Cell.{cell_of}
use Rattle.checkpoint_cell.specs.Settled.{Standing, standing, restored_to}
use Rattle.checkpoint_cell.proofs.lemmas.Cells.{gate_shut}
use Rattle.engine_model.specs.Sound.{Sound}
use Rattle.engine_model.specs.Stations.{Stands, Entry, Near, Only, Before, Either, at}
use Rattle.engine_model.specs.declared.Left.TheVariants as side
use Rattle.engine_model.proofs.lemmas.Leading.{alike_is, sound_stays}
use Rattle.top_model.specs.Said.{Said, Says, made}
use Rattle.top_model.specs.Orders.{Text, committing, rolling_back, recovering, making}
use Rattle.top_model.specs.Machine.{first_net, make_on}
use Rattle.top_model.specs.Texts.{error_line}
use Rattle.top_model.specs.Runs.{Run, entry, reads, left_at_exit}
use Rattle.top_model.specs.Told.{Answer, Told}
use Rattle.top_model.specs.Causes.{MayWant, MayAnswer, Comes, Expects}
use Rattle.top_model.specs.Exits.{MakeLeaves, MakesKept, IsClear, MaybeMade as MaybeMade_at}
use Rattle.top_model.specs.Answered.{Unchanged, Unbegun, Answered}
use Rattle.top_model.specs.declared.report.Cause.{Cause}
use Rattle.top_model.specs.declared.report.Cause.TheVariants.{Done, Exists, ReadFault, HostFault, OutOfMemory}
use Rattle.top_model.proofs.lemmas.Wanting.{may_want_order}
use Rattle.answer_text.specs.Speaking.{Spoken}
use Rattle.answer_text.proofs.lemmas.Told.{err_noted, told_done, told_refused}
use Rattle.command_laws.specs.First.{is_hardware, Unmoved, IsMakingOf, Makes}
use Rattle.command_laws.proofs.lemmas.Looks.{Ran}

making_committing : (links : List Link) → making links ≢ committing
making_committing links e = cc

making_rolling_back : (links : List Link) → making links ≢ rolling_back
making_rolling_back links e = cc

making_recovering : (links : List Link) → making links ≢ recovering
making_recovering links e = cc

-- ---- a closed gate

-- a gate other than 1 gives no checkpoint
pub closed_none : (bytes : List ℕ) → (get_or bytes 0 1 ≡ 1 → ⊥) → cell_of bytes ≡ None
closed_none bytes closed = gate_shut bytes (λ opens. closed (opened bytes opens))
  where
    opened : (bytes : List ℕ) → get_or bytes 0 0 ≡ 1 → get_or bytes 0 1 ≡ 1
    opened [] is = absurd (omega (arith, is))
    opened (b ∷ bytes) is = is

-- and it stands in some bytes
closed_filled : (bytes : List ℕ) → (get_or bytes 0 1 ≡ 1 → ⊥) → bytes ≡ [] → ⊥
closed_filled bytes closed none = closed (ap (λ (b : List ℕ). get_or b 0 1) none)

-- ---- the network that is made

abbrev has_device : Link → Bool
has_device l = is_some (device_of l.name l.kind)

-- the network of a hardware list is of devices alone
pub first_is : (links : List Link) → is_hardware links ≡ true → IsFirst (first_net links)
first_is links is = record {
  devices = sym (list_all-IsPermutation has_device (map arranged links) (sorted link_cmp (map arranged links)) (sorted_moves link_cmp link_cmp_total (map arranged links)))
      ∙ all_map arranged has_device has_device (λ l. refl) links ∙ and_right (is_none (least_broken (net_of links [] [] no_dns))) (list_all has_device links) is;
  routes = refl;
  rules = refl;
  dns = refl;
}

-- where nothing was done, nothing is made
pub unmade : (tells : Type 0) (links : List Link) (host : HostView) → Makes tells links host host (Err OutOfMemory)
unmade tells links host = record {
  answer = λ t. record { stops = stays_there host.stops; state = refl };
  stays = λ t some. record { stops = stays_there host.stops; state = refl };
  maybe = λ t. inl refl;
  stops = λ t. weaken Stays (MaybeMade (first_net links)) host.stops host.stops (stays_there host.stops) (λ r s left same. inl same);
  kernel = refl;
  later = omega arith;
}

-- ---- what is answered

abbrev answer_of : List Link → Result ℕ Cause → Answer
answer_of links (Ok count) = Ok (made (length links))
answer_of links (Err cause) = Err cause

abbrev says : Said → Answer
says said = Ok said

abbrev refuses : Cause → Answer
refuses cause = Err cause

refused_said : (cause : Cause) (said : Said) → refuses cause ≡ says said → ⊥
refused_said cause said e = cc

-- what a made network is told as, and a refusal
module _ (r : Run) (links : List Link) where
  pub told_made : (count : ℕ) (text : Text) → count ≡ length links → Says (made count) text → Spoken r.sinks_tell Done text ([] ++ error_line Done) r.out r.out_after r.err r.err_after r.report
      → Told r (Ok (making links)) (Ok (made (length links)))
  told_made count text is says spoken = told_done r (Ok (making links)) (λ c t e. e) (made (length links)) text [] (subst (λ n. Says (made n) text) is says) refl spoken

  pub told_unmade : (cause : Cause) → cause ≢ ReadFault → Spoken r.sinks_tell cause [] ([] ++ error_line cause) r.out r.out_after r.err r.err_after r.report
      → Told r (Ok (making links)) (Err cause)
  told_unmade cause other spoken = told_refused r (Ok (making links)) cause [] (err_noted (Ok (making links)) cause other) spoken

-- no input is read any more
pub not_unread : (tells : Type 0) (links : List Link) (old new : HostView) (cause : Cause) → IsMakingOf tells links old new (Err cause) → cause ≢ ReadFault
not_unread tells links old new cause is same = subst (λ c. IsMakingOf tells links old new (Err c)) same is

-- ---- on what stands

module _ (links : List Link) where
  first : NetData
  first = first_net links

  exists_answer : (e : Standing) (net : Option NetData) → IsSome net → (make_on links e net).answer ≡ Err Exists
  exists_answer e (Some net) some = refl
  exists_answer e None some = absurd cc

  exists_after : (e : Standing) (net : Option NetData) → IsSome net → (make_on links e net).after ≡ e
  exists_after e (Some net) some = refl
  exists_after e None some = absurd cc

  -- no network, or one
  net_case : (net : Option NetData) → (net ≡ None) ⊎ IsSome net
  net_case None = inl refl
  net_case (Some net) = inr refl

-- what is left, or read, and where it comes from
record From (r : Run) (links : List Link) (entry : Entry) (left : Stands) : Type 0 where
  made : r.host_tells → IsMade (first_net links) r.host.state r.host_after → (stands : Standing) → left stands → stands ≡ restored_to (first_net links)
  stays : Unmoved r.host r.host_after → (stands : Standing) → left stands → entry.left stands
  maybe : r.host_tells → (stands : Standing) → left stands → (o : State) × (s : State) × entry.left (standing o) × (standing s ≡ stands) × MaybeMade (first_net links) o s
  reads : entry.reads.net ≡ r.host.state.net

module _ (r : Run) (links : List Link) (t : r.host_tells) where
  -- a host on which the network was made
  module _ (is : IsMade (first_net links) r.host.state r.host_after) where
    made_stands : (s : State) → s.net ≡ Some (first_net links) → s.cell ≡ r.host_after.state.cell → standing s ≡ restored_to (first_net links)
    made_stands s net cell = λ i. record { net = net i; cell = (ap cell_of cell ∙ closed_none r.host_after.state.cell is.closed) i }

    made_sound : Sound r.host_after
    made_sound = record {
      fit = λ s left. record {
        whole = λ checkpoint set.
            let none : cell_of s.cell ≡ None = ap cell_of (is.cell s left) ∙ closed_none r.host_after.state.cell is.closed in
            let e : None ≡ Some checkpoint = sym none ∙ set in absurd (cc);
        filled = λ net is_net empty. closed_filled r.host_after.state.cell is.closed (sym (is.cell s left) ∙ empty);
      };
      one = inl (Some (first_net links), is.nets);
    }

  module _ (result : Result ℕ Cause) (m : Makes r.host_tells links r.host r.host_after result) where
    there : From r links (entry r) (left_at_exit r)
    there = record {
      made = λ t is stands left. sym left.2 ∙ made_stands is left.0 (is.nets left.0 left.1) (is.cell left.0 left.1);
      stays = λ same stands left. let from = same.stops.now left.0 left.1 in (from.0, from.1, ap standing (sym from.2) ∙ left.2);
      maybe = λ t stands left. let from = (m.stops t).now left.0 left.1 in (from.0, left.0, (from.0, from.1, refl), left.2, from.2);
      reads = refl;
    }

    read : From r links (at (reads r)) (Only (standing r.host_after.state))
    read = record {
      made = λ t is stands same. same ∙ made_stands is r.host_after.state is.net refl;
      stays = λ same stands is. is ∙ ap standing same.state;
      maybe = λ t stands is. (r.host.state, r.host_after.state, refl, sym is, m.maybe t);
      reads = refl;
    }

  module _ (entry : Entry) (left : Stands) (from : From r links entry left) where
    like : (P : Stands) (stands : Standing) → P stands → Near P stands
    like P stands is = record { station = stands; is = is; like = alike_is stands stands refl }

    perhaps : r.host.state.net ≡ None → (stands : Standing) → (o : State) × (s : State) × entry.left (standing o) × (standing s ≡ stands) × MaybeMade (first_net links) o s
        → Either (Before entry) (MaybeMade_at (first_net links) entry) stands
    perhaps none stands (o, s, was, is, inl same) = inl (subst (λ (x : Standing). entry.left x) (ap standing (sym same) ∙ is) was)
    perhaps none stands (o, s, was, is, inr (inl closing)) = inr (from.reads ∙ none, inl (subst (λ (x : Standing). x.net ≡ None) is closing.net))
    perhaps none stands (o, s, was, is, inr (inr storing)) = inr (from.reads ∙ none, subst (λ (x : Standing). (x.net ≡ None) ⊎ (x.net ≡ Some (first_net links))) is storing.net)

    leaves : (result : Result ℕ Cause) → Makes r.host_tells links r.host r.host_after result → MakeLeaves (first_net links) entry left (answer_of links result)
    leaves (Ok count) m = λ stands there. like (Only (restored_to (first_net links))) stands (from.made t (m.answer.2 t) stands there)
    leaves (Err Exists) m = λ stands there. like (Before entry) stands (from.stays (m.stays t (m.answer t)) stands there)
    leaves (Err (HostFault side.NotBegun)) m = λ stands there. like (Either (Before entry) (MaybeMade_at (first_net links) entry)) stands (
        elim (net_case links r.host.state.net) [
          | inl none ↦ perhaps none stands (from.maybe t stands there)
          | inr some ↦ inl (from.stays (m.stays t some) stands there)
        ])
    leaves (Err OutOfMemory) m = λ stands there. like (Either (Before entry) (MaybeMade_at (first_net links) entry)) stands (inl (from.stays (m.answer t) stands there))
    leaves (Err cause) m = absurd m.answer

  module _ (result : Result ℕ Cause) (m : Makes r.host_tells links r.host r.host_after result) where
    sounds : (result : Result ℕ Cause) → Makes r.host_tells links r.host r.host_after result → IsClear (answer_of links result) → Sound r.host → Sound r.host_after
    sounds (Ok count) m clear sound = made_sound (m.answer.2 t)
    sounds (Err Exists) m clear sound = sound_stays r.host r.host_after sound (m.stays t (m.answer t)).stops
    sounds (Err (HostFault side.NotBegun)) m clear sound = absurd clear
    sounds (Err OutOfMemory) m clear sound = absurd clear
    sounds (Err cause) m clear sound = absurd m.answer

    said_sound : (result : Result ℕ Cause) → Makes r.host_tells links r.host r.host_after result → (said : Said) → answer_of links result ≡ Ok said → Sound r.host_after
    said_sound (Ok count) m said is = made_sound (m.answer.2 t)
    said_sound (Err cause) m said is = absurd (refused_said cause said is)

    kept : MakesKept (first_net links) r (answer_of links result)
    kept = record {
      during = elim (net_case links r.host.state.net) [
        | inl none ↦ inr (none, m.stops t)
        | inr some ↦ inl (m.stays t some).stops
      ];
      sound = λ which sound. elim which [
        | inl some ↦ sound_stays r.host r.host_after sound (m.stays t some).stops
        | inr clear ↦ sounds result m clear sound
      ];
      made = λ said is. said_sound result m said is;
    }

  expects : (result : Result ℕ Cause) → MayWant r → Makes r.host_tells links r.host r.host_after result → Expects r (Ok (making links)) (answer_of links result)
  expects (Ok count) want m =
      let none = m.answer.1 t in
      record {
        answer = ap (λ (n : Option NetData). (make_on links (reads r) n).answer) none;
        after = made_stands (m.answer.2 t) r.host_after.state (m.answer.2 t).net refl ∙ sym (ap (λ (n : Option NetData). (make_on links (reads r) n).after) none);
      }
  expects (Err Exists) want m = record {
    answer = exists_answer links (reads r) r.host.state.net (m.answer t);
    after = ap standing (m.stays t (m.answer t)).state ∙ sym (exists_after links (reads r) r.host.state.net (m.answer t));
  }
  expects (Err (HostFault side.NotBegun)) want m = m.answer
  expects (Err OutOfMemory) want m = want
  expects (Err cause) want m = absurd m.answer

-- ---- on every host

module _ (r : Run) (links : List Link) where
  comes : (result : Result ℕ Cause) → MayWant r → Makes r.host_tells links r.host r.host_after result → Comes r (Ok (making links)) (answer_of links result)
  comes (Ok count) want m = λ t. (ap (λ (n : Option NetData). (make_on links (reads r) n).answer) (m.answer.1 t), m.answer.2 t)
  comes (Err Exists) want m = (λ t. exists_answer links (reads r) r.host.state.net (m.answer t), λ t. ap standing (m.stays t (m.answer t)).state)
  comes (Err (HostFault side.NotBegun)) want m = (m.answer, tt)
  comes (Err OutOfMemory) want m = want
  comes (Err cause) want m = absurd m.answer

  may : (result : Result ℕ Cause) → Makes r.host_tells links r.host r.host_after result → MayAnswer (Ok (making links)) (answer_of links result)
  may (Ok count) m = tt
  may (Err Exists) m = tt
  may (Err (HostFault side.NotBegun)) m = tt
  may (Err OutOfMemory) m = tt
  may (Err cause) m = absurd m.answer

  unmoved : Unmoved r.host r.host_after → Unchanged r
  unmoved same = record { state = λ t. same.state; stops = same.stops }

  unbegun : (result : Result ℕ Cause) → Makes r.host_tells links r.host r.host_after result → Unbegun r (Ok (making links)) (answer_of links result)
  unbegun (Ok count) m = λ t some. unmoved (m.stays t some)
  unbegun (Err Exists) m = λ t some. unmoved (m.stays t some)
  unbegun (Err (HostFault side.NotBegun)) m = λ t some. unmoved (m.stays t some)
  unbegun (Err OutOfMemory) m = λ t. unmoved (m.answer t)
  unbegun (Err cause) m = absurd m.answer

  -- all that is said of a making
  pub make_answered : (result : Result ℕ Cause) → Makes r.host_tells links r.host r.host_after result → Ran r (making links) (answer_of links result) → Answered r
  make_answered result m ran =
      let want : MayWant r = may_want_order r ran.inputs (making links) ran.is (making_committing links) (making_rolling_back links) (making_recovering links) in
      record {
        order = Ok (making links);
        gives = (ran.inputs, ran.may_read, ran.is);
        answer = answer_of links result;
        may = may result m;
        comes = comes result want m;
        counts = inl m.kernel;
        tried = tt;
        told = ran.told;
        goes_on = ran.goes_on;
        exactly = λ honest. tt;
        expects = λ honest. expects r links (ran.goes_on.tells honest) result want m;
        leaves = λ honest. leaves r links (ran.goes_on.tells honest) (entry r) (left_at_exit r) (there r links (ran.goes_on.tells honest) result m) result m;
        reads_as = λ honest. leaves r links (ran.goes_on.tells honest) (at (reads r)) (Only (standing r.host_after.state)) (read r links (ran.goes_on.tells honest) result m) result m;
        kept = λ honest. kept r links (ran.goes_on.tells honest) result m;
        spares = λ honest. tt;
        compares = λ a never. absurd never;
        looks = tt;
        unbegun = unbegun result m;
        waits = tt;
      }
