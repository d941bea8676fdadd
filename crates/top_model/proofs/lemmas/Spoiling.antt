-- Each fault step has a fault of its own.
use Rattle.std.proofs.Common.{◌≡◌, ◌∙◌, ◌⊎◌, inl, inr, refl, ap, arith, ℕ, ◌≤◌, ◌+◌, Bool, true, false, ◌||◌, cond, filter, length, List, [], ◌∷◌, ◌++◌, length-append}
use Rattle.std.specs.Prelude.{Result, Ok, Err}
use Rattle.std.proofs.lemmas.List.Elements.{filter-append}
use Rattle.host_core.specs.Faults.{Rose}
use Rattle.top_model.specs.Orders.{Order}
use Rattle.top_model.specs.Texts.{status_of}
use Rattle.top_model.specs.Runs.{Run, HostRose, SourceRose}
use Rattle.top_model.specs.Told.{Answer, cause_of}
use Rattle.top_model.specs.Causes.{Comes, Expects}
use Rattle.top_model.specs.WholeRuns.{Ran}
use Rattle.top_model.specs.ScriptFaults.{Counts, RoseTimes, is_fault_status, is_unread, is_fault_step, FewFaults}
use Rattle.top_model.specs.declared.report.Cause.{Cause}
use Rattle.top_model.specs.declared.report.Cause.TheVariants.{ReadFault, WriteFault, HostFault, InDoubt, KernelRefused, NotVerified}
use Rattle.top_model.proofs.lemmas.Reports.{not_fault}

clash : false ≡ true → ⊥
clash e = cc

-- an answer of a fault comes where a count rose
pub spoiled : (r : Run) (order : Result Order Cause) (answer : Answer) → Expects r order answer → Comes r order answer → (is_fault_status (status_of (cause_of answer)) || is_unread answer) ≡ true
    → HostRose r ⊎ SourceRose r
spoiled r order (Ok said) expects comes is = absurd (clash is)
spoiled r order (Err ReadFault) expects comes is = inr expects
spoiled r order (Err (HostFault left)) expects comes is = inl expects
spoiled r order (Err InDoubt) expects comes is = inl expects
spoiled r order (Err (KernelRefused k n left)) expects comes is = absurd expects
spoiled r order (Err (NotVerified found left)) expects comes is = absurd expects
spoiled r order (Err (WriteFault status)) expects comes is = absurd (not_fault r order status comes)
spoiled r order (Err cause) expects comes is = absurd (clash is)

-- ---- counting

rose_none : (a b : ℕ) → a ≤ b → RoseTimes 0 a b
rose_none a b le = omega (arith, le)

rose_still : (n a b c : ℕ) → RoseTimes n a b → b ≤ c → RoseTimes n a c
rose_still n a b c rose le = omega (arith, rose, le)

rose_once : (n a b c : ℕ) → RoseTimes n a b → Rose b c → RoseTimes (n + 1) a c
rose_once n a b c rose once = omega (arith, rose, once)

one_of : (ran : Ran) (is : Bool) → is_fault_step ran ≡ is → length (filter is_fault_step (ran ∷ [])) ≡ cond is 1 0
one_of ran is same = ap (λ (b : Bool). length (cond b (ran ∷ []) [])) same ∙ by is
  where
    by : (b : Bool) → length (cond b (ran ∷ []) []) ≡ cond b 1 0
    by true = refl
    by false = refl

-- one more
counted : (rans : List Ran) (ran : Ran) (is : Bool) → is_fault_step ran ≡ is → length (filter is_fault_step (rans ++ ran ∷ [])) ≡ length (filter is_fault_step rans) + cond is 1 0
counted rans ran is same =
    ap (λ (l : List Ran). length l) (filter-append is_fault_step rans (ran ∷ [])) ∙ length-append (filter is_fault_step rans) (filter is_fault_step (ran ∷ []))
    ∙ ap (λ (n : ℕ). length (filter is_fault_step rans) + n) (one_of ran is same)

-- which count rose
abbrev pub SomeRose : Counts → Counts → Type 0
SomeRose mid new = Rose mid.host new.host ⊎ Rose mid.source new.source ⊎ Rose mid.out new.out ⊎ Rose mid.err new.err

-- no count falls
pub record NoneFell (mid new : Counts) : Type 0 where
  pub host : mid.host ≤ new.host
  pub source : mid.source ≤ new.source
  pub out : mid.out ≤ new.out
  pub err : mid.err ≤ new.err

pub few_start : (counts : Counts) → FewFaults counts counts []
few_start counts = record {
  host = 0;
  source = 0;
  out = 0;
  err = 0;
  few = omega arith;
  host_rose = omega arith;
  source_rose = omega arith;
  out_rose = omega arith;
  err_rose = omega arith;
}

module _ (old mid new : Counts) (rans : List Ran) (ran : Ran) (f : FewFaults old mid rans) (later : NoneFell mid new) where
  few_still : is_fault_step ran ≡ false → FewFaults old new (rans ++ ran ∷ [])
  few_still is = record {
    host = f.host;
    source = f.source;
    out = f.out;
    err = f.err;
    few = omega (arith, f.few, counted rans ran false is);
    host_rose = rose_still f.host old.host mid.host new.host f.host_rose later.host;
    source_rose = rose_still f.source old.source mid.source new.source f.source_rose later.source;
    out_rose = rose_still f.out old.out mid.out new.out f.out_rose later.out;
    err_rose = rose_still f.err old.err mid.err new.err f.err_rose later.err;
  }

  few_host : is_fault_step ran ≡ true → Rose mid.host new.host → FewFaults old new (rans ++ ran ∷ [])
  few_host is rose = record {
    host = f.host + 1;
    source = f.source;
    out = f.out;
    err = f.err;
    few = omega (arith, f.few, counted rans ran true is);
    host_rose = rose_once f.host old.host mid.host new.host f.host_rose rose;
    source_rose = rose_still f.source old.source mid.source new.source f.source_rose later.source;
    out_rose = rose_still f.out old.out mid.out new.out f.out_rose later.out;
    err_rose = rose_still f.err old.err mid.err new.err f.err_rose later.err;
  }

  few_source : is_fault_step ran ≡ true → Rose mid.source new.source → FewFaults old new (rans ++ ran ∷ [])
  few_source is rose = record {
    host = f.host;
    source = f.source + 1;
    out = f.out;
    err = f.err;
    few = omega (arith, f.few, counted rans ran true is);
    host_rose = rose_still f.host old.host mid.host new.host f.host_rose later.host;
    source_rose = rose_once f.source old.source mid.source new.source f.source_rose rose;
    out_rose = rose_still f.out old.out mid.out new.out f.out_rose later.out;
    err_rose = rose_still f.err old.err mid.err new.err f.err_rose later.err;
  }

  few_out : is_fault_step ran ≡ true → Rose mid.out new.out → FewFaults old new (rans ++ ran ∷ [])
  few_out is rose = record {
    host = f.host;
    source = f.source;
    out = f.out + 1;
    err = f.err;
    few = omega (arith, f.few, counted rans ran true is);
    host_rose = rose_still f.host old.host mid.host new.host f.host_rose later.host;
    source_rose = rose_still f.source old.source mid.source new.source f.source_rose later.source;
    out_rose = rose_once f.out old.out mid.out new.out f.out_rose rose;
    err_rose = rose_still f.err old.err mid.err new.err f.err_rose later.err;
  }

  few_err : is_fault_step ran ≡ true → Rose mid.err new.err → FewFaults old new (rans ++ ran ∷ [])
  few_err is rose = record {
    host = f.host;
    source = f.source;
    out = f.out;
    err = f.err + 1;
    few = omega (arith, f.few, counted rans ran true is);
    host_rose = rose_still f.host old.host mid.host new.host f.host_rose later.host;
    source_rose = rose_still f.source old.source mid.source new.source f.source_rose later.source;
    out_rose = rose_still f.out old.out mid.out new.out f.out_rose later.out;
    err_rose = rose_once f.err old.err mid.err new.err f.err_rose rose;
  }

  by_fault : (is : Bool) → is_fault_step ran ≡ is → (is_fault_step ran ≡ true → SomeRose mid new) → FewFaults old new (rans ++ ran ∷ [])
  by_fault false is rose = few_still is
  by_fault true is rose = elim (rose is) as (λ v. FewFaults old new (rans ++ ran ∷ [])) [
    | inl host ↦ few_host is host
    | inr more ↦ elim more as (λ v. FewFaults old new (rans ++ ran ∷ [])) [
      | inl source ↦ few_source is source
      | inr sinks ↦ elim sinks as (λ v. FewFaults old new (rans ++ ran ∷ [])) [ inl out ↦ few_out is out | inr err ↦ few_err is err ]
    ]
  ]

  -- the faults so far, and this step
  pub few_more : (is_fault_step ran ≡ true → SomeRose mid new) → FewFaults old new (rans ++ ran ∷ [])
  few_more rose = by_fault (is_fault_step ran) refl rose
