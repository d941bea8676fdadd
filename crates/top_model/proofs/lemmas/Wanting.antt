-- Which words may run out of memory.
use Rattle.std.proofs.Common.{◌≡◌, ◌∙◌, refl, sym, ap, List, Option, Some, None}
use Rattle.std.specs.Prelude.{◌≢◌, Result, Ok}
use Rattle.std.specs.Option.{option_or}
use Rattle.engine_model.specs.Faults.{HasSet, HasTaken}
use Rattle.command_words.specs.Words.{lone, unescaped, command_of}
use Rattle.command_words.specs.declared.Command.{Command}
use Rattle.command_words.specs.declared.Command.TheVariants.{Commit, Rollback, Recover}
use Rattle.top_model.specs.Orders.{Text, Inputs, Order, committing, rolling_back, recovering, order_named, order_of}
use Rattle.top_model.specs.Runs.{Run, reads}
use Rattle.top_model.specs.Causes.{MayWant}
use Rattle.top_model.specs.declared.report.Cause.{Cause}
use Rattle.top_model.proofs.lemmas.Settles.{same_some}

none_some : (c : Command) → None ≡ Some c → ⊥
none_some c e = cc

commit_rollback : Commit ≡ Rollback → ⊥
commit_rollback e = cc

commit_recover : Commit ≡ Recover → ⊥
commit_recover e = cc

rollback_recover : Rollback ≡ Recover → ⊥
rollback_recover e = cc

committing_rolling_back : committing ≡ rolling_back → ⊥
committing_rolling_back e = cc

committing_recovering : committing ≡ recovering → ⊥
committing_recovering e = cc

rolling_back_recovering : rolling_back ≡ recovering → ⊥
rolling_back_recovering e = cc

abbrev asks : Order → Result Order Cause
asks order = Ok order

-- a lone word is its command
pub lone_is : (words : List Text) (c : Command) → lone words ≡ Some c → command_of words ≡ Some c
unfolding command_of
lone_is words c is = ap (λ (x : Option Command). option_or x (unescaped words)) is

-- words that are no lone one
pub may_want_words : (r : Run) → lone r.words ≡ None → MayWant r
may_want_words r none = record { commit = λ is. none_some Commit (sym none ∙ is); rollback = λ t is. absurd (none_some Rollback (sym none ∙ is)); recover = λ t is. absurd (none_some Recover (sym none ∙ is)) }

-- words that are no command
pub may_want_usage : (r : Run) → command_of r.words ≡ None → MayWant r
may_want_usage r none = record {
  commit = λ is. none_some Commit (sym none ∙ lone_is r.words Commit is);
  rollback = λ t is. absurd (none_some Rollback (sym none ∙ lone_is r.words Rollback is));
  recover = λ t is. absurd (none_some Recover (sym none ∙ lone_is r.words Recover is));
}

-- ---- by the order that was asked

same_order : (a b : Order) → asks a ≡ asks b → a ≡ b
same_order a b e = cc

module _ (r : Run) (inputs : Inputs) (order : Order) (asked : order_of r.in_script inputs r.words ≡ asks order) where
  -- a lone word gives its order
  lone_order : (c : Command) (d : Order) → order_named r.in_script inputs (Some c) ≡ asks d → lone r.words ≡ Some c → order ≡ d
  lone_order c d gives is = same_order order d (sym asked ∙ ap (order_named r.in_script inputs) (lone_is r.words c is) ∙ gives)

  -- an order of another command than those three
  pub may_want_order : order ≢ committing → order ≢ rolling_back → order ≢ recovering → MayWant r
  may_want_order commit rollback recover = record {
    commit = λ is. commit (lone_order Commit committing refl is);
    rollback = λ t is. absurd (rollback (lone_order Rollback rolling_back refl is));
    recover = λ t is. absurd (recover (lone_order Recover recovering refl is));
  }

  -- a rollback where a checkpoint is there
  pub may_want_rolling_back : order ≡ rolling_back → (r.host_tells → HasSet (reads r).cell) → MayWant r
  may_want_rolling_back is set = record {
    commit = λ lone. committing_rolling_back (sym (lone_order Commit committing refl lone) ∙ is);
    rollback = λ t lone. set t;
    recover = λ t lone. absurd (rolling_back_recovering (sym is ∙ lone_order Recover recovering refl lone));
  }

  -- a recovery where a change is to be taken back
  pub may_want_recovering : order ≡ recovering → (r.host_tells → HasTaken r.now (reads r).cell) → MayWant r
  may_want_recovering is taken = record {
    commit = λ lone. committing_recovering (sym (lone_order Commit committing refl lone) ∙ is);
    rollback = λ t lone. absurd (rolling_back_recovering (sym (lone_order Rollback rolling_back refl lone) ∙ is));
    recover = λ t lone. taken t;
  }

-- ---- by the command of the words

module _ (r : Run) (c : Command) (named : command_of r.words ≡ Some c) where
  same : (d : Command) → lone r.words ≡ Some d → c ≡ d
  same d is = same_some c d (sym named ∙ lone_is r.words d is)

  -- another command than those three
  pub may_want_other : c ≢ Commit → c ≢ Rollback → c ≢ Recover → MayWant r
  may_want_other commit rollback recover = record { commit = λ is. commit (same Commit is); rollback = λ t is. absurd (rollback (same Rollback is)); recover = λ t is. absurd (recover (same Recover is)) }

  -- a rollback where a checkpoint is there
  pub may_want_rollback : c ≡ Rollback → (r.host_tells → HasSet (reads r).cell) → MayWant r
  may_want_rollback is set = record {
    commit = λ lone. commit_rollback (sym (same Commit lone) ∙ is);
    rollback = λ t lone. set t;
    recover = λ t lone. absurd (rollback_recover (sym is ∙ same Recover lone));
  }

  -- a recovery where a change is to be taken back
  pub may_want_recover : c ≡ Recover → (r.host_tells → HasTaken r.now (reads r).cell) → MayWant r
  may_want_recover is taken = record {
    commit = λ lone. commit_recover (sym (same Commit lone) ∙ is);
    rollback = λ t lone. absurd (rollback_recover (sym (same Rollback lone) ∙ is));
    recover = λ t lone. taken t;
  }
