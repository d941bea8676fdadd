use Rattle.std.proofs.Common.{◌≡◌, ◌≤◌, ◌∙◌, ◌++◌, ap, sym, subst, ℕ, List, length}
use Rattle.std.specs.Prelude.{Ok}
use Rattle.ip_batch.specs.Batch.{batch_text}
use Rattle.ip_batch.specs.Reader.{batch_of}
use Rattle.ip_batch.specs.declared.fault.TheConstants.{MAX_BATCH_BYTES}
use Rattle.net_model.specs.declared.Call.{Call}
use Rattle.plain_commands.proofs.plan.batch_text.Goals as goal

-- what is read of one text is read of the same text
read_as : (text other : List ℕ) (calls : List Call) → text ≡ other → (length other ≤ MAX_BATCH_BYTES → batch_of other ≡ Ok calls) → length text ≤ MAX_BATCH_BYTES → batch_of text ≡ Ok calls
read_as text other calls same read = subst (λ (t : List ℕ). length t ≤ MAX_BATCH_BYTES → batch_of t ≡ Ok calls) (sym same) read

pub returns : goal.returns
returns c =
    let calls = c.in_ok-calls.calls.items in
    let is : c.write_batch.new.out.items ≡ batch_text calls = c.in_ok-write_batch.ensures.appends ∙ ap (λ (before : List ℕ). before ++ batch_text calls) c.new-text.ensures.items in
    record { calls = calls; plan = c.in_ok-calls.ensures; is = is; reads_back = read_as c.write_batch.new.out.items (batch_text calls) calls is c.write_batch.ensures.reads_back }
