use Rattle.std.proofs.Common.{◌≡◌, ℕ, ◌+◌, true, List, drop, Ok, Err, Result, ◌∙◌, ap}
use Rattle.std.proofs.lemmas.List.{drop-drop}
use Rattle.net_model.specs.declared.call.Call.{Call}
use Rattle.call_journal.specs.Reading.{Reads}
use Rattle.call_journal.specs.Records.{sized_call, open_record, is_open}
use Rattle.call_journal.specs.declared.fault.RecordFault.{RecordFault}
use Rattle.call_journal.specs.declared.fault.RecordFault.TheVariants.{Bad, OutOfMemory}
use Rattle.call_journal.proofs.lemmas.Record.{behind_open}
use Rattle.call_journal.proofs.record.record_at.Goals as goal

reads_record : (bytes : List ℕ) (at : ℕ) (r : Result (Call × ℕ) RecordFault) → is_open (drop at bytes) ≡ true → Reads sized_call bytes (at + 1) r → Reads open_record bytes at r
reads_record bytes at (Ok found) opens got = behind_open (drop at bytes) opens ∙ ap sized_call.read (drop-drop 1 at bytes) ∙ got
reads_record bytes at (Err Bad) opens got = behind_open (drop at bytes) opens ∙ ap sized_call.read (drop-drop 1 at bytes) ∙ got
reads_record bytes at (Err OutOfMemory) opens got = got

pub returns-clause-read : goal.returns-clause-read
returns-clause-read c = reads_record c.args.bytes.now c.args.at c.sized_call_at.result c.requires c.sized_call_at.ensures.read
