use Rattle.std.proofs.Common.{◌≡◌, rules}
use Rattle.case_outside.proofs.disk.replace.Goals as goal

pub returns-clause-record : goal.returns-clause-record
returns-clause-record c =
    let same : c.in_ok-to_vec.field-0.items ≡ c.args.held.now.items = search rules in
    record { before = c.in_ok-to_vec.field-0; items = same; pushed = c.in_ok-push.ensures.items }
