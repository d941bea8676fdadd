use Rattle.std.proofs.Common.{◌∙◌, sym}
use Rattle.order_reading.proofs.Inputs.{refused_there, file_read, file_taken}
use Rattle.order_reading.proofs.input.read_input.Goals as goal

pub returns-then-is_refused-clause-bytes : goal.returns-then-is_refused-clause-bytes
returns-then-is_refused-clause-bytes g c =
    refused_there g.S.Source.tells c.args.in_script c.args.file.now (g.S.Source.told c.args.src.now) (sym c.is_refused.ensures ∙ c.if-is_refused.true)

pub returns-clause-bytes : goal.returns-clause-bytes
returns-clause-bytes g c =
    let name = rw c.name_of.ensures at c.read_name.ensures in
    file_read g.S.Source.tells c.args.in_script c.args.file.now (g.S.Source.told c.args.src.now) (g.S.Source.told c.read_name.new.src) c.read_name.result (sym c.is_refused.ensures ∙ c.if-is_refused.false) name

pub returns-clause-taken : goal.returns-clause-taken
returns-clause-taken g c =
    let name = rw c.name_of.ensures at c.read_name.ensures in
    file_taken g.S.Source.tells c.args.file.now (g.S.Source.told c.args.src.now) (g.S.Source.told c.read_name.new.src) c.read_name.result name
