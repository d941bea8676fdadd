use Rattle.std.proofs.lemmas.Result.{err_from_is_err_and}
use Rattle.top_model.specs.Orders.{input}
use Rattle.top_model.specs.Lines.{steps_of}
use Rattle.top_model.specs.Scripts.{as_steps}
use Rattle.std.specs.Prelude.{false}
use Rattle.order_reading.specs.Steps.{seen}
use Rattle.order_reading.proofs.Readings.{unread, no_usage_steps}
use Rattle.order_reading.proofs.script.read_script.Goals as goal

pub returns-in_err-bytes-clause-steps : goal.returns-in_err-bytes-clause-steps
returns-in_err-bytes-clause-steps g c =
    let p = err_from_is_err_and c.from_residual.result c.from_residual.ensures.1 in
    rw (p.1, p.2)
    (unread g.S.Source.tells (λ inputs. input false inputs c.args.file.now) (λ bytes. as_steps (steps_of bytes)) seen (g.S.Source.told c.args.src.now) (g.S.Source.told c.read_input.new.src) c.in_err-bytes.field-0.0 no_usage_steps
    c.in_err-bytes.ensures.bytes)
