use Rattle.std.proofs.Common.{subst, Ok}
use Rattle.std.proofs.lemmas.Result.{err_from_is_err_and}
use Rattle.top_model.specs.Orders.{Text, input}
use Rattle.order_reading.specs.AsDefined.{as_defined, order_of_file}
use Rattle.order_reading.specs.Reading.{Answers}
use Rattle.order_reading.proofs.Files.{file_read, file_unread}
use Rattle.order_reading.proofs.order.order_of_file.Goals as goal

pub returns-in_err-bytes-clause-order : goal.returns-in_err-bytes-clause-order
returns-in_err-bytes-clause-order g c =
    let p = err_from_is_err_and c.from_residual.result c.from_residual.ensures.1 in
    rw (p.1, p.2)
    (file_unread g.S.Source.tells c.args.purpose (λ inputs. input c.args.in_script inputs c.args.file.now) (g.S.Source.told c.args.src.now) (g.S.Source.told c.read_input.new.src) c.in_err-bytes.field-0.0
    c.in_err-bytes.ensures.bytes)

pub returns-clause-order : goal.returns-clause-order
returns-clause-order g c =
    file_read g.S.Source.tells c.args.purpose (λ inputs. input c.args.in_script inputs c.args.file.now) (g.S.Source.told c.args.src.now) (g.S.Source.told c.read_input.new.src)
    c.in_ok-bytes.bytes c.order_of_bytes.result c.in_ok-bytes.ensures.bytes
    (subst (λ (bytes : Text). Answers as_defined (order_of_file c.args.purpose (Ok bytes)) c.order_of_bytes.result) c.as_slice.ensures.value c.order_of_bytes.ensures.order)
