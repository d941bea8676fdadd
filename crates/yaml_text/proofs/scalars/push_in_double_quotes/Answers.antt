use Rattle.std.proofs.Common.{◌++◌, arith, string_bytes}
use lib.Utf8.{encode}
use Rattle.yaml_text.specs.Scalars.{escaped, in_double_quotes}
use Rattle.yaml_text.proofs.CharLaws.{puts_quoted, escaped_keeps, pushed}
use Rattle.yaml_text.proofs.scalars.push_in_double_quotes.Goals as goal

pub returns : goal.returns
returns c =
    pushed c.push-2.result (string_bytes c.push-2.new.self) (string_bytes c.append_escaped.new.out) (encode 34) (string_bytes c.args.out.now ++ in_double_quotes c.args.text.now) c.push-2.ensures.bytes
    (puts_quoted escaped escaped_keeps 34 c.args.text.now (string_bytes c.args.out.now) (string_bytes c.push.new.self) (string_bytes c.append_escaped.new.out) (omega arith) c.utf8.text c.in_ok-push.ensures.bytes c.in_ok-append_escaped.ensures)
