use Rattle.std.proofs.Common.{◌≡◌, drop}
use Rattle.top_model.specs.Orders.{begins_json}
use Rattle.order_reading.proofs.document.begins_json.Given as goal

abbrev pub invariant-loop-byte : goal.invariant-loop-byte
invariant-loop-byte l = begins_json (drop l.byte-index l.bytes) ≡ begins_json l.bytes
