use Rattle.std.proofs.Common.{append_assoc}
use Rattle.std.proofs.lemmas.Result.{IfOk-equal}
use Rattle.net_text.proofs.line.push_call.Goals as goal

pub returns-in_ok-push_named-in-SetBridge : goal.returns-in_ok-push_named-in-SetBridge
returns-in_ok-push_named-in-SetBridge c = rw c.in-SetBridge.is (IfOk-equal _ _ _ _ c.push_bridge.ensures (rw c.in_ok-push_named-in-SetBridge.ensures (simp append_assoc)))

pub returns-in-AddAddress : goal.returns-in-AddAddress
returns-in-AddAddress c = rw c.in-AddAddress.is c.push_address.ensures

pub returns-in-DelAddress : goal.returns-in-DelAddress
returns-in-DelAddress c = rw c.in-DelAddress.is c.push_address-in-DelAddress.ensures
