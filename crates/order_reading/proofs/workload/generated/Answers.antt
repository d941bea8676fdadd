use Rattle.std.proofs.Common.{◌∙◌, sym, refl}
use Rattle.std.proofs.lemmas.Result.{err_from_is_err_and}
use Rattle.doc_tree.specs.Shape.{shape}
use Rattle.top_model.specs.Orders.{reread, hardware_of_tree, document_of_tree, generated_devices, generated_first, generated_second}
use Rattle.order_reading.specs.Reading.{itself}
use Rattle.order_reading.specs.Workload.{order_for}
use Rattle.order_reading.proofs.Workloads.{all_read, devices_of, first_of, second_of, devices_refused, first_refused, second_refused, refused_as, printed}
use Rattle.order_reading.proofs.workload.generated.Goals as goal

pub reread_hardware-requires : goal.reread_hardware-requires
reread_hardware-requires c = let t = c.in_ok-trees.ensures in printed _ t.plain.0 (rw t.hardware refl)

pub reread_document-requires : goal.reread_document-requires
reread_document-requires c = let t = c.in_ok-trees.ensures in printed _ t.plain.1 (rw t.first refl)

pub reread_document-requires-2 : goal.reread_document-requires-2
reread_document-requires-2 c = let t = c.in_ok-trees.ensures in printed _ t.plain.2 (rw t.second refl)

pub returns-in_err-devices-clause-read : goal.returns-in_err-devices-clause-read
returns-in_err-devices-clause-read c =
    let p = err_from_is_err_and c.from_residual-in_err-devices.result c.from_residual-in_err-devices.ensures.1 in
    let trees = c.in_ok-trees.trees in
    let devices = devices_of c.args.count c.args.seed (shape trees.hardware) c.in_ok-trees.ensures.hardware in
    rw (p.1, p.2) (devices_refused c.args.count c.args.seed order_for c.in_err-devices.field-0.0
    (refused_as itself (reread hardware_of_tree (shape trees.hardware)) (generated_devices c.args.count c.args.seed) c.in_err-devices.field-0.0 devices c.in_err-devices.ensures))

pub returns-in_err-first-clause-read : goal.returns-in_err-first-clause-read
returns-in_err-first-clause-read c =
    let p = err_from_is_err_and c.from_residual-in_err-first.result c.from_residual-in_err-first.ensures.1 in
    let trees = c.in_ok-trees.trees in
    let devices = devices_of c.args.count c.args.seed (shape trees.hardware) c.in_ok-trees.ensures.hardware in
    let first = first_of c.args.count c.args.seed (shape trees.first) c.in_ok-trees.ensures.first in
    rw (p.1, p.2) (first_refused c.args.count c.args.seed order_for c.in_ok-devices.devices c.in_err-first.field-0.0 (sym devices ∙ c.in_ok-devices.ensures)
    (refused_as itself (reread document_of_tree (shape trees.first)) (generated_first c.args.count c.args.seed) c.in_err-first.field-0.0 first c.in_err-first.ensures.read))

pub returns-in_err-second-clause-read : goal.returns-in_err-second-clause-read
returns-in_err-second-clause-read c =
    let p = err_from_is_err_and c.from_residual-in_err-second.result c.from_residual-in_err-second.ensures.1 in
    let trees = c.in_ok-trees.trees in
    let devices = devices_of c.args.count c.args.seed (shape trees.hardware) c.in_ok-trees.ensures.hardware in
    let first = first_of c.args.count c.args.seed (shape trees.first) c.in_ok-trees.ensures.first in
    let second = second_of c.args.count c.args.seed (shape trees.second) c.in_ok-trees.ensures.second in
    rw (p.1, p.2) (second_refused c.args.count c.args.seed order_for c.in_ok-devices.devices c.in_ok-first.first c.in_err-second.field-0.0 (sym devices ∙ c.in_ok-devices.ensures) (sym first ∙ c.in_ok-first.ensures.read)
    (refused_as itself (reread document_of_tree (shape trees.second)) (generated_second c.args.count c.args.seed) c.in_err-second.field-0.0 second c.in_err-second.ensures.read))

pub returns-clause-read : goal.returns-clause-read
returns-clause-read c =
    let trees = c.in_ok-trees.trees in
    let devices = devices_of c.args.count c.args.seed (shape trees.hardware) c.in_ok-trees.ensures.hardware in
    let first = first_of c.args.count c.args.seed (shape trees.first) c.in_ok-trees.ensures.first in
    let second = second_of c.args.count c.args.seed (shape trees.second) c.in_ok-trees.ensures.second in
    all_read c.args.count c.args.seed c.in_ok-devices.devices c.in_ok-first.first c.in_ok-second.second (sym devices ∙ c.in_ok-devices.ensures) (sym first ∙ c.in_ok-first.ensures.read) (sym second ∙ c.in_ok-second.ensures.read)
