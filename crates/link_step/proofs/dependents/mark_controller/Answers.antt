use Rattle.std.proofs.lemmas.Result.{on_ok_weaker}
use Rattle.link_step.proofs.Walking.{marks_controller}
use Rattle.link_step.proofs.dependents.mark_controller.Goals as goal

pub returns-in-Some : goal.returns-in-Some
returns-in-Some c =
    on_ok_weaker c.mark.result
    (λ m d. marks_controller c.args.links.now d c.args.link.now c.in-Some.controller c.args.marks.now c.mark.new.marks c.args.left.now.items c.mark.new.left.items c.in-Some.is (m d))
    c.mark.ensures
