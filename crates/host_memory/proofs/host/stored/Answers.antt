use Rattle.std.proofs.Common.{◌≡◌, ◌++◌, ◌∷◌, [], ℕ, List, None, Some, rules, ap, subst}
use Rattle.host_core.specs.HostView.{State}
use Rattle.host_memory.specs.declared.record.HostEvent.TheVariants.{Changed}
use Rattle.host_memory.specs.HostRecord.{IsClosing}
use Rattle.host_memory.proofs.HostMakes.{makes}
use Rattle.host_memory.proofs.host.stored.Goals as goal

pub returns-clause-made : goal.returns-clause-made
returns-clause-made c =
    let old : State = record { net = c.args.net.now; cell = c.args.cell.now.items } in
    let new : State = record { net = Some c.in_ok-copy.copy; cell = c.in_ok-next.next.items } in
    let after : c.append.new.self.items ≡ c.args.events.now.items ++ (c.in_ok-next.making.items ++ Changed None ∷ []) = search rules in
    let closing : IsClosing old.cell new.cell c.in_ok-next.making.items = subst (λ (l : List ℕ). IsClosing l new.cell c.in_ok-next.making.items) c.deref.ensures.value c.in_ok-next.ensures in
    makes c.args.first.now c.args.events.now.items c.append.new.self.items c.in_ok-next.making.items old new c.requires (ap (λ n. Some n) c.in_ok-copy.ensures) after closing
