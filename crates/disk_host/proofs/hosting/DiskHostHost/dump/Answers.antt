use Rattle.std.proofs.Common.{◌≡◌, ◌∙◌, ⊎_elim, Option, Some, None, IsSome, if◌then◌else◌, refl, ap, sym, subst}
use Rattle.net_model.specs.NetData.{NetData}
use Rattle.host_core.specs.Stops.{Stays}
use Rattle.host_core.proofs.lemmas.Moments.{seen_steps}
use Rattle.disk_host.specs.Slots.{state_of}
use Rattle.host_core.specs.DiskView.{Areas}
use Rattle.call_journal.specs.Area.{net_held, kernel_net}
use Rattle.disk_host.specs.Kept.{IsKept, IsTold, parts_held}
use Rattle.disk_host.specs.declared.kept.Kept.{Kept}
use Rattle.disk_host.proofs.hosting.DiskHostHost.dump.Goals as goal
use Rattle.disk_host.proofs.hosting.DiskHostHost.dump.Goals.{In-Ok}

pub returns-in-Ok-clause-stops : goal.returns-in-Ok-clause-stops
returns-in-Ok-clause-stops g c = seen_steps state_of Stays Stays _ _ c.read_synced.ensures.untouched.stops (λ r s left is. ap state_of is)

pub returns-in-Err-Failed-clause-stops : goal.returns-in-Err-Failed-clause-stops
returns-in-Err-Failed-clause-stops g c = seen_steps state_of Stays Stays _ _ c.read_synced.ensures.untouched.stops (λ r s left is. ap state_of is)

pub returns-in-Err-Failed-clause-state : goal.returns-in-Err-Failed-clause-state
returns-in-Err-Failed-clause-state g c = λ tells. ap state_of (c.read_synced.ensures.untouched.areas tells)

pub returns-in-Err-Failed-clause-stale : goal.returns-in-Err-Failed-clause-stale
returns-in-Err-Failed-clause-stale g c = λ tells. ap (λ (a : Areas). if c.args.self.now.fresh then kernel_net a.kernel else None) (c.read_synced.ensures.untouched.areas tells)

pub returns-in-Err-Damaged-clause-stops : goal.returns-in-Err-Damaged-clause-stops
returns-in-Err-Damaged-clause-stops g c = seen_steps state_of Stays Stays _ _ c.read_synced.ensures.untouched.stops (λ r s left is. ap state_of is)

pub returns-in-Err-Damaged-clause-state : goal.returns-in-Err-Damaged-clause-state
returns-in-Err-Damaged-clause-state g c = λ tells. ap state_of (c.read_synced.ensures.untouched.areas tells)

pub returns-in-Err-Damaged-clause-stale : goal.returns-in-Err-Damaged-clause-stale
returns-in-Err-Damaged-clause-stale g c = λ tells. ap (λ (a : Areas). if c.args.self.now.fresh then kernel_net a.kernel else None) (c.read_synced.ensures.untouched.areas tells)

pub returns-in-Err-OutOfMemory-clause-stops : goal.returns-in-Err-OutOfMemory-clause-stops
returns-in-Err-OutOfMemory-clause-stops g c = seen_steps state_of Stays Stays _ _ c.read_synced.ensures.untouched.stops (λ r s left is. ap state_of is)

pub returns-in-Err-OutOfMemory-clause-state : goal.returns-in-Err-OutOfMemory-clause-state
returns-in-Err-OutOfMemory-clause-state g c = λ tells. ap state_of (c.read_synced.ensures.untouched.areas tells)

pub returns-in-Err-OutOfMemory-clause-stale : goal.returns-in-Err-OutOfMemory-clause-stale
returns-in-Err-OutOfMemory-clause-stale g c = λ tells. ap (λ (a : Areas). if c.args.self.now.fresh then kernel_net a.kernel else None) (c.read_synced.ensures.untouched.areas tells)

pub returns-in-Ok-clause-state : goal.returns-in-Ok-clause-state
returns-in-Ok-clause-state g c = λ tells. ap state_of (c.read_synced.ensures.untouched.areas tells)

pub returns-in-Ok-clause-net : goal.returns-in-Ok-clause-net
returns-in-Ok-clause-net g c = λ tells. ap net_held (c.in-Ok.ensures.kept tells).held ∙ ap (λ (n : NetData). Some n) (sym c.copied-net.ensures.net)

pub returns-in-Ok-clause-found : goal.returns-in-Ok-clause-found
returns-in-Ok-clause-found g c = λ tells. subst (λ (n : Option NetData). IsSome n) (sym (ap net_held (c.in-Ok.ensures.kept tells).held)) refl

pub returns-in-Ok-clause-fresh : goal.returns-in-Ok-clause-fresh
returns-in-Ok-clause-fresh g c = λ tells.
    ap (λ (a : Areas). kernel_net a.kernel) (c.read_synced.ensures.untouched.areas tells) ∙ ap net_held (c.in-Ok.ensures.kept tells).held ∙ ap (λ (n : NetData). Some n) (sym c.copied-net.ensures.net)

is_kept : (g : _) (c : In-Ok g) → g.D.Disk.tells → IsKept c.in-Ok.kept (g.D.Disk.told c.read_synced.new.disk).areas.kernel
is_kept g c tells = subst (λ (a : Areas). IsKept c.in-Ok.kept a.kernel) (sym (c.read_synced.ensures.untouched.areas tells)) (c.in-Ok.ensures.kept tells)

pub invariant_of-self : goal.invariant_of-self
invariant_of-self g c =
    let at = (goal.at.invariant_of-self g c).In-Ok in
    record {
      sure = λ yes tells. (
        c.in-Ok.ensures.sure tells,
        λ none. let e : Some c.in-Ok.kept.net ≡ None = sym (ap net_held (is_kept g at tells).held) ∙ none in absurd cc,
      );
      known = λ x is tells.
          ⊎_elim
          (λ same.
          let e : Some c.in-Ok.kept ≡ Some x = sym same ∙ is in
          let one : c.in-Ok.kept ≡ x = cc in
          subst (λ (k : Kept). IsTold k (g.D.Disk.told c.read_synced.new.disk).areas.kernel) one ((is_kept g at tells).second, ap parts_held (is_kept g at tells).held))
          (λ none. let e : None ≡ Some x = sym none ∙ is in absurd cc)
          c.copied-net.ensures.kept;
      none_own = c.args.self.now.none_own;
    }
