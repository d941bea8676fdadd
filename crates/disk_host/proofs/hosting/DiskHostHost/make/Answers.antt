use Rattle.std.proofs.Common.{◌≡◌, ◌≢◌, refl, sym, ap, ◌∙◌, Option, Some, None, IsSome}
use Rattle.std.proofs.lemmas.Result.{on_ok_weaker}
use Rattle.net_model.specs.NetData.{NetData}
use Rattle.call_journal.specs.Area.{kernel_net}
use Rattle.host_core.specs.DiskView.{Areas}
use Rattle.host_core.proofs.lemmas.Moments.{seen_steps}
use Rattle.host_core.specs.HostView.{MaybeMade}
use Rattle.host_core.specs.Stops.{Stays}
use Rattle.disk_host.specs.Slots.{state_of, AreasMade}
use Rattle.disk_host.proofs.Establishing.{on_ok_three}
use Rattle.disk_host.proofs.hosting.DiskHostHost.make.Goals as goal

pub returns-clause-exists : goal.returns-clause-exists
returns-clause-exists g c = c.establish.ensures.exists

pub returns-clause-met : goal.returns-clause-met
returns-clause-met g c = c.establish.ensures.met

pub returns-clause-made : goal.returns-clause-made
returns-clause-made g c = λ tells.
    on_ok_weaker c.establish.result (λ done. record {
      net = (done.0 tells).0;
      nets = λ s left. (λ i. (left.2 i).net) ∙ ap kernel_net ((done.0 tells).1 left.0 left.1) ∙ (done.0 tells).0;
      cell = λ s left. (λ i. (left.2 i).cell) ∙ (done.1 tells).1 left.0 left.1;
      closed = (done.1 tells).0;
      kept = (done.2 tells).kept;
    })
    (on_ok_three _ _ _ c.establish.result c.establish.ensures.net c.establish.ensures.cell c.establish.ensures.shut)

pub returns-clause-stays : goal.returns-clause-stays
returns-clause-stays g c = λ tells some.
    let same = c.establish.ensures.stays tells some in
    (seen_steps state_of Stays Stays _ _ same.0 (λ r s left is. ap state_of is), ap state_of same.1)

pub returns-clause-maybe : goal.returns-clause-maybe
returns-clause-maybe g c = c.establish.ensures.maybe

pub returns-clause-slot : goal.returns-clause-slot
returns-clause-slot g c = c.establish.ensures.slot

pub returns-clause-stops : goal.returns-clause-stops
returns-clause-stops g c = λ tells. seen_steps state_of (AreasMade c.args.first.now) (MaybeMade c.args.first.now) _ _ (c.establish.ensures.stops tells) (λ r s left made. made)

pub returns-clause-same : goal.returns-clause-same
returns-clause-same g c = λ tells wanting.
    let same = c.establish.ensures.same tells wanting in
    (seen_steps state_of Stays Stays _ _ same.0 (λ r s left is. ap state_of is), ap state_of same.1)

is_there : (net : Option NetData) → net ≢ None → IsSome net
is_there None none = absurd (none refl)
is_there (Some net) none = refl

-- a host that was settled has a network, so the making changes nothing
pub invariant_of-self : goal.invariant_of-self
invariant_of-self g c = record {
  sure = λ settled tells.
      let was = c.args.self.now.sure settled tells in
      let kept = c.establish.ensures.stays tells (is_there _ was.1) in (
        (λ s left. let from = kept.0.now s left in ap (λ (a : Areas). a.kernel) from.2 ∙ was.0 from.0 from.1 ∙ sym (ap (λ (a : Areas). a.kernel) kept.1)),
        λ none. was.1 (sym (ap (λ (a : Areas). kernel_net a.kernel) kept.1) ∙ none),
      );
  known = λ k is. absurd (let e : None ≡ Some k = is in cc);
  none_own = c.args.self.now.none_own;
}
