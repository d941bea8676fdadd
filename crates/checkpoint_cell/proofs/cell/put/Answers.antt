use Rattle.std.proofs.Common.{◌≡◌, ◌∙◌, List, ℕ, ◌++◌, ◌≤◌, length, drop, sym, ap, subst, arith}
use Rattle.host_core.specs.HostView.{SameNet}
use Rattle.host_core.proofs.lemmas.Moments.{follow}
use Rattle.net_image.specs.Image.{IsImage}
use Rattle.checkpoint_cell.specs.Cell.{checkpoint_of, applying}
use Rattle.checkpoint_cell.proofs.Records.{record_reads}
use Rattle.checkpoint_cell.proofs.Puts.{put_first, put_both, put_done, stands_behind}
use Rattle.checkpoint_cell.proofs.cell.put.Goals as goal
use Rattle.checkpoint_cell.proofs.cell.put.Goals.{After-write_synced-2}

-- once the record is on the disk, it stands behind the gate
stored : (g : _) (c : After-write_synced-2 g) → g.H.Host.tells → checkpoint_of (drop 1 (g.H.Host.told c.write_synced.new.host).state.cell) ≡ applying c.args.made c.args.deadline c.args.net.now
stored g c tells =
    let small : length c.deref.result.now ≤ 1048572 = omega (arith, ap length c.deref.ensures.value, c.in_ok-image.ensures.length) in
    let image : IsImage c.deref.result.now c.args.net.now = subst (λ (l : List ℕ). IsImage l c.args.net.now) (sym c.deref.ensures.value) c.in_ok-image.ensures.image in
    stands_behind _ _ _ _ (c.in_ok-write_synced.ensures.written tells).0
    (λ rest. ap (λ (l : List ℕ). checkpoint_of (l ++ rest)) (c.deref-2.ensures.value ∙ c.in_ok-bytes.ensures.bytes)
    ∙ record_reads c.image_laws.ensures c.args.made c.args.deadline c.args.net.now c.deref.result.now rest (omega (arith, c.ranges.made.fits)) (omega (arith, c.ranges.deadline.fits)) small image)

pub returns-in_err-write_synced-clause-stops : goal.returns-in_err-write_synced-clause-stops
returns-in_err-write_synced-clause-stops g c = λ tells filled. put_first _ _ _ _ (c.requires tells) filled c.write_synced.ensures.stops

pub returns-in_err-write_synced-2-clause-stops : goal.returns-in_err-write_synced-2-clause-stops
returns-in_err-write_synced-2-clause-stops g c = λ tells filled.
    put_both _ _ (g.H.Host.told c.args.host.now) (g.H.Host.told c.write_synced.new.host) _ (c.requires tells) filled c.write_synced.ensures.stops (c.in_ok-write_synced.ensures.written tells).1 (stored g (goal.at.returns-in_err-write_synced-2-clause-stops g c).After-write_synced-2 tells) c.write_synced-2.ensures.stops

pub returns-in_err-write_synced-2-clause-stops_net : goal.returns-in_err-write_synced-2-clause-stops_net
returns-in_err-write_synced-2-clause-stops_net g c =
    follow _ _ SameNet _ _ _ c.write_synced.ensures.stops c.write_synced-2.ensures.stops (λ r s left torn. torn.net) (λ q r s was left one two. two.net ∙ one.net)

pub returns-clause-put : goal.returns-clause-put
returns-clause-put g c = λ tells.
    let written = c.in_ok-write_synced-2.ensures.written tells in
    put_done _ (g.H.Host.told c.write_synced.new.host) _ (stored g (goal.at.returns-clause-put g c).After-write_synced-2 tells) written.0 written.1

pub returns-clause-stops : goal.returns-clause-stops
returns-clause-stops g c = λ tells filled.
    put_both _ _ (g.H.Host.told c.args.host.now) (g.H.Host.told c.write_synced.new.host) _ (c.requires tells) filled c.write_synced.ensures.stops (c.in_ok-write_synced.ensures.written tells).1 (stored g (goal.at.returns-clause-stops g c).After-write_synced-2 tells) c.write_synced-2.ensures.stops

pub returns-clause-stops_net : goal.returns-clause-stops_net
returns-clause-stops_net g c =
    follow _ _ SameNet _ _ _ c.write_synced.ensures.stops c.write_synced-2.ensures.stops (λ r s left torn. torn.net) (λ q r s was left one two. two.net ∙ one.net)
