use Rattle.std.proofs.Common.{◌≡◌, ◌≢◌, ◌∙◌, inl, ℕ, List, [], ◌∷◌, get_or, true, false, eqb, sym, subst}
use Rattle.std.proofs.lemmas.Bool.{eqb-true, eq-eqb}
use Rattle.std.proofs.lemmas.Result.{on_ok_weaker}
use Rattle.host_core.specs.Bytes.{Written}
use Rattle.host_core.specs.DiskView.{Areas}
use Rattle.host_core.proofs.lemmas.Moments.{weaken}
use Rattle.host_core.specs.Stops.{Stays}
use Rattle.disk_host.specs.Slots.{MaybeClosed, IsShut}
use Rattle.disk_host.proofs.Makes.{shut_before, shut_written, closing, closing_steps}
use Rattle.disk_host.proofs.making.close.Goals as goal

-- the gate as it was read
was_open : (cell : List ℕ) → true ≡ eqb (get_or cell 0 1) 1 → get_or cell 0 1 ≡ 1
was_open cell is = eqb-true (get_or cell 0 1) 1 (sym is)

was_shut : (cell : List ℕ) → false ≡ eqb (get_or cell 0 1) 1 → get_or cell 0 1 ≢ 1
was_shut cell is opens = let e : false ≡ true = is ∙ eq-eqb (get_or cell 0 1) 1 opens in absurd cc

pub returns-then-opens-clause-shut : goal.returns-then-opens-clause-shut
returns-then-opens-clause-shut g c =
    let old = (g.D.Disk.told c.args.disk.now).areas in
    let new = (g.D.Disk.told c.write_synced.new.disk).areas in
    on_ok_weaker c.write_synced.result (λ wrote. λ tells.
    shut_written old.cell new.cell (was_open old.cell (sym c.if-opens.true ∙ c.in_ok-opens.ensures.opens tells))
    (subst (λ (a : Areas). Written 0 (0 ∷ []) a.cell new.cell) (c.is_open.ensures.untouched.areas tells) (wrote tells).0))
    c.write_synced.ensures.written

pub returns-then-opens-clause-maybe : goal.returns-then-opens-clause-maybe
returns-then-opens-clause-maybe g c = λ tells.
    let old = g.D.Disk.told c.args.disk.now in
    let mid = g.D.Disk.told c.is_open.new.disk in
    let new = g.D.Disk.told c.write_synced.new.disk in
    closing old.areas mid.areas new.areas (was_open old.areas.cell (sym c.if-opens.true ∙ c.in_ok-opens.ensures.opens tells)) (c.is_open.ensures.untouched.areas tells) (c.write_synced.ensures.torn tells)

pub returns-then-opens-clause-stops : goal.returns-then-opens-clause-stops
returns-then-opens-clause-stops g c = λ tells.
    let old = g.D.Disk.told c.args.disk.now in
    closing_steps old (g.D.Disk.told c.is_open.new.disk) _ (c.requires tells) (was_open old.areas.cell (sym c.if-opens.true ∙ c.in_ok-opens.ensures.opens tells)) c.is_open.ensures.untouched.stops c.write_synced.ensures.stops

pub returns-clause-shut : goal.returns-clause-shut
returns-clause-shut g c = λ tells.
    let old = (g.D.Disk.told c.args.disk.now).areas in
    subst (λ (a : Areas). IsShut old.cell a.cell) (sym (c.is_open.ensures.untouched.areas tells)) (shut_before old.cell (was_shut old.cell (sym c.if-opens.false ∙ c.in_ok-opens.ensures.opens tells)))

pub returns-clause-stops : goal.returns-clause-stops
returns-clause-stops g c = λ tells. weaken Stays MaybeClosed _ _ c.is_open.ensures.untouched.stops (λ r s left same. inl same)
