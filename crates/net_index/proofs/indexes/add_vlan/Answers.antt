use Rattle.std.proofs.Common.{Result, Ok, Err}
use Rattle.std.specs.Prelude.{OnErr}
use Rattle.net_model.proofs.lemmas.VlanKeys.{unchanged, taken_back}
use Rattle.net_index.proofs.indexes.add_vlan.Goals as goal

-- what holds anyway holds after an error
anyway : {X Y : Type 0} (result : Result X Y) (P : Type 0) → P → OnErr result P
anyway (Ok x) P p = _
anyway (Err e) P p = p

pub returns-in_err-first-clause-unseen : goal.returns-in_err-first-clause-unseen
returns-in_err-first-clause-unseen c = anyway c.from_residual.result _ (λ links has. unchanged links c.args.seen.now c.is_first_vlan.new.seen c.in_err-first.ensures.err has)

pub returns-in-Err-clause-unseen : goal.returns-in-Err-clause-unseen
returns-in-Err-clause-unseen c = λ links has.
    taken_back links c.args.link.now c.args.seen.now c.is_first_vlan.new.seen c.take_back.new.seen c.in_ok-first.first c.in_ok-first.ensures.first has (c.in_ok-first.ensures.seen links has) c.take_back.ensures
