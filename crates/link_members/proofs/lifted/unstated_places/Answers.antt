use Rattle.std.proofs.Common.{ℕ, List, ◌++◌, take, sym, ap, ◌∙◌, arith}
use Rattle.std.specs.Option.{option_to_list}
use Rattle.link_members.specs.Lifts.{unstated_place, unstated_places}
use Rattle.link_members.proofs.Raised.{one_place_more}
use Rattle.link_members.proofs.lifted.unstated_places.Goals as goal

pub loop-name-preserved : goal.loop-name-preserved
loop-name-preserved c =
    c.in_ok-add.ensures
    ∙ ap (λ (places : List ℕ). places ++ option_to_list c.unstated_place-place.result) c.loop-name.invariant
    ∙ ap (λ o. unstated_places c.args.members.now (take c.loop-name.name-index c.args.names.now) ++ option_to_list o) c.unstated_place-place.ensures
    ∙ sym (one_place_more (unstated_place c.args.members.now) c.args.names.now c.loop-name.name-index c.name-item.result (omega (arith, c.loop-name-test.true)) c.name-item.is)
