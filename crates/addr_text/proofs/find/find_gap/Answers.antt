use Rattle.std.proofs.Common.{◌≤◌, ◌+◌, length, Some, cond, ap, sym, ◌∙◌, arith, drop, length-drop, suc}
use Rattle.std.specs.Option.{option_map}
use Rattle.addr_text.specs.Find.{gap_of}
use Rattle.addr_text.proofs.Gap.{moved, moved_more, gap_next, gap_past}
use Rattle.addr_text.proofs.find.find_gap.Goals as goal

pub loop-place-preserved : goal.loop-place-preserved
loop-place-preserved c =
    let text = c.args.text.now in
    let place = c.loop-place.place in (
      omega arith,
      c.loop-place.invariant.1
          ∙ ap (moved place) (gap_next text place (omega arith) ∙ ap (λ b. cond b (Some 0) (option_map suc (gap_of (drop (place + 1) text)))) (sym c.are_colons.ensures ∙ c.if-are_colons.false))
          ∙ moved_more place (gap_of (drop (place + 1) text)),
    )

pub returns-clause-place : goal.returns-clause-place
returns-clause-place c =
    let text = c.args.text.now in
    let place = c.loop-place.place in
    let short : length (drop place text) ≤ 1 = omega (arith, length-drop place text) in
    sym (c.loop-place.invariant.1 ∙ ap (moved place) (gap_past (drop place text) short))
