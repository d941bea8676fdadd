use Rattle.std.proofs.Common.{◌∙◌, ◌++◌, append_assoc, codes, refl, subst, sym}
use Rattle.show_core.specs.Fields.{Fields, field, number}
use Rattle.show_core.specs.Pairs.{Holds}
use Rattle.show_core.proofs.Held.{put_in, left_out}
use Rattle.show_core.proofs.network.put_mark.Goals as goal

pub returns-then-is_marked : goal.returns-then-is_marked
returns-then-is_marked c held h =
    let mark = field (codes "fwmark") (number c.args.mark) in
    let mask = field (codes "fwmask") (number c.args.mask) in
    let both = c.put_number-then-is_marked.ensures _ _ (c.put_number.ensures held _ h refl) refl in
    put_in held (mark ++ mask) _ _ (sym c.is_marked.ensures ∙ c.if-is_marked.true)
    (subst (λ (fs : Fields). Holds fs c.put_number-then-is_marked.result) (append_assoc held mark mask) both)

pub returns-else-is_marked : goal.returns-else-is_marked
returns-else-is_marked c held h = left_out held _ _ _ (sym c.is_marked.ensures ∙ c.if-is_marked.false) h
