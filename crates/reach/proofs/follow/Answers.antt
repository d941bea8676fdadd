use Rattle.std.proofs.Common.{◌≡◌, ◌∙◌, ◌+◌, ◌<◌, ◌≤◌, ℕ, List, length, get_or, [], ap, arith, subst}
use Rattle.reach.specs.Reach.{unmarked}
use Rattle.reach.specs.Following.{Marks}
use Rattle.reach.proofs.lemmas.Marks.{any_default}
use Rattle.reach.proofs.lemmas.Followed.{works_more, works_all, marks_no_more}
use Rattle.reach.proofs.follow.Goals as goal

pub loop-target-preserved : goal.loop-target-preserved
loop-target-preserved c =
    let arrows = c.args.arrows.now in
    let starts = c.args.starts.now in
    let row : c.deref-target-items.result.now ≡ get_or arrows c.args.place [] = c.deref-target-items.ensures.value ∙ c.items-targets.ensures ∙ c.index-arrows-place.is ∙ any_default arrows c.args.place _ [] c.requires.inside in
    let below : c.loop-target.target-index < length (get_or arrows c.args.place []) = omega (arith, c.loop-target-test.true, ap length row) in
    let more = subst (λ (r : List ℕ). Marks starts (get_or r c.loop-target.target-index 0) c.loop-target.marks c.mark.new.marks c.loop-target.left.items c.mark.new.left.items) row c.in_ok-mark.ensures in
    let fits : get_or (get_or arrows c.args.place []) c.loop-target.target-index 0 < length c.loop-target.marks = omega (arith, c.requires.graph c.args.place c.loop-target.target-index c.requires.inside below, c.loop-target.invariant.works.whole) in
    let same : unmarked c.mark.new.marks + length c.mark.new.left.items ≤ unmarked c.loop-target.marks + length c.loop-target.left.items =
    marks_no_more starts (get_or (get_or arrows c.args.place []) c.loop-target.target-index 0) c.loop-target.marks c.mark.new.marks c.loop-target.left.items c.mark.new.left.items fits more in
    record {
      works = works_more arrows starts c.requires.starts c.loop-target.marks c.mark.new.marks c.loop-target.left.items c.mark.new.left.items c.args.place c.loop-target.target-index c.requires.graph c.requires.inside below c.loop-target.invariant.works more;
      no_more = omega (arith, same, c.loop-target.invariant.no_more);
    }

pub returns : goal.returns
returns c =
    let arrows = c.args.arrows.now in
    let row : c.deref-target-items.result.now ≡ get_or arrows c.args.place [] = c.deref-target-items.ensures.value ∙ c.items-targets.ensures ∙ c.index-arrows-place.is ∙ any_default arrows c.args.place _ [] c.requires.inside in
    record {
      waits = works_all arrows c.args.starts.now c.requires.starts c.loop-target.marks c.loop-target.left.items c.args.place c.loop-target.target-index (omega (arith, c.loop-target-test.false, ap length row)) c.loop-target.invariant.works;
      no_more = c.loop-target.invariant.no_more;
    }
