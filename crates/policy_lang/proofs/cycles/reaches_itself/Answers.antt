use Rattle.std.proofs.Common.{◌∙◌, false, length, sym, ap, arith}
use Rattle.std.proofs.lemmas.List.{length-map}
use Rattle.reach.proofs.lemmas.Marks.{any_default}
use Rattle.policy_lang.proofs.Reached.{captures_graph, capture_marked}
use Rattle.policy_lang.proofs.cycles.reaches_itself.Goals as goal

pub closure-requires-clause-graph : goal.closure-requires-clause-graph
closure-requires-clause-graph c = captures_graph c.args.captures.now c.args.arrows.now c.requires.arrows

pub returns : goal.returns
returns c =
    let marks = c.in_ok-marks.marks.items in
    let marked = capture_marked c.args.captures.now c.args.arrows.now c.deref.result.now marks c.args.at c.args.capture.now
    c.requires.arrows (c.deref.ensures.value ∙ c.in_ok-starts.ensures) c.in_ok-marks.ensures c.requires.inside c.requires.here in
    c.index.ensures ∙ any_default marks c.args.at c.index.result.now false (omega (arith, marked.1, c.requires.inside)) ∙ marked.0

pub closure-requires-clause-starts : goal.closure-requires-clause-starts
closure-requires-clause-starts c =
    ap length (c.deref.ensures.value ∙ c.in_ok-starts.ensures) ∙ length-map c.args.captures.now _ ∙ sym (length-map c.args.captures.now _) ∙ sym (ap length c.requires.arrows)

pub index-requires : goal.index-requires
index-requires c =
    let marked = capture_marked c.args.captures.now c.args.arrows.now c.deref.result.now c.in_ok-marks.marks.items c.args.at c.args.capture.now
    c.requires.arrows (c.deref.ensures.value ∙ c.in_ok-starts.ensures) c.in_ok-marks.ensures c.requires.inside c.requires.here in
    omega (arith, marked.1, c.requires.inside)
