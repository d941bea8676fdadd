use Rattle.std.proofs.Common.{take}
use Rattle.route_merge.specs.AbsentRoutes.{HasShapes, HasStated}
use Rattle.route_merge.proofs.absent_routes.AbsentRoutes.of.Given as goal

-- the index of those so far
abbrev pub invariant-loop-entry : goal.invariant-loop-entry
invariant-loop-entry l = HasShapes l.shapes.items (take l.entry-index l.entries) × HasStated l.stated (take l.entry-index l.entries)
