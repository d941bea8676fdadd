use Rattle.std.proofs.Common.{◌≡◌, false, take}
use Rattle.std.specs.List.{list_any}
use Rattle.net_model.specs.Edits.{may_be_named}
use Rattle.link_step.specs.Releasing.{Releases}
use Rattle.link_step.proofs.release.release_all.Given as goal

-- no other link names one of the names before the index
abbrev pub invariant-loop-name : goal.invariant-loop-name
invariant-loop-name l = record {
  released : Releases l.names l.initial.parts l.parts;
  free : list_any (may_be_named l.parts.links) (take l.name-index l.names) ≡ false;
}
