use Rattle.std.proofs.Common.{◌≡◌, ◌++◌, true, take}
use Rattle.std.specs.List.{flat_map, list_all}
use Rattle.net_image.specs.Links.{link}
use Rattle.net_image.proofs.write_link.push_links.Given as goal

abbrev pub invariant-loop-of : goal.invariant-loop-of
invariant-loop-of l = record {
  bytes : l.out.items ≡ l.fn.out.items ++ flat_map link.write (take l.of-index l.links);
  fits : list_all link.fits (take l.of-index l.links) ≡ true;
}
