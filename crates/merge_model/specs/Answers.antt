-- What the calls of the merge answer. They may run out of memory at any time.
use Rattle.std.specs.Prelude.{◌≡◌, Some, None, Result, Ok, Err, Vec}
use Rattle.std.specs.declared.alloc.Global.{Global}
use Rattle.net_model.specs.NetData.{NetData, ordered}
use Rattle.net_model.specs.declared.Link.{Link}
use Rattle.document_model.specs.declared.Doc.{Doc}
use Rattle.merge_model.specs.Merge.{links_of, links_broken, merged, least_refusal}
use Rattle.merge_model.specs.declared.fault.MergeFault.{MergeFault}
use Rattle.merge_model.specs.declared.fault.MergeFault.TheVariants.{Refused, OutOfMemory}

-- the merged links by rank, or the first of rules 1 to 17 that is broken
abbrev pub MergesLinks : NetData → Doc → Result (Vec Link Global) MergeFault → Type 0
MergesLinks net doc (Ok links) = (links_broken net.links doc.links ≡ None) × (links.items ≡ links_of net.links doc.links)
MergesLinks net doc (Err (Refused r)) = links_broken net.links doc.links ≡ Some r
MergesLinks net doc (Err OutOfMemory) = Unit {0}

-- the merged network, or the first rule that is broken
abbrev pub Merges : NetData → Doc → Result NetData MergeFault → Type 0
Merges net doc (Ok target) = (least_refusal net doc ≡ None) × (target ≡ ordered (merged net doc))
Merges net doc (Err (Refused r)) = least_refusal net doc ≡ Some r
Merges net doc (Err OutOfMemory) = Unit {0}
