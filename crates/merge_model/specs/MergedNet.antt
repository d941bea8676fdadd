-- What a document makes of a network.
use Rattle.std.specs.Prelude.{Option, Some, None, Result, Ok, Err}
use Rattle.net_model.specs.NetData.{NetData, ordered}
use Rattle.document_model.specs.declared.Doc.{Doc}
use Rattle.document_model.specs.declared.Refused.{Refused}
use Rattle.merge_model.specs.Merge.{least_refusal, merged}

abbrev pub unless_refused : NetData → Option Refused → Result NetData Refused
unless_refused target None = Ok target
unless_refused target (Some refused) = Err refused

-- the merged network, or the least rule that the document breaks on this network, with its first place
unfoldable pub merge : NetData → Doc → Result NetData Refused
merge net doc = unless_refused (ordered (merged net doc)) (least_refusal net doc)
