-- What the tree of a printed state is read as.
use Rattle.std.specs.Prelude.{◌≡◌, map, Some, Ok}
use Rattle.net_model.specs.NetData.{NetData, IsNet}
use Rattle.net_search.specs.Ranges.{Ranges}
use Rattle.show_core.specs.Network.{whole_tree}
use Rattle.tree_schema.specs.Faults.{told}
use Rattle.tree_schema.specs.Reading.{given}
use Rattle.link_schema.specs.Links.{links}
use Rattle.document_schema.specs.Document.{parts, document, doc}
use Rattle.shown_model.specs.Shown.{shown_link, shown_route, shown_rule, shown_dns, shown_doc}
use Rattle.shown_model.specs.Printable.{IsPrintable}

-- its interfaces are read as the links that it shows, without a note
abbrev pub ReadsLinksAsShown : Type 0
ReadsLinksAsShown = (net : NetData) → IsNet net → Ranges net → IsPrintable net → links (whole_tree net) ≡ given (map (shown_link net.links) net.links)

-- the whole of it is read as the links, routes, rules and DNS that it shows, without a note
abbrev pub ReadsAllAsShown : Type 0
ReadsAllAsShown = (net : NetData) → IsNet net → Ranges net → IsPrintable net → document (whole_tree net) ≡ given (parts (map (shown_link net.links) net.links) (map shown_route net.routes) (map shown_rule net.rules) (Some (shown_dns net.dns)))

-- so the document that it shows is what is answered for it
abbrev pub AnswersAsShown : Type 0
AnswersAsShown = (net : NetData) → IsNet net → Ranges net → IsPrintable net → told doc (document (whole_tree net)) ≡ Ok (shown_doc net)
