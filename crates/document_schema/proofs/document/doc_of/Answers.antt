use Rattle.std.proofs.Common.{◌∙◌, List, ap, sym, refl}
use Rattle.std.specs.Prelude.{Ok}
use Rattle.std.specs.List.{list_all}
use Rattle.std.proofs.lemmas.Bool.{and_parts}
use Rattle.base_model.specs.declared.Path.{Path}
use Rattle.base_model.specs.Lists.{is_short}
use Rattle.document_model.specs.Entries.{is_route_entry, is_rule_entry, has_short_link}
use Rattle.document_model.proofs.lemmas.Read.{read_links_hold, read_links_are_short}
use Rattle.doc_tree.specs.Shape.{shape}
use Rattle.document_schema.specs.Document.{document, doc}
use Rattle.document_schema.proofs.Following.{told_ok}
use Rattle.document_schema.proofs.document.doc_of.Goals as goal

pub returns-in-Ok-clause-read : goal.returns-in-Ok-clause-read
returns-in-Ok-clause-read c =
    told_ok doc (document (shape c.args.tree.now)) c.new-reader.result c.read_parts.new.reader c.in-Ok.parts c.new-reader.ensures c.in-Ok.ensures.read
    ∙ ap (λ (p : Path × List Path). Ok (doc c.in-Ok.parts p.1)) (sym c.into_parts-notes.ensures)

pub returns-in-Ok-clause-right : goal.returns-in-Ok-clause-right
returns-in-Ok-clause-right c =
    let p = c.in-Ok.parts in
    let routes = and_parts (is_short p.routes) (list_all is_route_entry p.routes) c.in-Ok.ensures.right_routes in
    let rules = and_parts (is_short p.rules) (list_all is_rule_entry p.rules) c.in-Ok.ensures.right_rules in
    rw (read_links_hold p.links c.in-Ok.ensures.right_links, routes.1, rules.1) refl

pub returns-in-Ok-clause-short : goal.returns-in-Ok-clause-short
returns-in-Ok-clause-short c =
    let p = c.in-Ok.parts in
    let links = and_parts (is_short p.links) (list_all has_short_link p.links) (read_links_are_short p.links c.in-Ok.ensures.right_links) in
    let routes = and_parts (is_short p.routes) (list_all is_route_entry p.routes) c.in-Ok.ensures.right_routes in
    let rules = and_parts (is_short p.rules) (list_all is_rule_entry p.rules) c.in-Ok.ensures.right_rules in
    rw (links.0, links.1, routes.0, rules.0, c.in-Ok.ensures.right_dns) refl
