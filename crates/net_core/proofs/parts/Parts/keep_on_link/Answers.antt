use Rattle.std.proofs.Common.{◌≡◌, ◌∙◌, ℕ, List, filter, true, ap, sym, subst}
use Rattle.net_model.specs.Words.{rises}
use Rattle.net_model.specs.Order.{route_cmp}
use Rattle.net_model.specs.Lists.{NetData}
use Rattle.net_model.specs.declared.link.Link.{Link}
use Rattle.net_model.specs.declared.route.Route.{Route}
use Rattle.net_model.specs.declared.route_key.RouteKey.{RouteKey}
use Rattle.net_model.specs.Edits.{stays_on_link}
use Rattle.net_model.specs.RoutePosition.{key_stays}
use Rattle.net_model.specs.Listed.{ChangesAt}
use Rattle.net_index.specs.InIndex.{listed}
use Rattle.net_index.specs.Indexed.{AreIndexes}
use Rattle.net_index.proofs.lemmas.RouteIndexes.{kept_on_link}
use Rattle.net_core.proofs.parts.Parts.keep_on_link.Goals as goal

pub invariant_of-self : goal.invariant_of-self
invariant_of-self c =
    let dev : List ℕ = c.args.dev.now in
    let links : List Link = c.self.inside.links.items in
    let routes : List Route = c.self.inside.routes.items in
    let old : List ℕ → List RouteKey = listed c.self.inside.indexes.routes in
    let new : List ℕ → List RouteKey = listed c.keep_on_link.new.self in
    let up : rises route_cmp routes ≡ true = ap (λ (n : NetData). rises route_cmp n.routes) c.self.view_is ∙ c.requires.routes in
    record {
      lists = subst (λ (rs : List Route). AreIndexes links rs (record c.self.inside.indexes { routes = c.keep_on_link.new.self }))
          (sym (c.keep_on_link-2.ensures ∙ ap (λ (ls : List Link). filter (stays_on_link dev ls) routes) c.deref-3.ensures.value))
          (kept_on_link dev links routes c.self.inside.indexes c.keep_on_link.new.self up c.self.invariant.lists
          (subst (λ (ls : List Link). ChangesAt dev (filter (key_stays dev ls routes) (old dev)) old new) c.deref.ensures.value
          (subst (λ (rs : List Route). ChangesAt dev (filter (key_stays dev c.deref.result.now rs) (old dev)) old new) c.deref-2.ensures.value c.keep_on_link.ensures)));
      count = c.self.invariant.count;
    }
