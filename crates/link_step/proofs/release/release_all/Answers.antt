use Rattle.std.proofs.Common.{◌≡◌, ◌∙◌, ◌++◌, ℕ, true, List, [], ◌∷◌, take, refl, sym, ap}
use Rattle.std.specs.List.{list_any}
use Rattle.std.proofs.lemmas.List.{take_all, take_more}
use Rattle.net_model.specs.Name.{same_bytes}
use Rattle.net_model.specs.Words.{is_among}
use Rattle.net_model.specs.Edits.{may_be_named}
use Rattle.net_model.specs.Lists.{NetData}
use Rattle.net_model.proofs.lemmas.Found.{itself}
use Rattle.net_model.proofs.lemmas.Places.{any_at}
use Rattle.link_step.specs.Releasing.{Releases}
use Rattle.link_step.proofs.Released.{released_none, released_then, released_among, stays_free, none_then, none_more}
use Rattle.link_step.proofs.release.release_all.Goals as goal

pub loop-name-init : goal.loop-name-init
loop-name-init c = record { released = released_none c.args.names.now c.args.parts.now c.requires; free = refl }

pub release-requires : goal.release-requires
release-requires c = c.loop-name.invariant.released.net

pub loop-name-preserved : goal.loop-name-preserved
loop-name-preserved c =
    let names : List (List ℕ) = c.args.names.now in
    let at : ℕ = c.loop-name.name-index in
    let name : List ℕ = c.name-item.result in
    let old : NetData = c.loop-name.parts in
    let new : NetData = c.release.new.parts in
    let among : is_among names name ≡ true =
    any_at (λ m. same_bytes m name) names at name c.loop-name-test.true (ap (λ (m : List ℕ). same_bytes m name) (sym c.name-item.is) ∙ itself name) in
    let one : Releases names old new = released_among names name old new among c.release.ensures.released in
    record {
      released = released_then names c.args.parts.now old new c.loop-name.invariant.released one;
      free = ap (list_any (may_be_named new.links)) (take_more names at name c.loop-name-test.true ∙ ap (λ (n : List ℕ). take at names ++ n ∷ []) (sym c.name-item.is))
          ∙ none_more (may_be_named new.links) (take at names) name
          (none_then (may_be_named old.links) (may_be_named new.links) (stays_free names old new one) (take at names) c.loop-name.invariant.free) c.release.ensures.free;
    }

pub returns-clause-released : goal.returns-clause-released
returns-clause-released c = c.loop-name.invariant.released

pub returns-clause-free : goal.returns-clause-free
returns-clause-free c =
    ap (list_any (may_be_named c.loop-name.parts.links)) (sym (take_all c.loop-name.name-index c.args.names.now c.loop-name-test.false)) ∙ c.loop-name.invariant.free
