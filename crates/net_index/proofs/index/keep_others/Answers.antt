use Rattle.std.proofs.Common.{arith, ◌≡◌, ◌∙◌, Bool, List, true, not, filter, remove, ap, subst}
use Rattle.std.specs.Ordering.{is_eq}
use Rattle.std.proofs.lemmas.List.Sorted.{searchable_from_sorted}
use Rattle.net_model.specs.Words.{rises}
use Rattle.net_model.proofs.lemmas.Rises.{sorted-rises, apart-rises}
use Rattle.net_model.proofs.lemmas.Places.{stands, gap}
use Rattle.net_model.proofs.lemmas.Listing.{ties_turned}
use Rattle.net_lists.proofs.lemmas.RouteLists.{none_removed}
use Rattle.net_index.proofs.index.keep_others.Goals as goal

pub returns-in-Ok : goal.returns-in-Ok
returns-in-Ok g c =
    let V = g.row.V.Denot in
    let R = g.V.Ord.cmp in
    let a = c.args.value.now in
    let list : List V = c.deref.result.now in
    let E : V → V → Bool = λ x y. g.V.PartialEq.eq y x in
    let tie : (x y : V) → E x y ≡ is_eq (R x y) = λ x y. g.met.V.Ord.matches_eq y x ∙ ties_turned R g.met.V.Ord.total y x in
    let up : rises R list ≡ true = ap (rises R) c.deref.ensures.value ∙ c.requires in
    let at = stands E R g.met.V.Ord.total tie a list (apart-rises E R tie list up) c.in-Ok.i (omega (arith, c.in-Ok.ensures.bound)) c.in-Ok.ensures.position in
    let taken : remove list c.in-Ok.i ≡ filter (λ v. not (E a v)) list = at.removes (E a) (λ y h. h) at.same in
    ◌∙◌ {A = List V} c.remove.ensures.items (subst (λ (vs : List V). remove vs c.in-Ok.i ≡ filter (λ v. not (E a v)) vs) c.deref.ensures.value taken)

pub returns-in-Err : goal.returns-in-Err
returns-in-Err g c =
    let V = g.row.V.Denot in
    let R = g.V.Ord.cmp in
    let a = c.args.value.now in
    let list : List V = c.deref.result.now in
    let E : V → V → Bool = λ x y. g.V.PartialEq.eq y x in
    let tie : (x y : V) → E x y ≡ is_eq (R x y) = λ x y. g.met.V.Ord.matches_eq y x ∙ ties_turned R g.met.V.Ord.total y x in
    let up : rises R list ≡ true = ap (rises R) c.deref.ensures.value ∙ c.requires in
    let parted = c.in-Err.ensures.position (searchable_from_sorted g.met.V.Ord.total (λ v. v) list a (sorted-rises R g.met.V.Ord.total list up)) in
    let kept : list ≡ filter (λ v. not (E a v)) list = none_removed (E a) list (gap E R g.met.V.Ord.total tie a R (λ y h. h) (λ y h. h) list c.in-Err.field-0 c.in-Err.ensures.bound parted).none in
    subst (λ (vs : List V). vs ≡ filter (λ v. not (E a v)) vs) c.deref.ensures.value kept
