use Rattle.std.proofs.Common.{◌≡◌, ◌∙◌, ◌++◌, ℕ, List, Result, Ok, Err, sym, ap}
use Rattle.std.specs.Prelude.{if◌then◌else◌, is_ok, OnOk}
use Rattle.net_model.specs.OfName.{over}
use Rattle.net_model.specs.declared.link.Link.{Link}
use Rattle.net_model.proofs.lemmas.Found.{names_differ-rises}
use Rattle.link_step.specs.declared.hanging.Affected.{Affected}
use Rattle.link_step.specs.Hanging.{affected_over}
use Rattle.link_step.proofs.Upwards.{each_over}
use Rattle.link_step.proofs.hanging.append_over.Goals as goal

-- what is appended where there is room
if_room : {T E : Type 0} (r : Result T E) (new all old wanted : List (List ℕ)) → new ≡ (if is_ok r then all else old) → all ≡ wanted → OnOk r (new ≡ wanted)
if_room (Ok v) new all old wanted h same = h ∙ same
if_room (Err e) new all old wanted h same = tt

pub returns-in-Each : goal.returns-in-Each
returns-in-Each c =
    let links : List Link = c.args.parts.now.links in
    let base : List ℕ = c.args.base.now in
    let names : List (List ℕ) = c.args.names.now.items in
    let each : affected_over c.args.which links base ≡ over links base =
    ap (λ (w : Affected). affected_over w links base) c.in-Each.is ∙ each_over links base (names_differ-rises links c.requires) in
    if_room c.extend_from_slice.result c.extend_from_slice.new.self.items (names ++ c.over.result.now) names (names ++ affected_over c.args.which links base) c.extend_from_slice.ensures.items
    (ap (λ (ns : List (List ℕ)). names ++ ns) (c.over.ensures.names ∙ sym each))
