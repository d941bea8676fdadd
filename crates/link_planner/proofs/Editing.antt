-- A call that changes one link, towards target.
use Rattle.std.proofs.Common.{◌≡◌, ℕ, true, false, List, Some, Ok, refl, sym, ap, subst, ◌∙◌}
use Rattle.std.specs.Prelude.{option_map}
use Rattle.net_model.specs.Name.{same_bytes}
use Rattle.net_model.specs.Links.{find_link}
use Rattle.net_model.specs.Lists.{NetData}
use Rattle.net_model.specs.declared.link.Link.{Link}
use Rattle.net_model.specs.declared.call.Call.{Call}
use Rattle.net_model.proofs.lemmas.Found.{one_name}
use Rattle.kernel_model.specs.Kernel.{step, after}
use Rattle.kernel_laws.specs.Frames.{ChangesLink, KeepsRest}
use Rattle.net_model.proofs.lemmas.ByName.{some_same}
use Rattle.plan_model.specs.Touched.{IsCalm}
use Rattle.plan_model.specs.Undisturbed.{acts_on, IsUndisturbed, has_route}
use Rattle.plan_model.specs.Wants.{Wants}
use Rattle.link_planner.specs.Drafts.{DraftData, Holds, IsSafe, with_call}
use Rattle.link_planner.specs.Pairs.{ArePair}
use Rattle.link_planner.specs.Growing.{IsOnWay, IsToward, IsAsNear, IsNearer, Reaches}
use Rattle.link_planner.specs.Phases.{Grows}
use Rattle.link_planner.proofs.Nearer.{near_itself}
use Rattle.link_planner.proofs.Sparing.{spares_name, touched_where_differs}

module _ (target old new : NetData) (n : List ℕ) (change : Link → Link) (frame : ChangesLink n change old new) (rest : KeepsRest old new) (link there : Link) (found : find_link n old.links ≡ Some link) (at : find_link n target.links ≡ Some there) where
  here : find_link n new.links ≡ Some (change link)
  here = frame.named ∙ ap (option_map change) found

  -- untouched links stay, where this one is touched
  pub edit_quiet : (start : NetData) → (IsCalm start target n → ⊥) → IsUndisturbed start target old → IsUndisturbed start target new
  edit_quiet start touched quiet = record {
    links = λ m calm. elim (same_bytes m n) as (λ v. same_bytes m n ≡ v → find_link m new.links ≡ find_link m start.links) [
      | true ↦ λ e. absurd (touched (subst (IsCalm start target) (one_name m n e) calm))
      | false ↦ λ e. frame.others m e ∙ quiet.links m calm
    ] refl;
    routes = λ r calm a b. ap (has_route r) rest.routes ∙ quiet.routes r calm a b;
  }

  pub edit_toward : IsOnWay target (change link) there → IsToward target old → IsToward target new
  edit_toward way toward = record {
    links = λ m l found'. elim (same_bytes m n) as (λ v. same_bytes m n ≡ v → (t : Link) × (find_link m target.links ≡ Some t) × IsOnWay target l t) [
      | true ↦ λ e.
          let one : m ≡ n = one_name m n e in
          let is : change link ≡ l = some_same (change link) l (sym here ∙ ap (λ x. find_link x new.links) (sym one) ∙ found') in
          (there, ap (λ x. find_link x target.links) one ∙ at, subst (λ x. IsOnWay target x there) is way)
      | false ↦ λ e. toward.links m l (sym (frame.others m e) ∙ found')
    ] refl;
    routes = λ r h. toward.routes r (ap (has_route r) (sym rest.routes) ∙ h);
  }

  pub edit_nearer : IsAsNear there link (change link) → IsNearer target old new
  edit_nearer near = record {
    links = λ m k found'. elim (same_bytes m n) as (λ v. same_bytes m n ≡ v → (l : Link) × (find_link m new.links ≡ Some l) × ((t : Link) → find_link m target.links ≡ Some t → IsAsNear t k l)) [
      | true ↦ λ e.
          let one : m ≡ n = one_name m n e in
          let is : link ≡ k = some_same link k (sym found ∙ ap (λ x. find_link x old.links) (sym one) ∙ found') in (
            change link,
            ap (λ x. find_link x new.links) one ∙ here,
            λ t at'.
                let t_is : there ≡ t = some_same there t (sym at ∙ ap (λ x. find_link x target.links) (sym one) ∙ at') in
                subst (λ x. IsAsNear x k (change link)) t_is (subst (λ x. IsAsNear there x (change link)) is near),
          )
      | false ↦ λ e. (k, frame.others m e ∙ found', λ t at'. near_itself t k)
    ] refl;
    routes = λ r h. ap (has_route r) rest.routes ∙ h;
    rules = rest.rules;
    dns = rest.dns;
  }

  -- what the link reaches by it
  pub edit_reaches : (R : Link → Link → Type 0) → R (change link) there → (l t : Link) → find_link n new.links ≡ Some l → find_link n target.links ≡ Some t → R l t
  edit_reaches R reached l t found' at' =
      subst (λ x. R l x) (some_same there t (sym at ∙ at')) (subst (λ x. R x there) (some_same (change link) l (sym here ∙ found')) reached)

-- the link on its way, by target's link
pub way_of : (target net : NetData) → IsToward target net → (n : List ℕ) (l t : Link) → find_link n net.links ≡ Some l → find_link n target.links ≡ Some t → IsOnWay target l t
way_of target net toward n l t found at =
    let w = toward.links n l found in
    subst (λ x. IsOnWay target l x) (some_same w.0 t (sym w.1 ∙ at)) w.2

-- what such a call is in a draft
pub record IsEdit (R : Link → Link → Type 0) (d : DraftData) (n : List ℕ) (call : Call) : Type 0 where
  pub safe : IsSafe d.start d.target call d.net
  pub grows : Grows d (with_call call d)
  pub done : Reaches R d.target (after call d.net) n

pub edited : (R : Link → Link → Type 0) (d : DraftData) → Holds d → (n : List ℕ) (l t : Link) → ArePair d n l t → IsToward d.target d.net → (call : Call) (change : Link → Link) → step call d.net ≡ Ok (after call d.net) → acts_on call ≡ Some n → Wants d.start d.target call
    → ChangesLink n change d.net (after call d.net) → KeepsRest d.net (after call d.net) → (l ≡ t → ⊥) → IsOnWay d.target (change l) t → IsAsNear t l (change l) → R (change l) t → IsEdit R d n call
edited R d h n l t pair toward call change taken acts wants frame rest other way near reached =
    let touched : IsCalm d.start d.target n → ⊥ = touched_where_differs d.start d.target d.net h.draft.undisturbed n (λ same. other (some_same l t (sym pair.here ∙ same ∙ pair.at))) in
    record {
      safe = record { accepted = taken; spares = spares_name d.start d.target call n acts touched; wants = wants; undisturbed = edit_quiet d.target d.net (after call d.net) n change frame rest l t pair.here pair.at d.start touched h.draft.undisturbed };
      grows = record {
        toward = edit_toward d.target d.net (after call d.net) n change frame rest l t pair.here pair.at way toward;
        nearer = edit_nearer d.target d.net (after call d.net) n change frame rest l t pair.here pair.at near;
      };
      done = edit_reaches d.target d.net (after call d.net) n change frame rest l t pair.here pair.at R reached;
    }
