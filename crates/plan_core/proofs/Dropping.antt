-- Rules, routes and addresses that are taken off.
use Rattle.std.proofs.Common.{◌≡◌, ℕ, ◌≤◌, Bool, true, false, not, ◌||◌, List, length, Option, Some, None, Ok, refl, sym, ap, subst, ◌∙◌}
use Rattle.std.specs.Prelude.{option_map}
use Rattle.std.specs.Option.{option_map_or}
use Rattle.std.specs.List.{list_any}
use Rattle.net_model.specs.Name.{same_bytes}
use Rattle.net_model.specs.Address.{Block}
use Rattle.net_model.specs.Rule.{RuleParts}
use Rattle.net_model.specs.Links.{find_link, named_passes}
use Rattle.net_model.specs.Valid.{same_block, same_rule, route_on_link}
use Rattle.net_model.specs.NetData.{NetData, IsNet}
use Rattle.net_model.specs.declared.link.Link.{Link}
use Rattle.net_model.specs.declared.route.Route.{Route}
use Rattle.net_model.specs.declared.dns.Dns.{Dns}
use Rattle.net_model.specs.declared.call.Call.{Call}
use Rattle.net_model.specs.declared.call.Call.TheVariants.{DelRule, DelRoute, DelAddress, SetDns}
use Rattle.net_model.proofs.lemmas.FactsHold.{facts}
use Rattle.net_model.proofs.lemmas.Found.{one_name}
use Rattle.kernel_model.specs.Addresses.{has_block, without_address}
use Rattle.net_model.specs.Edits.{stays_on_link, same_route}
use Rattle.kernel_model.specs.Kernel.{step, after}
use Rattle.kernel_laws.specs.Frames.{Leads}
use Rattle.kernel_laws.proofs.lemmas.Leading.{has_frame}
use Rattle.kernel_laws.proofs.lemmas.Taking.{is_accepted}
use Rattle.plan_model.specs.Touched.{IsCalm}
use Rattle.plan_model.specs.Undisturbed.{acts_on, Spares, IsUndisturbed, has_route}
use Rattle.plan_model.specs.Wants.{has_address}
use Rattle.link_planner.specs.Drafts.{DraftData, Holds, IsSafe}
use Rattle.link_planner.specs.LinkPlans.{without_addrs}
use Rattle.link_planner.proofs.lemmas.Advancing.{one_call}
use Rattle.plan_core.specs.Parts.{HasAddress, HasRoute, HasRule, IsPartOf, AddressFits, RouteFits, RuleFits}
use Rattle.plan_core.specs.Steps.{IsTaking}
use Rattle.plan_core.proofs.Members.{any_kept, any_was, none_left}
use Rattle.plan_core.proofs.Exact.{one_route}
use Rattle.plan_core.proofs.PartOf.{link_with, has_of}

-- a call on no link
pub spares_all : (start target : NetData) (call : Call) → acts_on call ≡ None → Spares start target call
spares_all start target call none n acts calm = let no : (let o : Option (List ℕ) = None in o) ≡ Some n = sym none ∙ acts in absurd cc

same_some : (a b : List ℕ) → Some a ≡ Some b → a ≡ b
same_some a b e = cc

-- a call on a touched link
pub spares_name : (start target : NetData) (call : Call) (n : List ℕ) → acts_on call ≡ Some n → (IsCalm start target n → ⊥) → Spares start target call
spares_name start target call n acts touched name acts' calm = touched (subst (IsCalm start target) (sym (same_some n name (sym acts ∙ acts'))) calm)

-- a link with an address that it hasn't in the other network is touched
pub touched_by : (start target net : NetData) → IsUndisturbed start target net → (n : List ℕ) (b : Block) (v w : Bool) → has_address net n b ≡ v → has_address target n b ≡ w → (v ≡ w → ⊥) → IsCalm start target n → ⊥
touched_by start target net quiet n b v w here there differ calm =
    differ (sym here ∙ ap (λ o. option_map_or (λ (l : Link). has_block b l.addrs) o false) (quiet.links n calm ∙ calm.same) ∙ there)

module _ (start target net : NetData) (is : IsNet net) (quiet : IsUndisturbed start target net) where
  drop_rule_safe : (r : RuleParts) → HasRule net r → list_any (same_rule r) target.rules ≡ false → IsSafe start target (DelRule r) net
  drop_rule_safe r there off = record {
    accepted = is_accepted (DelRule r) net is there;
    spares = spares_all start target (DelRule r) refl;
    wants = off;
    undisturbed = record { links = quiet.links; routes = quiet.routes };
  }

  drop_rule_part : (r : RuleParts) → IsPartOf (after (DelRule r) net) net
  drop_rule_part r = record { links = λ n. refl; addrs = λ n b h. h; routes = λ q h. h; rules = λ q h. any_was (same_rule q) (λ x. not (same_rule r x)) net.rules h }

  drop_rule_done : (r : RuleParts) → RuleFits target (after (DelRule r) net) r
  drop_rule_done r h = let no : true ≡ false = sym h ∙ none_left (same_rule r) net.rules in absurd cc

  drop_route_safe : (r : Route) → HasRoute net r → has_route r target.routes ≡ false → IsSafe start target (DelRoute r) net
  drop_route_safe r there off = record {
    accepted = is_accepted (DelRoute r) net is there;
    spares = spares_all start target (DelRoute r) refl;
    wants = off;
    undisturbed = record { links = quiet.links; routes = λ q calm a b. any_kept (same_route q) (λ x. not (same_route r x)) (stays q b) net.routes (quiet.routes q calm a b) };
  }
    where
      stays : (q : Route) → has_route q target.routes ≡ true → (x : Route) → same_route q x ≡ true → not (same_route r x) ≡ true
      stays q b x e = elim (same_route r x) as (λ v. same_route r x ≡ v → not v ≡ true) [
        | true ↦ λ h.
            let one : r ≡ q = one_route r x h ∙ sym (one_route q x e) in
            let no : true ≡ false = sym b ∙ ap (λ y. has_route y target.routes) (sym one) ∙ off in
            absurd cc
        | false ↦ λ _. refl
      ] refl

  drop_route_part : (r : Route) → IsPartOf (after (DelRoute r) net) net
  drop_route_part r = record { links = λ n. refl; addrs = λ n b h. h; routes = λ q h. any_was (same_route q) (λ x. not (same_route r x)) net.routes h; rules = λ q h. h }

  drop_route_done : (r : Route) → RouteFits target (after (DelRoute r) net) r
  drop_route_done r h = let no : true ≡ false = sym h ∙ none_left (same_route r) net.routes in absurd cc

  module _ (n : List ℕ) (b : Block) (has : HasAddress net n b) where
    link : (l : Link) × (find_link n net.links ≡ Some l) × (has_block b l.addrs ≡ true)
    link = link_with net n b has

    taken : step (DelAddress n b) net ≡ Ok (after (DelAddress n b) net)
    taken = is_accepted (DelAddress n b) net is link

    leads : Leads (DelAddress n b) net (after (DelAddress n b) net)
    leads = has_frame (DelAddress n b) net (after (DelAddress n b) net) is taken

    here : find_link n (after (DelAddress n b) net).links ≡ Some (without_address b link.0)
    here = leads.link.named ∙ ap (option_map (without_address b)) link.1

    drop_address_safe : has_address target n b ≡ false → IsSafe start target (DelAddress n b) net
    drop_address_safe off = record {
      accepted = taken;
      spares = spares_name start target (DelAddress n b) n refl touched;
      wants = off;
      undisturbed = record {
        links = λ m calm. elim (same_bytes m n) as (λ v. same_bytes m n ≡ v → find_link m (after (DelAddress n b) net).links ≡ find_link m start.links) [
          | true ↦ λ e. absurd (touched (subst (IsCalm start target) (one_name m n e) calm))
          | false ↦ λ e. leads.link.others m e ∙ quiet.links m calm
        ] refl;
        routes = λ q calm a c. ap (has_route q) leads.routes ∙ any_kept (same_route q) (stays_on_link n (after (DelAddress n b) net).links) (stays q calm) net.routes (quiet.routes q calm a c);
      };
    }
      where
        touched : IsCalm start target n → ⊥
        touched = touched_by start target net quiet n b true false has off (λ e. absurd cc)

        stays : (q : Route) → IsCalm start target q.dev → (x : Route) → same_route q x ≡ true → stays_on_link n (after (DelAddress n b) net).links x ≡ true
        stays q calm x e = elim (same_bytes x.dev n) as (λ v. same_bytes x.dev n ≡ v → (not v || named_passes (λ l. route_on_link l x) (after (DelAddress n b) net).links n) ≡ true) [
          | true ↦ λ h. absurd (touched (subst (IsCalm start target) (ap (λ (y : Route). y.dev) (one_route q x e) ∙ one_name x.dev n h) calm))
          | false ↦ λ _. refl
        ] refl

    drop_address_part : IsPartOf (after (DelAddress n b) net) net
    drop_address_part = record {
      links = λ m. elim (same_bytes m n) as (λ v. same_bytes m n ≡ v → option_map without_addrs (find_link m (after (DelAddress n b) net).links) ≡ option_map without_addrs (find_link m net.links)) [
        | true ↦ λ e. subst (λ x. option_map without_addrs (find_link x (after (DelAddress n b) net).links) ≡ option_map without_addrs (find_link x net.links)) (sym (one_name m n e)) (ap (option_map without_addrs) here ∙ ap (option_map without_addrs) (sym link.1))
        | false ↦ λ e. ap (option_map without_addrs) (leads.link.others m e)
      ] refl;
      addrs = λ m c. elim (same_bytes m n) as (λ v. same_bytes m n ≡ v → HasAddress (after (DelAddress n b) net) m c → HasAddress net m c) [
        | true ↦ λ e. subst (λ x. HasAddress (after (DelAddress n b) net) x c → HasAddress net x c) (sym (one_name m n e)) (λ h.
            has_of net n link.0 c link.1 ∙ any_was (same_block c) (λ x. not (same_block b x)) link.0.addrs (sym (has_of (after (DelAddress n b) net) n (without_address b link.0) c here) ∙ h))
        | false ↦ λ e h. ap (λ o. option_map_or (λ (l : Link). has_block c l.addrs) o false) (sym (leads.link.others m e)) ∙ h
      ] refl;
      routes = λ q h. any_was (same_route q) (stays_on_link n (after (DelAddress n b) net).links) net.routes (ap (has_route q) (sym leads.routes) ∙ h);
      rules = λ q h. ap (list_any (same_rule q)) (sym leads.rules) ∙ h;
    }

    drop_address_done : AddressFits target (after (DelAddress n b) net) n b
    drop_address_done h =
        let no : true ≡ false = sym h ∙ has_of (after (DelAddress n b) net) n (without_address b link.0) b here ∙ none_left (same_block b) link.0.addrs in
        absurd cc

-- in a draft
pub rule_taking : (d : DraftData) → Holds d → (r : RuleParts) → HasRule d.net r → list_any (same_rule r) d.target.rules ≡ false → IsTaking (λ x. RuleFits x.target x.net r) d (DelRule r)
rule_taking d h r there off = record { safe = drop_rule_safe d.start d.target d.net h.net h.draft.undisturbed r there off; takes = record { advances = one_call d (DelRule r); part = drop_rule_part d.start d.target d.net h.net h.draft.undisturbed r; done = drop_rule_done d.start d.target d.net h.net h.draft.undisturbed r } }

pub route_taking : (d : DraftData) → Holds d → (r : Route) → HasRoute d.net r → has_route r d.target.routes ≡ false → IsTaking (λ x. RouteFits x.target x.net r) d (DelRoute r)
route_taking d h r there off = record { safe = drop_route_safe d.start d.target d.net h.net h.draft.undisturbed r there off; takes = record { advances = one_call d (DelRoute r); part = drop_route_part d.start d.target d.net h.net h.draft.undisturbed r; done = drop_route_done d.start d.target d.net h.net h.draft.undisturbed r } }

pub address_taking : (d : DraftData) → Holds d → (n : List ℕ) (b : Block) → HasAddress d.net n b → has_address d.target n b ≡ false → IsTaking (λ x. AddressFits x.target x.net n b) d (DelAddress n b)
address_taking d h n b there off = record { safe = drop_address_safe d.start d.target d.net h.net h.draft.undisturbed n b there off; takes = record { advances = one_call d (DelAddress n b); part = drop_address_part d.start d.target d.net h.net h.draft.undisturbed n b there; done = drop_address_done d.start d.target d.net h.net h.draft.undisturbed n b there } }

-- DNS may be set to target's
pub dns_safe : (d : DraftData) → Holds d → (dns : Dns) → dns ≡ d.target.dns → IsSafe d.start d.target (SetDns dns) d.net
dns_safe d h dns same =
    let few = (facts d.target h.target).few_servers in
    let searched = (facts d.target h.target).few_searched in
    record {
      accepted = is_accepted (SetDns dns) d.net h.net (subst (λ (x : Dns). (length x.servers ≤ 16) × (length x.search ≤ 16)) (sym same) (few, searched));
      spares = spares_all d.start d.target (SetDns dns) refl;
      wants = same;
      undisturbed = record { links = h.draft.undisturbed.links; routes = h.draft.undisturbed.routes };
    }
