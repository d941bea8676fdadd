-- What is taken off and put on link by link, and what all of it comes to.
use Rattle.std.proofs.Common.{◌≡◌, ℕ, ◌+◌, ◌*◌, ◌<◌, ◌≤◌, List, [], length, take, get_or, sym, ap, subst, ◌∙◌, arith}
use Rattle.net_model.specs.Hardware.{hardware}
use Rattle.net_model.specs.Valid.{address_count}
use Rattle.net_model.specs.NetData.{NetData}
use Rattle.net_model.specs.declared.link.Link.{Link}
use Rattle.net_model.specs.declared.call.Call.{Call}
use Rattle.plan_model.specs.Laws.{IsRun, IsGentleRun}
use Rattle.plan_model.specs.Plans.{LeadsCalmly, IsPlan, name_count, part_count, most_calls}
use Rattle.link_planner.specs.Drafts.{DraftData, Holds, Advances, draft_of}
use Rattle.link_planner.specs.LinkPlans.{IsReady, ReachesLinks}
use Rattle.link_planner.proofs.lemmas.Advancing.{advances_least, advances_more, of_ends}
use Rattle.plan_core.specs.Parts.{HasRoute, HasRule, IsPartOf, RouteFits, RuleFits, EachRoute, EachRule, EachLink, LinkFits, LinkIsFilled}
use Rattle.plan_core.specs.Steps.{TakesOff, PutsOn}
use Rattle.plan_core.proofs.PartOf.{part_more, one_more_link, one_more_count, ready}
use Rattle.plan_core.proofs.Same.{part_of_reached, routes_one, rules_one}
use Rattle.plan_core.proofs.Stepping.{off_more, off_as, on_more, on_as}

-- the first links, and one more
abbrev pub FirstFit : ℕ → DraftData → Type 0
FirstFit i d = EachLink i d.start.links (LinkFits d.start d.target d.net)

pub link_off : (first d next : DraftData) (i : ℕ) (x : Link) → i < length first.start.links → x ≡ get_or first.start.links i x → TakesOff (address_count (take i first.start.links)) (FirstFit i) first d
    → TakesOff (length x.addrs) (λ e. LinkFits e.start e.target e.net x) d next → TakesOff (address_count (take (i + 1) first.start.links)) (FirstFit (i + 1)) first next
link_off first d next i x within is before step =
    let links : next.start.links ≡ first.start.links = ap (λ (n : NetData). n.links) (step.advances.start ∙ before.advances.start) in
    let done : FirstFit (i + 1) next =
    subst (λ xs. EachLink (i + 1) xs (LinkFits next.start next.target next.net)) (sym links)
    (one_more_link (LinkFits d.start d.target d.net) (LinkFits next.start next.target next.net) first.start.links i x within is
    (λ l h. of_ends (λ s t. LinkFits s t next.net l) (length x.addrs) d next step.advances (λ kept b among has. h kept b among (step.part.addrs l.name b has))) step.done
    (subst (λ xs. EachLink i xs (LinkFits d.start d.target d.net)) (ap (λ (n : NetData). n.links) before.advances.start) before.done)) in
    off_as (address_count (take i first.start.links) + length x.addrs) (address_count (take (i + 1) first.start.links)) (FirstFit (i + 1)) (FirstFit (i + 1)) first next (sym (one_more_count first.start.links i x within is)) done
    (off_more (address_count (take i first.start.links)) (length x.addrs) (FirstFit i) (λ e. LinkFits e.start e.target e.net x) (FirstFit (i + 1)) first d next before step done)

abbrev pub FirstFilled : ℕ → DraftData → Type 0
FirstFilled i d = EachLink i d.target.links (LinkIsFilled d.net)

pub link_on : (first d next : DraftData) (i : ℕ) (x : Link) → i < length first.target.links → x ≡ get_or first.target.links i x → PutsOn (address_count (take i first.target.links)) (FirstFilled i) first d
    → PutsOn (length x.addrs) (λ e. LinkIsFilled e.net x) d next → PutsOn (address_count (take (i + 1) first.target.links)) (FirstFilled (i + 1)) first next
link_on first d next i x within is before step =
    let links : next.target.links ≡ first.target.links = ap (λ (n : NetData). n.links) (step.advances.target ∙ before.advances.target) in
    let done : FirstFilled (i + 1) next =
    subst (λ xs. EachLink (i + 1) xs (LinkIsFilled next.net)) (sym links)
    (one_more_link (LinkIsFilled d.net) (LinkIsFilled next.net) first.target.links i x within is (λ l h b among. step.part.addrs l.name b (h b among)) step.done
    (subst (λ xs. EachLink i xs (LinkIsFilled d.net)) (ap (λ (n : NetData). n.links) before.advances.target) before.done)) in
    on_as (address_count (take i first.target.links) + length x.addrs) (address_count (take (i + 1) first.target.links)) (FirstFilled (i + 1)) (FirstFilled (i + 1)) first next (sym (one_more_count first.target.links i x within is)) done
    (on_more (address_count (take i first.target.links)) (length x.addrs) (FirstFilled i) (λ e. LinkIsFilled e.net x) (FirstFilled (i + 1)) first d next before step done)

-- a draft from which rules, routes and addresses were taken off is ready for links
pub off_ready : (l m n : ℕ) (a b c d : DraftData) → Holds a → a.net ≡ a.start → TakesOff l (λ e. EachRule e.start.rules (RuleFits e.target e.net)) a b → TakesOff m (λ e. EachRoute e.start.routes (RouteFits e.target e.net)) b c
    → TakesOff n (λ e. FirstFit (length e.start.links) e) c d → IsReady d.start d.target d.net
off_ready l m n a b c d h first rules routes links =
    let later : Advances (m + n) b d = advances_more m n b c d routes.advances links.advances in
    let whole : Advances (l + (m + n)) a d = advances_more l (m + n) a b d rules.advances later in
    let part : IsPartOf d.net b.net = part_more d.net c.net b.net links.part routes.part in
    let all : IsPartOf d.net a.start = subst (IsPartOf d.net) first (part_more d.net b.net a.net part rules.part) in
    let devices : hardware a.start.links ≡ hardware a.target.links = ap (λ (x : NetData). hardware x.links) (sym first) ∙ h.draft.devices in
    ready d.start d.target d.net (of_ends (λ s t. hardware s.links ≡ hardware t.links) (l + (m + n)) a d whole devices) (subst (IsPartOf d.net) (sym whole.start) all)
    (of_ends (λ s t. EachRule s.rules (RuleFits t d.net)) (m + n) b d later (λ r among has. rules.done r among (part.rules r has)))
    (of_ends (λ s t. EachRoute s.routes (RouteFits t d.net)) n c d links.advances (λ r among has. routes.done r among (links.part.routes r has)))
    links.done

-- where the links have reached target's, what is there is part of target
pub ready_part : (m : ℕ) (a b : DraftData) → Advances m a b → IsReady a.start a.target a.net → ReachesLinks a.net b.target b.net → IsPartOf b.net b.target
ready_part m a b advances is_ready reached = part_of_reached a.net b.target b.net reached (λ r h. subst (λ t. HasRule t r) (sym advances.target) (is_ready.rules r h))

-- a draft that has led to target is a plan
pub finished : IsRun → IsGentleRun → (start target : NetData) (d : DraftData) (calls : List Call) → (start ≡ target → ⊥) → Advances (most_calls start target) (draft_of start target start []) d → Holds d → d.net ≡ d.target → d.calls ≡ calls → IsPlan start target calls
finished runs gentle start target d calls differ advances h reached same =
    let net : d.net ≡ target = reached ∙ advances.target in
    let led : LeadsCalmly start target calls start target =
    subst (λ cs. LeadsCalmly start target cs start target) same (subst (λ n. LeadsCalmly start target d.calls start n) net
    (subst (λ t. LeadsCalmly start t d.calls start d.net) advances.target (subst (λ s. LeadsCalmly s d.target d.calls s d.net) advances.start h.draft.led))) in
    record {
      run = runs start target calls target led;
      gentle = gentle start target calls target led;
      short = subst (λ (cs : List Call). length cs ≤ most_calls start target) same (omega (arith, advances.count));
      idle = λ one. absurd (differ one);
    }

-- the calls that take off and put on are no more than the parts of the networks
pub off_count : (a b c d : DraftData) → Advances (length a.start.rules) a b → Advances (length b.start.routes) b c → Advances (address_count c.start.links) c d → Advances (part_count a.start) a d
off_count a b c d rules routes links =
    let second : Advances (length a.start.routes) b c = subst (λ (s : NetData). Advances (length s.routes) b c) rules.start routes in
    let third : Advances (address_count a.start.links) c d = subst (λ (s : NetData). Advances (address_count s.links) c d) (routes.start ∙ rules.start) links in
    advances_least (length a.start.rules + (length a.start.routes + address_count a.start.links)) (part_count a.start) a d (omega arith)
    (advances_more (length a.start.rules) (length a.start.routes + address_count a.start.links) a b d rules (advances_more (length a.start.routes) (address_count a.start.links) b c d second third))

pub on_count : (a b c d e : DraftData) → Advances (address_count a.target.links) a b → Advances (length b.target.routes) b c → Advances (length c.target.rules) c d → Advances 1 d e → Advances (part_count a.target + 1) a e
on_count a b c d e links routes rules dns =
    let second : Advances (length a.target.routes) b c = subst (λ (s : NetData). Advances (length s.routes) b c) links.target routes in
    let third : Advances (length a.target.rules) c d = subst (λ (s : NetData). Advances (length s.rules) c d) (routes.target ∙ links.target) rules in
    advances_least (address_count a.target.links + (length a.target.routes + (length a.target.rules + 1))) (part_count a.target + 1) a e (omega arith)
    (advances_more (address_count a.target.links) (length a.target.routes + (length a.target.rules + 1)) a b e links
    (advances_more (length a.target.routes) (length a.target.rules + 1) b c e second (advances_more (length a.target.rules) 1 c d e third dns)))

-- where all was put on, each part of the network is target's
pub on_routes : (m : ℕ) (b c d : DraftData) → Holds d → PutsOn m (λ e. EachRoute e.target.routes (HasRoute e.net)) b c → (n : ℕ) (Q : DraftData → Type 0) → PutsOn n Q c d → d.net.routes ≡ d.target.routes
on_routes m b c d h routes n Q rules = routes_one d.target d.net h.target h.net rules.within (λ r among. rules.part.routes r (routes.done r (subst (λ t. HasRoute t r) rules.advances.target among)))

pub on_rules : (n : ℕ) (c d : DraftData) → Holds d → PutsOn n (λ e. EachRule e.target.rules (HasRule e.net)) c d → d.net.rules ≡ d.target.rules
on_rules n c d h rules = rules_one d.target d.net h.target h.net rules.within rules.done

-- the calls of the three parts are few
pub whole_count : (a b c d : DraftData) → Advances (part_count a.start) a b → Advances (12 * name_count b.start b.target) b c → Advances (part_count c.target + 1) c d → Advances (most_calls a.start a.target) a d
whole_count a b c d off links on =
    let second : Advances (12 * name_count a.start a.target) b c = subst (λ s. Advances (12 * name_count s a.target) b c) off.start (subst (λ t. Advances (12 * name_count b.start t) b c) off.target links) in
    let third : Advances (part_count a.target + 1) c d = subst (λ t. Advances (part_count t + 1) c d) (links.target ∙ off.target) on in
    advances_least (part_count a.start + (12 * name_count a.start a.target + (part_count a.target + 1))) (most_calls a.start a.target) a d (omega arith)
    (advances_more (part_count a.start) (12 * name_count a.start a.target + (part_count a.target + 1)) a b d off (advances_more (12 * name_count a.start a.target) (part_count a.target + 1) b c d second third))
