-- A link that is taken down.
use Rattle.std.proofs.Common.{◌≡◌, ℕ, Bool, true, false, not, ◌&&◌, List, Option, Some, None, Ok, refl, sym, ap, subst, ◌∙◌}
use Rattle.std.specs.Prelude.{option_map, if◌then◌else◌}
use Rattle.std.specs.List.{list_all}
use Rattle.std.specs.Option.{option_eq}
use Rattle.net_model.specs.Name.{same_bytes}
use Rattle.net_model.specs.Address.{Block}
use Rattle.net_model.specs.Links.{find_link}
use Rattle.net_model.specs.Valid.{same_block, same_key, route_stands, route_on_link, keys_differ, same_address}
use Rattle.net_model.specs.NetData.{NetData, IsNet}
use Rattle.net_model.specs.declared.link.Link.{Link}
use Rattle.net_model.specs.declared.route.Route.{Route}
use Rattle.net_model.specs.declared.call.Call.TheVariants.{Down}
use Rattle.net_model.proofs.lemmas.Truth.{and_left, and_right, not_false}
use Rattle.net_model.proofs.lemmas.Found.{one_name, names_differ-rises}
use Rattle.net_model.proofs.lemmas.Grounded.{found_named}
use Rattle.net_model.proofs.lemmas.FactsHold.{facts}
use Rattle.kernel_model.specs.Words.{hangs_on}
use Rattle.kernel_model.specs.UpDown.{lowered, v4_alone}
use Rattle.kernel_model.specs.Addresses.{has_block}
use Rattle.net_model.specs.Edits.{same_route}
use Rattle.kernel_model.specs.Kernel.{step, after}
use Rattle.kernel_laws.specs.Frames.{Leads}
use Rattle.net_model.proofs.lemmas.ByName.{found_passing, passing_found, some_same}
use Rattle.kernel_laws.proofs.lemmas.Leading.{has_frame}
use Rattle.kernel_laws.proofs.lemmas.Taking.{is_accepted}
use Rattle.kernel_laws.proofs.lemmas.StepKeeps.{hangs_on_it}
use Rattle.plan_model.specs.Touched.{IsCalm, must_fall, is_lowered}
use Rattle.plan_model.specs.Undisturbed.{IsUndisturbed, has_route}
use Rattle.link_planner.specs.declared.phase.Phase.TheVariants.{TakeLinksDown}
use Rattle.link_planner.specs.Drafts.{DraftData, Holds, IsSafe}
use Rattle.link_planner.specs.Phases.{MayTakeAway, IsNext}
use Rattle.link_planner.specs.Shrinking.{IsLess, IsShrunk, KeepsPorts, HasBonds, IsLow, MustFall}
use Rattle.link_planner.proofs.Keeping.{kept_started}
use Rattle.link_planner.proofs.Sparing.{spares_name}
use Rattle.link_planner.proofs.Lists.{any_of_all, any_kept, any_was, filter_all}
use Rattle.link_planner.proofs.Lost.{hung_before, lowered_by, falling}

-- a link that is down and has IPv4 addresses alone doesn't change when it falls
idle : (falls : List ℕ → Bool) (l : Link) → l.up ≡ false → v4_alone l.addrs ≡ l.addrs → lowered falls l ≡ l
idle falls l down v4 =
    ap (λ u. let m : Link = record l { up = u; addrs = if falls l.name then v4_alone l.addrs else l.addrs } in m) (ap (λ u. u && not (falls l.name)) down ∙ sym down)
    ∙ ap (λ a. let m : Link = record l { addrs = a } in m) (of (falls l.name))
  where
    of : (v : Bool) → (if v then v4_alone l.addrs else l.addrs) ≡ l.addrs
    of true = v4
    of false = refl

-- the route's device
pub same_dev : (r x : Route) → same_route r x ≡ true → r.dev ≡ x.dev
same_dev r x h = one_name r.dev x.dev (and_right (same_key r x && option_eq same_address r.gateway x.gateway) (same_bytes r.dev x.dev) h)

-- a link is low that is up in target, and whose bond there was its controller at the start and is kept
pub low_by : (start target net : NetData) → KeepsPorts start target net → (n : List ℕ) (link old there : Link) → find_link n net.links ≡ Some link → find_link n start.links ≡ Some old → find_link n target.links ≡ Some there
    → there.up ≡ true → HasBonds start target old there → IsLow start target net n
low_by start target net ports n link old there fl fo ft up bonds l t kept found at _ =
    let one : t ≡ there = some_same t there (sym at ∙ ft) in (
      ap (λ (x : Link). x.up) one ∙ up,
      λ c b has fb bond.
          let p = bonds c b (ap (λ (x : Link). x.controller) (sym one) ∙ has) fb bond in
          (ports.each n c old t l fo at found p.0 has, p.1),
    )

-- and a link that isn't there at the start isn't kept
pub low_where_new : (start target net : NetData) → IsNet start → IsNet target → (n : List ℕ) → find_link n start.links ≡ None → IsLow start target net n
low_where_new start target net first good n none l t kept found at up = absurd (let no : true ≡ false = sym kept ∙ kept_started start target first good n none in cc)

module _ (start target net : NetData) (first : IsNet start) (good : IsNet target) (is : IsNet net) (quiet : IsUndisturbed start target net) (shrunk : IsShrunk start net) (n : List ℕ) (must : MustFall start target net n) where
  abbrev falls : List ℕ → Bool
  falls = hangs_on net.links n

  taken : step (Down n) net ≡ Ok (after (Down n) net)
  taken = is_accepted (Down n) net is (must.link, must.found, tt)

  leads : Leads (Down n) net (after (Down n) net)
  leads = has_frame (Down n) net (after (Down n) net) is taken

  was_up : must.old.up ≡ true
  was_up =
      let k = shrunk.links n must.link must.found in
      ap (λ (l : Link). l.up) (some_same must.old k.0 (sym must.old_found ∙ k.1)) ∙ k.2.up must.up

  root : must_fall start target must.old ≡ true
  root = falling start target first good n must.old must.there must.old_found must.target_found was_up must.why

  -- what falls and is untouched was down
  was_down : (m : List ℕ) (l : Link) → IsCalm start target m → find_link m start.links ≡ Some l → falls m ≡ true → l.up ≡ false
  was_down m l calm found h = elim l.up as (λ v. l.up ≡ v → v ≡ false) [
    | false ↦ λ _. refl
    | true ↦ λ up.
        let low : is_lowered start target m ≡ true = lowered_by start target first good n must.old must.old_found root m l found up (hung_before start net first is shrunk n must.link must.found m h) in
        let no : true ≡ false = sym low ∙ calm.stays_up in
        absurd cc
  ] refl

  touched : IsCalm start target n → ⊥
  touched calm =
      let no : true ≡ false = sym was_up ∙ was_down n must.old calm must.old_found ((hangs_on_it net n is).root must.link must.found) in
      absurd cc

  stays : (m : List ℕ) → IsCalm start target m → find_link m (after (Down n) net).links ≡ find_link m net.links
  stays m calm = of (find_link m net.links) refl
    where
      of : (o : Option Link) → find_link m net.links ≡ o → find_link m (after (Down n) net).links ≡ find_link m net.links
      of None e = leads.links m ∙ ap (option_map (lowered falls)) e ∙ sym e
      of (Some l) e = elim (falls m) as (λ v. falls m ≡ v → find_link m (after (Down n) net).links ≡ find_link m net.links) [
        | false ↦ λ h. leads.others m h
        | true ↦ λ h.
            let down : l.up ≡ false = was_down m l calm (sym (quiet.links m calm) ∙ e) h in
            let v4 : v4_alone l.addrs ≡ l.addrs = filter_all (λ (b : Block). not b.addr.v6) l.addrs (((facts net is).link m l e).down_without_v6 down) in
            leads.links m ∙ ap (option_map (lowered falls)) e ∙ ap Some (idle falls l down v4) ∙ sym e
      ] refl

  -- a route of an untouched link has a device that is up, so that one doesn't fall
  route_stays : (r : Route) → IsCalm start target r.dev → has_route r net.routes ≡ true → has_route r (after (Down n) net).routes ≡ true
  route_stays r calm here =
      let x = any_of_all (same_route r) (route_stands net.links) net.routes here (and_left (list_all (route_stands net.links) net.routes) (keys_differ net.routes) (facts net is).parts.routes) in
      let b = passing_found (λ l. l.up && route_on_link l x.0) net.links x.0.dev (names_differ-rises net.links is.in_order.links) x.2 in
      let at : find_link r.dev net.links ≡ Some b.0 = ap (λ d. find_link d net.links) (same_dev r x.0 x.1) ∙ b.1 in
      let up : b.0.up ≡ true = and_left b.0.up (route_on_link b.0 x.0) b.2 in
      let off : falls r.dev ≡ false = elim (falls r.dev) as (λ v. falls r.dev ≡ v → v ≡ false) [
        | false ↦ λ _. refl
        | true ↦ λ h.
            let no : true ≡ false = sym up ∙ was_down r.dev b.0 calm (sym (quiet.links r.dev calm) ∙ at) h in
            absurd cc
      ] refl in
      any_kept (same_route r) (λ y. not (falls y.dev)) (λ y same. not_false (falls y.dev) (ap falls (sym (same_dev r y same)) ∙ off)) net.routes here

  down_safe : IsSafe start target (Down n) net
  down_safe = record {
    accepted = taken;
    spares = spares_name start target (Down n) n refl touched;
    wants = found_passing (must_fall start target) start.links n must.old must.old_found root;
    undisturbed = record {
      links = λ m calm. stays m calm ∙ quiet.links m calm;
      routes = λ r calm here there. route_stays r calm (quiet.routes r calm here there);
    };
  }

  less : (l : Link) → IsLess l (lowered falls l)
  less l = record {
    kind = refl;
    mtu = refl;
    mac = refl;
    up = λ h. and_left l.up (not (falls l.name)) h;
    controller = λ c h. h;
    addrs = λ b h. of b (falls l.name) h;
  }
    where
      of : (b : Block) (v : Bool) → has_block b (if v then v4_alone l.addrs else l.addrs) ≡ true → has_block b l.addrs ≡ true
      of b true h = any_was (same_block b) (λ (x : Block). not x.addr.v6) l.addrs h
      of b false h = h

  -- where a link comes from
  from : (m : List ℕ) (l : Link) → find_link m (after (Down n) net).links ≡ Some l → (k : Link) × (find_link m net.links ≡ Some k) × (l ≡ lowered falls k)
  from m l found = of (find_link m net.links) refl
    where
      of : (o : Option Link) → find_link m net.links ≡ o → (k : Link) × (find_link m net.links ≡ Some k) × (l ≡ lowered falls k)
      of None e = absurd (let no : (let o : Option Link = None in o) ≡ Some l = ap (option_map (lowered falls)) (sym e) ∙ sym (leads.links m) ∙ found in cc)
      of (Some k) e = (k, e, some_same l (lowered falls k) (sym found ∙ leads.links m ∙ ap (option_map (lowered falls)) e))

  down_shrinks : IsShrunk net (after (Down n) net)
  down_shrinks = record {
    links = λ m l found. let k = from m l found in (k.0, k.1, subst (IsLess k.0) (sym k.2) (less k.0));
    routes = λ r h. any_was (same_route r) (λ y. not (falls y.dev)) net.routes h;
  }

  down_keeps : KeepsPorts start target net → KeepsPorts start target (after (Down n) net)
  down_keeps ports = record {
    each = λ m c k t l fk ft fl hk ht.
        let w = from m l fl in
        ap (λ (x : Link). x.controller) w.2 ∙ ports.each m c k t w.0 fk ft w.1 hk ht;
  }

  down_lowers : IsLow start target (after (Down n) net) n
  down_lowers l t kept found there up =
      let w = from n l found in
      let name : falls w.0.name ≡ true = ap falls (found_named net.links n w.0 w.1) ∙ (hangs_on_it net n is).root must.link must.found in
      let wrong : (w.0.up && not (falls w.0.name)) ≡ true = ap (λ (x : Link). x.up) (sym w.2) ∙ up in
      let no : not true ≡ true = ap not (sym name) ∙ and_right w.0.up (not (falls w.0.name)) wrong in
      absurd cc

  low_still : (m : List ℕ) → IsLow start target net m → IsLow start target (after (Down n) net) m
  low_still m low l t kept found there up =
      let w = from m l found in
      let had = low w.0 t kept w.1 there (and_left w.0.up (not (falls w.0.name)) (ap (λ (x : Link). x.up) (sym w.2) ∙ up)) in
      (had.0, λ c b has at bond. let p = had.1 c b has at bond in (ap (λ (x : Link). x.controller) w.2 ∙ p.0, p.1))

pub lower_next : (d : DraftData) → Holds d → (n : List ℕ) → MayTakeAway 1 d → MustFall d.start d.target d.net n → IsNext TakeLinksDown d n (Down n)
lower_next d h n stands must = record {
  safe = down_safe d.start d.target d.net h.start h.target h.net h.draft.undisturbed stands.shrunk n must;
  moves = record {
    shrunk = down_shrinks d.start d.target d.net h.start h.target h.net h.draft.undisturbed stands.shrunk n must;
    rest = record { rules = refl; dns = refl };
    ports = λ lt. down_keeps d.start d.target d.net h.start h.target h.net h.draft.undisturbed stands.shrunk n must (stands.ports lt);
    low = λ _. low_still d.start d.target d.net h.start h.target h.net h.draft.undisturbed stands.shrunk n must;
  };
  done = down_lowers d.start d.target d.net h.start h.target h.net h.draft.undisturbed stands.shrunk n must;
  counted = refl;
}
