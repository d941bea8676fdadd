-- Attaching a port: where it makes a cycle, and that it keeps a network valid.
use Rattle.std.proofs.Common.{◌≡◌, ℕ, ◌+◌, ◌<◌, ◌≤◌, zero, suc, Bool, true, false, not, ◌&&◌, ◌||◌, List, map, length, Some, refl, sym, ap, subst, ◌∙◌, arith}
use Rattle.std.specs.Prelude.{if◌then◌else◌}
use Rattle.std.specs.Option.{option_map_or}
use Rattle.std.proofs.lemmas.List.{length-map}
use Rattle.reach.proofs.lemmas.Saturate.{tally}
use Rattle.net_model.specs.Name.{same_bytes}
use Rattle.net_model.specs.Links.{find_link, is_named, is_port_of}
use Rattle.net_model.specs.Dependence.{has_base, depends_on, reaches, on_cycle, no_cycle}
use Rattle.net_model.specs.Valid.{names_differ}
use Rattle.net_model.specs.declared.link.Link.{Link}
use Rattle.net_model.proofs.lemmas.Truth.{and_left, and_right, and_both, or_right}
use Rattle.net_model.proofs.lemmas.Found.{one_name, itself}
use Rattle.net_model.proofs.lemmas.Grounded.{found_named, any_found}
use Rattle.net_model.specs.Edits.{changed, edit_link, attached}
use Rattle.net_model.proofs.lemmas.ByName.{or_left, all_found, some_found, some_same}
use Rattle.kernel_laws.proofs.lemmas.Changed.{changed_keeps, changed_at, changed_off}
use Rattle.net_model.proofs.lemmas.Maps.{names_map}
use Rattle.net_model.proofs.lemmas.Ranks.{Falls, lower, or_elim, falls-no_cycle, stands_reaches, reaches_further, reaches_enough, rank-falls}
use Rattle.net_model.proofs.lemmas.Changes.{found_map, map_found}

same_bool : (a b : Bool) → (a ≡ true → b ≡ true) → (b ≡ true → a ≡ true) → a ≡ b
same_bool true b f g = sym (f refl)
same_bool false true f g = g refl
same_bool false false f g = refl

module _ (links : List Link) (port controller : List ℕ) where
  abbrev change : Link → Link
  change = changed port (attached controller)

  abbrev after : List Link
  after = map change links

  name : (l : Link) → (change l).name ≡ l.name
  name = changed_keeps (λ (l : Link). l.name) port (attached controller) (λ l. refl)

  kind : (l : Link) → (change l).kind ≡ l.kind
  kind = changed_keeps (λ (l : Link). l.kind) port (attached controller) (λ l. refl)

  -- the port's controller is the new one
  has_new : (l : Link) → is_named port l ≡ true → (change l).controller ≡ Some controller
  has_new l h = ap (λ (k : Link). k.controller) (changed_at port (attached controller) l h)

  -- the new arrow leads from the controller to the port, and the others are old ones
  arrows : (X : Type 0) (a b : Link) → (is_named port b ≡ true → a.name ≡ controller → X) → (depends_on a b ≡ true → X) → depends_on (change a) (change b) ≡ true → X
  arrows X a b new old h =
      let on : (has_base a.kind b.name || is_port_of a.name (change b)) ≡ true = rw (kind a, name b, name a) at h in
      or_elim (has_base a.kind b.name) (is_port_of a.name (change b)) X
      (λ e. old (or_left (has_base a.kind b.name) (is_port_of a.name b) e))
      (λ e. elim (is_named port b) as (λ v. is_named port b ≡ v → X) [
        | true ↦ λ i.
            let has : same_bytes controller a.name ≡ true = sym (ap (λ o. option_map_or (λ c. same_bytes c a.name) o false) (has_new b i)) ∙ e in
            new i (sym (one_name controller a.name has))
        | false ↦ λ i. old (or_right (has_base a.kind b.name) (is_port_of a.name b) (ap (is_port_of a.name) (sym (changed_off port (attached controller) b i)) ∙ e))
      ] refl) on

  module _ (differ : names_differ links ≡ true) (none : no_cycle links ≡ true) (p c : Link) (fp : find_link port links ≡ Some p) (fc : find_link controller links ≡ Some c) where
    abbrev rank : List ℕ → ℕ
    rank n = tally (reaches links (length links) n) links

    differ_after : names_differ after ≡ true
    differ_after = names_map change name links ∙ differ

    -- the link of this name is the controller or depends on it
    abbrev above : List ℕ → Bool
    above n = same_bytes n controller || reaches links (length links) n c

    abbrev raised : List ℕ → ℕ
    raised n = rank n + (if above n then suc (rank port) else 0)

    above_more : (a b : Link) → find_link a.name links ≡ Some a → find_link b.name links ≡ Some b → depends_on a b ≡ true → above b.name ≡ true → above a.name ≡ true
    above_more a b fa fb on h =
        or_right (same_bytes a.name controller) (reaches links (length links) a.name c)
        (or_elim (same_bytes b.name controller) (reaches links (length links) b.name c) (reaches links (length links) a.name c ≡ true)
        (λ e.
        let one : b ≡ c = some_same b c (sym fb ∙ ap (λ m. find_link m links) (one_name b.name controller e) ∙ fc) in
        sym (reaches_enough links a.name c own) ∙ stands_reaches links a c fa (ap (depends_on a) (sym one) ∙ on) (length links))
        (λ e. sym (reaches_enough links a.name c own) ∙ reaches_further links a b fa on fb differ (length links) c e) h)
      where
        own : find_link c.name links ≡ Some c
        own = ap (λ m. find_link m links) (found_named links controller c fc) ∙ fc

    bonus_le : (a b : Bool) (n : ℕ) → (b ≡ true → a ≡ true) → (if b then suc n else 0) ≤ (if a then suc n else 0)
    bonus_le a true n h = rw (h refl) (omega arith)
    bonus_le true false n h = omega arith
    bonus_le false false n h = omega arith

    old_falls : (a b : Link) → find_link a.name links ≡ Some a → find_link b.name links ≡ Some b → depends_on a b ≡ true → raised b.name < raised a.name
    old_falls a b fa fb on = omega (arith, rank-falls links differ none a b fa fb on, bonus_le (above a.name) (above b.name) (rank port) (above_more a b fa fb on))

    new_falls : above port ≡ false → (a b : Link) → b.name ≡ port → a.name ≡ controller → raised b.name < raised a.name
    new_falls off a b nb na =
        let low : raised b.name ≡ rank port + 0 = ap raised nb ∙ ap (λ (v : Bool). rank port + (if v then suc (rank port) else 0)) off in
        let on : above controller ≡ true = or_left (same_bytes controller controller) (reaches links (length links) controller c) (itself controller) in
        let high : raised a.name ≡ rank controller + suc (rank port) = ap raised na ∙ ap (λ (v : Bool). rank controller + (if v then suc (rank port) else 0)) on in
        omega (arith, low, high)

    falls : above port ≡ false → Falls after raised
    falls off a b fa fb on =
        let oa = found_map change name links a.name a fa in
        let ob = found_map change name links b.name b fb in
        let na : oa.0.name ≡ a.name = found_named links a.name oa.0 oa.1 in
        let nb : ob.0.name ≡ b.name = found_named links b.name ob.0 ob.1 in
        let less : raised ob.0.name < raised oa.0.name =
        arrows (raised ob.0.name < raised oa.0.name) oa.0 ob.0
        (λ e m. new_falls off oa.0 ob.0 (one_name ob.0.name port e) m)
        (λ e. old_falls oa.0 ob.0 (ap (λ m. find_link m links) na ∙ oa.1) (ap (λ m. find_link m links) nb ∙ ob.1) e)
        (ap (λ x. depends_on x (change ob.0)) (sym oa.2) ∙ ap (depends_on a) (sym ob.2) ∙ on) in
        subst (λ m. raised m < raised a.name) nb (subst (λ m. raised ob.0.name < raised m) na less)

    -- where the port stands below the controller there is no cycle
    stays_off : above port ≡ false → no_cycle after ≡ true
    stays_off off = falls-no_cycle after raised differ_after (falls off)

    -- what the port reached it still reaches
    still_reached : (d : ℕ) (x : Link) → find_link x.name links ≡ Some x → reaches links d port x ≡ true → reaches after d port (change x) ≡ true
    still_reached zero x fx h = absurd cc
    still_reached (suc d) x fx h =
        let y = some_found (λ y. depends_on y x && (is_named port y || reaches links d port y)) links differ h in
        let on : depends_on y.0 x ≡ true = and_left (depends_on y.0 x) (is_named port y.0 || reaches links d port y.0) y.2 in
        let below : rank x.name < rank port = lower links rank differ (rank-falls links differ none) port (suc d) x fx h in
        let other : is_named port x ≡ false = apart_of (is_named port x) refl below in
        let same : change x ≡ x = changed_off port (attached controller) x other in
        let stands : depends_on (change y.0) (change x) ≡ true = ap (depends_on (change y.0)) same ∙ rw (kind y.0, name y.0) on in
        let there : find_link y.0.name after ≡ Some (change y.0) = map_found change name links y.0.name y.0 y.1 in
        any_found (λ z. depends_on z (change x) && (is_named port z || reaches after d port z)) after y.0.name (change y.0) there
        (and_both (depends_on (change y.0) (change x)) (is_named port (change y.0) || reaches after d port (change y.0)) stands
        (or_elim (is_named port y.0) (reaches links d port y.0) ((is_named port (change y.0) || reaches after d port (change y.0)) ≡ true)
        (λ e. or_left (is_named port (change y.0)) (reaches after d port (change y.0)) (ap (λ m. same_bytes m port) (name y.0) ∙ e))
        (λ e. or_right (is_named port (change y.0)) (reaches after d port (change y.0)) (still_reached d y.0 y.1 e))
        (and_right (depends_on y.0 x) (is_named port y.0 || reaches links d port y.0) y.2)))
      where
        apart_of : (b : Bool) → is_named port x ≡ b → rank x.name < rank port → b ≡ false
        apart_of true e less = absurd (let same : rank x.name ≡ rank port = ap rank (one_name x.name port e) in omega (arith, less, same))
        apart_of false e less = refl

    new_arrow : (b : Bool) → is_named port p ≡ b → depends_on (change c) (change p) ≡ true
    new_arrow b e =
        let named : is_named port p ≡ true = ap (λ m. same_bytes m port) (found_named links port p fp) ∙ itself port in
        let own : is_port_of (change c).name (change p) ≡ true =
        ap (λ m. is_port_of m (change p)) (name c ∙ found_named links controller c fc) ∙ ap (λ o. option_map_or (λ k. same_bytes k controller) o false) (has_new p named) ∙ itself controller in
        or_right (has_base (change c).kind (change p).name) (is_port_of (change c).name (change p)) own

    -- and where it is the controller or depends on it there is one
    goes_round : above port ≡ true → on_cycle after (change c) ≡ true
    goes_round h =
        let fc' : find_link (change c).name after ≡ Some (change c) = ap (λ m. find_link m after) (name c ∙ found_named links controller c fc) ∙ map_found change name links controller c fc in
        let fp' : find_link (change p).name after ≡ Some (change p) = ap (λ m. find_link m after) (name p ∙ found_named links port p fp) ∙ map_found change name links port p fp in
        let arrow : depends_on (change c) (change p) ≡ true = new_arrow (is_named port p) refl in
        sym (reaches_enough after (change c).name (change c) fc')
        ∙ or_elim (same_bytes port controller) (reaches links (length links) port c) (reaches after (suc (length after)) (change c).name (change c) ≡ true)
        (λ e.
        let one : p ≡ c = some_same p c (sym fp ∙ ap (λ m. find_link m links) (one_name port controller e) ∙ fc) in
        stands_reaches after (change c) (change c) fc' (ap (λ x. depends_on (change c) (change x)) (sym one) ∙ arrow) (length after))
        (λ e.
        let own : find_link c.name links ≡ Some c = ap (λ m. find_link m links) (found_named links controller c fc) ∙ fc in
        let still : reaches after (length after) port (change c) ≡ true = ap (λ d. reaches after d port (change c)) (length-map links change) ∙ still_reached (length links) c own e in
        reaches_further after (change c) (change p) fc' arrow fp' differ_after (length after) (change c) (ap (λ m. reaches after (length after) m (change c)) (name p ∙ found_named links port p fp) ∙ still))
        h

    -- so this is where it makes a cycle
    pub makes_cycle : no_cycle (edit_link port (attached controller) links) ≡ not (same_bytes port controller || reaches links (length links) port c)
    makes_cycle = of (above port) refl
      where
        some : (b : Bool) → no_cycle after ≡ b → above port ≡ true → b ≡ false
        some true e h =
            let off : not (on_cycle after (change c)) ≡ true = all_found (λ l. not (on_cycle after l)) after controller (change c) e (map_found change name links controller c fc) in
            let no : not true ≡ true = ap not (sym (goes_round h)) ∙ off in
            absurd cc
        some false e h = refl

        of : (b : Bool) → above port ≡ b → no_cycle after ≡ not b
        of true e = some (no_cycle after) refl e
        of false e = stays_off e
