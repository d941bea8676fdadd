-- What a VLAN reaches by its base.
use Rattle.std.proofs.Common.{◌≡◌, ℕ, zero, suc, Bool, true, false, not, ◌&&◌, ◌||◌, List, length, Option, Some, None, refl, sym, ap, ◌∙◌}
use Rattle.net_model.specs.Name.{same_bytes}
use Rattle.net_model.specs.Words.{is_among}
use Rattle.net_model.specs.Links.{find_link, is_named, is_port_of, ports_of, takes, is_bond}
use Rattle.net_model.specs.Dependence.{has_base, depends_on, reaches, no_cycle}
use Rattle.net_model.specs.NetData.{NetData, IsNet}
use Rattle.net_model.specs.declared.link.Link.{Link}
use Rattle.net_model.specs.declared.link.Kind.{Kind}
use Rattle.net_model.specs.declared.link.Kind.TheVariants.{Vlan}
use Rattle.net_model.specs.declared.options.Proto.{Proto}
use Rattle.net_model.proofs.lemmas.Truth.{and_left, and_right, and_both, or_right}
use Rattle.net_model.proofs.lemmas.Found.{one_name, itself}
use Rattle.net_model.proofs.lemmas.Grounded.{found_named, any_found}
use Rattle.net_model.proofs.lemmas.FactsHold.{facts}
use Rattle.net_model.proofs.lemmas.ByName.{some_found, or_left, passes_as}
use Rattle.net_model.proofs.lemmas.Ports.{among_ports}
use Rattle.net_model.proofs.lemmas.Ranks.{or_elim, stands_reaches, reaches_further, reaches_enough}
use Rattle.kernel_model.specs.Words.{has_link}
use Rattle.net_model.specs.Edits.{edit_link, attached}
use Rattle.link_step.specs.Leaf.{is_leaf}
use Rattle.link_step.proofs.Cycles.{differ, controlling, attach_cycles, leaf_reaches, bond_reaches}

-- truths that follow from each other
pub same_truth : (a b : Bool) → (a ≡ true → b ≡ true) → (b ≡ true → a ≡ true) → a ≡ b
same_truth true b f g = sym (f refl)
same_truth false true f g = g refl
same_truth false false f g = refl

-- the port reaches the controller where the link of this name does
abbrev pub Follows : List Link → List ℕ → List ℕ → List ℕ → Type 0
Follows links port controller name = (c : Link) → find_link controller links ≡ Some c → reaches links (length links) port c ≡ reaches links (length links) name c

module _ (net : NetData) (is : IsNet net) where
  none_taken : (k port : Kind) (base : List ℕ) (id : ℕ) (proto : Proto) → k ≡ Vlan base id proto → takes k port ≡ false
  none_taken k port base id proto e = ap (λ j. takes j port) e

  -- a VLAN has no ports
  portless : (p x : Link) (base : List ℕ) (id : ℕ) (proto : Proto) → find_link p.name net.links ≡ Some p → p.kind ≡ Vlan base id proto → find_link x.name net.links ≡ Some x → is_port_of p.name x ≡ true → ⊥
  portless p x base id proto found kind there h = port x.controller refl
    where
      port : (o : Option (List ℕ)) → x.controller ≡ o → ⊥
      port None e = let no : is_port_of p.name x ≡ false = rw e refl in let wrong : true ≡ false = sym h ∙ no in absurd cc
      port (Some c) e =
          let f = (facts net is).controller x.name x c there e in
          let name : c ≡ p.name = one_name c p.name (sym (rw e refl) ∙ h) in
          let one : f.link ≡ p = (let s : Some f.link ≡ Some p = sym f.there ∙ ap (λ m. find_link m net.links) name ∙ found in cc) in
          let no : false ≡ true = sym (none_taken p.kind x.kind base id proto kind) ∙ ap (λ (l : Link). takes l.kind x.kind) (sym one) ∙ f.takes_it in
          absurd cc

  module _ (p : Link) (base : List ℕ) (id : ℕ) (proto : Proto) (found : find_link p.name net.links ≡ Some p) (kind : p.kind ≡ Vlan base id proto) where
    -- what it depends on is its base
    on_base : (x : Link) → find_link x.name net.links ≡ Some x → depends_on p x ≡ true → same_bytes base x.name ≡ true
    on_base x there h =
        or_elim (has_base p.kind x.name) (is_port_of p.name x) (same_bytes base x.name ≡ true)
        (λ e. sym (ap (λ k. has_base k x.name) kind) ∙ e)
        (λ e. absurd (portless p x base id proto found kind there e)) h

    -- so what it reaches is its base or reached from that
    down : (d : ℕ) (x : Link) → find_link x.name net.links ≡ Some x → reaches net.links d p.name x ≡ true → (same_bytes base x.name || reaches net.links d base x) ≡ true
    down zero x there h = absurd cc
    down (suc d) x there h =
        let c = some_found (λ c. depends_on c x && (is_named p.name c || reaches net.links d p.name c)) net.links (differ net is) h in
        let step : depends_on c.0 x ≡ true = and_left (depends_on c.0 x) (is_named p.name c.0 || reaches net.links d p.name c.0) c.2 in
        let further : (is_named base c.0 || reaches net.links d base c.0) ≡ true → (same_bytes base x.name || reaches net.links (suc d) base x) ≡ true =
        λ e. or_right (same_bytes base x.name) (reaches net.links (suc d) base x)
        (any_found (λ c. depends_on c x && (is_named base c || reaches net.links d base c)) net.links c.0.name c.0 c.1 (and_both (depends_on c.0 x) (is_named base c.0 || reaches net.links d base c.0) step e)) in
        or_elim (is_named p.name c.0) (reaches net.links d p.name c.0) ((same_bytes base x.name || reaches net.links (suc d) base x) ≡ true)
        (λ e.
        let one : c.0 ≡ p = (let s : Some c.0 ≡ Some p = sym c.1 ∙ ap (λ m. find_link m net.links) (one_name c.0.name p.name e) ∙ found in cc) in
        or_left (same_bytes base x.name) (reaches net.links (suc d) base x) (on_base x there (sym (ap (λ (l : Link). depends_on l x) one) ∙ step)))
        (λ e.
        or_elim (same_bytes base c.0.name) (reaches net.links d base c.0) ((same_bytes base x.name || reaches net.links (suc d) base x) ≡ true)
        (λ s. further (or_left (is_named base c.0) (reaches net.links d base c.0) (ap (λ n. same_bytes n base) (sym (one_name base c.0.name s)) ∙ itself base)))
        (λ r. further (or_right (is_named base c.0) (reaches net.links d base c.0) r))
        (down d c.0 c.1 e))
        (and_right (depends_on c.0 x) (is_named p.name c.0 || reaches net.links d p.name c.0) c.2)

    on_it : (x : Link) → same_bytes base x.name ≡ true → depends_on p x ≡ true
    on_it x e = or_left (has_base p.kind x.name) (is_port_of p.name x) (ap (λ k. has_base k x.name) kind ∙ e)

    -- and these it reaches
    up : (x : Link) → find_link x.name net.links ≡ Some x → (same_bytes base x.name || reaches net.links (length net.links) base x) ≡ true → reaches net.links (length net.links) p.name x ≡ true
    up x there h =
        or_elim (same_bytes base x.name) (reaches net.links (length net.links) base x) (reaches net.links (length net.links) p.name x ≡ true)
        (λ e. sym (reaches_enough net.links p.name x there) ∙ stands_reaches net.links p x found (on_it x e) (length net.links))
        (λ r.
        let f = (facts net is).base p.name p base id proto found kind in
        let named : f.link.name ≡ base = found_named net.links base f.link f.there in
        let own : find_link f.link.name net.links ≡ Some f.link = ap (λ m. find_link m net.links) named ∙ f.there in
        let on : depends_on p f.link ≡ true = on_it f.link (ap (same_bytes base) named ∙ itself base) in
        sym (reaches_enough net.links p.name x there)
        ∙ reaches_further net.links p f.link found on own (differ net is) (length net.links) x (ap (λ m. reaches net.links (length net.links) m x) named ∙ r)) h

    pub vlan_reaches : (x : Link) → find_link x.name net.links ≡ Some x → reaches net.links (length net.links) p.name x ≡ (same_bytes base x.name || reaches net.links (length net.links) base x)
    vlan_reaches x there =
        same_truth (reaches net.links (length net.links) p.name x) (same_bytes base x.name || reaches net.links (length net.links) base x) (down (length net.links) x there) (up x there)

  module _ (port controller name : List ℕ) (l : Link) (follows : Follows net.links port controller name) (found : find_link name net.links ≡ Some l) where
    named : l.name ≡ name
    named = found_named net.links name l found

    own : find_link l.name net.links ≡ Some l
    own = ap (λ m. find_link m net.links) named ∙ found

    there_as : (c : Link) → find_link controller net.links ≡ Some c → find_link c.name net.links ≡ Some c
    there_as c at = ap (λ m. find_link m net.links) (found_named net.links controller c at) ∙ at

    by_base : (base : List ℕ) (id : ℕ) (proto : Proto) → l.kind ≡ Vlan base id proto → (c : Link) → find_link controller net.links ≡ Some c
        → reaches net.links (length net.links) port c ≡ (same_bytes base controller || reaches net.links (length net.links) base c)
    by_base base id proto kind c at =
        follows c at
        ∙ sym (ap (λ m. reaches net.links (length net.links) m c) named)
        ∙ vlan_reaches l base id proto own kind c (there_as c at)
        ∙ ap (λ m. same_bytes base m || reaches net.links (length net.links) base c) (found_named net.links controller c at)

    -- where that is a VLAN over another link, so does its base
    pub follows_base : (base : List ℕ) (id : ℕ) (proto : Proto) → l.kind ≡ Vlan base id proto → same_bytes base controller ≡ false → Follows net.links port controller base
    follows_base base id proto kind other c at = by_base base id proto kind c at ∙ ap (λ b. b || reaches net.links (length net.links) base c) other

    module _ (both : (has_link port net.links && has_link controller net.links) ≡ true) (apart : same_bytes port controller ≡ false) where
      -- a VLAN over the controller makes a cycle
      pub base_cycles : (base : List ℕ) (id : ℕ) (proto : Proto) → l.kind ≡ Vlan base id proto → same_bytes base controller ≡ true → true ≡ not (no_cycle (edit_link port (attached controller) net.links))
      base_cycles base id proto kind same =
          let c = controlling net is port controller both in
          sym (attach_cycles net is port controller c.0 both c.1
          ∙ ap (λ b. b || reaches net.links (length net.links) port c.0) apart
          ∙ by_base base id proto kind c.0 c.1
          ∙ ap (λ b. b || reaches net.links (length net.links) base c.0) same)

      by_reach : (c : Link) → find_link controller net.links ≡ Some c → not (no_cycle (edit_link port (attached controller) net.links)) ≡ reaches net.links (length net.links) name c
      by_reach c at = attach_cycles net is port controller c both at ∙ ap (λ b. b || reaches net.links (length net.links) port c) apart ∙ follows c at

      -- a leaf none
      pub leaf_ends : is_leaf l.kind ≡ true → false ≡ not (no_cycle (edit_link port (attached controller) net.links))
      leaf_ends leaf =
          let c = controlling net is port controller both in
          sym (by_reach c.0 c.1 ∙ leaf_reaches net is name l found leaf (length net.links) c.0 (there_as c.0 c.1))

      -- and a bond where the controller is its port
      pub bond_ends : is_bond l.kind ≡ true → is_among (ports_of net.links name) controller ≡ not (no_cycle (edit_link port (attached controller) net.links))
      bond_ends bond =
          let c = controlling net is port controller both in
          among_ports net.links name controller
          ∙ passes_as (is_port_of name) net.links controller c.0 (differ net is) c.1
          ∙ ap (λ m. is_port_of m c.0) (sym named)
          ∙ sym (bond_reaches net is l own bond c.0 (there_as c.0 c.1))
          ∙ ap (λ m. reaches net.links (length net.links) m c.0) named
          ∙ sym (by_reach c.0 c.1)
