-- A rollout begins on hosts that are sound and have no checkpoint; and what recoveries make of its nodes.
use Rattle.std.proofs.Common.{◌≡◌, inl, inr, ◌∙◌, ℕ, false, List, [], length, refl, sym, subst, Some, None}
use Rattle.std.proofs.Math.Nat.{le_refl}
use Rattle.std.specs.Prelude.{slice_get}
use Rattle.document_model.specs.declared.Doc.{Doc}
use Rattle.host_core.specs.HostView.{State, HostView, IsLawfulHost}
use Rattle.host_core.specs.declared.Host.{Ghosts as HostGhosts}
use Rattle.checkpoint_cell.specs.Cell.{cell_of, applying}
use Rattle.checkpoint_cell.specs.Settled.{Standing, standing}
use Rattle.engine_model.specs.Stations.{Near, Only, left_by}
use Rattle.engine_model.proofs.lemmas.Leading.{alike_is}
use Rattle.rollout_model.specs.Rollout.{begun}
use Rattle.rollout_model.specs.Safe.{IsAt}
use Rattle.rollout_model.specs.declared.node.NodeState.{NodeState}
use Rattle.rollout_model.specs.declared.node.NodeState.TheVariants.{Fresh}
use Rattle.rollout_model.proofs.lemmas.Items.{get_replicate}
use Rattle.rollout_core.specs.Holding.{Holds, AllClean}
use Rattle.rollout_core.specs.Places.{Clean, NodeHolds}

-- all that is left of a clean host is as it reads
pub clean_only : (tells : Type 0) (host : HostView) → IsLawfulHost tells host → tells → Clean host → (s : State) → host.stops.may_leave s → standing s ≡ standing host.state
clean_only tells host lawful told clean s left =
    let here = lawful.reads told in
    let cells : cell_of s.cell ≡ cell_of host.state.cell = clean.empty s left ∙ sym (clean.empty host.state here) in
    elim clean.sound.one [
      | inl (net, all) ↦ let nets : s.net ≡ host.state.net = all s left ∙ sym (all host.state here) in λ k. record { net = nets k; cell = cells k }
      | inr (saved, all) ↦ let is = all host.state here in let e : None ≡ Some (applying is.0 is.1 saved) = sym (clean.empty host.state here) ∙ is.2 in absurd (cc)
    ]

module _ (tells : Type 0) (told : tells) (doc : Doc) (timeout : ℕ) (host : HostView) (lawful : IsLawfulHost tells host) (clean : Clean host) where
  only : (stands : Standing) → left_by host stands → Near (Only (standing host.state)) stands
  only stands left = record {
    station = standing host.state;
    is = refl;
    like = alike_is (standing host.state) stands (sym (clean_only tells host lawful told clean left.0 left.1) ∙ left.2);
  }

  pub begins : NodeHolds doc timeout None false Fresh host host
  begins = record {
    empty = clean.empty host.state (lawful.reads told);
    begun_by = refl;
    sound = clean.sound;
    reads = refl;
    left = only;
    during = λ s left. record {
      station = standing host.state;
      is = inl refl;
      like = alike_is (standing host.state) (standing s) (sym (clean_only tells host lawful told clean s (lawful.stops.only_now s left)));
    };
    fits = λ s left. clean.sound.fit s (lawful.stops.only_now s left);
    later = le_refl host.faults;
    moment = le_refl host.stops.moment;
  }

module _ {H : Type 0} (G : HostGhosts H) (lawful : (h : H) → IsLawfulHost G.tells (G.told h)) (told : G.tells) (doc : Doc) (timeout limit : ℕ) (first : List H) (clean : AllClean G first) where
  node_begins : (i : ℕ) (f h : H) (state : NodeState) → slice_get first i ≡ Some f → slice_get first i ≡ Some h → IsAt (begun (length first) limit) i state → NodeHolds doc timeout None false state (G.told f) (G.told h)
  node_begins i f h state at_first at_host at =
      let e : Some f ≡ Some h = sym at_first ∙ at_host in
      let one : f ≡ h = cc in
      let fresh : state ≡ Fresh = get_replicate (length first) i Fresh state at in
      subst (λ (x : H). NodeHolds doc timeout None false state (G.told f) (G.told x)) one
      (subst (λ (s : NodeState). NodeHolds doc timeout None false s (G.told f) (G.told f)) (sym fresh) (begins G.tells told doc timeout (G.told f) (lawful f) (clean i f at_first)))

  -- at the beginning it holds
  pub holds_first : Holds G doc timeout limit first [] (begun (length first) limit) first
  holds_first = record {
    many = refl;
    rolls = refl;
    nodes = node_begins;
    causes = λ k step event f h at_step told_it at_first at_host. let e : None ≡ Some step = at_step in absurd (cc);
  }
