-- The phases of a plan, whichever: what is reached stays so, one name after the other.
use Rattle.std.proofs.Common.{◌≡◌, ℕ, ◌+◌, ◌<◌, ◌≤◌, Bool, true, false, nat_le, suc, List, [], ◌∷◌, length, take, get_or, IfSome, Option, Some, None, refl, sym, ap, subst, ◌∙◌, arith, lit<}
use Rattle.net_model.specs.NetData.{NetData}
use Rattle.net_model.specs.declared.link.Link.{Link}
use Rattle.net_model.specs.declared.call.Call.{Call}
use Rattle.net_model.proofs.lemmas.Parts.{le_of, not_le, length_filter}
use Rattle.link_planner.specs.declared.phase.Phase.{Phase}
use Rattle.link_planner.specs.declared.phase.Phase.TheVariants.{DetachPorts, TakeLinksDown, DeleteLinks, CreateLinks, RaiseMtus, LowerMtus, SetMacs, SetBonds, SetBridges, AttachPorts, SetPorts, SetPrimaries, TakeLinksUp}
use Rattle.link_planner.specs.Depths.{IsBaseFirst, NamesAll}
use Rattle.link_planner.specs.Drafts.{DraftData, Advances, IsSafe, with_call, with_some}
use Rattle.link_planner.specs.Kept.{EachOf}
use Rattle.link_planner.specs.Shrinking.{IsShrunk, IsFree, HasStayed}
use Rattle.link_planner.specs.Growing.{IsAsNear, IsNearer, IsMade, IsWhole, Reaches, EnoughMtu, SameMtu, SameMac, AlmostSameBond, SameBond, SameBridge, SameController, SamePort, SameUp}
use Rattle.link_planner.specs.Phases.{rank, builds, Done, AllDone, MayBuildUp, Stands, Sheds, Grows, Moves, counts, most, IsDue, Serves, IsServed, gone_over, IsOrder, IsAlong, HasRun}
use Rattle.link_planner.proofs.Counting.{one_counts, count_more, count_all}
use Rattle.link_planner.proofs.Done.{one_more_done, all_done, done_base}
use Rattle.link_planner.proofs.lemmas.Advancing.{advances_itself, advances_more, of_ends, one_call}
use Rattle.link_planner.proofs.Nearer.{nearer_itself, nearer_more, made_still, reached_still}
use Rattle.link_planner.proofs.Shrunk.{shrunk_itself, shrunk_more, rules_more, free_still, stayed_still}

-- ---- ranks

abbrev phases : List Phase
phases = DetachPorts ∷ TakeLinksDown ∷ DeleteLinks ∷ CreateLinks ∷ RaiseMtus ∷ LowerMtus ∷ SetMacs ∷ SetBonds ∷ SetBridges ∷ AttachPorts ∷ SetPorts ∷ SetPrimaries ∷ TakeLinksUp ∷ []

at_rank : (p : Phase) → get_or phases (rank p) DetachPorts ≡ p
at_rank DetachPorts = refl
at_rank TakeLinksDown = refl
at_rank DeleteLinks = refl
at_rank CreateLinks = refl
at_rank RaiseMtus = refl
at_rank LowerMtus = refl
at_rank SetMacs = refl
at_rank SetBonds = refl
at_rank SetBridges = refl
at_rank AttachPorts = refl
at_rank SetPorts = refl
at_rank SetPrimaries = refl
at_rank TakeLinksUp = refl

same_rank : (p q : Phase) → rank p ≡ rank q → p ≡ q
same_rank p q e = sym (at_rank p) ∙ ap (λ k. get_or phases k DetachPorts) e ∙ at_rank q

-- what is done before the next rank is done before this one, or by the phase of this one
all_and_own : (p : Phase) (d : DraftData) → AllDone (builds p) (rank p) d → ((n : List ℕ) → Done p d n) → AllDone (builds p) (rank p + 1) d
all_and_own p d before own q half lt n = elim (nat_le (suc (rank q)) (rank p)) as (λ v. nat_le (suc (rank q)) (rank p) ≡ v → Done q d n) [
  | true ↦ λ e. before q half (let le = le_of (suc (rank q)) (rank p) e in omega (arith, le)) n
  | false ↦ λ e.
      let same : rank p ≡ rank q = (let more = not_le (suc (rank q)) (rank p) e in omega (arith, more, lt)) in
      subst (λ x. Done x d n) (same_rank p q same) (own n)
] refl

-- ---- what was reached stays so

shed_still : (k m : ℕ) (q : Phase) (old new : DraftData) → Advances m old new → Sheds k old new → builds q ≡ false → rank q < k + 1 → (n : List ℕ) → Done q old n → Done q new n
shed_still k m DetachPorts old new advances sheds half lt n done = of_ends (λ s t. IsFree s t new.net n) m old new advances (free_still old.start old.target old.net new.net sheds.shrunk n done)
shed_still k m TakeLinksDown old new advances sheds half lt n done = sheds.low (omega (arith, lt)) n done
shed_still k m DeleteLinks old new advances sheds half lt n done = of_ends (λ s t. HasStayed s t new.net n) m old new advances (stayed_still old.start old.target old.net new.net sheds.shrunk n done)
shed_still k m CreateLinks old new advances sheds half lt n done = absurd cc
shed_still k m RaiseMtus old new advances sheds half lt n done = absurd cc
shed_still k m LowerMtus old new advances sheds half lt n done = absurd cc
shed_still k m SetMacs old new advances sheds half lt n done = absurd cc
shed_still k m SetBonds old new advances sheds half lt n done = absurd cc
shed_still k m SetBridges old new advances sheds half lt n done = absurd cc
shed_still k m AttachPorts old new advances sheds half lt n done = absurd cc
shed_still k m SetPorts old new advances sheds half lt n done = absurd cc
shed_still k m SetPrimaries old new advances sheds half lt n done = absurd cc
shed_still k m TakeLinksUp old new advances sheds half lt n done = absurd cc

module _ (old new : DraftData) (m : ℕ) (advances : Advances m old new) (grows : Grows old new) where
  reached : (R : Link → Link → Type 0) → ((t k l : Link) → IsAsNear t k l → R k t → R l t) → IsWhole old.target old.net → (n : List ℕ) → Reaches R old.target old.net n → Reaches R new.target new.net n
  reached R keeps whole n done =
      reached_still R keeps new.target old.net new.net (subst (λ t. IsWhole t old.net) (sym advances.target) whole) grows.nearer n (subst (λ t. Reaches R t old.net n) (sym advances.target) done)

  made : (n : List ℕ) → IsMade old.target old.net n → IsMade new.target new.net n
  made n done = made_still new.target old.net new.net grows.nearer n (subst (λ t. IsMade t old.net n) (sym advances.target) done)

  grow_still : (q : Phase) → builds q ≡ true → (3 < rank q → IsWhole old.target old.net) → (n : List ℕ) → Done q old n → Done q new n
  grow_still DetachPorts half whole n done = absurd cc
  grow_still TakeLinksDown half whole n done = absurd cc
  grow_still DeleteLinks half whole n done = absurd cc
  grow_still CreateLinks half whole n done = made n done
  grow_still RaiseMtus half whole n done = reached EnoughMtu (λ t k l near h. near.enough_mtu h) (whole (lit< tt)) n done
  grow_still LowerMtus half whole n done = reached SameMtu (λ t k l near h. near.mtu h) (whole (lit< tt)) n done
  grow_still SetMacs half whole n done = reached SameMac (λ t k l near h. near.mac h) (whole (lit< tt)) n done
  grow_still SetBonds half whole n done = reached AlmostSameBond (λ t k l near h. near.near_bond h) (whole (lit< tt)) n done
  grow_still SetBridges half whole n done = reached SameBridge (λ t k l near h. near.bridge h) (whole (lit< tt)) n done
  grow_still AttachPorts half whole n done = reached SameController (λ t k l near h. near.controller h) (whole (lit< tt)) n done
  grow_still SetPorts half whole n done = reached SamePort (λ t k l near h. near.port h) (whole (lit< tt)) n done
  grow_still SetPrimaries half whole n done = reached SameBond (λ t k l near h. near.bond h) (whole (lit< tt)) n done
  grow_still TakeLinksUp half whole n done = reached SameUp (λ t k l near h. near.up h) (whole (lit< tt)) n done

-- where all links of target are there
pub whole_at : (k : ℕ) (d : DraftData) → 3 < k → MayBuildUp k d → IsWhole d.target d.net
whole_at k d lt stands n = stands.done CreateLinks refl lt n

-- whichever the half
still : (half : Bool) (k m : ℕ) (q : Phase) (old new : DraftData) → Advances m old new → Moves half k old new → Stands half k old → builds q ≡ half → rank q < k + 1 → (n : List ℕ) → Done q old n → Done q new n
still false k m q old new advances moves stands own lt n done = shed_still k m q old new advances moves own lt n done
still true k m q old new advances moves stands own lt n done = grow_still old new m advances moves q own (λ more. whole_at k old (omega (arith, more, lt)) stands) n done

stands_still : (half : Bool) (k m : ℕ) (old new : DraftData) → Advances m old new → Moves half k old new → Stands half k old → Stands half k new
stands_still false k m old new advances moves stands = record {
  shrunk = subst (λ s. IsShrunk s new.net) (sym advances.start) (shrunk_more old.start old.net new.net stands.shrunk moves.shrunk);
  ports = moves.ports;
  done = λ q own lt n. still false k m q old new advances moves stands own (omega (arith, lt)) n (stands.done q own lt n);
}
stands_still true k m old new advances moves stands = record {
  toward = moves.toward;
  done = λ q own lt n. still true k m q old new advances moves stands own (omega (arith, lt)) n (stands.done q own lt n);
}

moves_itself : (half : Bool) (k : ℕ) (d : DraftData) → Stands half k d → Moves half k d d
moves_itself false k d stands = record { shrunk = shrunk_itself d.net; rest = record { rules = refl; dns = refl }; ports = stands.ports; low = λ _ n h. h }
moves_itself true k d stands = record { toward = stands.toward; nearer = nearer_itself d.target d.net }

moves_more : (half : Bool) (k m : ℕ) (a b c : DraftData) → Advances m b c → Moves half k a b → Moves half k b c → Moves half k a c
moves_more false k m a b c advances first second = record {
  shrunk = shrunk_more a.net b.net c.net first.shrunk second.shrunk;
  rest = rules_more a.net b.net c.net first.rest second.rest;
  ports = second.ports;
  low = λ lt n h. second.low lt n (first.low lt n h);
}
moves_more true k m a b c advances first second = record {
  toward = second.toward;
  nearer = nearer_more c.target a.net b.net c.net (subst (λ t. IsNearer t a.net b.net) (sym advances.target) first.nearer) second.nearer;
}

-- ---- one name after the other

-- what a phase makes of a name
pub serves_safe : (p : Phase) (d : DraftData) (n : List ℕ) (call : Option Call) → Serves p d n call → IfSome call (λ c. IsSafe d.start d.target c d.net)
serves_safe p d n None done = tt
serves_safe p d n (Some call) next = next.safe

pub served : (p : Phase) (d : DraftData) (n : List ℕ) (call : Option Call) → IsDue p d n → Serves p d n call → IsServed p n d (with_some call d)
served p d n None due done = record {
  advances = record { start = refl; target = refl; count = omega arith };
  moves = moves_itself (builds p) (rank p) d due.stands;
  done = done;
}
served p d n (Some call) due next = record {
  advances = subst (λ k. Advances k d (with_call call d)) (sym (one_counts (counts p d.target) n next.counted)) (one_call d call);
  moves = next.moves;
  done = next.done;
}

-- what every name has that the phase may meet
named_done : (p : Phase) (d : DraftData) (names : List (List ℕ)) → Stands (builds p) (rank p) d → NamesAll (gone_over (builds p) d).links names → EachOf names (Done p d) → (n : List ℕ) → Done p d n
named_done DetachPorts d names stands all done n = λ l t c kept found. let k = stands.shrunk.links n l found in done n (all n k.0 k.1) l t c kept found
named_done TakeLinksDown d names stands all done n = λ l t kept found. let k = stands.shrunk.links n l found in done n (all n k.0 k.1) l t kept found
named_done DeleteLinks d names stands all done n = λ l found. let k = stands.shrunk.links n l found in done n (all n k.0 k.1) l found
named_done CreateLinks d names stands all done n = λ t at. done n (all n t at) t at
named_done RaiseMtus d names stands all done n = λ l t found at. done n (all n t at) l t found at
named_done LowerMtus d names stands all done n = λ l t found at. done n (all n t at) l t found at
named_done SetMacs d names stands all done n = λ l t found at. done n (all n t at) l t found at
named_done SetBonds d names stands all done n = λ l t found at. done n (all n t at) l t found at
named_done SetBridges d names stands all done n = λ l t found at. done n (all n t at) l t found at
named_done AttachPorts d names stands all done n = λ l t found at. done n (all n t at) l t found at
named_done SetPorts d names stands all done n = λ l t found at. done n (all n t at) l t found at
named_done SetPrimaries d names stands all done n = λ l t found at. done n (all n t at) l t found at
named_done TakeLinksUp d names stands all done n = λ l t found at. done n (all n t at) l t found at

gone_over_same : (half : Bool) (m : ℕ) (a b : DraftData) → Advances m a b → gone_over half a ≡ gone_over half b
gone_over_same false m a b advances = sym advances.start
gone_over_same true m a b advances = sym advances.target

-- an order of names suits a phase still
pub order_still : (p : Phase) (m : ℕ) (a b : DraftData) (names : List (List ℕ)) → Advances m a b → IsOrder p a names → IsOrder p b names
order_still p m a b names advances order = record {
  all = subst (λ (net : NetData). NamesAll net.links names) (gone_over_same (builds p) m a b advances) order.all;
  upward = λ up. subst (λ (net : NetData). IsBaseFirst net.links names) (sym advances.target) (order.upward up);
}

module _ (p : Phase) (names : List (List ℕ)) (first : DraftData) (stands : Stands (builds p) (rank p) first) (order : IsOrder p first names) where
  pub along_none : IsAlong p names 0 first first
  along_none = record { advances = advances_itself first; moves = moves_itself (builds p) (rank p) first stands; done = λ n among. absurd cc }

  now : (i : ℕ) (d : DraftData) → IsAlong p names i first d → Stands (builds p) (rank p) d
  now i d along = stands_still (builds p) (rank p) (most p first.target (take i names)) first d along.advances along.moves stands

  pub along_due : (i : ℕ) (d : DraftData) (name : List ℕ) → i < length names → name ≡ get_or names i name → IsAlong p names i first d → IsDue p d name
  along_due i d name within is along = record {
    stands = now i d along;
    base = λ up. done_base (Done p d) d.target names i name ((order_still p (most p first.target (take i names)) first d names along.advances order).upward up) within is along.done;
  }

  pub along_more : (i : ℕ) (d next : DraftData) (name : List ℕ) → i < length names → name ≡ get_or names i name → IsAlong p names i first d → IsServed p name d next → IsAlong p names (i + 1) first next
  along_more i d next name within is along served =
      let one : Advances (most p first.target (name ∷ [])) d next = subst (λ t. Advances (most p t (name ∷ [])) d next) along.advances.target served.advances in
      record {
        advances = subst (λ k. Advances k first next) (sym (count_more (counts p first.target) names i name within is)) (advances_more (most p first.target (take i names)) (most p first.target (name ∷ [])) first d next along.advances one);
        moves = moves_more (builds p) (rank p) (most p first.target (name ∷ [])) first d next one along.moves served.moves;
        done = one_more_done (Done p d) (Done p next) names i name within is (still (builds p) (rank p) (most p first.target (name ∷ [])) p d next one served.moves (now i d along) refl (omega arith)) served.done along.done;
      }

  pub along_all : (i : ℕ) (d : DraftData) → length names ≤ i → IsAlong p names i first d → HasRun p names first d
  along_all i d end along =
      let s : Stands (builds p) (rank p) d = now i d along in
      let every : (n : List ℕ) → Done p d n = named_done p d names s (order_still p (most p first.target (take i names)) first d names along.advances order).all (all_done (Done p d) names i end along.done) in
      record {
        advances = subst (λ k. Advances k first d) (count_all (counts p first.target) names i end) along.advances;
        moves = along.moves;
        stands = more (builds p) (rank p) (most p first.target (take i names)) along.moves s (all_and_own p d (before (builds p) (rank p) s) every);
      }
    where
      before : (half : Bool) (k : ℕ) → Stands half k d → AllDone half k d
      before false k s = s.done
      before true k s = s.done

      more : (half : Bool) (k m : ℕ) → Moves half k first d → Stands half k d → AllDone half (k + 1) d → Stands half (k + 1) d
      more false k m moves s done = record { shrunk = s.shrunk; ports = λ lt. s.ports (omega (arith, lt)); done = done }
      more true k m moves s done = record { toward = s.toward; done = done }

-- a phase makes at most a call for each name
pub few : (p : Phase) (target : NetData) (names : List (List ℕ)) → most p target names ≤ length names
few p target names = length_filter (counts p target) names
