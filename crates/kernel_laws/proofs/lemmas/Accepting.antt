-- What is known where no refusal holds.
use Rattle.std.proofs.Common.{◌≡◌, ℕ, Bool, true, false, not, List, [], ◌∷◌, Option, Some, None, refl, sym, ap, ◌∙◌}
use Rattle.std.specs.Prelude.{Ok, is_some}
use Rattle.net_model.specs.Links.{find_link, named_passes}
use Rattle.net_model.specs.Valid.{names_differ}
use Rattle.net_model.specs.NetData.{NetData}
use Rattle.net_model.specs.declared.link.Link.{Link}
use Rattle.net_model.specs.declared.call.Call.{Call}
use Rattle.kernel_model.specs.Outcome.{first_true, unless_refused}
use Rattle.kernel_model.specs.Words.{has_link}
use Rattle.kernel_model.specs.Ports.{pair_passes}
use Rattle.kernel_model.specs.Kernel.{refusals, after, step}
use Rattle.net_model.proofs.lemmas.ByName.{passes_as}

done : (refusal : Option ℕ) (next new : NetData) → unless_refused refusal next ≡ Ok new → (refusal ≡ None) × (new ≡ next)
done None next new h = (refl, cc)
done (Some k) next new h = absurd (cc)

-- an accepted call meets no refusal, and leaves the network that it leads to
pub accepted : (call : Call) (old new : NetData) → step call old ≡ Ok new → (first_true (refusals call old) ≡ None) × (new ≡ after call old)
accepted call old new h = done (first_true (refusals call old)) (after call old) new h

-- the first test fails, and so do the others
pub clear : (k : ℕ) (b : Bool) (tests : List (ℕ × Bool)) → first_true ((k, b) ∷ tests) ≡ None → (b ≡ false) × (first_true tests ≡ None)
clear k false tests h = (refl, h)
clear k true tests h = absurd cc

pub no_more : (k : ℕ) (b : Bool) (tests : List (ℕ × Bool)) → b ≡ false → first_true tests ≡ None → first_true ((k, b) ∷ tests) ≡ None
no_more k b tests h rest = rw h rest

pub not_false_true : (b : Bool) → not b ≡ false → b ≡ true
not_false_true true h = refl
not_false_true false h = cc

pub link_there : (name : List ℕ) (links : List Link) → has_link name links ≡ true → (l : Link) × (find_link name links ≡ Some l)
link_there name links h = of (find_link name links) refl
  where
    of : (o : Option Link) → find_link name links ≡ o → (l : Link) × (find_link name links ≡ Some l)
    of None e = let no : is_some (let o : Option Link = None in o) ≡ true = ap is_some (sym e) ∙ h in absurd cc
    of (Some l) e = (l, e)

pub there_link : (name : List ℕ) (links : List Link) (l : Link) → find_link name links ≡ Some l → has_link name links ≡ true
there_link name links l found = rw found refl

-- a test of a pair is that of the two links found
pub pair_as : (test : Link → Link → Bool) (links : List Link) (controller port : List ℕ) (c p : Link) → names_differ links ≡ true → find_link controller links ≡ Some c → find_link port links ≡ Some p → pair_passes test links controller port ≡ test c p
pair_as test links controller port c p differ fc fp = passes_as (λ k. named_passes (test k) links port) links controller c differ fc ∙ passes_as (test c) links port p differ fp

-- none of the tests holds
abbrev pub NoneHolds : List (ℕ × Bool) → Type 0
NoneHolds [] = Unit {0}
NoneHolds ((k, b) ∷ tests) = (b ≡ false) × NoneHolds tests

pub none_holds : (tests : List (ℕ × Bool)) → first_true tests ≡ None → NoneHolds tests
none_holds [] h = tt
none_holds ((k, b) ∷ tests) h = let first = clear k b tests h in (first.0, none_holds tests first.1)

pub none_true : (tests : List (ℕ × Bool)) → NoneHolds tests → first_true tests ≡ None
none_true [] h = refl
none_true ((k, b) ∷ tests) h = no_more k b tests h.0 (none_true tests h.1)
