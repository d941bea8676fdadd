-- A hardware list has at most as many links as a network.
use Rattle.std.proofs.Common.{◌≡◌, ℕ, suc, ◌+◌, ◌≤◌, Bool, true, false, List, [], ◌∷◌, ◌++◌, length, refl, subst, arith}
use Rattle.std.specs.Prelude.{nat_lt, if◌then◌else◌, codes, Result, Ok, Err}
use Rattle.std.proofs.lemmas.Bool.Decides.{nat_tests}
use Rattle.std.proofs.lemmas.List.{length-append}
use Rattle.net_model.specs.declared.limits.TheConstants.{MAX_LINKS}
use Rattle.net_model.specs.declared.Link.{Link}
use Rattle.base_model.specs.Lists.{is_short}
use Rattle.base_model.specs.declared.PathStep.{PathStep}
use Rattle.base_model.specs.declared.PathStep.TheVariants.{Key, At}
use Rattle.doc_tree.specs.Shape.{Shape, nothing, truth, whole, text, list, mapping, Shapes, no_shapes, more, item_count}
use Rattle.tree_schema.specs.declared.Reason.{Reason}
use Rattle.tree_schema.specs.declared.Reason.TheVariants.{OutOfRange, Missing}
use Rattle.tree_schema.specs.Reading.{Steps, Reading, refuse, below, after, and_then}
use Rattle.tree_schema.specs.Reached.{Reached, from}
use Rattle.tree_schema.specs.Tables.{read_map, value_under, top_of}
use Rattle.tree_schema.specs.Values.{is_null}
use Rattle.link_schema.specs.Hardware.{device, devices, hardware_list, hardware_top, list_there, hardware}

-- what a reading gives has this many items, or at most this many
abbrev HasLength : ℕ → Reading (List Link) → Type 0
HasLength n (Ok (ls, notes)) = length ls ≡ n
HasLength n (Err refusal) = Unit {0}

abbrev HasAtMost : ℕ → Reading (List Link) → Type 0
HasAtMost n (Ok (ls, notes)) = length ls ≤ n
HasAtMost n (Err refusal) = Unit {0}

length_after : (n : ℕ) (notes : List Steps) (r : Reading (List Link)) → HasLength n r → HasLength n (after notes r)
length_after n notes (Ok (ls, further)) h = h
length_after n notes (Err refusal) h = tt

length_then : (n : ℕ) (r : Reading Link) (next : Link → Reading (List Link)) → ((l : Link) → HasLength n (next l)) → HasLength n (and_then r next)
length_then n (Ok (l, notes)) next h = length_after n notes (next l) (h l)
length_then n (Err refusal) next h = tt

one_more : (links : List Link) (l : Link) (n m : ℕ) → n ≡ length links + suc m → n ≡ length (links ++ l ∷ []) + m
one_more links l n m is = let e : length (links ++ l ∷ []) ≡ length links + 1 = length-append links (l ∷ []) in omega arith

devices_length : (links : List Link) (i : ℕ) (ss : Shapes) (n : ℕ) → n ≡ length links + item_count ss → HasLength n (devices links i ss)
devices_length links i no_shapes n is = let all : n ≡ length links + 0 = is in let e : length links ≡ n = omega arith in e
devices_length links i (more s ss) n is =
    length_then n (below (At i) (device links s)) (λ l. devices (links ++ l ∷ []) (suc i) ss)
    (λ l. devices_length (links ++ l ∷ []) (suc i) ss n (one_more links l n (item_count ss) is))

at_most : (n m : ℕ) (r : Reading (List Link)) → HasLength n r → n ≤ m → HasAtMost m r
at_most n m (Ok (ls, notes)) h le = omega arith
at_most n m (Err refusal) h le = tt

unless_long : (n : ℕ) (b : Bool) → nat_lt MAX_LINKS n ≡ b → (r : Reading (List Link)) → HasLength n r → HasAtMost MAX_LINKS (if b then refuse OutOfRange else r)
unless_long n true is r h = tt
unless_long n false is r h = at_most n MAX_LINKS r h (grind (arith, nat_tests))

list_few : (s : Shape) → HasAtMost MAX_LINKS (hardware_list s)
list_few nothing = tt
list_few (truth b) = tt
list_few (whole z) = tt
list_few (text t) = tt
list_few (list ss) = unless_long (item_count ss) (nat_lt MAX_LINKS (item_count ss)) refl (devices [] 0 ss) (devices_length [] 0 ss (item_count ss) (omega arith))
list_few (mapping ps) = tt

there_few : (s : Shape) (b : Bool) → HasAtMost MAX_LINKS (if b then refuse Missing else hardware_list s)
there_few s true = tt
there_few s false = list_few s

few_below : (n : ℕ) (step : PathStep) (r : Reading (List Link)) → HasAtMost n r → HasAtMost n (below step r)
few_below n step (Ok (ls, notes)) h = h
few_below n step (Err (reason, place)) h = tt

few_after : (n : ℕ) (notes : List Steps) (r : Reading (List Link)) → HasAtMost n r → HasAtMost n (after notes r)
few_after n notes (Ok (ls, further)) h = h
few_after n notes (Err refusal) h = tt

few_then : {X : Type 0} (n : ℕ) (r : Reading X) (next : X → Reading (List Link)) → ((x : X) → HasAtMost n (next x)) → HasAtMost n (and_then r next)
few_then n (Ok (x, notes)) next h = few_after n notes (next x) (h x)
few_then n (Err refusal) next h = tt

hardware_few : (s : Shape) → HasAtMost MAX_LINKS (hardware s)
hardware_few s =
    let inside = value_under "hardware" s in
    few_then MAX_LINKS (read_map hardware_top tt (top_of s)) (λ looked. below (Key (codes "hardware")) (list_there inside))
    (λ looked. few_below MAX_LINKS (Key (codes "hardware")) (list_there inside) (there_few inside (is_null inside)))

abbrev ReachesFew : ℕ → Result (List Link × Reached) (Reason × Steps) → Type 0
ReachesFew n (Ok (ls, r)) = length ls ≤ n
ReachesFew n (Err refusal) = Unit {0}

few_reached : (n : ℕ) (r : Reached) (reading : Reading (List Link)) → HasAtMost n reading → ReachesFew n (from r reading)
few_reached n r (Ok (ls, notes)) h = h
few_reached n r (Err (reason, place)) h = tt

-- the links that were read are at most as many as a network has
pub few_read : (r new : Reached) (s : Shape) (ls : List Link) → from r (hardware s) ≡ Ok (ls, new) → length ls ≤ MAX_LINKS
few_read r new s ls is = subst (ReachesFew MAX_LINKS) is (few_reached MAX_LINKS r (hardware s) (hardware_few s))

-- which is a short list
pub few_short : (ls : List Link) → length ls ≤ MAX_LINKS → is_short ls ≡ true
few_short ls few = grind (arith, nat_tests)
