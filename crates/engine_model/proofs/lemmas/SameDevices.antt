-- Networks of the same devices differ on none.
use Rattle.std.proofs.Common.{◌≡◌, ◌∙◌, ℕ, Bool, true, false, List, [], ◌∷◌, ◌++◌, refl, ap, subst}
use Rattle.std.specs.Prelude.{not, ◌||◌, ◌&&◌, map, filter, cond}
use Rattle.std.specs.List.{list_any}
use Rattle.std.proofs.lemmas.List.{append_assoc}
use Rattle.net_model.specs.NetData.{NetData}
use Rattle.net_model.specs.Hardware.{hardware, same_device}
use Rattle.net_model.specs.Name.{same_bytes}
use Rattle.net_model.specs.Words.{sorted}
use Rattle.net_model.specs.Order.{name_cmp}
use Rattle.net_model.specs.declared.Mac.{Mac}
use Rattle.net_model.proofs.lemmas.Found.{itself}
use Rattle.engine_model.specs.Differing.{lacking, either, differing}

abbrev Device : Type 0
Device = List ℕ × Mac

device_itself : (x : Device) → same_device x x ≡ true
device_itself x = ap (λ (b : Bool). b && same_bytes x.1.bytes x.1.bytes) (itself x.0) ∙ itself x.1.bytes

or_true : (b : Bool) → (b || true) ≡ true
or_true true = refl
or_true false = refl

there : (x : Device) (front rest : List Device) → list_any (same_device x) (front ++ x ∷ rest) ≡ true
there x [] rest = ap (λ (b : Bool). b || list_any (same_device x) rest) (device_itself x)
there x (f ∷ front) rest = ap (λ (b : Bool). same_device x f || b) (there x front rest) ∙ or_true (same_device x f)

abbrev lacks : List Device → Device → Bool
lacks all x = not (list_any (same_device x) all)

none_left : (front few : List Device) → filter (lacks (front ++ few)) few ≡ []
none_left front [] = refl
none_left front (x ∷ few) =
    ap (λ (b : Bool). cond (not b) (x ∷ filter (lacks (front ++ x ∷ few)) few) (filter (lacks (front ++ x ∷ few)) few)) (there x front few)
    ∙ subst (λ (all : List Device). filter (lacks all) few ≡ []) (append_assoc front (x ∷ []) few) (none_left (front ++ x ∷ []) few)

lacking_none : (h : List Device) → lacking h h ≡ []
lacking_none h = ap (λ (l : List Device). map (λ (x : Device). x.0) l) (none_left [] h)

both_none : (h : List Device) → sorted name_cmp (either (lacking h h) (lacking h h)) ≡ []
both_none h = ap (λ (l : List (List ℕ)). sorted name_cmp (either l l)) (lacking_none h)

-- networks of the same devices differ on none
pub differing_none : (a b : NetData) → hardware a.links ≡ hardware b.links → differing a b ≡ []
differing_none a b same = subst (λ (h : List Device). sorted name_cmp (either (lacking (hardware a.links) h) (lacking h (hardware a.links))) ≡ []) same (both_none (hardware a.links))
