-- What two more draws give.
use Rattle.std.proofs.Common.{◌≡◌, ◌∙◌, ◌+◌, ◌-◌, ◌*◌, ◌%◌, ℕ, suc, List, [], ◌∷◌, ◌++◌, refl, sym, ap, arith}
use Rattle.std.proofs.lemmas.List.FromFn.{map-range_with_len_more}
use Rattle.scenario_model.specs.declared.Device.{Device}
use Rattle.scenario_model.specs.declared.device.TheConstants.{VLAN_IDS, METRICS}
use Rattle.scenario_model.specs.Draws.{next_draw, draw, device, devices}

-- the first of them
pub odd_draw : (seed i : ℕ) → draw seed (2 * (i + 1) - 1) ≡ next_draw (draw seed (2 * i))
odd_draw seed i = let e : 2 * (i + 1) - 1 ≡ suc (2 * i) = omega arith in ap (draw seed) e

-- the second
pub even_draw : (seed i : ℕ) → draw seed (2 * (i + 1)) ≡ next_draw (next_draw (draw seed (2 * i)))
even_draw seed i = let e : 2 * (i + 1) ≡ suc (suc (2 * i)) = omega arith in ap (draw seed) e

-- the device of these draws
pub device_drawn : (seed i drawn last : ℕ) → drawn ≡ next_draw (draw seed (2 * i)) → last ≡ next_draw drawn
    → device seed (i + 1) ≡ record { number = i + 1; id = drawn % VLAN_IDS; metric = last % METRICS }
device_drawn seed i drawn last d l = λ j. record {
  number = i + 1;
  id = (odd_draw seed i ∙ sym d) j % VLAN_IDS;
  metric = (even_draw seed i ∙ ap next_draw (sym d) ∙ sym l) j % METRICS;
}

-- one more device
pub devices_more : (seed i : ℕ) → devices seed (i + 1) ≡ devices seed i ++ device seed (i + 1) ∷ []
devices_more seed i = map-range_with_len_more (device seed) 1 i (i + 1) (omega arith)

-- the devices so far, and one more
pub pushed : (seed i drawn last : ℕ) (made new : List Device) → made ≡ devices seed i → drawn ≡ next_draw (draw seed (2 * i)) → last ≡ next_draw drawn
    → new ≡ made ++ record { number = i + 1; id = drawn % VLAN_IDS; metric = last % METRICS } ∷ [] → new ≡ devices seed (i + 1)
pushed seed i drawn last made new so_far d l is =
    is ∙ ap (λ (ds : List Device). ds ++ record { number = i + 1; id = drawn % VLAN_IDS; metric = last % METRICS } ∷ []) so_far
    ∙ ap (λ (next : Device). devices seed i ++ next ∷ []) (sym (device_drawn seed i drawn last d l)) ∙ sym (devices_more seed i)
