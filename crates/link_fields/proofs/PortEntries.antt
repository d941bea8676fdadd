-- What a bridge's entry states of a port, by the port's place.
use Rattle.std.proofs.Common.{◌≡◌, ℕ, Bool, true, false, cond, List, [], map, length, slice_get, Option, Some, None, nat_lt, refl, sym, ap, ◌∙◌}
use Rattle.std.specs.List.{find, position, position_or_len}
use Rattle.std.specs.Option.{option_map, option_and_then, unwrap_or}
use Rattle.std.proofs.lemmas.List.Folds.{find_at}
use Rattle.net_model.specs.Name.{same_bytes}
use Rattle.net_model.specs.declared.Kind.{Kind}
use Rattle.net_model.specs.declared.Kind.TheVariants.{Bridge}
use Rattle.net_model.specs.Links.{is_bridge}
use Rattle.document_model.specs.declared.LinkEntry.{LinkEntry}
use Rattle.document_model.specs.declared.PortEntry.{PortEntry}
use Rattle.merge_model.specs.Controllers.{ports_by}
use Rattle.merge_model.specs.LinkOptions.{port_entry}
use Rattle.link_order.proofs.lemmas.Placed.{unplaced, same_place}

-- what stands at the place of a name is found by the name
pub at_name_place : {X Y : Type 0} (f : X → Y) (q : Y → Bool) (xs : List X) → option_and_then (slice_get xs) (position q (map f xs)) ≡ find (λ x. q (f x)) xs
at_name_place f q xs = by (nat_lt (position_or_len q (map f xs)) (length (map f xs))) refl
  where
    by : (v : Bool) → nat_lt (position_or_len q (map f xs)) (length (map f xs)) ≡ v → option_and_then (slice_get xs) (cond v (Some (position_or_len q (map f xs))) None) ≡ find (λ x. q (f x)) xs
    by true e = ap (slice_get xs) (same_place f q xs) ∙ sym (find_at (λ x. q (f x)) xs)
    by false e = sym (unplaced f q xs (ap (λ v. cond v (Some (position_or_len q (map f xs))) None) e))

stated_entry : (name : List ℕ) (ports : Option (List PortEntry)) → option_and_then (slice_get (unwrap_or ports [])) (position (λ n. same_bytes n name) (unwrap_or (option_map (map (λ (p : PortEntry). p.name)) ports) [])) ≡ find (λ (p : PortEntry). same_bytes p.name name) (unwrap_or ports [])
stated_entry name None = at_name_place (λ (p : PortEntry). p.name) (λ n. same_bytes n name) []
stated_entry name (Some ports) = at_name_place (λ (p : PortEntry). p.name) (λ n. same_bytes n name) ports

-- what a bridge's entry states of a port stands at the port's place
pub entry_at_place : (name : List ℕ) (kind : Kind) (o : Option LinkEntry) (place : Option ℕ) → is_bridge kind ≡ true → place ≡ position (λ n. same_bytes n name) (unwrap_or (option_and_then (ports_by kind) o) [])
    → option_and_then (λ (e : LinkEntry). option_and_then (slice_get (unwrap_or e.bridge.ports [])) place) o ≡ option_and_then (port_entry name) o
entry_at_place name Bridge None place b is = refl
entry_at_place name Bridge (Some e) place b is = ap (option_and_then (slice_get (unwrap_or e.bridge.ports []))) is ∙ stated_entry name e.bridge.ports
entry_at_place name _ o place b is = absurd cc
