-- What the options of a bond ask of its ports.
use Rattle.std.proofs.Common.{◌≡◌, ℕ, true, false, not, ◌&&◌, ◌||◌, List, [], ◌∷◌, filter, Option, Some, None, refl, ap}
use Rattle.std.specs.Option.{option_to_list}
use Rattle.net_model.specs.Words.{is_among}
use Rattle.net_model.specs.Options.{bond_ok, primary_ok, takes_primary, is_fast, is_802_3ad, delays_ok}
use Rattle.net_model.specs.declared.BondMode.{BondMode}
use Rattle.net_model.specs.declared.BondOpts.{BondOpts}
use Rattle.net_model.proofs.lemmas.Found.{itself}

-- of the ports a bond's options ask only whether the primary is one
pub bond_ok_primary : (mode : BondMode) (o : BondOpts) (ports : List (List ℕ)) → bond_ok mode o (filter (is_among ports) (option_to_list o.primary)) ≡ bond_ok mode o ports
bond_ok_primary mode o ports = ap (λ b. b && (not (is_fast o.lacp_rate) || is_802_3ad mode) && delays_ok o) (by o.primary)
  where
    by : (p : Option (List ℕ)) → primary_ok mode p (filter (is_among ports) (option_to_list p)) ≡ primary_ok mode p ports
    by None = refl
    by (Some p) = elim (is_among ports p) as (λ v. is_among ports p ≡ v → (is_among (filter (is_among ports) (p ∷ [])) p && takes_primary mode) ≡ (v && takes_primary mode)) [
      | true ↦ λ e. rw (e, itself p) refl
      | false ↦ λ e. rw e refl
    ] refl
