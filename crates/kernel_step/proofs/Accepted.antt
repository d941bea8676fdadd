-- What is known of a call that isn't refused.
use Rattle.std.proofs.Common.{◌≡◌, ℕ, Bool, true, false, ◌&&◌, List, None, refl, sym, ◌∙◌}
use Rattle.reach.proofs.lemmas.Saturate.{any_mono}
use Rattle.net_model.specs.Address.{Block}
use Rattle.net_model.specs.Links.{named_passes, is_named}
use Rattle.net_model.specs.Valid.{same_block, same_address}
use Rattle.net_model.specs.Lists.{NetData}
use Rattle.net_model.proofs.lemmas.Truth.{and_left, and_right, and_both}
use Rattle.kernel_model.specs.Outcome.{first_true}
use Rattle.kernel_model.specs.Addresses.{has_address, has_block, add_address_refusals}
use Rattle.kernel_laws.proofs.lemmas.Accepting.{none_holds}

-- an address that isn't there isn't there with its length
has_both : (block : Block) (addrs : List Block) → has_block block addrs ≡ true → has_address block addrs ≡ true
has_both block addrs h = any_mono (same_block block) (λ b. same_address block.addr b.addr) (λ b e. and_left (same_address block.addr b.addr) (Rattle.std.proofs.Common.nat_eq block.len b.len) e) addrs h

pub new_address : (name : List ℕ) (block : Block) (net : NetData) → first_true (add_address_refusals name block net) ≡ None → named_passes (λ l. has_block block l.addrs) net.links name ≡ false
new_address name block net h = of (named_passes (λ l. has_block block l.addrs) net.links name) refl
  where
    of : (v : Bool) → named_passes (λ l. has_block block l.addrs) net.links name ≡ v → v ≡ false
    of false e = refl
    of true e =
        let there : named_passes (λ l. has_address block l.addrs) net.links name ≡ true =
        any_mono (λ l. is_named name l && has_block block l.addrs) (λ l. is_named name l && has_address block l.addrs)
        (λ l k. and_both (is_named name l) (has_address block l.addrs) (and_left (is_named name l) (has_block block l.addrs) k) (has_both block l.addrs (and_right (is_named name l) (has_block block l.addrs) k))) net.links e in
        let no : true ≡ false = sym there ∙ (none_holds (add_address_refusals name block net) h).1.1.0 in
        absurd cc
