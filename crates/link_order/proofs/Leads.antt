-- The link that another goes with, found by its name.
use Rattle.std.proofs.Common.{◌≡◌, ℕ, Bool, true, false, not, ◌&&◌, ◌||◌, List, get_or, Option, None, refl, sym, ap, ◌∙◌}
use Rattle.std.specs.Option.{option_to_list}
use Rattle.std.proofs.lemmas.Cmp.{nat_list_eq_equiv}
use Rattle.net_model.specs.Name.{same_bytes}
use Rattle.reach.specs.Positions.{positions}
use Rattle.net_model.specs.Links.{is_named, has_peer}
use Rattle.net_model.specs.Dependence.{has_base}
use Rattle.net_model.specs.declared.Link.{Link}
use Rattle.document_model.specs.declared.LinkEntry.{LinkEntry}
use Rattle.merge_model.specs.Stated.{is_mentioned}
use Rattle.merge_model.specs.Members.{goes_with}
use Rattle.link_order.proofs.lemmas.Rows.{positions_same, no_places}

-- an unmentioned link goes with the link of the name that it hangs on
pub led_by : (links : List Link) (es : List LinkEntry) (l : Link) (name : List ℕ) (o : Option ℕ) → is_mentioned es l ≡ false → ((q : List ℕ) → same_bytes name q ≡ (has_base l.kind q || has_peer l.kind q))
    → option_to_list o ≡ positions (is_named name) 0 links → option_to_list o ≡ positions (λ b. goes_with es b l) 0 links
led_by links es l name o away hangs at =
    at
    ∙ positions_same (is_named name) (λ b. goes_with es b l)
    (λ b. nat_list_eq_equiv.symm b.name name ∙ hangs b.name ∙ ap (λ v. not v && (has_base l.kind b.name || has_peer l.kind b.name)) (sym away))
    0 links

-- a mentioned one with none
pub led_mentioned : (links : List Link) (es : List LinkEntry) (l : Link) → is_mentioned es l ≡ true → option_to_list {X = ℕ} None ≡ positions (λ b. goes_with es b l) 0 links
led_mentioned links es l there = sym (no_places (λ b. goes_with es b l) 0 links (λ k d lt. ap (λ v. not v && (has_base l.kind (get_or links k d).name || has_peer l.kind (get_or links k d).name)) there))

-- nor does one that hangs on none
pub led_nowhere : (links : List Link) (es : List LinkEntry) (l : Link) → ((q : List ℕ) → false ≡ (has_base l.kind q || has_peer l.kind q)) → option_to_list {X = ℕ} None ≡ positions (λ b. goes_with es b l) 0 links
led_nowhere links es l hangs = sym (no_places (λ b. goes_with es b l) 0 links (λ k d lt. ap (λ v. not (is_mentioned es l) && v) (sym (hangs (get_or links k d).name)) ∙ and_false (not (is_mentioned es l))))
  where
    and_false : (b : Bool) → (b && false) ≡ false
    and_false true = refl
    and_false false = refl
