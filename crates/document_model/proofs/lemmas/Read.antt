-- What is known of entries that were read.
use Rattle.std.proofs.Common.{◌≡◌, List, [], ◌∷◌, Bool, true, refl}
use Rattle.std.specs.Prelude.{◌&&◌}
use Rattle.std.specs.List.{list_all}
use Rattle.std.proofs.lemmas.Bool.{and_parts}
use Rattle.base_model.specs.Lists.{is_short}
use Rattle.document_model.specs.Entries.{is_link_entry, has_short_link, is_read_link, are_read_links}
use Rattle.document_model.specs.declared.link_entry.LinkEntry.{LinkEntry}

-- two tests that all pass together are passed by all one by one
pub all_of_both : {X : Type 0} (p q : X → Bool) (xs : List X) → list_all (λ x. p x && q x) xs ≡ true → (list_all p xs ≡ true) × (list_all q xs ≡ true)
all_of_both p q [] h = (refl, refl)
all_of_both p q (x ∷ xs) h =
    let parts = and_parts (p x && q x) (list_all (λ x. p x && q x) xs) h in
    let both = and_parts (p x) (q x) parts.0 in
    let rest = all_of_both p q xs parts.1 in
    (rw (both.0, rest.0) refl, rw (both.1, rest.1) refl)

pub read_links_hold : (es : List LinkEntry) → are_read_links es ≡ true → list_all is_link_entry es ≡ true
read_links_hold es h = (all_of_both is_link_entry has_short_link es (and_parts (is_short es) (list_all is_read_link es) h).1).0

pub read_links_are_short : (es : List LinkEntry) → are_read_links es ≡ true → is_short es && list_all has_short_link es ≡ true
read_links_are_short es h =
    let parts = and_parts (is_short es) (list_all is_read_link es) h in
    rw (parts.0, (all_of_both is_link_entry has_short_link es parts.1).1) refl
