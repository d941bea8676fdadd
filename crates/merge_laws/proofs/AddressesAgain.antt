-- Addresses that are merged again are the same.
use Rattle.std.proofs.Common.{◌≡◌, ◌++◌, Bool, true, false, not, cond, List, [], ◌∷◌, filter, Option, Some, None, refl, sym, ap, subst, ◌∙◌, IsPermutation}
use Rattle.std.proofs.lemmas.List.{append-nil}
use Rattle.std.proofs.lemmas.List.Elements.{filter-append}
use Rattle.std.proofs.lemmas.List.Sorted.{IsPermutation-refl, IsPermutation-append}
use Rattle.net_model.specs.Address.{Block}
use Rattle.net_model.specs.Words.{bool_eq, sorted}
use Rattle.net_model.specs.Order.{block_cmp}
use Rattle.net_model.specs.OrderLaws.{block_cmp_total}
use Rattle.net_model.proofs.lemmas.Exact.{exact_blocks}
use Rattle.net_model.proofs.lemmas.Truth.{and_left, and_right}
use Rattle.document_model.specs.declared.IpEntry.{IpEntry}
use Rattle.merge_model.specs.Stated.{is_off}
use Rattle.merge_model.specs.Addresses.{addrs_over}
use Rattle.merge_laws.proofs.SortedLists.{filter_sorted, sorted_moved}
use Rattle.merge_laws.proofs.AddressLaws.{all_of}

all_kept : (v6 : Bool) (xs : List Block) → all_of v6 xs ≡ true → filter (λ a. bool_eq a.addr.v6 v6) xs ≡ xs
all_kept v6 [] h = refl
all_kept v6 (b ∷ bs) h = ap (λ c. cond c (b ∷ filter (λ a. bool_eq a.addr.v6 v6) bs) (filter (λ a. bool_eq a.addr.v6 v6) bs)) (and_left (bool_eq b.addr.v6 v6) (all_of v6 bs) h) ∙ ap (λ xs. b ∷ xs) (all_kept v6 bs (and_right (bool_eq b.addr.v6 v6) (all_of v6 bs) h))

other_family : (a v : Bool) → bool_eq a v ≡ true → bool_eq a (not v) ≡ false
other_family true true h = refl
other_family true false h = absurd cc
other_family false true h = absurd cc
other_family false false h = refl

none_kept : (v6 : Bool) (xs : List Block) → all_of v6 xs ≡ true → filter (λ a. bool_eq a.addr.v6 (not v6)) xs ≡ []
none_kept v6 [] h = refl
none_kept v6 (b ∷ bs) h = ap (λ c. cond c (b ∷ filter (λ a. bool_eq a.addr.v6 (not v6)) bs) (filter (λ a. bool_eq a.addr.v6 (not v6)) bs)) (other_family b.addr.v6 v6 (and_left (bool_eq b.addr.v6 v6) (all_of v6 bs) h)) ∙ none_kept v6 bs (and_right (bool_eq b.addr.v6 v6) (all_of v6 bs) h)

-- of the merged addresses those of one family are what was merged of it, in order
pub left_v4 : (four six : List Block) → all_of false four ≡ true → all_of true six ≡ true → filter (λ a. bool_eq a.addr.v6 false) (sorted block_cmp (four ++ six)) ≡ sorted block_cmp four
left_v4 four six h k =
    filter_sorted block_cmp block_cmp_total (λ a. bool_eq a.addr.v6 false) (four ++ six)
    ∙ ap (sorted block_cmp) (filter-append (λ a. bool_eq a.addr.v6 false) four six
    ∙ ap (λ xs. xs ++ filter (λ a. bool_eq a.addr.v6 false) six) (all_kept false four h)
    ∙ ap (λ xs. four ++ xs) (none_kept true six k)
    ∙ append-nil four)

pub left_v6 : (four six : List Block) → all_of false four ≡ true → all_of true six ≡ true → filter (λ a. bool_eq a.addr.v6 true) (sorted block_cmp (four ++ six)) ≡ sorted block_cmp six
left_v6 four six h k =
    filter_sorted block_cmp block_cmp_total (λ a. bool_eq a.addr.v6 true) (four ++ six)
    ∙ ap (sorted block_cmp) (filter-append (λ a. bool_eq a.addr.v6 true) four six
    ∙ ap (λ xs. xs ++ filter (λ a. bool_eq a.addr.v6 true) six) (none_kept false four h)
    ∙ all_kept true six k)

-- a section over what stayed, and over what stays of that
pub over_again : (own later : List Block) (section : Option IpEntry) → (addrs_over own section ≡ own → IsPermutation own later) → IsPermutation (addrs_over own section) (addrs_over later section)
over_again own later None h = h refl
over_again own later (Some ip) h = by (is_off ip) ip.addrs refl refl
  where
    by : (b : Bool) (o : Option (List Block)) → is_off ip ≡ b → ip.addrs ≡ o → IsPermutation (addrs_over own (Some ip)) (addrs_over later (Some ip))
    by true o e d = rw e (IsPermutation-refl [])
    by false (Some addrs) e d = rw (e, d) (IsPermutation-refl addrs)
    by false None e d =
        let same : addrs_over own (Some ip) ≡ own = rw (e, d) refl in
        let same2 : addrs_over later (Some ip) ≡ later = rw (e, d) refl in
        subst (λ xs. IsPermutation xs (addrs_over later (Some ip))) (sym same) (subst (λ xs. IsPermutation own xs) (sym same2) (h same))

-- members in another order are put in one order
pub both_again : (four six four2 six2 : List Block) → IsPermutation four four2 → IsPermutation six six2 → sorted block_cmp (four2 ++ six2) ≡ sorted block_cmp (four ++ six)
both_again four six four2 six2 h k = sym (sorted_moved block_cmp block_cmp_total exact_blocks (four ++ six) (four2 ++ six2) (IsPermutation-append four four2 six six2 h k))
