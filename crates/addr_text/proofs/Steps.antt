-- One step of each reader, from the place of the sign.
use Rattle.std.proofs.Common.{◌≡◌, ◌≢◌, ℕ, ◌+◌, ◌-◌, ◌^◌, ◌==◌, List, Some, None, take, drop, refl, ap, ◌∙◌, zero, suc, arith, [], ◌∷◌, length, false}
use Rattle.std.specs.List.{position}
use Rattle.addr_text.specs.Digits.{octet_of, field_of}
use Rattle.addr_text.specs.Dotted.{octets_of, octet_before}
use Rattle.addr_text.specs.Find.{at_place}
use Rattle.addr_text.specs.V6Reader.{run_of, end_of, field_before, some_run_of}
use Rattle.addr_text.specs.declared.v6.Last.{Last}

pub octets-none : (m : ℕ) (t : List ℕ) → m ≢ 0 → position (λ b. b == 46) t ≡ None → octets_of m t ≡ None
octets-none zero t h e = absurd (h refl)
octets-none (suc m) t h e = ap (λ o. at_place o None (λ i. octet_before (256 ^ suc m) (octet_of (take i t)) (octets_of m (drop (i + 1) t)))) e

pub octets-some : (m : ℕ) (t : List ℕ) (i : ℕ) → m ≢ 0 → position (λ b. b == 46) t ≡ Some i → octets_of m t ≡ octet_before (256 ^ m) (octet_of (take i t)) (octets_of (m - 1) (drop (i + 1) t))
octets-some zero t i h e = absurd (h refl)
octets-some (suc m) t i h e =
    let down : m ≡ suc m - 1 = omega arith in
    ap (λ o. at_place o None (λ i. octet_before (256 ^ suc m) (octet_of (take i t)) (octets_of m (drop (i + 1) t)))) e
    ∙ ap (λ k. octet_before (256 ^ suc m) (octet_of (take i t)) (octets_of k (drop (i + 1) t))) down

pub run-none : (last : Last) (m : ℕ) (t : List ℕ) → m ≢ 0 → position (λ b. b == 58) t ≡ None → run_of last m t ≡ end_of last m t
run-none last zero t h e = absurd (h refl)
run-none last (suc m) t h e = ap (λ o. at_place o (end_of last (suc m) t) (λ i. field_before (field_of (take i t)) (run_of last m (drop (i + 1) t)))) e

pub run-some : (last : Last) (m : ℕ) (t : List ℕ) (i : ℕ) → m ≢ 0 → position (λ b. b == 58) t ≡ Some i → run_of last m t ≡ field_before (field_of (take i t)) (run_of last (m - 1) (drop (i + 1) t))
run-some last zero t i h e = absurd (h refl)
run-some last (suc m) t i h e =
    let down : m ≡ suc m - 1 = omega arith in
    ap (λ o. at_place o (end_of last (suc m) t) (λ i. field_before (field_of (take i t)) (run_of last m (drop (i + 1) t)))) e
    ∙ ap (λ k. field_before (field_of (take i t)) (run_of last k (drop (i + 1) t))) down

pub some-run : (last : Last) (t : List ℕ) → (length t == 0) ≡ false → some_run_of last t ≡ run_of last 7 t
some-run last [] h = cc
some-run last (x ∷ xs) h = refl
