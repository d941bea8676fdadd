-- A field that is read at a place.
use Rattle.std.proofs.Common.{◌≡◌, ℕ, ◌+◌, ◌-◌, ◌<◌, ◌≤◌, List, ◌++◌, length, take, drop, Option, Some, sym, ap, subst, ◌∙◌, append_assoc, arith, length-append, length-drop, take-append-drop}
use Rattle.std.proofs.lemmas.List.{drop_at, get_or-drop, take_all}
use Rattle.net_image.specs.Form.{Form}
use Rattle.net_image.specs.Laws.{AreBytes, IsWritten, IsExact}
use Rattle.net_image.specs.Taking.{IsField}

pub behind_are_bytes : (at : ℕ) (bytes : List ℕ) → AreBytes bytes → AreBytes (drop at bytes)
behind_are_bytes at bytes are i = subst (λ (n : ℕ). n < 256) (sym (get_or-drop at bytes i 0)) (are (at + i))

-- what is left says how far was read
pub left_behind : (at : ℕ) (bytes front rest : List ℕ) → drop at bytes ≡ front ++ rest → at ≤ length bytes → drop (length bytes - length rest) bytes ≡ rest
left_behind at bytes front rest parts le =
    let whole : bytes ≡ (take at bytes ++ front) ++ rest = sym (take-append-drop at bytes) ∙ ap (λ (l : List ℕ). take at bytes ++ l) parts ∙ sym (append_assoc (take at bytes) front rest) in
    let size : length (take at bytes ++ front) ≡ length bytes - length rest = omega (arith, ap length whole, length-append (take at bytes ++ front) rest) in
    ap (drop (length bytes - length rest)) whole ∙ drop_at (take at bytes ++ front) rest (length bytes - length rest) size

module _ {X : Type 0} (form : Form X) (exact : IsExact form) (bytes rest : List ℕ) (at : ℕ) (x : X) (are : AreBytes bytes) (le : at ≤ length bytes) (got : form.read (drop at bytes) ≡ Some (x, rest)) where
  written : IsWritten form (drop at bytes) x rest
  written = exact.only (drop at bytes) rest x (behind_are_bytes at bytes are) got

  pub shorter : length rest ≤ length bytes
  shorter = omega (arith, ap length written.bytes_are, length-append (form.write x) rest, length-drop at bytes)

  pub read_behind : form.read (drop at bytes) ≡ Some (x, drop (length bytes - length rest) bytes)
  read_behind = got ∙ ap (λ (l : List ℕ). Some (x, l)) (sym (left_behind at bytes (form.write x) rest written.bytes_are le))

  pub is_field : IsField form bytes at x (length bytes - length rest)
  is_field = record {
    fits = written.fits;
    spelled = written.bytes_are ∙ ap (λ (l : List ℕ). form.write x ++ l) (sym (left_behind at bytes (form.write x) rest written.bytes_are le));
    within = omega arith;
  }

-- what a slice from a place on reads
pub read_from : {X : Type 0} (form : Form X) (bytes : List ℕ) (at : ℕ) (r : Option (X × List ℕ)) → form.read (take (length bytes - at) (drop at bytes)) ≡ r → form.read (drop at bytes) ≡ r
read_from form bytes at r got = ap form.read (sym (take_all (length bytes - at) (drop at bytes) (omega (arith, length-drop at bytes)))) ∙ got
