-- A text that is written in several pieces, one after the other.
use Rattle.std.proofs.Common.{◌≡◌, ◌∙◌, ℕ, ◌+◌, ◌<◌, List, [], ◌∷◌, ◌++◌, length, take, drop, get_or, codes, refl, sym, ap, subst, append_assoc, add-one, arith}
use Rattle.std.proofs.lemmas.List.{append-nil, take-append-le, take-append-drop, length-append}
use Rattle.std.proofs.lemmas.Grind.{flat_map-append}
use Rattle.std.proofs.Math.Seq.{take-append-add, take-suc}
use Rattle.std.specs.List.{flat_map}
use Rattle.std.specs.Result.{IsErr}
use Rattle.std.specs.Prelude.{⊤, Result, Ok, Err}
use Rattle.host_core.specs.Faults.{HasCause}
use Rattle.host_core.specs.Streams.{SinkView, Appends, AppendsSome}
use Rattle.host_core.specs.declared.Failed.{Failed}
use Rattle.top_model.specs.Orders.{Text}
use Rattle.top_model.specs.Texts.{spaced}
use Rattle.answer_text.specs.Writing.{Writes}

-- nothing was written
pub nothing : (tells : Type 0) (v : SinkView) → Writes tells [] v v (Ok tt)
nothing tells v = record {
  all = λ t. sym (append-nil v.written);
  some = λ t. (0, omega arith, sym (append-nil v.written));
  steady = refl;
  cause = record { later = omega arith; failed = tt };
}

-- the same text in other words
pub same : (tells : Type 0) (a b : Text) (old new : SinkView) (r : Result ⊤ Failed) → a ≡ b → Writes tells a old new r → Writes tells b old new r
same tells a b old new r e w = subst (λ (text : Text). Writes tells text old new r) e w

-- the beginning of a text is one of a longer text
part : (a b : Text) (old new : SinkView) → AppendsSome a old new → AppendsSome (a ++ b) old new
part a b old new (n, within, is) = (n, rw length-append (omega arith), rw (take-append-le n a b within) is)

-- a fault in the first piece is a fault in the whole
pub cut : (tells : Type 0) (a b text : Text) (old new : SinkView) (e : Failed) (r : Result ⊤ Failed) → IsErr r → a ++ b ≡ text → Writes tells a old new (Err e) → Writes tells text old new r
cut tells a b text old new e (Err f) is whole w = record {
  all = λ t. tt;
  some = λ t. subst (λ (all : Text). AppendsSome all old new) whole (part a b old new (w.some t));
  steady = tt;
  cause = record { later = w.cause.later; failed = w.cause.failed };
}
cut tells a b text old new e (Ok x) is whole w = absurd (cc)

-- a piece that is written after the first
follow_some : (a b : Text) (old mid new : SinkView) → Appends a old mid → AppendsSome b mid new → AppendsSome (a ++ b) old new
follow_some a b old mid new first (n, within, is) =
    (length a + n, rw length-append (omega arith), is ∙ (ap (λ (bytes : Text). bytes ++ take n b) first ∙ (append_assoc old.written a (take n b) ∙ ap (λ (bytes : Text). old.written ++ bytes) (sym (take-append-add a b n)))))

follow_cause : (before mid now : ℕ) (r : Result ⊤ Failed) → mid ≡ before → HasCause mid now r → HasCause before now r
follow_cause before mid now r e c = subst (λ (count : ℕ). HasCause count now r) e c

pub follow : (tells : Type 0) (a b : Text) (old mid new : SinkView) (done : ⊤) (r : Result ⊤ Failed) → Writes tells a old mid (Ok done) → Writes tells b mid new r → Writes tells (a ++ b) old new r
follow tells a b old mid new done (Ok x) first next = record {
  all = λ t. next.all t ∙ (ap (λ (bytes : Text). bytes ++ b) (first.all t) ∙ append_assoc old.written a b);
  some = λ t. follow_some a b old mid new (first.all t) (next.some t);
  steady = next.steady ∙ first.steady;
  cause = follow_cause old.faults mid.faults new.faults (Ok x) first.steady next.cause;
}
follow tells a b old mid new done (Err e) first next = record {
  all = λ t. tt;
  some = λ t. follow_some a b old mid new (first.all t) (next.some t);
  steady = tt;
  cause = follow_cause old.faults mid.faults new.faults (Err e) first.steady next.cause;
}

-- ---- lists of pieces

-- the pieces up to the next one
more : {X : Type 0} (f : X → Text) (xs : List X) (i : ℕ) (x : X) → i < length xs → x ≡ get_or xs i x → flat_map f (take i xs) ++ f x ≡ flat_map f (take (i + 1) xs)
more f xs i x inside is =
    let one : take (i + 1) xs ≡ take i xs ++ (get_or xs i x ∷ []) = rw add-one (take-suc xs i x inside) in
    ap (λ y. flat_map f (take i xs) ++ f y) is
    ∙ (ap (λ (bytes : Text). flat_map f (take i xs) ++ bytes) (sym (append-nil (f (get_or xs i x))))
    ∙ (sym (flat_map-append f (take i xs) (get_or xs i x ∷ [])) ∙ ap (flat_map f) (sym one)))

-- and all of them
all : {X : Type 0} (f : X → Text) (xs : List X) (i : ℕ) (x : X) → i < length xs → x ≡ get_or xs i x → (flat_map f (take i xs) ++ f x) ++ flat_map f (drop (i + 1) xs) ≡ flat_map f xs
all f xs i x inside is =
    ap (λ (bytes : Text). bytes ++ flat_map f (drop (i + 1) xs)) (more f xs i x inside is)
    ∙ (sym (flat_map-append f (take (i + 1) xs) (drop (i + 1) xs)) ∙ ap (flat_map f) (take-append-drop (i + 1) xs))

-- a loop over pieces goes on
pub loop_on : {X : Type 0} (tells : Type 0) (f : X → Text) (xs : List X) (i : ℕ) (x : X) (old mid new : SinkView) (done : ⊤) → i < length xs → x ≡ get_or xs i x
    → Writes tells (flat_map f (take i xs)) old mid (Ok tt) → Writes tells (f x) mid new (Ok done) → Writes tells (flat_map f (take (i + 1) xs)) old new (Ok tt)
loop_on tells f xs i x old mid new done inside is before next =
    same tells (flat_map f (take i xs) ++ f x) (flat_map f (take (i + 1) xs)) old new (Ok tt) (more f xs i x inside is)
    (follow tells (flat_map f (take i xs)) (f x) old mid new tt (Ok tt) before next)

-- or ends at a fault
pub loop_cut : {X : Type 0} (tells : Type 0) (f : X → Text) (xs : List X) (i : ℕ) (x : X) (old mid new : SinkView) (e : Failed) (r : Result ⊤ Failed) → i < length xs → x ≡ get_or xs i x → IsErr r
    → Writes tells (flat_map f (take i xs)) old mid (Ok tt) → Writes tells (f x) mid new (Err e) → Writes tells (flat_map f xs) old new r
loop_cut tells f xs i x old mid new e r inside is failed before next =
    cut tells (flat_map f (take i xs) ++ f x) (flat_map f (drop (i + 1) xs)) (flat_map f xs) old new e r failed (all f xs i x inside is)
    (follow tells (flat_map f (take i xs)) (f x) old mid new tt (Err e) before next)

-- names parted by spaces are the first one, and each further one behind a space
pub spaced_is : (word : Text) (words : List Text) → spaced (word ∷ words) ≡ word ++ flat_map (λ (w : Text). codes " " ++ w) words
spaced_is word [] = sym (append-nil word)
spaced_is word (next ∷ words) = append_assoc word (codes " ") (spaced (next ∷ words)) ∙ ap (λ (bytes : Text). word ++ (codes " " ++ bytes)) (spaced_is next words)
