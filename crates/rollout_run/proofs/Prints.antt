-- Texts that are printed one behind another.
use Rattle.std.proofs.Common.{◌≡◌, ◌∙◌, ℕ, ◌+◌, List, [], ◌∷◌, ◌++◌, length, take, refl, sym, ap, subst, append_assoc, append-nil, arith}
use Rattle.std.proofs.lemmas.List.{take-append-le, length-append}
use Rattle.std.proofs.lemmas.Grind.{flat_map-append}
use Rattle.std.proofs.Math.Seq.{take-append-add}
use Rattle.host_core.specs.Faults.{Rose}
use Rattle.host_core.specs.Streams.{SinkView, Appends, AppendsSome}
use Rattle.rollout_model.specs.declared.node.Event.{Event}
use Rattle.rollout_run.specs.Printing.{PrintsSome, Prints}
use Rattle.rollout_run.specs.Texts.{Text, event_line, event_lines}
use Rattle.rollout_run.specs.declared.printing.Printed.{Printed}
use Rattle.rollout_run.specs.declared.printing.Printed.TheVariants.{Whole, Cut}

-- no text
pub prints_nothing : (tells : Type 0) (p : Printed) (v : SinkView) → Prints tells p [] v v p
prints_nothing tells Whole v = record { all = λ t. sym (append-nil v.written); steady = refl }
prints_nothing tells Cut v = refl

-- the same text in other words
pub prints_same : (tells : Type 0) (p q : Printed) (a b : Text) (old new : SinkView) → a ≡ b → Prints tells p a old new q → Prints tells p b old new q
prints_same tells p q a b old new e prints = subst (λ (text : Text). Prints tells p text old new q) e prints

-- the beginning of a text is one of a longer text
part : (a b : Text) (old new : SinkView) → AppendsSome a old new → AppendsSome (a ++ b) old new
part a b old new (n, within, is) = (n, rw length-append (omega arith), rw (take-append-le n a b within) is)

-- a beginning of the second behind all of the first
behind : (a b : Text) (old mid new : SinkView) → Appends a old mid → AppendsSome b mid new → AppendsSome (a ++ b) old new
behind a b old mid new first (n, within, is) =
    (length a + n, rw length-append (omega arith), is ∙ (ap (λ (bytes : Text). bytes ++ take n b) first ∙ (append_assoc old.written a (take n b) ∙ ap (λ (bytes : Text). old.written ++ bytes) (sym (take-append-add a b n)))))

-- one text and then another
pub prints_more : (tells : Type 0) (p q r : Printed) (a b : Text) (old mid new : SinkView) → Prints tells p a old mid q → Prints tells q b mid new r → Prints tells p (a ++ b) old new r
prints_more tells Whole Whole Whole a b old mid new first next = record {
  all = λ t. next.all t ∙ (ap (λ (bytes : Text). bytes ++ b) (first.all t) ∙ append_assoc old.written a b);
  steady = next.steady ∙ first.steady;
}
prints_more tells Whole Whole Cut a b old mid new first next = record {
  some = λ t. behind a b old mid new (first.all t) (next.some t);
  rose = subst (λ (count : ℕ). Rose count new.faults) first.steady next.rose;
}
prints_more tells Whole Cut Whole a b old mid new first next = absurd next
prints_more tells Whole Cut Cut a b old mid new first next =
    let cut : PrintsSome tells (a ++ b) old mid = record { some = λ t. part a b old mid (first.some t); rose = first.rose } in
    subst (λ (v : SinkView). PrintsSome tells (a ++ b) old v) (sym next) cut
prints_more tells Cut Whole Whole a b old mid new first next = absurd first
prints_more tells Cut Whole Cut a b old mid new first next = absurd first
prints_more tells Cut Cut Whole a b old mid new first next = absurd next
prints_more tells Cut Cut Cut a b old mid new first next = next ∙ first

-- the lines of some events and then of others
pub prints_lines : (tells : Type 0) (p q r : Printed) (xs ys : List Event) (old mid new : SinkView) → Prints tells p (event_lines xs) old mid q → Prints tells q (event_lines ys) mid new r
    → Prints tells p (event_lines (xs ++ ys)) old new r
prints_lines tells p q r xs ys old mid new first next =
    prints_same tells p r (event_lines xs ++ event_lines ys) (event_lines (xs ++ ys)) old new (sym (flat_map-append event_line xs ys))
    (prints_more tells p q r (event_lines xs) (event_lines ys) old mid new first next)

-- the line of one event
pub prints_one : (tells : Type 0) (p q : Printed) (e : Event) (old new : SinkView) → Prints tells p (event_line e) old new q → Prints tells p (event_lines (e ∷ [])) old new q
prints_one tells p q e old new prints = prints_same tells p q (event_line e) (event_lines (e ∷ [])) old new (sym (append-nil (event_line e))) prints
