-- Pairs that are put into a map where a test is true, and left out where it is false.
use Rattle.std.proofs.Common.{◌≡◌, ◌++◌, Bool, true, false}
use Rattle.std.proofs.lemmas.List.{append-nil}
use Rattle.show_core.specs.Fields.{Fields, fields_if}
use Rattle.show_core.specs.Pairs.{Holds}
use Rattle.show_core.specs.declared.pairs.Pairs.{Pairs}

module _ (held more : Fields) (test : Bool) (p : Pairs) where
  -- they stand there
  pub put_in : test ≡ true → Holds (held ++ more) p → Holds (held ++ fields_if test more) p
  put_in is h = rw is h

  -- they don't
  pub left_out : test ≡ false → Holds held p → Holds (held ++ fields_if test more) p
  left_out is h = rw (is, append-nil) h
