-- Reading a text byte by byte.
use Rattle.std.proofs.Common.{◌≡◌, cond, ltb, Bool, true, false, Result, Ok, Err, length, List, ℕ, refl}
use Rattle.std.specs.Str.Lossy.{utf8_valid_len}
use Rattle.doc_tree.specs.Shape.{Shape}
use Rattle.doc_tree.specs.declared.limits.TheConstants.{MAX_BYTES}
use Rattle.yaml_read.specs.declared.fault.YamlFault.{YamlFault}
use Rattle.yaml_read.specs.declared.fault.YamlFault.TheVariants.{TooLarge, NotUtf8}
use Rattle.yaml_read.specs.Rows.{rows_of}
use Rattle.yaml_read.specs.Reading.{document, reading}

-- what bytes are read as, their rows are read as
by_tests : (a b : Bool) (n : ℕ) (read : Result Shape YamlFault) (t : Shape) → cond a (Err TooLarge) (cond b (Err (NotUtf8 n)) read) ≡ Ok t → read ≡ Ok t
by_tests true b n read t is = absurd cc
by_tests false true n read t is = absurd cc
by_tests false false n read t is = is

pub reading_document : (bytes : List ℕ) (t : Shape) → reading bytes ≡ Ok t → document (rows_of bytes) ≡ Ok t
unfolding reading
reading_document bytes t is = by_tests (ltb MAX_BYTES (length bytes)) (ltb (utf8_valid_len bytes) (length bytes)) (utf8_valid_len bytes) (document (rows_of bytes)) t is
