use Rattle.std.proofs.Common.{◌≡◌, ◌≤◌, ℕ, List, length, Err, refl, sym, ◌∙◌, arith}
use Rattle.std.proofs.lemmas.Bool.{le-ltb}
use Rattle.std.proofs.lemmas.Str.{utf8_valid_len-IsUtf8}
use Rattle.std.specs.Str.{IsUtf8}
use Rattle.std.specs.Str.Lossy.{utf8_valid_len}
use Rattle.std.specs.Str.Lines.{lines}
use Rattle.yaml_read.specs.declared.fault.YamlFault.{YamlFault}
use Rattle.yaml_read.specs.Standing.{StopsAt, line_of}
use Rattle.yaml_read.specs.Rows.{rows_of}
use Rattle.yaml_read.specs.Reading.{document, reading}
use Rattle.yaml_read.proofs.Sound.{document_sound}
use Rattle.yaml_read.proofs.Complete.{document_complete, one_tree}
use Rattle.yaml_read.proofs.First.{document_stops}
use Rattle.yaml_read.proofs.Lines.{lines_stop}
use Rattle.yaml_read.proofs.Texts.{reading_document}
use Rattle.yaml_read.proofs.laws.reading_laws.Goals as goal
use Rattle.doc_tree.specs.declared.limits.TheConstants.{MAX_BYTES}

within : (bytes : List ℕ) → length bytes ≤ MAX_BYTES → IsUtf8 bytes → reading bytes ≡ document (rows_of bytes)
unfolding reading
within bytes le utf8 =
    let small = le-ltb MAX_BYTES (length bytes) le in
    let whole = le-ltb (utf8_valid_len bytes) (length bytes) (omega (arith, utf8_valid_len-IsUtf8 bytes utf8)) in
    rw (small, whole) refl

lines_within : (bytes : List ℕ) (f : YamlFault) → document (rows_of bytes) ≡ Err f → StopsAt (lines bytes) (line_of f)
unfolding rows_of
lines_within bytes f is = lines_stop (lines bytes) f is

pub returns : goal.returns
returns c = record {
  sound = document_sound;
  complete = document_complete;
  one_tree = one_tree;
  first_row = document_stops;
  first_line = lines_stop;
  text_sound = λ bytes t is. document_sound (rows_of bytes) t (reading_document bytes t is);
  text_complete = λ bytes t le utf8 stands. within bytes le utf8 ∙ document_complete (rows_of bytes) t stands;
  text_first_line = λ bytes f le utf8 is. lines_within bytes f (sym (within bytes le utf8) ∙ is);
}
