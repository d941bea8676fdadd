use Rattle.std.proofs.Common.{◌≡◌, ◌∙◌, ◌<◌, length, List, ℕ, ap, sym, refl, arith}
use Rattle.std.proofs.lemmas.Bool.{lt-ltb, le-ltb}
use Rattle.std.proofs.lemmas.Str.{utf8_valid_len-IsUtf8}
use Rattle.std.specs.Str.Lossy.{utf8_valid_len}
use Rattle.yaml_read.specs.Rows.{rows_of}
use Rattle.yaml_read.specs.Reading.{document, reading}
use Rattle.yaml_read.proofs.read.read_tree.Goals as goal
use Rattle.doc_tree.specs.declared.limits.TheConstants.{MAX_BYTES}

pub returns-then-bytes-gt-MAX_BYTES : goal.returns-then-bytes-gt-MAX_BYTES
unfolding reading
returns-then-bytes-gt-MAX_BYTES c = let large = lt-ltb MAX_BYTES (length c.args.bytes.now) (omega arith) in rw large refl

pub returns-in-Ok : goal.returns-in-Ok
unfolding reading
returns-in-Ok c =
    let small = le-ltb MAX_BYTES (length c.args.bytes.now) (omega arith) in
    let whole = le-ltb (utf8_valid_len c.args.bytes.now) (length c.args.bytes.now) (omega (arith, utf8_valid_len-IsUtf8 c.args.bytes.now c.in-Ok.ensures.cases.1)) in
    let same = ap (λ (b : List ℕ). document (rows_of b)) (sym c.in-Ok.ensures.cases.0) in
    rw (small, whole, same) c.tree_of_text.ensures

pub returns-in-Err : goal.returns-in-Err
unfolding reading
returns-in-Err c =
    let small = le-ltb MAX_BYTES (length c.args.bytes.now) (omega arith) in
    let place : utf8_valid_len c.args.bytes.now ≡ c.valid_up_to.result = sym (c.valid_up_to.ensures ∙ c.in-Err.ensures.valid_len) in
    let short : c.valid_up_to.result < length c.args.bytes.now = omega (arith, c.in-Err.ensures.cases.1.short, c.valid_up_to.ensures) in
    let part = lt-ltb (utf8_valid_len c.args.bytes.now) (length c.args.bytes.now) (omega (arith, place, short)) in
    rw (small, part, place) refl
