use Rattle.std.proofs.Common.{◌≡◌, ℕ, List, Bool, true, false, Some, None, refl, rules}
use Rattle.std.specs.Prelude.{if◌then◌else◌}
use Rattle.std.specs.Str.{is_utf8, IsUtf8}
use Rattle.std.proofs.lemmas.Str.{IsUtf8-from_is_utf8, is_utf8-from_IsUtf8}
use Rattle.serde_json.specs.Data.{Data}
use Rattle.serde_json.specs.Read.{read}
use Rattle.doc_tree.specs.JsonTree.{json_of}
use Rattle.doc_tree.proofs.read.value_of.Goals as goal

of_value : (bytes : List ℕ) (d : Data) → IsUtf8 bytes → read bytes ≡ Some d → json_of bytes ≡ Some d
unfolding json_of
of_value bytes d utf8 e = rw (is_utf8-from_IsUtf8 bytes utf8) e

of_none : (bytes : List ℕ) → (IsUtf8 bytes → read bytes ≡ None) → json_of bytes ≡ None
unfolding json_of
of_none bytes h = go (is_utf8 bytes) refl where
  go : (b : Bool) → is_utf8 bytes ≡ b → (if b then read bytes else None) ≡ None
  go true e = h (IsUtf8-from_is_utf8 bytes e)
  go false e = refl

pub returns-in-Ok : goal.returns-in-Ok
returns-in-Ok c = of_value c.args.bytes.now _ c.in-Ok.ensures.ok.0 c.in-Ok.ensures.ok.1

pub returns-in-Err-2 : goal.returns-in-Err-2
returns-in-Err-2 c = of_none c.args.bytes.now (c.in-Err-2.ensures.err (search rules))
