use Rattle.std.proofs.Common.{◌≡◌, ◌<◌, drop, Some, None}
use Rattle.std.specs.Prelude.{if◌then◌else◌}
use Rattle.std.specs.List.{list_all}
use Rattle.std.specs.Char.{is_digit}
use Rattle.std.specs.Str.Parse.{digits_value_after}
use Rattle.yaml_read.specs.Quoted.{hex_value}
use Rattle.yaml_read.proofs.quoted.hex_value.Given as goal

abbrev pub invariant-loop-b : goal.invariant-loop-b
invariant-loop-b l = record {
  none : l.b-index ≡ 0 → l.value < 1;
  one : l.b-index ≡ 1 → l.value < 16;
  two : l.b-index ≡ 2 → l.value < 256;
  three : l.b-index ≡ 3 → l.value < 4096;
  four : l.b-index ≡ 4 → l.value < 65536;
  so_far : (if list_all (λ d. is_digit d 16) (drop l.b-index l.digits) then Some (digits_value_after 16 l.value (drop l.b-index l.digits)) else None) ≡ hex_value l.digits;
}
