-- The MTU that setting one leaves a link, by the names of what hangs on it.
use Rattle.std.specs.Prelude.{ℕ, List, true, if◌then◌else◌}
use Rattle.net_model.specs.Words.{is_among}
use Rattle.net_model.specs.declared.Link.{Link}
use Rattle.kernel_model.specs.Settings.{with_mtu}

abbrev pub clamped : List ℕ → ℕ → List (List ℕ) → Link → Link
clamped name mtu over l = if is_among over l.name then with_mtu name mtu true l else l
