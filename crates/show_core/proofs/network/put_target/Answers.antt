use Rattle.std.proofs.Common.{refl}
use Rattle.show_core.proofs.network.put_target.Goals as goal

pub returns-in-Table : goal.returns-in-Table
returns-in-Table c held h = rw c.in-Table.is (c.put_number.ensures held _ h c.id.ensures)

pub returns-in-Blackhole : goal.returns-in-Blackhole
returns-in-Blackhole c held h = rw c.in-Blackhole.is (c.put_word.ensures held _ h refl)

pub returns-in-Unreachable : goal.returns-in-Unreachable
returns-in-Unreachable c held h = rw c.in-Unreachable.is (c.put_word-in-Unreachable.ensures held _ h refl)

pub returns-in-Prohibit : goal.returns-in-Prohibit
returns-in-Prohibit c held h = rw c.in-Prohibit.is (c.put_word-in-Prohibit.ensures held _ h refl)
