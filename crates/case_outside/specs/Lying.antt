-- What a host that lies tells: what the host in memory tells that it holds.
use Rattle.host_core.specs.HostView.{HostView, IsLawfulHost}
use Rattle.host_memory.specs.HostMemory.{told_of, lawful_host}
use Rattle.case_outside.specs.declared.liar.LyingHost.{LyingHost}

abbrev pub lying_told : LyingHost → HostView
lying_told liar = told_of liar.host

pub lawful_liar : (liar : LyingHost) → IsLawfulHost (Unit {0}) (lying_told liar)
lawful_liar liar = lawful_host liar.host
