-- What a host that refuses calls tells: what the host in memory tells that it holds.
use Rattle.host_core.specs.HostView.{HostView, IsLawfulHost}
use Rattle.host_memory.specs.HostMemory.{told_of, lawful_host}
use Rattle.case_outside.specs.declared.refusing.RefusingHost.{RefusingHost}

abbrev pub refusing_told : RefusingHost → HostView
refusing_told refuser = told_of refuser.host

pub lawful_refuser : (refuser : RefusingHost) → IsLawfulHost (Unit {0}) (refusing_told refuser)
lawful_refuser refuser = lawful_host refuser.host
