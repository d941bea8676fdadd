-- What the answers of a commit say.
use Rattle.engine_model.specs.declared.answers.CommitFault.{CommitFault}
use Rattle.engine_model.specs.declared.answers.CommitFault.TheVariants.{NoCheckpoint, Unfinished, Expired, HostFault, InDoubt}

-- it came before the checkpoint was cleared
abbrev pub IsRefusal : CommitFault → Type 0
IsRefusal NoCheckpoint = Unit {0}
IsRefusal (Unfinished made deadline) = Unit {0}
IsRefusal (Expired made deadline) = Unit {0}
IsRefusal HostFault = Unit {0}
IsRefusal InDoubt = ⊥

-- it came of what the checkpoint is
abbrev pub IsLook : CommitFault → Type 0
IsLook NoCheckpoint = Unit {0}
IsLook (Unfinished made deadline) = Unit {0}
IsLook (Expired made deadline) = Unit {0}
IsLook HostFault = ⊥
IsLook InDoubt = ⊥
