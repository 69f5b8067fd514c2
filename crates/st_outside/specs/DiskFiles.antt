-- What the files of the system show.
use Rattle.std.specs.Prelude.{ℕ, List, Option}
use Rattle.st_outside.specs.declared.disk.DiskFiles.{DiskFiles}

-- how many loads there were
abbrev pub loads_of : {R : Type 0} → DiskFiles R → ℕ
loads_of files = files.loads

-- how many loads failed
abbrev pub faults_of : {R : Type 0} → DiskFiles R → ℕ
faults_of files = files.faults

-- the name whose load failed last
abbrev pub last_of : {R : Type 0} → DiskFiles R → Option (List ℕ)
last_of files = files.last
