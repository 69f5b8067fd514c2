-- The first fault of a specification, and where its definitions and its breaches stand.
use Rattle.std.specs.Prelude.{◌≡◌, ℕ, ◌<◌, List, Some, slice_get, Err, ⊤}
use Rattle.st_el.specs.declared.definition.Def.{Def}
use Rattle.st_elab_def.specs.declared.breach.Breach.{Breach}
use Rattle.st_elab_def.specs.Breaches.{IsBreach}
use Rattle.st_il.specs.declared.definition.Il.{Il}
use Rattle.st_num.specs.declared.fault.Fault.{Fault}
use Rattle.st_num.specs.declared.fault.Fault.TheVariants.{Refused, Memory}
use Rattle.st_modes.specs.declared.fault.ModeFault.{ModeFault}
use Rattle.st_modes.specs.Modes.{IsModesAnswer}
use Rattle.st_source.specs.Faults.{IsSourceFault}

-- the fault is the first one of the files, unless memory gave out
abbrev pub TellsSourceFault : List (List ℕ) → Fault → Type 0
TellsSourceFault files (Refused at rule) = IsSourceFault files at rule
TellsSourceFault files Memory = ⊤

-- the fault tells the first breach of the rules on modes, unless memory gave out
abbrev pub TellsModeFault : Il → ModeFault → Type 0
TellsModeFault il fault = IsModesAnswer il (Err fault)

-- each breach of the definitions is in a file before number n
abbrev pub BreachesWithin : ℕ → List Def → Type 0
BreachesWithin n defs = (b : Breach) → IsBreach defs b → b.at.file < n

-- each of the definitions begins in a file before number n
abbrev pub BeginWithin : ℕ → List Def → Type 0
BeginWithin n defs = (k : ℕ) (def : Def) → slice_get defs k ≡ Some def → def.at.file < n
