-- What the call that tells the modes of an internal language answers.
use Rattle.std.specs.Prelude.{Result, Ok, Err}
use Rattle.st_il.specs.declared.definition.Il.{Il}
use Rattle.st_semantics.specs.Breaches.{KeepModes, IsModeBreach}
use Rattle.st_order.specs.declared.relation_modes.Modes.{Modes}
use Rattle.st_order.specs.Modes.{AreModes}
use Rattle.st_modes.specs.declared.fault.ModeFault.{ModeFault}
use Rattle.st_modes.specs.declared.fault.ModeFault.TheVariants as fault

-- The modes, where no definition breaks one of the rules M1 to M7; else the number from 0 of the
-- first that breaks one, and the least that it breaks, unless memory ran out.
abbrev pub IsModesAnswer : Il → Result Modes ModeFault → Type 0
IsModesAnswer il (Ok modes) = KeepModes il × AreModes il modes
IsModesAnswer il (Err (fault.Refused definition rule)) = IsModeBreach il definition rule
IsModesAnswer il (Err fault.Memory) = Unit {0}
