-- How far a run has come.
use Rattle.std.specs.Prelude.{◌≡◌, ℕ, ◌≤◌}
use Rattle.st_il.specs.declared.definition.Il.{Il}
use Rattle.st_il.specs.Names.{Name}
use Rattle.st_semantics.specs.Transcript.{Term, GoesOn}
use Rattle.st_runs.specs.declared.transcript.Ending.{Ending}
use Rattle.st_runs.specs.declared.transcript.Ending.TheVariants.{Stuck, Fuel}

-- nothing is derivable from a term
abbrev pub IsStuck : Il → Name → Term → Type 0
IsStuck il relation term = GoesOn il relation term → ⊥

-- how a run with this much fuel ends at a term, with so many terms before it
abbrev pub EndsBehind : Il → Name → ℕ → ℕ → Term → Ending → Type 0
EndsBehind il relation fuel count last Stuck = (count ≤ fuel) × IsStuck il relation last
EndsBehind il relation fuel count last Fuel = (count ≡ fuel) × GoesOn il relation last
