-- What comes in the place of a value at the end of a path.
use Rattle.std.specs.Prelude.{ℕ, ◌+◌, Bool, true, false, List, ◌∷◌, ◌++◌, map, take, drop, Option, Some, option_map}
use Rattle.std.specs.Borrow.{Bor}
use Rattle.st_il.specs.declared.expression.PathSeg.{PathSeg}
use Rattle.st_il.specs.declared.value.Value.{Value}
use Rattle.st_il.specs.Names.{Name}
use Rattle.st_semantics.specs.Environments.{Entry}
use Rattle.st_semantics.specs.Parts.{Operation}
use Rattle.st_semantics.specs.Operators.{concatenation}
use Rattle.st_semantics.specs.Paths.{Step, Into, Nth, Part, Path, Replaces, along}
use Rattle.st_match.specs.declared.path.Change.{Change}
use Rattle.st_match.specs.declared.path.Change.TheVariants as change
use Rattle.st_match.specs.declared.path.Stride.{Stride}
use Rattle.st_match.specs.declared.path.Stride.TheVariants as stride

-- the step of a path
abbrev pub step_of : Stride → Step
step_of (stride.Into name) = Into name.now
step_of (stride.Nth n) = Nth n
step_of (stride.Part from size) = Part from size

-- the step, and the values behind it
abbrev pub step_here : Stride × Bor (List Value) → Step × List Value
step_here p = (step_of p.0, p.1.now)

-- the steps of a path, and the values behind them
abbrev pub path_here : List Stride × Bor (List Value) → Path
path_here p = (map step_of p.0, p.1.now)

-- whether a slice is to keep its length
abbrev pub keeps : Change → Bool
keeps change.Set = true
keeps change.Extend = false

-- what comes in the place of an old value, by a new one
abbrev pub replacing : Change → Value → Replaces
replacing change.Set new old = Some new
replacing change.Extend new old = concatenation old new

-- the operation along a path
abbrev pub along_change : Change → List PathSeg → Operation
along_change how = along (keeps how) (replacing how)

-- the fields with a value under this name in the place of the field at a position, where there is a
-- value
abbrev pub with_value : ℕ → List Entry → Name → Option Value → Option (List Entry)
with_value n es name value =
    option_map (λ (v : Value). take n es ++ (name, v) ∷ drop (n + 1) es) value
