-- How far the code has read a tag: its frames, of which the innermost is the last one.
use Rattle.std.specs.Prelude.{List, reverse}
use Rattle.st_il.specs.declared.template.Template.{Template}
use Rattle.st_il.specs.declared.reading.Frame.{Frame}
use Rattle.st_il.specs.declared.reading.State as code
use Rattle.st_il.specs.declared.reading.State.TheVariants.{Expecting, Read}
use Rattle.st_il.specs.Reading.{State, expecting, read}

-- what a state of the code is
abbrev pub state_of : code.State → State
state_of (Expecting fs) = expecting (reverse fs)
state_of (Read t fs) = read t (reverse fs)

-- a template with its frames in the other order
abbrev pub reversed : Template × List Frame → Template × List Frame
reversed p = (p.0, reverse p.1)
