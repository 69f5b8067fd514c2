-- Which holes of a relation are inputs, as it is kept without a list of its own.
use Rattle.std.specs.Prelude.{Bool, List}
use Rattle.st_order.specs.declared.directions.Inputs.{Inputs}
use Rattle.st_order.specs.declared.directions.Inputs.TheVariants as inputs
use Rattle.st_order.specs.inner.Arrow.{told_by}

-- for each hole, whether it is an input
abbrev pub mask_told : Inputs → List Bool
mask_told (inputs.Hinted mask) = mask.now
mask_told (inputs.Leading sides) = told_by sides
