-- What values of the code are, in the words of the table.
use Rattle.st_il.specs.declared.ty.Ty.{Ty}
use Rattle.st_il.specs.declared.expression.IlExp.{IlExp}
use Rattle.st_il.specs.declared.expression.IlExp.TheVariants as il
use Rattle.st_elab_table.specs.Steps.{list_of_one}
use Rattle.st_elab_rows.specs.declared.fitting.Lifting.{Lifting}
use Rattle.st_elab_rows.specs.declared.fitting.Lifting.TheVariants as lifting
use Rattle.st_elab_rows.specs.declared.fitting.Joining.{Joining}
use Rattle.st_elab_rows.specs.declared.fitting.Joining.TheVariants as joining

-- how `++` puts two expressions together: lists behind each other, or records joined
abbrev pub join_of : Joining → IlExp → IlExp → IlExp
join_of joining.Lists = il.Cat
join_of joining.Records = il.Join

-- one element of this type, in a list or an option
abbrev pub lift_of : Lifting → Ty → IlExp → IlExp
lift_of lifting.List element = list_of_one element
lift_of lifting.Option element = il.Present
