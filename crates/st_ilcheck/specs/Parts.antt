-- The parts of an expression, each with the variables as they are listed where it stands.
use Rattle.std.specs.Prelude.{List, [], ◌∷◌, ◌++◌, map}
use Rattle.st_il.specs.declared.definition.Listed.{Listed}
use Rattle.st_il.specs.declared.expression.IlExp.{IlExp, out-IlExp}
use Rattle.st_il.specs.declared.expression.IlExp.TheOpen.{IlExp-F}
use Rattle.st_semantics.specs.Operands.{operands_at, item_exp, segment_exps}
use Rattle.st_semantics.specs.Iterations.{count_of}
use Rattle.st_semantics.specs.Scopes.{listed_inside}
use Rattle.st_semantics.specs.OperationTypes.{Level}

-- an expression, and the variables as they are listed where it stands
abbrev pub Part : Type 0
Part = List Listed × IlExp

-- these expressions, where the variables are listed so
abbrev pub standing : List Listed → List IlExp → List Part
standing ls es = map (λ (e : IlExp). (ls, e)) es

-- The parts of a level: its operands, as they stand in the text. Those of an iteration are its
-- count, which stands outside of it, and its body.
abbrev pub parts_at : List Listed → Level → List Part
parts_at ls (IlExp-F.Iter how xs body) =
    standing ls (count_of how) ++ (listed_inside how xs ls, body) ∷ []
parts_at ls level = standing ls (operands_at item_exp segment_exps level)

-- the parts of an expression
abbrev pub parts_of : List Listed → IlExp → List Part
parts_of ls e = parts_at ls (out-IlExp e)
