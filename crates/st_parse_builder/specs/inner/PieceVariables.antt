-- The variables of the pieces on a stack.
use Rattle.std.specs.Prelude.{ℕ, List, [], ◌∷◌, ◌++◌, flat_map}
use Rattle.st_el.specs.declared.expression.Exp.{Exp}
use Rattle.st_parse_builder.specs.declared.piece.Piece.{Piece}
use Rattle.st_parse_builder.specs.declared.piece.Piece.TheVariants.{Done, Parts, Fields, Path, Label, Here}
use Rattle.st_parse_builder.specs.Variables.{Occurrence, variables, seg_variables}

-- the variables that occur in the expression of a field
abbrev pub field_variables : List ℕ × Exp → List Occurrence
field_variables f = variables f.1

-- the variables that occur in a piece
abbrev pub piece_variables : Piece → List Occurrence
piece_variables (Done e) = variables e
piece_variables (Parts at es) = flat_map variables es
piece_variables (Fields at fs) = flat_map field_variables fs
piece_variables (Path ps) = flat_map seg_variables ps
piece_variables (Label name) = []
piece_variables (Here at) = []

-- those of all pieces, of which the innermost is the last in the text
abbrev pub stack_variables : List Piece → List Occurrence
stack_variables [] = []
stack_variables (p ∷ s) = stack_variables s ++ piece_variables p
