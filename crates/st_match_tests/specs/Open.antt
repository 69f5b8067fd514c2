-- Patterns that are several lists, one behind the other.
use Rattle.std.specs.Prelude.{◌≡◌, ℕ, true, List, [], ◌∷◌, map}
use Rattle.std.specs.List.{list_all}
use Rattle.st_il.specs.declared.definition.SyntaxDef.{SyntaxDef}
use Rattle.st_il.specs.declared.expression.IlExp.{IlExp}
use Rattle.st_il.specs.declared.expression.IlExp.TheVariants as exp
use Rattle.st_il.specs.declared.expression.Iteration.TheVariants as iteration
use Rattle.st_il.specs.declared.expression.ListItem.{ListItem}
use Rattle.st_il.specs.declared.expression.ListItem.TheVariants as item
use Rattle.st_il.specs.declared.ty.Ty.TheVariants as ty
use Rattle.st_il.specs.Names.{all_known}
use Rattle.st_semantics.specs.Formed.{IsFormed, AreFormed}
use Rattle.st_semantics.specs.Variables.{vars, vars_of}
use Rattle.st_semantics.specs.Patterns.{is_pattern, binds, bound_by}

-- the part of a list that is all elements of a variable
abbrev pub part_of : List ℕ → ListItem
part_of x = item.All (exp.Iter iteration.Star (x ∷ []) (exp.Var x))

-- the list of all elements of these variables, one behind the other
abbrev pub list_of : List (List ℕ) → IlExp
list_of xs = exp.List ty.Nat (map part_of xs)

-- a pattern that binds all its variables, and has a form in all its parts
pub record IsOpen (p : IlExp) : Type 0 where
  pub pattern : is_pattern p ≡ true
  pub formed : (defs : List SyntaxDef) → IsFormed defs p
  pub known : all_known (binds p) (vars p) ≡ true

-- several patterns that bind all their variables, and have a form in all their parts
pub record AreOpen (ps : List IlExp) : Type 0 where
  pub patterns : list_all is_pattern ps ≡ true
  pub formed : (defs : List SyntaxDef) → AreFormed defs ps
  pub known : all_known (bound_by ps) (vars_of ps) ≡ true
