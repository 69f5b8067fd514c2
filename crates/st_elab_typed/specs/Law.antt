-- The law of typing: what is elaborated has its type in the internal language.
use Rattle.std.specs.Prelude.{◌≡◌, List, [], map, All, Some}
use Rattle.st_num.specs.declared.span.Span.{Span}
use Rattle.st_el.specs.declared.expression.Exp.{Exp}
use Rattle.st_el.specs.declared.expression.Count.{Count, out-Count}
use Rattle.st_il.specs.declared.definition.Il.{Il}
use Rattle.st_il.specs.declared.definition.Listed.{Listed}
use Rattle.st_il.specs.declared.expression.IlExp.{IlExp}
use Rattle.st_il.specs.declared.expression.Iteration.{Iteration}
use Rattle.st_il.specs.declared.ty.Ty.{Ty}
use Rattle.st_type_table.specs.Breach.{IsSound}
use Rattle.st_type_table.specs.Same.{Same}
use Rattle.st_dims.specs.declared.within.Within.{Within}
use Rattle.st_dims.specs.Around.{index_at, outside, inside}
use Rattle.st_il.specs.Names.{Name}
use Rattle.st_il.specs.Definitions.{syntaxes, funs_in}
use Rattle.st_semantics.specs.Environments.{listed_as}
use Rattle.st_semantics.specs.Iterations.{index_of}
use Rattle.st_semantics.specs.Scopes.{listed_inside}
use Rattle.st_elab_table.specs.declared.decls.Decls.{Decls}
use Rattle.st_elab_table.specs.declared.decls.Scope.{Scope}
use Rattle.st_elab_table.specs.Inferred.{variable_type}
use Rattle.st_elab_table.specs.Questions.{Manner, check, infer, Made, Gives}
use Rattle.st_elab_table.specs.Elaboration.{Answered}
use Rattle.st_elab_table.specs.Scopes.{listed}
use Rattle.st_ilcheck.specs.Typings.{HasTyping}
use Rattle.st_ilcheck.specs.Variables.{occurrences, IsListed}
use Rattle.st_elab_typed.specs.KeepsNames.{KeepsNames}

-- what is declared is what the internal language declares
pub record IsDeclaredIn (il : Il) (D : Decls) : Type 0 where
  pub types : D.types ≡ syntaxes il
  pub funs : D.funs ≡ funs_in il.defs

-- each variable is listed with the type that it has inside of this
abbrev pub AreListedAs : Decls → Scope → Within → List Listed → Type 0
AreListedAs D S w ls =
    (x : Name) (l : Listed) → listed_as x ls ≡ Some l → variable_type D S w x ≡ Some l.ty

-- the expression has a type that is equal to this one through aliases, and breaks no rule
pub record IsOfType (il : Il) (ls : List Listed) (e : IlExp) (t : Ty) : Type 0 where
  pub own : Ty
  pub typing : HasTyping il ls e (Some own) []
  pub same : Same (syntaxes il) own t

-- Where the variables are listed so, each occurrence in the expression is of a listed variable, and
-- the iterations round it begin with its dimension; and each iteration names exactly the variables
-- that it goes over.
pub record NamesAreKept (ls : List Listed) (e : IlExp) : Type 0 where
  pub listed : All (IsListed ls) (occurrences e)
  pub iterations : KeepsNames ls e

-- What an expression is elaborated to at a type is of that type, inside of whatever iterations,
-- where its names are kept.
abbrev pub CheckedIsTyped : Type 0
CheckedIsTyped = (il : Il) (D : Decls) (S : Scope) → IsDeclaredIn il D → IsSound D.types
    → (w : Within) (at : Span) (p : Manner) (e : Exp) (t : Ty) (m : Made)
    → Answered D S (check w at p e t) (Gives m)
    → (ls : List Listed) → AreListedAs D S w ls → NamesAreKept ls m.exp → IsOfType il ls m.exp t

-- What an expression is elaborated to without a type being asked has the type that is told, and
-- breaks no rule.
abbrev pub InferredIsTyped : Type 0
InferredIsTyped = (il : Il) (D : Decls) (S : Scope) → IsDeclaredIn il D → IsSound D.types
    → (w : Within) (at : Span) (e : Exp) (m : Made) → Answered D S (infer w at e) (Gives m)
    → (ls : List Listed) → AreListedAs D S w ls → NamesAreKept ls m.exp
    → HasTyping il ls m.exp (Some m.ty) []

-- ---- the variables as they are listed

-- The variables of a scope are listed with their types, where there is no iteration; and inside of
-- an iteration that goes as it was written those that are listed inside are.
pub record ListingKeepsTypes (D : Decls) (S : Scope) : Type 0 where
  pub outside : AreListedAs D S outside (map listed S.variables)
  pub inside : (w : Within) (c : Count) (how : Iteration) (xs : List Name) (ls : List Listed)
      → index_of how ≡ index_at (out-Count c) → AreListedAs D S w ls
      → AreListedAs D S (inside w c) (listed_inside how xs ls)
