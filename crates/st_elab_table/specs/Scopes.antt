-- The variables of a rule or clause, with their types and dimensions.
use Rattle.std.specs.Prelude.{◌≡◌, List, [], map, filter, Bool, true, false, Option, Some, None}
use Rattle.std.specs.List.{AllByRecursion}
use Rattle.st_num.specs.declared.span.Span.{Span}
use Rattle.st_num.specs.declared.rule.RuleId.TheVariants.{B3, I1, I2}
use Rattle.st_il.specs.declared.ty.Ty.{Ty}
use Rattle.st_il.specs.declared.definition.Listed.{Listed}
use Rattle.st_dims.specs.declared.mention.Occurrence.{Occurrence}
use Rattle.st_dims.specs.declared.mention.Mention.{Mention}
use Rattle.st_dims.specs.Mentions.{occurrences_in}
use Rattle.st_dims.specs.Dimensions.{Table, IsOnlyTable}
use Rattle.st_dims.specs.Breaches.{IsFirst, IsSound, IsMisplaced, IsIdle}
use Rattle.st_elab_table.specs.declared.decls.Decls.{Decls}
use Rattle.st_elab_table.specs.declared.decls.Scope.{Scope}
use Rattle.st_elab_table.specs.Questions.{Breach}
use Rattle.st_elab_table.specs.Iterations.{Variable}
use Rattle.st_elab_table.specs.Variables.{type_of_name}
use Rattle.st_elab_table.specs.Judgements.{broken}

-- there is no type
abbrev pub is_none : Option Ty → Bool
is_none None = true
is_none (Some t) = false

-- the occurrence is of a name that leads to no type
abbrev pub is_untyped : Decls → Occurrence → Bool
is_untyped D occurrence = is_none (type_of_name D occurrence.name)

-- the places of the occurrences whose names lead to no type, in the order of the text
abbrev pub untyped : Decls → List Mention → List Span
untyped D mentions =
    map (λ occurrence. occurrence.at) (filter (is_untyped D) (occurrences_in mentions))

-- the variables with their dimensions alone
abbrev pub table_of : List Variable → Table
table_of variables = map (λ (v : Variable). (v.0, v.2)) variables

-- The variable has the type that its name leads to.
abbrev pub HasItsType : Decls → Variable → Type 0
HasItsType D v = type_of_name D v.0 ≡ Some v.1

-- The scope of a rule or clause that mentions this:
-- each variable with its type and dimension, where no rule on either is broken.
pub record IsScope (D : Decls) (mentions : List Mention) (S : Scope) : Type 0 where
  pub typed : untyped D mentions ≡ []
  pub dimensions : IsOnlyTable mentions (table_of S.variables)
  pub sound : IsSound mentions (table_of S.variables)
  pub types : AllByRecursion (HasItsType D) S.variables
  pub around : S.around ≡ []

-- The first breach at a variable: of its type, or else of its dimension.
pub data VariableBreach (D : Decls) (mentions : List Mention) : Breach → Type 0 where
  no_type : (at : Span) → IsFirst (Some at) (untyped D mentions)
      → VariableBreach D mentions (broken at B3)
  misplaced : (at : Span) → untyped D mentions ≡ [] → IsMisplaced mentions at
      → VariableBreach D mentions (broken at I1)
  idle : (at : Span) → untyped D mentions ≡ [] → IsIdle mentions at
      → VariableBreach D mentions (broken at I2)

-- a variable, as a rule or clause lists it
abbrev pub listed : Variable → Listed
listed v = record { name = v.0; ty = v.1; dim = v.2 }
