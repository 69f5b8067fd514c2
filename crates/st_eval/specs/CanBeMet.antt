-- A premise of a clause can be met where some variables are bound.
use Rattle.std.specs.Prelude.{◌≡◌, true, false, List, [], ◌∷◌, ◌++◌, Some}
use Rattle.st_il.specs.declared.definition.Il.{Il}
use Rattle.st_il.specs.declared.definition.Listed.{Listed}
use Rattle.st_il.specs.declared.expression.IlExp.{IlExp, out-IlExp}
use Rattle.st_il.specs.declared.expression.IlExp.TheOpen.{IlExp-F}
use Rattle.st_il.specs.declared.expression.Iteration.{Iteration}
use Rattle.st_il.specs.declared.expression.IlPrem.{IlPrem, out-IlPrem}
use Rattle.st_il.specs.declared.expression.IlPrem.TheOpen.{IlPrem-F}
use Rattle.st_il.specs.Names.{Name, has_name, all_known}
use Rattle.st_il.specs.Definitions.{syntaxes}
use Rattle.st_semantics.specs.Environments.{listed_names}
use Rattle.st_semantics.specs.Formed.{AreFormed, PremIsFormed}
use Rattle.st_semantics.specs.Iterations.{count_of, index_of}
use Rattle.st_semantics.specs.Scopes.{listed_inside}
use Rattle.st_semantics.specs.Variables.{prem_vars, cites}
use Rattle.st_semantics.specs.Executable.{Class, class_of}
use Rattle.st_semantics.specs.ModeRules.{has_one_open}
use Rattle.st_semantics.specs.Kinds.{IsKinded, NamesOccurring}
use Rattle.st_eval.specs.Elements.{IsEach}
use Rattle.st_eval.specs.Meeting.{IsCondition}

-- No iteration of a premise iterates the variable that is its count.
pub data CountsAreApart : IlPrem → Type 0 where
  plain : {p : IlPrem} → ((how : Iteration) (xs : List Name) (body : IlPrem)
      → out-IlPrem p ≡ IlPrem-F.Each how xs body → ⊥) → CountsAreApart p
  each : {p : IlPrem} (how : Iteration) (xs : List Name) (body : IlPrem)
      → out-IlPrem p ≡ IlPrem-F.Each how xs body
      → ((e : IlExp) (c : Name) → count_of how ≡ e ∷ [] → out-IlExp e ≡ IlExp-F.Var c
      → has_name xs c ≡ false) → CountsAreApart body → CountsAreApart p

-- A premise can be met, and so can what it repeats: it is a condition, an `otherwise`, or repeated.
pub data CanBeMet (il : Il) : List Name → List Listed → IlPrem → Type 0 where
  condition : {bound : List Name} {ls : List Listed} {p : IlPrem} (e : IlExp)
      → out-IlPrem p ≡ IlPrem-F.If e → IsCondition il bound ls e → CanBeMet il bound ls p
  otherwise : {bound : List Name} {ls : List Listed} {p : IlPrem}
      → out-IlPrem p ≡ IlPrem-F.Otherwise → CanBeMet il bound ls p
  each : {bound : List Name} {ls : List Listed} {p : IlPrem} (how : Iteration) (xs : List Name)
      (body : IlPrem) → IsEach il bound ls p how xs body → AreFormed (syntaxes il) (count_of how)
      → CanBeMet il (index_of how ++ bound) (listed_inside how xs ls) body
      → CanBeMet il bound ls p

-- A premise without a goal that can be run where some of what is bound is, its pattern with one part
-- of open length at most, can be met: where each record and each absent part in it fits its type,
-- its iterations name listed variables of their kind that occur inside, and not their counts.
abbrev pub LawOfMeeting : Il → Type 0
LawOfMeeting il =
    (bound : List Name) (ls : List Listed) (p : IlPrem) (few : List Name) (class : Class)
    → all_known bound few ≡ true → class_of il few p ≡ Some class
    → has_one_open (Some class) ≡ true → PremIsFormed (syntaxes il) p → NamesOccurring p
    → IsKinded ls p → CountsAreApart p → cites p ≡ false
    → all_known (listed_names ls) (bound ++ prem_vars p) ≡ true → CanBeMet il bound ls p
