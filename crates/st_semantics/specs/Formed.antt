-- Expressions that have a form in all their parts: each record has the fields of its type, and each
-- absent part is of a list or an option.
use Rattle.std.specs.Prelude.{◌≡◌, List, [], ◌∷◌, All}
use Rattle.st_il.specs.declared.definition.ClauseDef.{ClauseDef}
use Rattle.st_il.specs.declared.definition.Il.{Il}
use Rattle.st_il.specs.declared.definition.RuleDef.{RuleDef}
use Rattle.st_il.specs.declared.definition.SyntaxDef.{SyntaxDef}
use Rattle.st_il.specs.declared.expression.IlExp.{IlExp}
use Rattle.st_il.specs.declared.expression.IlPrem.{IlPrem, out-IlPrem}
use Rattle.st_il.specs.declared.expression.IlPrem.TheOpen.{IlPrem-F}
use Rattle.st_il.specs.declared.expression.Iteration.{Iteration}
use Rattle.st_il.specs.Names.{Name}
use Rattle.st_il.specs.Definitions.{syntaxes, rules_in, clauses_in}
use Rattle.st_semantics.specs.Parts.{Operation}
use Rattle.st_semantics.specs.Forms.{HasForm, Strict, Variable, Calls, Iterates}
use Rattle.st_semantics.specs.Iterations.{count_of}

mutual
  -- An expression has a form, and so have its parts.
  pub data IsFormed (defs : List SyntaxDef) : IlExp → Type 0 where
    strict : {e : IlExp} (es : List IlExp) (f : Operation) → HasForm defs e (Strict es f)
        → AreFormed defs es → IsFormed defs e
    variable : {e : IlExp} (x : Name) → HasForm defs e (Variable x) → IsFormed defs e
    call : {e : IlExp} (fun : Name) (args : List IlExp) → HasForm defs e (Calls fun args)
        → AreFormed defs args → IsFormed defs e
    iteration : {e : IlExp} (how : Iteration) (xs : List Name) (body : IlExp)
        → HasForm defs e (Iterates how xs body) → AreFormed defs (count_of how)
        → IsFormed defs body → IsFormed defs e

  -- each of some expressions does
  pub data AreFormed (defs : List SyntaxDef) : List IlExp → Type 0 where
    none : AreFormed defs []
    more : {e : IlExp} {es : List IlExp} → IsFormed defs e → AreFormed defs es
        → AreFormed defs (e ∷ es)

-- the result of each clause does
abbrev pub ResultsAreFormed : Il → Type 0
ResultsAreFormed il =
    All (λ (c : ClauseDef). IsFormed (syntaxes il) c.result) (clauses_in il.defs)

-- The expressions of a premise have a form in all their parts.
pub data PremIsFormed (defs : List SyntaxDef) : IlPrem → Type 0 where
  condition : {p : IlPrem} (e : IlExp) → out-IlPrem p ≡ IlPrem-F.If e → IsFormed defs e
      → PremIsFormed defs p
  goal : {p : IlPrem} (relation : Name) (es : List IlExp)
      → out-IlPrem p ≡ IlPrem-F.Goal relation es → AreFormed defs es → PremIsFormed defs p
  otherwise : {p : IlPrem} → out-IlPrem p ≡ IlPrem-F.Otherwise → PremIsFormed defs p
  each : {p : IlPrem} (how : Iteration) (xs : List Name) (body : IlPrem)
      → out-IlPrem p ≡ IlPrem-F.Each how xs body → AreFormed defs (count_of how)
      → PremIsFormed defs body → PremIsFormed defs p

-- so have the conclusion and the premises of a rule
abbrev pub RuleIsFormed : Il → RuleDef → Type 0
RuleIsFormed il r =
    AreFormed (syntaxes il) r.conclusion × All (PremIsFormed (syntaxes il)) r.premises

-- all rules have
abbrev pub RulesAreFormed : Il → Type 0
RulesAreFormed il = All (RuleIsFormed il) (rules_in il.defs)
