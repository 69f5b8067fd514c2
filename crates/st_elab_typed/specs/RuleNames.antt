-- When the iterations of a premise, a rule or a clause name exactly the variables that they go over.
use Rattle.std.specs.Prelude.{◌≡◌, List, [], ◌∷◌, ◌++◌, IsTrue}
use Rattle.std.specs.List.{AllByRecursion}
use Rattle.st_il.specs.declared.definition.ClauseDef.{ClauseDef}
use Rattle.st_il.specs.declared.definition.IlDef.{IlDef}
use Rattle.st_il.specs.declared.definition.IlDef.TheVariants.{Rule, Clause}
use Rattle.st_il.specs.declared.definition.Listed.{Listed}
use Rattle.st_il.specs.declared.definition.RuleDef.{RuleDef}
use Rattle.st_il.specs.declared.expression.IlExp.{IlExp}
use Rattle.st_il.specs.declared.expression.IlPrem.{IlPrem, out-IlPrem}
use Rattle.st_il.specs.declared.expression.IlPrem.TheOpen.{IlPrem-F}
use Rattle.st_il.specs.declared.expression.Iteration.{Iteration}
use Rattle.st_il.specs.Names.{Name}
use Rattle.st_semantics.specs.Iterations.{count_of}
use Rattle.st_semantics.specs.Scopes.{listed_inside}
use Rattle.st_ilcheck.specs.Naming.{each_kept}
use Rattle.st_ilcheck.specs.Parts.{standing}
use Rattle.st_ilcheck.specs.Typed.{KeepsVariables}
use Rattle.st_elab_typed.specs.KeepsNames.{KeepsNames, AllKeepNames}

-- Where the variables are listed so, each iteration in the premise names exactly what it goes over,
-- and repeats no `otherwise`.
pub data PremKeepsNames : List Listed → IlPrem → Type 0 where
  condition : {ls : List Listed} {p : IlPrem} (e : IlExp) → out-IlPrem p ≡ IlPrem-F.If e
      → KeepsNames ls e → PremKeepsNames ls p
  goal : {ls : List Listed} {p : IlPrem} (relation : Name) (es : List IlExp)
      → out-IlPrem p ≡ IlPrem-F.Goal relation es → AllKeepNames (standing ls es)
      → PremKeepsNames ls p
  otherwise : {ls : List Listed} {p : IlPrem} → out-IlPrem p ≡ IlPrem-F.Otherwise
      → PremKeepsNames ls p
  each : {ls : List Listed} {p : IlPrem} (how : Iteration) (xs : List Name) (body : IlPrem)
      → out-IlPrem p ≡ IlPrem-F.Each how xs body → AllKeepNames (standing ls (count_of how))
      → IsTrue (each_kept how xs ls body)
      → PremKeepsNames (listed_inside how xs ls) body → PremKeepsNames ls p

-- In a rule T2 is kept, and T14 by its iterations.
pub record RuleKeepsNames (r : RuleDef) : Type 0 where
  pub variables : KeepsVariables (Rule r)
  pub conclusion : AllKeepNames (standing r.variables r.conclusion)
  pub premises : AllByRecursion (PremKeepsNames r.variables) r.premises

-- So it is in a clause.
pub record ClauseKeepsNames (c : ClauseDef) : Type 0 where
  pub variables : KeepsVariables (Clause c)
  pub arguments : AllKeepNames (standing c.variables (c.args ++ c.result ∷ []))
  pub premises : AllByRecursion (PremKeepsNames c.variables) c.premises

-- Each iteration in a definition names exactly what it goes over, and repeats no `otherwise`.
abbrev pub DefKeepsNames : IlDef → Type 0
DefKeepsNames (Rule r) =
    AllKeepNames (standing r.variables r.conclusion)
    × AllByRecursion (PremKeepsNames r.variables) r.premises
DefKeepsNames (Clause c) =
    AllKeepNames (standing c.variables (c.args ++ c.result ∷ []))
    × AllByRecursion (PremKeepsNames c.variables) c.premises
DefKeepsNames _ = Unit {0}
