-- Languages whose numbers, texts, tags and field names are those of values.
use Rattle.std.specs.Prelude.{◌≡◌, pos, List, [], ◌∷◌, ◌++◌}
use Rattle.std.specs.List.{AllByRecursion}
use Rattle.st_num.specs.Number.{IsNumber}
use Rattle.st_num.specs.Texts.{IsText}
use Rattle.st_il.specs.declared.definition.ClauseDef.{ClauseDef}
use Rattle.st_il.specs.declared.definition.Il.{Il}
use Rattle.st_il.specs.declared.definition.IlDef.{IlDef}
use Rattle.st_il.specs.declared.definition.IlDef.TheVariants.{Syntax, Rule, Clause}
use Rattle.st_il.specs.declared.definition.RuleDef.{RuleDef}
use Rattle.st_il.specs.declared.definition.SyntaxBody.{SyntaxBody}
use Rattle.st_il.specs.declared.definition.SyntaxBody.TheVariants as body
use Rattle.st_il.specs.declared.expression.IlExp.{IlExp, out-IlExp}
use Rattle.st_il.specs.declared.expression.IlExp.TheOpen.{IlExp-F}
use Rattle.st_il.specs.declared.expression.IlPrem.{IlPrem, out-IlPrem}
use Rattle.st_il.specs.declared.expression.IlPrem.TheOpen.{IlPrem-F}
use Rattle.st_il.specs.declared.expression.Iteration.{Iteration}
use Rattle.st_il.specs.declared.ty.Ty.{Ty}
use Rattle.st_il.specs.Names.{Name}
use Rattle.st_semantics.specs.Iterations.{count_of}
use Rattle.st_semantics.specs.Operands.{operands_at, item_exp, segment_exps}
use Rattle.st_semantics.specs.OperationTypes.{Level}

-- ---- expressions

-- a number at this level is in range, and a text or a tag is a text
abbrev pub IsProperAt : Level → Type 0
IsProperAt (IlExp-F.Number n) = IsNumber (pos n)
IsProperAt (IlExp-F.Text text) = IsText text
IsProperAt (IlExp-F.Case type tag es) = IsText tag
IsProperAt _ = Unit {0}

-- the parts of a level: its operands, or the count and the body of an iteration
abbrev pub parts_at : Level → List IlExp
parts_at (IlExp-F.Iter how xs body) = count_of how ++ body ∷ []
parts_at level = operands_at item_exp segment_exps level

mutual
  -- The numbers in an expression are in range, and its texts and tags are texts.
  pub data IsProperExp : IlExp → Type 0 where
    proper : {e : IlExp} → IsProperAt (out-IlExp e) → AreProperExps (parts_at (out-IlExp e))
        → IsProperExp e

  -- so it is in each of some expressions
  pub data AreProperExps : List IlExp → Type 0 where
    none : AreProperExps []
    more : {e : IlExp} {es : List IlExp} → IsProperExp e → AreProperExps es
        → AreProperExps (e ∷ es)

-- So it is in a premise.
pub data IsProperPrem : IlPrem → Type 0 where
  condition : {p : IlPrem} (e : IlExp) → out-IlPrem p ≡ IlPrem-F.If e → IsProperExp e
      → IsProperPrem p
  goal : {p : IlPrem} (relation : Name) (es : List IlExp)
      → out-IlPrem p ≡ IlPrem-F.Goal relation es → AreProperExps es → IsProperPrem p
  otherwise : {p : IlPrem} → out-IlPrem p ≡ IlPrem-F.Otherwise → IsProperPrem p
  each : {p : IlPrem} (how : Iteration) (xs : List Name) (body : IlPrem)
      → out-IlPrem p ≡ IlPrem-F.Each how xs body → AreProperExps (count_of how)
      → IsProperPrem body → IsProperPrem p

-- ---- definitions

-- the names of fields are texts
abbrev pub AreProperFields : List (Name × Ty) → Type 0
AreProperFields fields = AllByRecursion (λ (f : Name × Ty). IsText f.0) fields

-- so are those of a record type
abbrev pub IsProperBody : SyntaxBody → Type 0
IsProperBody (body.Alias t) = Unit {0}
IsProperBody (body.Variant alternatives) = Unit {0}
IsProperBody (body.Fields fields) = AreProperFields fields

-- so it is in a rule
abbrev pub IsProperRule : RuleDef → Type 0
IsProperRule r = AreProperExps r.conclusion × AllByRecursion IsProperPrem r.premises

-- so it is in a clause
abbrev pub IsProperClause : ClauseDef → Type 0
IsProperClause c =
    AreProperExps c.args × IsProperExp c.result × AllByRecursion IsProperPrem c.premises

-- so it is in a definition
abbrev pub IsProperDef : IlDef → Type 0
IsProperDef (Syntax s) = IsProperBody s.body
IsProperDef (Rule r) = IsProperRule r
IsProperDef (Clause c) = IsProperClause c
IsProperDef _ = Unit {0}

-- The numbers in a language are in range, and its texts, tags and names of fields are texts.
abbrev pub IsProper : Il → Type 0
IsProper il = AllByRecursion IsProperDef il.defs
