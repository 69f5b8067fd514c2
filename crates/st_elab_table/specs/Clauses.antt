-- Clauses: what they are in the internal language, and the first breach in one.
use Rattle.std.specs.Prelude.{◌≡◌, List, [], ◌∷◌, ◌++◌, length, map}
use Rattle.st_num.specs.declared.span.Span.{Span}
use Rattle.st_num.specs.declared.rule.RuleId.TheVariants.{Y6}
use Rattle.st_el.specs.declared.expression.Exp.{Exp}
use Rattle.st_el.specs.declared.definition.Prem.{Prem}
use Rattle.st_il.specs.declared.expression.IlExp.{IlExp}
use Rattle.st_il.specs.declared.definition.FunDef.{FunDef}
use Rattle.st_il.specs.declared.definition.ClauseDef.{ClauseDef}
use Rattle.st_dims.specs.declared.mention.Mention.{Mention}
use Rattle.st_dims.specs.Mentions.{mentions_in}
use Rattle.st_elab_table.specs.declared.decls.Decls.{Decls}
use Rattle.st_elab_table.specs.declared.decls.Scope.{Scope}
use Rattle.st_elab_table.specs.Questions.{Question, Breach}
use Rattle.st_elab_table.specs.Steps.{each_asked, exp_of}
use Rattle.st_elab_table.specs.Elaboration.{around}
use Rattle.st_elab_table.specs.Parts.{AskedAs, Breaks}
use Rattle.st_elab_table.specs.Inside.{ElabInside, InsideBreach}
use Rattle.st_elab_table.specs.Judgements.{broken}
use Rattle.st_elab_table.specs.Premises.{ElabPrems, PremsBreach}
use Rattle.st_elab_table.specs.Scopes.{IsScope, VariableBreach, listed}

-- the parts of a clause
pub record ClauseParts : Type 0 where
  pub args : List Exp
  pub result : Exp
  pub premises : List Prem

-- a clause with these arguments, this result and these premises
abbrev pub parts_of : List Exp → Exp → List Prem → ClauseParts
parts_of args result premises = record { args = args; result = result; premises = premises }

-- what a clause mentions: in its arguments and its result, and then in its premises
abbrev pub mentions_of : ClauseParts → List Mention
mentions_of c = mentions_in (c.args ++ c.result ∷ []) c.premises

-- there is an argument for each parameter
abbrev pub HasArguments : FunDef → ClauseParts → Type 0
HasArguments f c = length c.args ≡ length f.params

-- the arguments, at the types of the parameters
abbrev pub argument_questions : Scope → FunDef → ClauseParts → List Question
argument_questions S f c = each_asked (around S) c.args f.params

-- A clause of this function is elaborated, in the scope of its variables.
pub record ElabClause (D : Decls) (f : FunDef) (c : ClauseParts) (clause : ClauseDef) : Type 0 where
  pub scope : Scope
  pub number : HasArguments f c
  pub is_scope : IsScope D (mentions_of c) scope
  pub fun_is : clause.fun ≡ f.name
  pub variables_are : clause.variables ≡ map listed scope.variables
  pub arguments : AskedAs D scope (argument_questions scope f c) IlExp exp_of clause.args
  pub result_is : ElabInside D scope (around scope) c.result f.result clause.result
  pub holding : ElabPrems D scope (around scope) c.premises clause.premises

-- The first breach in a clause at this place: in the number of its arguments, at its variables,
-- in its arguments, its result or its premises.
pub data ClauseBreach (D : Decls) (f : FunDef) (at : Span) (c : ClauseParts)
    : Breach → Type 0 where
  in_number : (HasArguments f c → ⊥) → ClauseBreach D f at c (broken at Y6)
  at_variable : {b : Breach} → HasArguments f c → VariableBreach D (mentions_of c) b
      → ClauseBreach D f at c b
  in_arguments : {b : Breach} (S : Scope) → HasArguments f c → IsScope D (mentions_of c) S
      → Breaks D S (argument_questions S f c) b → ClauseBreach D f at c b
  in_result : {b : Breach} (S : Scope) (xs : List IlExp) → HasArguments f c
      → IsScope D (mentions_of c) S → AskedAs D S (argument_questions S f c) IlExp exp_of xs
      → InsideBreach D S (around S) c.result f.result b → ClauseBreach D f at c b
  in_premises : {b : Breach} (S : Scope) (xs : List IlExp) (x : IlExp) → HasArguments f c
      → IsScope D (mentions_of c) S → AskedAs D S (argument_questions S f c) IlExp exp_of xs
      → ElabInside D S (around S) c.result f.result x → PremsBreach D S (around S) c.premises b
      → ClauseBreach D f at c b
