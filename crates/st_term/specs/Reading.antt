-- How the text of a term or a query is read, and the first rule that it breaks.
use Rattle.std.specs.Prelude.{◌≡◌, ℕ, ◌≤◌, List, [], ◌∷◌, length, map, Option, Some, None}
use Rattle.st_num.specs.declared.limit.TheConstants.{HIGHEST_TREE}
use Rattle.st_num.specs.declared.span.Span.{Span}
use Rattle.st_num.specs.declared.rule.RuleId.{RuleId}
use Rattle.st_num.specs.declared.rule.RuleId.TheVariants.{Y6, Y8}
use Rattle.st_num.specs.declared.token.Token.{Token}
use Rattle.st_scan.specs.Tokens.{Tokens}
use Rattle.st_scan.specs.Faults.{FirstFault}
use Rattle.st_el.specs.declared.expression.Exp.{Exp}
use Rattle.st_parse_builder.specs.Heights.{highest, height}
use Rattle.st_parse.specs.ExpressionSource.{IsFile, FaultAt, HeightFault}
use Rattle.st_il.specs.declared.ty.Ty.{Ty}
use Rattle.st_il.specs.declared.expression.IlExp.{IlExp}
use Rattle.st_il.specs.declared.value.Value.{Value}
use Rattle.st_elab_table.specs.declared.decls.Decls.{Decls}
use Rattle.st_elab_table.specs.declared.decls.Scope.{Scope}
use Rattle.st_elab_table.specs.Questions.{Question, Breach}
use Rattle.st_elab_table.specs.Steps.{exp_of, each_asked}
use Rattle.st_elab_table.specs.Elaboration.{around, Infer, InferBreach}
use Rattle.st_elab_table.specs.Parts.{Breaks, AskedAs}
use Rattle.st_term.specs.Foreign.{first_foreign, first_open}
use Rattle.st_term.specs.TermValue.{AreTermValues}

-- ---- texts

-- the names that are declared by `var`
abbrev pub variables_of : Decls → List (List ℕ)
variables_of D = map (λ (v : List ℕ × Ty). v.0) D.vars

-- the bytes are the text of these expressions, which keep the limits
pub record IsTextOf (D : Decls) (bytes : List ℕ) (exps : List Exp) : Type 0 where
  pub tokens : List Token
  pub scanned : Tokens 0 bytes tokens
  pub parsed : IsFile (variables_of D) tokens exps
  pub low : highest (map height exps) ≤ HIGHEST_TREE

-- The first fault of the bytes as the text of expressions.
pub data TextBreach (D : Decls) (bytes : List ℕ) (b : Breach) : Type 0 where
  -- a place is no token
  no_token : FirstFault 0 bytes b.at b.rule → TextBreach D bytes b
  -- the tokens break the grammar or a limit
  no_file : (tokens : List Token) → Tokens 0 bytes tokens
      → FaultAt (variables_of D) tokens b.at b.rule → TextBreach D bytes b
  -- an expression is too high
  too_high : (tokens : List Token) → Tokens 0 bytes tokens
      → HeightFault (variables_of D) tokens b.at b.rule → TextBreach D bytes b

-- The bytes are the text of expressions that are read as this.
pub record IsReading (D : Decls) (bytes : List ℕ) (A : Type 0) (Reads : List Exp → A → Type 0)
    (x : A) : Type 0 where
  pub exps : List Exp
  pub text : IsTextOf D bytes exps
  pub reads : Reads exps x

-- The first rule that the bytes break: as a text, or by the expressions that they are the text of.
pub data IsBreach (D : Decls) (bytes : List ℕ) (Refuses : List Exp → Breach → Type 0)
    (b : Breach) : Type 0 where
  in_text : TextBreach D bytes b → IsBreach D bytes Refuses b
  in_expressions : (exps : List Exp) → IsTextOf D bytes exps → Refuses exps b
      → IsBreach D bytes Refuses b

-- where a text begins
abbrev pub beginning : Span
beginning = record { file = 0; line = 1; column = 1 }

-- a scope without variables, in no iteration
abbrev pub closed : Scope
closed = record { variables = []; around = [] }

-- ---- terms

-- the questions what each expression is, at the type of its hole
abbrev pub questions : List Exp → List Ty → List Question
questions exps holes = each_asked (around closed) exps holes

-- the expressions are a term with these values: value forms, one for each hole, elaborated at its
-- type
pub record IsTermOf (D : Decls) (holes : List Ty) (exps : List Exp) (values : List Value)
    : Type 0 where
  pub value_forms : first_foreign exps ≡ None
  pub counted : length exps ≡ length holes
  pub elaborated : List IlExp
  pub at_holes : AskedAs D closed (questions exps holes) IlExp exp_of elaborated
  pub have_values : AreTermValues D.types elaborated values

-- The first rule that the expressions break as a term for these holes.
pub data TermBreach (D : Decls) (holes : List Ty) (exps : List Exp) (b : Breach) : Type 0 where
  -- a part is no value form
  foreign_part : first_foreign exps ≡ Some b.at → b.rule ≡ Y8 → TermBreach D holes exps b
  -- there are more or fewer expressions than holes
  other_number : first_foreign exps ≡ None → (length exps ≡ length holes → ⊥)
      → b ≡ record { at = beginning; rule = Y6 } → TermBreach D holes exps b
  -- an expression does not suit its hole
  unsuited : first_foreign exps ≡ None → length exps ≡ length holes
      → Breaks D closed (questions exps holes) b → TermBreach D holes exps b

-- The bytes are the text of a term with these values, one for each hole.
abbrev pub IsTerm : Decls → List Ty → List ℕ → List Value → Type 0
IsTerm D holes bytes values = IsReading D bytes (List Value) (IsTermOf D holes) values

-- the first rule that the bytes break as the text of a term
abbrev pub IsTermBreach : Decls → List Ty → List ℕ → Breach → Type 0
IsTermBreach D holes bytes b = IsBreach D bytes (TermBreach D holes) b

-- ---- queries

-- the expressions are a query, elaborated to this: one expression, of whatever type
pub record IsQueryOf (D : Decls) (exps : List Exp) (x : IlExp) : Type 0 where
  pub closed_parts : first_open exps ≡ None
  pub exp : Exp
  pub one : exps ≡ exp ∷ []
  pub type : Ty
  pub elaborated : Infer D closed exp x type

-- The first rule that the expressions break as a query.
pub data QueryBreach (D : Decls) (exps : List Exp) (b : Breach) : Type 0 where
  -- a part is a variable, or an iteration that goes over variables
  open_part : first_open exps ≡ Some b.at → b.rule ≡ Y8 → QueryBreach D exps b
  -- there is not one expression
  not_one : first_open exps ≡ None → (length exps ≡ 1 → ⊥)
      → b ≡ record { at = beginning; rule = Y6 } → QueryBreach D exps b
  -- the expression has no type
  untyped : (exp : Exp) → first_open exps ≡ None → exps ≡ exp ∷ []
      → InferBreach D closed exp b → QueryBreach D exps b

-- The bytes are the text of a query, elaborated to this.
abbrev pub IsQuery : Decls → List ℕ → IlExp → Type 0
IsQuery D bytes x = IsReading D bytes IlExp (IsQueryOf D) x

-- the first rule that the bytes break as the text of a query
abbrev pub IsQueryBreach : Decls → List ℕ → Breach → Type 0
IsQueryBreach D bytes b = IsBreach D bytes (QueryBreach D) b
