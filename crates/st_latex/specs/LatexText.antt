-- The LaTeX text of definitions: each is a line, and a rule is a fraction.
use Rattle.std.specs.Prelude.{ℕ, List, [], ◌∷◌, ◌++◌, map, flat_map, codes, Bool, true, false, Option, Some, None}
use Rattle.st_el.specs.SourceText.{separated}
use Rattle.st_el.specs.declared.ty.Typ.{Typ}
use Rattle.st_el.specs.declared.expression.Exp.{Exp}
use Rattle.st_el.specs.declared.notation.Notation.{Notation}
use Rattle.st_el.specs.declared.definition.Prem.{Prem}
use Rattle.st_el.specs.declared.definition.Def.{Def}
use Rattle.st_el.specs.declared.definition.DefNode.{DefNode}
use Rattle.st_el.specs.declared.definition.DefNode.TheVariants.{Syntax, Var, Relation, Rule, Fun, Clause}
use Rattle.st_el.specs.declared.definition.Body.{Body}
use Rattle.st_el.specs.declared.definition.Body.TheVariants.{Alias, Cases, Fields}
use Rattle.st_latex.specs.Tokens.{token, variable, label, function}
use Rattle.st_latex.specs.Parts.{arguments, record_text}
use Rattle.st_latex.specs.Types.{latex_typ, latex_notation}
use Rattle.st_latex.specs.Expressions.{latex_exp}
use Rattle.st_latex.specs.Premises.{latex_prem}

-- what stands before the first alternative: dots and a bar, or a bar where there are several
abbrev pub leading : Bool → List Notation → List ℕ
leading true alternatives = token (codes "\\dots") ++ token (codes "\\mid")
leading false (first ∷ second ∷ others) = token (codes "\\mid")
leading false alternatives = []

-- what stands behind the last alternative: a bar and dots, where the source has them
abbrev pub trailing : Bool → List ℕ
trailing true = token (codes "\\mid") ++ token (codes "\\dots")
trailing false = []

-- the alternatives of a syntax with bars between them
abbrev pub alternatives_text : List Notation → List ℕ
alternatives_text alternatives = separated (token (codes "\\mid")) (map latex_notation alternatives)

-- a declared field, with the tokens of its type
abbrev pub declared_field : List ℕ × Typ → List ℕ × List ℕ
declared_field field = (field.0, latex_typ field.1)

-- the tokens of the body of a syntax
abbrev pub body : Body → List ℕ
body (Alias typ) = latex_typ typ
body (Cases before alternatives after) =
    leading before alternatives ++ alternatives_text alternatives ++ trailing after
body (Fields fields) = record_text (map declared_field fields)

-- a fragment behind the name of its syntax
abbrev pub fragment_text : Option (List ℕ) → List ℕ
fragment_text None = []
fragment_text (Some name) = token (codes "/") ++ label name

-- the full name of a rule
abbrev pub full_name : List ℕ → List ℕ → List ℕ
full_name relation [] = relation
full_name relation name = relation ++ codes "/" ++ name

-- a rule: its premises over its conclusion, and its full name
abbrev pub rule : List ℕ → List ℕ → Exp → List Prem → List ℕ
rule relation name conclusion premises =
    token (codes "\\frac{") ++ separated (token (codes "\\quad")) (map latex_prem premises)
    ++ token (codes "}{") ++ latex_exp conclusion ++ token (codes "}")
    ++ label (full_name relation name)

-- the premises of a clause, each behind its `--`
abbrev pub conditions : List Prem → List ℕ
conditions premises = flat_map (λ prem. token (codes "--") ++ latex_prem prem) premises

-- a syntax: its name, its fragment and its body
abbrev pub syntax_text : List ℕ → Option (List ℕ) → Body → List ℕ
syntax_text name fragment is =
    variable name ++ fragment_text fragment ++ token (codes "=") ++ body is

-- the declaration of a function: its name, its parameters and its result
abbrev pub signature : List ℕ → List Typ → Typ → List ℕ
signature name params result =
    function name ++ arguments (map latex_typ params) ++ token (codes ":") ++ latex_typ result

-- a clause of a function: its arguments, its result and its premises
abbrev pub clause : List ℕ → List Exp → Exp → List Prem → List ℕ
clause name args result premises =
    function name ++ arguments (map latex_exp args) ++ token (codes "=") ++ latex_exp result
    ++ conditions premises

-- the tokens of a definition, without its hints and its first word
abbrev pub def_node : DefNode → List ℕ
def_node (Syntax name fragment is) = syntax_text name fragment is
def_node (Var name typ) = variable name ++ token (codes ":") ++ latex_typ typ
def_node (Relation name notation) = label name ++ token (codes ":") ++ latex_notation notation
def_node (Rule relation name conclusion premises) = rule relation name conclusion premises
def_node (Fun name params result) = signature name params result
def_node (Clause name args result premises) = clause name args result premises

-- a definition is one line of tokens between `\[` and `\]`
abbrev pub line : Def → List ℕ
line def = codes "\\[" ++ def_node def.node ++ token (codes "\\]") ++ codes "\n"

-- the LaTeX text of definitions
abbrev pub latex_text : List Def → List ℕ
latex_text defs = flat_map line defs
