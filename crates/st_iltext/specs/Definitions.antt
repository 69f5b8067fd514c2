-- The trees of definitions: a line for each form.
use Rattle.std.specs.Prelude.{ℕ, List, [], ◌∷◌, map, Bool, true, false, codes}
use Rattle.st_num.specs.declared.dim.Kind.{Kind}
use Rattle.st_num.specs.declared.dim.Kind.TheVariants as kind
use Rattle.st_il.specs.declared.definition.Alternative.{Alternative}
use Rattle.st_il.specs.declared.definition.Alternative.TheVariants.{Case, Incl}
use Rattle.st_il.specs.declared.definition.IlDef.{IlDef}
use Rattle.st_il.specs.declared.definition.IlDef.TheVariants.{Syntax, Var, Relation, Rule, Fun, Clause}
use Rattle.st_il.specs.declared.definition.Listed.{Listed}
use Rattle.st_il.specs.declared.definition.SyntaxBody.{SyntaxBody}
use Rattle.st_il.specs.declared.definition.SyntaxBody.TheVariants.{Alias, Variant, Fields}
use Rattle.st_il.specs.declared.ty.Ty.{Ty}
use Rattle.st_text.specs.Text.{TextTree, word, quote}
use Rattle.st_iltext.specs.Expressions.{group, form, ty_tree, exp_tree, prem_tree}

-- the tree of an alternative of a variant: a case, or another variant that it includes
abbrev pub alternative_tree : Alternative → TextTree
alternative_tree (Case tag operands) = form (codes "case") (quote tag ∷ map ty_tree operands)
alternative_tree (Incl y) = form (codes "incl") (quote y ∷ [])

-- the tree of a field of a record: its name and its type
abbrev pub field_tree : List ℕ × Ty → TextTree
field_tree field = group (quote field.0 ∷ ty_tree field.1 ∷ [])

-- the tree of what a syntax is: an alias, a variant or a record
abbrev pub body_tree : SyntaxBody → TextTree
body_tree (Alias t) = form (codes "alias") (ty_tree t ∷ [])
body_tree (Variant alternatives) = form (codes "variant") (map alternative_tree alternatives)
body_tree (Fields fields) = form (codes "fields") (map field_tree fields)

-- the word of one level of a dimension: a list or an option
abbrev pub kind_word : Kind → TextTree
kind_word kind.List = word (codes "l")
kind_word kind.Opt = word (codes "o")

-- the tree of a variable with its type and its dimension
abbrev pub listed_tree : Listed → TextTree
listed_tree x = group (quote x.name ∷ ty_tree x.ty ∷ map kind_word x.dim)

-- the word of a hole of a relation: an input or an output
abbrev pub mode_word : Bool → TextTree
mode_word true = word (codes "in")
mode_word false = word (codes "out")

-- the tree of a definition of the internal language
abbrev pub definition_tree : IlDef → TextTree
definition_tree (Syntax d) = form (codes "syntax") (quote d.name ∷ body_tree d.body ∷ [])
definition_tree (Var x t) = form (codes "var") (quote x ∷ ty_tree t ∷ [])
definition_tree (Relation d) =
    form (codes "relation") (quote d.name ∷ quote d.tag ∷ group (map ty_tree d.holes)
    ∷ form (codes "mode") (map mode_word d.mode) ∷ [])
definition_tree (Rule d) =
    form (codes "rule") (quote d.relation ∷ quote d.name ∷ group (map listed_tree d.variables)
    ∷ group (map exp_tree d.conclusion) ∷ map prem_tree d.premises)
definition_tree (Fun d) =
    form (codes "fun") (quote d.name ∷ group (map ty_tree d.params) ∷ ty_tree d.result ∷ [])
definition_tree (Clause d) =
    form (codes "clause") (quote d.fun ∷ group (map listed_tree d.variables)
    ∷ group (map exp_tree d.args) ∷ exp_tree d.result ∷ map prem_tree d.premises)
