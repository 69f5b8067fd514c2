-- The alternatives of fragments, gathered by the names of their syntaxes.
use Rattle.std.specs.Prelude.{◌≡◌, ℕ, List, [], ◌∷◌, if◌then◌else◌, Option, Some, None}
use Rattle.std.specs.Borrow.{Bor}
use Rattle.st_el.specs.declared.definition.Body.{Body}
use Rattle.st_el.specs.declared.definition.Body.TheVariants.{Cases}
use Rattle.st_el.specs.declared.definition.Def.{Def}
use Rattle.st_el.specs.declared.definition.DefNode.{DefNode}
use Rattle.st_el.specs.declared.definition.DefNode.TheVariants.{Syntax}
use Rattle.st_il.specs.declared.definition.Alternative.{Alternative}
use Rattle.st_il.specs.declared.definition.IlDef.{IlDef}
use Rattle.st_il.specs.declared.definition.IlDef.TheVariants as il
use Rattle.st_il.specs.declared.definition.SyntaxBody.{SyntaxBody}
use Rattle.st_il.specs.declared.definition.SyntaxBody.TheVariants as body
use Rattle.st_elab_def.specs.DeclsOf.{body_of}
use Rattle.st_elab_def.specs.Fragments.{has_fragment}
use Rattle.st_elab_def.specs.Phases.{alternatives_before}
use Rattle.st_ilcheck.specs.Index.{at}

-- what is kept of each syntax with fragments: their alternatives, or that they were taken
abbrev pub Entries : Type 0
Entries = List (Bor (List ℕ) × Option (List Alternative))

-- the alternatives of the fragments of this name, if there are any
abbrev pub all_parts : List Def → List ℕ → Option (Option (List Alternative))
all_parts defs q =
    if has_fragment q defs then Some (Some (alternatives_before q defs)) else None

-- The entries are the alternatives of the fragments among these.
abbrev pub Gathered : List Def → Entries → Type 0
Gathered defs entries = (q : List ℕ) → at entries q ≡ all_parts defs q

-- The alternatives of a syntax with a fragment among the first definitions were taken, and those
-- of the others are there.
abbrev pub Untaken : List Def → List Def → Entries → Type 0
Untaken before behind entries =
    (q : List ℕ) → at entries q ≡ (if has_fragment q before then Some None else all_parts behind q)

-- the alternatives that stood under a name
abbrev pub gathered_in : Option (Option (List Alternative)) → List Alternative
gathered_in (Some (Some parts)) = parts
gathered_in found = []

-- a body that is no list of alternatives, or that of these
abbrev pub body_with : Body → List Alternative → SyntaxBody
body_with (Cases before cases after) parts = body.Variant parts
body_with b parts = body_of b

-- what a fragment declares, where this was found of its syntax
abbrev pub declared_fragment : List ℕ → Body → Option (Option (List Alternative)) → List IlDef
declared_fragment name b (Some (Some parts)) =
    il.Syntax (record { name = name; body = body_with b parts }) ∷ []
declared_fragment name b found = []

-- The definition is a fragment of this name and body.
abbrev pub IsFragmentOf : DefNode → List ℕ → Body → Type 0
IsFragmentOf node name b = (piece : List ℕ) × (node ≡ Syntax name (Some piece) b)
