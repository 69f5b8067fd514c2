-- Plain definitions: places, parentheses, fragments and all hints but modes are gone.
use Rattle.std.specs.Prelude.{ℕ, List, [], ◌∷◌, ◌++◌, map, filter, flat_map, codes, Bool, false, ◌&&◌, if◌then◌else◌, Option, Some, None}
use Rattle.std.specs.Option.{is_some}
use Rattle.std.specs.List.{list_any}
use Rattle.st_num.specs.Names.{same_name}
use Rattle.st_num.specs.declared.token.Token.{Token}
use Rattle.st_el.specs.declared.notation.Notation.{Notation}
use Rattle.st_el.specs.declared.definition.Hint.{Hint}
use Rattle.st_el.specs.declared.definition.Def.{Def}
use Rattle.st_el.specs.declared.definition.DefNode.{DefNode}
use Rattle.st_el.specs.declared.definition.DefNode.TheVariants.{Syntax, Var, Relation, Rule, Fun, Clause}
use Rattle.st_el.specs.declared.definition.Body.{Body}
use Rattle.st_el.specs.declared.definition.Body.TheVariants.{Alias, Cases, Fields}
use Rattle.st_el.specs.Plain.{nowhere, plain_exp, plain_typ, plain_notation, plain_prem}

-- a token of a hint, wherever it stood
abbrev pub plain_token : Token → Token
plain_token token = record { at = nowhere; touching = false; kind = token.kind }

-- a hint, wherever its tokens stood
abbrev pub plain_hint : Hint → Hint
plain_hint hint = record { name = hint.name; words = map plain_token hint.words }

-- a hint tells which holes of a relation are inputs
abbrev pub is_mode : Hint → Bool
is_mode hint = same_name hint.name (codes "mode")

-- the `mode` hints of a relation are kept, and no others
abbrev pub kept_hints : DefNode → List Hint → List Hint
kept_hints (Relation name notation) hints = map plain_hint (filter is_mode hints)
kept_hints node hints = []

-- the body of a syntax, with its parts made plain
abbrev pub plain_body : Body → Body
plain_body (Alias typ) = Alias (plain_typ typ)
plain_body (Cases before cases after) = Cases before (map plain_notation cases) after
plain_body (Fields fields) = Fields (map (λ field. (field.0, plain_typ field.1)) fields)

-- what a definition is, with its parts made plain and no fragment's name
abbrev pub plain_def_node : DefNode → DefNode
plain_def_node (Syntax name fragment body) = Syntax name None (plain_body body)
plain_def_node (Var name typ) = Var name (plain_typ typ)
plain_def_node (Relation name notation) = Relation name (plain_notation notation)
plain_def_node (Rule relation name conclusion premises) =
    Rule relation name (plain_exp conclusion) (map plain_prem premises)
plain_def_node (Fun name params result) = Fun name (map plain_typ params) (plain_typ result)
plain_def_node (Clause name args result premises) =
    Clause name (map plain_exp args) (plain_exp result) (map plain_prem premises)

-- a definition without its place, with its parts made plain and no hints but modes
abbrev pub plain_def : Def → Def
plain_def def =
    record { at = nowhere; hints = kept_hints def.node def.hints; node = plain_def_node def.node }

-- ---- fragments

-- this is a fragment of the syntax of this name
abbrev pub is_fragment_node : List ℕ → DefNode → Bool
is_fragment_node name (Syntax other fragment body) = is_some fragment && same_name name other
is_fragment_node name node = false

-- the definition is a fragment of the syntax of this name
abbrev pub is_fragment : List ℕ → Def → Bool
is_fragment name def = is_fragment_node name def.node

-- the alternatives in the body of a syntax
abbrev pub alternatives_in : Body → List Notation
alternatives_in (Cases before cases after) = cases
alternatives_in body = []

-- the alternatives of a definition, which are none where it is no syntax
abbrev pub alternatives_of : DefNode → List Notation
alternatives_of (Syntax name fragment body) = alternatives_in body
alternatives_of node = []

-- the alternatives of the fragments of a syntax, in their order
abbrev pub alternatives : List ℕ → List Def → List Notation
alternatives name defs = flat_map (λ def. alternatives_of def.node) (filter (is_fragment name) defs)

-- the body of a fragment, with the alternatives of later fragments behind its own
abbrev pub joined : Body → List Notation → Body
joined (Cases before cases after) later = Cases false (cases ++ later) false
joined body later = body

-- A fragment stands for all fragments of its syntax where it is the first, else for nothing.
abbrev pub joined_syntax : List Def → List ℕ → Option (List ℕ) → Body → List Def → List DefNode
joined_syntax before name None body behind = Syntax name None body ∷ []
joined_syntax before name (Some fragment) body behind =
    if list_any (is_fragment name) before then []
    else Syntax name None (joined body (alternatives name behind)) ∷ []

-- what a definition stands for: a fragment for all fragments of its syntax or for nothing, and
-- every other definition for itself
abbrev pub joined_node : List Def → DefNode → List Def → List DefNode
joined_node before (Syntax name fragment body) behind =
    joined_syntax before name fragment body behind
joined_node before node behind = node ∷ []

-- what a definition stands for between those before it and those behind it
abbrev pub joined_at : List Def → Def → List Def → List Def
joined_at before def behind =
    map (λ node. record def { node = node }) (joined_node before def.node behind)

-- definitions behind others, with the fragments of each syntax joined at the first one
abbrev pub joined_behind : List Def → List Def → List Def
joined_behind before [] = []
joined_behind before (def ∷ behind) =
    joined_at before def behind ++ joined_behind (before ++ def ∷ []) behind

-- definitions with the fragments of each syntax joined at the first one, and all parts plain
abbrev pub plain_defs : List Def → List Def
plain_defs defs = map plain_def (joined_behind [] defs)
