-- The declarations of a source, in the internal language.
use Rattle.std.specs.Prelude.{ℕ, List, [], ◌∷◌, map, filter, flat_map, codes, Bool, false}
use Rattle.st_num.specs.declared.token.Token.{Token}
use Rattle.st_num.specs.declared.token.TokenKind.{TokenKind}
use Rattle.st_num.specs.declared.token.TokenKind.TheVariants.{Low}
use Rattle.st_num.specs.Names.{same_name}
use Rattle.st_el.specs.Erasure.{is_mode}
use Rattle.st_el.specs.declared.ty.Typ.{Typ, out-Typ}
use Rattle.st_el.specs.declared.ty.TypNode.{TypNode, out-TypNode}
use Rattle.st_el.specs.declared.ty.TypNode.TheOpen.{TypNode-F}
use Rattle.st_el.specs.declared.notation.Notation.{Notation, out-Notation}
use Rattle.st_el.specs.declared.notation.NotNode.{NotNode, out-NotNode}
use Rattle.st_el.specs.declared.notation.NotNode.TheOpen.{NotNode-F}
use Rattle.st_el.specs.declared.definition.Body.{Body}
use Rattle.st_el.specs.declared.definition.Body.TheVariants as el_body
use Rattle.st_el.specs.declared.definition.Def.{Def}
use Rattle.st_el.specs.declared.definition.DefNode.{DefNode}
use Rattle.st_el.specs.declared.definition.DefNode.TheVariants.{Syntax, Var, Relation, Fun}
use Rattle.st_el.specs.declared.definition.Hint.{Hint}
use Rattle.st_il.specs.Template.{tag_of}
use Rattle.st_il.specs.declared.ty.Ty.{Ty}
use Rattle.st_il.specs.declared.definition.Alternative.{Alternative}
use Rattle.st_il.specs.declared.definition.Alternative.TheVariants as alternative
use Rattle.st_il.specs.declared.definition.IlDef.{IlDef}
use Rattle.st_il.specs.declared.definition.IlDef.TheVariants as il
use Rattle.st_il.specs.declared.definition.RelationDef.{RelationDef}
use Rattle.st_il.specs.declared.definition.SyntaxBody.{SyntaxBody}
use Rattle.st_il.specs.declared.definition.SyntaxBody.TheVariants as body
use Rattle.st_elab_sig.specs.Types.{ty_of}
use Rattle.st_elab_sig.specs.Signatures.{template_of, holes_of}
use Rattle.st_elab_table.specs.declared.decls.Decls.{Decls}
use Rattle.st_elab_law.specs.Agreement.{decls_in}
use Rattle.st_elab_def.specs.Fragments.{joined}

-- ---- syntaxes

-- the top level of a type, without places
abbrev pub type_node : Typ → TypNode-F TypNode Typ
type_node t = out-TypNode (out-Typ t).node

-- the top level of a notation, without its place
abbrev pub not_node : Notation → NotNode-F NotNode Notation
not_node n = out-NotNode (out-Notation n).node

-- a type that is an alternative by itself includes the variant of its name, where it is a name
abbrev pub bare_alternative : TypNode-F TypNode Typ → List Alternative
bare_alternative (TypNode-F.Name name) = alternative.Incl name ∷ []
bare_alternative node = []

-- the alternative that a notation of this top level is, if it is one
abbrev pub alternative_at : Notation → NotNode-F NotNode Notation → List Alternative
alternative_at n (NotNode-F.Hole t) = bare_alternative (type_node t)
alternative_at n node =
    alternative.Case (tag_of (template_of n)) (map ty_of (holes_of n)) ∷ []

-- An alternative that is a name alone includes the variant of this name; any other type alone is
-- no alternative; and any other notation is a case.
abbrev pub alternative_of : Notation → List Alternative
alternative_of n = alternative_at n (not_node n)

-- the field of a record in the internal language
abbrev pub field_of : List ℕ × Typ → List ℕ × Ty
field_of field = (field.0, ty_of field.1)

-- a body in the internal language
abbrev pub body_of : Body → SyntaxBody
body_of (el_body.Alias t) = body.Alias (ty_of t)
body_of (el_body.Cases before cases after) = body.Variant (flat_map alternative_of cases)
body_of (el_body.Fields fields) = body.Fields (map field_of fields)

-- ---- relations

-- the word is `in`
abbrev pub is_input_kind : TokenKind → Bool
is_input_kind (Low name) = same_name name (codes "in")
is_input_kind kind = false

-- the mode that the first of these hints says; without a hint none is said
abbrev pub mode_by : List Hint → List Bool
mode_by [] = []
mode_by (hint ∷ hints) = map (λ (word : Token). is_input_kind word.kind) hint.words

-- the mode that the first `mode` hint says: whether each word is `in`
abbrev pub mode_of : List Hint → List Bool
mode_of hints = mode_by (filter is_mode hints)

-- a relation with its hints in the internal language
abbrev pub relation_of : List Hint → List ℕ → Notation → RelationDef
relation_of hints name n =
    record {
      name = name;
      tag = tag_of (template_of n);
      holes = map ty_of (holes_of n);
      mode = mode_of hints;
    }

-- ---- declarations

-- what is declared, with these hints, by what is defined
abbrev pub declared_at : List Hint → DefNode → List IlDef
declared_at hints (Syntax name fragment b) =
    il.Syntax (record { name = name; body = body_of b }) ∷ []
declared_at hints (Var name t) = il.Var name (ty_of t) ∷ []
declared_at hints (Relation name n) = il.Relation (relation_of hints name n) ∷ []
declared_at hints (Fun name params result) =
    il.Fun (record { name = name; params = map ty_of params; result = ty_of result }) ∷ []
declared_at hints node = []

-- what a definition is where it is a declaration; a rule or a clause is none
abbrev pub declared_by : Def → List IlDef
declared_by def = declared_at def.hints def.node

-- the declarations of a source, its fragments joined
abbrev pub decls_of : List Def → Decls
decls_of defs = decls_in (flat_map declared_by (joined defs))
