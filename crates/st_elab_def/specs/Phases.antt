-- What is asked of the parts of a source, in the four phases and in their order.
use Rattle.std.specs.Prelude.{ℕ, List, [], ◌∷◌, ◌++◌, length, map, flat_map}
use Rattle.st_num.specs.declared.span.Span.{Span}
use Rattle.st_el.specs.Erasure.{alternatives}
use Rattle.st_el.specs.declared.expression.Exp.{Exp}
use Rattle.st_el.specs.declared.ty.Typ.{Typ, out-Typ, fold-Typ}
use Rattle.st_el.specs.declared.ty.TypNode.{TypNode}
use Rattle.st_el.specs.declared.ty.TypNode.TheOpen.{TypNode-F}
use Rattle.st_el.specs.declared.notation.Notation.{Notation, out-Notation}
use Rattle.st_el.specs.declared.notation.NotNode.{NotNode}
use Rattle.st_el.specs.declared.notation.NotNode.TheOpen.{NotNode-F}
use Rattle.st_el.specs.declared.definition.Body.{Body}
use Rattle.st_el.specs.declared.definition.Body.TheVariants.{Alias, Cases, Fields}
use Rattle.st_el.specs.declared.definition.Def.{Def}
use Rattle.st_el.specs.declared.definition.DefNode.{DefNode}
use Rattle.st_el.specs.declared.definition.DefNode.TheVariants.{Syntax, Var, Relation, Rule, Fun, Clause}
use Rattle.st_el.specs.declared.definition.Prem.{Prem}
use Rattle.st_il.specs.declared.ty.Ty.{Ty}
use Rattle.st_il.specs.declared.definition.Alternative.{Alternative}
use Rattle.st_type_table.specs.Breach as types
use Rattle.st_elab_sig.specs.Signatures.{holes_of}
use Rattle.st_elab_table.specs.Clauses.{ClauseParts, parts_of}
use Rattle.st_elab_def.specs.declared.names.Named.{Named}
use Rattle.st_elab_def.specs.Definitions.{Definition, number_of, definitions}
use Rattle.st_elab_def.specs.DeclsOf.{type_node, not_node, alternative_of, field_of}
use Rattle.st_elab_def.specs.Conditions.{Condition, new_declaration, joining, on_syntaxes, named, mode, relation, function, new_rule}

-- what is asked of a part
pub data Asked : Type 0 where
  -- whether a condition holds
  condition : (c : Condition) → Asked
  -- what a rule of this relation and name is
  rule : (relation name : List ℕ) (conclusion : Exp) (premises : List Prem) → Asked
  -- what a clause of this function is
  clause : (fun : List ℕ) (c : ClauseParts) → Asked

-- what is asked at a place
pub record Placed : Type 0 where
  pub at : Span
  pub asked : Asked

-- what is asked at a place is whether this condition holds
abbrev pub placed : Span → Condition → Placed
placed at c = record { at = at; asked = condition c }

-- what is asked at a place is whether this condition on syntaxes holds
abbrev pub placed_type : Span → types.Condition → Placed
placed_type at c = placed at (on_syntaxes c)

-- ---- names in types

-- the names in a level of types at this place, whose parts have these names in them
abbrev pub named_at : TypNode-F (Span → List Named) (List Named) → Span → List Named
named_at (TypNode-F.Name name) at = record { at = at; name = name } ∷ []
named_at (TypNode-F.Star element) at = element
named_at (TypNode-F.Quest element) at = element
named_at (TypNode-F.Tuple parts) at = flat_map (λ (part : List Named). part) parts
named_at node at = []

-- the names in a type, from left to right
abbrev pub names_in : Typ → List Named
names_in = fold-Typ (Span → List Named) (List Named) named_at (λ t. t.node t.at)

-- each name is that of a syntax
abbrev pub all_declared : List Named → List Placed
all_declared names = map (λ (n : Named). placed_type n.at (types.declared n.name)) names

-- ---- the phase of declarations

-- the declaration is new
abbrev pub on_declaration : Definition → List Placed
on_declaration d = placed d.def.at (new_declaration d) ∷ []

-- ---- the phase of bodies

-- a name in an alias is declared, and does not lead back
abbrev pub on_alias_name : List ℕ → Named → List Placed
on_alias_name target n =
    placed_type n.at (types.declared n.name)
    ∷ placed_type n.at (types.no_return n.name target) ∷ []

-- A type that is an alternative by itself, behind which these stand, is a name; and the name is
-- declared, does not lead back, and is that of a variant, whose cases have new keys.
abbrev pub on_bare : List ℕ → List Alternative → Span → Typ → TypNode-F TypNode Typ → List Placed
on_bare target so_far at t (TypNode-F.Name name) =
    placed_type (out-Typ t).at (types.declared name)
    ∷ placed_type at (types.no_return name target)
    ∷ placed_type at (types.variant name)
    ∷ placed_type at (types.keys so_far) ∷ []
on_bare target so_far at t node = placed at (named t) ∷ []

-- what is asked of an alternative, by the top level of its notation
abbrev pub on_alternative_at : List ℕ → List Alternative → Notation → NotNode-F NotNode Notation
    → List Placed
on_alternative_at target so_far n (NotNode-F.Hole t) =
    on_bare target so_far (out-Notation n).at t (type_node t)
on_alternative_at target so_far n node =
    placed_type (out-Notation n).at (types.keys so_far)
    ∷ all_declared (flat_map names_in (holes_of n))

-- An alternative of the target, with which these stand so far. A case has a new key, and the names
-- in its types are declared.
abbrev pub on_alternative : List ℕ → List Alternative → Notation → List Placed
on_alternative target so_far n = on_alternative_at target so_far n (not_node n)

-- alternatives of the target, behind those before them
abbrev pub on_alternatives : List ℕ → List Alternative → List Notation → List Placed
on_alternatives target before [] = []
on_alternatives target before (n ∷ ns) =
    on_alternative target (before ++ alternative_of n) n
    ++ on_alternatives target (before ++ alternative_of n) ns

-- the field is new behind those before it, and the names in its type are declared
abbrev pub on_field : Span → List (List ℕ × Ty) → List ℕ × Typ → List Placed
on_field at before f = placed_type at (types.new_field before f.0) ∷ all_declared (names_in f.1)

-- the fields of a record, behind those before them
abbrev pub on_fields : Span → List (List ℕ × Ty) → List (List ℕ × Typ) → List Placed
on_fields at before [] = []
on_fields at before (f ∷ fs) = on_field at before f ++ on_fields at (before ++ field_of f ∷ []) fs

-- the alternatives of the fragments of this name
abbrev pub alternatives_before : List ℕ → List Def → List Alternative
alternatives_before name before = flat_map alternative_of (alternatives name before)

-- what is asked of the names in an alias, of the alternatives, or of the fields
abbrev pub on_parts : Definition → List ℕ → Body → List Placed
on_parts d name (Alias t) = flat_map (on_alias_name name) (names_in t)
on_parts d name (Cases dots cases more) =
    on_alternatives name (alternatives_before name d.before) cases
on_parts d name (Fields fields) = on_fields d.def.at [] fields

-- what is asked of the body of a syntax, and of nothing else
abbrev pub on_body_at : Definition → DefNode → List Placed
on_body_at d (Syntax name fragment b) =
    placed d.def.at (joining d name fragment b) ∷ on_parts d name b
on_body_at d node = []

-- the fragments of a syntax join, and then its parts are asked
abbrev pub on_body : Definition → List Placed
on_body d = on_body_at d d.def.node

-- ---- the phase of signatures

-- the hints of a relation say its mode, and the names in its types are declared
abbrev pub on_relation : Def → Notation → List Placed
on_relation def n =
    placed def.at (mode def.hints (length (holes_of n)))
    ∷ all_declared (flat_map names_in (holes_of n))

-- what is asked of what is defined, where it has a signature
abbrev pub on_signature_at : Definition → DefNode → List Placed
on_signature_at d (Var name t) = all_declared (names_in t)
on_signature_at d (Relation name n) = on_relation d.def n
on_signature_at d (Fun name params result) =
    all_declared (flat_map names_in (params ++ result ∷ []))
on_signature_at d node = []

-- the hints of a relation say its mode, and the names in types are declared
abbrev pub on_signature : Definition → List Placed
on_signature d = on_signature_at d d.def.node

-- ---- the phase of rules and clauses

-- the relation is declared, no rule of it before has the name, and then the rule is asked
abbrev pub on_rule : List Def → Span → List ℕ → List ℕ → Exp → List Prem → List Placed
on_rule before at r name conclusion premises =
    placed at (relation r) ∷ placed at (new_rule before r name)
    ∷ record { at = at; asked = rule r name conclusion premises } ∷ []

-- the function is declared, and then the clause is asked
abbrev pub on_clause : Span → List ℕ → ClauseParts → List Placed
on_clause at name c =
    placed at (function name) ∷ record { at = at; asked = clause name c } ∷ []

-- what is asked of what is defined, where it is a rule or a clause
abbrev pub on_content_at : Definition → DefNode → List Placed
on_content_at d (Rule r name conclusion premises) =
    on_rule d.before d.def.at r name conclusion premises
on_content_at d (Clause name args result premises) =
    on_clause d.def.at name (parts_of args result premises)
on_content_at d node = []

-- the head of a rule or clause, and then the rule or clause
abbrev pub on_content : Definition → List Placed
on_content d = on_content_at d d.def.node

-- ---- all of them

-- what is asked at a place of a definition of this number
pub record Question : Type 0 where
  pub definition : ℕ
  pub placed : Placed

-- what is asked at a place of this definition
abbrev pub of_definition : Definition → Placed → Question
of_definition d p = record { definition = number_of d; placed = p }

-- a phase, definition by definition
abbrev pub phase : (Definition → List Placed) → List Definition → List Question
phase on ds = flat_map (λ (d : Definition). map (of_definition d) (on d)) ds

-- the four phases, in their order
abbrev pub phases : List (Definition → List Placed)
phases = on_declaration ∷ on_body ∷ on_signature ∷ on_content ∷ []

-- all that is asked of a source, phase by phase
abbrev pub questions : List Def → List Question
questions defs = flat_map (λ (on : Definition → List Placed). phase on (definitions defs)) phases
