-- Erasure of definitions: the source that a specification of the internal language was written as.
use Rattle.std.specs.Prelude.{ℕ, List, [], ◌∷◌, map, codes, Bool, false, if◌then◌else◌, Option, Some, None}
use Rattle.st_num.specs.declared.token.Token.{Token}
use Rattle.st_num.specs.declared.token.TokenKind.TheVariants.{Low}
use Rattle.st_el.specs.Plain.{nowhere}
use Rattle.st_num.specs.Names.{same_name}
use Rattle.st_el.specs.declared.expression.Exp.{Exp}
use Rattle.st_el.specs.declared.expression.Node.TheVariants as node
use Rattle.st_el.specs.declared.notation.Notation.{Notation}
use Rattle.st_el.specs.declared.notation.NotNode.TheVariants as not_node
use Rattle.st_el.specs.declared.ty.Typ.{Typ}
use Rattle.st_el.specs.declared.ty.TypNode.TheVariants as typ_node
use Rattle.st_el.specs.declared.definition.Body.{Body}
use Rattle.st_el.specs.declared.definition.Body.TheVariants as el_body
use Rattle.st_el.specs.declared.definition.Def.{Def}
use Rattle.st_el.specs.declared.definition.DefNode.{DefNode}
use Rattle.st_el.specs.declared.definition.DefNode.TheVariants as el
use Rattle.st_el.specs.declared.definition.Hint.{Hint}
use Rattle.st_el.specs.declared.definition.Prem.{Prem, roll-Prem}
use Rattle.st_el.specs.declared.definition.PremNode.{PremNode}
use Rattle.st_el.specs.declared.definition.PremNode.TheVariants as prem_node
use Rattle.st_il.specs.declared.definition.Alternative.{Alternative}
use Rattle.st_il.specs.declared.definition.Alternative.TheVariants as alternative
use Rattle.st_il.specs.declared.definition.Il.{Il}
use Rattle.st_il.specs.declared.definition.IlDef.{IlDef}
use Rattle.st_il.specs.declared.definition.IlDef.TheVariants as il
use Rattle.st_il.specs.declared.definition.ClauseDef.{ClauseDef}
use Rattle.st_il.specs.declared.definition.RelationDef.{RelationDef}
use Rattle.st_il.specs.declared.definition.RuleDef.{RuleDef}
use Rattle.st_il.specs.declared.definition.SyntaxBody.{SyntaxBody}
use Rattle.st_il.specs.declared.definition.SyntaxBody.TheVariants as body
use Rattle.st_il.specs.declared.expression.IlExp.{IlExp}
use Rattle.st_il.specs.declared.expression.IlPrem.{IlPrem, fold-IlPrem}
use Rattle.st_il.specs.declared.expression.IlPrem.TheOpen.{IlPrem-F}
use Rattle.st_il.specs.declared.ty.Ty.{Ty}
use Rattle.st_erase.specs.declared.erased.Erased.{Erased}
use Rattle.st_erase.specs.Places.{exp, whole}
use Rattle.st_il.specs.Tags.{template_of}
use Rattle.st_erase.specs.Erasure.{case_by, erased, erased_iteration}
use Rattle.st_erase.specs.Notations.{typ, erased_ty, notation, notation_of}

-- ---- syntaxes

-- a field of a record, with its type as it is written
abbrev pub erased_field : List ℕ × Ty → List ℕ × Typ
erased_field field = (field.0, erased_ty field.1)

-- an alternative as it is written: the notation of a case, or the name of what it includes
abbrev pub erased_alternative : Alternative → Notation
erased_alternative (alternative.Case tag tys) = notation_of tag tys
erased_alternative (alternative.Incl name) = notation (not_node.Hole (typ (typ_node.Name name)))

-- the body of a syntax as it is written
abbrev pub erased_body : SyntaxBody → Body
erased_body (body.Alias t) = el_body.Alias (erased_ty t)
erased_body (body.Variant alternatives) =
    el_body.Cases false (map erased_alternative alternatives) false
erased_body (body.Fields fields) = el_body.Fields (map erased_field fields)

-- ---- modes

-- the word for a hole in a hint of a mode: `in` for an input, else `out`
abbrev pub mode_word : Bool → Token
mode_word input =
    record
    { at = nowhere; touching = false; kind = Low (if input then codes "in" else codes "out") }

-- the hint of a mode, and no hint where there is no mode
abbrev pub mode_hints : List Bool → List Hint
mode_hints [] = []
mode_hints (hole ∷ holes) =
    record { name = codes "mode"; words = map mode_word (hole ∷ holes) } ∷ []

-- the hints of a definition: the mode of a relation
abbrev pub hints_of : IlDef → List Hint
hints_of (il.Relation d) = mode_hints d.mode
hints_of _ = []

-- ---- judgements and premises

-- the tag of the relation where this is its name, and else the tag from later relations
abbrev pub tag_by : List ℕ → RelationDef → Option (List ℕ) → Option (List ℕ)
tag_by name relation later = if same_name name relation.name then Some relation.tag else later

-- the tag of the relation of this name, from a definition or else from later ones
abbrev pub tag_in : List ℕ → IlDef → Option (List ℕ) → Option (List ℕ)
tag_in name (il.Relation relation) later = tag_by name relation later
tag_in name _ later = later

-- the tag of the first relation of this name
abbrev pub tag_of : List ℕ → List IlDef → Option (List ℕ)
tag_of name [] = None
tag_of name (d ∷ ds) = tag_in name d (tag_of name ds)

-- the judgement of a relation with this tag; it is `eps` where there is no tag
abbrev pub judged : Option (List ℕ) → List Erased → Exp
judged None xs = exp node.Eps
judged (Some tag) xs = whole (case_by (template_of tag) xs)

-- a premise that stands in no text
abbrev pub prem : PremNode → Prem
prem n = roll-Prem (record { at = nowhere; node = n })

module _ (defs : List IlDef) where
  -- a judgement of the named relation
  abbrev pub judgement : List ℕ → List IlExp → Exp
  judgement name exps = judged (tag_of name defs) (map (erased defs) exps)

  -- a premise as it is written, where the premise that it repeats is already
  abbrev pub prem_at : IlPrem-F Prem → Prem
  prem_at (IlPrem-F.If e) = prem (prem_node.If (whole (erased defs e)))
  prem_at (IlPrem-F.Goal name exps) = prem (prem_node.Goal name (judgement name exps))
  prem_at IlPrem-F.Otherwise = prem prem_node.Otherwise
  prem_at (IlPrem-F.Each k names p) = prem (prem_node.Each p (erased_iteration defs k))

  -- a premise as it is written
  abbrev pub erased_prem : IlPrem → Prem
  erased_prem = fold-IlPrem Prem prem_at

  -- a rule as it is written
  abbrev pub erased_rule : RuleDef → DefNode
  erased_rule d =
      el.Rule d.relation d.name (judgement d.relation d.conclusion) (map erased_prem d.premises)

  -- a clause of a function as it is written
  abbrev pub erased_clause : ClauseDef → DefNode
  erased_clause d =
      el.Clause d.fun (map whole (map (erased defs) d.args)) (whole (erased defs d.result))
      (map erased_prem d.premises)

  -- what a definition is, as it is written
  abbrev pub erased_node : IlDef → DefNode
  erased_node (il.Syntax d) = el.Syntax d.name None (erased_body d.body)
  erased_node (il.Var name t) = el.Var name (erased_ty t)
  erased_node (il.Relation d) = el.Relation d.name (notation_of d.tag d.holes)
  erased_node (il.Rule d) = erased_rule d
  erased_node (il.Fun d) = el.Fun d.name (map erased_ty d.params) (erased_ty d.result)
  erased_node (il.Clause d) = erased_clause d

  -- a definition as it is written
  abbrev pub erased_def : IlDef → Def
  erased_def d = record { at = nowhere; hints = hints_of d; node = erased_node d }

-- the source that a specification was written as
abbrev pub erased_defs : Il → List Def
erased_defs spec = map (erased_def spec.defs) spec.defs
