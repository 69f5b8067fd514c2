-- Signatures: the tag of a notation, and the types of its operands.
use Rattle.std.specs.Prelude.{◌≡◌, List, [], ◌∷◌, ◌++◌, map, flat_map}
use Rattle.st_el.specs.declared.ty.Typ.{Typ}
use Rattle.st_el.specs.declared.notation.Notation.{Notation, fold-Notation}
use Rattle.st_el.specs.declared.notation.NotNode.TheOpen.{NotNode-F}
use Rattle.st_il.specs.declared.template.Template.{Template}
use Rattle.st_il.specs.declared.template.Template.TheVariants as template
use Rattle.st_il.specs.Template.{tag_of}
use Rattle.st_elab_sig.specs.declared.signature.Signature.{Signature}
use Rattle.st_elab_sig.specs.Types.{ty_of}

-- the template of a level whose parts have these templates
abbrev pub template_at : NotNode-F Template Template → Template
template_at (NotNode-F.Atom name) = template.Atom name
template_at (NotNode-F.Hole typ) = template.Hole
template_at (NotNode-F.Seq parts) = template.Seq parts
template_at (NotNode-F.Infix left sign right) = template.Infix left sign right
template_at (NotNode-F.Bracket opening inside) = template.Bracket opening inside

-- a notation without its places, with each type as a hole
abbrev pub template_of : Notation → Template
template_of = fold-Notation Template Template template_at (λ notation. notation.node)

-- the types of a level whose parts have these types
abbrev pub holes_at : NotNode-F (List Typ) (List Typ) → List Typ
holes_at (NotNode-F.Atom name) = []
holes_at (NotNode-F.Hole typ) = typ ∷ []
holes_at (NotNode-F.Seq parts) = flat_map (λ part. part) parts
holes_at (NotNode-F.Infix left sign right) = left ++ right
holes_at (NotNode-F.Bracket opening inside) = inside

-- the types of a notation, from left to right
abbrev pub holes_of : Notation → List Typ
holes_of = fold-Notation (List Typ) (List Typ) holes_at (λ notation. notation.node)

-- the notation has this tag and operands of these types
pub record IsSignature (notation : Notation) (signature : Signature) : Type 0 where
  pub tag : signature.tag ≡ tag_of (template_of notation)
  pub operands : signature.operands ≡ map ty_of (holes_of notation)
