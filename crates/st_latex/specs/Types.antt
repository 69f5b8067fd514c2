-- The tokens of types and notations.
use Rattle.std.specs.Prelude.{ℕ, List, ◌++◌, codes}
use Rattle.st_el.specs.declared.ty.Typ.{Typ, Typ-F, fold-Typ}
use Rattle.st_el.specs.declared.ty.TypNode.{TypNode, fold-TypNode}
use Rattle.st_el.specs.declared.ty.TypNode.TheOpen.{TypNode-F}
use Rattle.st_el.specs.declared.notation.Notation.{Notation, Notation-F, fold-Notation}
use Rattle.st_el.specs.declared.notation.NotNode.{NotNode, fold-NotNode}
use Rattle.st_el.specs.declared.notation.NotNode.TheOpen.{NotNode-F}
use Rattle.st_latex.specs.Tokens.{token, variable, atom}
use Rattle.st_latex.specs.Parts.{joined, tuple, bracketed, sides}

-- the tokens of what a type is
abbrev pub typ_node_at : TypNode-F (List ℕ) (List ℕ) → List ℕ
typ_node_at TypNode-F.Bool = variable (codes "bool")
typ_node_at TypNode-F.Nat = variable (codes "nat")
typ_node_at TypNode-F.Int = variable (codes "int")
typ_node_at TypNode-F.Text = variable (codes "text")
typ_node_at (TypNode-F.Name name) = variable name
typ_node_at (TypNode-F.Star typ) = typ ++ token (codes "^{\\ast}")
typ_node_at (TypNode-F.Quest typ) = typ ++ token (codes "^{?}")
typ_node_at (TypNode-F.Tuple parts) = tuple parts

-- a type has the tokens of what it is
abbrev pub typ_at : Typ-F (List ℕ) (List ℕ) → List ℕ
typ_at typ = typ.node

-- the tokens of a type
abbrev pub latex_typ : Typ → List ℕ
latex_typ = fold-Typ (List ℕ) (List ℕ) typ_node_at typ_at

-- the tokens of what a type is, from the source tree
abbrev pub latex_typ_node : TypNode → List ℕ
latex_typ_node = fold-TypNode (List ℕ) (List ℕ) typ_node_at typ_at

-- the tokens of what a notation is
abbrev pub not_node_at : NotNode-F (List ℕ) (List ℕ) → List ℕ
not_node_at (NotNode-F.Atom name) = atom name
not_node_at (NotNode-F.Hole typ) = latex_typ typ
not_node_at (NotNode-F.Seq parts) = joined parts
not_node_at (NotNode-F.Infix left mark right) = sides left mark right
not_node_at (NotNode-F.Bracket opening inside) = bracketed opening inside

-- a notation has the tokens of what it is
abbrev pub notation_at : Notation-F (List ℕ) (List ℕ) → List ℕ
notation_at notation = notation.node

-- the tokens of a notation
abbrev pub latex_notation : Notation → List ℕ
latex_notation = fold-Notation (List ℕ) (List ℕ) not_node_at notation_at

-- the tokens of what a notation is, from the source tree
abbrev pub latex_not_node : NotNode → List ℕ
latex_not_node = fold-NotNode (List ℕ) (List ℕ) not_node_at notation_at
