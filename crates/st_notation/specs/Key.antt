-- The key of an expression, found as that of a template.
use Rattle.std.specs.Prelude.{List, [], ◌∷◌}
use Rattle.st_el.specs.declared.expression.Exp.{Exp}
use Rattle.st_el.specs.declared.expression.Node.{Node}
use Rattle.st_el.specs.declared.expression.Count.{Count}
use Rattle.st_el.specs.declared.expression.Count.TheOpen.{Node-F}
use Rattle.st_el.specs.declared.expression.Seg.{Seg}
use Rattle.st_il.specs.Key.{PlainKey, sign, bracket, atom, free}
use Rattle.st_notation.specs.Elements.{opened, bare, elements}

-- the key of an element of a sequence
abbrev pub element_key : Node-F Count Node Seg Exp → PlainKey
element_key (Node-F.Atom name) = atom name
element_key (Node-F.Bracket opening inside) = bracket opening
element_key _ = free

-- the key of the first element, where there is one
abbrev pub first_key : List Exp → PlainKey
first_key [] = free
first_key (e ∷ es) = element_key (opened e)

-- the key of an expression that stands in no parentheses, by its top
abbrev pub key_at : Exp → Node-F Count Node Seg Exp → PlainKey
key_at e (Node-F.Infix left top right) = sign top
key_at e _ = first_key (elements e)

-- The top sign, or else the first element where that is an atom or a bracket, or else none.
-- Parentheses round the whole do not count.
abbrev pub key_of : Exp → PlainKey
key_of e = key_at (bare e) (opened (bare e))
