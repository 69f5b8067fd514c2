-- Parts of an expression that a notation sees.
use Rattle.std.specs.Prelude.{ℕ, zero, suc, List, [], ◌∷◌, length, Bool, false, if◌then◌else◌, nat_eq}
use Rattle.st_el.specs.declared.expression.Exp.{Exp, out-Exp, fold-Exp}
use Rattle.st_el.specs.declared.expression.Node.{Node, out-Node}
use Rattle.st_el.specs.declared.expression.Count.{Count}
use Rattle.st_el.specs.declared.expression.Count.TheOpen.{Node-F}
use Rattle.st_el.specs.declared.expression.Seg.{Seg}
use Rattle.st_num.specs.Names.{same_name}

-- what an expression is, without its place
abbrev pub node_of : Exp → Node
node_of e = (out-Exp e).node

-- an expression, opened by one level
abbrev pub opened : Exp → Node-F Count Node Seg Exp
opened e = out-Node (node_of e)

-- ---- parentheses

-- how many parentheses stand round the whole, by how many stand round the inside
abbrev pub parentheses_at : Node-F ℕ ℕ ℕ ℕ → ℕ
parentheses_at (Node-F.Paren e) = suc e
parentheses_at _ = 0

-- how many parentheses stand round the whole
abbrev pub parentheses : Exp → ℕ
parentheses = fold-Exp ℕ ℕ ℕ ℕ (λ count. 0) parentheses_at (λ seg. 0) (λ e. e.node)

-- the inside of parentheses, or the expression itself where it is no parentheses
abbrev pub inner_at : Exp → Node-F Count Node Seg Exp → Exp
inner_at e (Node-F.Paren inner) = inner
inner_at e _ = e

-- the expression without so many parentheses
abbrev pub without : ℕ → Exp → Exp
without zero e = e
without (suc n) e = without n (inner_at e (opened e))

-- the expression without the parentheses round the whole
abbrev pub bare : Exp → Exp
bare e = without (parentheses e) e

-- ---- elements

-- A sequence has no element or two and more; what has one is no sequence.
abbrev pub elements_at : Exp → Node-F Count Node Seg Exp → List Exp
elements_at e (Node-F.Seq es) = if nat_eq (length es) 1 then e ∷ [] else es
elements_at e _ = e ∷ []

-- the elements of a sequence; any other expression is its one element
abbrev pub elements : Exp → List Exp
elements e = elements_at e (opened e)

-- ---- atoms

-- the expression at this level is this atom
abbrev pub is_atom_at : List ℕ → Node-F Count Node Seg Exp → Bool
is_atom_at name (Node-F.Atom other) = same_name name other
is_atom_at name _ = false

-- the expression is this atom
abbrev pub is_atom : List ℕ → Exp → Bool
is_atom name e = is_atom_at name (opened e)

-- the first element is this atom
abbrev pub begins : List ℕ → List Exp → Bool
begins name [] = false
begins name (e ∷ es) = is_atom name e

-- how many elements stand before the first that is this atom
abbrev pub before : List ℕ → List Exp → ℕ
before name [] = 0
before name (e ∷ es) = if is_atom name e then 0 else suc (before name es)
