-- Heights of types and notations by their parts.
use Rattle.std.proofs.Common.{arith, ◌≡◌, ℕ, ◌+◌, ◌≤◌, List, [], ◌∷◌, ◌++◌, map, refl, sym, ap, subst, ◌∙◌, rules}
use Rattle.std.specs.Prelude.{max}
use Rattle.st_num.specs.declared.mark.Mark.{Mark}
use Rattle.st_num.specs.declared.mark.Mark.TheVariants as mark
use Rattle.st_num.specs.declared.span.Span.{Span}
use Rattle.st_num.specs.declared.token.Token.{Token}
use Rattle.st_num.specs.declared.token.TokenKind.{TokenKind}
use Rattle.st_num.specs.declared.token.TokenKind.TheVariants as kind
use Rattle.st_num.specs.declared.word.Word.TheVariants as word
use Rattle.st_el.specs.declared.ty.Typ.{Typ, the_lemmas as typ_lemmas}
use Rattle.st_el.specs.declared.ty.TypNode.TheVariants as typ_node
use Rattle.st_el.specs.declared.notation.Notation.{Notation, out-Notation, roll-out-Notation, the_lemmas as notation_lemmas}
use Rattle.st_el.specs.declared.notation.NotNode.{NotNode, fold-NotNode, out-NotNode, roll-NotNode, roll-out-NotNode}
use Rattle.st_el.specs.declared.notation.NotNode.TheOpen.{NotNode-F}
use Rattle.st_el.specs.declared.notation.NotNode.TheVariants as not_node
use Rattle.st_parse_builder.specs.Names.{name_of}
use Rattle.st_parse_builder.specs.Notations.{typ_at, typ_leaf, marked, marked_node, notation_at, notation_place, hole, spelled_on, atom_on, notation_joined}
use Rattle.st_parse_builder.specs.Heights.{height_not_node_at, height_notation_at, highest, typ_height, notation_height}

-- ---- types

tall_typ_name : (at : Span) (name : List ℕ) → typ_height (typ_at at (typ_node.Name name)) ≡ 1
tall_typ_name at name = search (rules, typ_lemmas)

tall_bool : (at : Span) → typ_height (typ_at at typ_node.Bool) ≡ 1
tall_bool at = search (rules, typ_lemmas)

tall_nat : (at : Span) → typ_height (typ_at at typ_node.Nat) ≡ 1
tall_nat at = search (rules, typ_lemmas)

tall_int : (at : Span) → typ_height (typ_at at typ_node.Int) ≡ 1
tall_int at = search (rules, typ_lemmas)

tall_text : (at : Span) → typ_height (typ_at at typ_node.Text) ≡ 1
tall_text at = search (rules, typ_lemmas)

pub tall_typ_leaf : (at : Span) (k : TokenKind) → typ_height (typ_at at (typ_leaf k)) ≡ 1
tall_typ_leaf at (kind.Low name) = tall_typ_name at _
tall_typ_leaf at (kind.Up name) = tall_typ_name at _
tall_typ_leaf at (kind.Mix name) = tall_typ_name at _
tall_typ_leaf at (kind.Number n) = tall_typ_name at _
tall_typ_leaf at (kind.Text text) = tall_typ_name at _
tall_typ_leaf at (kind.Dot name) = tall_typ_name at _
tall_typ_leaf at (kind.Fun name) = tall_typ_name at _
tall_typ_leaf at (kind.Sign m) = tall_typ_name at _
tall_typ_leaf at (kind.Reserved word.Syntax) = tall_typ_name at _
tall_typ_leaf at (kind.Reserved word.Relation) = tall_typ_name at _
tall_typ_leaf at (kind.Reserved word.Rule) = tall_typ_name at _
tall_typ_leaf at (kind.Reserved word.Var) = tall_typ_name at _
tall_typ_leaf at (kind.Reserved word.Def) = tall_typ_name at _
tall_typ_leaf at (kind.Reserved word.Grammar) = tall_typ_name at _
tall_typ_leaf at (kind.Reserved word.Hint) = tall_typ_name at _
tall_typ_leaf at (kind.Reserved word.If) = tall_typ_name at _
tall_typ_leaf at (kind.Reserved word.Otherwise) = tall_typ_name at _
tall_typ_leaf at (kind.Reserved word.Eps) = tall_typ_name at _
tall_typ_leaf at (kind.Reserved word.True) = tall_typ_name at _
tall_typ_leaf at (kind.Reserved word.False) = tall_typ_name at _
tall_typ_leaf at (kind.Reserved word.Bool) = tall_bool at
tall_typ_leaf at (kind.Reserved word.Nat) = tall_nat at
tall_typ_leaf at (kind.Reserved word.Int) = tall_int at
tall_typ_leaf at (kind.Reserved word.Text) = tall_text at
tall_typ_leaf at (kind.Reserved word.Rat) = tall_typ_name at _
tall_typ_leaf at (kind.Reserved word.Real) = tall_typ_name at _

tall_star : (at : Span) (t : Typ) → typ_height (typ_at at (typ_node.Star t)) ≡ typ_height t + 1
tall_star at t = search (rules, typ_lemmas)

tall_quest : (at : Span) (t : Typ) → typ_height (typ_at at (typ_node.Quest t)) ≡ typ_height t + 1
tall_quest at t = search (rules, typ_lemmas)

-- any sign but `?` makes a list
tall_mark : (m : Mark) (at : Span) (t : Typ) → typ_height (typ_at at (marked_node m t)) ≡ typ_height t + 1
tall_mark mark.Question at t = tall_quest at t
tall_mark m at t = tall_star at t

pub tall_typ_marked : (at : Span) (m : Mark) (t : Typ) → typ_height (marked at m t) ≡ typ_height t + 1
tall_typ_marked at m t = tall_mark m at t

pub tall_tuple : (at : Span) (ts : List Typ) → typ_height (typ_at at (typ_node.Tuple ts)) ≡ highest (map typ_height ts) + 1
tall_tuple at ts = search (rules, typ_lemmas)

-- ---- notations

pub tall_atom : (at : Span) (name : List ℕ) → notation_height (notation_at at (not_node.Atom name)) ≡ 1
tall_atom at name = search (rules, notation_lemmas)

pub tall_hole : (at : Span) (t : Typ) → notation_height (hole at t) ≡ typ_height t + 1
tall_hole at t = search (rules, notation_lemmas)

pub tall_bracket : (at : Span) (m : Mark) (n : Notation) → notation_height (notation_at at (not_node.Bracket m n)) ≡ notation_height n + 1
tall_bracket at m n = search (rules, notation_lemmas)

pub tall_sequence : (at : Span) (ns : List Notation) → notation_height (notation_at at (not_node.Seq ns)) ≡ highest (map notation_height ns) + 1
tall_sequence at ns = search (rules, notation_lemmas)

pub tall_notation_joined : (l : Notation) (m : Mark) (r : Notation) → notation_height (notation_joined l m r) ≡ max (notation_height l) (notation_height r) + 1
tall_notation_joined l m r = search (rules, notation_lemmas)

-- A notation is at least 1 high.
rolled_tall : (at : Span) (n : NotNode) → 1 ≤ notation_height (notation_at at n)
rolled_tall at n = let is : notation_height (notation_at at n) ≡ fold-NotNode ℕ ℕ height_not_node_at height_notation_at n + 1 = search (rules, notation_lemmas) in omega (arith, is)

some_height : (n : Notation) → max 1 (notation_height n) ≡ notation_height n
some_height n = let low : 1 ≤ notation_height n = subst (λ k. 1 ≤ notation_height k) (roll-out-Notation n) (rolled_tall (notation_place n) (out-Notation n).node) in omega (arith, low)

tall_both : (at : Span) (m : Mark) (n : Notation) → notation_height (notation_joined (notation_at at (not_node.Seq [])) m n) ≡ max 1 (notation_height n) + 1
tall_both at m n = search (rules, notation_lemmas)

-- a sign whose left side is absent
pub tall_absent : (at : Span) (m : Mark) (n : Notation) → notation_height (notation_joined (notation_at at (not_node.Seq [])) m n) ≡ notation_height n + 1
tall_absent at m n = tall_both at m n ∙ ap (λ h. h + 1) (some_height n)

-- the open form decides what an atom with a dot is
same_height : (at : Span) (n : NotNode-F NotNode Notation) (behind : List ℕ) → notation_height (notation_at at (spelled_on n behind)) ≡ notation_height (notation_at at (roll-NotNode n))
same_height at (NotNode-F.Atom name) behind = tall_atom at (name ++ 46 ∷ behind) ∙ sym (ap (λ m. notation_height (notation_at at m)) (not_node.rolls-Atom name) ∙ tall_atom at name)
same_height at (NotNode-F.Hole t) behind = refl
same_height at (NotNode-F.Seq ns) behind = refl
same_height at (NotNode-F.Infix l m r) behind = refl
same_height at (NotNode-F.Bracket m n) behind = refl

pub rolled : (n : Notation) → notation_at (notation_place n) (roll-NotNode (out-NotNode (out-Notation n).node)) ≡ n
rolled n = ap (λ m. notation_at (notation_place n) m) (roll-out-NotNode (out-Notation n).node) ∙ roll-out-Notation n

pub tall_atom_on : (n : Notation) (x : Token) → notation_height (atom_on n x) ≡ notation_height n
tall_atom_on n x = same_height (notation_place n) (out-NotNode (out-Notation n).node) (name_of x.kind) ∙ ap notation_height (rolled n)
