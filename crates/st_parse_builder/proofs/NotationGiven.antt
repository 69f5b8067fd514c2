-- The type or notation that is built, where it is alone on the stack.
use Rattle.std.proofs.Common.{◌≡◌, ℕ, ◌+◌, List, [], ◌∷◌, ◌++◌, Some, None, refl, sym, ap, subst, ◌∙◌}
use Rattle.std.specs.Option.{option_map}
use Rattle.st_num.specs.declared.mark.Mark.{Mark}
use Rattle.st_num.specs.declared.span.Span.{Span}
use Rattle.st_num.specs.declared.token.Token.{Token}
use Rattle.st_grammar.specs.declared.sort.Leaf.{Leaf}
use Rattle.st_grammar.specs.declared.sort.Leaf.TheVariants as leaf
use Rattle.st_el.specs.declared.ty.Typ.{Typ}
use Rattle.st_el.specs.declared.notation.Notation.{Notation, out-Notation}
use Rattle.st_el.specs.declared.notation.NotNode.{NotNode, out-NotNode, out-roll-NotNode}
use Rattle.st_el.specs.declared.notation.NotNode.TheOpen.{NotNode-F}
use Rattle.st_el.specs.declared.notation.NotNode.TheVariants as not_node
use Rattle.st_grammar.specs.declared.action.Action.{Action}
use Rattle.st_grammar.specs.declared.action.Action.TheVariants as action
use Rattle.st_parse_builder.specs.declared.built.Built.{Built}
use Rattle.st_parse_builder.specs.declared.notation_piece.NotationPiece.{NotationPiece}
use Rattle.st_parse_builder.specs.declared.notation_piece.NotationPiece.TheVariants.{Hole as a_type, Whole as whole, Types as types, Elements as elements, From as from_place}
use Rattle.st_parse_builder.specs.Names.{name_of}
use Rattle.st_parse_builder.specs.Notations.{marked, typ_in_parens, notation_at, notation_place, hole, spelled_on, atom_on, tick, notation_joined}
use Rattle.st_parse_builder.specs.Heights.{typ_height, notation_height}
use Rattle.st_parse_builder.specs.inner.PieceHeights.{typ_in, lone_typ, height_or, open_height}
use Rattle.st_parse_builder.specs.inner.NotationBuilding as pieces
use Rattle.st_parse_builder.specs.inner.Parts.{capped, kept, built, untold, over, made_or}
use Rattle.st_parse_builder.specs.inner.NotationEntries as spec
use Rattle.st_parse_builder.specs.inner.NotationEntries.{Stack, entries, type_in, the_part, open_notation, notation_in, typ_part, notation_part}
use Rattle.st_parse_builder.proofs.PartLemmas.{part, given, over_built, read_built, by_tree, open_part, shut_part, whole_part, none_part}
use Rattle.st_parse_builder.proofs.Tops.{on_some}
use Rattle.st_parse_builder.proofs.NotationTops.{on_notation, on_type, on_whole, on_place, on_part}
use Rattle.st_parse_builder.proofs.NotationTallness.{tall_hole}

-- ---- a notation that is no type alone

-- A whole notation is no type.
abbrev IsTold : NotationPiece → Type 0
IsTold (whole n) = lone_typ n ≡ None
IsTold p = Unit {0}

abbrev pub AreTold : pieces.Stack → Type 0
AreTold [] = Unit {0}
AreTold (p ∷ s) = IsTold p × AreTold s

infix_is : (at : Span) (l : Notation) (m : Mark) (r : Notation) → lone_typ (notation_at at (not_node.Infix l m r)) ≡ None
infix_is at l m r = ap typ_in (not_node.outs-Infix l m r)

atom_is : (at : Span) (name : List ℕ) → lone_typ (notation_at at (not_node.Atom name)) ≡ None
atom_is at name = ap typ_in (not_node.outs-Atom name)

spelled_is : (k : NotNode-F NotNode Notation) (at : Span) (behind : List ℕ) → typ_in k ≡ None → lone_typ (notation_at at (spelled_on k behind)) ≡ None
spelled_is (NotNode-F.Atom name) at behind h = atom_is at (name ++ 46 ∷ behind)
spelled_is (NotNode-F.Hole t) at behind h = absurd (cc)
spelled_is (NotNode-F.Seq ns) at behind h = ap typ_in (out-roll-NotNode (NotNode-F.Seq ns))
spelled_is (NotNode-F.Infix l m r) at behind h = ap typ_in (out-roll-NotNode (NotNode-F.Infix l m r))
spelled_is (NotNode-F.Bracket m n) at behind h = ap typ_in (out-roll-NotNode (NotNode-F.Bracket m n))

operand_told : (k : Leaf) (x : Token) → IsTold (pieces.operand_piece k x)
operand_told leaf.Low x = tt
operand_told leaf.Basic x = tt
operand_told leaf.Variable x = atom_is x.at (name_of x.kind)
operand_told leaf.Atom x = atom_is x.at (name_of x.kind)
operand_told leaf.Number x = atom_is x.at (name_of x.kind)
operand_told leaf.Literal x = atom_is x.at (name_of x.kind)
operand_told leaf.Function x = atom_is x.at (name_of x.kind)

made : (s u : pieces.Stack) (p : NotationPiece) → IsTold p → AreTold s → pieces.put p s ≡ Some u → AreTold u
made s u p is all h = let e : p ∷ s ≡ u = cc in subst AreTold e (is, all)

below : (p : NotationPiece) (s r : pieces.Stack) → s ≡ p ∷ r → AreTold s → AreTold r
below p s r i all = (subst AreTold i all).1

told : (a : Action) (s u : pieces.Stack) → AreTold s → pieces.applied a s ≡ Some u → AreTold u
told (action.Operand k x) s u all h = made s u (pieces.operand_piece k x) (operand_told k x) all h
told (action.Dot x) s u all h = on_whole s u _ h (λ n r i h. made r u (whole (atom_on n x)) (spelled_is (out-NotNode (out-Notation n).node) (notation_place n) (name_of x.kind) (subst AreTold i all).0) (below (whole n) s r i all) h)
told (action.Mark m) s u all h = on_type s u _ h (λ b t r i h. made r u (a_type b (marked b m t)) tt (below (a_type b t) s r i all) h)
told (action.Here at) s u all h = made s u (from_place at) tt all h
told (action.Prefix m) s u all h = on_notation s u _ h (λ p n r i is h. on_place r u _ h (λ b q j h. made q u (whole (notation_joined (notation_at b (not_node.Seq [])) m n)) (infix_is (notation_place (notation_at b (not_node.Seq []))) (notation_at b (not_node.Seq [])) m n) (below (from_place b) r q j (below p s r i all)) h))
told (action.Enclose k) s u all h = on_notation s u _ h (λ p n r i is h. on_place r u _ h (λ b q j h. made q u (whole (notation_at b (not_node.Bracket (tick k) n))) (ap typ_in (not_node.outs-Bracket (tick k) n)) (below (from_place b) r q j (below p s r i all)) h))
told (action.Join m) s u all h = on_notation s u _ h (λ p r t i is h. on_notation t u _ h (λ o l q j it h. made q u (whole (notation_joined l m r)) (infix_is (notation_place l) l m r) (below o t q j (below p s t i all)) h))
told (action.Open at) s u all h = made s u (types at []) tt all h
told action.First s u all h = on_notation s u _ h (λ p n r i is h. made r u (elements (notation_place n) (n ∷ [])) tt (below p s r i all) h)
told action.Part (p ∷ s) u all h = on_part p s u h
    (λ b c t ts r i j h. made r u (types c (ts ++ t ∷ [])) tt (below (types c ts) s r j all.1) h)
    (λ c n ns r i j h. made r u (elements c (ns ++ n ∷ [])) tt (below (elements c ns) s r j all.1) h)
told action.EndParens (types at ts ∷ s) u all h = made s u (a_type at (typ_in_parens at ts)) tt all.1 h
told action.EndSequence (elements at ns ∷ s) u all h = made s u (whole (notation_at at (not_node.Seq ns))) (ap typ_in (not_node.outs-Seq ns)) all.1 h
told a s u all h = absurd (cc)

pub told_all : (actions : List Action) (s u : pieces.Stack) → AreTold s → pieces.run actions s ≡ Some u → AreTold u
told_all [] s u all h = let e : s ≡ u = cc in subst AreTold e all
told_all (a ∷ later) s u all h = on_some (pieces.applied a s) u (pieces.run later) h (λ v i j. told_all later v u (told a s v all i) j)

-- ---- what is alone

pub typ_given : (s : pieces.Stack) (t : Typ) (stack : Stack) (p : Built NotationPiece) (q : Built Typ) → pieces.the_typ s ≡ Some t → stack ≡ entries s
    → p ≡ made_or (the_part stack) (untold 0) → q ≡ made_or (spec.typ_in p) (untold 0) → q ≡ typ_part t
typ_given (a_type b t ∷ []) w stack p q h e f g =
    let is : t ≡ w = cc in
    let one : p ≡ built 0 (typ_height t) (a_type b t) = given (untold 0) f (ap the_part e) in
    given (untold 0) g
    (ap spec.typ_in one
    ∙ ap (option_map (over (λ x. x.1))) (read_built type_in 0 (typ_height t) (a_type b t) (b, t) refl)
    ∙ ap Some (over_built (λ (x : Span × Typ). x.1) 0 (typ_height t) (b, t))
    ∙ ap (λ t. Some (typ_part t)) is)
typ_given s w stack p q h e f g = absurd (cc)

-- a type alone as a notation, which may be an alias
hole_given : (b : Span) (t : Typ) → notation_in (built 0 (typ_height t) (a_type b t)) ≡ Some (notation_part (hole b t))
hole_given b t =
    by_tree 0 (typ_height t) (a_type b t)
    (λ low i.
    ap (λ o. open_notation o p.height p.from) i
    ∙ ap Some (open_part 0 (typ_height t) (a_type b t) (hole b t) low)
    ∙ told)
    (λ tall i.
    ap (λ o. open_notation o p.height p.from) i
    ∙ ap Some (shut_part 0 (typ_height t) (a_type b t) (hole b t) tall)
    ∙ told)
  where
    p : Built NotationPiece
    p = built 0 (typ_height t) (a_type b t)

    lone : open_height (hole b t) ≡ typ_height t
    lone = ap (height_or (notation_height (hole b t))) (ap typ_in (not_node.outs-Hole t))

    told : Some (part 0 (kept (typ_height t) (Some (hole b t))) (capped (typ_height t + 1))) ≡ Some (notation_part (hole b t))
    told =
        ap (λ m. Some (part 0 (kept m (Some (hole b t))) (capped (typ_height t + 1)))) (sym lone)
        ∙ ap (λ m. Some (part 0 (kept (open_height (hole b t)) (Some (hole b t))) (capped m))) (sym (tall_hole b t))

whole_given : (n : Notation) → lone_typ n ≡ None → notation_in (built 0 (notation_height n) (whole n)) ≡ Some (notation_part n)
whole_given n single =
    by_tree 0 (notation_height n) (whole n)
    (λ low i. ap (λ o. open_notation o p.height p.from) i ∙ ap Some (whole_part 0 (notation_height n) (whole n) n low) ∙ told)
    (λ tall i. ap (λ o. open_notation o p.height p.from) i ∙ ap Some (none_part 0 (notation_height n) (whole n) n tall) ∙ told)
  where
    p : Built NotationPiece
    p = built 0 (notation_height n) (whole n)

    told : Some (part 0 (kept (notation_height n) (Some n)) (capped (notation_height n))) ≡ Some (notation_part n)
    told = ap (λ m. Some (part 0 (kept m (Some n)) (capped (notation_height n)))) (sym (ap (height_or (notation_height n)) single))

pub notation_given : (s : pieces.Stack) (n : Notation) (stack : Stack) (p : Built NotationPiece) (q : Built Notation) → AreTold s → pieces.the_notation s ≡ Some n → stack ≡ entries s
    → p ≡ made_or (the_part stack) (untold 0) → q ≡ made_or (notation_in p) (untold 0) → q ≡ notation_part n
notation_given (a_type b t ∷ []) n stack p q all h e f g =
    let is : hole b t ≡ n = cc in
    let one : p ≡ built 0 (typ_height t) (a_type b t) = given (untold 0) f (ap the_part e) in
    given (untold 0) g (ap notation_in one ∙ hole_given b t ∙ ap (λ m. Some (notation_part m)) is)
notation_given (whole m ∷ []) n stack p q all h e f g =
    let is : m ≡ n = cc in
    let one : p ≡ built 0 (notation_height m) (whole m) = given (untold 0) f (ap the_part e) in
    given (untold 0) g (ap notation_in one ∙ whole_given m all.0 ∙ ap (λ m. Some (notation_part m)) is)
notation_given s n stack p q all h e f g = absurd (cc)
