-- A part between an opening and a closing sign.
use Rattle.std.proofs.Common.{◌≡◌, ℕ, ◌≤◌, List, [], ◌∷◌, ◌++◌, map, Bool, true, false, refl, sym, ap, ◌∙◌, subst, arith, append_assoc}
use Rattle.std.proofs.lemmas.List.{append-nil}
use Rattle.st_num.specs.Signs.{spelling}
use Rattle.st_num.specs.declared.mark.Mark.{Mark}
use Rattle.st_num.specs.declared.mark.Mark.TheVariants.{CloseParen, Bar, OpenParen, OpenArith}
use Rattle.st_num.specs.declared.token.Token.{Token}
use Rattle.st_num.specs.declared.token.TokenKind.TheVariants.{Sign}
use Rattle.st_grammar.specs.declared.sort.Sort.{Sort}
use Rattle.st_grammar.specs.declared.sort.Sort.TheVariants.{Expression as expression, Arithmetic as arithmetic}
use Rattle.st_grammar.specs.declared.sort.Bracket.TheVariants.{Round as round, Dollar as dollar}
use Rattle.st_grammar.specs.Terminals.{closing, kind_terminal}
use Rattle.st_grammar.specs.Levels.{encloses, computes}
use Rattle.st_grammar.specs.Trees.{Tree, bracket, none, more, Heading, plain, length, text, heading_text, closes}
use Rattle.st_grammar.specs.Grammar.{Fits, level}
use Rattle.st_el.specs.declared.expression.Exp.{Exp}
use Rattle.st_num.specs.declared.span.Span.{Span}
use Rattle.st_el.specs.declared.expression.Node.{Node, out-Node, roll-Node}
use Rattle.st_el.specs.declared.expression.Node.TheVariants as node
use Rattle.st_el.specs.declared.expression.Count.{Count}
use Rattle.st_el.specs.declared.expression.Count.TheOpen.{Node-F}
use Rattle.st_el.specs.declared.expression.Seg.{Seg}
use Rattle.st_el.specs.Plain.{nowhere, plain_exp}
use Rattle.st_parse_builder.specs.Meaning.{exp, meaning, is_atom, opened}
use Rattle.st_parse_law.specs.Written.{Piece, token, bytes_of, shape, shapes_behind, ends_before, AreApart}
use Rattle.st_parse_law.proofs.Cuts.{touch, touch-append, bytes-append, parted, cut, single, one_terminal, terminals_of_both}
use Rattle.st_parse_law.proofs.Ends.{Clear, Front, last_ends, First, first_ends, Closer, by_round, by_bar as bar_closes, first_round, first_dollar, first_bar, closer_clear, closer_last, front_more}
use Rattle.st_parse_law.proofs.Plains.{plain-at, plain-again, node-of}
use Rattle.st_grammar.specs.Definitions.{is_bar}
use Rattle.st_parse_law.proofs.Parts.{Traits, Part, Read, is_arithmetic, starts_bar}

-- the piece of a sign
abbrev pub signed : Mark → Piece
signed m = token (Sign m) (spelling m)

-- An opening and a closing sign, and the trees of what stands between them: those of the inner
-- sort that mean the first expression become trees that mean the second.
pub record Frame (names : List (List ℕ)) (opens ends : Mark) (σ inner : Sort) (no_bar : Bool) (e f : Exp) : Type 0 where
  pub first : First opens (is_arithmetic inner)
  pub closer : Closer ends
  pub front : (bs : List ℕ) → Front (is_arithmetic σ) (spelling opens ++ bs)
  pub heading : Token → Heading
  pub begun : (x : Token) → kind_terminal names (Sign opens) x ∷ [] ≡ heading_text (heading x)
  pub closed : (x y : Token) → kind_terminal names (Sign ends) y ≡ closing (closes (heading x)) y
  pub fits : (x y : Token) (t : Tree) → Fits inner t → 1 ≤ level t → Fits σ (bracket (heading x) (more none [] t) y)
  pub meant : (x y : Token) (t : Tree) → plain_exp (meaning t) ≡ plain_exp e
      → plain_exp (meaning (bracket (heading x) (more none [] t) y)) ≡ plain_exp f
  pub no_atom : (x y : Token) (t : Tree) → is_atom (opened (meaning (bracket (heading x) (more none [] t) y))) ≡ false
  pub bars : (x : Token) → no_bar ≡ true → is_bar (kind_terminal names (Sign opens) x) ≡ false

-- what may stand round a bracket
abbrev pub tight_traits : Bool → Traits
tight_traits no_bar = record { level = 20; dots = true; plus = true; no_bar = no_bar }

module _ (names : List (List ℕ)) (opens ends : Mark) (σ inner : Sort) (no_bar : Bool) (e f : Exp) (frame : Frame names opens ends σ inner no_bar e f) where
  abbrev framed_pieces : List Piece → List Piece
  framed_pieces ps = signed opens ∷ (ps ++ signed ends ∷ [])

  module _ (traits : Traits) (bytes : List ℕ) (part : Part names inner e traits bytes) (level_1 : 1 ≤ traits.level) where
    framed_apart : (behind : List Piece) → Clear true (bytes_of behind) → AreApart behind → AreApart (framed_pieces part.pieces ++ behind)
    framed_apart behind c apart =
        let end : AreApart (signed ends ∷ behind) = (refl, tt, last_ends ends true (bytes_of behind) (closer_last ends frame.closer) c, apart) in
        let whole : AreApart (part.pieces ++ signed ends ∷ behind) = part.apart (signed ends ∷ behind) (closer_clear ends traits.plus (bytes_of behind) frame.closer) end in
        let same : (part.pieces ++ signed ends ∷ []) ++ behind ≡ part.pieces ++ signed ends ∷ behind = append_assoc part.pieces (signed ends ∷ []) behind in
        let bytes_same : bytes_of (part.pieces ++ signed ends ∷ behind) ≡ bytes ++ bytes_of (signed ends ∷ behind) = bytes-append part.pieces (signed ends ∷ behind) ∙ ap (λ w. w ++ bytes_of (signed ends ∷ behind)) part.same in
        let opens_well : ends_before (Sign opens) (bytes_of (part.pieces ++ signed ends ∷ behind)) ≡ true =
        first_ends opens (is_arithmetic inner) (bytes_of (part.pieces ++ signed ends ∷ behind)) frame.first
        (subst (Front (is_arithmetic inner)) (sym bytes_same) (front_more (is_arithmetic inner) bytes (bytes_of (signed ends ∷ behind)) part.front)) in
        subst (λ w. AreApart (signed opens ∷ w)) (sym same) (refl, tt, opens_well, whole)

    framed_read : (b : Bool) (xs : List Token) → map shape xs ≡ shapes_behind b (framed_pieces part.pieces)
        → Read names σ f (tight_traits no_bar) xs
    framed_read b xs s =
        let one = cut xs ((Sign opens, b) ∷ []) (shapes_behind true (part.pieces ++ signed ends ∷ [])) s in
        let x = single one.ahead (Sign opens) b one.fronts in
        let two = parted true part.pieces (signed ends ∷ []) one.behind one.backs in
        let y = single two.behind (Sign ends) (touch true part.pieces) two.backs in
        let r = part.reads true two.ahead two.fronts in
        let t : Tree = bracket (frame.heading x.only) (more none [] r.tree) y.only in
        record {
          tree = t;
          spelled =
              terminals_of_both names xs one.ahead one.behind (heading_text (frame.heading x.only)) (text r.tree ++ closing (closes (frame.heading x.only)) y.only ∷ []) one.whole
              (one_terminal names one.ahead (Sign opens) b x ∙ frame.begun x.only)
              (terminals_of_both names one.behind two.ahead two.behind (text r.tree) (closing (closes (frame.heading x.only)) y.only ∷ []) two.whole r.spelled
              (one_terminal names two.behind (Sign ends) (touch true part.pieces) y ∙ ap (λ l. l ∷ []) (frame.closed x.only y.only)));
          fits = frame.fits x.only y.only r.tree r.fits (omega (arith, level_1, r.level));
          plain = frame.meant x.only y.only r.tree r.plain;
          level = omega arith;
          dots = λ _. frame.no_atom x.only y.only r.tree;
          no_bar = λ h. ap (λ w. starts_bar (w ++ (text r.tree ++ closing (closes (frame.heading x.only)) y.only ∷ []))) (sym (frame.begun x.only)) ∙ frame.bars x.only h;
        }

    pub framed : Part names σ f (tight_traits no_bar) (spelling opens ++ bytes ++ spelling ends)
    framed = record {
      pieces = framed_pieces part.pieces;
      same = ap (λ w. spelling opens ++ w) (bytes-append part.pieces (signed ends ∷ []) ∙ ap (λ w. w ++ (spelling ends ++ [])) part.same ∙ ap (λ w. bytes ++ w) (append-nil (spelling ends))) ∙ sym (append_assoc (spelling opens) bytes (spelling ends));
      ends = λ b. touch-append true part.pieces (signed ends ∷ []);
      front = subst (Front (is_arithmetic σ)) (sym (append_assoc (spelling opens) bytes (spelling ends))) (frame.front (bytes ++ spelling ends));
      apart = framed_apart;
      reads = framed_read;
    }

-- ---- the brackets round one part

-- what a bracket of one part is
abbrev pub boxed : Heading → Token → Tree → Tree
boxed h y t = bracket h (more none [] t) y

pub no_atom_at : (at : Span) (n : Node) (l : Node-F Count Node Seg Exp) → out-Node n ≡ l → is_atom l ≡ false → is_atom (opened (exp at n)) ≡ false
no_atom_at at n l e h = ap (λ m. is_atom (out-Node m)) (node-of at n) ∙ ap is_atom e ∙ h

pub paren-plain : (at : Span) (e : Exp) → plain_exp (exp at (node.Paren e)) ≡ plain_exp e
paren-plain at e = plain-at at (node.Paren e) (Node-F.Paren e) (node.outs-Paren e) ∙ plain-again e

pub arith-plain : (at : Span) (e : Exp) → plain_exp (exp at (node.Arith e)) ≡ plain_exp e
arith-plain at e = plain-at at (node.Arith e) (Node-F.Arith e) (node.outs-Arith e) ∙ plain-again e

-- parentheses in an expression
pub paren_frame : (names : List (List ℕ)) (b : Bool) (e : Exp) → Frame names OpenParen CloseParen (expression b) (expression false) true e e
paren_frame names b e = record {
  first = first_round _;
  closer = by_round;
  front = λ bs. record { first = 40; rest = bs; is = refl; no_semicolon = refl; no_minus = λ _. refl };
  heading = λ x. plain round x;
  begun = λ x. refl;
  closed = λ x y. refl;
  fits = λ x y t f l. (refl, refl, (tt, refl, f, l, tt), tt);
  meant = λ x y t q. paren-plain x.at (meaning t) ∙ q;
  no_atom = λ x y t. no_atom_at x.at (node.Paren (meaning t)) (Node-F.Paren (meaning t)) (node.outs-Paren (meaning t)) refl;
  bars = λ x _. refl;
}

-- parentheses in arithmetic
pub group_frame : (names : List (List ℕ)) (e : Exp) → Frame names OpenParen CloseParen arithmetic arithmetic true e e
group_frame names e = record {
  first = first_round _;
  closer = by_round;
  front = λ bs. record { first = 40; rest = bs; is = refl; no_semicolon = refl; no_minus = λ _. refl };
  heading = λ x. plain round x;
  begun = λ x. refl;
  closed = λ x y. refl;
  fits = λ x y t f l. (refl, refl, (tt, refl, f, l, tt), tt);
  meant = λ x y t q. paren-plain x.at (meaning t) ∙ q;
  no_atom = λ x y t. no_atom_at x.at (node.Paren (meaning t)) (Node-F.Paren (meaning t)) (node.outs-Paren (meaning t)) refl;
  bars = λ x _. refl;
}

-- arithmetic in any sort of place that has it
pub dollar_frame : (names : List (List ℕ)) (σ : Sort) (e : Exp) → encloses σ dollar ≡ true → Frame names OpenArith CloseParen σ arithmetic true e e
dollar_frame names σ e enc = record {
  first = first_dollar _;
  closer = by_round;
  front = λ bs. record { first = 36; rest = 40 ∷ bs; is = refl; no_semicolon = refl; no_minus = λ _. refl };
  heading = λ x. plain dollar x;
  begun = λ x. refl;
  closed = λ x y. refl;
  fits = λ x y t f l. (refl, enc, (tt, refl, f, l, tt), tt);
  meant = λ x y t q. arith-plain x.at (meaning t) ∙ q;
  no_atom = λ x y t. no_atom_at x.at (node.Arith (meaning t)) (Node-F.Arith (meaning t)) (node.outs-Arith (meaning t)) refl;
  bars = λ x _. refl;
}

-- the bars of a length
pub length_frame : (names : List (List ℕ)) (σ : Sort) (at : Span) (e : Exp) → computes σ ≡ true → Frame names Bar Bar σ (expression true) false e (exp at (node.Len e))
length_frame names σ at e c = record {
  first = first_bar;
  closer = bar_closes;
  front = λ bs. record { first = 124; rest = bs; is = refl; no_semicolon = refl; no_minus = λ _. refl };
  heading = λ x. length x;
  begun = λ x. refl;
  closed = λ x y. refl;
  fits = λ x y t f l. (refl, c, (tt, refl, f, l, tt), tt);
  meant = λ x y t q. plain-at x.at (node.Len (meaning t)) (Node-F.Len (meaning t)) (node.outs-Len (meaning t)) ∙ ap (λ p. exp nowhere (roll-Node (Node-F.Len p))) q ∙ sym (plain-at at (node.Len e) (Node-F.Len e) (node.outs-Len e));
  no_atom = λ x y t. no_atom_at x.at (node.Len (meaning t)) (Node-F.Len (meaning t)) (node.outs-Len (meaning t)) refl;
  bars = λ x h. absurd (cc);
}
