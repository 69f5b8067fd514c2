-- Elements at a position, and several from one on.
use Rattle.std.proofs.Common.{◌≡◌, ℕ, ◌≤◌, List, [], ◌∷◌, ◌++◌, map, codes, Bool, true, false, refl, sym, ap, ◌∙◌, subst, arith, append_assoc}
use Rattle.st_num.specs.declared.span.Span.{Span}
use Rattle.st_num.specs.declared.mark.Mark.TheVariants.{OpenBracket, CloseBracket, Colon}
use Rattle.st_num.specs.declared.token.Token.{Token}
use Rattle.st_num.specs.declared.token.TokenKind.TheVariants as kind
use Rattle.st_grammar.specs.declared.sort.Sort.{Sort}
use Rattle.st_grammar.specs.declared.sort.Sort.TheVariants.{Expression as expression, Arithmetic as arithmetic}
use Rattle.st_grammar.specs.declared.sort.Style.TheVariants.{Ends as ends}
use Rattle.st_grammar.specs.declared.sort.Bracket.TheVariants.{Square as square}
use Rattle.st_grammar.specs.declared.sort.Closing.TheVariants.{BySquare as by_square}
use Rattle.st_grammar.specs.Levels.{computes}
use Rattle.st_grammar.specs.Terminals.{Terminal, sign, opening, closing}
use Rattle.st_grammar.specs.Trees.{Tree, Trees, none, more, bracket, index, text, texts}
use Rattle.st_grammar.specs.Grammar.{Fits, EachFits, index_style, size, level}
use Rattle.st_el.specs.declared.expression.Exp.{Exp}
use Rattle.st_el.specs.declared.expression.Node.{roll-Node}
use Rattle.st_el.specs.declared.expression.Node.TheVariants as node
use Rattle.st_el.specs.declared.expression.Count.TheOpen.{Node-F}
use Rattle.st_el.specs.declared.context.Around.{Around}
use Rattle.st_el.specs.declared.context.Around.TheVariants.{Brackets, Bars, Arithmetic, Caret}
use Rattle.st_el.specs.declared.context.Behind.TheVariants.{Other}
use Rattle.st_el.specs.Contexts.{position, operand_before}
use Rattle.st_el.specs.SourceText.{printed, range, parts_printed}
use Rattle.st_el.specs.Plain.{plain_exp}
use Rattle.st_parse_builder.specs.Meaning.{exp, place, meaning, meanings, indexed, is_atom, opened}
use Rattle.st_parse_law.specs.Written.{Piece, space, bytes_of, shape, shapes_behind, AreApart}
use Rattle.st_parse_law.proofs.Cuts.{touch, touch-append, bytes-append, parted, cut, single, one_terminal, terminals_of_both}
use Rattle.st_parse_law.proofs.Ends.{Clear, before, blank, open_square, Front, front_more, first_square, first_ends, by_square as square_closes, closer_clear, closer_last, last_ends}
use Rattle.st_parse_law.proofs.Parts.{Traits, Read}
use Rattle.st_parse_law.proofs.Wraps.{signed, no_atom_at}
use Rattle.st_parse_law.proofs.Placed.{Home, sort_of, bare_traits, place_traits, Printable, placed}
use Rattle.st_parse_law.proofs.Suffixes.{Longer, Suffix}
use Rattle.st_parse_law.proofs.Posts.{same_plain, operand_then}
use Rattle.st_parse_law.proofs.Enclosed.{computes_home}
use Rattle.st_parse_law.proofs.Tuples.{filled}
use Rattle.st_parse_law.proofs.Rows.{Row, Joint, row_one, row_then}

-- what may stand round an operand that something stands behind
abbrev pub behind_traits : Bool → Traits
behind_traits no_bar = record { level = 20; dots = true; plus = true; no_bar = no_bar }

-- what stands in square brackets behind an operand
module _ (names : List (List ℕ)) (σ : Sort) (e f : Exp) (inner traits : Traits) (P : Trees → Type 0) (bytes : List ℕ)
    (tight : inner.level ≡ 20) (low : traits.level ≡ 20) (bars : traits.no_bar ≡ true → inner.no_bar ≡ true) (c : computes σ ≡ true)
    (fits : (ts : Trees) → P ts → EachFits (expression false) (index_style σ) 13 ts × (1 ≤ size ts))
    (meant : (ts : Trees) (t : Tree) → P ts → plain_exp (meaning t) ≡ plain_exp e → plain_exp (indexed (meaning t) (meanings ts)) ≡ plain_exp f)
    (no_atom : (ts : Trees) (t : Tree) → P ts → is_atom (opened (indexed (meaning t) (meanings ts))) ≡ false) where
  square_apart : (row : Row names P false false bytes) (behind : List Piece) → Clear true (bytes_of behind) → AreApart behind
      → AreApart ((signed OpenBracket ∷ (row.pieces ++ signed CloseBracket ∷ [])) ++ behind)
  square_apart row behind k a =
      let end : AreApart (signed CloseBracket ∷ behind) = (refl, tt, last_ends CloseBracket true (bytes_of behind) (closer_last CloseBracket square_closes) k, a) in
      let rest : AreApart (row.pieces ++ signed CloseBracket ∷ behind) = row.apart (signed CloseBracket ∷ behind) (closer_clear CloseBracket false (bytes_of behind) square_closes) end in
      let front : Front false (bytes_of (row.pieces ++ signed CloseBracket ∷ behind)) =
      subst (Front false) (sym (bytes-append row.pieces (signed CloseBracket ∷ behind) ∙ ap (λ w. w ++ bytes_of (signed CloseBracket ∷ behind)) row.same)) (front_more false bytes (bytes_of (signed CloseBracket ∷ behind)) row.front) in
      subst (λ w. AreApart (signed OpenBracket ∷ w)) (sym (append_assoc row.pieces (signed CloseBracket ∷ []) behind))
      (refl, tt, first_ends OpenBracket false (bytes_of (row.pieces ++ signed CloseBracket ∷ behind)) (first_square false) front, rest)

  square_reads : (row : Row names P false false bytes) (ys xs : List Token) → map shape xs ≡ shapes_behind true (signed OpenBracket ∷ (row.pieces ++ signed CloseBracket ∷ []))
      → (r : Read names σ e inner ys) → Longer names σ f traits r.tree xs
  square_reads row ys xs s r =
      let one = cut xs ((kind.Sign OpenBracket, true) ∷ []) (shapes_behind true (row.pieces ++ signed CloseBracket ∷ [])) s in
      let x = single one.ahead (kind.Sign OpenBracket) true one.fronts in
      let two = parted true row.pieces (signed CloseBracket ∷ []) one.behind one.backs in
      let y = single two.behind (kind.Sign CloseBracket) (touch true row.pieces) two.backs in
      let z = row.reads true two.ahead two.fronts in
      let ok = fits z.trees z.holds in
      record {
        tree = bracket (index r.tree x.only) z.trees y.only;
        words = opening square x.only ∷ (texts z.trees ++ closing by_square y.only ∷ []);
        spelled = terminals_of_both names xs one.ahead one.behind (opening square x.only ∷ []) (texts z.trees ++ closing by_square y.only ∷ []) one.whole
            (one_terminal names one.ahead (kind.Sign OpenBracket) true x)
            (terminals_of_both names one.behind two.ahead two.behind (texts z.trees) (closing by_square y.only ∷ []) two.whole z.spelled
            (one_terminal names two.behind (kind.Sign CloseBracket) (touch true row.pieces) y));
        whole = append_assoc (text r.tree) (opening square x.only ∷ []) (texts z.trees ++ closing by_square y.only ∷ []);
        fits = (refl, (c, r.fits, omega (arith, tight, r.level)), ok.0, filled (index r.tree x.only) z.trees ok.1);
        plain = meant z.trees r.tree z.holds r.plain;
        level = omega (arith, low);
        dots = λ _. no_atom z.trees r.tree z.holds;
      }

  pub square_suffix : traits.plus ≡ true → Row names P false false bytes → Suffix names σ e f inner traits (codes "[" ++ (bytes ++ codes "]"))
  square_suffix plus row = record {
    pieces = signed OpenBracket ∷ (row.pieces ++ signed CloseBracket ∷ []);
    same = ap (λ w. 91 ∷ w) (bytes-append row.pieces (signed CloseBracket ∷ []) ∙ ap (λ w. w ++ 93 ∷ []) row.same);
    ends = touch-append true row.pieces (signed CloseBracket ∷ []);
    clear = λ behind. before open_square ((bytes ++ codes "]") ++ behind) refl;
    no_bar = bars;
    apart = λ behind k a. square_apart row behind (subst (λ t. Clear t (bytes_of behind)) plus k) a;
    reads = square_reads row;
  }

-- ---- one position

-- the tree of this position
abbrev pub IsPosition : Exp → Trees → Type 0
IsPosition i none = ⊥
IsPosition i (more (more ts q u) w t) = ⊥
IsPosition i (more none w t) = (w ≡ []) × Fits (expression false) t × (13 ≤ level t) × (plain_exp (meaning t) ≡ plain_exp i)

pub position_row : (names : List (List ℕ)) (i : Exp) → Printable names (expression false) i → Row names (IsPosition i) false false ((printed i).at position)
position_row names i x =
    row_one names (IsPosition i) (expression false) i (place_traits position (printed i)) ((printed i).at position) (λ xs r. (refl, r.fits, r.level, r.plain))
    (placed names (expression false) i position tt (omega arith) x)

styled : (σ : Sort) (w : List Terminal) (t : Tree) → w ≡ [] → Fits (expression false) t → 13 ≤ level t → EachFits (expression false) (index_style σ) 13 (more none w t)
styled arithmetic w t e f l = (tt, e, f, l, tt)
styled (expression b) w t e f l = (tt, e, f, l, tt)
styled σ w t e f l = (tt, e, f, l, tt)

position_fits : (σ : Sort) (i : Exp) (ts : Trees) → IsPosition i ts → EachFits (expression false) (index_style σ) 13 ts × (1 ≤ size ts)
position_fits σ i none p = absurd p
position_fits σ i (more (more ts q u) w t) p = absurd p
position_fits σ i (more none w t) p = (styled σ w t p.0 p.1 p.2, omega arith)

at_meant : (e i : Exp) (at : Span) (ts : Trees) (t : Tree) → IsPosition i ts → plain_exp (meaning t) ≡ plain_exp e
    → plain_exp (indexed (meaning t) (meanings ts)) ≡ plain_exp (exp at (node.At e i))
at_meant e i at none t p q = absurd p
at_meant e i at (more (more ts q' u) w s) t p q = absurd p
at_meant e i at (more none w s) t p q =
    same_plain (place (meaning t)) at (node.At (meaning t) (meaning s)) (node.At e i) (Node-F.Node::At (meaning t) (meaning s)) (Node-F.Node::At e i)
    (node.outs-At (meaning t) (meaning s)) (node.outs-At e i)
    (ap (λ x. roll-Node (Node-F.Node::At x (plain_exp (meaning s)))) q ∙ ap (λ x. roll-Node (Node-F.Node::At (plain_exp e) x)) p.3)

at_no_atom : (i : Exp) (ts : Trees) (t : Tree) → IsPosition i ts → is_atom (opened (indexed (meaning t) (meanings ts))) ≡ false
at_no_atom i none t p = absurd p
at_no_atom i (more (more ts q u) w s) t p = absurd p
at_no_atom i (more none w s) t p = no_atom_at (place (meaning t)) (node.At (meaning t) (meaning s)) (Node-F.Node::At (meaning t) (meaning s)) (node.outs-At (meaning t) (meaning s)) refl

-- an element at a position
pub at_printed : (names : List (List ℕ)) (σ : Sort) (at : Span) (e i : Exp) → Printable names σ e → Printable names (expression false) i → Printable names σ (exp at (node.At e i))
at_printed names σ at e i x y =
    operand_then names σ e at (node.At e i) (Node-F.Node::At (printed e) (printed i)) Other (ap parts_printed (node.outs-At e i)) refl refl (λ a. refl) x (λ a home.
    square_suffix names (sort_of a) e (exp at (node.At e i)) (place_traits (operand_before a Other) (printed e)) (bare_traits (Node-F.Node::At (printed e) (printed i))) (IsPosition i) ((printed i).at position)
    refl refl (λ h. h) (computes_home σ a home) (position_fits (sort_of a) i) (at_meant e i at) (at_no_atom i) refl (position_row names i y))

-- ---- a position and a length

abbrev IsColon : List Terminal → Type 0
IsColon w = (x : Token) × (w ≡ sign Colon x ∷ [])

colon_joint : (names : List (List ℕ)) → Joint names IsColon false false (codes " : ")
colon_joint names = record {
  pieces = space ∷ signed Colon ∷ space ∷ [];
  same = refl;
  after = λ b. refl;
  clear = λ behind. before blank (58 ∷ 32 ∷ behind) refl;
  apart = λ behind f a. (refl, tt, refl, a);
  reads = λ xs s. let x = single xs (kind.Sign Colon) false s in record {
    words = sign Colon x.only ∷ [];
    spelled = one_terminal names xs (kind.Sign Colon) false x;
    holds = (x.only, refl);
  };
}

-- the trees of this position and this length
abbrev pub IsRange : Exp → Exp → Trees → Type 0
IsRange i j none = ⊥
IsRange i j (more ts w t) = IsPosition i ts × IsColon w × Fits (expression false) t × (13 ≤ level t) × (plain_exp (meaning t) ≡ plain_exp j)

pub range_row : (names : List (List ℕ)) (i j : Exp) → Printable names (expression false) i → Printable names (expression false) j
    → Row names (IsRange i j) false false ((printed i).at position ++ (codes " : " ++ (printed j).at position))
range_row names i j x y =
    row_then names (IsPosition i) (IsRange i j) IsColon (expression false) j (place_traits position (printed j)) false false ((printed i).at position) (codes " : ") ((printed j).at position)
    (position_row names i x) (colon_joint names) (placed names (expression false) j position tt (omega arith) y) (λ ts w xs p c s r. (p, c, r.fits, r.level, r.plain))

pub range_fits : (i j : Exp) (ts : Trees) → IsRange i j ts → EachFits (expression false) ends 13 ts × (1 ≤ size ts)
range_fits i j none p = absurd p
range_fits i j (more none w t) p = absurd p.0
range_fits i j (more (more (more ts q u) v s) w t) p = absurd p.0
range_fits i j (more (more none v s) w t) p = (((tt, p.0.0, p.0.1, p.0.2, tt), (Colon, p.1.0, p.1.1, refl), p.2, p.3, tt), omega arith)

slice_meant : (e i j : Exp) (at : Span) (ts : Trees) (t : Tree) → IsRange i j ts → plain_exp (meaning t) ≡ plain_exp e
    → plain_exp (indexed (meaning t) (meanings ts)) ≡ plain_exp (exp at (node.Slice e i j))
slice_meant e i j at none t p q = absurd p
slice_meant e i j at (more none w u) t p q = absurd p.0
slice_meant e i j at (more (more (more ts q' v') v s) w u) t p q = absurd p.0
slice_meant e i j at (more (more none v s) w u) t p q =
    same_plain (place (meaning t)) at (node.Slice (meaning t) (meaning s) (meaning u)) (node.Slice e i j) (Node-F.Node::Slice (meaning t) (meaning s) (meaning u)) (Node-F.Node::Slice e i j)
    (node.outs-Slice (meaning t) (meaning s) (meaning u)) (node.outs-Slice e i j)
    (ap (λ x. roll-Node (Node-F.Node::Slice x (plain_exp (meaning s)) (plain_exp (meaning u)))) q ∙ ap (λ x. roll-Node (Node-F.Node::Slice (plain_exp e) x (plain_exp (meaning u)))) p.0.3
    ∙ ap (λ x. roll-Node (Node-F.Node::Slice (plain_exp e) (plain_exp i) x)) p.4)

slice_no_atom : (i j : Exp) (ts : Trees) (t : Tree) → IsRange i j ts → is_atom (opened (indexed (meaning t) (meanings ts))) ≡ false
slice_no_atom i j none t p = absurd p
slice_no_atom i j (more none w u) t p = absurd p.0
slice_no_atom i j (more (more (more ts q v') v s) w u) t p = absurd p.0
slice_no_atom i j (more (more none v s) w u) t p =
    no_atom_at (place (meaning t)) (node.Slice (meaning t) (meaning s) (meaning u)) (Node-F.Node::Slice (meaning t) (meaning s) (meaning u)) (node.outs-Slice (meaning t) (meaning s) (meaning u)) refl

pub range_text : (i j : List ℕ) → codes "[" ++ ((i ++ (codes " : " ++ j)) ++ codes "]") ≡ codes "[" ++ i ++ codes " : " ++ j ++ codes "]"
range_text i j = ap (λ w. 91 ∷ (w ++ codes "]")) (sym (append_assoc i (codes " : ") j))

slice_suffix :
    (names : List (List ℕ)) (b : Bool) (inner : Traits) (at : Span) (e i j : Exp) → inner.level ≡ 20 → ((bare_traits (Node-F.Node::Slice (printed e) (printed i) (printed j))).no_bar ≡ true → inner.no_bar ≡ true)
    → Printable names (expression false) i → Printable names (expression false) j
    → Suffix names (expression b) e (exp at (node.Slice e i j)) inner (bare_traits (Node-F.Node::Slice (printed e) (printed i) (printed j))) (range (printed i) (printed j))
slice_suffix names b inner at e i j tight bars y z =
    subst (Suffix names (expression b) e (exp at (node.Slice e i j)) inner (bare_traits (Node-F.Node::Slice (printed e) (printed i) (printed j)))) (range_text ((printed i).at position) ((printed j).at position))
    (square_suffix names (expression b) e (exp at (node.Slice e i j)) inner (bare_traits (Node-F.Node::Slice (printed e) (printed i) (printed j))) (IsRange i j) ((printed i).at position ++ (codes " : " ++ (printed j).at position))
    tight refl bars refl (range_fits i j) (slice_meant e i j at) (slice_no_atom i j) refl (range_row names i j y z))

-- elements from a position on
pub slice_printed : (names : List (List ℕ)) (b : Bool) (at : Span) (e i j : Exp) → Printable names (expression b) e → Printable names (expression false) i → Printable names (expression false) j
    → Printable names (expression b) (exp at (node.Slice e i j))
slice_printed names b at e i j x y z =
    operand_then names (expression b) e at (node.Slice e i j) (Node-F.Node::Slice (printed e) (printed i) (printed j)) Other (ap parts_printed (node.outs-Slice e i j)) refl refl (λ a. refl) x go
  where
    go : (a : Around) → Home (expression b) a
        → Suffix names (sort_of a) e (exp at (node.Slice e i j)) (place_traits (operand_before a Other) (printed e)) (bare_traits (Node-F.Node::Slice (printed e) (printed i) (printed j))) (range (printed i) (printed j))
    go Brackets home = slice_suffix names false (place_traits (operand_before Brackets Other) (printed e)) at e i j refl (λ h. h) y z
    go Bars home = slice_suffix names true (place_traits (operand_before Bars Other) (printed e)) at e i j refl (λ h. h) y z
    go Arithmetic home = absurd home
    go Caret home = absurd home
