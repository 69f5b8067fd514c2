-- Updates and extensions.
use Rattle.std.proofs.Common.{◌≡◌, ℕ, List, [], ◌∷◌, ◌++◌, map, codes, Bool, true, false, refl, sym, ap, ◌∙◌, subst, arith, append_assoc}
use Rattle.std.proofs.lemmas.Grind.{common_steps}
use Rattle.st_num.specs.Signs.{spelling}
use Rattle.st_num.specs.declared.span.Span.{Span}
use Rattle.st_num.specs.declared.mark.Mark.{Mark}
use Rattle.st_num.specs.declared.mark.Mark.TheVariants.{OpenBracket, CloseBracket, Equal, ExtendBy}
use Rattle.st_num.specs.declared.token.Token.{Token}
use Rattle.st_num.specs.declared.token.TokenKind.TheVariants as kind
use Rattle.st_grammar.specs.declared.sort.Sort.TheVariants.{Expression as expression}
use Rattle.st_grammar.specs.declared.sort.Bracket.TheVariants.{Square as square}
use Rattle.st_grammar.specs.declared.sort.Closing.TheVariants.{BySquare as by_square}
use Rattle.st_grammar.specs.Levels.{is_change}
use Rattle.st_grammar.specs.Terminals.{kind_terminal, sign, opening, closing}
use Rattle.st_grammar.specs.Trees.{none, more, bracket, update, Path, head, text}
use Rattle.st_el.specs.declared.expression.Exp.{Exp}
use Rattle.st_el.specs.declared.expression.Node.{roll-Node}
use Rattle.st_el.specs.declared.expression.Node.TheVariants as node
use Rattle.st_el.specs.declared.expression.Count.TheOpen.{Node-F}
use Rattle.st_el.specs.declared.expression.Seg.{Seg}
use Rattle.st_el.specs.declared.context.Around.{Around}
use Rattle.st_el.specs.declared.context.Around.TheVariants.{Brackets, Bars, Arithmetic, Caret}
use Rattle.st_el.specs.declared.context.Behind.TheVariants.{Other}
use Rattle.st_el.specs.Contexts.{whole, operand_before}
use Rattle.st_el.specs.Wrappings.{Level}
use Rattle.st_el.specs.SourceText.{printed, printed_step, postfix, parts_printed}
use Rattle.st_el.specs.Plain.{plain_exp, plain_seg}
use Rattle.st_parse_builder.specs.Meaning.{exp, place, meaning, base, steps, is_atom, opened, changed_node}
use Rattle.st_parse_law.specs.Written.{Piece, space, bytes_of, shape, shapes_behind, ends_before, AreApart}
use Rattle.st_parse_law.proofs.Cuts.{touch, touch-append, bytes-append, parted, cut, single, one_terminal, terminals_of_both}
use Rattle.st_parse_law.proofs.Ends.{Clear, before, blank, open_square, Front, front_more, first_square, first_ends, by_square as square_closes, closer_clear, closer_last, last_ends}
use Rattle.st_parse_law.proofs.Parts.{Traits, Part, Read}
use Rattle.st_parse_law.proofs.Wraps.{signed, no_atom_at}
use Rattle.st_parse_law.proofs.Placed.{Home, sort_of, bare_traits, place_traits, Printable, placed}
use Rattle.st_parse_law.proofs.Suffixes.{Longer, Suffix}
use Rattle.st_parse_law.proofs.Posts.{same_plain, operand_then}
use Rattle.st_parse_law.proofs.Paths.{StepsPart, StepPrintables, StepPrintable, path_bytes, path_part}

-- the signs of a change
pub data IsChange : Mark → Type 0 where
  replaces : IsChange Equal
  extends : IsChange ExtendBy

change_sign : (m : Mark) → IsChange m → is_change m ≡ true
change_sign _ replaces = refl
change_sign _ extends = refl

change_terminal : (names : List (List ℕ)) (m : Mark) (x : Token) → IsChange m → kind_terminal names (kind.Sign m) x ≡ sign m x
change_terminal names _ x replaces = refl
change_terminal names _ x extends = refl

change_ends : (m : Mark) (bs : List ℕ) → IsChange m → ends_before (kind.Sign m) (32 ∷ bs) ≡ true
change_ends _ bs replaces = refl
change_ends _ bs extends = refl

change_plain :
    (at by : Span) (m : Mark) (e f g h : Exp) (ps qs : List Seg) → IsChange m → plain_exp e ≡ plain_exp f → map plain_seg ps ≡ map plain_seg qs → plain_exp g ≡ plain_exp h
    → plain_exp (exp at (changed_node m e ps g)) ≡ plain_exp (exp by (changed_node m f qs h))
change_plain at by _ e f g h ps qs replaces p s q =
    same_plain at by (node.Update e ps g) (node.Update f qs h) (Node-F.Update e ps g) (Node-F.Update f qs h) (node.outs-Update e ps g) (node.outs-Update f qs h)
    (ap (λ x. roll-Node (Node-F.Update x (map plain_seg ps) (plain_exp g))) p ∙ ap (λ x. roll-Node (Node-F.Update (plain_exp f) x (plain_exp g))) s ∙ ap (λ x. roll-Node (Node-F.Update (plain_exp f) (map plain_seg qs) x)) q)
change_plain at by _ e f g h ps qs extends p s q =
    same_plain at by (node.Extend e ps g) (node.Extend f qs h) (Node-F.Extend e ps g) (Node-F.Extend f qs h) (node.outs-Extend e ps g) (node.outs-Extend f qs h)
    (ap (λ x. roll-Node (Node-F.Extend x (map plain_seg ps) (plain_exp g))) p ∙ ap (λ x. roll-Node (Node-F.Extend (plain_exp f) x (plain_exp g))) s ∙ ap (λ x. roll-Node (Node-F.Extend (plain_exp f) (map plain_seg qs) x)) q)

change_no_atom : (at : Span) (m : Mark) (e g : Exp) (ps : List Seg) → IsChange m → is_atom (opened (exp at (changed_node m e ps g))) ≡ false
change_no_atom at _ e g ps replaces = no_atom_at at (node.Update e ps g) (Node-F.Update e ps g) (node.outs-Update e ps g) refl
change_no_atom at _ e g ps extends = no_atom_at at (node.Extend e ps g) (Node-F.Extend e ps g) (node.outs-Extend e ps g) refl

words_text : {A : Type 0} (a w v : List A) (o s : A) → (((a ++ o ∷ []) ++ w) ++ s ∷ []) ++ v ≡ a ++ o ∷ (w ++ s ∷ v)
words_text a w v o s = grind (arith, common_steps)

bytes_text : (p s t : List ℕ) → 91 ∷ (p ++ 32 ∷ (s ++ 32 ∷ (t ++ 93 ∷ []))) ≡ codes "[" ++ p ++ (32 ∷ (s ++ 32 ∷ [])) ++ t ++ codes "]"
bytes_text p s t =
    ap (λ w. 91 ∷ w) (sym (append_assoc (p ++ (32 ∷ (s ++ 32 ∷ []))) t (93 ∷ []) ∙ append_assoc p (32 ∷ (s ++ 32 ∷ [])) (t ++ 93 ∷ [])
    ∙ ap (λ w. p ++ 32 ∷ w) (append_assoc s (32 ∷ []) (t ++ 93 ∷ []))))

module _ (names : List (List ℕ)) (b : Bool) (inner traits : Traits) (at : Span) (e g : Exp) (path : List Seg) (m : Mark) (pb gb : List ℕ) (gt : Traits) (kind_of : IsChange m)
    (sp : StepsPart names path pb) (gp : Part names (expression false) g gt gb) (low : gt.level ≡ 1) (plus : gt.plus ≡ false)
    (tight : inner.level ≡ 20) (loose : traits.level ≡ 20) (bars : traits.no_bar ≡ true → inner.no_bar ≡ true) (pluses : traits.plus ≡ true) where
  abbrev change_pieces : List Piece
  change_pieces = signed OpenBracket ∷ (sp.pieces ++ space ∷ signed m ∷ space ∷ (gp.pieces ++ signed CloseBracket ∷ []))

  change_apart : (behind : List Piece) → Clear true (bytes_of behind) → AreApart behind → AreApart (change_pieces ++ behind)
  change_apart behind k a =
      let end : AreApart (signed CloseBracket ∷ behind) = (refl, tt, last_ends CloseBracket true (bytes_of behind) (closer_last CloseBracket square_closes) k, a) in
      let value : AreApart (gp.pieces ++ signed CloseBracket ∷ behind) = gp.apart (signed CloseBracket ∷ behind) (closer_clear CloseBracket gt.plus (bytes_of behind) square_closes) end in
      let middle : AreApart (space ∷ signed m ∷ space ∷ (gp.pieces ++ signed CloseBracket ∷ behind)) = (refl, tt, change_ends m (bytes_of (gp.pieces ++ signed CloseBracket ∷ behind)) kind_of, value) in
      let rest : AreApart (sp.pieces ++ space ∷ signed m ∷ space ∷ (gp.pieces ++ signed CloseBracket ∷ behind)) =
      sp.apart (space ∷ signed m ∷ space ∷ (gp.pieces ++ signed CloseBracket ∷ behind)) (before blank (bytes_of (signed m ∷ space ∷ (gp.pieces ++ signed CloseBracket ∷ behind))) refl) middle in
      let front : Front false (bytes_of (sp.pieces ++ space ∷ signed m ∷ space ∷ (gp.pieces ++ signed CloseBracket ∷ behind))) =
      subst (Front false) (sym (bytes-append sp.pieces (space ∷ signed m ∷ space ∷ (gp.pieces ++ signed CloseBracket ∷ behind)) ∙ ap (λ w. w ++ bytes_of (space ∷ signed m ∷ space ∷ (gp.pieces ++ signed CloseBracket ∷ behind))) sp.same))
      (front_more false pb (bytes_of (space ∷ signed m ∷ space ∷ (gp.pieces ++ signed CloseBracket ∷ behind))) sp.front) in
      let same : (sp.pieces ++ space ∷ signed m ∷ space ∷ (gp.pieces ++ signed CloseBracket ∷ [])) ++ behind ≡ sp.pieces ++ space ∷ signed m ∷ space ∷ (gp.pieces ++ signed CloseBracket ∷ behind) =
      append_assoc sp.pieces (space ∷ signed m ∷ space ∷ (gp.pieces ++ signed CloseBracket ∷ [])) behind ∙ ap (λ w. sp.pieces ++ space ∷ signed m ∷ space ∷ w) (append_assoc gp.pieces (signed CloseBracket ∷ []) behind) in
      subst (λ w. AreApart (signed OpenBracket ∷ w)) (sym same)
      (refl, tt, first_ends OpenBracket false (bytes_of (sp.pieces ++ space ∷ signed m ∷ space ∷ (gp.pieces ++ signed CloseBracket ∷ behind))) (first_square false) front, rest)

  change_reads : (ys xs : List Token) → map shape xs ≡ shapes_behind true change_pieces → (r : Read names (expression b) e inner ys) → Longer names (expression b) (exp at (changed_node m e path g)) traits r.tree xs
  change_reads ys xs s r =
      let one = cut xs ((kind.Sign OpenBracket, true) ∷ []) (shapes_behind true (sp.pieces ++ space ∷ signed m ∷ space ∷ (gp.pieces ++ signed CloseBracket ∷ []))) s in
      let o = single one.ahead (kind.Sign OpenBracket) true one.fronts in
      let two = parted true sp.pieces (space ∷ signed m ∷ space ∷ (gp.pieces ++ signed CloseBracket ∷ [])) one.behind one.backs in
      let p = sp.reads two.ahead two.fronts in
      let three = cut two.behind ((kind.Sign m, false) ∷ []) (shapes_behind false (gp.pieces ++ signed CloseBracket ∷ [])) two.backs in
      let x = single three.ahead (kind.Sign m) false three.fronts in
      let four = parted false gp.pieces (signed CloseBracket ∷ []) three.behind three.backs in
      let v = gp.reads false four.ahead four.fronts in
      let y = single four.behind (kind.Sign CloseBracket) (touch false gp.pieces) four.backs in
      let q : Path = p.extend (head r.tree o.only) in
      record {
        tree = bracket (update q m x.only) (more none [] v.tree) y.only;
        words = opening square o.only ∷ (p.words ++ sign m x.only ∷ (text v.tree ++ closing by_square y.only ∷ []));
        spelled = terminals_of_both names xs one.ahead one.behind (opening square o.only ∷ []) (p.words ++ sign m x.only ∷ (text v.tree ++ closing by_square y.only ∷ [])) one.whole
            (one_terminal names one.ahead (kind.Sign OpenBracket) true o)
            (terminals_of_both names one.behind two.ahead two.behind p.words (sign m x.only ∷ (text v.tree ++ closing by_square y.only ∷ [])) two.whole p.spelled
            (terminals_of_both names two.behind three.ahead three.behind (sign m x.only ∷ []) (text v.tree ++ closing by_square y.only ∷ []) three.whole
            (one_terminal names three.ahead (kind.Sign m) false x ∙ ap (λ l. l ∷ []) (change_terminal names m x.only kind_of))
            (terminals_of_both names three.behind four.ahead four.behind (text v.tree) (closing by_square y.only ∷ []) four.whole v.spelled
            (one_terminal names four.behind (kind.Sign CloseBracket) (touch false gp.pieces) y))));
        whole = ap (λ w. (w ++ sign m x.only ∷ []) ++ (text v.tree ++ closing by_square y.only ∷ [])) (p.whole (head r.tree o.only))
            ∙ words_text (text r.tree) p.words (text v.tree ++ closing by_square y.only ∷ []) (opening square o.only) (sign m x.only);
        fits = (refl, (p.fits b (head r.tree o.only) (refl, r.fits, omega (arith, tight, r.level)), p.has_step (head r.tree o.only), change_sign m kind_of), (tt, refl, v.fits, omega (arith, low, v.level), tt), tt);
        plain = change_plain (place (base q)) at m (base q) e (meaning v.tree) g (steps q) path kind_of (ap plain_exp (p.base (head r.tree o.only)) ∙ r.plain) (p.steps (head r.tree o.only)) v.plain;
        level = omega (arith, loose);
        dots = λ _. change_no_atom (place (base q)) m (base q) (meaning v.tree) (steps q) kind_of;
      }

  pub change_suffix : Suffix names (expression b) e (exp at (changed_node m e path g)) inner traits (codes "[" ++ pb ++ (32 ∷ (spelling m ++ 32 ∷ [])) ++ gb ++ codes "]")
  change_suffix = record {
    pieces = change_pieces;
    same = ap (λ w. 91 ∷ w) (bytes-append sp.pieces (space ∷ signed m ∷ space ∷ (gp.pieces ++ signed CloseBracket ∷ [])) ∙ ap (λ w. w ++ bytes_of (space ∷ signed m ∷ space ∷ (gp.pieces ++ signed CloseBracket ∷ []))) sp.same
        ∙ ap (λ w. pb ++ 32 ∷ (spelling m ++ 32 ∷ w)) (bytes-append gp.pieces (signed CloseBracket ∷ []) ∙ ap (λ w. w ++ 93 ∷ []) gp.same)) ∙ bytes_text pb (spelling m) gb;
    ends = touch-append true sp.pieces (space ∷ signed m ∷ space ∷ (gp.pieces ++ signed CloseBracket ∷ [])) ∙ touch-append false gp.pieces (signed CloseBracket ∷ []);
    clear = λ behind. before open_square _ refl;
    no_bar = bars;
    apart = λ behind k a. change_apart behind (subst (λ t. Clear t (bytes_of behind)) pluses k) a;
    reads = change_reads;
  }

module _ (names : List (List ℕ)) (b : Bool) (at : Span) (e g : Exp) (path : List Seg) (s : Seg) (x : Printable names (expression b) e) (z : Printable names (expression false) g)
    (ps : StepPrintables names path) (q : StepPrintable names s) where
  abbrev whole_path : List Seg
  whole_path = path ++ s ∷ []

  abbrev update_level : Level
  update_level = Node-F.Update (printed e) (map printed_step whole_path) (printed g)

  abbrev extend_level : Level
  extend_level = Node-F.Extend (printed e) (map printed_step whole_path) (printed g)

  -- a new value at a path
  pub update_printed : Printable names (expression b) (exp at (node.Update e whole_path g))
  update_printed = operand_then names (expression b) e at (node.Update e whole_path g) update_level Other (ap parts_printed (node.outs-Update e whole_path g)) refl refl (λ a. refl) x go
    where
      go : (a : Around) → Home (expression b) a
          → Suffix names (sort_of a) e (exp at (node.Update e whole_path g)) (place_traits (operand_before a Other) (printed e)) (bare_traits update_level) (postfix update_level)
      go Brackets home = change_suffix names false (place_traits (operand_before Brackets Other) (printed e)) (bare_traits update_level) at e g whole_path Equal (path_bytes whole_path) ((printed g).at (whole Brackets)) (place_traits (whole Brackets) (printed g)) replaces
          (path_part names path s ps q) (placed names (expression false) g (whole Brackets) tt (omega arith) z) refl refl refl refl (λ h. h) refl
      go Bars home = change_suffix names true (place_traits (operand_before Bars Other) (printed e)) (bare_traits update_level) at e g whole_path Equal (path_bytes whole_path) ((printed g).at (whole Brackets)) (place_traits (whole Brackets) (printed g)) replaces
          (path_part names path s ps q) (placed names (expression false) g (whole Brackets) tt (omega arith) z) refl refl refl refl (λ h. h) refl
      go Arithmetic home = absurd home
      go Caret home = absurd home

  -- a longer list at a path
  pub extend_printed : Printable names (expression b) (exp at (node.Extend e whole_path g))
  extend_printed = operand_then names (expression b) e at (node.Extend e whole_path g) extend_level Other (ap parts_printed (node.outs-Extend e whole_path g)) refl refl (λ a. refl) x go
    where
      go : (a : Around) → Home (expression b) a
          → Suffix names (sort_of a) e (exp at (node.Extend e whole_path g)) (place_traits (operand_before a Other) (printed e)) (bare_traits extend_level) (postfix extend_level)
      go Brackets home = change_suffix names false (place_traits (operand_before Brackets Other) (printed e)) (bare_traits extend_level) at e g whole_path ExtendBy (path_bytes whole_path) ((printed g).at (whole Brackets)) (place_traits (whole Brackets) (printed g)) extends
          (path_part names path s ps q) (placed names (expression false) g (whole Brackets) tt (omega arith) z) refl refl refl refl (λ h. h) refl
      go Bars home = change_suffix names true (place_traits (operand_before Bars Other) (printed e)) (bare_traits extend_level) at e g whole_path ExtendBy (path_bytes whole_path) ((printed g).at (whole Brackets)) (place_traits (whole Brackets) (printed g)) extends
          (path_part names path s ps q) (placed names (expression false) g (whole Brackets) tt (omega arith) z) refl refl refl refl (λ h. h) refl
      go Arithmetic home = absurd home
      go Caret home = absurd home
