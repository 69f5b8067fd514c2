-- Brackets round one part.
use Rattle.std.proofs.Common.{◌≡◌, ℕ, List, [], ◌∷◌, ◌++◌, codes, Bool, true, false, refl, sym, ap, arith}
use Rattle.std.proofs.lemmas.List.{append-nil}
use Rattle.st_num.specs.Signs.{spelling, closing}
use Rattle.st_num.specs.declared.span.Span.{Span}
use Rattle.st_num.specs.declared.mark.Mark.{Mark}
use Rattle.st_num.specs.declared.mark.Mark.TheVariants.{OpenParen, CloseParen, Bar, TickParen, TickBracket, TickBrace}
use Rattle.st_grammar.specs.declared.sort.Sort.{Sort}
use Rattle.st_grammar.specs.declared.sort.Sort.TheVariants.{Expression as expression, Arithmetic as arithmetic}
use Rattle.st_grammar.specs.declared.sort.Bracket.{Bracket}
use Rattle.st_grammar.specs.declared.sort.Bracket.TheVariants.{TickRound as tick_round, TickSquare as tick_square, TickBrace as tick_brace}
use Rattle.st_grammar.specs.Levels.{computes}
use Rattle.st_grammar.specs.Trees.{plain}
use Rattle.st_el.specs.declared.expression.Exp.{Exp}
use Rattle.st_el.specs.declared.expression.Node.{roll-Node}
use Rattle.st_el.specs.declared.expression.Node.TheVariants as node
use Rattle.st_el.specs.declared.expression.Count.TheOpen.{Node-F}
use Rattle.st_el.specs.declared.context.Around.{Around}
use Rattle.st_el.specs.declared.context.Around.TheVariants.{Brackets, Bars, Arithmetic, Caret}
use Rattle.st_el.specs.Contexts.{whole}
use Rattle.st_el.specs.SourceText.{printed, front, postfix, parts_printed}
use Rattle.st_el.specs.Plain.{plain_exp}
use Rattle.st_parse_builder.specs.Meaning.{exp, meaning}
use Rattle.st_parse_law.proofs.Ends.{first_tick_round, first_tick_square, first_tick_brace, by_round, by_square, by_brace}
use Rattle.st_parse_law.proofs.Parts.{Part, part_as}
use Rattle.st_parse_law.proofs.Wraps.{Frame, framed, paren_frame, group_frame, length_frame, tight_traits, no_atom_at, paren-plain}
use Rattle.st_parse_law.proofs.Placed.{Home, sort_of, bare_traits, place_traits, Printable, printable, placed, normal}
use Rattle.st_parse_law.proofs.Posts.{same_plain}

-- ---- parentheses

paren_part : (names : List (List ℕ)) (b : Bool) (at : Span) (e : Exp) → Printable names (expression false) e
    → Part names (expression b) (exp at (node.Paren e)) (tight_traits true) ((codes "(" ++ (printed e).at (whole Brackets) ++ codes ")") ++ [])
paren_part names b at e x =
    part_as names (expression b) e (exp at (node.Paren e)) (tight_traits true) _ _ (sym (paren-plain at e)) (sym (append-nil _))
    (framed names OpenParen CloseParen (expression b) (expression false) true e e (paren_frame names b e) (place_traits (whole Brackets) (printed e)) ((printed e).at (whole Brackets))
    (placed names (expression false) e (whole Brackets) tt (omega arith) x) (omega arith))

group_part : (names : List (List ℕ)) (at : Span) (e : Exp) → Printable names arithmetic e
    → Part names arithmetic (exp at (node.Paren e)) (tight_traits true) ((codes "(" ++ (printed e).at (whole Arithmetic) ++ codes ")") ++ [])
group_part names at e x =
    part_as names arithmetic e (exp at (node.Paren e)) (tight_traits true) _ _ (sym (paren-plain at e)) (sym (append-nil _))
    (framed names OpenParen CloseParen arithmetic arithmetic true e e (group_frame names e) (place_traits (whole Arithmetic) (printed e)) ((printed e).at (whole Arithmetic))
    (placed names arithmetic e (whole Arithmetic) tt (omega arith) x) (omega arith))

-- an expression in parentheses
pub paren_printed : (names : List (List ℕ)) (b : Bool) (at : Span) (e : Exp) → Printable names (expression false) e → Printable names (expression b) (exp at (node.Paren e))
paren_printed names b at e x =
    printable names (expression b) at (node.Paren e) (Node-F.Paren (printed e)) (ap parts_printed (node.outs-Paren e)) (omega arith) refl go
  where
    go : (a : Around) → Home (expression b) a → Part names (sort_of a) (exp at (node.Paren e)) (bare_traits (Node-F.Paren (printed e))) (front a (Node-F.Paren (printed e)) ++ postfix (Node-F.Paren (printed e)))
    go Brackets h = paren_part names false at e x
    go Bars h = paren_part names true at e x
    go Arithmetic h = absurd h
    go Caret h = absurd h

-- the same in arithmetic
pub group_printed : (names : List (List ℕ)) (at : Span) (e : Exp) → Printable names arithmetic e → Printable names arithmetic (exp at (node.Paren e))
group_printed names at e x =
    printable names arithmetic at (node.Paren e) (Node-F.Paren (printed e)) (ap parts_printed (node.outs-Paren e)) (omega arith) tt go
  where
    go : (a : Around) → Home arithmetic a → Part names (sort_of a) (exp at (node.Paren e)) (bare_traits (Node-F.Paren (printed e))) (front a (Node-F.Paren (printed e)) ++ postfix (Node-F.Paren (printed e)))
    go Arithmetic h = group_part names at e x
    go Brackets h = absurd h
    go Bars h = absurd h
    go Caret h = absurd h

-- ---- lengths

length_part : (names : List (List ℕ)) (σ : Sort) (at : Span) (e : Exp) → computes σ ≡ true → Printable names (expression true) e
    → Part names σ (exp at (node.Len e)) (tight_traits false) ((codes "|" ++ (printed e).at (whole Bars) ++ codes "|") ++ [])
length_part names σ at e c x =
    part_as names σ (exp at (node.Len e)) (exp at (node.Len e)) (tight_traits false) _ _ refl (sym (append-nil _))
    (framed names Bar Bar σ (expression true) false e (exp at (node.Len e)) (length_frame names σ at e c) (place_traits (whole Bars) (printed e)) ((printed e).at (whole Bars))
    (placed names (expression true) e (whole Bars) tt (omega arith) x) (omega arith))

pub computes_home : (σ : Sort) (a : Around) → Home σ a → computes (sort_of a) ≡ true
computes_home (expression b) Brackets h = refl
computes_home (expression b) Bars h = refl
computes_home arithmetic Arithmetic h = refl
computes_home (expression b) Arithmetic h = absurd h
computes_home (expression b) Caret h = absurd h
computes_home arithmetic Brackets h = absurd h
computes_home arithmetic Bars h = absurd h
computes_home arithmetic Caret h = absurd h
computes_home σ a h = absurd h

pub length_printed : (names : List (List ℕ)) (σ : Sort) (at : Span) (e : Exp) → Printable names (expression true) e → Printable names σ (exp at (node.Len e))
length_printed names σ at e x =
    printable names σ at (node.Len e) (Node-F.Len (printed e)) (ap parts_printed (node.outs-Len e)) (omega arith) (normal σ (Node-F.Len (printed e)) refl)
    (λ a home. length_part names (sort_of a) at e (computes_home σ a home) x)

-- ---- backquoted brackets

-- a backquoted bracket, its signs and what the grammar calls it
pub data IsTick : Mark → Bracket → Type 0 where
  tick_paren : IsTick TickParen tick_round
  tick_bracket : IsTick TickBracket tick_square
  tick_curly : IsTick TickBrace tick_brace

bracket_meant : (at by : Span) (m : Mark) (e f : Exp) → plain_exp e ≡ plain_exp f → plain_exp (exp at (node.Bracket m e)) ≡ plain_exp (exp by (node.Bracket m f))
bracket_meant at by m e f h =
    same_plain at by (node.Bracket m e) (node.Bracket m f) (Node-F.Bracket m e) (Node-F.Bracket m f) (node.outs-Bracket m e) (node.outs-Bracket m f)
    (ap (λ p. roll-Node (Node-F.Bracket m p)) h)

tick_frame : (names : List (List ℕ)) (b : Bool) (at : Span) (e : Exp) (m : Mark) (k : Bracket) → IsTick m k
    → Frame names m (closing m) (expression b) (expression false) true e (exp at (node.Bracket m e))
tick_frame names b at e _ _ tick_paren = record {
  first = first_tick_round _;
  closer = by_round;
  front = λ bs. record { first = 96; rest = 40 ∷ bs; is = refl; no_semicolon = refl; no_minus = λ _. refl };
  heading = λ x. plain tick_round x;
  begun = λ x. refl;
  closed = λ x y. refl;
  fits = λ x y t f l. (refl, refl, (tt, refl, f, l, tt), tt);
  meant = λ x y t q. bracket_meant x.at at TickParen (meaning t) e q;
  no_atom = λ x y t. no_atom_at x.at (node.Bracket TickParen (meaning t)) (Node-F.Bracket TickParen (meaning t)) (node.outs-Bracket TickParen (meaning t)) refl;
  bars = λ x _. refl;
}
tick_frame names b at e _ _ tick_bracket = record {
  first = first_tick_square _;
  closer = by_square;
  front = λ bs. record { first = 96; rest = 91 ∷ bs; is = refl; no_semicolon = refl; no_minus = λ _. refl };
  heading = λ x. plain tick_square x;
  begun = λ x. refl;
  closed = λ x y. refl;
  fits = λ x y t f l. (refl, refl, (tt, refl, f, l, tt), tt);
  meant = λ x y t q. bracket_meant x.at at TickBracket (meaning t) e q;
  no_atom = λ x y t. no_atom_at x.at (node.Bracket TickBracket (meaning t)) (Node-F.Bracket TickBracket (meaning t)) (node.outs-Bracket TickBracket (meaning t)) refl;
  bars = λ x _. refl;
}
tick_frame names b at e _ _ tick_curly = record {
  first = first_tick_brace _;
  closer = by_brace;
  front = λ bs. record { first = 96; rest = 123 ∷ bs; is = refl; no_semicolon = refl; no_minus = λ _. refl };
  heading = λ x. plain tick_brace x;
  begun = λ x. refl;
  closed = λ x y. refl;
  fits = λ x y t f l. (refl, refl, (tt, refl, f, l, tt), tt);
  meant = λ x y t q. bracket_meant x.at at TickBrace (meaning t) e q;
  no_atom = λ x y t. no_atom_at x.at (node.Bracket TickBrace (meaning t)) (Node-F.Bracket TickBrace (meaning t)) (node.outs-Bracket TickBrace (meaning t)) refl;
  bars = λ x _. refl;
}

tick_part : (names : List (List ℕ)) (b : Bool) (at : Span) (e : Exp) (m : Mark) (k : Bracket) → IsTick m k → Printable names (expression false) e
    → Part names (expression b) (exp at (node.Bracket m e)) (tight_traits true) ((spelling m ++ (printed e).at (whole Brackets) ++ spelling (closing m)) ++ [])
tick_part names b at e m k h x =
    part_as names (expression b) (exp at (node.Bracket m e)) (exp at (node.Bracket m e)) (tight_traits true) _ _ refl (sym (append-nil _))
    (framed names m (closing m) (expression b) (expression false) true e (exp at (node.Bracket m e)) (tick_frame names b at e m k h) (place_traits (whole Brackets) (printed e)) ((printed e).at (whole Brackets))
    (placed names (expression false) e (whole Brackets) tt (omega arith) x) (omega arith))

pub tick_printed : (names : List (List ℕ)) (b : Bool) (at : Span) (e : Exp) (m : Mark) (k : Bracket) → IsTick m k → Printable names (expression false) e
    → Printable names (expression b) (exp at (node.Bracket m e))
tick_printed names b at e m k h x =
    printable names (expression b) at (node.Bracket m e) (Node-F.Bracket m (printed e)) (ap parts_printed (node.outs-Bracket m e)) (omega arith) refl go
  where
    go : (a : Around) → Home (expression b) a → Part names (sort_of a) (exp at (node.Bracket m e)) (bare_traits (Node-F.Bracket m (printed e))) (front a (Node-F.Bracket m (printed e)) ++ postfix (Node-F.Bracket m (printed e)))
    go Brackets home = tick_part names false at e m k h x
    go Bars home = tick_part names true at e m k h x
    go Arithmetic home = absurd home
    go Caret home = absurd home
