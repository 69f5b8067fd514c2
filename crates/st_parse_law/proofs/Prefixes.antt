-- Signs without a left side.
use Rattle.std.proofs.Common.{◌≡◌, ℕ, List, [], ◌∷◌, ◌++◌, codes, Bool, true, false, refl, sym, ap, ◌∙◌, subst, arith, append_assoc}
use Rattle.std.proofs.lemmas.List.{append-nil}
use Rattle.st_num.specs.Signs.{spelling}
use Rattle.st_num.specs.declared.span.Span.{Span}
use Rattle.st_num.specs.declared.mark.Mark.{Mark}
use Rattle.st_num.specs.declared.mark.Mark.TheVariants as mark
use Rattle.st_num.specs.declared.token.Token.{Token}
use Rattle.st_num.specs.declared.token.TokenKind.TheVariants as kind
use Rattle.st_grammar.specs.declared.sort.Sort.{Sort}
use Rattle.st_grammar.specs.declared.sort.Sort.TheVariants.{Expression as expression, Arithmetic as arithmetic}
use Rattle.st_num.specs.Signs.{prefix_level}
use Rattle.st_grammar.specs.Levels.{has_level, prefix_right}
use Rattle.st_grammar.specs.Terminals.{sign, kind_terminal}
use Rattle.st_grammar.specs.Trees.{Tree, led, ahead, text}
use Rattle.st_el.specs.declared.expression.Exp.{Exp}
use Rattle.st_el.specs.declared.expression.Node.{roll-Node}
use Rattle.st_el.specs.declared.expression.Node.TheVariants as node
use Rattle.st_el.specs.declared.expression.Count.TheOpen.{Node-F}
use Rattle.st_el.specs.declared.context.Around.{Around}
use Rattle.st_el.specs.declared.context.Around.TheVariants.{Brackets, Bars, Arithmetic, Caret}
use Rattle.st_num.specs.Signs.{prefix_level}
use Rattle.st_el.specs.Contexts.{context_at as place_at}
use Rattle.st_el.specs.SourceText.{printed, front, postfix, text_at, left_side, parts_printed, opened as printed_parts}
use Rattle.st_el.specs.Plain.{plain_exp}
use Rattle.st_parse_builder.specs.Meaning.{exp, meaning, is_atom, opened, prefixed}
use Rattle.st_parse_law.specs.Written.{space, bytes_of, shapes_behind, ends_before}
use Rattle.st_parse_law.proofs.Cuts.{single, cut, one_terminal, terminals_of_both}
use Rattle.st_parse_law.proofs.Ends.{Clear, Front}
use Rattle.st_parse_law.proofs.Plains.{printed-of, node-of}
use Rattle.st_parse_law.proofs.Parts.{Traits, Part, is_arithmetic, part_as}
use Rattle.st_parse_law.proofs.Wraps.{signed, no_atom_at}
use Rattle.st_parse_law.proofs.Placed.{Home, sort_of, bare_traits, place_traits, Printable, printable, placed}
use Rattle.st_parse_law.proofs.Posts.{same_plain}

-- a sign without a left side, in a sort of place, and what it makes of an expression
record Prefix (names : List (List ℕ)) (σ : Sort) (m : Mark) (e f : Exp) : Type 0 where
  has : has_level σ (prefix_level m) ≡ true
  seen : (x : Token) → kind_terminal names (kind.Sign m) x ≡ sign m x
  ends : (bs : List ℕ) → ends_before (kind.Sign m) (32 ∷ bs) ≡ true
  front : (bs : List ℕ) → Front (is_arithmetic σ) (spelling m ++ bs)
  meant : (at : Span) (t : Tree) → plain_exp (meaning t) ≡ plain_exp e → plain_exp (prefixed m at (meaning t)) ≡ plain_exp f
  no_atom : (at : Span) (t : Tree) → is_atom (opened (prefixed m at (meaning t))) ≡ false

abbrev prefix_traits : Mark → Traits
prefix_traits m = record { level = prefix_level m; dots = true; plus = false; no_bar = false }

prefix_part :
    (names : List (List ℕ)) (σ : Sort) (m : Mark) (e f : Exp) (traits : Traits) (bytes : List ℕ) → Prefix names σ m e f → traits.plus ≡ false → traits.level ≡ prefix_right m
    → Part names σ e traits bytes → Part names σ f (prefix_traits m) ((spelling m ++ codes " ") ++ bytes)
prefix_part names σ m e f traits bytes h plus is p = record {
  pieces = signed m ∷ space ∷ p.pieces;
  same = ap (λ w. spelling m ++ 32 ∷ w) p.same ∙ sym (append_assoc (spelling m) (32 ∷ []) bytes);
  ends = λ b. p.ends false;
  front = subst (Front (is_arithmetic σ)) (sym (append_assoc (spelling m) (32 ∷ []) bytes)) (h.front (32 ∷ bytes));
  apart = λ more c a. (refl, tt, h.ends (bytes_of (p.pieces ++ more)), p.apart more (subst (λ t. Clear t (bytes_of more)) (sym plus) c) a);
  reads = λ b xs s.
      let one = cut xs ((kind.Sign m, b) ∷ []) (shapes_behind false p.pieces) s in
      let x = single one.ahead (kind.Sign m) b one.fronts in
      let r = p.reads false one.behind one.backs in
      record {
        tree = led (ahead m x.only) r.tree;
        spelled = terminals_of_both names xs one.ahead one.behind (sign m x.only ∷ []) (text r.tree) one.whole (one_terminal names one.ahead (kind.Sign m) b x ∙ ap (λ l. l ∷ []) (h.seen x.only)) r.spelled;
        fits = (h.has, r.fits, omega (arith, is, r.level), tt);
        plain = h.meant x.only.at r.tree r.plain;
        level = omega arith;
        dots = λ _. h.no_atom x.only.at r.tree;
        no_bar = λ n. absurd (cc);
      };
}

-- ---- `~`

not_prefix : (names : List (List ℕ)) (b : Bool) (at : Span) (e : Exp) → Prefix names (expression b) mark.Tilde e (exp at (node.Not e))
not_prefix names b at e = record {
  has = refl;
  seen = λ x. refl;
  ends = λ bs. refl;
  front = λ bs. record { first = 126; rest = bs; is = refl; no_semicolon = refl; no_minus = λ _. refl };
  meant = λ by t q. same_plain by at (node.Not (meaning t)) (node.Not e) (Node-F.Not (meaning t)) (Node-F.Not e) (node.outs-Not (meaning t)) (node.outs-Not e) (ap (λ p. roll-Node (Node-F.Not p)) q);
  no_atom = λ by t. no_atom_at by (node.Not (meaning t)) (Node-F.Not (meaning t)) (node.outs-Not (meaning t)) refl;
}

not_part : (names : List (List ℕ)) (b : Bool) (a : Around) (at : Span) (e : Exp) → sort_of a ≡ expression b
    → Part names (expression b) e (place_traits (place_at a (prefix_level mark.Tilde)) (printed e)) ((printed e).at (place_at a (prefix_level mark.Tilde)))
    → Part names (expression b) (exp at (node.Not e)) (prefix_traits mark.Tilde) ((codes "~ " ++ (printed e).at (place_at a (prefix_level mark.Tilde))) ++ [])
not_part names b a at e is p =
    part_as names (expression b) (exp at (node.Not e)) (exp at (node.Not e)) (prefix_traits mark.Tilde) _ _ refl (sym (append-nil _))
    (prefix_part names (expression b) mark.Tilde e (exp at (node.Not e)) (place_traits (place_at a (prefix_level mark.Tilde)) (printed e)) ((printed e).at (place_at a (prefix_level mark.Tilde))) (not_prefix names b at e) refl refl p)

pub not_printed : (names : List (List ℕ)) (b : Bool) (at : Span) (e : Exp) → Printable names (expression b) e → Printable names (expression b) (exp at (node.Not e))
not_printed names b at e x =
    printable names (expression b) at (node.Not e) (Node-F.Not (printed e)) (ap parts_printed (node.outs-Not e)) (omega arith) refl go
  where
    go : (a : Around) → Home (expression b) a → Part names (sort_of a) (exp at (node.Not e)) (bare_traits (Node-F.Not (printed e))) (front a (Node-F.Not (printed e)) ++ postfix (Node-F.Not (printed e)))
    go Brackets home = not_part names false Brackets at e refl (placed names (expression b) e (place_at Brackets (prefix_level mark.Tilde)) tt (omega arith) x)
    go Bars home = not_part names true Bars at e refl (placed names (expression b) e (place_at Bars (prefix_level mark.Tilde)) tt (omega arith) x)
    go Arithmetic home = absurd home
    go Caret home = absurd home

-- ---- `-`

neg_prefix : (names : List (List ℕ)) (at : Span) (e : Exp) → Prefix names arithmetic mark.Minus e (exp at (node.Neg e))
neg_prefix names at e = record {
  has = refl;
  seen = λ x. refl;
  ends = λ bs. refl;
  front = λ bs. record { first = 45; rest = bs; is = refl; no_semicolon = refl; no_minus = λ n. absurd (cc) };
  meant = λ by t q. same_plain by at (node.Neg (meaning t)) (node.Neg e) (Node-F.Neg (meaning t)) (Node-F.Neg e) (node.outs-Neg (meaning t)) (node.outs-Neg e) (ap (λ p. roll-Node (Node-F.Neg p)) q);
  no_atom = λ by t. no_atom_at by (node.Neg (meaning t)) (Node-F.Neg (meaning t)) (node.outs-Neg (meaning t)) refl;
}

pub neg_printed : (names : List (List ℕ)) (at : Span) (e : Exp) → Printable names arithmetic e → Printable names arithmetic (exp at (node.Neg e))
neg_printed names at e x =
    printable names arithmetic at (node.Neg e) (Node-F.Neg (printed e)) (ap parts_printed (node.outs-Neg e)) (omega arith) tt go
  where
    go : (a : Around) → Home arithmetic a → Part names (sort_of a) (exp at (node.Neg e)) (bare_traits (Node-F.Neg (printed e))) (front a (Node-F.Neg (printed e)) ++ postfix (Node-F.Neg (printed e)))
    go Arithmetic home =
        part_as names arithmetic (exp at (node.Neg e)) (exp at (node.Neg e)) (prefix_traits mark.Minus) _ _ refl (sym (append-nil _))
        (prefix_part names arithmetic mark.Minus e (exp at (node.Neg e)) (place_traits (place_at Arithmetic (prefix_level mark.Minus)) (printed e)) ((printed e).at (place_at Arithmetic (prefix_level mark.Minus))) (neg_prefix names at e) refl refl
        (placed names arithmetic e (place_at Arithmetic (prefix_level mark.Minus)) tt (omega arith) x))
    go Brackets home = absurd home
    go Bars home = absurd home
    go Caret home = absurd home

-- ---- `|-` without a left side

-- the absent left side
abbrev pub absent : Span → Exp
absent at = exp at (node.Seq [])

absent_plain : (at by : Span) → plain_exp (absent at) ≡ plain_exp (absent by)
absent_plain at by = same_plain at by (node.Seq []) (node.Seq []) (Node-F.Seq []) (Node-F.Seq []) (node.outs-Seq []) (node.outs-Seq []) refl

absent_prefix : (names : List (List ℕ)) (b : Bool) (at by : Span) (e : Exp) → Prefix names (expression b) mark.Turnstile e (exp at (node.Infix (absent by) mark.Turnstile e))
absent_prefix names b at by e = record {
  has = refl;
  seen = λ x. refl;
  ends = λ bs. refl;
  front = λ bs. record { first = 124; rest = 45 ∷ bs; is = refl; no_semicolon = refl; no_minus = λ _. refl };
  meant = λ here t q.
      same_plain here at (node.Infix (absent here) mark.Turnstile (meaning t)) (node.Infix (absent by) mark.Turnstile e) (Node-F.Infix (absent here) mark.Turnstile (meaning t)) (Node-F.Infix (absent by) mark.Turnstile e)
      (node.outs-Infix (absent here) mark.Turnstile (meaning t)) (node.outs-Infix (absent by) mark.Turnstile e)
      (ap (λ x. roll-Node (Node-F.Infix x mark.Turnstile (plain_exp (meaning t)))) (absent_plain here by) ∙ ap (λ x. roll-Node (Node-F.Infix (plain_exp (absent by)) mark.Turnstile x)) q);
  no_atom = λ here t. no_atom_at here (node.Infix (absent here) mark.Turnstile (meaning t)) (Node-F.Infix (absent here) mark.Turnstile (meaning t)) (node.outs-Infix (absent here) mark.Turnstile (meaning t)) refl;
}

absent_text : (a : Around) (by : Span) → (printed (absent by)).at (place_at a 8) ≡ text_at (Node-F.Seq []) (place_at a 8)
absent_text a by =
    ap (λ y. y.at (place_at a 8)) (printed-of (absent by)) ∙ ap (λ m. text_at (printed_parts m) (place_at a 8)) (node-of by (node.Seq []))
    ∙ ap (λ l. text_at (parts_printed l) (place_at a 8)) (node.outs-Seq [])

absent_part : (names : List (List ℕ)) (b : Bool) (a : Around) (at by : Span) (e : Exp) → text_at (Node-F.Seq []) (place_at a 8) ≡ []
    → Part names (expression b) e (place_traits (place_at a 8) (printed e)) ((printed e).at (place_at a 8))
    → Part names (expression b) (exp at (node.Infix (absent by) mark.Turnstile e)) (prefix_traits mark.Turnstile)
    ((left_side ((printed (absent by)).at (place_at a 8)) ++ codes "|-" ++ codes " " ++ (printed e).at (place_at a 8)) ++ [])
absent_part names b a at by e none p =
    part_as names (expression b) (exp at (node.Infix (absent by) mark.Turnstile e)) (exp at (node.Infix (absent by) mark.Turnstile e)) (prefix_traits mark.Turnstile) _ _ refl
    (ap (λ w. left_side w ++ codes "|-" ++ codes " " ++ (printed e).at (place_at a 8)) (sym (absent_text a by ∙ none)) ∙ sym (append-nil _))
    (prefix_part names (expression b) mark.Turnstile e (exp at (node.Infix (absent by) mark.Turnstile e)) (place_traits (place_at a 8) (printed e)) ((printed e).at (place_at a 8)) (absent_prefix names b at by e) refl refl p)

pub absent_printed : (names : List (List ℕ)) (b : Bool) (at by : Span) (e : Exp) → Printable names (expression b) e
    → Printable names (expression b) (exp at (node.Infix (absent by) mark.Turnstile e))
absent_printed names b at by e x =
    printable names (expression b) at (node.Infix (absent by) mark.Turnstile e) (Node-F.Infix (printed (absent by)) mark.Turnstile (printed e)) (ap parts_printed (node.outs-Infix (absent by) mark.Turnstile e)) (omega arith) refl go
  where
    go : (a : Around) → Home (expression b) a
        → Part names (sort_of a) (exp at (node.Infix (absent by) mark.Turnstile e)) (bare_traits (Node-F.Infix (printed (absent by)) mark.Turnstile (printed e)))
        (front a (Node-F.Infix (printed (absent by)) mark.Turnstile (printed e)) ++ postfix (Node-F.Infix (printed (absent by)) mark.Turnstile (printed e)))
    go Brackets home = absent_part names false Brackets at by e refl (placed names (expression b) e (place_at Brackets 8) tt (omega arith) x)
    go Bars home = absent_part names true Bars at by e refl (placed names (expression b) e (place_at Bars 8) tt (omega arith) x)
    go Arithmetic home = absurd home
    go Caret home = absurd home
