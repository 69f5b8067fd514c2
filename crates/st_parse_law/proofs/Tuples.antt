-- Tuples and calls.
use Rattle.std.proofs.Common.{◌≡◌, ℕ, ◌≤◌, List, [], ◌∷◌, ◌++◌, map, length, codes, Bool, true, false, refl, sym, ap, ◌∙◌, arith, append_assoc}
use Rattle.std.specs.Prelude.{IsTrue}
use Rattle.std.proofs.lemmas.List.{append-nil}
use Rattle.std.proofs.lemmas.Grind.{common_steps}
use Rattle.st_num.specs.declared.span.Span.{Span}
use Rattle.st_num.specs.declared.mark.Mark.TheVariants.{OpenParen, CloseParen}
use Rattle.st_scan.specs.Spelling.{is_name, begins_lower}
use Rattle.st_num.specs.declared.token.Token.{Token}
use Rattle.st_num.specs.declared.token.TokenKind.TheVariants as kind
use Rattle.st_grammar.specs.declared.sort.Sort.{Sort}
use Rattle.st_grammar.specs.declared.sort.Sort.TheVariants.{Expression as expression}
use Rattle.st_grammar.specs.declared.sort.Leaf.TheVariants.{Function as function}
use Rattle.st_grammar.specs.declared.sort.Bracket.TheVariants.{Round as round}
use Rattle.st_grammar.specs.Levels.{computes}
use Rattle.st_grammar.specs.Terminals.{leaf, opening}
use Rattle.st_grammar.specs.Trees.{Trees, none, more, Heading, plain, arguments}
use Rattle.st_grammar.specs.Grammar.{IsFilled, size}
use Rattle.st_el.specs.declared.expression.Exp.{Exp}
use Rattle.st_el.specs.declared.expression.Node.{roll-Node}
use Rattle.st_el.specs.declared.expression.Node.TheVariants as node
use Rattle.st_el.specs.declared.expression.Count.TheOpen.{Node-F}
use Rattle.st_el.specs.declared.context.Around.{Around}
use Rattle.st_el.specs.declared.context.Around.TheVariants.{Brackets, Bars, Arithmetic, Caret}
use Rattle.st_el.specs.SourceText.{printed, listed, arguments as arguments_text, front, postfix, parts_printed}
use Rattle.st_el.specs.Plain.{plain_exp}
use Rattle.st_parse_builder.specs.Names.{name_of}
use Rattle.st_parse_builder.specs.Meaning.{exp, meanings, in_parens, is_atom, opened}
use Rattle.st_parse_law.specs.Written.{token, bytes_of}
use Rattle.st_parse_law.proofs.Cuts.{single, cut, one_terminal, terminals_of_both}
use Rattle.st_parse_law.proofs.Ends.{first_round, first_ends, by_round}
use Rattle.st_parse_law.proofs.Parts.{Part, part_as, is_arithmetic}
use Rattle.st_parse_law.proofs.Wraps.{signed, tight_traits, no_atom_at}
use Rattle.st_parse_law.proofs.Placed.{Home, sort_of, bare_traits, Printable, printable, normal}
use Rattle.st_parse_law.proofs.Posts.{same_plain}
use Rattle.st_parse_law.proofs.Enclosed.{computes_home}
use Rattle.st_parse_law.proofs.Lists.{Printables, AreListed, listed_row, Opening, boxed}

pub filled : (h : Heading) (ts : Trees) → 1 ≤ size ts → IsFilled h ts
filled h none s = absurd (omega (arith, s))
filled h (more ts w t) s = tt

-- ---- tuples

round_opening : (names : List (List ℕ)) (outer inner : Bool) → Opening names Token (λ x. plain round x) outer inner (codes "(")
round_opening names outer inner = record {
  pieces = signed OpenParen ∷ [];
  same = refl;
  after = λ b. refl;
  front = record { first = 40; rest = []; is = refl; no_semicolon = refl; no_minus = λ _. refl };
  apart = λ more f a. (refl, tt, first_ends OpenParen inner (bytes_of more) (first_round inner) f, a);
  reads = λ b xs s. let x = single xs (kind.Sign OpenParen) b s in record { of = x.only; spelled = one_terminal names xs (kind.Sign OpenParen) b x };
}

pub many_parens : (us : List Exp) → 2 ≤ length us → in_parens us ≡ node.Tuple us
many_parens [] h = refl
many_parens (u ∷ []) h = absurd (omega (arith, h))
many_parens (u ∷ v ∷ us) h = refl

many_same : (us es : List Exp) (d e : Exp) → map plain_exp us ≡ map plain_exp ((es ++ d ∷ []) ++ e ∷ []) → 2 ≤ length us
many_same us es d e h =
    let same : length (map plain_exp us) ≡ length (map plain_exp ((es ++ d ∷ []) ++ e ∷ [])) = ap length h in
    grind (arith, common_steps, same)

module _ (names : List (List ℕ)) (at : Span) (es : List Exp) (d e : Exp) (ps : Printables names (expression false) (es ++ d ∷ [])) (x : Printable names (expression false) e) where
  abbrev all : List Exp
  all = (es ++ d ∷ []) ++ e ∷ []

  tuple_part : (b : Bool) → Part names (expression b) (exp at (node.Tuple all)) (tight_traits true) ((codes "(" ++ listed (map printed all) ++ codes ")") ++ [])
  tuple_part b =
      part_as names (expression b) (exp at (node.Tuple all)) (exp at (node.Tuple all)) (tight_traits true) (codes "(" ++ (listed (map printed all) ++ codes ")")) _ refl (sym (append-nil _))
      (boxed names Token (λ x. plain round x) (AreListed all) (expression b) false false (exp at (node.Tuple all)) CloseParen (codes "(") (listed (map printed all)) by_round
      (λ z y. refl)
      (λ z ts y l. (refl, refl, l.fits, filled (plain round z) ts l.some))
      (λ z ts y l. ap (λ n. plain_exp (exp z.at n)) (many_parens (meanings ts) (many_same (meanings ts) es d e l.plain))
      ∙ same_plain z.at at (node.Tuple (meanings ts)) (node.Tuple all) (Node-F.Tuple (meanings ts)) (Node-F.Tuple all) (node.outs-Tuple (meanings ts)) (node.outs-Tuple all)
      (ap (λ l. roll-Node (Node-F.Tuple l)) l.plain))
      (λ z ts y l. ap (λ n. is_atom (opened (exp z.at n))) (many_parens (meanings ts) (many_same (meanings ts) es d e l.plain))
      ∙ no_atom_at z.at (node.Tuple (meanings ts)) (Node-F.Tuple (meanings ts)) (node.outs-Tuple (meanings ts)) refl)
      (λ z w. refl)
      (round_opening names false false) (listed_row names (es ++ d ∷ []) e ps x))

  pub tuple_printed : (b : Bool) → Printable names (expression b) (exp at (node.Tuple all))
  tuple_printed b = printable names (expression b) at (node.Tuple all) (Node-F.Tuple (map printed all)) (ap parts_printed (node.outs-Tuple all)) (omega arith) refl go
    where
      go : (a : Around) → Home (expression b) a → Part names (sort_of a) (exp at (node.Tuple all)) (bare_traits (Node-F.Tuple (map printed all))) (front a (Node-F.Tuple (map printed all)) ++ postfix (Node-F.Tuple (map printed all)))
      go Brackets home = tuple_part false
      go Bars home = tuple_part true
      go Arithmetic home = absurd home
      go Caret home = absurd home

-- ---- calls

-- the tokens of a function and its parenthesis
record Called (name : List ℕ) : Type 0 where
  fn : Token
  paren : Token
  is : fn.kind ≡ kind.Fun name
  touching : paren.touching ≡ true

call_opening : (names : List (List ℕ)) (name : List ℕ) (outer inner : Bool) → IsTrue (is_name name) → IsTrue (begins_lower name)
    → Opening names (Called name) (λ z. arguments z.fn z.paren) outer inner ((36 ∷ name) ++ codes "(")
call_opening names name outer inner n l = record {
  pieces = token (kind.Fun name) (36 ∷ name) ∷ signed OpenParen ∷ [];
  same = refl;
  after = λ b. refl;
  front = record { first = 36; rest = name ++ codes "("; is = refl; no_semicolon = refl; no_minus = λ _. refl };
  apart = λ more f a. ((refl, n, l), tt, refl, (refl, tt, first_ends OpenParen inner (bytes_of more) (first_round inner) f, a));
  reads = λ b xs s.
      let one = cut xs ((kind.Fun name, b) ∷ []) ((kind.Sign OpenParen, true) ∷ []) s in
      let x = single one.ahead (kind.Fun name) b one.fronts in
      let y = single one.behind (kind.Sign OpenParen) true one.backs in
      record {
        of = record { fn = x.only; paren = y.only; is = x.kind; touching = y.touching };
        spelled = terminals_of_both names xs one.ahead one.behind (leaf function x.only ∷ []) (opening round y.only ∷ []) one.whole
            (one_terminal names one.ahead (kind.Fun name) b x) (one_terminal names one.behind (kind.Sign OpenParen) true y);
      };
}

arguments_are : (es : List Exp) (e : Exp) → arguments_text (map printed (es ++ e ∷ [])) ≡ codes "(" ++ listed (map printed (es ++ e ∷ [])) ++ codes ")"
arguments_are [] e = refl
arguments_are (d ∷ es) e = refl

module _ (names : List (List ℕ)) (at : Span) (name : List ℕ) (n : IsTrue (is_name name)) (l : IsTrue (begins_lower name)) (es : List Exp) (e : Exp)
    (ps : Printables names (expression false) es) (x : Printable names (expression false) e) where
  call_part : (σ : Sort) → computes σ ≡ true
      → Part names σ (exp at (node.Call name (es ++ e ∷ []))) (tight_traits true) ((codes "$" ++ name) ++ arguments_text (map printed (es ++ e ∷ [])))
  call_part σ c =
      part_as names σ (exp at (node.Call name (es ++ e ∷ []))) (exp at (node.Call name (es ++ e ∷ []))) (tight_traits true) _ _ refl
      (append_assoc (36 ∷ name) (codes "(") (listed (map printed (es ++ e ∷ [])) ++ codes ")") ∙ ap (λ w. (36 ∷ name) ++ w) (sym (arguments_are es e)))
      (boxed names (Called name) (λ z. arguments z.fn z.paren) (AreListed (es ++ e ∷ [])) σ false false (exp at (node.Call name (es ++ e ∷ []))) CloseParen ((36 ∷ name) ++ codes "(") (listed (map printed (es ++ e ∷ []))) by_round
      (λ z y. refl)
      (λ z ts y l. (refl, (c, z.touching), l.fits, filled (arguments z.fn z.paren) ts l.some))
      (λ z ts y l. ap (λ k. plain_exp (exp z.fn.at (node.Call (name_of k) (meanings ts)))) z.is
      ∙ same_plain z.fn.at at (node.Call name (meanings ts)) (node.Call name (es ++ e ∷ [])) (Node-F.Call name (meanings ts)) (Node-F.Call name (es ++ e ∷ []))
      (node.outs-Call name (meanings ts)) (node.outs-Call name (es ++ e ∷ [])) (ap (λ l. roll-Node (Node-F.Call name l)) l.plain))
      (λ z ts y l. no_atom_at z.fn.at (node.Call (name_of z.fn.kind) (meanings ts)) (Node-F.Call (name_of z.fn.kind) (meanings ts)) (node.outs-Call (name_of z.fn.kind) (meanings ts)) refl)
      (λ z w. refl)
      (call_opening names name (is_arithmetic σ) false n l) (listed_row names es e ps x))

  pub call_printed : (σ : Sort) → Printable names σ (exp at (node.Call name (es ++ e ∷ [])))
  call_printed σ =
      printable names σ at (node.Call name (es ++ e ∷ [])) (Node-F.Call name (map printed (es ++ e ∷ []))) (ap parts_printed (node.outs-Call name (es ++ e ∷ []))) (omega arith)
      (normal σ (Node-F.Call name (map printed (es ++ e ∷ []))) refl) (λ a home. call_part (sort_of a) (computes_home σ a home))
