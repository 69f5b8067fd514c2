-- Records.
use Rattle.std.proofs.Common.{◌≡◌, ℕ, ◌≤◌, List, [], ◌∷◌, ◌++◌, map, codes, Bool, true, false, refl, sym, ap, ◌∙◌, arith, append_assoc}
use Rattle.std.specs.Prelude.{flat_map}
use Rattle.std.proofs.lemmas.List.{append-nil}
use Rattle.std.proofs.lemmas.Grind.{flat_map-append}
use Rattle.st_num.specs.declared.span.Span.{Span}
use Rattle.st_num.specs.declared.mark.Mark.TheVariants.{OpenBrace, CloseBrace, Comma}
use Rattle.st_num.specs.declared.token.Token.{Token}
use Rattle.st_num.specs.declared.token.TokenKind.TheVariants as kind
use Rattle.st_grammar.specs.declared.sort.Sort.TheVariants.{Expression as expression}
use Rattle.st_grammar.specs.declared.sort.Style.TheVariants.{Fields as fields}
use Rattle.st_grammar.specs.declared.sort.Leaf.{Leaf}
use Rattle.st_grammar.specs.declared.sort.Bracket.TheVariants.{Brace as brace}
use Rattle.st_grammar.specs.Terminals.{Terminal, leaf, sign}
use Rattle.st_grammar.specs.Definitions.{token_in}
use Rattle.st_grammar.specs.Trees.{Trees, none, more, plain, text}
use Rattle.st_grammar.specs.Grammar.{EachFits, SetsOff, is_label, size}
use Rattle.st_el.specs.declared.expression.Exp.{Exp}
use Rattle.st_el.specs.declared.expression.Node.{roll-Node}
use Rattle.st_el.specs.declared.expression.Node.TheVariants as node
use Rattle.st_el.specs.declared.expression.Count.TheOpen.{Node-F}
use Rattle.st_el.specs.declared.context.Around.{Around}
use Rattle.st_el.specs.declared.context.Around.TheVariants.{Brackets, Bars, Arithmetic, Caret}
use Rattle.st_el.specs.Contexts.{whole}
use Rattle.st_el.specs.SourceText.{printed, printed_field, field_text, fields_text, front, postfix, parts_printed}
use Rattle.st_el.specs.Plain.{plain_exp}
use Rattle.st_parse_builder.specs.Names.{name_of}
use Rattle.st_parse_builder.specs.Meaning.{exp, meaning, field_meanings, label}
use Rattle.st_parse_law.specs.Written.{space, token, bytes_of, shapes_behind}
use Rattle.st_parse_law.proofs.Cuts.{single, cut, one_terminal, terminals_of_both}
use Rattle.st_parse_law.proofs.Ends.{before, comma, front_more, first_brace, first_ends, by_brace}
use Rattle.st_parse_law.proofs.Parts.{Part, part_as}
use Rattle.st_parse_law.proofs.Wraps.{signed, tight_traits, no_atom_at}
use Rattle.st_parse_law.proofs.Placed.{Home, sort_of, bare_traits, place_traits, Printable, printable, placed}
use Rattle.st_parse_law.proofs.Leaves.{OneWord}
use Rattle.st_parse_law.proofs.Posts.{same_plain}
use Rattle.st_parse_law.proofs.Rows.{Row, row_as, Joint, row_then}
use Rattle.st_parse_law.proofs.Lists.{map_snoc, Opening, boxed}
use Rattle.st_parse_law.proofs.Tuples.{filled}

-- the name of a field, which is a token of its own
pub record Label (names : List (List ℕ)) (name : List ℕ) : Type 0 where
  pub operand : Leaf
  pub word : OneWord names operand (kind.Up name) name
  pub labels : (x : Token) → is_label (leaf operand x) ≡ true

pub data FieldPrintables (names : List (List ℕ)) : List (List ℕ × Exp) → Type 0 where
  no_fields : FieldPrintables names []
  one_field : (fs : List (List ℕ × Exp)) (name : List ℕ) (e : Exp) → FieldPrintables names fs → Label names name → Printable names (expression false) e
      → FieldPrintables names (fs ++ (name, e) ∷ [])

abbrev pub plain_field : List ℕ × Exp → List ℕ × Exp
plain_field f = (f.0, plain_exp f.1)

-- the trees of these fields
pub record AreFields (fs : List (List ℕ × Exp)) (ts : Trees) : Type 0 where
  pub fits : EachFits (expression false) fields 1 ts
  pub some : 1 ≤ size ts
  pub plain : map plain_field (field_meanings ts) ≡ map plain_field fs

-- ---- what stands before a field

abbrev IsNext : List ℕ → List Terminal → Type 0
IsNext name w = (x : Token) × (l : Terminal) × (w ≡ sign Comma x ∷ l ∷ []) × (is_label l ≡ true) × (name_of (token_in l).kind ≡ name)

next_joint : (names : List (List ℕ)) (name : List ℕ) → Label names name → Joint names (IsNext name) false false (codes ", " ++ name ++ codes " ")
next_joint names name h = record {
  pieces = signed Comma ∷ space ∷ token (kind.Up name) name ∷ space ∷ [];
  same = refl;
  after = λ b. refl;
  clear = λ more. before comma (32 ∷ ((name ++ codes " ") ++ more)) refl;
  apart = λ more f a. (refl, tt, refl, (h.word.spelled, tt, refl, a));
  reads = λ xs s.
      let one = cut xs ((kind.Sign Comma, true) ∷ []) ((kind.Up name, false) ∷ []) s in
      let x = single one.ahead (kind.Sign Comma) true one.fronts in
      let y = single one.behind (kind.Up name) false one.backs in
      record {
        words = sign Comma x.only ∷ leaf h.operand y.only ∷ [];
        spelled = terminals_of_both names xs one.ahead one.behind (sign Comma x.only ∷ []) (leaf h.operand y.only ∷ []) one.whole (one_terminal names one.ahead (kind.Sign Comma) true x)
            (one_terminal names one.behind (kind.Up name) false y ∙ ap (λ l. l ∷ []) (h.word.seen y.only));
        holds = (x.only, leaf h.operand y.only, refl, h.labels y.only, ap name_of y.kind);
      };
}

next_sets_off : (name : List ℕ) (ts : Trees) (w : List Terminal) → 1 ≤ size ts → IsNext name w → SetsOff fields ts w
next_sets_off name none w s n = absurd (omega (arith, s))
next_sets_off name (more ts q t) w s n = (Comma, n.0, n.1, n.2, refl, n.3)

next_label : (name : List ℕ) (w : List Terminal) → IsNext name w → label w ≡ name
next_label name w n = ap label n.2 ∙ n.4

field_snoc : (gs fs : List (List ℕ × Exp)) (k n : List ℕ) (u e : Exp) → map plain_field gs ≡ map plain_field fs → k ≡ n → plain_exp u ≡ plain_exp e
    → map plain_field (gs ++ (k, u) ∷ []) ≡ map plain_field (fs ++ (n, e) ∷ [])
field_snoc gs fs k n u e h s q =
    map_snoc plain_field gs (k, u) ∙ ap (λ w. w ++ (k, plain_exp u) ∷ []) h ∙ ap (λ p. map plain_field fs ++ (p, plain_exp u) ∷ []) s ∙ ap (λ p. map plain_field fs ++ (n, p) ∷ []) q
    ∙ sym (map_snoc plain_field fs (n, e))

-- ---- fields

one_row : (names : List (List ℕ)) (name : List ℕ) (e : Exp) → Label names name → Printable names (expression false) e
    → Row names (AreFields ((name, e) ∷ [])) false false (name ++ codes " " ++ (printed e).at (whole Brackets))
one_row names name e h x =
    let p = placed names (expression false) e (whole Brackets) tt (omega arith) x in
    record {
      pieces = token (kind.Up name) name ∷ space ∷ p.pieces;
      same = ap (λ w. name ++ 32 ∷ w) p.same ∙ sym (append_assoc name (codes " ") ((printed e).at (whole Brackets)));
      ends = λ b. p.ends false;
      front = front_more false (name ++ codes " ") ((printed e).at (whole Brackets)) (front_more false name (codes " ") (h.word.front false));
      apart = λ more c a. (h.word.spelled, tt, refl, p.apart more c a);
      reads = λ b xs s.
          let one = cut xs ((kind.Up name, b) ∷ []) (shapes_behind false p.pieces) s in
          let y = single one.ahead (kind.Up name) b one.fronts in
          let r = p.reads false one.behind one.backs in
          record {
            trees = more none (leaf h.operand y.only ∷ []) r.tree;
            spelled = terminals_of_both names xs one.ahead one.behind (leaf h.operand y.only ∷ []) (text r.tree) one.whole
                (one_terminal names one.ahead (kind.Up name) b y ∙ ap (λ l. l ∷ []) (h.word.seen y.only)) r.spelled;
            holds = record {
              fits = (tt, (leaf h.operand y.only, refl, h.labels y.only), r.fits, r.level, tt);
              some = omega arith;
              plain = field_snoc [] [] (name_of y.only.kind) name (meaning r.tree) e refl (ap name_of y.kind) r.plain;
            };
          };
    }

abbrev fields_after : List (List ℕ × Exp) → List ℕ
fields_after fs = flat_map (λ next. codes ", " ++ next) (map field_text (map printed_field fs))

after_snoc : (fs : List (List ℕ × Exp)) (f : List ℕ × Exp) → fields_after (fs ++ f ∷ []) ≡ fields_after fs ++ (codes ", " ++ field_text (printed_field f))
after_snoc fs f =
    ap (λ w. flat_map (λ next. codes ", " ++ next) (map field_text w)) (map_snoc printed_field fs f)
    ∙ ap (flat_map (λ next. codes ", " ++ next)) (map_snoc field_text (map printed_field fs) (printed_field f))
    ∙ flat_map-append (λ next. codes ", " ++ next) (map field_text (map printed_field fs)) (field_text (printed_field f) ∷ [])
    ∙ ap (λ w. fields_after fs ++ w) (append-nil (codes ", " ++ field_text (printed_field f)))

fields_snoc : (fs : List (List ℕ × Exp)) (g f : List ℕ × Exp)
    → fields_text (map printed_field (fs ++ g ∷ [])) ++ (codes ", " ++ field_text (printed_field f)) ≡ fields_text (map printed_field ((fs ++ g ∷ []) ++ f ∷ []))
fields_snoc [] g f = append_assoc (field_text (printed_field g)) [] (codes ", " ++ field_text (printed_field f))
    ∙ ap (λ w. field_text (printed_field g) ++ w) (sym (append-nil (codes ", " ++ field_text (printed_field f))))
fields_snoc (h ∷ fs) g f = append_assoc (field_text (printed_field h)) (fields_after (fs ++ g ∷ [])) (codes ", " ++ field_text (printed_field f))
    ∙ ap (λ w. field_text (printed_field h) ++ w) (sym (after_snoc (fs ++ g ∷ []) f))

pub fields_row :
    (names : List (List ℕ)) (fs : List (List ℕ × Exp)) (name : List ℕ) (e : Exp) → FieldPrintables names fs → Label names name → Printable names (expression false) e
    → Row names (AreFields (fs ++ (name, e) ∷ [])) false false (fields_text (map printed_field (fs ++ (name, e) ∷ [])))
fields_row names _ name e no_fields h x =
    row_as names (AreFields ((name, e) ∷ [])) false false (name ++ codes " " ++ (printed e).at (whole Brackets)) (fields_text (map printed_field ((name, e) ∷ []))) (sym (append-nil _)) (one_row names name e h x)
fields_row names _ name e (one_field fs n d ps k y) h x =
    row_as names (AreFields ((fs ++ (n, d) ∷ []) ++ (name, e) ∷ [])) false false _ (fields_text (map printed_field ((fs ++ (n, d) ∷ []) ++ (name, e) ∷ []))) (fields_snoc fs (n, d) (name, e))
    (row_then names (AreFields (fs ++ (n, d) ∷ [])) (AreFields ((fs ++ (n, d) ∷ []) ++ (name, e) ∷ [])) (IsNext name) (expression false) e (place_traits (whole Brackets) (printed e)) false false
    (fields_text (map printed_field (fs ++ (n, d) ∷ []))) (codes ", " ++ name ++ codes " ") ((printed e).at (whole Brackets)) (fields_row names fs n d ps k y) (next_joint names name h)
    (placed names (expression false) e (whole Brackets) tt (omega arith) x)
    (λ ts w xs l i s r. record {
      fits = (l.fits, next_sets_off name ts w l.some i, r.fits, r.level, tt);
      some = omega arith;
      plain = field_snoc (field_meanings ts) (fs ++ (n, d) ∷ []) (label w) name (meaning r.tree) e l.plain (next_label name w i) r.plain;
    }))

brace_opening : (names : List (List ℕ)) (outer inner : Bool) → Opening names Token (λ x. plain brace x) outer inner (codes "{")
brace_opening names outer inner = record {
  pieces = signed OpenBrace ∷ [];
  same = refl;
  after = λ b. refl;
  front = record { first = 123; rest = []; is = refl; no_semicolon = refl; no_minus = λ _. refl };
  apart = λ more f a. (refl, tt, first_ends OpenBrace inner (bytes_of more) (first_brace inner) f, a);
  reads = λ b xs s. let x = single xs (kind.Sign OpenBrace) b s in record { of = x.only; spelled = one_terminal names xs (kind.Sign OpenBrace) b x };
}

module _ (names : List (List ℕ)) (at : Span) (fs : List (List ℕ × Exp)) (name : List ℕ) (e : Exp) (ps : FieldPrintables names fs) (h : Label names name) (x : Printable names (expression false) e) where
  abbrev all : List (List ℕ × Exp)
  all = fs ++ (name, e) ∷ []

  fields_part : (b : Bool) → Part names (expression b) (exp at (node.Fields all)) (tight_traits true) ((codes "{" ++ fields_text (map printed_field all) ++ codes "}") ++ [])
  fields_part b =
      part_as names (expression b) (exp at (node.Fields all)) (exp at (node.Fields all)) (tight_traits true) (codes "{" ++ (fields_text (map printed_field all) ++ codes "}")) _ refl (sym (append-nil _))
      (boxed names Token (λ x. plain brace x) (AreFields all) (expression b) false false (exp at (node.Fields all)) CloseBrace (codes "{") (fields_text (map printed_field all)) by_brace
      (λ z y. refl)
      (λ z ts y l. (refl, refl, l.fits, filled (plain brace z) ts l.some))
      (λ z ts y l. same_plain z.at at (node.Fields (field_meanings ts)) (node.Fields all) (Node-F.Fields (field_meanings ts)) (Node-F.Fields all) (node.outs-Fields (field_meanings ts)) (node.outs-Fields all)
      (ap (λ l. roll-Node (Node-F.Fields l)) l.plain))
      (λ z ts y l. no_atom_at z.at (node.Fields (field_meanings ts)) (Node-F.Fields (field_meanings ts)) (node.outs-Fields (field_meanings ts)) refl)
      (λ z w. refl)
      (brace_opening names false false) (fields_row names fs name e ps h x))

  -- a record
  pub fields_printed : (b : Bool) → Printable names (expression b) (exp at (node.Fields all))
  fields_printed b = printable names (expression b) at (node.Fields all) (Node-F.Fields (map printed_field all)) (ap parts_printed (node.outs-Fields all)) (omega arith) refl go
    where
      go : (a : Around) → Home (expression b) a → Part names (sort_of a) (exp at (node.Fields all)) (bare_traits (Node-F.Fields (map printed_field all))) (front a (Node-F.Fields (map printed_field all)) ++ postfix (Node-F.Fields (map printed_field all)))
      go Brackets home = fields_part false
      go Bars home = fields_part true
      go Arithmetic home = absurd home
      go Caret home = absurd home
