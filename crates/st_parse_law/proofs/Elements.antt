-- How sequences are printed.
use Rattle.std.proofs.Common.{◌≡◌, ℕ, ◌≤◌, List, [], ◌∷◌, ◌++◌, map, codes, Bool, true, false, refl, sym, ap, ◌∙◌, arith, append_assoc}
use Rattle.std.specs.Prelude.{flat_map}
use Rattle.std.proofs.lemmas.List.{append-nil}
use Rattle.std.proofs.lemmas.Grind.{flat_map-append}
use Rattle.st_num.specs.declared.span.Span.{Span}
use Rattle.st_num.specs.declared.token.Token.{Token}
use Rattle.st_grammar.specs.declared.sort.Sort.{Sort}
use Rattle.st_grammar.specs.declared.sort.Sort.TheVariants.{Expression as expression}
use Rattle.st_grammar.specs.declared.sort.Style.TheVariants.{Run as run}
use Rattle.st_grammar.specs.Terminals.{Terminal, terminal}
use Rattle.st_grammar.specs.Trees.{Tree, led, items, Trees, none, more, text, texts}
use Rattle.st_grammar.specs.Grammar.{Fits, EachFits, size, level}
use Rattle.st_el.specs.declared.expression.Exp.{Exp}
use Rattle.st_el.specs.declared.expression.Node.{roll-Node}
use Rattle.st_el.specs.declared.expression.Node.TheVariants as node
use Rattle.st_el.specs.declared.expression.Count.TheOpen.{Node-F}
use Rattle.st_el.specs.declared.context.Around.{Around}
use Rattle.st_el.specs.declared.context.Around.TheVariants.{Brackets, Bars, Arithmetic, Caret}
use Rattle.st_el.specs.declared.context.Behind.TheVariants.{Other}
use Rattle.st_el.specs.Contexts.{operand_before, next_element}
use Rattle.st_el.specs.SourceText.{printed, elements, front, postfix, parts_printed}
use Rattle.st_el.specs.Plain.{plain_exp}
use Rattle.st_parse_builder.specs.Meaning.{exp, meaning, meanings, first_place, is_atom, opened}
use Rattle.st_parse_law.specs.Written.{space, shape}
use Rattle.st_parse_law.proofs.Ends.{before, blank}
use Rattle.st_parse_law.proofs.Parts.{Traits, Part, Read, part_as}
use Rattle.st_parse_law.proofs.Wraps.{no_atom_at}
use Rattle.st_parse_law.proofs.Placed.{Home, sort_of, bare_traits, place_traits, Printable, printable, placed}
use Rattle.st_parse_law.proofs.Posts.{same_plain}
use Rattle.st_parse_law.proofs.Rows.{Row, row_as, Joint, row_one, row_then}
use Rattle.st_parse_law.proofs.Lists.{Printables, no_more, one_more, map_snoc, plain_snoc}
use Rattle.st_parse_law.proofs.Sequences.{IsFar, far_pieces, element_follows}

-- the places of expressions outside arithmetic
data IsTextual : Around → Bool → Type 0 where
  in_brackets : IsTextual Brackets false
  in_bars : IsTextual Bars true

textual_sort : (a : Around) (c : Bool) → IsTextual a c → sort_of a ≡ expression c
textual_sort _ _ in_brackets = refl
textual_sort _ _ in_bars = refl

-- the trees of these elements
record AreElements (σ : Sort) (es : List Exp) (ts : Trees) : Type 0 where
  fits : EachFits σ run 20 ts
  some : 1 ≤ size ts
  plain : map plain_exp (meanings ts) ≡ map plain_exp es

-- ---- a blank between elements

abbrev IsNothing : List Terminal → Type 0
IsNothing w = w ≡ []

no_tokens : (names : List (List ℕ)) (xs : List Token) → map shape xs ≡ [] → map (terminal names) xs ≡ []
no_tokens names [] h = refl
no_tokens names (x ∷ xs) h = absurd (cc)

blank_joint : (names : List (List ℕ)) (a : Bool) → Joint names IsNothing a false (codes " ")
blank_joint names a = record {
  pieces = space ∷ [];
  same = refl;
  after = λ b. refl;
  clear = λ more. before blank more refl;
  apart = λ more f h. h;
  reads = λ xs s. record { words = []; spelled = no_tokens names xs s; holds = refl };
}

-- ---- elements

elements_snoc : (a : Around) (es : List Exp) (d e : Exp)
    → elements a (map printed (es ++ d ∷ [])) ++ (codes " " ++ (printed e).at (next_element a)) ≡ elements a (map printed ((es ++ d ∷ []) ++ e ∷ []))
elements_snoc a [] d e = append_assoc ((printed d).at (operand_before a Other)) [] (codes " " ++ (printed e).at (next_element a))
    ∙ ap (λ w. (printed d).at (operand_before a Other) ++ w) (sym (append-nil (codes " " ++ (printed e).at (next_element a))))
elements_snoc a (c ∷ es) d e =
    append_assoc ((printed c).at (operand_before a Other)) (flat_map (λ next. codes " " ++ next.at (next_element a)) (map printed (es ++ d ∷ []))) (codes " " ++ (printed e).at (next_element a))
    ∙ ap (λ w. (printed c).at (operand_before a Other) ++ w) (sym
    (ap (flat_map (λ next. codes " " ++ next.at (next_element a))) (map_snoc printed (es ++ d ∷ []) e)
    ∙ flat_map-append (λ next. codes " " ++ next.at (next_element a)) (map printed (es ++ d ∷ [])) (printed e ∷ [])
    ∙ ap (λ w. flat_map (λ next. codes " " ++ next.at (next_element a)) (map printed (es ++ d ∷ [])) ++ w) (append-nil (codes " " ++ (printed e).at (next_element a)))))

module _ (names : List (List ℕ)) (b : Bool) where
  one_element : (c : Bool) (e : Exp) (traits : Traits) (xs : List Token) (r : Read names (expression c) e traits xs) → traits.level ≡ 20 → AreElements (expression c) (e ∷ []) (more none [] r.tree)
  one_element c e traits xs r is = record { fits = (tt, refl, r.fits, omega (arith, is, r.level), tt); some = omega arith; plain = ap (λ p. p ∷ []) r.plain }

  more_elements :
      (c : Bool) (es : List Exp) (e : Exp) (traits : Traits) (ts : Trees) (w : List Terminal) (xs : List Token) → AreElements (expression c) es ts → w ≡ [] → IsFar xs
      → traits.level ≡ 20 → (c ≡ true → traits.no_bar ≡ true) → (r : Read names (expression c) e traits xs) → AreElements (expression c) (es ++ e ∷ []) (more ts w r.tree)
  more_elements c es e traits ts w xs l empty far is bars r = record {
    fits = (l.fits, empty, r.fits, omega (arith, is, r.level), element_follows names c ts r.tree xs r.fits (omega (arith, is, r.level)) r.spelled far (λ h. r.no_bar (bars h)));
    some = omega arith;
    plain = plain_snoc (meanings ts) es (meaning r.tree) e l.plain r.plain;
  }

  first_part : (a : Around) (c : Bool) → IsTextual a c → (e : Exp) → Printable names (expression b) e
      → Part names (expression c) e (place_traits (operand_before a Other) (printed e)) ((printed e).at (operand_before a Other))
  first_part _ _ in_brackets e x = placed names (expression b) e (operand_before Brackets Other) tt (omega arith) x
  first_part _ _ in_bars e x = placed names (expression b) e (operand_before Bars Other) tt (omega arith) x

  next_part : (a : Around) (c : Bool) → IsTextual a c → (e : Exp) → Printable names (expression b) e
      → Part names (expression c) e (place_traits (next_element a) (printed e)) ((printed e).at (next_element a))
  next_part _ _ in_brackets e x = placed names (expression b) e (next_element Brackets) tt (omega arith) x
  next_part _ _ in_bars e x = placed names (expression b) e (next_element Bars) tt (omega arith) x

  next_bars : (a : Around) (c : Bool) (e : Exp) → IsTextual a c → c ≡ true → (place_traits (next_element a) (printed e)).no_bar ≡ true
  next_bars _ _ e in_brackets h = absurd (cc)
  next_bars _ _ e in_bars h = refl

  -- elements, one or more
  elements_row : (a : Around) (c : Bool) → IsTextual a c → (es : List Exp) (e : Exp) → Printables names (expression b) es → Printable names (expression b) e
      → Row names (AreElements (expression c) (es ++ e ∷ [])) false false (elements a (map printed (es ++ e ∷ [])))
  elements_row a c t _ e no_more x =
      row_as names (AreElements (expression c) (e ∷ [])) false false ((printed e).at (operand_before a Other)) (elements a (map printed (e ∷ []))) (sym (append-nil _))
      (row_one names (AreElements (expression c) (e ∷ [])) (expression c) e (place_traits (operand_before a Other) (printed e)) ((printed e).at (operand_before a Other))
      (λ xs r. one_element c e (place_traits (operand_before a Other) (printed e)) xs r refl) (first_part a c t e x))
  elements_row a c t _ e (one_more es d ps y) x =
      row_as names (AreElements (expression c) ((es ++ d ∷ []) ++ e ∷ [])) false false _ (elements a (map printed ((es ++ d ∷ []) ++ e ∷ []))) (elements_snoc a es d e)
      (row_then names (AreElements (expression c) (es ++ d ∷ [])) (AreElements (expression c) ((es ++ d ∷ []) ++ e ∷ [])) IsNothing (expression c) e (place_traits (next_element a) (printed e)) false false
      (elements a (map printed (es ++ d ∷ []))) (codes " ") ((printed e).at (next_element a)) (elements_row a c t es d ps y) (blank_joint names false) (next_part a c t e x)
      (λ ts w xs l n s r. more_elements c (es ++ d ∷ []) e (place_traits (next_element a) (printed e)) ts w xs l n (far_pieces (next_part a c t e x).pieces xs s) refl (next_bars a c e t) r))

  -- ---- sequences

  abbrev sequence_traits : Traits
  sequence_traits = record { level = 14; dots = true; plus = false; no_bar = false }

  -- the trees are those of a tree that means this expression
  record AreTree (c : Bool) (f : Exp) (ts : Trees) : Type 0 where
    tree : Tree
    same : texts ts ≡ text tree
    fits : Fits (expression c) tree
    plain : plain_exp (meaning tree) ≡ plain_exp f
    level : 14 ≤ level tree
    dots : is_atom (opened (meaning tree)) ≡ false

  sequence_tree :
      (c : Bool) (at : Span) (es : List Exp) (e : Exp) (traits : Traits) (ts : Trees) (w : List Terminal) (xs : List Token) → AreElements (expression c) es ts → w ≡ [] → IsFar xs
      → traits.level ≡ 20 → (c ≡ true → traits.no_bar ≡ true) → (r : Read names (expression c) e traits xs) → AreTree c (exp at (node.Seq (es ++ e ∷ []))) (more ts w r.tree)
  sequence_tree c at es e traits ts w xs l empty far is bars r = record {
    tree = led (items ts) r.tree;
    same = ap (λ v. texts ts ++ (v ++ text r.tree)) empty;
    fits = ((refl, l.fits, l.some), r.fits, omega (arith, is, r.level), element_follows names c ts r.tree xs r.fits (omega (arith, is, r.level)) r.spelled far (λ h. r.no_bar (bars h)));
    plain = same_plain (first_place (meanings ts ++ meaning r.tree ∷ [])) at (node.Seq (meanings ts ++ meaning r.tree ∷ [])) (node.Seq (es ++ e ∷ []))
        (Node-F.Seq (meanings ts ++ meaning r.tree ∷ [])) (Node-F.Seq (es ++ e ∷ [])) (node.outs-Seq (meanings ts ++ meaning r.tree ∷ [])) (node.outs-Seq (es ++ e ∷ []))
        (ap (λ l. roll-Node (Node-F.Seq l)) (plain_snoc (meanings ts) es (meaning r.tree) e l.plain r.plain));
    level = omega arith;
    dots = no_atom_at (first_place (meanings ts ++ meaning r.tree ∷ [])) (node.Seq (meanings ts ++ meaning r.tree ∷ [])) (Node-F.Seq (meanings ts ++ meaning r.tree ∷ [])) (node.outs-Seq (meanings ts ++ meaning r.tree ∷ [])) refl;
  }

  tree_part : (c : Bool) (f : Exp) (bytes : List ℕ) → Row names (AreTree c f) false false bytes → Part names (expression c) f sequence_traits bytes
  tree_part c f bytes row = record {
    pieces = row.pieces;
    same = row.same;
    ends = row.ends;
    front = row.front;
    apart = row.apart;
    reads = λ n xs s. let r = row.reads n xs s in record {
      tree = r.holds.tree;
      spelled = r.spelled ∙ r.holds.same;
      fits = r.holds.fits;
      plain = r.holds.plain;
      level = r.holds.level;
      dots = λ _. r.holds.dots;
      no_bar = λ h. absurd (cc);
    };
  }

  sequence_part : (a : Around) (c : Bool) → IsTextual a c → (at : Span) (es : List Exp) (d e : Exp) → Printables names (expression b) es → Printable names (expression b) d → Printable names (expression b) e
      → Part names (expression c) (exp at (node.Seq ((es ++ d ∷ []) ++ e ∷ []))) sequence_traits (elements a (map printed ((es ++ d ∷ []) ++ e ∷ [])) ++ [])
  sequence_part a c t at es d e ps y x =
      part_as names (expression c) (exp at (node.Seq ((es ++ d ∷ []) ++ e ∷ []))) (exp at (node.Seq ((es ++ d ∷ []) ++ e ∷ []))) sequence_traits _ _ refl (elements_snoc a es d e ∙ sym (append-nil _))
      (tree_part c (exp at (node.Seq ((es ++ d ∷ []) ++ e ∷ []))) _
      (row_then names (AreElements (expression c) (es ++ d ∷ [])) (AreTree c (exp at (node.Seq ((es ++ d ∷ []) ++ e ∷ [])))) IsNothing (expression c) e (place_traits (next_element a) (printed e)) false false
      (elements a (map printed (es ++ d ∷ []))) (codes " ") ((printed e).at (next_element a)) (elements_row a c t es d ps y) (blank_joint names false) (next_part a c t e x)
      (λ ts w xs l n s r. sequence_tree c at (es ++ d ∷ []) e (place_traits (next_element a) (printed e)) ts w xs l n (far_pieces (next_part a c t e x).pieces xs s) refl (next_bars a c e t) r)))

  pub sequence_printed : (at : Span) (es : List Exp) (d e : Exp) → Printables names (expression b) es → Printable names (expression b) d → Printable names (expression b) e
      → Printable names (expression b) (exp at (node.Seq ((es ++ d ∷ []) ++ e ∷ [])))
  sequence_printed at es d e ps y x =
      printable names (expression b) at (node.Seq ((es ++ d ∷ []) ++ e ∷ [])) (Node-F.Seq (map printed ((es ++ d ∷ []) ++ e ∷ []))) (ap parts_printed (node.outs-Seq ((es ++ d ∷ []) ++ e ∷ []))) (omega arith) refl go
    where
      go : (a : Around) → Home (expression b) a
          → Part names (sort_of a) (exp at (node.Seq ((es ++ d ∷ []) ++ e ∷ []))) (bare_traits (Node-F.Seq (map printed ((es ++ d ∷ []) ++ e ∷ []))))
          (front a (Node-F.Seq (map printed ((es ++ d ∷ []) ++ e ∷ []))) ++ postfix (Node-F.Seq (map printed ((es ++ d ∷ []) ++ e ∷ []))))
      go Brackets home = sequence_part Brackets false in_brackets at es d e ps y x
      go Bars home = sequence_part Bars true in_bars at es d e ps y x
      go Arithmetic home = absurd home
      go Caret home = absurd home
