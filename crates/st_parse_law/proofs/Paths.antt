-- Paths, and what is put at their ends.
use Rattle.std.proofs.Common.{◌≡◌, ℕ, ◌≤◌, List, [], ◌∷◌, ◌++◌, map, codes, Bool, true, false, refl, sym, ap, ◌∙◌, subst, arith, append_assoc}
use Rattle.std.specs.Prelude.{flat_map}
use Rattle.std.proofs.lemmas.List.{append-nil, map-append}
use Rattle.std.proofs.lemmas.Grind.{flat_map-append}
use Rattle.st_num.specs.declared.mark.Mark.TheVariants.{OpenBracket, CloseBracket}
use Rattle.st_num.specs.declared.token.Token.{Token}
use Rattle.st_num.specs.declared.token.TokenKind.TheVariants as kind
use Rattle.st_grammar.specs.declared.sort.Sort.TheVariants.{Expression as expression}
use Rattle.st_grammar.specs.declared.sort.Style.TheVariants.{Ends as ends}
use Rattle.st_grammar.specs.declared.sort.Bracket.TheVariants.{Square as square}
use Rattle.st_grammar.specs.declared.sort.Closing.TheVariants.{BySquare as by_square}
use Rattle.st_grammar.specs.Terminals.{Terminal, terminal, dot, opening, closing}
use Rattle.st_grammar.specs.Trees.{Trees, none, more, Path, field, part, text, texts, path_text}
use Rattle.st_grammar.specs.Grammar.{EachFits, PathFits, has_step, size}
use Rattle.st_el.specs.declared.expression.Exp.{Exp}
use Rattle.st_el.specs.declared.expression.Count.TheOpen.{Seg-F}
use Rattle.st_el.specs.declared.expression.Seg.{Seg, roll-Seg}
use Rattle.st_el.specs.declared.expression.Seg.TheVariants as seg
use Rattle.st_el.specs.Contexts.{position}
use Rattle.st_el.specs.SourceText.{printed, printed_step}
use Rattle.st_el.specs.Plain.{plain_exp, plain_seg}
use Rattle.st_parse_builder.specs.Names.{name_of}
use Rattle.st_parse_builder.specs.Meaning.{meaning, meanings, base, steps, step_at}
use Rattle.st_parse_law.specs.Written.{Piece, token, bytes_of, shape, shapes_behind, AreApart}
use Rattle.st_parse_law.proofs.Cuts.{touch, touch-append, bytes-append, parted, cut, single, one_terminal, terminals_of_both}
use Rattle.st_parse_law.proofs.Ends.{Clear, clear_more, before, point, open_square, Front, front_more, first_square, first_ends, by_square as square_closes, closer_clear, closer_last, last_ends, word_ends}
use Rattle.st_parse_law.proofs.Plains.{step-of, plain-step}
use Rattle.st_parse_law.proofs.Wraps.{signed}
use Rattle.st_parse_law.proofs.Placed.{Printable}
use Rattle.st_parse_law.proofs.Posts.{IsField, dot_terminal}
use Rattle.st_parse_law.proofs.Rows.{Row}
use Rattle.st_parse_law.proofs.Lists.{map_snoc}
use Rattle.st_parse_law.proofs.Indices.{IsPosition, position_row, IsRange, range_row, range_fits, range_text}

-- the tokens are those of steps that go on with any path
pub record StepsRead (names : List (List ℕ)) (path : List Seg) (xs : List Token) : Type 0 where
  pub extend : Path → Path
  pub words : List Terminal
  pub spelled : map (terminal names) xs ≡ words
  pub whole : (p : Path) → path_text (extend p) ≡ path_text p ++ words
  pub fits : (b : Bool) (p : Path) → PathFits (expression b) p → PathFits (expression b) (extend p)
  pub steps : (p : Path) → map plain_seg (steps (extend p)) ≡ map plain_seg (steps p) ++ map plain_seg path
  pub base : (p : Path) → base (extend p) ≡ base p
  pub has_step : (p : Path) → has_step (extend p) ≡ true

-- the bytes are pieces that are read back as these steps
pub record StepsPart (names : List (List ℕ)) (path : List Seg) (bytes : List ℕ) : Type 0 where
  pub pieces : List Piece
  pub same : bytes_of pieces ≡ bytes
  pub ends : (b : Bool) → touch b pieces ≡ true
  pub front : Front false bytes
  pub clear : (p : Bool) (behind : List ℕ) → Clear p (bytes ++ behind)
  pub apart : (behind : List Piece) → Clear false (bytes_of behind) → AreApart behind → AreApart (pieces ++ behind)
  pub reads : (xs : List Token) → map shape xs ≡ shapes_behind true pieces → StepsRead names path xs

one_step : (path : List Seg) (s r : Seg) → plain_seg s ≡ plain_seg r → map plain_seg (path ++ s ∷ []) ≡ map plain_seg path ++ map plain_seg (r ∷ [])
one_step path s r h = map_snoc plain_seg path s ∙ ap (λ k. map plain_seg path ++ k ∷ []) h

-- ---- a field

pub field_step : (names : List (List ℕ)) (name : List ℕ) → IsField name → StepsPart names (seg.Field name ∷ []) (46 ∷ name)
field_step names name h = record {
  pieces = token (kind.Dot name) (46 ∷ name) ∷ [];
  same = append-nil (46 ∷ name);
  ends = λ b. refl;
  front = record { first = 46; rest = name; is = refl; no_semicolon = refl; no_minus = λ _. refl };
  clear = λ p behind. before point (name ++ behind) refl;
  apart = λ behind c a. ((refl, h.name), tt, word_ends (kind.Dot name) false (bytes_of behind) refl c, a);
  reads = λ xs s. let x = single xs (kind.Dot name) true s in record {
    extend = λ p. field p x.only;
    words = dot x.only ∷ [];
    spelled = one_terminal names xs (kind.Dot name) true x ∙ ap (λ l. l ∷ []) (dot_terminal names name x.only h);
    whole = λ p. refl;
    fits = λ b p f. f;
    steps = λ p. one_step (steps p) (seg.Field (name_of x.only.kind)) (seg.Field name) (ap (λ k. plain_seg (seg.Field (name_of k))) x.kind);
    base = λ p. refl;
    has_step = λ p. refl;
  };
}

-- ---- a position, or several elements

module _ (names : List (List ℕ)) (P : Trees → Type 0) (bytes : List ℕ) (s : Seg) (row : Row names P false false bytes)
    (fits : (ts : Trees) → P ts → EachFits (expression false) ends 13 ts × (1 ≤ size ts)) (meant : (ts : Trees) → P ts → plain_seg (step_at (meanings ts)) ≡ plain_seg s) where
  abbrev part_pieces : List Piece
  part_pieces = signed OpenBracket ∷ (row.pieces ++ signed CloseBracket ∷ [])

  part_apart : (behind : List Piece) → Clear false (bytes_of behind) → AreApart behind → AreApart (part_pieces ++ behind)
  part_apart behind k a =
      let end : AreApart (signed CloseBracket ∷ behind) = (refl, tt, last_ends CloseBracket true (bytes_of behind) (closer_last CloseBracket square_closes) (clear_more false true (bytes_of behind) (λ h. absurd (cc)) k), a) in
      let rest : AreApart (row.pieces ++ signed CloseBracket ∷ behind) = row.apart (signed CloseBracket ∷ behind) (closer_clear CloseBracket false (bytes_of behind) square_closes) end in
      let front : Front false (bytes_of (row.pieces ++ signed CloseBracket ∷ behind)) =
      subst (Front false) (sym (bytes-append row.pieces (signed CloseBracket ∷ behind) ∙ ap (λ w. w ++ bytes_of (signed CloseBracket ∷ behind)) row.same)) (front_more false bytes (bytes_of (signed CloseBracket ∷ behind)) row.front) in
      subst (λ w. AreApart (signed OpenBracket ∷ w)) (sym (append_assoc row.pieces (signed CloseBracket ∷ []) behind))
      (refl, tt, first_ends OpenBracket false (bytes_of (row.pieces ++ signed CloseBracket ∷ behind)) (first_square false) front, rest)

  part_reads : (xs : List Token) → map shape xs ≡ shapes_behind true part_pieces → StepsRead names (s ∷ []) xs
  part_reads xs h =
      let one = cut xs ((kind.Sign OpenBracket, true) ∷ []) (shapes_behind true (row.pieces ++ signed CloseBracket ∷ [])) h in
      let x = single one.ahead (kind.Sign OpenBracket) true one.fronts in
      let two = parted true row.pieces (signed CloseBracket ∷ []) one.behind one.backs in
      let y = single two.behind (kind.Sign CloseBracket) (touch true row.pieces) two.backs in
      let z = row.reads true two.ahead two.fronts in
      let ok = fits z.trees z.holds in
      record {
        extend = λ p. part p x.only z.trees y.only;
        words = opening square x.only ∷ (texts z.trees ++ closing by_square y.only ∷ []);
        spelled = terminals_of_both names xs one.ahead one.behind (opening square x.only ∷ []) (texts z.trees ++ closing by_square y.only ∷ []) one.whole
            (one_terminal names one.ahead (kind.Sign OpenBracket) true x)
            (terminals_of_both names one.behind two.ahead two.behind (texts z.trees) (closing by_square y.only ∷ []) two.whole z.spelled
            (one_terminal names two.behind (kind.Sign CloseBracket) (touch true row.pieces) y));
        whole = λ p. refl;
        fits = λ b p f. (f, ok.0, ok.1);
        steps = λ p. one_step (steps p) (step_at (meanings z.trees)) s (meant z.trees z.holds);
        base = λ p. refl;
        has_step = λ p. refl;
      }

  part_step : StepsPart names (s ∷ []) (codes "[" ++ (bytes ++ codes "]"))
  part_step = record {
    pieces = part_pieces;
    same = ap (λ w. 91 ∷ w) (bytes-append row.pieces (signed CloseBracket ∷ []) ∙ ap (λ w. w ++ 93 ∷ []) row.same);
    ends = λ b. touch-append true row.pieces (signed CloseBracket ∷ []);
    front = record { first = 91; rest = bytes ++ codes "]"; is = refl; no_semicolon = refl; no_minus = λ _. refl };
    clear = λ p behind. before open_square ((bytes ++ codes "]") ++ behind) refl;
    apart = part_apart;
    reads = part_reads;
  }

at_step_fits : (i : Exp) (ts : Trees) → IsPosition i ts → EachFits (expression false) ends 13 ts × (1 ≤ size ts)
at_step_fits i none p = absurd p
at_step_fits i (more (more ts q u) w t) p = absurd p
at_step_fits i (more none w t) p = ((tt, p.0, p.1, p.2, tt), omega arith)

at_step_meant : (i : Exp) (ts : Trees) → IsPosition i ts → plain_seg (step_at (meanings ts)) ≡ plain_seg (seg.At i)
at_step_meant i none p = absurd p
at_step_meant i (more (more ts q u) w t) p = absurd p
at_step_meant i (more none w t) p =
    plain-step (seg.At (meaning t)) (Seg-F.Seg::At (meaning t)) (seg.outs-At (meaning t)) ∙ ap (λ x. roll-Seg (Seg-F.Seg::At x)) p.3 ∙ sym (plain-step (seg.At i) (Seg-F.Seg::At i) (seg.outs-At i))

slice_step_meant : (i j : Exp) (ts : Trees) → IsRange i j ts → plain_seg (step_at (meanings ts)) ≡ plain_seg (seg.Slice i j)
slice_step_meant i j none p = absurd p
slice_step_meant i j (more none w t) p = absurd p.0
slice_step_meant i j (more (more (more ts q u) v s) w t) p = absurd p.0
slice_step_meant i j (more (more none v s) w t) p =
    plain-step (seg.Slice (meaning s) (meaning t)) (Seg-F.Seg::Slice (meaning s) (meaning t)) (seg.outs-Slice (meaning s) (meaning t))
    ∙ ap (λ x. roll-Seg (Seg-F.Seg::Slice x (plain_exp (meaning t)))) p.0.3 ∙ ap (λ x. roll-Seg (Seg-F.Seg::Slice (plain_exp i) x)) p.4
    ∙ sym (plain-step (seg.Slice i j) (Seg-F.Seg::Slice i j) (seg.outs-Slice i j))

-- what one step is
pub data StepPrintable (names : List (List ℕ)) : Seg → Type 0 where
  a_field : (name : List ℕ) → IsField name → StepPrintable names (seg.Field name)
  a_position : (i : Exp) → Printable names (expression false) i → StepPrintable names (seg.At i)
  a_range : (i j : Exp) → Printable names (expression false) i → Printable names (expression false) j → StepPrintable names (seg.Slice i j)

steps_as : (names : List (List ℕ)) (path : List Seg) (bytes text : List ℕ) → bytes ≡ text → StepsPart names path bytes → StepsPart names path text
steps_as names path bytes text e p = subst (StepsPart names path) e p

pub step_part : (names : List (List ℕ)) (s : Seg) → StepPrintable names s → StepsPart names (s ∷ []) (printed_step s)
step_part names _ (a_field name h) = steps_as names (seg.Field name ∷ []) (46 ∷ name) (printed_step (seg.Field name)) (sym (step-of (seg.Field name) (Seg-F.Field name) (seg.outs-Field name))) (field_step names name h)
step_part names _ (a_position i x) =
    steps_as names (seg.At i ∷ []) (codes "[" ++ ((printed i).at position ++ codes "]")) (printed_step (seg.At i)) (sym (step-of (seg.At i) (Seg-F.Seg::At i) (seg.outs-At i)))
    (part_step names (IsPosition i) ((printed i).at position) (seg.At i) (position_row names i x) (at_step_fits i) (at_step_meant i))
step_part names _ (a_range i j x y) =
    steps_as names (seg.Slice i j ∷ []) _ (printed_step (seg.Slice i j)) (range_text ((printed i).at position) ((printed j).at position) ∙ sym (step-of (seg.Slice i j) (Seg-F.Seg::Slice i j) (seg.outs-Slice i j)))
    (part_step names (IsRange i j) ((printed i).at position ++ (codes " : " ++ (printed j).at position)) (seg.Slice i j) (range_row names i j x y) (range_fits i j) (slice_step_meant i j))

-- ---- steps one behind the other

then_steps :
    (names : List (List ℕ)) (path : List Seg) (s : Seg) (front_bytes back_bytes : List ℕ) → StepsPart names path front_bytes → StepsPart names (s ∷ []) back_bytes → StepsPart names (path ++ s ∷ []) (front_bytes ++ back_bytes)
then_steps names path s front_bytes back_bytes p q = record {
  pieces = p.pieces ++ q.pieces;
  same = bytes-append p.pieces q.pieces ∙ ap (λ w. w ++ bytes_of q.pieces) p.same ∙ ap (λ w. front_bytes ++ w) q.same;
  ends = λ b. touch-append b p.pieces q.pieces ∙ q.ends (touch b p.pieces);
  front = front_more false front_bytes back_bytes p.front;
  clear = λ k behind. subst (Clear k) (sym (append_assoc front_bytes back_bytes behind)) (p.clear k (back_bytes ++ behind));
  apart = λ behind k a.
      let last : AreApart (q.pieces ++ behind) = q.apart behind k a in
      subst AreApart (sym (append_assoc p.pieces q.pieces behind))
      (p.apart (q.pieces ++ behind) (subst (Clear false) (sym (bytes-append q.pieces behind ∙ ap (λ w. w ++ bytes_of behind) q.same)) (q.clear false (bytes_of behind))) last);
  reads = λ xs h.
      let both = parted true p.pieces q.pieces xs h in
      let x = p.reads both.ahead both.fronts in
      let y = q.reads both.behind (both.backs ∙ ap (λ t. shapes_behind t q.pieces) (p.ends true)) in
      record {
        extend = λ r. y.extend (x.extend r);
        words = x.words ++ y.words;
        spelled = terminals_of_both names xs both.ahead both.behind x.words y.words both.whole x.spelled y.spelled;
        whole = λ r. y.whole (x.extend r) ∙ ap (λ w. w ++ y.words) (x.whole r) ∙ append_assoc (path_text r) x.words y.words;
        fits = λ b r f. y.fits b (x.extend r) (x.fits b r f);
        steps = λ r. y.steps (x.extend r) ∙ ap (λ w. w ++ map plain_seg (s ∷ [])) (x.steps r) ∙ append_assoc (map plain_seg (steps r)) (map plain_seg path) (map plain_seg (s ∷ []))
            ∙ ap (λ w. map plain_seg (steps r) ++ w) (sym (map-append plain_seg path (s ∷ [])));
        base = λ r. y.base (x.extend r) ∙ x.base r;
        has_step = λ r. y.has_step (x.extend r);
      };
}

pub data StepPrintables (names : List (List ℕ)) : List Seg → Type 0 where
  no_steps : StepPrintables names []
  more_steps : (path : List Seg) (s : Seg) → StepPrintables names path → StepPrintable names s → StepPrintables names (path ++ s ∷ [])

abbrev pub path_bytes : List Seg → List ℕ
path_bytes path = flat_map (λ step. step) (map printed_step path)

bytes_snoc : (path : List Seg) (s : Seg) → path_bytes path ++ printed_step s ≡ path_bytes (path ++ s ∷ [])
bytes_snoc path s =
    sym (ap (flat_map (λ step. step)) (map_snoc printed_step path s) ∙ flat_map-append (λ step. step) (map printed_step path) (printed_step s ∷ []) ∙ ap (λ w. path_bytes path ++ w) (append-nil (printed_step s)))

-- a path that is not empty
pub path_part : (names : List (List ℕ)) (path : List Seg) (s : Seg) → StepPrintables names path → StepPrintable names s → StepsPart names (path ++ s ∷ []) (path_bytes (path ++ s ∷ []))
path_part names _ s no_steps x = steps_as names (s ∷ []) (printed_step s) (path_bytes (s ∷ [])) (sym (append-nil (printed_step s))) (step_part names s x)
path_part names _ s (more_steps path r ps y) x =
    steps_as names ((path ++ r ∷ []) ++ s ∷ []) (path_bytes (path ++ r ∷ []) ++ printed_step s) (path_bytes ((path ++ r ∷ []) ++ s ∷ [])) (bytes_snoc (path ++ r ∷ []) s)
    (then_steps names (path ++ r ∷ []) s (path_bytes (path ++ r ∷ [])) (printed_step s) (path_part names path r ps y) (step_part names s x))
