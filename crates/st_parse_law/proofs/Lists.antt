-- Lists by commas: tuples and arguments.
use Rattle.std.proofs.Common.{◌≡◌, ℕ, ◌≤◌, List, [], ◌∷◌, ◌++◌, map, codes, Bool, true, false, refl, sym, ap, ◌∙◌, subst, arith, append_assoc}
use Rattle.std.specs.Prelude.{flat_map}
use Rattle.std.proofs.lemmas.List.{append-nil, map-append}
use Rattle.std.proofs.lemmas.Grind.{flat_map-append}
use Rattle.st_num.specs.Signs.{spelling}
use Rattle.st_num.specs.declared.mark.Mark.{Mark}
use Rattle.st_num.specs.declared.mark.Mark.TheVariants.{Comma}
use Rattle.st_num.specs.declared.token.Token.{Token}
use Rattle.st_num.specs.declared.token.TokenKind.TheVariants as kind
use Rattle.st_grammar.specs.declared.sort.Sort.{Sort}
use Rattle.st_grammar.specs.declared.sort.Sort.TheVariants.{Expression as expression}
use Rattle.st_grammar.specs.declared.sort.Style.TheVariants.{Parts as parts}
use Rattle.st_grammar.specs.Terminals.{Terminal, sign, closing, terminal, kind_terminal}
use Rattle.st_grammar.specs.Trees.{Trees, none, more, bracket, Heading, texts, heading_text, closes}
use Rattle.st_grammar.specs.Grammar.{Fits, EachFits, SetsOff, size}
use Rattle.st_el.specs.declared.expression.Exp.{Exp}
use Rattle.st_el.specs.declared.context.Around.TheVariants.{Brackets}
use Rattle.st_el.specs.Contexts.{whole}
use Rattle.st_el.specs.Wrappings.{Printed}
use Rattle.st_el.specs.SourceText.{printed, listed}
use Rattle.st_el.specs.Plain.{plain_exp}
use Rattle.st_parse_builder.specs.Meaning.{meaning, meanings, is_atom, opened}
use Rattle.st_parse_law.specs.Written.{Piece, space, bytes_of, shape, shapes_behind, AreApart}
use Rattle.st_parse_law.proofs.Cuts.{touch, touch-append, bytes-append, single, parted, one_terminal, terminals_of_both}
use Rattle.st_parse_law.proofs.Ends.{Clear, before, comma, Front, front_more, Closer, closer_clear, closer_last, last_ends}
use Rattle.st_parse_law.proofs.Parts.{Part, Read, is_arithmetic, starts_bar}
use Rattle.st_parse_law.proofs.Wraps.{signed, tight_traits}
use Rattle.st_parse_law.proofs.Placed.{place_traits, Printable, placed}
use Rattle.st_parse_law.proofs.Rows.{Row, row_as, Joint, row_one, row_then}

-- ---- expressions that are read back, one behind the other

pub data Printables (names : List (List ℕ)) (σ : Sort) : List Exp → Type 0 where
  no_more : Printables names σ []
  one_more : (es : List Exp) (e : Exp) → Printables names σ es → Printable names σ e → Printables names σ (es ++ e ∷ [])

-- the trees of these expressions between commas
pub record AreListed (es : List Exp) (ts : Trees) : Type 0 where
  pub fits : EachFits (expression false) parts 1 ts
  pub some : 1 ≤ size ts
  pub plain : map plain_exp (meanings ts) ≡ map plain_exp es

-- ---- commas

abbrev IsComma : List Terminal → Type 0
IsComma w = (x : Token) × (w ≡ sign Comma x ∷ [])

comma_joint : (names : List (List ℕ)) → Joint names IsComma false false (codes ", ")
comma_joint names = record {
  pieces = signed Comma ∷ space ∷ [];
  same = refl;
  after = λ b. refl;
  clear = λ more. before comma (32 ∷ more) refl;
  apart = λ more f a. (refl, tt, refl, a);
  reads = λ xs s. let x = single xs (kind.Sign Comma) true s in record {
    words = sign Comma x.only ∷ [];
    spelled = one_terminal names xs (kind.Sign Comma) true x;
    holds = (x.only, refl);
  };
}

sets_off : (ts : Trees) (x : Token) (w : List Terminal) → 1 ≤ size ts → w ≡ sign Comma x ∷ [] → SetsOff parts ts w
sets_off none x w h e = absurd (omega (arith, h))
sets_off (more ts q t) x w h e = (Comma, x, e, refl)

pub map_snoc : {A B : Type 0} (f : A → B) (xs : List A) (x : A) → map f (xs ++ x ∷ []) ≡ map f xs ++ f x ∷ []
map_snoc f xs x = map-append f xs (x ∷ [])

pub plain_snoc : (us es : List Exp) (u e : Exp) → map plain_exp us ≡ map plain_exp es → plain_exp u ≡ plain_exp e → map plain_exp (us ++ u ∷ []) ≡ map plain_exp (es ++ e ∷ [])
plain_snoc us es u e h q =
    map_snoc plain_exp us u ∙ ap (λ w. w ++ plain_exp u ∷ []) h ∙ ap (λ p. map plain_exp es ++ p ∷ []) q ∙ sym (map_snoc plain_exp es e)

-- ---- lists

one_listed : (names : List (List ℕ)) (e : Exp) (xs : List Token) (r : Read names (expression false) e (place_traits (whole Brackets) (printed e)) xs) → AreListed (e ∷ []) (more none [] r.tree)
one_listed names e xs r = record { fits = (tt, refl, r.fits, r.level, tt); some = omega arith; plain = ap (λ p. p ∷ []) r.plain }

more_listed :
    (names : List (List ℕ)) (es : List Exp) (e : Exp) (ts : Trees) (w : List Terminal) (xs : List Token) → AreListed es ts → IsComma w
    → (r : Read names (expression false) e (place_traits (whole Brackets) (printed e)) xs) → AreListed (es ++ e ∷ []) (more ts w r.tree)
more_listed names es e ts w xs l c r = record {
  fits = (l.fits, sets_off ts c.0 w l.some c.1, r.fits, r.level, tt);
  some = omega arith;
  plain = plain_snoc (meanings ts) es (meaning r.tree) e l.plain r.plain;
}

abbrev texts_behind : List Exp → List ℕ
texts_behind es = flat_map (λ next. codes ", " ++ next) (map (λ part. part.at (whole Brackets)) (map printed es))

behind_snoc : (es : List Exp) (e : Exp) → texts_behind (es ++ e ∷ []) ≡ texts_behind es ++ (codes ", " ++ (printed e).at (whole Brackets))
behind_snoc es e =
    ap (λ w. flat_map (λ next. codes ", " ++ next) (map (λ (part : Printed). part.at (whole Brackets)) w)) (map_snoc printed es e)
    ∙ ap (flat_map (λ next. codes ", " ++ next)) (map_snoc (λ (part : Printed). part.at (whole Brackets)) (map printed es) (printed e))
    ∙ flat_map-append (λ next. codes ", " ++ next) (map (λ part. part.at (whole Brackets)) (map printed es)) ((printed e).at (whole Brackets) ∷ [])
    ∙ ap (λ w. texts_behind es ++ w) (append-nil (codes ", " ++ (printed e).at (whole Brackets)))

listed_snoc : (es : List Exp) (d e : Exp)
    → listed (map printed (es ++ d ∷ [])) ++ (codes ", " ++ (printed e).at (whole Brackets)) ≡ listed (map printed ((es ++ d ∷ []) ++ e ∷ []))
listed_snoc [] d e = append_assoc ((printed d).at (whole Brackets)) [] (codes ", " ++ (printed e).at (whole Brackets))
    ∙ ap (λ w. (printed d).at (whole Brackets) ++ w) (sym (append-nil (codes ", " ++ (printed e).at (whole Brackets))))
listed_snoc (c ∷ es) d e = append_assoc ((printed c).at (whole Brackets)) (texts_behind (es ++ d ∷ [])) (codes ", " ++ (printed e).at (whole Brackets))
    ∙ ap (λ w. (printed c).at (whole Brackets) ++ w) (sym (behind_snoc (es ++ d ∷ []) e))

-- a list that is not empty
pub listed_row :
    (names : List (List ℕ)) (es : List Exp) (e : Exp) → Printables names (expression false) es → Printable names (expression false) e
    → Row names (AreListed (es ++ e ∷ [])) false false (listed (map printed (es ++ e ∷ [])))
listed_row names _ e no_more x =
    row_as names (AreListed (e ∷ [])) false false ((printed e).at (whole Brackets)) (listed (map printed (e ∷ []))) (sym (append-nil _))
    (row_one names (AreListed (e ∷ [])) (expression false) e (place_traits (whole Brackets) (printed e)) ((printed e).at (whole Brackets)) (one_listed names e)
    (placed names (expression false) e (whole Brackets) tt (omega arith) x))
listed_row names _ e (one_more es d ps y) x =
    row_as names (AreListed ((es ++ d ∷ []) ++ e ∷ [])) false false _ (listed (map printed ((es ++ d ∷ []) ++ e ∷ []))) (listed_snoc es d e)
    (row_then names (AreListed (es ++ d ∷ [])) (AreListed ((es ++ d ∷ []) ++ e ∷ [])) IsComma (expression false) e (place_traits (whole Brackets) (printed e)) false false
    (listed (map printed (es ++ d ∷ []))) (codes ", ") ((printed e).at (whole Brackets)) (listed_row names es d ps y) (comma_joint names)
    (placed names (expression false) e (whole Brackets) tt (omega arith) x)
    (λ ts w xs l c s r. more_listed names (es ++ d ∷ []) e ts w xs l c r))

-- ---- brackets round rows

-- the tokens are those of such a heading
pub record OpeningRead (names : List (List ℕ)) (A : Type 0) (heading : A → Heading) (xs : List Token) : Type 0 where
  pub of : A
  pub spelled : map (terminal names) xs ≡ heading_text (heading of)

-- pieces that open a bracket, read back as such headings
pub record Opening (names : List (List ℕ)) (A : Type 0) (heading : A → Heading) (outer inner : Bool) (bytes : List ℕ) : Type 0 where
  pub pieces : List Piece
  pub same : bytes_of pieces ≡ bytes
  pub after : (b : Bool) → touch b pieces ≡ true
  pub front : Front outer bytes
  pub apart : (more : List Piece) → Front inner (bytes_of more) → AreApart more → AreApart (pieces ++ more)
  pub reads : (b : Bool) (xs : List Token) → map shape xs ≡ shapes_behind b pieces → OpeningRead names A heading xs

module _ (names : List (List ℕ)) (A : Type 0) (heading : A → Heading) (P : Trees → Type 0) (σ : Sort) (inner plus : Bool) (f : Exp) (c : Mark) (ob rb : List ℕ)
    (closer : Closer c)
    (closed : (z : A) (y : Token) → kind_terminal names (kind.Sign c) y ≡ closing (closes (heading z)) y)
    (fits : (z : A) (ts : Trees) (y : Token) → P ts → Fits σ (bracket (heading z) ts y))
    (meant : (z : A) (ts : Trees) (y : Token) → P ts → plain_exp (meaning (bracket (heading z) ts y)) ≡ plain_exp f)
    (no_atom : (z : A) (ts : Trees) (y : Token) → P ts → is_atom (opened (meaning (bracket (heading z) ts y))) ≡ false)
    (no_bar : (z : A) (w : List Terminal) → starts_bar (heading_text (heading z) ++ w) ≡ false) where
  abbrev boxed_pieces : Opening names A heading (is_arithmetic σ) inner ob → Row names P inner plus rb → List Piece
  boxed_pieces o r = o.pieces ++ (r.pieces ++ signed c ∷ [])

  boxed_apart : (o : Opening names A heading (is_arithmetic σ) inner ob) (r : Row names P inner plus rb) (behind : List Piece)
      → Clear true (bytes_of behind) → AreApart behind → AreApart (boxed_pieces o r ++ behind)
  boxed_apart o r behind k a =
      let end : AreApart (signed c ∷ behind) = (refl, tt, last_ends c true (bytes_of behind) (closer_last c closer) k, a) in
      let row : AreApart (r.pieces ++ signed c ∷ behind) = r.apart (signed c ∷ behind) (closer_clear c plus (bytes_of behind) closer) end in
      let front : Front inner (bytes_of (r.pieces ++ signed c ∷ behind)) =
      subst (Front inner) (sym (bytes-append r.pieces (signed c ∷ behind) ∙ ap (λ w. w ++ bytes_of (signed c ∷ behind)) r.same)) (front_more inner rb (bytes_of (signed c ∷ behind)) r.front) in
      subst AreApart (sym (append_assoc o.pieces (r.pieces ++ signed c ∷ []) behind ∙ ap (λ w. o.pieces ++ w) (append_assoc r.pieces (signed c ∷ []) behind)))
      (o.apart (r.pieces ++ signed c ∷ behind) front row)

  boxed_read : (o : Opening names A heading (is_arithmetic σ) inner ob) (r : Row names P inner plus rb) (b : Bool) (xs : List Token)
      → map shape xs ≡ shapes_behind b (boxed_pieces o r) → Read names σ f (tight_traits true) xs
  boxed_read o r b xs s =
      let one = parted b o.pieces (r.pieces ++ signed c ∷ []) xs s in
      let two = parted (touch b o.pieces) r.pieces (signed c ∷ []) one.behind one.backs in
      let z = o.reads b one.ahead one.fronts in
      let row = r.reads (touch b o.pieces) two.ahead two.fronts in
      let y = single two.behind (kind.Sign c) (touch (touch b o.pieces) r.pieces) two.backs in
      record {
        tree = bracket (heading z.of) row.trees y.only;
        spelled = terminals_of_both names xs one.ahead one.behind (heading_text (heading z.of)) (texts row.trees ++ closing (closes (heading z.of)) y.only ∷ []) one.whole z.spelled
            (terminals_of_both names one.behind two.ahead two.behind (texts row.trees) (closing (closes (heading z.of)) y.only ∷ []) two.whole row.spelled
            (one_terminal names two.behind (kind.Sign c) (touch (touch b o.pieces) r.pieces) y ∙ ap (λ l. l ∷ []) (closed z.of y.only)));
        fits = fits z.of row.trees y.only row.holds;
        plain = meant z.of row.trees y.only row.holds;
        level = omega arith;
        dots = λ _. no_atom z.of row.trees y.only row.holds;
        no_bar = λ _. no_bar z.of (texts row.trees ++ closing (closes (heading z.of)) y.only ∷ []);
      }

  pub boxed : Opening names A heading (is_arithmetic σ) inner ob → Row names P inner plus rb → Part names σ f (tight_traits true) (ob ++ (rb ++ spelling c))
  boxed o r = record {
    pieces = boxed_pieces o r;
    same = bytes-append o.pieces (r.pieces ++ signed c ∷ []) ∙ ap (λ w. w ++ bytes_of (r.pieces ++ signed c ∷ [])) o.same
        ∙ ap (λ w. ob ++ w) (bytes-append r.pieces (signed c ∷ []) ∙ ap (λ w. w ++ (spelling c ++ [])) r.same ∙ ap (λ w. rb ++ w) (append-nil (spelling c)));
    ends = λ b. touch-append b o.pieces (r.pieces ++ signed c ∷ []) ∙ touch-append (touch b o.pieces) r.pieces (signed c ∷ []);
    front = front_more (is_arithmetic σ) ob (rb ++ spelling c) o.front;
    apart = boxed_apart o r;
    reads = boxed_read o r;
  }
