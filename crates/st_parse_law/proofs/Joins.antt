-- Two sides of a sign, and prefix signs.
use Rattle.std.proofs.Common.{◌≡◌, ℕ, ◌≤◌, List, [], ◌∷◌, ◌++◌, map, Bool, true, false, not, ◌&&◌, refl, sym, ap, ◌∙◌, subst, arith, append_assoc}
use Rattle.std.specs.Prelude.{nat_le, if◌then◌else◌}
use Rattle.std.proofs.lemmas.Bool.{and_parts, leb-true, le-leb}
use Rattle.std.proofs.lemmas.Grind.{common_steps}
use Rattle.std.proofs.lemmas.List.{append-nil}
use Rattle.st_num.specs.declared.span.Span.{Span}
use Rattle.st_num.specs.declared.mark.Mark.{Mark}
use Rattle.st_num.specs.declared.mark.Mark.TheVariants as mark
use Rattle.st_num.specs.declared.token.Token.{Token}
use Rattle.st_num.specs.declared.token.TokenKind.TheVariants as kind
use Rattle.st_grammar.specs.declared.sort.Sort.{Sort}
use Rattle.st_grammar.specs.declared.sort.Sort.TheVariants.{Expression as expression, Arithmetic as arithmetic}
use Rattle.st_grammar.specs.Levels as grammar
use Rattle.st_grammar.specs.Levels.{has_level}
use Rattle.st_grammar.specs.Terminals.{sign, terminal, kind_terminal}
use Rattle.st_grammar.specs.Trees.{Tree, led, left, text}
use Rattle.st_el.specs.declared.expression.Exp.{Exp}
use Rattle.st_el.specs.declared.expression.Node.{roll-Node}
use Rattle.st_el.specs.declared.expression.Node.TheVariants as node
use Rattle.st_el.specs.declared.expression.Count.TheOpen.{Node-F}
use Rattle.st_el.specs.declared.context.Around.{Around}
use Rattle.st_el.specs.declared.context.Around.TheVariants.{Brackets, Bars, Arithmetic, Caret}
use Rattle.st_el.specs.declared.context.Behind.TheVariants.{Plus}
use Rattle.st_el.specs.declared.context.Context.{Context as Place}
use Rattle.st_num.specs.Signs.{spelling, level as sign_level, left_of, right_of, is_notation}
use Rattle.st_el.specs.Contexts.{context_at as place_at}
use Rattle.st_el.specs.Wrappings.{Printed, Level, level_of, takes_in, has_bar}
use Rattle.st_el.specs.SourceText.{printed, left_side, blank_behind, parts_printed}
use Rattle.st_el.specs.Plain.{plain_exp}
use Rattle.st_parse_builder.specs.Meaning.{exp, place, meaning, is_atom, opened, joined_node}
use Rattle.st_parse_law.specs.Written.{Piece, space, bytes_of, shape, shapes_behind, ends_before, AreApart}
use Rattle.st_parse_law.proofs.Cuts.{touch, touch-append, bytes-append, single, cut, parted, one_terminal, terminals_of_both}
use Rattle.st_parse_law.proofs.Ends.{Clear, clear_more, before, blank, Front, front_more, first_caret, first_ends}
use Rattle.st_parse_law.proofs.Parts as parts
use Rattle.st_parse_law.proofs.Parts.{Traits, Within, Part, Read, part_as, weaker}
use Rattle.st_parse_law.proofs.Wraps.{signed, no_atom_at}
use Rattle.st_parse_law.proofs.Placed.{Home, sort_of, bare_traits, place_traits, Printable, printable, placed, normal, IsNormal}
use Rattle.st_parse_law.proofs.Posts.{same_plain}

-- ---- signs between two sides

left_low : (m : Mark) → nat_le (left_of (sign_level m)) 20 ≡ true
left_low mark.Turnstile = refl
left_low _ = refl

right_low : (m : Mark) → nat_le (right_of (sign_level m)) 20 ≡ true
right_low mark.Turnstile = refl
right_low _ = refl

sign_loose : (m : Mark) → nat_le 20 (sign_level m) ≡ false
sign_loose mark.Turnstile = refl
sign_loose _ = refl

-- a sign with a level is a sign to the grammar
pub sign_terminal_is : (names : List (List ℕ)) (m : Mark) (x : Token) → nat_le 1 (sign_level m) ≡ true → kind_terminal names (kind.Sign m) x ≡ sign m x
sign_terminal_is names mark.OpenParen x h = absurd (cc)
sign_terminal_is names mark.OpenBracket x h = absurd (cc)
sign_terminal_is names mark.OpenBrace x h = absurd (cc)
sign_terminal_is names mark.TickParen x h = absurd (cc)
sign_terminal_is names mark.TickBracket x h = absurd (cc)
sign_terminal_is names mark.TickBrace x h = absurd (cc)
sign_terminal_is names mark.OpenArith x h = absurd (cc)
sign_terminal_is names mark.CloseParen x h = absurd (cc)
sign_terminal_is names mark.CloseBracket x h = absurd (cc)
sign_terminal_is names mark.CloseBrace x h = absurd (cc)
sign_terminal_is names mark.Bar x h = absurd (cc)
sign_terminal_is names _ x h = refl

-- what stands between a sign and its right side
abbrev gap : Mark → List Piece
gap mark.Caret = []
gap m = space ∷ []

gap_bytes : (m : Mark) → bytes_of (gap m) ≡ blank_behind m
gap_bytes mark.Caret = refl
gap_bytes _ = refl

gap_ends : (m : Mark) (a : Bool) (ps : List Piece) → Front a (bytes_of ps) → ends_before (kind.Sign m) (bytes_of (gap m ++ ps)) ≡ true
gap_ends mark.Caret a ps f = first_ends mark.Caret a (bytes_of ps) (first_caret a) f
gap_ends _ a ps f = refl

gap_apart : (m : Mark) (ps : List Piece) → AreApart ps → AreApart (gap m ++ ps)
gap_apart mark.Caret ps a = a
gap_apart _ ps a = a

-- the pieces of two sides
abbrev two_sides : Mark → List Piece → List Piece → List Piece
two_sides m ls rs = ls ++ space ∷ signed m ∷ (gap m ++ rs)

sides_text : (l s b r : List ℕ) → l ++ 32 ∷ (s ++ (b ++ r)) ≡ ((l ++ 32 ∷ []) ++ s ++ b) ++ r
sides_text l s b r = grind (arith, common_steps)

-- where a side is printed
abbrev pub left_place : Around → Mark → Place
left_place a m = place_at a (left_of (sign_level m))

abbrev pub right_place : Around → Mark → Place
right_place a m = place_at a (right_of (sign_level m))

abbrev pub side_traits : ℕ → Traits
side_traits n = record { level = n; dots = false; plus = false; no_bar = false }

abbrev pub join_traits : Mark → Traits
join_traits m = record { level = sign_level m; dots = true; plus = false; no_bar = false }

-- the left side has a blank behind it
left_side_is : (a : Bool) (bs : List ℕ) → Front a bs → left_side bs ≡ bs ++ 32 ∷ []
left_side_is a bs f = ap left_side f.is ∙ ap (λ w. w ++ 32 ∷ []) (sym f.is)

joined_plain :
    (at by : Span) (m : Mark) (e f g h : Exp) → plain_exp e ≡ plain_exp f → plain_exp g ≡ plain_exp h
    → plain_exp (exp at (joined_node e m g)) ≡ plain_exp (exp by (joined_node f m h))
joined_plain at by m e f g h p q = go (is_notation m)
  where
    go : (b : Bool) → plain_exp (exp at (if b then node.Infix e m g else node.Binary e m g)) ≡ plain_exp (exp by (if b then node.Infix f m h else node.Binary f m h))
    go true = same_plain at by (node.Infix e m g) (node.Infix f m h) (Node-F.Infix e m g) (Node-F.Infix f m h) (node.outs-Infix e m g) (node.outs-Infix f m h)
        (ap (λ x. roll-Node (Node-F.Infix x m (plain_exp g))) p ∙ ap (λ x. roll-Node (Node-F.Infix (plain_exp f) m x)) q)
    go false = same_plain at by (node.Binary e m g) (node.Binary f m h) (Node-F.Binary e m g) (Node-F.Binary f m h) (node.outs-Binary e m g) (node.outs-Binary f m h)
        (ap (λ x. roll-Node (Node-F.Binary x m (plain_exp g))) p ∙ ap (λ x. roll-Node (Node-F.Binary (plain_exp f) m x)) q)

pub joined_no_atom : (at : Span) (m : Mark) (e g : Exp) → is_atom (opened (exp at (joined_node e m g))) ≡ false
joined_no_atom at m e g = go (is_notation m)
  where
    go : (b : Bool) → is_atom (opened (exp at (if b then node.Infix e m g else node.Binary e m g))) ≡ false
    go true = no_atom_at at (node.Infix e m g) (Node-F.Infix e m g) (node.outs-Infix e m g) refl
    go false = no_atom_at at (node.Binary e m g) (Node-F.Binary e m g) (node.outs-Binary e m g) refl

module _ (names : List (List ℕ)) (σ : Sort) (e f : Exp) (m : Mark) (level_1 : nat_le 1 (sign_level m) ≡ true) (has : has_level σ (sign_level m) ≡ true) where
  module _ (lt rt : Traits) (lb rb : List ℕ) (l : Part names σ e lt lb) (r : Part names σ f rt rb) (left_is : lt.level ≡ grammar.left_of m) (right_is : rt.level ≡ grammar.right_of m) where
    joined_apart : (more : List Piece) → Clear false (bytes_of more) → AreApart more → AreApart (two_sides m l.pieces r.pieces ++ more)
    joined_apart more c a =
        let right_apart : AreApart (r.pieces ++ more) = r.apart more (clear_more false rt.plus (bytes_of more) (λ h. absurd (cc)) c) a in
        let front : Front (parts.is_arithmetic σ) (bytes_of (r.pieces ++ more)) =
        subst (Front (parts.is_arithmetic σ)) (sym (bytes-append r.pieces more ∙ ap (λ w. w ++ bytes_of more) r.same)) (front_more (parts.is_arithmetic σ) rb (bytes_of more) r.front) in
        let sign_apart : AreApart (signed m ∷ (gap m ++ (r.pieces ++ more))) = (refl, tt, gap_ends m (parts.is_arithmetic σ) (r.pieces ++ more) front, gap_apart m (r.pieces ++ more) right_apart) in
        let whole : AreApart (l.pieces ++ space ∷ signed m ∷ (gap m ++ (r.pieces ++ more))) =
        l.apart (space ∷ signed m ∷ (gap m ++ (r.pieces ++ more))) (before blank (bytes_of (signed m ∷ (gap m ++ (r.pieces ++ more)))) refl) sign_apart in
        let same : two_sides m l.pieces r.pieces ++ more ≡ l.pieces ++ space ∷ signed m ∷ (gap m ++ (r.pieces ++ more)) =
        append_assoc l.pieces (space ∷ signed m ∷ (gap m ++ r.pieces)) more ∙ ap (λ w. l.pieces ++ space ∷ signed m ∷ w) (append_assoc (gap m) r.pieces more) in
        subst AreApart (sym same) whole

    joined_read : (at : Span) (b : Bool) (xs : List Token) → map shape xs ≡ shapes_behind b (two_sides m l.pieces r.pieces)
        → Read names σ (exp at (joined_node e m f)) (join_traits m) xs
    joined_read at b xs s =
        let one = parted b l.pieces (space ∷ signed m ∷ (gap m ++ r.pieces)) xs s in
        let two = cut one.behind ((kind.Sign m, false) ∷ []) (shapes_behind true (gap m ++ r.pieces)) one.backs in
        let three = parted true (gap m) r.pieces two.behind two.backs in
        let x = single two.ahead (kind.Sign m) false two.fronts in
        let y = l.reads b one.ahead one.fronts in
        let z = r.reads (touch true (gap m)) three.behind three.backs in
        let none : three.ahead ≡ [] = no_tokens m three.ahead three.fronts in
        let t : Tree = led (left y.tree m x.only) z.tree in
        record {
          tree = t;
          spelled = terminals_of_both names xs one.ahead one.behind (text y.tree) (sign m x.only ∷ text z.tree) one.whole y.spelled
              (terminals_of_both names one.behind two.ahead two.behind (sign m x.only ∷ []) (text z.tree) two.whole
              (one_terminal names two.ahead (kind.Sign m) false x ∙ ap (λ i. i ∷ []) (sign_terminal_is names m x.only level_1))
              (terminals_of_both names two.behind three.ahead three.behind [] (text z.tree) three.whole (ap (map (terminal names)) none) z.spelled))
              ∙ sym (append_assoc (text y.tree) (sign m x.only ∷ []) (text z.tree));
          fits = ((has, y.fits, omega (arith, left_is, y.level)), z.fits, omega (arith, right_is, z.level), tt);
          plain = joined_plain (place (meaning y.tree)) at m (meaning y.tree) e (meaning z.tree) f y.plain z.plain;
          level = omega arith;
          dots = λ _. joined_no_atom (place (meaning y.tree)) m (meaning y.tree) (meaning z.tree);
          no_bar = λ h. absurd (cc);
        }
      where
        no_tokens : (m : Mark) (ys : List Token) → map shape ys ≡ shapes_behind true (gap m) → ys ≡ []
        no_tokens m [] h = refl
        no_tokens mark.Caret (y ∷ ys) h = absurd (cc)
        no_tokens _ (y ∷ ys) h = absurd (cc)

    pub joined_part : (at : Span) → Part names σ (exp at (joined_node e m f)) (join_traits m) (((lb ++ 32 ∷ []) ++ spelling m ++ blank_behind m) ++ rb)
    joined_part at = record {
      pieces = two_sides m l.pieces r.pieces;
      same = bytes-append l.pieces (space ∷ signed m ∷ (gap m ++ r.pieces))
          ∙ ap (λ w. w ++ 32 ∷ (spelling m ++ bytes_of (gap m ++ r.pieces))) l.same
          ∙ ap (λ w. lb ++ 32 ∷ (spelling m ++ w)) (bytes-append (gap m) r.pieces ∙ ap (λ w. w ++ bytes_of r.pieces) (gap_bytes m) ∙ ap (λ w. blank_behind m ++ w) r.same)
          ∙ sides_text lb (spelling m) (blank_behind m) rb;
      ends = λ b. touch-append b l.pieces (space ∷ signed m ∷ (gap m ++ r.pieces)) ∙ touch-append true (gap m) r.pieces ∙ r.ends (touch true (gap m));
      front = front_more (parts.is_arithmetic σ) _ rb (front_more (parts.is_arithmetic σ) _ (blank_behind m) (front_more (parts.is_arithmetic σ) _ (spelling m) (front_more (parts.is_arithmetic σ) lb (32 ∷ []) l.front)));
      apart = joined_apart;
      reads = joined_read at;
    }

-- the levels of a place's sort are those of its home
has_home : (σ : Sort) (a : Around) (n : ℕ) → Home σ a → has_level σ n ≡ true → has_level (sort_of a) n ≡ true
has_home (expression b) Brackets n h l = l
has_home (expression b) Bars n h l = l
has_home arithmetic Arithmetic n h l = l
has_home (expression b) Arithmetic n h l = absurd h
has_home (expression b) Caret n h l = absurd h
has_home arithmetic Brackets n h l = absurd h
has_home arithmetic Bars n h l = absurd h
has_home arithmetic Caret n h l = absurd h
has_home σ a n h l = absurd h

-- the sorts that have a home, and their levels
pub data IsHome : Sort → Type 0 where
  in_expression : (b : Bool) → IsHome (expression b)
  in_arithmetic : IsHome arithmetic

level_some : (σ : Sort) (m : Mark) → IsHome σ → has_level σ (sign_level m) ≡ true → nat_le 1 (sign_level m) ≡ true
level_some _ m (in_expression b) h = (and_parts (nat_le 1 (sign_level m)) (nat_le (sign_level m) 13) h).0
level_some _ m in_arithmetic h = le-leb 1 (sign_level m) (omega (arith, leb-true 15 (sign_level m) h))

no_arithmetic : (m : Mark) → nat_le (sign_level m) 13 ≡ true → nat_le 15 (sign_level m) ≡ false
no_arithmetic mark.Plus h = absurd (cc)
no_arithmetic mark.Minus h = absurd (cc)
no_arithmetic mark.Star h = absurd (cc)
no_arithmetic mark.Slash h = absurd (cc)
no_arithmetic mark.Backslash h = absurd (cc)
no_arithmetic mark.Caret h = absurd (cc)
no_arithmetic _ h = refl

binary_normal : (σ : Sort) (m : Mark) (x y : Printed) → IsHome σ → has_level σ (sign_level m) ≡ true → IsNormal σ (Node-F.Binary x m y)
binary_normal _ m x y (in_expression b) h = no_arithmetic m (and_parts (nat_le 1 (sign_level m)) (nat_le (sign_level m) 13) h).1
binary_normal _ m x y in_arithmetic h = tt

loose_traits : (m : Mark) (no_bar : Bool) → (nat_le 20 (sign_level m) && no_bar) ≡ true → false ≡ true
loose_traits m b h = (ap (λ t. t && b) (sym (sign_loose m)) ∙ h)

loose_level : (n : ℕ) (m : Mark) (b : Bool) → n ≡ sign_level m → (nat_le 20 n && b) ≡ true → false ≡ true
loose_level n m b is h = loose_traits m b (ap (λ k. nat_le 20 k && b) (sym is) ∙ h)

join_within : (m : Mark) → (l : Level) → level_of l ≡ sign_level m → Within (bare_traits l) (join_traits m)
join_within m l is = record {
  level = omega (arith, is);
  dots = λ _. refl;
  plus = λ h. loose_level (level_of l) m (not (takes_in Plus l)) is h;
  no_bar = λ h. loose_level (level_of l) m (not (has_bar l)) is h;
}

-- two sides of a sign
pub joined_printed :
    (names : List (List ℕ)) (σ : Sort) (at : Span) (e f : Exp) (m : Mark) → IsHome σ → has_level σ (sign_level m) ≡ true
    → Printable names σ e → Printable names σ f → Printable names σ (exp at (joined_node e m f))
joined_printed names σ at e f m ok has x y = go (is_notation m) refl
  where
    part : (a : Around) → Home σ a
        → Part names (sort_of a) (exp at (joined_node e m f)) (join_traits m) (((left_side ((printed e).at (left_place a m)) ++ spelling m) ++ blank_behind m) ++ (printed f).at (right_place a m))
    part a home =
        let l = placed names σ e (left_place a m) home (leb-true (left_of (sign_level m)) 20 (left_low m)) x in
        let r = placed names σ f (right_place a m) home (leb-true (right_of (sign_level m)) 20 (right_low m)) y in
        part_as names (sort_of a) (exp at (joined_node e m f)) (exp at (joined_node e m f)) (join_traits m) _ _ refl
        (ap (λ w. ((w ++ spelling m) ++ blank_behind m) ++ (printed f).at (right_place a m)) (sym (left_side_is (parts.is_arithmetic (sort_of a)) ((printed e).at (left_place a m)) l.front)))
        (joined_part names (sort_of a) e f m (level_some σ m ok has) (has_home σ a (sign_level m) home has) (place_traits (left_place a m) (printed e)) (place_traits (right_place a m) (printed f))
        ((printed e).at (left_place a m)) ((printed f).at (right_place a m)) l r refl refl at)

    some : 1 ≤ sign_level m
    some = leb-true 1 (sign_level m) (level_some σ m ok has)

    go : (b : Bool) → is_notation m ≡ b → Printable names σ (exp at (if b then node.Infix e m f else node.Binary e m f))
    go true is =
        printable names σ at (node.Infix e m f) (Node-F.Infix (printed e) m (printed f)) (ap parts_printed (node.outs-Infix e m f)) some (normal σ (Node-F.Infix (printed e) m (printed f)) refl) (λ a home.
        part_as names (sort_of a) (exp at (node.Infix e m f)) (exp at (node.Infix e m f)) (bare_traits (Node-F.Infix (printed e) m (printed f))) _ _ refl (sym (append-nil _))
        (weaker names (sort_of a) (exp at (node.Infix e m f)) (bare_traits (Node-F.Infix (printed e) m (printed f))) (join_traits m) _ (join_within m (Node-F.Infix (printed e) m (printed f)) refl)
        (subst (λ b. Part names (sort_of a) (exp at (if b then node.Infix e m f else node.Binary e m f)) (join_traits m) (((left_side ((printed e).at (left_place a m)) ++ spelling m) ++ blank_behind m) ++ (printed f).at (right_place a m))) is (part a home))))
    go false is =
        printable names σ at (node.Binary e m f) (Node-F.Binary (printed e) m (printed f)) (ap parts_printed (node.outs-Binary e m f)) some (binary_normal σ m (printed e) (printed f) ok has) (λ a home.
        part_as names (sort_of a) (exp at (node.Binary e m f)) (exp at (node.Binary e m f)) (bare_traits (Node-F.Binary (printed e) m (printed f))) _ _ refl (sym (append-nil _))
        (weaker names (sort_of a) (exp at (node.Binary e m f)) (bare_traits (Node-F.Binary (printed e) m (printed f))) (join_traits m) _ (join_within m (Node-F.Binary (printed e) m (printed f)) refl)
        (subst (λ b. Part names (sort_of a) (exp at (if b then node.Infix e m f else node.Binary e m f)) (join_traits m) (((left_side ((printed e).at (left_place a m)) ++ spelling m) ++ blank_behind m) ++ (printed f).at (right_place a m))) is (part a home))))
