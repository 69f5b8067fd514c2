-- Sequences of operands.
use Rattle.std.proofs.Common.{◌≡◌, ℕ, ◌≤◌, List, [], ◌∷◌, ◌++◌, map, Bool, true, false, not, ◌&&◌, refl, sym, ap, ◌∙◌, subst, arith}
use Rattle.std.specs.Prelude.{nat_le}
use Rattle.std.proofs.lemmas.Bool.{le-leb}
use Rattle.st_num.specs.declared.mark.Mark.{Mark}
use Rattle.st_num.specs.declared.mark.Mark.TheVariants as mark
use Rattle.st_num.specs.declared.token.Token.{Token}
use Rattle.st_num.specs.declared.token.TokenKind.{TokenKind}
use Rattle.st_grammar.specs.declared.sort.Sort.{Sort}
use Rattle.st_grammar.specs.declared.sort.Sort.TheVariants.{Expression as expression}
use Rattle.st_grammar.specs.declared.sort.Bracket.{Bracket}
use Rattle.st_grammar.specs.declared.sort.Bracket.TheVariants.{Round as round, Square as square, Brace as brace, TickRound as tick_round, TickSquare as tick_square, TickBrace as tick_brace, Dollar as dollar}
use Rattle.st_grammar.specs.declared.sort.Closing.TheVariants.{ByRound as by_round, BySquare as by_square, ByBrace as by_brace, ByBar as by_bar}
use Rattle.st_num.specs.Signs.{level as level_of, prefix_level}
use Rattle.st_grammar.specs.Levels.{encloses}
use Rattle.st_grammar.specs.Terminals.{Terminal, leaf, dot, sign, opening, closing, other, terminal}
use Rattle.st_grammar.specs.Trees.{Tree, operand, post, times, bracket, led, left, ahead, items, Trees, none, more, Heading, plain, length as bar_length, arguments, index, segment, update, below, Path, head, field, part, text, texts, heading_text, path_text, closes}
use Rattle.st_grammar.specs.Grammar.{Fits, HeadingFits, PathFits, FollowsAll, follows, text_follows, is_function, level}
use Rattle.st_grammar.specs.Definitions.{token_in, is_bar}
use Rattle.st_grammar.proofs.TerminalTokens.{terminal_token}
use Rattle.st_parse_law.specs.Written.{Piece, space, token, shape, shapes_behind}
use Rattle.st_parse_law.proofs.Parts.{starts_bar}

-- ---- what an operand begins with

-- a token with which an operand may begin
abbrev pub begins_operand : Terminal → Bool
begins_operand (leaf k x) = true
begins_operand (opening square x) = false
begins_operand (opening k x) = true
begins_operand (closing by_bar x) = true
begins_operand l = false

abbrev pub begins_operands : List Terminal → Bool
begins_operands [] = false
begins_operands (l ∷ w) = begins_operand l

begins_append : (us vs : List Terminal) → begins_operands us ≡ true → begins_operands (us ++ vs) ≡ true
begins_append [] vs h = absurd (cc)
begins_append (l ∷ us) vs h = h

loose_sign : (m : Mark) → nat_le 20 (level_of m) ≡ false
loose_sign mark.Turnstile = refl
loose_sign _ = refl

loose_ahead : (m : Mark) → nat_le 20 (prefix_level m) ≡ false
loose_ahead mark.Turnstile = refl
loose_ahead _ = refl

bracket_begins : (b : Bool) (k : Bracket) (o : Token) → encloses (expression b) k ≡ true → begins_operand (opening k o) ≡ true
bracket_begins b square o h = absurd (cc)
bracket_begins b round o h = refl
bracket_begins b _ o h = refl

mutual
  operand_begins : (b : Bool) (t : Tree) → Fits (expression b) t → 20 ≤ level t → begins_operands (text t) ≡ true
  operand_begins b (operand k x) f h = refl
  operand_begins b (post t l) f h = begins_append (text t) (l ∷ []) (operand_begins b t f.1 f.2)
  operand_begins b (times t m x c) f h = begins_append (text t) (sign m x ∷ text c) (operand_begins b t f.2 f.3)
  operand_begins b (bracket g ts c) f h = begins_append (heading_text g) (texts ts ++ closing (closes g) c ∷ []) (heading_begins b g f.1)
  operand_begins b (led (left l m x) t) f h = let tight : nat_le 20 (level_of m) ≡ true = le-leb 20 (level_of m) h in let loose = loose_sign m in absurd (cc)
  operand_begins b (led (ahead m x) t) f h = let tight : nat_le 20 (prefix_level m) ≡ true = le-leb 20 (prefix_level m) h in let loose = loose_ahead m in absurd (cc)
  operand_begins b (led (items ts) t) f h = absurd (omega (arith, h))

  heading_begins : (b : Bool) (g : Heading) → HeadingFits (expression b) g → begins_operands (heading_text g) ≡ true
  heading_begins b (plain k o) f = bracket_begins b k o f
  heading_begins b (bar_length o) f = refl
  heading_begins b (arguments g o) f = refl
  heading_begins b (index t o) f = begins_append (text t) (opening square o ∷ []) (operand_begins b t f.1 f.2)
  heading_begins b (segment p o) f = begins_append (path_text p) (opening square o ∷ []) (path_begins b p f)
  heading_begins b (update p m x) f = begins_append (path_text p) (sign m x ∷ []) (path_begins b p f.0)
  heading_begins b (below o i m x) f = refl

  path_begins : (b : Bool) (p : Path) → PathFits (expression b) p → begins_operands (path_text p) ≡ true
  path_begins b (head t o) f = begins_append (text t) (opening square o ∷ []) (operand_begins b t f.1 f.2)
  path_begins b (field p x) f = begins_append (path_text p) (dot x ∷ []) (path_begins b p f)
  path_begins b (part p o ts c) f = begins_append (path_text p) (opening square o ∷ (texts ts ++ closing by_square c ∷ [])) (path_begins b p f.0)

-- ---- what may follow

and_not : (b c : Bool) → c ≡ false → not (b && c) ≡ true
and_not true c h = ap not h
and_not false c h = refl

-- an operand that touches nothing before it is a next element
operand_follows : (b : Bool) (u : Tree) (l : Terminal) → begins_operand l ≡ true → (token_in l).touching ≡ false → (b ≡ true → is_bar l ≡ false) → follows (expression b) u l ≡ true
operand_follows b u (leaf k x) h t n = refl
operand_follows b u (dot x) h t n = absurd (cc)
operand_follows b u (sign m x) h t n = absurd (cc)
operand_follows b u (opening square x) h t n = absurd (cc)
operand_follows b u (opening round x) h t n = and_not (is_function u) x.touching t
operand_follows b u (opening brace x) h t n = refl
operand_follows b u (opening tick_round x) h t n = refl
operand_follows b u (opening tick_square x) h t n = refl
operand_follows b u (opening tick_brace x) h t n = refl
operand_follows b u (opening dollar x) h t n = refl
operand_follows false u (closing by_bar x) h t n = refl
operand_follows true u (closing by_bar x) h t n = let no : ◌≡◌ {A = Bool} true false = n refl in absurd (cc)
operand_follows b u (closing by_round x) h t n = absurd (cc)
operand_follows b u (closing by_square x) h t n = absurd (cc)
operand_follows b u (closing by_brace x) h t n = absurd (cc)
operand_follows b u (other x) h t n = absurd (cc)

-- the first token touches nothing
abbrev pub IsFar : List Token → Type 0
IsFar [] = Unit {0}
IsFar (x ∷ xs) = x.touching ≡ false

abbrev IsFarShape : List (TokenKind × Bool) → Type 0
IsFarShape [] = Unit {0}
IsFarShape (s ∷ ss) = s.1 ≡ false

pub far_pieces : (ps : List Piece) (xs : List Token) → map shape xs ≡ shapes_behind false ps → IsFar xs
far_pieces ps xs h = go xs (subst IsFarShape (sym h) (shapes_far ps))
  where
    shapes_far : (ps : List Piece) → IsFarShape (shapes_behind false ps)
    shapes_far [] = tt
    shapes_far (space ∷ ps) = shapes_far ps
    shapes_far (token k t ∷ ps) = refl

    go : (xs : List Token) → IsFarShape (map shape xs) → IsFar xs
    go [] f = tt
    go (x ∷ xs) f = f

text_operand :
    (names : List (List ℕ)) (b : Bool) (u : Tree) (xs : List Token) (w : List Terminal) → map (terminal names) xs ≡ w → begins_operands w ≡ true → IsFar xs
    → (b ≡ true → starts_bar w ≡ false) → text_follows (expression b) u w ≡ true
text_operand names b u [] [] e h f n = absurd (cc)
text_operand names b u [] (l ∷ w) e h f n = absurd (cc)
text_operand names b u (x ∷ xs) [] e h f n = absurd (cc)
text_operand names b u (x ∷ xs) (l ∷ w) e h f n =
    let first : terminal names x ≡ l = cc in
    operand_follows b u l h (ap (λ k. (token_in k).touching) (sym first) ∙ ap (λ y. y.touching) (terminal_token names x) ∙ f) n

pub all_follow : (σ : Sort) (ts : Trees) (w : List Terminal) → ((u : Tree) → text_follows σ u w ≡ true) → FollowsAll σ ts w
all_follow σ none w h = tt
all_follow σ (more ts q u) w h = h u

-- an operand that touches nothing before it may stand behind any elements
pub element_follows :
    (names : List (List ℕ)) (b : Bool) (ts : Trees) (t : Tree) (xs : List Token) → Fits (expression b) t → 20 ≤ level t → map (terminal names) xs ≡ text t → IsFar xs
    → (b ≡ true → starts_bar (text t) ≡ false) → FollowsAll (expression b) ts (text t)
element_follows names b ts t xs f l e far n =
    all_follow (expression b) ts (text t) (λ u. text_operand names b u xs (text t) e (operand_begins b t f l) far n)
