-- Printed parts: their pieces, and how the tokens of these pieces are read.
use Rattle.std.proofs.Common.{◌≡◌, ℕ, ◌≤◌, List, [], ◌∷◌, ◌++◌, map, Bool, true, false, ◌∙◌, subst, arith}
use Rattle.st_num.specs.declared.token.Token.{Token}
use Rattle.st_grammar.specs.declared.sort.Sort.{Sort}
use Rattle.st_grammar.specs.declared.sort.Sort.TheVariants.{Arithmetic as arithmetic}
use Rattle.st_grammar.specs.Terminals.{Terminal, terminal}
use Rattle.st_grammar.specs.Trees.{Tree, text}
use Rattle.st_grammar.specs.Grammar.{Fits, level}
use Rattle.st_el.specs.declared.expression.Exp.{Exp}
use Rattle.st_el.specs.Plain.{plain_exp}
use Rattle.st_parse_builder.specs.Meaning.{meaning, is_atom, opened}
use Rattle.st_parse_law.specs.Written.{Piece, bytes_of, shape, shapes_behind, AreApart}
use Rattle.st_parse_law.proofs.Cuts.{touch}
use Rattle.st_parse_law.proofs.Ends.{Clear, clear_more, Front}
use Rattle.st_grammar.specs.Definitions.{is_bar}

-- what may stand round a part: how tightly it holds together, whether a dot or a `+` may touch it,
-- and whether it begins with no bar
pub record Traits : Type 0 where
  pub level : ℕ
  pub dots : Bool
  pub plus : Bool
  pub no_bar : Bool

-- this holds with at most what that may have round it
pub record Within (less more : Traits) : Type 0 where
  pub level : less.level ≤ more.level
  pub dots : less.dots ≡ true → more.dots ≡ true
  pub plus : less.plus ≡ true → more.plus ≡ true
  pub no_bar : less.no_bar ≡ true → more.no_bar ≡ true

abbrev pub starts_bar : List Terminal → Bool
starts_bar [] = false
starts_bar (l ∷ w) = is_bar l

abbrev pub is_arithmetic : Sort → Bool
is_arithmetic arithmetic = true
is_arithmetic σ = false

-- the tokens are those of a tree that means this expression, layout and parentheses aside
pub record Read (names : List (List ℕ)) (σ : Sort) (e : Exp) (traits : Traits) (xs : List Token) : Type 0 where
  pub tree : Tree
  pub spelled : map (terminal names) xs ≡ text tree
  pub fits : Fits σ tree
  pub plain : plain_exp (meaning tree) ≡ plain_exp e
  pub level : traits.level ≤ level tree
  pub dots : traits.dots ≡ true → is_atom (opened (meaning tree)) ≡ false
  pub no_bar : traits.no_bar ≡ true → starts_bar (text tree) ≡ false

-- the bytes are pieces that end where others begin, and are read back
pub record Part (names : List (List ℕ)) (σ : Sort) (e : Exp) (traits : Traits) (bytes : List ℕ) : Type 0 where
  pub pieces : List Piece
  pub same : bytes_of pieces ≡ bytes
  pub ends : (b : Bool) → touch b pieces ≡ true
  pub front : Front (is_arithmetic σ) bytes
  pub apart : (more : List Piece) → Clear traits.plus (bytes_of more) → AreApart more → AreApart (pieces ++ more)
  pub reads : (b : Bool) (xs : List Token) → map shape xs ≡ shapes_behind b pieces → Read names σ e traits xs

pub weaker :
    (names : List (List ℕ)) (σ : Sort) (e : Exp) (less more : Traits) (bytes : List ℕ)
    → Within less more → Part names σ e more bytes → Part names σ e less bytes
weaker names σ e less more bytes w p = record {
  pieces = p.pieces;
  same = p.same;
  ends = p.ends;
  front = p.front;
  apart = λ behind c. p.apart behind (clear_more less.plus more.plus (bytes_of behind) w.plus c);
  reads = λ b xs s. let r = p.reads b xs s in record {
    tree = r.tree;
    spelled = r.spelled;
    fits = r.fits;
    plain = r.plain;
    level = omega (arith, w.level, r.level);
    dots = λ h. r.dots (w.dots h);
    no_bar = λ h. r.no_bar (w.no_bar h);
  };
}

-- another text, expression and traits that are the same
pub part_as :
    (names : List (List ℕ)) (σ : Sort) (e f : Exp) (traits : Traits) (bytes text : List ℕ)
    → plain_exp e ≡ plain_exp f → bytes ≡ text → Part names σ e traits bytes → Part names σ f traits text
part_as names σ e f traits bytes text q t p = record {
  pieces = p.pieces;
  same = p.same ∙ t;
  ends = p.ends;
  front = subst (Front (is_arithmetic σ)) t p.front;
  apart = p.apart;
  reads = λ b xs s. let r = p.reads b xs s in record {
    tree = r.tree;
    spelled = r.spelled;
    fits = r.fits;
    plain = r.plain ∙ q;
    level = r.level;
    dots = r.dots;
    no_bar = r.no_bar;
  };
}
