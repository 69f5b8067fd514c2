-- What stands behind an operand.
use Rattle.std.proofs.Common.{◌≡◌, ℕ, ◌≤◌, List, [], ◌∷◌, ◌++◌, map, Bool, true, false, sym, ap, ◌∙◌, subst, append_assoc}
use Rattle.st_num.specs.declared.token.Token.{Token}
use Rattle.st_grammar.specs.declared.sort.Sort.{Sort}
use Rattle.st_grammar.specs.Terminals.{Terminal, terminal}
use Rattle.st_grammar.specs.Trees.{Tree, text}
use Rattle.st_grammar.specs.Grammar.{Fits, level}
use Rattle.st_grammar.proofs.Complete.{starts_text, begins_tree}
use Rattle.st_el.specs.declared.expression.Exp.{Exp}
use Rattle.st_el.specs.Plain.{plain_exp}
use Rattle.st_parse_builder.specs.Meaning.{meaning, is_atom, opened}
use Rattle.st_parse_law.specs.Written.{Piece, bytes_of, shape, shapes_behind, AreApart}
use Rattle.st_parse_law.proofs.Cuts.{touch, touch-append, bytes-append, parted, terminals_of_both}
use Rattle.st_parse_law.proofs.Ends.{Clear, front_more}
use Rattle.st_parse_law.proofs.Parts.{Traits, Part, Read, is_arithmetic, starts_bar}

-- a tree with these tokens behind it, which means this expression
pub record Longer (names : List (List ℕ)) (σ : Sort) (f : Exp) (traits : Traits) (t : Tree) (xs : List Token) : Type 0 where
  pub tree : Tree
  pub words : List Terminal
  pub spelled : map (terminal names) xs ≡ words
  pub whole : text tree ≡ text t ++ words
  pub fits : Fits σ tree
  pub plain : plain_exp (meaning tree) ≡ plain_exp f
  pub level : traits.level ≤ level tree
  pub dots : traits.dots ≡ true → is_atom (opened (meaning tree)) ≡ false

-- what makes of a part that means the first expression one that means the second
pub record Suffix (names : List (List ℕ)) (σ : Sort) (e f : Exp) (inner traits : Traits) (bytes : List ℕ) : Type 0 where
  pub pieces : List Piece
  pub same : bytes_of pieces ≡ bytes
  pub ends : touch true pieces ≡ true
  pub clear : (more : List ℕ) → Clear inner.plus (bytes ++ more)
  pub no_bar : traits.no_bar ≡ true → inner.no_bar ≡ true
  pub apart : (more : List Piece) → Clear traits.plus (bytes_of more) → AreApart more → AreApart (pieces ++ more)
  pub reads : (ys xs : List Token) → map shape xs ≡ shapes_behind true pieces → (r : Read names σ e inner ys)
      → Longer names σ f traits r.tree xs

pub starts_bar_append : (us vs : List Terminal) → starts_text us ≡ true → starts_bar us ≡ false → starts_bar (us ++ vs) ≡ false
starts_bar_append [] vs s b = absurd (cc)
starts_bar_append (l ∷ us) vs s b = b

module _ (names : List (List ℕ)) (σ : Sort) (e f : Exp) (inner traits : Traits) (bytes behind : List ℕ) where
  suffixed_apart : (part : Part names σ e inner bytes) (s : Suffix names σ e f inner traits behind) (more : List Piece)
      → Clear traits.plus (bytes_of more) → AreApart more → AreApart ((part.pieces ++ s.pieces) ++ more)
  suffixed_apart part s more c a =
      let same : bytes_of (s.pieces ++ more) ≡ behind ++ bytes_of more = bytes-append s.pieces more ∙ ap (λ w. w ++ bytes_of more) s.same in
      let all : AreApart (part.pieces ++ (s.pieces ++ more)) =
      part.apart (s.pieces ++ more) (subst (Clear inner.plus) (sym same) (s.clear (bytes_of more))) (s.apart more c a) in
      subst AreApart (sym (append_assoc part.pieces s.pieces more)) all

  suffixed_read : (part : Part names σ e inner bytes) (s : Suffix names σ e f inner traits behind) (b : Bool) (xs : List Token)
      → map shape xs ≡ shapes_behind b (part.pieces ++ s.pieces) → Read names σ f traits xs
  suffixed_read part s b xs h =
      let both = parted b part.pieces s.pieces xs h in
      let r = part.reads b both.ahead both.fronts in
      let l = s.reads both.ahead both.behind (both.backs ∙ ap (λ t. shapes_behind t s.pieces) (part.ends b)) r in
      record {
        tree = l.tree;
        spelled = terminals_of_both names xs both.ahead both.behind (text r.tree) l.words both.whole r.spelled l.spelled ∙ sym l.whole;
        fits = l.fits;
        plain = l.plain;
        level = l.level;
        dots = l.dots;
        no_bar = λ n. ap starts_bar l.whole ∙ starts_bar_append (text r.tree) l.words (begins_tree r.tree σ r.fits) (r.no_bar (s.no_bar n));
      }

  pub suffixed : Part names σ e inner bytes → Suffix names σ e f inner traits behind → Part names σ f traits (bytes ++ behind)
  suffixed part s = record {
    pieces = part.pieces ++ s.pieces;
    same = bytes-append part.pieces s.pieces ∙ ap (λ w. w ++ bytes_of s.pieces) part.same ∙ ap (λ w. bytes ++ w) s.same;
    ends = λ b. touch-append b part.pieces s.pieces ∙ ap (λ t. touch t s.pieces) (part.ends b) ∙ s.ends;
    front = front_more (is_arithmetic σ) bytes behind part.front;
    apart = suffixed_apart part s;
    reads = suffixed_read part s;
  }
