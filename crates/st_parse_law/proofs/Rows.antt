-- Parts one behind the other, and what sets each off from those before it.
use Rattle.std.proofs.Common.{◌≡◌, ℕ, List, [], ◌++◌, map, Bool, true, false, sym, ap, ◌∙◌, subst, append_assoc}
use Rattle.st_num.specs.declared.token.Token.{Token}
use Rattle.st_grammar.specs.declared.sort.Sort.{Sort}
use Rattle.st_grammar.specs.Terminals.{Terminal, terminal}
use Rattle.st_grammar.specs.Trees.{Trees, none, more, text, texts}
use Rattle.st_el.specs.declared.expression.Exp.{Exp}
use Rattle.st_parse_law.specs.Written.{Piece, bytes_of, shape, shapes_behind, AreApart}
use Rattle.st_parse_law.proofs.Cuts.{touch, touch-append, bytes-append, parted, terminals_of_both}
use Rattle.st_parse_law.proofs.Ends.{Clear, Front, front_more}
use Rattle.st_parse_law.proofs.Parts.{Traits, Part, Read, is_arithmetic}

-- the tokens are those of trees of which this holds
pub record RowRead (names : List (List ℕ)) (P : Trees → Type 0) (xs : List Token) : Type 0 where
  pub trees : Trees
  pub spelled : map (terminal names) xs ≡ texts trees
  pub holds : P trees

-- The bytes are pieces that are read back as such trees. It says whether they may begin with `-`,
-- and whether a `+` may stand behind them.
pub record Row (names : List (List ℕ)) (P : Trees → Type 0) (arithmetic plus : Bool) (bytes : List ℕ) : Type 0 where
  pub pieces : List Piece
  pub same : bytes_of pieces ≡ bytes
  pub ends : (b : Bool) → touch b pieces ≡ true
  pub front : Front arithmetic bytes
  pub apart : (more : List Piece) → Clear plus (bytes_of more) → AreApart more → AreApart (pieces ++ more)
  pub reads : (b : Bool) (xs : List Token) → map shape xs ≡ shapes_behind b pieces → RowRead names P xs

pub row_as : (names : List (List ℕ)) (P : Trees → Type 0) (a p : Bool) (bytes text : List ℕ) → bytes ≡ text → Row names P a p bytes → Row names P a p text
row_as names P a p bytes text e r = subst (Row names P a p) e r

-- the tokens that set off a part, of which this holds
pub record JointRead (names : List (List ℕ)) (W : List Terminal → Type 0) (xs : List Token) : Type 0 where
  pub words : List Terminal
  pub spelled : map (terminal names) xs ≡ words
  pub holds : W words

-- Pieces that end with a blank set off a part that may begin with `-` or not, from one that a `+`
-- may follow or not.
pub record Joint (names : List (List ℕ)) (W : List Terminal → Type 0) (arithmetic plus : Bool) (bytes : List ℕ) : Type 0 where
  pub pieces : List Piece
  pub same : bytes_of pieces ≡ bytes
  pub after : (b : Bool) → touch b pieces ≡ false
  pub clear : (more : List ℕ) → Clear plus (bytes ++ more)
  pub apart : (more : List Piece) → Front arithmetic (bytes_of more) → AreApart more → AreApart (pieces ++ more)
  pub reads : (xs : List Token) → map shape xs ≡ shapes_behind true pieces → JointRead names W xs

-- one part alone
pub row_one :
    (names : List (List ℕ)) (P : Trees → Type 0) (σ : Sort) (e : Exp) (traits : Traits) (bytes : List ℕ)
    → ((xs : List Token) (r : Read names σ e traits xs) → P (more none [] r.tree))
    → Part names σ e traits bytes → Row names P (is_arithmetic σ) traits.plus bytes
row_one names P σ e traits bytes holds p = record {
  pieces = p.pieces;
  same = p.same;
  ends = p.ends;
  front = p.front;
  apart = p.apart;
  reads = λ b xs s. let r = p.reads b xs s in record { trees = more none [] r.tree; spelled = r.spelled; holds = holds xs r };
}

-- a part behind others
module _ (names : List (List ℕ)) (P Q : Trees → Type 0) (W : List Terminal → Type 0) (σ : Sort) (e : Exp) (traits : Traits) (a plus : Bool) (rb jb pb : List ℕ)
    (row : Row names P a plus rb) (joint : Joint names W (is_arithmetic σ) plus jb) (part : Part names σ e traits pb)
    (holds : (ts : Trees) (w : List Terminal) (xs : List Token) → P ts → W w → map shape xs ≡ shapes_behind false part.pieces → (r : Read names σ e traits xs) → Q (more ts w r.tree)) where
  then_apart : (behind : List Piece) → Clear traits.plus (bytes_of behind) → AreApart behind → AreApart ((row.pieces ++ (joint.pieces ++ part.pieces)) ++ behind)
  then_apart behind c h =
      let last : AreApart (part.pieces ++ behind) = part.apart behind c h in
      let front : Front (is_arithmetic σ) (bytes_of (part.pieces ++ behind)) =
      subst (Front (is_arithmetic σ)) (sym (bytes-append part.pieces behind ∙ ap (λ w. w ++ bytes_of behind) part.same)) (front_more (is_arithmetic σ) pb (bytes_of behind) part.front) in
      let middle : AreApart (joint.pieces ++ (part.pieces ++ behind)) = joint.apart (part.pieces ++ behind) front last in
      let clear : Clear plus (bytes_of (joint.pieces ++ (part.pieces ++ behind))) =
      subst (Clear plus) (sym (bytes-append joint.pieces (part.pieces ++ behind) ∙ ap (λ w. w ++ bytes_of (part.pieces ++ behind)) joint.same)) (joint.clear (bytes_of (part.pieces ++ behind))) in
      let whole : AreApart (row.pieces ++ (joint.pieces ++ (part.pieces ++ behind))) = row.apart (joint.pieces ++ (part.pieces ++ behind)) clear middle in
      subst AreApart (sym (append_assoc row.pieces (joint.pieces ++ part.pieces) behind ∙ ap (λ w. row.pieces ++ w) (append_assoc joint.pieces part.pieces behind))) whole

  then_read : (b : Bool) (xs : List Token) → map shape xs ≡ shapes_behind b (row.pieces ++ (joint.pieces ++ part.pieces)) → RowRead names Q xs
  then_read b xs s =
      let one = parted b row.pieces (joint.pieces ++ part.pieces) xs s in
      let two = parted true joint.pieces part.pieces one.behind (one.backs ∙ ap (λ t. shapes_behind t (joint.pieces ++ part.pieces)) (row.ends b)) in
      let first = row.reads b one.ahead one.fronts in
      let joined = joint.reads two.ahead two.fronts in
      let last_shapes : map shape two.behind ≡ shapes_behind false part.pieces = two.backs ∙ ap (λ t. shapes_behind t part.pieces) (joint.after true) in
      let last = part.reads false two.behind last_shapes in
      record {
        trees = more first.trees joined.words last.tree;
        spelled = terminals_of_both names xs one.ahead one.behind (texts first.trees) (joined.words ++ text last.tree) one.whole first.spelled
            (terminals_of_both names one.behind two.ahead two.behind joined.words (text last.tree) two.whole joined.spelled last.spelled);
        holds = holds first.trees joined.words two.behind first.holds joined.holds last_shapes last;
      }

  pub row_then : Row names Q a traits.plus (rb ++ (jb ++ pb))
  row_then = record {
    pieces = row.pieces ++ (joint.pieces ++ part.pieces);
    same = bytes-append row.pieces (joint.pieces ++ part.pieces) ∙ ap (λ w. w ++ bytes_of (joint.pieces ++ part.pieces)) row.same
        ∙ ap (λ w. rb ++ w) (bytes-append joint.pieces part.pieces ∙ ap (λ w. w ++ bytes_of part.pieces) joint.same ∙ ap (λ w. jb ++ w) part.same);
    ends = λ b. touch-append b row.pieces (joint.pieces ++ part.pieces) ∙ touch-append (touch b row.pieces) joint.pieces part.pieces ∙ part.ends (touch (touch b row.pieces) joint.pieces);
    front = front_more a rb (jb ++ pb) row.front;
    apart = then_apart;
    reads = then_read;
  }
