-- Counts of iterations.
use Rattle.std.proofs.Common.{◌≡◌, ℕ, List, [], ◌∷◌, ◌++◌, map, codes, Bool, true, false, refl, sym, ap, ◌∙◌, subst, arith}
use Rattle.std.specs.Prelude.{if◌then◌else◌}
use Rattle.std.proofs.lemmas.List.{append-nil}
use Rattle.st_num.specs.declared.span.Span.{Span}
use Rattle.st_num.specs.declared.mark.Mark.TheVariants as mark
use Rattle.std.specs.Fmt.{decimal}
use Rattle.st_num.specs.Words.{word_spelling}
use Rattle.st_num.specs.declared.word.Word.{Word}
use Rattle.st_num.specs.declared.word.Word.TheVariants as word
use Rattle.st_num.specs.declared.token.Token.{Token}
use Rattle.st_num.specs.declared.token.TokenKind.{TokenKind}
use Rattle.st_num.specs.declared.token.TokenKind.TheVariants as kind
use Rattle.st_grammar.specs.declared.sort.Sort.{Sort}
use Rattle.st_grammar.specs.declared.sort.Sort.TheVariants.{Expression as expression, Arithmetic as arithmetic, Count as count_sort, Bound as bound}
use Rattle.st_grammar.specs.declared.sort.Leaf.{Leaf}
use Rattle.st_grammar.specs.declared.sort.Leaf.TheVariants.{Low as low, Basic as basic, Variable as variable, Atom as atom, Number as number, Literal as literal, Function as function}
use Rattle.st_grammar.specs.declared.sort.Bracket.TheVariants.{Dollar as dollar}
use Rattle.st_grammar.specs.Levels.{takes, encloses}
use Rattle.st_grammar.specs.Terminals.{leaf, dot, sign, opening, closing, other, terminal}
use Rattle.st_grammar.specs.Trees.{Tree, operand, post, times, bracket, led, left, ahead, items, plain, length, arguments, index, segment, update, below, Path, head, field, part, text}
use Rattle.st_grammar.specs.Grammar.{Fits, PathFits}
use Rattle.st_el.specs.declared.expression.Exp.{Exp}
use Rattle.st_el.specs.declared.expression.Node.{Node, roll-Node}
use Rattle.st_el.specs.declared.expression.Node.TheVariants as node
use Rattle.st_el.specs.declared.expression.Count.{Count, roll-Count}
use Rattle.st_el.specs.declared.expression.Count.TheOpen.{Node-F, Count-F}
use Rattle.st_el.specs.declared.expression.Count.TheVariants as count
use Rattle.st_el.specs.declared.context.Around.{Around}
use Rattle.st_el.specs.declared.context.Around.TheVariants.{Brackets, Bars, Arithmetic, Caret}
use Rattle.st_el.specs.declared.context.Behind.TheVariants.{Other}
use Rattle.st_el.specs.declared.context.Wrapping.TheVariants.{Bare, Dollar}
use Rattle.st_el.specs.Contexts.{whole, operand_before, count as count_place}
use Rattle.st_el.specs.Wrappings.{Level, is_count}
use Rattle.st_el.specs.SourceText.{printed, printed_mark, front, postfix, wrapped, text_at, parts_printed, opened as printed_parts}
use Rattle.st_el.specs.Plain.{plain_exp, plain_count}
use Rattle.st_parse_builder.specs.Names.{leaf_node}
use Rattle.st_parse_builder.specs.Meaning.{exp, place, meaning, count_of}
use Rattle.st_parse_law.specs.Written.{Piece, bytes_of, shape, shapes_behind, AreApart}
use Rattle.st_parse_law.proofs.Cuts.{touch, bytes-append, single, cut, one_terminal, terminals_of_both}
use Rattle.st_parse_law.proofs.Ends.{Clear, Front, front_more, before, caret, first_caret, first_ends}
use Rattle.st_parse_law.proofs.Plains.{printed-of, node-of, mark-of, plain-count}
use Rattle.st_parse_law.proofs.Parts.{Traits, Part, part_as, weaker}
use Rattle.st_parse_law.proofs.Wraps.{signed, no_atom_at, framed, dollar_frame, arith-plain, tight_traits}
use Rattle.st_parse_law.proofs.Placed.{Home, sort_of, bare_traits, place_traits, Printable, printable, placed}
use Rattle.st_parse_law.proofs.Suffixes.{Suffix}
use Rattle.st_parse_law.proofs.Leaves.{IsLeaf, a_low, a_variable, an_atom, a_bool, a_nat, an_int, a_text_type, a_true, a_false, an_eps, a_number, a_text, a_function, IsWritten, canonical, leaf_word, leaf_part}
use Rattle.st_parse_law.proofs.Posts.{same_plain, operand_then}

-- ---- a count is a number, a variable or `$( )`, or such a bound behind an index

no_path : (p : Path) → PathFits bound p → ⊥
no_path (head t o) f = let no : ◌≡◌ {A = Bool} false true = f.0 in cc
no_path (field p x) f = no_path p f
no_path (part p o ts c) f = no_path p f.0

-- a bound is a count of its own
pub bound_fits : (t : Tree) → Fits bound t → Fits count_sort t
bound_fits (operand low x) f = refl
bound_fits (operand basic x) f = refl
bound_fits (operand variable x) f = refl
bound_fits (operand number x) f = refl
bound_fits (operand atom x) f = f
bound_fits (operand literal x) f = f
bound_fits (operand function x) f = f
bound_fits (post t (leaf k x)) f = absurd (let no : ◌≡◌ {A = Bool} false true = f.0 in cc)
bound_fits (post t (dot x)) f = absurd (let no : ◌≡◌ {A = Bool} false true = f.0 in cc)
bound_fits (post t (sign m x)) f = absurd (let no : ◌≡◌ {A = Bool} false true = f.0 in cc)
bound_fits (post t (opening k x)) f = absurd (let no : ◌≡◌ {A = Bool} false true = f.0 in cc)
bound_fits (post t (closing k x)) f = absurd (let no : ◌≡◌ {A = Bool} false true = f.0 in cc)
bound_fits (post t (other x)) f = absurd (let no : ◌≡◌ {A = Bool} false true = f.0 in cc)
bound_fits (times t m x c) f = absurd (let no : ◌≡◌ {A = Bool} false true = f.1 in cc)
bound_fits (bracket (plain dollar o) ts c) f = f
bound_fits (bracket (plain k o) ts c) f = absurd (let no : ◌≡◌ {A = Bool} false true = f.1 in cc)
bound_fits (bracket (length o) ts c) f = absurd (let no : ◌≡◌ {A = Bool} false true = f.1 in cc)
bound_fits (bracket (arguments g o) ts c) f = absurd (let no : ◌≡◌ {A = Bool} false true = f.1.0 in cc)
bound_fits (bracket (index t o) ts c) f = absurd (let no : ◌≡◌ {A = Bool} false true = f.1.0 in cc)
bound_fits (bracket (segment p o) ts c) f = absurd (let no : ◌≡◌ {A = Bool} false true = f.0 in cc)
bound_fits (bracket (update p m x) ts c) f = absurd (no_path p f.1.0)
bound_fits (bracket (below o i m x) ts c) f = absurd (let no : ◌≡◌ {A = Bool} false true = f.1.0 in cc)
bound_fits (led (left l m x) t) f = absurd (let no : ◌≡◌ {A = Bool} false true = f.0.0 in cc)
bound_fits (led (ahead m x) t) f = absurd (let no : ◌≡◌ {A = Bool} false true = f.0 in cc)
bound_fits (led (items ts) t) f = absurd (let no : ◌≡◌ {A = Bool} false true = f.0.0 in cc)

pub bound_counts : (t : Tree) (e : Exp) → Fits bound t → count_of t e ≡ count.Times e
bound_counts (bracket (below o i m x) ts c) e f = absurd (let no : ◌≡◌ {A = Bool} false true = f.1.0 in cc)
bound_counts (bracket (plain k o) ts c) e f = refl
bound_counts (bracket (length o) ts c) e f = refl
bound_counts (bracket (arguments g o) ts c) e f = refl
bound_counts (bracket (index t o) ts c) e f = refl
bound_counts (bracket (segment p o) ts c) e f = refl
bound_counts (bracket (update p m x) ts c) e f = refl
bound_counts (operand k x) e f = refl
bound_counts (post t l) e f = refl
bound_counts (times t m x c) e f = refl
bound_counts (led g t) e f = refl

-- ---- bounds

-- what may stand round a count
abbrev pub count_traits : Traits
count_traits = record { level = 1; dots = false; plus = true; no_bar = false }

-- a bound that is read back
abbrev pub BoundPart : List (List ℕ) → Exp → Type 0
BoundPart names e = Part names bound e count_traits ((printed e).at count_place)

at_count : (at : Span) (n : Node) (l : Level) → printed_parts n ≡ l → is_count l ≡ true → (printed (exp at n)).at count_place ≡ front Caret l ++ postfix l
at_count at n l e c =
    ap (λ y. y.at count_place) (printed-of (exp at n)) ∙ ap (λ m. text_at (printed_parts m) count_place) (node-of at n)
    ∙ ap (λ k. text_at k count_place) e ∙ ap (λ t. wrapped (if t then Bare else Dollar) Caret l) c ∙ append-nil (front Caret l ++ postfix l)

word_text : (at : Span) (w : Word) → (printed (exp at (node.Name (word_spelling w)))).at count_place ≡ word_spelling w
word_text at w = at_count at (node.Name (word_spelling w)) (Node-F.Name (word_spelling w)) (ap parts_printed (node.outs-Name (word_spelling w))) refl ∙ append-nil (word_spelling w)

leaf_text : (names : List (List ℕ)) (at : Span) (k : Leaf) (kd : TokenKind) → IsLeaf names k kd → takes bound k ≡ true
    → (printed (exp at (leaf_node k kd))).at count_place ≡ canonical kd
leaf_text names at _ _ (a_low n) t = at_count at (node.Name n) (Node-F.Name n) (ap parts_printed (node.outs-Name n)) refl ∙ append-nil n
leaf_text names at _ _ (a_variable n v) t = at_count at (node.Name n) (Node-F.Name n) (ap parts_printed (node.outs-Name n)) refl ∙ append-nil n
leaf_text names at _ _ (an_atom n v) t = absurd (cc)
leaf_text names at _ _ a_bool t = word_text at word.Bool
leaf_text names at _ _ a_nat t = word_text at word.Nat
leaf_text names at _ _ an_int t = word_text at word.Int
leaf_text names at _ _ a_text_type t = word_text at word.Text
leaf_text names at _ _ a_true t = absurd (cc)
leaf_text names at _ _ a_false t = absurd (cc)
leaf_text names at _ _ an_eps t = absurd (cc)
leaf_text names at _ _ (a_number n) t = at_count at (node.Number n) (Node-F.Number n) (ap parts_printed (node.outs-Number n)) refl ∙ append-nil (decimal n)
leaf_text names at _ _ (a_text b) t = absurd (cc)
leaf_text names at _ _ (a_function n) t = absurd (cc)

pub leaf_bound :
    (names : List (List ℕ)) (at : Span) (k : Leaf) (kd : TokenKind) → IsLeaf names k kd → IsWritten kd → takes bound k ≡ true
    → BoundPart names (exp at (leaf_node k kd))
leaf_bound names at k kd is w t =
    part_as names bound (exp at (leaf_node k kd)) (exp at (leaf_node k kd)) count_traits (canonical kd) _ refl (sym (leaf_text names at k kd is t))
    (leaf_part names bound at k kd count_traits (canonical kd) (leaf_word names k kd is w) t (omega arith) (λ h. absurd (cc)))

-- arithmetic in its brackets, in any sort of place that has it
pub arith_part :
    (names : List (List ℕ)) (σ : Sort) (at : Span) (e : Exp) → encloses σ dollar ≡ true → Printable names arithmetic e
    → Part names σ (exp at (node.Arith e)) (tight_traits true) (codes "$(" ++ (printed e).at (whole Arithmetic) ++ codes ")")
arith_part names σ at e h x =
    part_as names σ e (exp at (node.Arith e)) (tight_traits true) _ (codes "$(" ++ (printed e).at (whole Arithmetic) ++ codes ")") (sym (arith-plain at e)) refl
    (framed names mark.OpenArith mark.CloseParen σ arithmetic true e e (dollar_frame names σ e h) (place_traits (whole Arithmetic) (printed e)) ((printed e).at (whole Arithmetic))
    (placed names arithmetic e (whole Arithmetic) tt (omega arith) x) (omega arith))

pub arith_bound : (names : List (List ℕ)) (at : Span) (e : Exp) → Printable names arithmetic e → BoundPart names (exp at (node.Arith e))
arith_bound names at e x =
    part_as names bound (exp at (node.Arith e)) (exp at (node.Arith e)) count_traits (codes "$(" ++ (printed e).at (whole Arithmetic) ++ codes ")") _ refl
    (sym (at_count at (node.Arith e) (Node-F.Arith (printed e)) (ap parts_printed (node.outs-Arith e)) refl ∙ append-nil (codes "$(" ++ (printed e).at (whole Arithmetic) ++ codes ")")))
    (weaker names bound (exp at (node.Arith e)) count_traits (tight_traits true) (codes "$(" ++ (printed e).at (whole Arithmetic) ++ codes ")")
    (record { level = omega arith; dots = λ _. refl; plus = λ h. h; no_bar = λ _. refl }) (arith_part names bound at e refl x))

pub arith_printed : (names : List (List ℕ)) (b : Bool) (at : Span) (e : Exp) → Printable names arithmetic e → Printable names (expression b) (exp at (node.Arith e))
arith_printed names b at e x =
    printable names (expression b) at (node.Arith e) (Node-F.Arith (printed e)) (ap parts_printed (node.outs-Arith e)) (omega arith) refl (λ a home.
    part_as names (sort_of a) (exp at (node.Arith e)) (exp at (node.Arith e)) (tight_traits true) (codes "$(" ++ (printed e).at (whole Arithmetic) ++ codes ")") _ refl
    (sym (append-nil (codes "$(" ++ (printed e).at (whole Arithmetic) ++ codes ")"))) (arith_part names (sort_of a) at e (dollars b a home) x))
  where
    dollars : (b : Bool) (a : Around) → Home (expression b) a → encloses (sort_of a) dollar ≡ true
    dollars b Brackets h = refl
    dollars b Bars h = refl
    dollars b Arithmetic h = refl
    dollars b Caret h = refl

-- ---- counts

-- the tokens are those of a count that means this one
pub record CountRead (names : List (List ℕ)) (i : Count) (xs : List Token) : Type 0 where
  pub tree : Tree
  pub spelled : map (terminal names) xs ≡ text tree
  pub fits : Fits count_sort tree
  pub plain : plain_count (count_of tree (meaning tree)) ≡ plain_count i

-- the bytes behind `^` are pieces that are read back as this count
pub record CountPart (names : List (List ℕ)) (i : Count) : Type 0 where
  pub bytes : List ℕ
  pub marked : printed_mark i ≡ record { behind = Other; text = codes "^" ++ bytes }
  pub pieces : List Piece
  pub same : bytes_of pieces ≡ bytes
  pub ends : (b : Bool) → touch b pieces ≡ true
  pub front : Front true bytes
  pub apart : (more : List Piece) → Clear true (bytes_of more) → AreApart more → AreApart (pieces ++ more)
  pub reads : (b : Bool) (xs : List Token) → map shape xs ≡ shapes_behind b pieces → CountRead names i xs

times_plain : (e f : Exp) → plain_exp e ≡ plain_exp f → plain_count (count.Times e) ≡ plain_count (count.Times f)
times_plain e f h =
    plain-count (count.Times e) (Count-F.Times e) (count.outs-Times e) ∙ ap (λ p. roll-Count (Count-F.Times p)) h
    ∙ sym (plain-count (count.Times f) (Count-F.Times f) (count.outs-Times f))

-- a bound is a count
pub times_count : (names : List (List ℕ)) (e : Exp) → BoundPart names e → CountPart names (count.Times e)
times_count names e p = record {
  bytes = (printed e).at count_place;
  marked = mark-of (count.Times e) (Count-F.Times e) (count.outs-Times e);
  pieces = p.pieces;
  same = p.same;
  ends = p.ends;
  front = record { first = p.front.first; rest = p.front.rest; is = p.front.is; no_semicolon = p.front.no_semicolon; no_minus = λ h. absurd (cc) };
  apart = p.apart;
  reads = λ b xs s. let r = p.reads b xs s in record {
    tree = r.tree;
    spelled = r.spelled;
    fits = bound_fits r.tree r.fits;
    plain = ap plain_count (bound_counts r.tree (meaning r.tree) r.fits) ∙ times_plain (meaning r.tree) e r.plain;
  };
}

count_suffix :
    (names : List (List ℕ)) (b : Bool) (a : Around) (e : Exp) (at : Span) (i : Count) → sort_of a ≡ expression b → (c : CountPart names i)
    → Suffix names (expression b) e (exp at (node.Iter e i)) (place_traits (operand_before a Other) (printed e))
    (bare_traits (Node-F.Iter (printed e) (record { behind = Other; text = codes "^" ++ c.bytes }))) (codes "^" ++ c.bytes)
count_suffix names b a e at i home c = record {
  pieces = signed mark.Caret ∷ c.pieces;
  same = ap (λ w. 94 ∷ w) c.same;
  ends = c.ends true;
  clear = λ more. before caret (c.bytes ++ more) refl;
  no_bar = λ n. n;
  apart = λ more l w. (refl, tt, first_ends mark.Caret true (bytes_of (c.pieces ++ more)) (first_caret true) (subst (Front true) (sym (bytes-append c.pieces more ∙ ap (λ w. w ++ bytes_of more) c.same)) (front_more true c.bytes (bytes_of more) c.front)), c.apart more l w);
  reads = λ ys xs s r.
      let one = cut xs ((kind.Sign mark.Caret, true) ∷ []) (shapes_behind true c.pieces) s in
      let x = single one.ahead (kind.Sign mark.Caret) true one.fronts in
      let n = c.reads true one.behind one.backs in
      record {
        tree = times r.tree mark.Caret x.only n.tree;
        words = sign mark.Caret x.only ∷ text n.tree;
        spelled = terminals_of_both names xs one.ahead one.behind (sign mark.Caret x.only ∷ []) (text n.tree) one.whole (one_terminal names one.ahead (kind.Sign mark.Caret) true x) n.spelled;
        whole = refl;
        fits = (refl, refl, r.fits, r.level, n.fits);
        plain = same_plain (place (meaning r.tree)) at (node.Iter (meaning r.tree) (count_of n.tree (meaning n.tree))) (node.Iter e i)
            (Node-F.Iter (meaning r.tree) (count_of n.tree (meaning n.tree))) (Node-F.Iter e i)
            (node.outs-Iter (meaning r.tree) (count_of n.tree (meaning n.tree))) (node.outs-Iter e i)
            (ap (λ p. roll-Node (Node-F.Iter p (plain_count (count_of n.tree (meaning n.tree))))) r.plain ∙ ap (λ j. roll-Node (Node-F.Iter (plain_exp e) j)) n.plain);
        level = omega arith;
        dots = λ _. no_atom_at (place (meaning r.tree)) (node.Iter (meaning r.tree) (count_of n.tree (meaning n.tree))) (Node-F.Iter (meaning r.tree) (count_of n.tree (meaning n.tree)))
            (node.outs-Iter (meaning r.tree) (count_of n.tree (meaning n.tree))) refl;
      };
}

count_behind :
    (names : List (List ℕ)) (b : Bool) (a : Around) (e : Exp) (at : Span) (i : Count) → Home (expression b) a → (c : CountPart names i)
    → Suffix names (sort_of a) e (exp at (node.Iter e i)) (place_traits (operand_before a Other) (printed e))
    (bare_traits (Node-F.Iter (printed e) (record { behind = Other; text = codes "^" ++ c.bytes }))) (codes "^" ++ c.bytes)
count_behind names b Brackets e at i home c = count_suffix names false Brackets e at i refl c
count_behind names b Bars e at i home c = count_suffix names true Bars e at i refl c
count_behind names b Arithmetic e at i home c = absurd home
count_behind names b Caret e at i home c = absurd home

-- an iteration with a count
pub count_printed : (names : List (List ℕ)) (b : Bool) (e : Exp) (at : Span) (i : Count) → CountPart names i → Printable names (expression b) e → Printable names (expression b) (exp at (node.Iter e i))
count_printed names b e at i c x =
    operand_then names (expression b) e at (node.Iter e i) (Node-F.Iter (printed e) (record { behind = Other; text = codes "^" ++ c.bytes })) Other
    (ap parts_printed (node.outs-Iter e i) ∙ ap (λ m. Node-F.Iter (printed e) m) c.marked) refl refl (λ a. refl) x
    (λ a home. count_behind names b a e at i home c)

-- the same in arithmetic
pub arith_group : (names : List (List ℕ)) (at : Span) (e : Exp) → Printable names arithmetic e → Printable names arithmetic (exp at (node.Arith e))
arith_group names at e x =
    printable names arithmetic at (node.Arith e) (Node-F.Arith (printed e)) (ap parts_printed (node.outs-Arith e)) (omega arith) tt (λ a home.
    part_as names (sort_of a) (exp at (node.Arith e)) (exp at (node.Arith e)) (tight_traits true) (codes "$(" ++ (printed e).at (whole Arithmetic) ++ codes ")") _ refl
    (sym (append-nil (codes "$(" ++ (printed e).at (whole Arithmetic) ++ codes ")"))) (arith_part names (sort_of a) at e (dollars a home) x))
  where
    dollars : (a : Around) → Home arithmetic a → encloses (sort_of a) dollar ≡ true
    dollars Arithmetic h = refl
    dollars Brackets h = absurd h
    dollars Bars h = absurd h
    dollars Caret h = absurd h
