-- The expression of a count is read back wherever an expression may stand.
use Rattle.std.proofs.Common.{◌≡◌, ℕ, List, [], ◌∷◌, ◌++◌, Bool, true, false, rules, refl}
use Rattle.std.specs.Prelude.{if◌then◌else◌}
use Rattle.st_num.specs.declared.mark.Mark.{Mark}
use Rattle.st_num.specs.declared.mark.Mark.TheVariants as mark
use Rattle.st_grammar.specs.declared.sort.Sort.TheVariants.{Count as count_sort}
use Rattle.st_grammar.specs.declared.sort.Bracket.TheVariants.{Dollar as dollar}
use Rattle.st_grammar.specs.declared.sort.Closing.TheVariants.{ByRound as by_round}
use Rattle.st_grammar.specs.Terminals.{Terminal, leaf, dot, sign, opening, closing, other}
use Rattle.st_grammar.specs.Trees.{Tree, operand, post, times, bracket, led, left, ahead, items, none, more, plain, length, arguments, index, segment, update, below, Path, head, field, part, text}
use Rattle.st_grammar.specs.Grammar.{Fits, PathFits}
use Rattle.st_el.specs.declared.expression.Exp.{Exp, the_lemmas}
use Rattle.st_el.specs.declared.expression.Count.TheVariants as count
use Rattle.st_parse_builder.specs.Names.{name_of}
use Rattle.st_parse_builder.specs.Meaning.{meaning, is_star, is_plus, mark_count, count_of}
use Rattle.st_parse_builder.specs.Definitions.{sign_count}
use Rattle.st_parse_law.specs.DefExps.{count_exps}
use Rattle.st_parse_law.proofs.AtomTrees.{AreReal, real_left, real_right}
use Rattle.st_parse_law.proofs.Counts.{bound_fits}
use Rattle.st_parse_law.proofs.Printing.{expression_tree}
use Rattle.st_parse_law.proofs.Law.{IsPrinted}

-- ---- the expression of a count

choice : (a b : Bool) → count_exps (if a then count.Star else if b then count.Plus else count.Quest) ≡ []
choice true b = search (rules, the_lemmas)
choice false true = search (rules, the_lemmas)
choice false false = search (rules, the_lemmas)

in_mark : (m : Mark) → count_exps (mark_count m) ≡ []
in_mark m = choice (is_star m) (is_plus m)

-- a mark has none
pub in_sign : (l : Terminal) → count_exps (sign_count l) ≡ []
in_sign (sign m x) = in_mark m
in_sign (leaf k x) = in_mark mark.Question
in_sign (dot x) = in_mark mark.Question
in_sign (opening k x) = in_mark mark.Question
in_sign (closing c x) = in_mark mark.Question
in_sign (other x) = in_mark mark.Question

in_times : (e : Exp) → count_exps (count.Times e) ≡ e ∷ []
in_times e = search (rules, the_lemmas)

in_below : (name : List ℕ) (e : Exp) → count_exps (count.Below name e) ≡ e ∷ []
in_below name e = search (rules, the_lemmas)

pub in_count : (t : Tree) (e : Exp) → count_exps (count_of t e) ≡ e ∷ []
in_count (operand k x) e = in_times e
in_count (post t l) e = in_times e
in_count (times t m x u) e = in_times e
in_count (led g t) e = in_times e
in_count (bracket (plain k o) ts x) e = in_times e
in_count (bracket (length o) ts x) e = in_times e
in_count (bracket (arguments f o) ts x) e = in_times e
in_count (bracket (index t o) ts x) e = in_times e
in_count (bracket (segment p o) ts x) e = in_times e
in_count (bracket (update p m o) ts x) e = in_times e
in_count (bracket (below o i m y) ts x) e = in_below (name_of i.kind) e

-- ---- it is printed

no_path : (p : Path) → PathFits count_sort p → ⊥
no_path (head t o) f = let no : ◌≡◌ {A = Bool} false true = f.0 in cc
no_path (field p x) f = no_path p f
no_path (part p o ts c) f = no_path p f.0

-- it is an operand or stands in `$( )`, also behind the `<` of a bound
pub count_printed : (names : List (List ℕ)) (t : Tree) → Fits count_sort t → AreReal names (text t) → IsPrinted names (meaning t)
count_printed names (operand k x) f r = expression_tree names false (operand k x) refl r
count_printed names (bracket (plain dollar o) ts c) f r = expression_tree names false (bracket (plain dollar o) ts c) (refl, refl, f.2, f.3) r
count_printed names (bracket (plain k o) ts c) f r = absurd (let no : ◌≡◌ {A = Bool} false true = f.1 in cc)
count_printed names (bracket (below o i m x) none c) f r = absurd f.3
count_printed names (bracket (below o i m x) (more none pre t) c) f r =
    count_printed names t (bound_fits t f.2.2) (real_right names pre (text t) (real_left names (pre ++ text t) (closing by_round c ∷ []) r.1.1.1))
count_printed names (bracket (below o i m x) (more (more ts q u) pre t) c) f r = absurd f.2.1
count_printed names (bracket (length o) ts c) f r = absurd (let no : ◌≡◌ {A = Bool} false true = f.1 in cc)
count_printed names (bracket (arguments g o) ts c) f r = absurd (let no : ◌≡◌ {A = Bool} false true = f.1.0 in cc)
count_printed names (bracket (index t o) ts c) f r = absurd (let no : ◌≡◌ {A = Bool} false true = f.1.0 in cc)
count_printed names (bracket (segment p o) ts c) f r = absurd (let no : ◌≡◌ {A = Bool} false true = f.0 in cc)
count_printed names (bracket (update p m x) ts c) f r = absurd (no_path p f.1.0)
count_printed names (post t (leaf k x)) f r = absurd (let no : ◌≡◌ {A = Bool} false true = f.0 in cc)
count_printed names (post t (dot x)) f r = absurd (let no : ◌≡◌ {A = Bool} false true = f.0 in cc)
count_printed names (post t (sign m x)) f r = absurd (let no : ◌≡◌ {A = Bool} false true = f.0 in cc)
count_printed names (post t (opening k x)) f r = absurd (let no : ◌≡◌ {A = Bool} false true = f.0 in cc)
count_printed names (post t (closing k x)) f r = absurd (let no : ◌≡◌ {A = Bool} false true = f.0 in cc)
count_printed names (post t (other x)) f r = absurd (let no : ◌≡◌ {A = Bool} false true = f.0 in cc)
count_printed names (times t m x c) f r = absurd (let no : ◌≡◌ {A = Bool} false true = f.1 in cc)
count_printed names (led (left l m x) t) f r = absurd (let no : ◌≡◌ {A = Bool} false true = f.0.0 in cc)
count_printed names (led (ahead m x) t) f r = absurd (let no : ◌≡◌ {A = Bool} false true = f.0 in cc)
count_printed names (led (items ts) t) f r = absurd (let no : ◌≡◌ {A = Bool} false true = f.0.0 in cc)
