-- Each tree that the grammar allows as an expression means one that is read back where it is printed.
use Rattle.std.proofs.Common.{◌≡◌, ℕ, ◌≤◌, List, [], ◌∷◌, ◌++◌, length, Bool, true, false, ◌&&◌, refl, sym, ap, ◌∙◌, subst, arith}
use Rattle.std.specs.Prelude.{IsTrue, if◌then◌else◌}
use Rattle.std.proofs.lemmas.Grind.{common_steps}
use Rattle.st_num.specs.declared.span.Span.{Span}
use Rattle.st_num.specs.declared.mark.Mark.{Mark}
use Rattle.st_num.specs.declared.mark.Mark.TheVariants as mark
use Rattle.st_scan.specs.Spelling.{is_name, begins_lower}
use Rattle.st_num.specs.declared.token.Token.{Token}
use Rattle.st_num.specs.declared.token.TokenKind.{TokenKind}
use Rattle.st_num.specs.declared.token.TokenKind.TheVariants as kind
use Rattle.st_grammar.specs.declared.sort.Sort.{Sort}
use Rattle.st_grammar.specs.declared.sort.Sort.TheVariants.{Expression as expression, Arithmetic as arithmetic, Count as count_sort, Bound as bound}
use Rattle.st_grammar.specs.declared.sort.Style.{Style}
use Rattle.st_grammar.specs.declared.sort.Style.TheVariants.{Parts as parts, Fields as fields, Ends as ends, Run as run}
use Rattle.st_grammar.specs.declared.sort.Leaf.{Leaf}
use Rattle.st_grammar.specs.declared.sort.Leaf.TheVariants.{Low as low, Basic as basic, Variable as variable, Atom as atom, Number as number, Literal as literal, Function as function}
use Rattle.st_grammar.specs.declared.sort.Bracket.TheVariants.{Round as round, Square as square, Brace as brace, TickRound as tick_round, TickSquare as tick_square, TickBrace as tick_brace, Dollar as dollar}
use Rattle.st_grammar.specs.declared.sort.Closing.TheVariants.{ByRound as by_round, BySquare as by_square, ByBrace as by_brace, ByBar as by_bar}
use Rattle.st_grammar.specs.Levels.{takes, is_iteration_sign, is_change}
use Rattle.st_grammar.specs.Terminals.{Terminal, leaf, dot, sign, opening, closing, other}
use Rattle.st_grammar.specs.Definitions.{token_in}
use Rattle.st_grammar.specs.Trees.{Tree, operand, post, times, bracket, led, left, ahead, items, Trees, none, more, plain, length as bar_length, arguments, index, segment, update, below, Path, head, field, part, text, texts, path_text}
use Rattle.st_grammar.specs.Grammar.{Fits, EachFits, PathFits, SetsOff, is_label, size}
use Rattle.st_el.specs.declared.expression.Exp.{Exp}
use Rattle.st_el.specs.declared.expression.Node.TheVariants as node
use Rattle.st_el.specs.declared.expression.Count.TheVariants as count
use Rattle.st_el.specs.declared.expression.Seg.{Seg}
use Rattle.st_el.specs.declared.expression.Seg.TheVariants as seg
use Rattle.st_el.specs.declared.context.Behind.{Behind}
use Rattle.st_el.specs.declared.context.Behind.TheVariants.{Other, Plus}
use Rattle.st_parse_builder.specs.Names.{name_of, leaf_node}
use Rattle.st_parse_builder.specs.Meaning.{exp, place, first_place, meaning, meanings, field_meanings, label, base, steps, step_at, changed_node, is_atom, opened, dotted, dotted_node, atom_name, mark_count, count_of}
use Rattle.st_parse_law.proofs.Plains.{node-of}
use Rattle.st_parse_law.proofs.Placed.{Printable}
use Rattle.st_parse_law.proofs.Leaves.{IsLeaf, a_low, a_variable, an_atom, a_function, a_bool, a_nat, an_int, a_text_type, a_true, a_false, an_eps, a_number, a_text, is_leaf, IsWritten, leaf_printed, leaf_word}
use Rattle.st_parse_law.proofs.Posts.{dot_printed, IsMark, is_star, is_plus_mark, is_quest, mark_printed}
use Rattle.st_parse_law.proofs.Counts.{BoundPart, CountPart, leaf_bound, arith_bound, arith_printed, arith_group, times_count, count_printed}
use Rattle.st_parse_law.proofs.Bounds.{below_count}
use Rattle.st_parse_law.proofs.Joins.{in_expression, in_arithmetic, joined_printed}
use Rattle.st_parse_law.proofs.Enclosed.{paren_printed, group_printed, length_printed, tick_paren, tick_bracket, tick_curly, tick_printed}
use Rattle.st_parse_law.proofs.Lists.{Printables, no_more, one_more}
use Rattle.st_parse_law.proofs.Tuples.{many_parens, tuple_printed, call_printed}
use Rattle.st_parse_law.proofs.Elements.{sequence_printed}
use Rattle.st_parse_law.proofs.Prefixes.{not_printed, neg_printed, absent_printed}
use Rattle.st_parse_law.proofs.Indices.{at_printed, slice_printed}
use Rattle.st_parse_law.proofs.Fields.{Label, FieldPrintables, no_fields, one_field, fields_printed}
use Rattle.st_parse_law.proofs.Paths.{StepPrintable, a_field, a_position, a_range, StepPrintables, no_steps, more_steps}
use Rattle.st_parse_law.proofs.Changes.{update_printed, extend_printed}
use Rattle.st_parse_law.proofs.Atoms.{atom_printed}
use Rattle.st_parse_law.proofs.AtomTrees.{IsReal, AreReal, real_left, real_right, IsDot, is_dot, AtomTree, dotted_tree, touches_atom, atom_tree, arith_dotted, arith_no_atom_tree}

-- ---- single tokens

leaf_tree : (names : List (List ℕ)) (σ : Sort) (k : Leaf) (x : Token) → IsReal names (leaf k x) → takes σ k ≡ true → Printable names σ (exp x.at (leaf_node k x.kind))
leaf_tree names σ k x r t = leaf_printed names σ x.at k x.kind (is_leaf names k x.kind x r.0) r.1 t

record MarkOf (m : Mark) : Type 0 where
  behind : Behind
  is : IsMark m (mark_count m) behind

mark_of : (m : Mark) → is_iteration_sign m ≡ true → MarkOf m
mark_of mark.Star h = record { behind = Other; is = is_star }
mark_of mark.Plus h = record { behind = Plus; is = is_plus_mark }
mark_of mark.Question h = record { behind = Other; is = is_quest }
mark_of _ h = absurd (cc)

-- a field, or an atom that goes on
dot_tree :
    (names : List (List ℕ)) (b : Bool) (e : Exp) (x : Token) → IsDot x.kind → Printable names (expression b) e → (is_atom (opened e) ≡ true → AtomTree names e)
    → Printable names (expression b) (dotted e x)
dot_tree names b e x d p atoms = go (x.touching && is_atom (opened e)) refl
  where
    go : (v : Bool) → (x.touching && is_atom (opened e)) ≡ v → Printable names (expression b) (dotted e x)
    go true is =
        let a = dotted_tree names e x d is (atoms (touches_atom x.touching (is_atom (opened e)) is)) in
        subst (λ n. Printable names (expression b) (exp (place e) n)) (sym (sym (node-of (place e) (dotted_node e x.touching (name_of x.kind))) ∙ a.is)) (atom_printed names b (place e) a.name a.printed)
    go false is =
        subst (λ n. Printable names (expression b) (exp (place e) n))
        (sym (ap (λ v. if v then node.Atom (atom_name (opened e) ++ 46 ∷ name_of x.kind) else node.Dot e (name_of x.kind)) is ∙ ap (λ k. node.Dot e (name_of k)) d.1))
        (dot_printed names (expression b) e (place e) d.0 d.2 p)

-- the token of a function
record FunctionOf (x : Token) : Type 0 where
  name : List ℕ
  is : x.kind ≡ kind.Fun name
  whole : IsTrue (is_name name)
  lower : IsTrue (begins_lower name)

function_of : (names : List (List ℕ)) (k : Leaf) (kd : TokenKind) (x : Token) → x.kind ≡ kd → k ≡ function → IsLeaf names k kd → IsWritten kd → FunctionOf x
function_of names _ _ x e h (a_function n) w = record { name = n; is = e; whole = w.1.1; lower = w.1.2 }
function_of names _ _ x e h (a_low n) w = absurd (cc)
function_of names _ _ x e h (a_variable n v) w = absurd (cc)
function_of names _ _ x e h (an_atom n v) w = absurd (cc)
function_of names _ _ x e h a_bool w = absurd (cc)
function_of names _ _ x e h a_nat w = absurd (cc)
function_of names _ _ x e h an_int w = absurd (cc)
function_of names _ _ x e h a_text_type w = absurd (cc)
function_of names _ _ x e h a_true w = absurd (cc)
function_of names _ _ x e h a_false w = absurd (cc)
function_of names _ _ x e h an_eps w = absurd (cc)
function_of names _ _ x e h (a_number n) w = absurd (cc)
function_of names _ _ x e h (a_text n) w = absurd (cc)

-- the name of a field before it
label_of : (names : List (List ℕ)) (k : Leaf) (kd : TokenKind) (x : Token) → IsLeaf names k kd → IsWritten kd → is_label (leaf k x) ≡ true → Label names (name_of kd)
label_of names _ _ x (a_variable n v) w h = record { operand = variable; word = leaf_word names variable (kind.Up n) (a_variable n v) w; labels = λ y. refl }
label_of names _ _ x (an_atom n v) w h = record { operand = atom; word = leaf_word names atom (kind.Up n) (an_atom n v) w; labels = λ y. refl }
label_of names _ _ x (a_low n) w h = absurd (cc)
label_of names _ _ x (a_function n) w h = absurd (cc)
label_of names _ _ x a_bool w h = absurd (cc)
label_of names _ _ x a_nat w h = absurd (cc)
label_of names _ _ x an_int w h = absurd (cc)
label_of names _ _ x a_text_type w h = absurd (cc)
label_of names _ _ x a_true w h = absurd (cc)
label_of names _ _ x a_false w h = absurd (cc)
label_of names _ _ x an_eps w h = absurd (cc)
label_of names _ _ x (a_number n) w h = absurd (cc)
label_of names _ _ x (a_text n) w h = absurd (cc)

label_real : (names : List (List ℕ)) (l : Terminal) → IsReal names l → is_label l ≡ true → Label names (name_of (token_in l).kind)
label_real names (leaf k x) r h = label_of names k x.kind x (is_leaf names k x.kind x r.0) r.1 h
label_real names (dot x) r h = absurd (cc)
label_real names (sign m x) r h = absurd (cc)
label_real names (opening k x) r h = absurd (cc)
label_real names (closing k x) r h = absurd (cc)
label_real names (other x) r h = absurd (cc)

first_label : (names : List (List ℕ)) (pre : List Terminal) → ((l : Terminal) × (pre ≡ l ∷ []) × (is_label l ≡ true)) → AreReal names pre → Label names (label pre)
first_label names pre s r =
    let one : AreReal names (s.0 ∷ []) = subst (AreReal names) s.1 r in
    subst (λ n. Label names n) (sym (ap label s.1)) (label_real names s.0 one.0 s.2)

next_label : (names : List (List ℕ)) (pre : List Terminal) (m : Mark) (x : Token) (l : Terminal) → pre ≡ sign m x ∷ l ∷ [] → is_label l ≡ true → AreReal names pre → Label names (label pre)
next_label names pre m x l s h r =
    let both : AreReal names (sign m x ∷ l ∷ []) = subst (AreReal names) s r in
    subst (λ n. Label names n) (sym (ap label s)) (label_real names l both.1.0 h)

two_long : (us : List Exp) (d e : Exp) → 2 ≤ length ((us ++ d ∷ []) ++ e ∷ [])
two_long us d e = grind (arith, common_steps)

bound_takes : (k : Leaf) → takes count_sort k ≡ true → takes bound k ≡ true
bound_takes low h = refl
bound_takes basic h = refl
bound_takes variable h = refl
bound_takes number h = refl
bound_takes atom h = absurd (cc)
bound_takes literal h = absurd (cc)
bound_takes function h = absurd (cc)

index_low : (names : List (List ℕ)) (k : Leaf) (kd : TokenKind) → k ≡ low → IsLeaf names k kd → IsWritten kd → (name : List ℕ) × (kd ≡ kind.Low name) × IsWritten (kind.Low name)
index_low names _ _ h (a_low n) w = (n, refl, w)
index_low names _ _ h (a_variable n v) w = absurd (cc)
index_low names _ _ h (an_atom n v) w = absurd (cc)
index_low names _ _ h (a_function n) w = absurd (cc)
index_low names _ _ h a_bool w = absurd (cc)
index_low names _ _ h a_nat w = absurd (cc)
index_low names _ _ h an_int w = absurd (cc)
index_low names _ _ h a_text_type w = absurd (cc)
index_low names _ _ h a_true w = absurd (cc)
index_low names _ _ h a_false w = absurd (cc)
index_low names _ _ h an_eps w = absurd (cc)
index_low names _ _ h (a_number n) w = absurd (cc)
index_low names _ _ h (a_text n) w = absurd (cc)

no_arith_path : (p : Path) → PathFits arithmetic p → ⊥
no_arith_path (head t o) f = let no : ◌≡◌ {A = Bool} false true = f.0 in cc
no_arith_path (field p x) f = no_arith_path p f
no_arith_path (part p o ts c) f = no_arith_path p f.0

no_bound_path : (p : Path) → PathFits bound p → ⊥
no_bound_path (head t o) f = let no : ◌≡◌ {A = Bool} false true = f.0 in cc
no_bound_path (field p x) f = no_bound_path p f
no_bound_path (part p o ts c) f = no_bound_path p f.0

no_count_path : (p : Path) → PathFits count_sort p → ⊥
no_count_path (head t o) f = let no : ◌≡◌ {A = Bool} false true = f.0 in cc
no_count_path (field p x) f = no_count_path p f
no_count_path (part p o ts c) f = no_count_path p f.0

label_tree : (names : List (List ℕ)) (ts : Trees) (pre : List Terminal) → SetsOff fields ts pre → AreReal names pre → Label names (label pre)
label_tree names none pre s r = first_label names pre s r
label_tree names (more ts q u) pre s r = next_label names pre s.0 s.1 s.2 s.3 s.5 r

field_step_of : (names : List (List ℕ)) (x : Token) → IsDot x.kind → StepPrintable names (seg.Field (name_of x.kind))
field_step_of names x d = subst (λ n. StepPrintable names (seg.Field n)) (sym (ap name_of d.1)) (a_field d.0 d.2)

-- in arithmetic a dot is a field
arith_dot : (names : List (List ℕ)) (e : Exp) (x : Token) → IsDot x.kind → is_atom (opened e) ≡ false → Printable names arithmetic e → Printable names arithmetic (dotted e x)
arith_dot names e x d n p =
    subst (λ n. Printable names arithmetic (exp (place e) n))
    (sym (ap (λ v. if v then node.Atom (atom_name (opened e) ++ 46 ∷ name_of x.kind) else node.Dot e (name_of x.kind)) (arith_dotted e x n) ∙ ap (λ k. node.Dot e (name_of k)) d.1))
    (dot_printed names arithmetic e (place e) d.0 d.2 p)

change_of :
    (names : List (List ℕ)) (b : Bool) (at : Span) (e g : Exp) (path : List Seg) (s : Seg) (m : Mark) → is_change m ≡ true → Printable names (expression b) e → Printable names (expression false) g
    → StepPrintables names path → StepPrintable names s → Printable names (expression b) (exp at (changed_node m e (path ++ s ∷ []) g))
change_of names b at e g path s mark.Equal h x z ps q = update_printed names b at e g path s x z ps q
change_of names b at e g path s mark.ExtendBy h x z ps q = extend_printed names b at e g path s x z ps q
change_of names b at e g path s _ h x z ps q = absurd (cc)

mutual
  pub expression_tree : (names : List (List ℕ)) (b : Bool) (t : Tree) → Fits (expression b) t → AreReal names (text t) → Printable names (expression b) (meaning t)
  expression_tree names b (operand k x) f r = leaf_tree names (expression b) k x r.0 f
  expression_tree names b (post t (dot x)) f r =
      let d = real_right names (text t) (dot x ∷ []) r in
      let rt = real_left names (text t) (dot x ∷ []) r in
      dot_tree names b (meaning t) x (is_dot names x.kind x d.0.0 d.0.1) (expression_tree names b t f.1 rt) (atom_tree names b t f.1 rt)
  expression_tree names b (post t (sign m x)) f r =
      let d = mark_of m f.0 in mark_printed names b (meaning t) (place (meaning t)) m (mark_count m) d.behind d.is (expression_tree names b t f.1 (real_left names (text t) (sign m x ∷ []) r))
  expression_tree names b (post t (leaf k x)) f r = absurd (let no : ◌≡◌ {A = Bool} false true = f.0 in cc)
  expression_tree names b (post t (opening k x)) f r = absurd (let no : ◌≡◌ {A = Bool} false true = f.0 in cc)
  expression_tree names b (post t (closing k x)) f r = absurd (let no : ◌≡◌ {A = Bool} false true = f.0 in cc)
  expression_tree names b (post t (other x)) f r = absurd (let no : ◌≡◌ {A = Bool} false true = f.0 in cc)
  expression_tree names b (times t m x c) f r =
      let rc = real_right names (text t) (sign m x ∷ text c) r in
      count_printed names b (meaning t) (place (meaning t)) (count_of c (meaning c)) (count_tree names c f.4 rc.1) (expression_tree names b t f.2 (real_left names (text t) (sign m x ∷ text c) r))
  expression_tree names b (bracket (plain round o) none c) f r = absurd f.3
  expression_tree names b (bracket (plain round o) (more none pre t) c) f r =
      paren_printed names b o.at (meaning t) (expression_tree names false t f.2.2 (real_right names pre (text t) (real_left names (pre ++ text t) (closing by_round c ∷ []) r.1)))
  expression_tree names b (bracket (plain round o) (more (more ts q u) pre t) c) f r =
      let all = real_left names (texts (more (more ts q u) pre t)) (closing by_round c ∷ []) r.1 in
      let init = real_left names (texts (more ts q u)) (pre ++ text t) all in
      subst (λ n. Printable names (expression b) (exp o.at n)) (sym (many_parens ((meanings ts ++ meaning u ∷ []) ++ meaning t ∷ []) (two_long (meanings ts) (meaning u) (meaning t))))
      (tuple_printed names o.at (meanings ts) (meaning u) (meaning t)
      (parts_tree names false parts 1 (more ts q u) f.2.0 init)
      (expression_tree names false t f.2.2 (real_right names pre (text t) (real_right names (texts (more ts q u)) (pre ++ text t) all))) b)
  expression_tree names b (bracket (plain brace o) none c) f r = absurd f.3
  expression_tree names b (bracket (plain brace o) (more ts pre t) c) f r =
      let all = real_left names (texts (more ts pre t)) (closing by_brace c ∷ []) r.1 in
      let own = real_right names (texts ts) (pre ++ text t) all in
      fields_printed names o.at (field_meanings ts) (label pre) (meaning t) (fields_tree names ts f.2.0 (real_left names (texts ts) (pre ++ text t) all))
      (label_tree names ts pre f.2.1 (real_left names pre (text t) own)) (expression_tree names false t f.2.2 (real_right names pre (text t) own)) b
  expression_tree names b (bracket (plain square o) ts c) f r = absurd (let no : ◌≡◌ {A = Bool} false true = f.1 in cc)
  expression_tree names b (bracket (plain tick_round o) none c) f r = absurd f.3
  expression_tree names b (bracket (plain tick_round o) (more none pre t) c) f r =
      tick_printed names b o.at (meaning t) mark.TickParen tick_round tick_paren (expression_tree names false t f.2.2 (real_right names pre (text t) (real_left names (pre ++ text t) (closing by_round c ∷ []) r.1)))
  expression_tree names b (bracket (plain tick_round o) (more (more ts q u) pre t) c) f r = absurd f.2.1
  expression_tree names b (bracket (plain tick_square o) none c) f r = absurd f.3
  expression_tree names b (bracket (plain tick_square o) (more none pre t) c) f r =
      tick_printed names b o.at (meaning t) mark.TickBracket tick_square tick_bracket (expression_tree names false t f.2.2 (real_right names pre (text t) (real_left names (pre ++ text t) (closing by_square c ∷ []) r.1)))
  expression_tree names b (bracket (plain tick_square o) (more (more ts q u) pre t) c) f r = absurd f.2.1
  expression_tree names b (bracket (plain tick_brace o) none c) f r = absurd f.3
  expression_tree names b (bracket (plain tick_brace o) (more none pre t) c) f r =
      tick_printed names b o.at (meaning t) mark.TickBrace tick_brace tick_curly (expression_tree names false t f.2.2 (real_right names pre (text t) (real_left names (pre ++ text t) (closing by_brace c ∷ []) r.1)))
  expression_tree names b (bracket (plain tick_brace o) (more (more ts q u) pre t) c) f r = absurd f.2.1
  expression_tree names b (bracket (plain dollar o) none c) f r = absurd f.3
  expression_tree names b (bracket (plain dollar o) (more none pre t) c) f r =
      arith_printed names b o.at (meaning t) (arithmetic_tree names t f.2.2 (real_right names pre (text t) (real_left names (pre ++ text t) (closing by_round c ∷ []) r.1)))
  expression_tree names b (bracket (plain dollar o) (more (more ts q u) pre t) c) f r = absurd f.2.1
  expression_tree names b (bracket (bar_length o) none c) f r = absurd f.3
  expression_tree names b (bracket (bar_length o) (more none pre t) c) f r =
      length_printed names (expression b) o.at (meaning t) (expression_tree names true t f.2.2 (real_right names pre (text t) (real_left names (pre ++ text t) (closing by_bar c ∷ []) r.1)))
  expression_tree names b (bracket (bar_length o) (more (more ts q u) pre t) c) f r = absurd f.2.1
  expression_tree names b (bracket (arguments g o) ts c) f r =
      call_tree names (expression b) g ts refl f.2 r.0 (real_left names (texts ts) (closing by_round c ∷ []) r.1.1)
  expression_tree names b (bracket (index t o) none c) f r = absurd f.3
  expression_tree names b (bracket (index t o) (more none pre i) c) f r =
      let front = real_left names (text t) (opening square o ∷ []) (real_left names (text t ++ opening square o ∷ []) ((pre ++ text i) ++ closing by_square c ∷ []) r) in
      let own = real_left names (pre ++ text i) (closing by_square c ∷ []) (real_right names (text t ++ opening square o ∷ []) ((pre ++ text i) ++ closing by_square c ∷ []) r) in
      at_printed names (expression b) (place (meaning t)) (meaning t) (meaning i) (expression_tree names b t f.1.1 front) (expression_tree names false i f.2.2 (real_right names pre (text i) own))
  expression_tree names b (bracket (index t o) (more (more none q i) pre j) c) f r =
      let all = texts (more (more none q i) pre j) in
      let front = real_left names (text t) (opening square o ∷ []) (real_left names (text t ++ opening square o ∷ []) (all ++ closing by_square c ∷ []) r) in
      let own = real_left names all (closing by_square c ∷ []) (real_right names (text t ++ opening square o ∷ []) (all ++ closing by_square c ∷ []) r) in
      slice_printed names b (place (meaning t)) (meaning t) (meaning i) (meaning j) (expression_tree names b t f.1.1 front)
      (expression_tree names false i f.2.0.2 (real_right names q (text i) (real_left names (q ++ text i) (pre ++ text j) own)))
      (expression_tree names false j f.2.2 (real_right names pre (text j) (real_right names (q ++ text i) (pre ++ text j) own)))
  expression_tree names b (bracket (index t o) (more (more (more ts v w) q i) pre j) c) f r = absurd f.2.1
  expression_tree names b (bracket (update p m x) none c) f r = absurd f.3
  expression_tree names b (bracket (update p m x) (more (more ts q u) pre t) c) f r = absurd f.2.1
  expression_tree names b (bracket (update (head t o) m x) (more none pre g) c) f r = absurd (let no : ◌≡◌ {A = Bool} false true = f.1.1 in cc)
  expression_tree names b (bracket (update (field p y) m x) (more none pre g) c) f r =
      let front = real_left names (path_text (field p y)) (sign m x ∷ []) (real_left names (path_text (field p y) ++ sign m x ∷ []) ((pre ++ text g) ++ closing by_square c ∷ []) r) in
      let own = real_left names (pre ++ text g) (closing by_square c ∷ []) (real_right names (path_text (field p y) ++ sign m x ∷ []) ((pre ++ text g) ++ closing by_square c ∷ []) r) in
      let rp = real_left names (path_text p) (dot y ∷ []) front in
      let d = real_right names (path_text p) (dot y ∷ []) front in
      change_of names b (place (base p)) (base p) (meaning g) (steps p) (seg.Field (name_of y.kind)) m f.1.2 (base_tree names b p f.1.0 rp) (expression_tree names false g f.2.2 (real_right names pre (text g) own))
      (steps_tree names b p f.1.0 rp) (field_step_of names y (is_dot names y.kind y d.0.0 d.0.1))
  expression_tree names b (bracket (update (part p o ts d) m x) (more none pre g) c) f r =
      let front = real_left names (path_text (part p o ts d)) (sign m x ∷ []) (real_left names (path_text (part p o ts d) ++ sign m x ∷ []) ((pre ++ text g) ++ closing by_square c ∷ []) r) in
      let own = real_left names (pre ++ text g) (closing by_square c ∷ []) (real_right names (path_text (part p o ts d) ++ sign m x ∷ []) ((pre ++ text g) ++ closing by_square c ∷ []) r) in
      let rp = real_left names (path_text p) (opening square o ∷ (texts ts ++ closing by_square d ∷ [])) front in
      let rs = real_right names (path_text p) (opening square o ∷ (texts ts ++ closing by_square d ∷ [])) front in
      change_of names b (place (base p)) (base p) (meaning g) (steps p) (step_at (meanings ts)) m f.1.2 (base_tree names b p f.1.0.0 rp) (expression_tree names false g f.2.2 (real_right names pre (text g) own))
      (steps_tree names b p f.1.0.0 rp) (step_tree names ts f.1.0.1 f.1.0.2 (real_left names (texts ts) (closing by_square d ∷ []) rs.1))
  expression_tree names b (bracket (segment p o) ts c) f r = absurd (let no : ◌≡◌ {A = Bool} false true = f.0 in cc)
  expression_tree names b (bracket (below o i m x) ts c) f r = absurd (let no : ◌≡◌ {A = Bool} false true = f.1.0 in cc)
  expression_tree names b (led (left l m x) t) f r =
      let front = real_left names (text l ++ sign m x ∷ []) (text t) r in
      joined_printed names (expression b) (place (meaning l)) (meaning l) (meaning t) m (in_expression b) f.0.0 (expression_tree names b l f.0.1 (real_left names (text l) (sign m x ∷ []) front))
      (expression_tree names b t f.1 (real_right names (text l ++ sign m x ∷ []) (text t) r))
  expression_tree names b (led (ahead mark.Tilde x) t) f r = not_printed names b x.at (meaning t) (expression_tree names b t f.1 r.1)
  expression_tree names b (led (ahead mark.Turnstile x) t) f r = absent_printed names b x.at x.at (meaning t) (expression_tree names b t f.1 r.1)
  expression_tree names b (led (ahead _ x) t) f r = absurd (let no : ◌≡◌ {A = Bool} false true = f.0 in cc)
  expression_tree names b (led (items none) t) f r = absurd (omega (arith, f.0.2))
  expression_tree names b (led (items (more ts q u)) t) f r =
      let init = real_left names (texts (more ts q u)) (text t) r in
      sequence_printed names b (first_place ((meanings ts ++ meaning u ∷ []) ++ meaning t ∷ [])) (meanings ts) (meaning u) (meaning t)
      (parts_tree names b run 20 ts f.0.1.0 (real_left names (texts ts) (q ++ text u) init))
      (expression_tree names b u f.0.1.2 (real_right names q (text u) (real_right names (texts ts) (q ++ text u) init)))
      (expression_tree names b t f.1 (real_right names (texts (more ts q u)) (text t) r))

  parts_tree : (names : List (List ℕ)) (b : Bool) (y : Style) (n : ℕ) (ts : Trees) → EachFits (expression b) y n ts → AreReal names (texts ts) → Printables names (expression b) (meanings ts)
  parts_tree names b y n none f r = no_more
  parts_tree names b y n (more ts pre t) f r =
      one_more (meanings ts) (meaning t) (parts_tree names b y n ts f.0 (real_left names (texts ts) (pre ++ text t) r))
      (expression_tree names b t f.2 (real_right names pre (text t) (real_right names (texts ts) (pre ++ text t) r)))

  fields_tree : (names : List (List ℕ)) (ts : Trees) → EachFits (expression false) fields 1 ts → AreReal names (texts ts) → FieldPrintables names (field_meanings ts)
  fields_tree names none f r = no_fields
  fields_tree names (more ts pre t) f r =
      let own = real_right names (texts ts) (pre ++ text t) r in
      one_field (field_meanings ts) (label pre) (meaning t) (fields_tree names ts f.0 (real_left names (texts ts) (pre ++ text t) r))
      (label_tree names ts pre f.1 (real_left names pre (text t) own)) (expression_tree names false t f.2 (real_right names pre (text t) own))

  base_tree : (names : List (List ℕ)) (b : Bool) (p : Path) → PathFits (expression b) p → AreReal names (path_text p) → Printable names (expression b) (base p)
  base_tree names b (head t o) f r = expression_tree names b t f.1 (real_left names (text t) (opening square o ∷ []) r)
  base_tree names b (field p x) f r = base_tree names b p f (real_left names (path_text p) (dot x ∷ []) r)
  base_tree names b (part p o ts c) f r = base_tree names b p f.0 (real_left names (path_text p) (opening square o ∷ (texts ts ++ closing by_square c ∷ [])) r)

  steps_tree : (names : List (List ℕ)) (b : Bool) (p : Path) → PathFits (expression b) p → AreReal names (path_text p) → StepPrintables names (steps p)
  steps_tree names b (head t o) f r = no_steps
  steps_tree names b (field p x) f r =
      let d = real_right names (path_text p) (dot x ∷ []) r in
      more_steps (steps p) (seg.Field (name_of x.kind)) (steps_tree names b p f (real_left names (path_text p) (dot x ∷ []) r)) (field_step_of names x (is_dot names x.kind x d.0.0 d.0.1))
  steps_tree names b (part p o ts c) f r =
      let rs = real_right names (path_text p) (opening square o ∷ (texts ts ++ closing by_square c ∷ [])) r in
      more_steps (steps p) (step_at (meanings ts)) (steps_tree names b p f.0 (real_left names (path_text p) (opening square o ∷ (texts ts ++ closing by_square c ∷ [])) r))
      (step_tree names ts f.1 f.2 (real_left names (texts ts) (closing by_square c ∷ []) rs.1))

  step_tree : (names : List (List ℕ)) (ts : Trees) → EachFits (expression false) ends 13 ts → 1 ≤ size ts → AreReal names (texts ts) → StepPrintable names (step_at (meanings ts))
  step_tree names none f s r = absurd (omega (arith, s))
  step_tree names (more none pre i) f s r = a_position (meaning i) (expression_tree names false i f.2 (real_right names pre (text i) r))
  step_tree names (more (more none q i) pre j) f s r =
      a_range (meaning i) (meaning j) (expression_tree names false i f.0.2 (real_right names q (text i) (real_left names (q ++ text i) (pre ++ text j) r)))
      (expression_tree names false j f.2 (real_right names pre (text j) (real_right names (q ++ text i) (pre ++ text j) r)))
  step_tree names (more (more (more ts v w) q i) pre j) f s r = absurd f.1

  call_tree : (names : List (List ℕ)) (σ : Sort) (g : Token) (ts : Trees) → takes σ function ≡ true → EachFits (expression false) parts 1 ts → IsReal names (leaf function g) → AreReal names (texts ts)
      → Printable names σ (exp g.at (node.Call (name_of g.kind) (meanings ts)))
  call_tree names σ g none t f l r = leaf_tree names σ function g l t
  call_tree names σ g (more ts pre u) t f l r =
      let fn = function_of names function g.kind g refl refl (is_leaf names function g.kind g l.0) l.1 in
      subst (λ n. Printable names σ (exp g.at (node.Call n (meanings ts ++ meaning u ∷ [])))) (sym (ap name_of fn.is))
      (call_printed names g.at fn.name fn.whole fn.lower (meanings ts) (meaning u) (parts_tree names false parts 1 ts f.0 (real_left names (texts ts) (pre ++ text u) r))
      (expression_tree names false u f.2 (real_right names pre (text u) (real_right names (texts ts) (pre ++ text u) r))) σ)

  arithmetic_tree : (names : List (List ℕ)) (t : Tree) → Fits arithmetic t → AreReal names (text t) → Printable names arithmetic (meaning t)
  arithmetic_tree names (operand k x) f r = leaf_tree names arithmetic k x r.0 f
  arithmetic_tree names (post t (dot x)) f r =
      let d = real_right names (text t) (dot x ∷ []) r in
      arith_dot names (meaning t) x (is_dot names x.kind x d.0.0 d.0.1) (arith_no_atom_tree names t f.1 (real_left names (text t) (dot x ∷ []) r)) (arithmetic_tree names t f.1 (real_left names (text t) (dot x ∷ []) r))
  arithmetic_tree names (post t (sign m x)) f r = absurd (let no : ◌≡◌ {A = Bool} false true = f.0 in cc)
  arithmetic_tree names (post t (leaf k x)) f r = absurd (let no : ◌≡◌ {A = Bool} false true = f.0 in cc)
  arithmetic_tree names (post t (opening k x)) f r = absurd (let no : ◌≡◌ {A = Bool} false true = f.0 in cc)
  arithmetic_tree names (post t (closing k x)) f r = absurd (let no : ◌≡◌ {A = Bool} false true = f.0 in cc)
  arithmetic_tree names (post t (other x)) f r = absurd (let no : ◌≡◌ {A = Bool} false true = f.0 in cc)
  arithmetic_tree names (times t m x c) f r = absurd (let no : ◌≡◌ {A = Bool} false true = f.1 in cc)
  arithmetic_tree names (bracket (plain round o) none c) f r = absurd f.3
  arithmetic_tree names (bracket (plain round o) (more none pre t) c) f r =
      group_printed names o.at (meaning t) (arithmetic_tree names t f.2.2 (real_right names pre (text t) (real_left names (pre ++ text t) (closing by_round c ∷ []) r.1)))
  arithmetic_tree names (bracket (plain round o) (more (more ts q u) pre t) c) f r = absurd f.2.1
  arithmetic_tree names (bracket (plain dollar o) none c) f r = absurd f.3
  arithmetic_tree names (bracket (plain dollar o) (more none pre t) c) f r =
      arith_group names o.at (meaning t) (arithmetic_tree names t f.2.2 (real_right names pre (text t) (real_left names (pre ++ text t) (closing by_round c ∷ []) r.1)))
  arithmetic_tree names (bracket (plain dollar o) (more (more ts q u) pre t) c) f r = absurd f.2.1
  arithmetic_tree names (bracket (plain square o) ts c) f r = absurd (let no : ◌≡◌ {A = Bool} false true = f.1 in cc)
  arithmetic_tree names (bracket (plain brace o) ts c) f r = absurd (let no : ◌≡◌ {A = Bool} false true = f.1 in cc)
  arithmetic_tree names (bracket (plain tick_round o) ts c) f r = absurd (let no : ◌≡◌ {A = Bool} false true = f.1 in cc)
  arithmetic_tree names (bracket (plain tick_square o) ts c) f r = absurd (let no : ◌≡◌ {A = Bool} false true = f.1 in cc)
  arithmetic_tree names (bracket (plain tick_brace o) ts c) f r = absurd (let no : ◌≡◌ {A = Bool} false true = f.1 in cc)
  arithmetic_tree names (bracket (bar_length o) none c) f r = absurd f.3
  arithmetic_tree names (bracket (bar_length o) (more none pre t) c) f r =
      length_printed names arithmetic o.at (meaning t) (expression_tree names true t f.2.2 (real_right names pre (text t) (real_left names (pre ++ text t) (closing by_bar c ∷ []) r.1)))
  arithmetic_tree names (bracket (bar_length o) (more (more ts q u) pre t) c) f r = absurd f.2.1
  arithmetic_tree names (bracket (arguments g o) ts c) f r = call_tree names arithmetic g ts refl f.2 r.0 (real_left names (texts ts) (closing by_round c ∷ []) r.1.1)
  arithmetic_tree names (bracket (index t o) none c) f r = absurd f.3
  arithmetic_tree names (bracket (index t o) (more none pre i) c) f r =
      let front = real_left names (text t) (opening square o ∷ []) (real_left names (text t ++ opening square o ∷ []) ((pre ++ text i) ++ closing by_square c ∷ []) r) in
      let own = real_left names (pre ++ text i) (closing by_square c ∷ []) (real_right names (text t ++ opening square o ∷ []) ((pre ++ text i) ++ closing by_square c ∷ []) r) in
      at_printed names arithmetic (place (meaning t)) (meaning t) (meaning i) (arithmetic_tree names t f.1.1 front) (expression_tree names false i f.2.2 (real_right names pre (text i) own))
  arithmetic_tree names (bracket (index t o) (more (more ts q u) pre i) c) f r = absurd f.2.1
  arithmetic_tree names (bracket (segment p o) ts c) f r = absurd (let no : ◌≡◌ {A = Bool} false true = f.0 in cc)
  arithmetic_tree names (bracket (update p m x) ts c) f r = absurd (no_arith_path p f.1.0)
  arithmetic_tree names (bracket (below o i m x) ts c) f r = absurd (let no : ◌≡◌ {A = Bool} false true = f.1.0 in cc)
  arithmetic_tree names (led (left l m x) t) f r =
      let front = real_left names (text l ++ sign m x ∷ []) (text t) r in
      joined_printed names arithmetic (place (meaning l)) (meaning l) (meaning t) m in_arithmetic f.0.0 (arithmetic_tree names l f.0.1 (real_left names (text l) (sign m x ∷ []) front))
      (arithmetic_tree names t f.1 (real_right names (text l ++ sign m x ∷ []) (text t) r))
  arithmetic_tree names (led (ahead mark.Minus x) t) f r = neg_printed names x.at (meaning t) (arithmetic_tree names t f.1 r.1)
  arithmetic_tree names (led (ahead _ x) t) f r = absurd (let no : ◌≡◌ {A = Bool} false true = f.0 in cc)
  arithmetic_tree names (led (items ts) t) f r = absurd (let no : ◌≡◌ {A = Bool} false true = f.0.0 in cc)

  bound_tree : (names : List (List ℕ)) (t : Tree) → Fits bound t → AreReal names (text t) → BoundPart names (meaning t)
  bound_tree names (operand k x) f r = leaf_bound names x.at k x.kind (is_leaf names k x.kind x r.0.0) r.0.1 f
  bound_tree names (bracket (plain dollar o) none c) f r = absurd f.3
  bound_tree names (bracket (plain dollar o) (more none pre t) c) f r =
      arith_bound names o.at (meaning t) (arithmetic_tree names t f.2.2 (real_right names pre (text t) (real_left names (pre ++ text t) (closing by_round c ∷ []) r.1)))
  bound_tree names (bracket (plain dollar o) (more (more ts q u) pre t) c) f r = absurd f.2.1
  bound_tree names (post t (leaf k x)) f r = absurd (let no : ◌≡◌ {A = Bool} false true = f.0 in cc)
  bound_tree names (post t (dot x)) f r = absurd (let no : ◌≡◌ {A = Bool} false true = f.0 in cc)
  bound_tree names (post t (sign m x)) f r = absurd (let no : ◌≡◌ {A = Bool} false true = f.0 in cc)
  bound_tree names (post t (opening k x)) f r = absurd (let no : ◌≡◌ {A = Bool} false true = f.0 in cc)
  bound_tree names (post t (closing k x)) f r = absurd (let no : ◌≡◌ {A = Bool} false true = f.0 in cc)
  bound_tree names (post t (other x)) f r = absurd (let no : ◌≡◌ {A = Bool} false true = f.0 in cc)
  bound_tree names (times t m x c) f r = absurd (let no : ◌≡◌ {A = Bool} false true = f.1 in cc)
  bound_tree names (bracket (plain round o) ts c) f r = absurd (let no : ◌≡◌ {A = Bool} false true = f.1 in cc)
  bound_tree names (bracket (plain square o) ts c) f r = absurd (let no : ◌≡◌ {A = Bool} false true = f.1 in cc)
  bound_tree names (bracket (plain brace o) ts c) f r = absurd (let no : ◌≡◌ {A = Bool} false true = f.1 in cc)
  bound_tree names (bracket (plain tick_round o) ts c) f r = absurd (let no : ◌≡◌ {A = Bool} false true = f.1 in cc)
  bound_tree names (bracket (plain tick_square o) ts c) f r = absurd (let no : ◌≡◌ {A = Bool} false true = f.1 in cc)
  bound_tree names (bracket (plain tick_brace o) ts c) f r = absurd (let no : ◌≡◌ {A = Bool} false true = f.1 in cc)
  bound_tree names (bracket (bar_length o) ts c) f r = absurd (let no : ◌≡◌ {A = Bool} false true = f.1 in cc)
  bound_tree names (bracket (arguments g o) ts c) f r = absurd (let no : ◌≡◌ {A = Bool} false true = f.1.0 in cc)
  bound_tree names (bracket (index t o) ts c) f r = absurd (let no : ◌≡◌ {A = Bool} false true = f.1.0 in cc)
  bound_tree names (bracket (segment p o) ts c) f r = absurd (let no : ◌≡◌ {A = Bool} false true = f.0 in cc)
  bound_tree names (bracket (update p m x) ts c) f r = absurd (no_bound_path p f.1.0)
  bound_tree names (bracket (below o i m x) ts c) f r = absurd (let no : ◌≡◌ {A = Bool} false true = f.1.0 in cc)
  bound_tree names (led (left l m x) t) f r = absurd (let no : ◌≡◌ {A = Bool} false true = f.0.0 in cc)
  bound_tree names (led (ahead m x) t) f r = absurd (let no : ◌≡◌ {A = Bool} false true = f.0 in cc)
  bound_tree names (led (items ts) t) f r = absurd (let no : ◌≡◌ {A = Bool} false true = f.0.0 in cc)

  count_tree : (names : List (List ℕ)) (t : Tree) → Fits count_sort t → AreReal names (text t) → CountPart names (count_of t (meaning t))
  count_tree names (operand k x) f r = times_count names (exp x.at (leaf_node k x.kind)) (leaf_bound names x.at k x.kind (is_leaf names k x.kind x r.0.0) r.0.1 (bound_takes k f))
  count_tree names (bracket (plain dollar o) none c) f r = absurd f.3
  count_tree names (bracket (plain dollar o) (more none pre t) c) f r =
      times_count names (exp o.at (node.Arith (meaning t)))
      (arith_bound names o.at (meaning t) (arithmetic_tree names t f.2.2 (real_right names pre (text t) (real_left names (pre ++ text t) (closing by_round c ∷ []) r.1))))
  count_tree names (bracket (plain dollar o) (more (more ts q u) pre t) c) f r = absurd f.2.1
  count_tree names (bracket (below o i m x) none c) f r = absurd f.3
  count_tree names (bracket (below o i m x) (more (more ts q u) pre t) c) f r = absurd f.2.1
  count_tree names (bracket (below o i m x) (more none pre t) c) f r =
      let w = index_low names low i.kind refl (is_leaf names low i.kind i r.1.0.0) r.1.0.1 in
      subst (λ n. CountPart names (count.Below n (meaning t))) (sym (ap name_of w.1))
      (below_count names w.0 (meaning t) w.2 (bound_tree names t f.2.2 (real_right names pre (text t) (real_left names (pre ++ text t) (closing by_round c ∷ []) r.1.1.1))))
  count_tree names (post t (leaf k x)) f r = absurd (let no : ◌≡◌ {A = Bool} false true = f.0 in cc)
  count_tree names (post t (dot x)) f r = absurd (let no : ◌≡◌ {A = Bool} false true = f.0 in cc)
  count_tree names (post t (sign m x)) f r = absurd (let no : ◌≡◌ {A = Bool} false true = f.0 in cc)
  count_tree names (post t (opening k x)) f r = absurd (let no : ◌≡◌ {A = Bool} false true = f.0 in cc)
  count_tree names (post t (closing k x)) f r = absurd (let no : ◌≡◌ {A = Bool} false true = f.0 in cc)
  count_tree names (post t (other x)) f r = absurd (let no : ◌≡◌ {A = Bool} false true = f.0 in cc)
  count_tree names (times t m x c) f r = absurd (let no : ◌≡◌ {A = Bool} false true = f.1 in cc)
  count_tree names (bracket (plain round o) ts c) f r = absurd (let no : ◌≡◌ {A = Bool} false true = f.1 in cc)
  count_tree names (bracket (plain square o) ts c) f r = absurd (let no : ◌≡◌ {A = Bool} false true = f.1 in cc)
  count_tree names (bracket (plain brace o) ts c) f r = absurd (let no : ◌≡◌ {A = Bool} false true = f.1 in cc)
  count_tree names (bracket (plain tick_round o) ts c) f r = absurd (let no : ◌≡◌ {A = Bool} false true = f.1 in cc)
  count_tree names (bracket (plain tick_square o) ts c) f r = absurd (let no : ◌≡◌ {A = Bool} false true = f.1 in cc)
  count_tree names (bracket (plain tick_brace o) ts c) f r = absurd (let no : ◌≡◌ {A = Bool} false true = f.1 in cc)
  count_tree names (bracket (bar_length o) ts c) f r = absurd (let no : ◌≡◌ {A = Bool} false true = f.1 in cc)
  count_tree names (bracket (arguments g o) ts c) f r = absurd (let no : ◌≡◌ {A = Bool} false true = f.1.0 in cc)
  count_tree names (bracket (index t o) ts c) f r = absurd (let no : ◌≡◌ {A = Bool} false true = f.1.0 in cc)
  count_tree names (bracket (segment p o) ts c) f r = absurd (let no : ◌≡◌ {A = Bool} false true = f.0 in cc)
  count_tree names (bracket (update p m x) ts c) f r = absurd (no_count_path p f.1.0)
  count_tree names (led (left l m x) t) f r = absurd (let no : ◌≡◌ {A = Bool} false true = f.0.0 in cc)
  count_tree names (led (ahead m x) t) f r = absurd (let no : ◌≡◌ {A = Bool} false true = f.0 in cc)
  count_tree names (led (items ts) t) f r = absurd (let no : ◌≡◌ {A = Bool} false true = f.0.0 in cc)
