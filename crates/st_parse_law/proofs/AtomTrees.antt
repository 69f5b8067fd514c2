-- Trees that mean atoms.
use Rattle.std.proofs.Common.{◌≡◌, ℕ, List, [], ◌∷◌, ◌++◌, Bool, true, false, ◌&&◌, refl, ap, ◌∙◌}
use Rattle.std.specs.Prelude.{if◌then◌else◌}
use Rattle.st_num.specs.declared.span.Span.{Span}
use Rattle.st_num.specs.declared.mark.Mark.{Mark}
use Rattle.st_num.specs.declared.mark.Mark.TheVariants as mark
use Rattle.st_scan.specs.Spelling.{has_lower}
use Rattle.st_num.specs.Words.{word_spelling}
use Rattle.st_num.specs.declared.word.Word.{Word}
use Rattle.st_num.specs.declared.word.Word.TheVariants as word
use Rattle.st_num.specs.declared.token.Token.{Token}
use Rattle.st_num.specs.declared.token.TokenKind.{TokenKind}
use Rattle.st_num.specs.declared.token.TokenKind.TheVariants as kind
use Rattle.st_grammar.specs.declared.sort.Sort.TheVariants.{Expression as expression, Arithmetic as arithmetic}
use Rattle.st_grammar.specs.declared.sort.Leaf.{Leaf}
use Rattle.st_grammar.specs.declared.sort.Leaf.TheVariants.{Low as low, Variable as variable, Atom as atom, Number as number, Literal as literal, Function as function}
use Rattle.st_grammar.specs.declared.sort.Bracket.TheVariants.{Round as round, Square as square, Brace as brace, TickRound as tick_round, TickSquare as tick_square, TickBrace as tick_brace, Dollar as dollar}
use Rattle.st_grammar.specs.Levels.{takes}
use Rattle.st_grammar.specs.Terminals.{Terminal, leaf, dot, sign, opening, closing, other, terminal, kind_terminal, is_variable}
use Rattle.st_grammar.specs.Definitions.{token_in, is_minus}
use Rattle.st_grammar.specs.Trees.{Tree, operand, post, times, bracket, led, left, ahead, items, plain, length, arguments, index, segment, update, below, text}
use Rattle.st_grammar.specs.Grammar.{Fits}
use Rattle.st_el.specs.declared.expression.Exp.{Exp, out-Exp}
use Rattle.st_el.specs.declared.expression.Node.{Node, out-Node}
use Rattle.st_el.specs.declared.expression.Node.TheVariants as node
use Rattle.st_el.specs.declared.expression.Count.{Count}
use Rattle.st_el.specs.declared.expression.Count.TheOpen.{Node-F}
use Rattle.st_el.specs.declared.expression.Seg.{Seg}
use Rattle.st_parse_builder.specs.Names.{name_of, leaf_node}
use Rattle.st_parse_builder.specs.Meaning.{exp, place, meaning, meanings, field_meanings, only, base, steps, first_place, in_parens, indexed_node, changed_node, is_extension, is_tilde, is_atom, opened, dotted, dotted_node, atom_name, count_of, mark_count}
use Rattle.st_parse_law.proofs.Plains.{node-of}
use Rattle.st_parse_law.proofs.Wraps.{no_atom_at}
use Rattle.st_parse_law.proofs.Leaves.{IsLeaf, a_low, a_variable, an_atom, a_bool, a_nat, an_int, a_text_type, a_true, a_false, an_eps, a_number, a_text, a_function, is_leaf, IsWritten}
use Rattle.st_parse_law.proofs.Posts.{IsField}
use Rattle.st_parse_law.proofs.Joins.{joined_no_atom}
use Rattle.st_parse_law.proofs.Atoms.{AtomPart, atom_one, atom_dot}

-- ---- the tokens of a tree

-- the token is what the grammar sees in it, and some text spells it
abbrev pub IsReal : List (List ℕ) → Terminal → Type 0
IsReal names l = (l ≡ terminal names (token_in l)) × IsWritten (token_in l).kind

abbrev pub AreReal : List (List ℕ) → List Terminal → Type 0
AreReal names [] = Unit {0}
AreReal names (l ∷ w) = IsReal names l × AreReal names w

pub real_left : (names : List (List ℕ)) (us vs : List Terminal) → AreReal names (us ++ vs) → AreReal names us
real_left names [] vs r = tt
real_left names (l ∷ us) vs r = (r.0, real_left names us vs r.1)

pub real_right : (names : List (List ℕ)) (us vs : List Terminal) → AreReal names (us ++ vs) → AreReal names vs
real_right names [] vs r = r
real_right names (l ∷ us) vs r = real_right names us vs r.1

-- ---- dots

abbrev is_dot_terminal : Terminal → Bool
is_dot_terminal (dot x) = true
is_dot_terminal l = false

-- the token is a dot with such a name
abbrev pub IsDot : TokenKind → Type 0
IsDot kd = (name : List ℕ) × (kd ≡ kind.Dot name) × IsField name

no_dot : (l m : Terminal) → l ≡ m → is_dot_terminal l ≡ true → is_dot_terminal m ≡ false → ⊥
no_dot l m e h n = let same = ap is_dot_terminal e in cc

up_no_dot : (v : Bool) (x : Token) → is_dot_terminal (if v then leaf variable x else leaf atom x) ≡ false
up_no_dot true x = refl
up_no_dot false x = refl

word_no_dot : (names : List (List ℕ)) (w : Word) (x : Token) → is_dot_terminal (kind_terminal names (kind.Reserved w) x) ≡ false
word_no_dot names word.Bool x = refl
word_no_dot names _ x = refl

sign_no_dot : (names : List (List ℕ)) (m : Mark) (x : Token) → is_dot_terminal (kind_terminal names (kind.Sign m) x) ≡ false
sign_no_dot names mark.OpenParen x = refl
sign_no_dot names _ x = refl

field_upper : (v : Bool) (x : Token) → dot x ≡ (if v then other x else dot x) → v ≡ false
field_upper false x e = refl
field_upper true x e = absurd (no_dot (dot x) (other x) e refl refl)

pub is_dot : (names : List (List ℕ)) (kd : TokenKind) (x : Token) → dot x ≡ kind_terminal names kd x → IsWritten kd → IsDot kd
is_dot names (kind.Dot n) x e w = (n, refl, record { name = w.1.1; upper = field_upper (has_lower n) x e })
is_dot names (kind.Low n) x e w = absurd (no_dot (dot x) (leaf low x) e refl refl)
is_dot names (kind.Up n) x e w = absurd (no_dot (dot x) _ e refl (up_no_dot (is_variable names n) x))
is_dot names (kind.Mix n) x e w = absurd (no_dot (dot x) (other x) e refl refl)
is_dot names (kind.Reserved v) x e w = absurd (no_dot (dot x) (kind_terminal names (kind.Reserved v) x) e refl (word_no_dot names v x))
is_dot names (kind.Number n) x e w = absurd (no_dot (dot x) (leaf number x) e refl refl)
is_dot names (kind.Text n) x e w = absurd (no_dot (dot x) (leaf literal x) e refl refl)
is_dot names (kind.Fun n) x e w = absurd (no_dot (dot x) (leaf function x) e refl refl)
is_dot names (kind.Sign m) x e w = absurd (no_dot (dot x) (kind_terminal names (kind.Sign m) x) e refl (sign_no_dot names m x))

-- ---- what is no atom

parens_no_atom : (at : Span) (us : List Exp) → is_atom (opened (exp at (in_parens us))) ≡ false
parens_no_atom at [] = no_atom_at at (node.Tuple []) (Node-F.Tuple []) (node.outs-Tuple []) refl
parens_no_atom at (e ∷ []) = no_atom_at at (node.Paren e) (Node-F.Paren e) (node.outs-Paren e) refl
parens_no_atom at (e ∷ f ∷ us) = no_atom_at at (node.Tuple (e ∷ f ∷ us)) (Node-F.Tuple (e ∷ f ∷ us)) (node.outs-Tuple (e ∷ f ∷ us)) refl

bracket_no_atom : (at : Span) (m : Mark) (e : Exp) → is_atom (opened (exp at (node.Bracket m e))) ≡ false
bracket_no_atom at m e = no_atom_at at (node.Bracket m e) (Node-F.Bracket m e) (node.outs-Bracket m e) refl

arith_no_atom : (at : Span) (e : Exp) → is_atom (opened (exp at (node.Arith e))) ≡ false
arith_no_atom at e = no_atom_at at (node.Arith e) (Node-F.Arith e) (node.outs-Arith e) refl

eps_no_atom : (at : Span) → is_atom (opened (exp at node.Eps)) ≡ false
eps_no_atom at = no_atom_at at node.Eps Node-F.Eps node.outs-Eps refl

indexed_no_atom : (at : Span) (e : Exp) (us : List Exp) → is_atom (opened (exp at (indexed_node e us))) ≡ false
indexed_no_atom at e [] = eps_no_atom at
indexed_no_atom at e (i ∷ []) = no_atom_at at (node.At e i) (Node-F.Node::At e i) (node.outs-At e i) refl
indexed_no_atom at e (i ∷ j ∷ []) = no_atom_at at (node.Slice e i j) (Node-F.Node::Slice e i j) (node.outs-Slice e i j) refl
indexed_no_atom at e (i ∷ j ∷ k ∷ us) = eps_no_atom at

changed_no_atom : (at : Span) (v : Bool) (e g : Exp) (ps : List Seg) → is_atom (opened (exp at (if v then node.Extend e ps g else node.Update e ps g))) ≡ false
changed_no_atom at true e g ps = no_atom_at at (node.Extend e ps g) (Node-F.Extend e ps g) (node.outs-Extend e ps g) refl
changed_no_atom at false e g ps = no_atom_at at (node.Update e ps g) (Node-F.Update e ps g) (node.outs-Update e ps g) refl

prefixed_no_atom : (at by : Span) (u v : Bool) (m : Mark) (e : Exp)
    → is_atom (opened (exp at (if u then node.Not e else if v then node.Neg e else node.Infix (exp by (node.Seq [])) m e))) ≡ false
prefixed_no_atom at by true v m e = no_atom_at at (node.Not e) (Node-F.Not e) (node.outs-Not e) refl
prefixed_no_atom at by false true m e = no_atom_at at (node.Neg e) (Node-F.Neg e) (node.outs-Neg e) refl
prefixed_no_atom at by false false m e = no_atom_at at (node.Infix (exp by (node.Seq [])) m e) (Node-F.Infix (exp by (node.Seq [])) m e) (node.outs-Infix (exp by (node.Seq [])) m e) refl

-- ---- atoms

-- the expression is an atom that is read back
pub record AtomTree (names : List (List ℕ)) (e : Exp) : Type 0 where
  pub name : List ℕ
  pub is : (out-Exp e).node ≡ node.Atom name
  pub printed : (c : Bool) → AtomPart names c name

no_atom_tree : (names : List (List ℕ)) (e : Exp) → is_atom (opened e) ≡ false → is_atom (opened e) ≡ true → AtomTree names e
no_atom_tree names e n h = absurd (cc)

leaf_other : (names : List (List ℕ)) (at : Span) (n : Node) (l : Node-F Count Node Seg Exp) → out-Node n ≡ l → is_atom l ≡ false → is_atom (opened (exp at n)) ≡ true → AtomTree names (exp at n)
leaf_other names at n l e f h = no_atom_tree names (exp at n) (no_atom_at at n l e f) h

leaf_atom : (names : List (List ℕ)) (at : Span) (k : Leaf) (kd : TokenKind) → IsLeaf names k kd → IsWritten kd → is_atom (opened (exp at (leaf_node k kd))) ≡ true → AtomTree names (exp at (leaf_node k kd))
leaf_atom names at _ _ (an_atom n v) w h = record { name = n; is = node-of at (node.Atom n); printed = λ c. atom_one names c n v w }
leaf_atom names at _ _ (a_low n) w h = leaf_other names at (node.Name n) (Node-F.Name n) (node.outs-Name n) refl h
leaf_atom names at _ _ (a_variable n v) w h = leaf_other names at (node.Name n) (Node-F.Name n) (node.outs-Name n) refl h
leaf_atom names at _ _ a_bool w h = leaf_other names at (node.Name (word_spelling word.Bool)) (Node-F.Name (word_spelling word.Bool)) (node.outs-Name (word_spelling word.Bool)) refl h
leaf_atom names at _ _ a_nat w h = leaf_other names at (node.Name (word_spelling word.Nat)) (Node-F.Name (word_spelling word.Nat)) (node.outs-Name (word_spelling word.Nat)) refl h
leaf_atom names at _ _ an_int w h = leaf_other names at (node.Name (word_spelling word.Int)) (Node-F.Name (word_spelling word.Int)) (node.outs-Name (word_spelling word.Int)) refl h
leaf_atom names at _ _ a_text_type w h = leaf_other names at (node.Name (word_spelling word.Text)) (Node-F.Name (word_spelling word.Text)) (node.outs-Name (word_spelling word.Text)) refl h
leaf_atom names at _ _ a_true w h = leaf_other names at (node.Bool true) (Node-F.Bool true) (node.outs-Bool true) refl h
leaf_atom names at _ _ a_false w h = leaf_other names at (node.Bool false) (Node-F.Bool false) (node.outs-Bool false) refl h
leaf_atom names at _ _ an_eps w h = leaf_other names at node.Eps Node-F.Eps node.outs-Eps refl h
leaf_atom names at _ _ (a_number n) w h = leaf_other names at (node.Number n) (Node-F.Number n) (node.outs-Number n) refl h
leaf_atom names at _ _ (a_text t) w h = leaf_other names at (node.Text t) (Node-F.Text t) (node.outs-Text t) refl h
leaf_atom names at _ _ (a_function n) w h = leaf_other names at (node.Call n []) (Node-F.Call n []) (node.outs-Call n []) refl h

-- where a dot goes on with an atom, it is an atom
pub dotted_tree :
    (names : List (List ℕ)) (e : Exp) (x : Token) → IsDot x.kind → (x.touching && is_atom (opened e)) ≡ true → AtomTree names e → AtomTree names (dotted e x)
dotted_tree names e x d h a = record {
  name = a.name ++ 46 ∷ d.0;
  is = node-of (place e) (dotted_node e x.touching (name_of x.kind))
      ∙ ap (λ v. if v then node.Atom (atom_name (opened e) ++ 46 ∷ name_of x.kind) else node.Dot e (name_of x.kind)) h
      ∙ ap (λ k. node.Atom (atom_name (opened e) ++ 46 ∷ name_of k)) d.1
      ∙ ap (λ l. node.Atom (atom_name l ++ 46 ∷ d.0)) (ap out-Node a.is ∙ node.outs-Atom a.name);
  printed = λ c. atom_dot names c a.name d.0 d.2 (a.printed c);
}

plain_dotted : (e : Exp) (x : Token) → (x.touching && is_atom (opened e)) ≡ false → is_atom (opened (dotted e x)) ≡ false
plain_dotted e x h =
    ap (λ v. is_atom (opened (exp (place e) (if v then node.Atom (atom_name (opened e) ++ 46 ∷ name_of x.kind) else node.Dot e (name_of x.kind))))) h
    ∙ no_atom_at (place e) (node.Dot e (name_of x.kind)) (Node-F.Dot e (name_of x.kind)) (node.outs-Dot e (name_of x.kind)) refl

pub touches_atom : (t a : Bool) → (t && a) ≡ true → a ≡ true
touches_atom true a h = h
touches_atom false a h = absurd (cc)

dotted_atom_tree : (names : List (List ℕ)) (e : Exp) (x : Token) → IsDot x.kind → (is_atom (opened e) ≡ true → AtomTree names e) → is_atom (opened (dotted e x)) ≡ true → AtomTree names (dotted e x)
dotted_atom_tree names e x d atoms h = go (x.touching && is_atom (opened e)) refl
  where
    go : (v : Bool) → (x.touching && is_atom (opened e)) ≡ v → AtomTree names (dotted e x)
    go true is = dotted_tree names e x d is (atoms (touches_atom x.touching (is_atom (opened e)) is))
    go false is = no_atom_tree names (dotted e x) (plain_dotted e x is) h

pub atom_tree : (names : List (List ℕ)) (b : Bool) (t : Tree) → Fits (expression b) t → AreReal names (text t) → is_atom (opened (meaning t)) ≡ true → AtomTree names (meaning t)
atom_tree names b (operand k x) f r h = leaf_atom names x.at k x.kind (is_leaf names k x.kind x r.0.0) r.0.1 h
atom_tree names b (post t (dot x)) f r h =
    let d = real_right names (text t) (dot x ∷ []) r in
    dotted_atom_tree names (meaning t) x (is_dot names x.kind x d.0.0 d.0.1) (atom_tree names b t f.1 (real_left names (text t) (dot x ∷ []) r)) h
atom_tree names b (post t (sign m x)) f r h = leaf_other names (place (meaning t)) (node.Iter (meaning t) (mark_count m)) (Node-F.Iter (meaning t) (mark_count m)) (node.outs-Iter (meaning t) (mark_count m)) refl h
atom_tree names b (post t (leaf k x)) f r h = absurd (let no : ◌≡◌ {A = Bool} false true = f.0 in cc)
atom_tree names b (post t (opening k x)) f r h = absurd (let no : ◌≡◌ {A = Bool} false true = f.0 in cc)
atom_tree names b (post t (closing k x)) f r h = absurd (let no : ◌≡◌ {A = Bool} false true = f.0 in cc)
atom_tree names b (post t (other x)) f r h = absurd (let no : ◌≡◌ {A = Bool} false true = f.0 in cc)
atom_tree names b (times t m x c) f r h = leaf_other names (place (meaning t)) (node.Iter (meaning t) (count_of c (meaning c))) (Node-F.Iter (meaning t) (count_of c (meaning c))) (node.outs-Iter (meaning t) (count_of c (meaning c))) refl h
atom_tree names b (bracket (plain round o) ts c) f r h = no_atom_tree names (exp o.at (in_parens (meanings ts))) (parens_no_atom o.at (meanings ts)) h
atom_tree names b (bracket (plain brace o) ts c) f r h = leaf_other names o.at (node.Fields (field_meanings ts)) (Node-F.Fields (field_meanings ts)) (node.outs-Fields (field_meanings ts)) refl h
atom_tree names b (bracket (plain square o) ts c) f r h = no_atom_tree names (exp o.at (node.Arith (only (meanings ts)))) (arith_no_atom o.at (only (meanings ts))) h
atom_tree names b (bracket (plain dollar o) ts c) f r h = no_atom_tree names (exp o.at (node.Arith (only (meanings ts)))) (arith_no_atom o.at (only (meanings ts))) h
atom_tree names b (bracket (plain tick_round o) ts c) f r h = no_atom_tree names (exp o.at (node.Bracket mark.TickParen (only (meanings ts)))) (bracket_no_atom o.at mark.TickParen (only (meanings ts))) h
atom_tree names b (bracket (plain tick_square o) ts c) f r h = no_atom_tree names (exp o.at (node.Bracket mark.TickBracket (only (meanings ts)))) (bracket_no_atom o.at mark.TickBracket (only (meanings ts))) h
atom_tree names b (bracket (plain tick_brace o) ts c) f r h = no_atom_tree names (exp o.at (node.Bracket mark.TickBrace (only (meanings ts)))) (bracket_no_atom o.at mark.TickBrace (only (meanings ts))) h
atom_tree names b (bracket (length o) ts c) f r h = leaf_other names o.at (node.Len (only (meanings ts))) (Node-F.Len (only (meanings ts))) (node.outs-Len (only (meanings ts))) refl h
atom_tree names b (bracket (arguments g o) ts c) f r h = leaf_other names g.at (node.Call (name_of g.kind) (meanings ts)) (Node-F.Call (name_of g.kind) (meanings ts)) (node.outs-Call (name_of g.kind) (meanings ts)) refl h
atom_tree names b (bracket (index t o) ts c) f r h = no_atom_tree names (exp (place (meaning t)) (indexed_node (meaning t) (meanings ts))) (indexed_no_atom (place (meaning t)) (meaning t) (meanings ts)) h
atom_tree names b (bracket (segment p o) ts c) f r h = absurd (let no : ◌≡◌ {A = Bool} false true = f.0 in cc)
atom_tree names b (bracket (update p m x) ts c) f r h =
    no_atom_tree names (exp (place (base p)) (changed_node m (base p) (steps p) (only (meanings ts)))) (changed_no_atom (place (base p)) (is_extension m) (base p) (only (meanings ts)) (steps p)) h
atom_tree names b (bracket (below o i m x) ts c) f r h = absurd (let no : ◌≡◌ {A = Bool} false true = f.1.0 in cc)
atom_tree names b (led (left l m x) t) f r h = no_atom_tree names (meaning (led (left l m x) t)) (joined_no_atom (place (meaning l)) m (meaning l) (meaning t)) h
atom_tree names b (led (ahead m x) t) f r h = no_atom_tree names (meaning (led (ahead m x) t)) (prefixed_no_atom x.at x.at (is_tilde m) (is_minus m) m (meaning t)) h
atom_tree names b (led (items ts) t) f r h =
    leaf_other names (first_place (meanings ts ++ meaning t ∷ [])) (node.Seq (meanings ts ++ meaning t ∷ [])) (Node-F.Seq (meanings ts ++ meaning t ∷ [])) (node.outs-Seq (meanings ts ++ meaning t ∷ [])) refl h

-- ---- in arithmetic nothing is an atom

arith_leaf : (names : List (List ℕ)) (at : Span) (k : Leaf) (kd : TokenKind) → IsLeaf names k kd → takes arithmetic k ≡ true → is_atom (opened (exp at (leaf_node k kd))) ≡ false
arith_leaf names at _ _ (an_atom n v) t = absurd (cc)
arith_leaf names at _ _ a_true t = absurd (cc)
arith_leaf names at _ _ a_false t = absurd (cc)
arith_leaf names at _ _ an_eps t = absurd (cc)
arith_leaf names at _ _ (a_text b) t = absurd (cc)
arith_leaf names at _ _ (a_low n) t = no_atom_at at (node.Name n) (Node-F.Name n) (node.outs-Name n) refl
arith_leaf names at _ _ (a_variable n v) t = no_atom_at at (node.Name n) (Node-F.Name n) (node.outs-Name n) refl
arith_leaf names at _ _ a_bool t = no_atom_at at (node.Name (word_spelling word.Bool)) (Node-F.Name (word_spelling word.Bool)) (node.outs-Name (word_spelling word.Bool)) refl
arith_leaf names at _ _ a_nat t = no_atom_at at (node.Name (word_spelling word.Nat)) (Node-F.Name (word_spelling word.Nat)) (node.outs-Name (word_spelling word.Nat)) refl
arith_leaf names at _ _ an_int t = no_atom_at at (node.Name (word_spelling word.Int)) (Node-F.Name (word_spelling word.Int)) (node.outs-Name (word_spelling word.Int)) refl
arith_leaf names at _ _ a_text_type t = no_atom_at at (node.Name (word_spelling word.Text)) (Node-F.Name (word_spelling word.Text)) (node.outs-Name (word_spelling word.Text)) refl
arith_leaf names at _ _ (a_number n) t = no_atom_at at (node.Number n) (Node-F.Number n) (node.outs-Number n) refl
arith_leaf names at _ _ (a_function n) t = no_atom_at at (node.Call n []) (Node-F.Call n []) (node.outs-Call n []) refl

never_and : (t a : Bool) → a ≡ false → (t && a) ≡ false
never_and true a h = h
never_and false a h = refl

-- a dot behind such a part is a field
pub arith_dotted : (e : Exp) (x : Token) → is_atom (opened e) ≡ false → (x.touching && is_atom (opened e)) ≡ false
arith_dotted e x h = never_and x.touching (is_atom (opened e)) h

pub arith_no_atom_tree : (names : List (List ℕ)) (t : Tree) → Fits arithmetic t → AreReal names (text t) → is_atom (opened (meaning t)) ≡ false
arith_no_atom_tree names (operand k x) f r = arith_leaf names x.at k x.kind (is_leaf names k x.kind x r.0.0) f
arith_no_atom_tree names (post t (dot x)) f r = plain_dotted (meaning t) x (arith_dotted (meaning t) x (arith_no_atom_tree names t f.1 (real_left names (text t) (dot x ∷ []) r)))
arith_no_atom_tree names (post t (sign m x)) f r = absurd (let no : ◌≡◌ {A = Bool} false true = f.0 in cc)
arith_no_atom_tree names (post t (leaf k x)) f r = absurd (let no : ◌≡◌ {A = Bool} false true = f.0 in cc)
arith_no_atom_tree names (post t (opening k x)) f r = absurd (let no : ◌≡◌ {A = Bool} false true = f.0 in cc)
arith_no_atom_tree names (post t (closing k x)) f r = absurd (let no : ◌≡◌ {A = Bool} false true = f.0 in cc)
arith_no_atom_tree names (post t (other x)) f r = absurd (let no : ◌≡◌ {A = Bool} false true = f.0 in cc)
arith_no_atom_tree names (times t m x c) f r = absurd (let no : ◌≡◌ {A = Bool} false true = f.1 in cc)
arith_no_atom_tree names (bracket (plain round o) ts c) f r = parens_no_atom o.at (meanings ts)
arith_no_atom_tree names (bracket (plain dollar o) ts c) f r = arith_no_atom o.at (only (meanings ts))
arith_no_atom_tree names (bracket (plain square o) ts c) f r = absurd (let no : ◌≡◌ {A = Bool} false true = f.1 in cc)
arith_no_atom_tree names (bracket (plain brace o) ts c) f r = absurd (let no : ◌≡◌ {A = Bool} false true = f.1 in cc)
arith_no_atom_tree names (bracket (plain tick_round o) ts c) f r = absurd (let no : ◌≡◌ {A = Bool} false true = f.1 in cc)
arith_no_atom_tree names (bracket (plain tick_square o) ts c) f r = absurd (let no : ◌≡◌ {A = Bool} false true = f.1 in cc)
arith_no_atom_tree names (bracket (plain tick_brace o) ts c) f r = absurd (let no : ◌≡◌ {A = Bool} false true = f.1 in cc)
arith_no_atom_tree names (bracket (length o) ts c) f r = no_atom_at o.at (node.Len (only (meanings ts))) (Node-F.Len (only (meanings ts))) (node.outs-Len (only (meanings ts))) refl
arith_no_atom_tree names (bracket (arguments g o) ts c) f r = no_atom_at g.at (node.Call (name_of g.kind) (meanings ts)) (Node-F.Call (name_of g.kind) (meanings ts)) (node.outs-Call (name_of g.kind) (meanings ts)) refl
arith_no_atom_tree names (bracket (index t o) ts c) f r = indexed_no_atom (place (meaning t)) (meaning t) (meanings ts)
arith_no_atom_tree names (bracket (segment p o) ts c) f r = absurd (let no : ◌≡◌ {A = Bool} false true = f.0 in cc)
arith_no_atom_tree names (bracket (update p m x) ts c) f r = changed_no_atom (place (base p)) (is_extension m) (base p) (only (meanings ts)) (steps p)
arith_no_atom_tree names (bracket (below o i m x) ts c) f r = absurd (let no : ◌≡◌ {A = Bool} false true = f.1.0 in cc)
arith_no_atom_tree names (led (left l m x) t) f r = joined_no_atom (place (meaning l)) m (meaning l) (meaning t)
arith_no_atom_tree names (led (ahead m x) t) f r = prefixed_no_atom x.at x.at (is_tilde m) (is_minus m) m (meaning t)
arith_no_atom_tree names (led (items ts) t) f r =
    no_atom_at (first_place (meanings ts ++ meaning t ∷ [])) (node.Seq (meanings ts ++ meaning t ∷ [])) (Node-F.Seq (meanings ts ++ meaning t ∷ [])) (node.outs-Seq (meanings ts ++ meaning t ∷ [])) refl
