-- What a tree of the grammar means, where it stands for a notation, has a notation as its template.
use Rattle.std.proofs.Common.{rules, ◌≡◌, refl, sym, ◌∙◌, ap, subst, ℕ, suc, ◌+◌, ◌≤◌, List, [], ◌∷◌, ◌++◌, map, length, append_assoc, true, false, arith}
use Rattle.std.specs.Char.{is_ascii_uppercase}
use Rattle.std.specs.Prelude.{IsTrue, nat_le}
use Rattle.std.specs.List.{AllByRecursion, list_any, list_all}
use Rattle.std.proofs.lemmas.Bool.{and_parts, or_parts, leb-true}
use Rattle.std.proofs.lemmas.Bool.Decides.{nat_tests}
use Rattle.st_num.specs.declared.mark.Mark.{Mark}
use Rattle.st_num.specs.declared.mark.Mark.TheVariants as mark
use Rattle.st_num.specs.Signs.{is_notation, prefix_level, left_of, right_of}
use Rattle.st_num.specs.Signs.{level as level_of}
use Rattle.st_num.specs.declared.span.Span.{Span}
use Rattle.st_scan.specs.Bytes.{is_lower, is_letter, is_name_part}
use Rattle.st_scan.specs.Spelling.{is_name, has_lower}
use Rattle.st_num.specs.declared.token.Token.{Token}
use Rattle.st_grammar.specs.declared.sort.Leaf.TheVariants.{Low as low, Basic as basic, Variable as variable, Atom as atom_leaf, Number as number, Literal as literal, Function as function}
use Rattle.st_grammar.specs.declared.sort.Bracket.{Bracket}
use Rattle.st_grammar.specs.declared.sort.Bracket.TheVariants.{Round as round, Square as square, Brace as brace, TickRound as tick_round, TickSquare as tick_square, TickBrace as tick_brace, Dollar as dollar}
use Rattle.st_grammar.specs.declared.sort.Style.TheVariants.{Lone as lone, Run as in_run}
use Rattle.st_grammar.specs.declared.sort.Sort.TheVariants.{Notation as of_notation}
use Rattle.st_grammar.specs.Terminals.{Terminal, leaf, dot, sign, opening, closing, other}
use Rattle.st_grammar.specs.Levels.{tight, has_level, prefix_right}
use Rattle.st_grammar.specs.Trees as trees
use Rattle.st_grammar.specs.Trees.{Tree, operand, post, times, bracket, led, left, ahead, items, Trees, plain, arguments, index, segment, update, below, Path, head, field, part, closes, text, texts}
use Rattle.st_grammar.specs.Grammar.{is_atom, level, size, IsFilled, Fits, EachFits, PathFits}
use Rattle.st_el.specs.declared.ty.Typ.{Typ}
use Rattle.st_el.specs.declared.notation.Notation.{Notation, Notation-F, out-roll-Notation, the_lemmas}
use Rattle.st_el.specs.declared.notation.NotNode.{NotNode, out-NotNode}
use Rattle.st_el.specs.declared.notation.NotNode.TheOpen.{NotNode-F}
use Rattle.st_el.specs.declared.notation.NotNode.TheVariants as node
use Rattle.st_il.specs.declared.template.Enclosure.TheVariants.{Parens, Brackets, Braces}
use Rattle.st_il.specs.declared.template.Role.TheVariants.{Divides}
use Rattle.st_il.specs.declared.template.Template.{Template}
use Rattle.st_il.specs.declared.template.Template.TheVariants as template
use Rattle.st_il.specs.Notation.{role_of, is_name_byte, IsUpName, IsAtom, single, dotted, IsNotation, atom, hole, sequence, divided, without_left, AreElements, none, more}
use Rattle.st_il.specs.Notation as notations
use Rattle.st_parse.proofs.Standing.{front, behind}
use Rattle.st_parse_builder.specs.Names.{name_of}
use Rattle.st_parse_builder.specs.Notations.{typ_at, typ_leaf, notation_at, notation_place, notation_first, spelled_on, atom_on, notation_joined, only_notation, notation_meaning, notation_meanings}
use Rattle.st_parse_builder.specs.Notations as meant
use Rattle.st_elab_sig.specs.Signatures.{template_of}

-- ---- names

-- The name that a token of a notation spells is one of capitals.
abbrev pub HasUpName : Terminal → Type 0
HasUpName (leaf variable x) = IsUpName (name_of x.kind)
HasUpName (leaf atom_leaf x) = IsUpName (name_of x.kind)
HasUpName (dot x) = IsUpName (name_of x.kind)
HasUpName l = Unit {0}

abbrev pub HaveUpNames : List Terminal → Type 0
HaveUpNames = AllByRecursion HasUpName

up-byte : (b : ℕ) → is_name_part b ≡ true → is_lower b ≡ false → IsTrue (is_name_byte b)
up-byte b h k = grind (arith, nat_tests)

up-letter : (b : ℕ) → is_letter b ≡ true → is_lower b ≡ false → IsTrue (is_ascii_uppercase b)
up-letter b h k = grind (arith, nat_tests)

up-bytes : (bs : List ℕ) → list_all is_name_part bs ≡ true → list_any is_lower bs ≡ false → AllByRecursion (λ b. IsTrue (is_name_byte b)) bs
up-bytes [] h k = tt
up-bytes (b ∷ bs) h k =
    let parts = and_parts (is_name_part b) (list_all is_name_part bs) h in
    let none = or_parts (is_lower b) (list_any is_lower bs) k in
    (up-byte b parts.0 none.0, up-bytes bs parts.1 none.1)

-- a name without a lower-case letter is one of capitals
pub IsUpName-of : (name : List ℕ) → IsTrue (is_name name) → has_lower name ≡ false → IsUpName name
IsUpName-of [] h k = let no : false ≡ true = h in absurd (cc)
IsUpName-of (b ∷ bs) h k =
    let parts = and_parts (is_letter b) (list_all is_name_part bs) h in
    let none = or_parts (is_lower b) (list_any is_lower bs) k in
    (up-letter b parts.0 none.0, up-bytes bs parts.1 none.1)

IsAtom-dotted : {name : List ℕ} (behind_dot : List ℕ) → IsAtom name → IsUpName behind_dot → IsAtom (name ++ 46 ∷ behind_dot)
IsAtom-dotted {name} last (single u) h = dotted name last refl u (single h)
IsAtom-dotted last (dotted first rest e u a) h =
    dotted first (rest ++ 46 ∷ last) (ap (λ xs. xs ++ 46 ∷ last) e ∙ append_assoc first (46 ∷ rest) (46 ∷ last)) u (IsAtom-dotted last a h)

-- ---- templates of the forms of notations

pub template_of-Atom : (at : Span) (name : List ℕ) → template_of (notation_at at (node.Atom name)) ≡ template.Atom name
template_of-Atom at name = search (rules, the_lemmas)

pub template_of-Hole : (at : Span) (t : Typ) → template_of (notation_at at (node.Hole t)) ≡ template.Hole
template_of-Hole at t = search (rules, the_lemmas)

pub template_of-Seq : (at : Span) (ns : List Notation) → template_of (notation_at at (node.Seq ns)) ≡ template.Seq (map template_of ns)
template_of-Seq at ns = search (rules, the_lemmas)

pub template_of-Infix : (at : Span) (l : Notation) (m : Mark) (r : Notation) → template_of (notation_at at (node.Infix l m r)) ≡ template.Infix (template_of l) m (template_of r)
template_of-Infix at l m r = search (rules, the_lemmas)

pub template_of-Bracket : (at : Span) (m : Mark) (n : Notation) → template_of (notation_at at (node.Bracket m n)) ≡ template.Bracket m (template_of n)
template_of-Bracket at m n = search (rules, the_lemmas)

-- an atom goes on with the name behind a dot
atom_on-Atom : (at : Span) (name : List ℕ) (x : Token) → atom_on (notation_at at (node.Atom name)) x ≡ notation_at at (node.Atom (name ++ 46 ∷ name_of x.kind))
atom_on-Atom at name x =
    ap (λ (r : Notation-F NotNode Notation). notation_at r.at (spelled_on (out-NotNode r.node) (name_of x.kind))) (out-roll-Notation (record { at = at; node = node.Atom name }))
    ∙ ap (λ (y : NotNode-F NotNode Notation). notation_at at (spelled_on y (name_of x.kind))) (node.outs-Atom name)

-- ---- signs

role_of-notation : (m : Mark) → is_notation m ≡ true → role_of m ≡ Divides (level_of m)
role_of-notation mark.TickParen h = let no : false ≡ true = h in absurd (cc)
role_of-notation mark.TickBracket h = let no : false ≡ true = h in absurd (cc)
role_of-notation mark.TickBrace h = let no : false ≡ true = h in absurd (cc)
role_of-notation mark.CloseParen h = let no : false ≡ true = h in absurd (cc)
role_of-notation mark.CloseBracket h = let no : false ≡ true = h in absurd (cc)
role_of-notation mark.CloseBrace h = let no : false ≡ true = h in absurd (cc)
role_of-notation mark.Turnstile h = refl
role_of-notation mark.ReverseTurnstile h = refl
role_of-notation mark.SquigglyArrow h = refl
role_of-notation mark.SquigglyArrowStar h = refl
role_of-notation mark.Colon h = refl
role_of-notation mark.Subtype h = refl
role_of-notation mark.Supertype h = refl
role_of-notation mark.Approximately h = refl
role_of-notation mark.Define h = refl
role_of-notation mark.Semicolon h = refl
role_of-notation mark.Arrow h = refl
role_of-notation mark.DotDot h = refl
role_of-notation m h = let no : false ≡ true = h in absurd (cc)

sign-levels : (n : ℕ) → has_level of_notation n ≡ true → (7 ≤ n) × (n ≤ 12)
sign-levels n h = let parts = and_parts (nat_le 7 n) (nat_le n 12) h in (leb-true 7 n parts.0, leb-true n 12 parts.1)

-- ---- trees

no_path : (p : Path) → PathFits of_notation p → ⊥
no_path (head t o) h = let no : false ≡ true = h.0 in absurd (cc)
no_path (field p x) h = no_path p h
no_path (part p o ts c) h = no_path p h.0

-- what binds loosest in a notation is `|-`
pub level-least : (t : Tree) → Fits of_notation t → 7 ≤ level t
level-least (operand k x) h = omega arith
level-least (post t l) h = omega arith
level-least (times t m x c) h = omega arith
level-least (bracket h ts c) k = omega arith
level-least (led (left l m x) t) h = (sign-levels (level_of m) h.0.0).0
level-least (led (ahead m x) t) h = (sign-levels (prefix_level m) h.0).0
level-least (led (items ts) t) h = omega arith

-- what an atom of one name or several means
pub record MeansAtom (n : Notation) : Type 0 where
  pub at : Span
  pub name : List ℕ
  pub is : n ≡ notation_at at (node.Atom name)
  pub spelled : IsAtom name

means_atom : (t : Tree) → HaveUpNames (text t) → is_atom t ≡ true → MeansAtom (notation_meaning t)
means_atom (operand low x) s h = let no : false ≡ true = h in absurd (cc)
means_atom (operand basic x) s h = let no : false ≡ true = h in absurd (cc)
means_atom (operand variable x) s h = record { at = x.at; name = name_of x.kind; is = refl; spelled = single s.0 }
means_atom (operand atom_leaf x) s h = record { at = x.at; name = name_of x.kind; is = refl; spelled = single s.0 }
means_atom (operand number x) s h = let no : false ≡ true = h in absurd (cc)
means_atom (operand literal x) s h = let no : false ≡ true = h in absurd (cc)
means_atom (operand function x) s h = let no : false ≡ true = h in absurd (cc)
means_atom (post t (dot x)) s h =
    let before = means_atom t (front HasUpName (text t) (dot x ∷ []) s) h in
    let name : IsUpName (name_of x.kind) = (behind HasUpName (text t) (dot x ∷ []) s).0 in
    record {
      at = before.at;
      name = before.name ++ 46 ∷ name_of x.kind;
      is = ap (λ n. atom_on n x) before.is ∙ atom_on-Atom before.at before.name x;
      spelled = IsAtom-dotted (name_of x.kind) before.spelled name;
    }
means_atom (post t (leaf k x)) s h = let no : false ≡ true = h in absurd (cc)
means_atom (post t (sign m x)) s h = let no : false ≡ true = h in absurd (cc)
means_atom (post t (opening k x)) s h = let no : false ≡ true = h in absurd (cc)
means_atom (post t (closing k x)) s h = let no : false ≡ true = h in absurd (cc)
means_atom (post t (other x)) s h = let no : false ≡ true = h in absurd (cc)
means_atom (times t m x c) s h = let no : false ≡ true = h in absurd (cc)
means_atom (bracket k ts c) s h = let no : false ≡ true = h in absurd (cc)
means_atom (led g t) s h = let no : false ≡ true = h in absurd (cc)

is_hole : (n : ℕ) (at : Span) (t : Typ) → IsNotation n (template_of (meant.hole at t))
is_hole n at t = hole (template_of-Hole at t)

an_atom : (n : ℕ) (a : Notation) → MeansAtom a → IsNotation n (template_of a)
an_atom n a h = atom h.name (ap template_of h.is ∙ template_of-Atom h.at h.name) h.spelled

AreElements-append : {ts us : List Template} → AreElements ts → AreElements us → AreElements (ts ++ us)
AreElements-append none k = k
AreElements-append (more t ts) k = more t (AreElements-append ts k)

map-behind : (ns : List Notation) (n : Notation) → map template_of (ns ++ n ∷ []) ≡ map template_of ns ++ template_of n ∷ []
map-behind [] n = refl
map-behind (m ∷ ns) n = ap (λ ts. template_of m ∷ ts) (map-behind ns n)

length-behind : {A : Type 0} → (xs : List A) (x : A) → length (xs ++ x ∷ []) ≡ length xs + 1
length-behind [] x = refl
length-behind (y ∷ xs) x = let rest = length-behind xs x in omega (arith, rest)

length-map : (ns : List Notation) → length (map template_of ns) ≡ length ns
length-map [] = refl
length-map (n ∷ ns) = ap suc (length-map ns)

meanings-length : (ts : Trees) → length (notation_meanings ts) ≡ size ts
meanings-length trees.none = refl
meanings-length (trees.more ts pre t) = length-behind (notation_meanings ts) (notation_meaning t) ∙ ap (λ k. k + 1) (meanings-length ts)

-- only `|-` stands in a notation without a left side
ahead-notation : (m : Mark) (at : Span) (a : Notation) (n : ℕ) → has_level of_notation (prefix_level m) ≡ true → n ≤ prefix_level m → IsNotation (prefix_right m) (template_of a)
    → IsNotation n (template_of (notation_joined (notation_at at (node.Seq [])) m a))
ahead-notation mark.Turnstile at a n h k i =
    without_left (template_of a) k
    (template_of-Infix (notation_place (notation_at at (node.Seq []))) (notation_at at (node.Seq [])) mark.Turnstile a ∙ ap (λ t. template.Infix t mark.Turnstile (template_of a)) (template_of-Seq at [])) i
ahead-notation m at a n h k i = let no : false ≡ true = h in absurd (cc)

mutual
  -- What a tree means has such a template, which may stand where a level is due that is no tighter.
  pub IsNotation-meant : (t : Tree) (n : ℕ) → HaveUpNames (text t) → Fits of_notation t → n ≤ level t → IsNotation n (template_of (notation_meaning t))
  IsNotation-meant (operand low x) n s h k = is_hole n x.at (typ_at x.at (typ_leaf x.kind))
  IsNotation-meant (operand basic x) n s h k = is_hole n x.at (typ_at x.at (typ_leaf x.kind))
  IsNotation-meant (operand variable x) n s h k = an_atom n (notation_meaning (operand variable x)) (means_atom (operand variable x) s refl)
  IsNotation-meant (operand atom_leaf x) n s h k = an_atom n (notation_meaning (operand atom_leaf x)) (means_atom (operand atom_leaf x) s refl)
  IsNotation-meant (operand number x) n s h k = let no : false ≡ true = h in absurd (cc)
  IsNotation-meant (operand literal x) n s h k = let no : false ≡ true = h in absurd (cc)
  IsNotation-meant (operand function x) n s h k = let no : false ≡ true = h in absurd (cc)
  IsNotation-meant (post t (dot x)) n s h k =
      an_atom n (notation_meaning (post t (dot x))) (means_atom (post t (dot x)) s (and_parts (is_atom t) x.touching h.0).0)
  IsNotation-meant (post t (sign m x)) n s h k = is_hole n (meant.typ_start t) (meant.marked (meant.typ_start t) m (meant.typ_meaning t))
  IsNotation-meant (post t (leaf l x)) n s h k = let no : false ≡ true = h.0 in absurd (cc)
  IsNotation-meant (post t (opening l x)) n s h k = let no : false ≡ true = h.0 in absurd (cc)
  IsNotation-meant (post t (closing l x)) n s h k = let no : false ≡ true = h.0 in absurd (cc)
  IsNotation-meant (post t (other x)) n s h k = let no : false ≡ true = h.0 in absurd (cc)
  IsNotation-meant (times t m x c) n s h k = let no : false ≡ true = h.1 in absurd (cc)
  IsNotation-meant (bracket (plain round o) ts c) n s h k = is_hole n o.at (meant.typ_in_parens o.at (meant.typ_meanings ts))
  IsNotation-meant (bracket (plain tick_round o) ts c) n s h k =
      notations.bracket mark.TickParen Parens (template_of (only_notation (notation_meanings ts))) (template_of-Bracket o.at mark.TickParen (only_notation (notation_meanings ts))) refl
      (only-notation tick_round o ts (front HasUpName (texts ts) (closing (closes (plain tick_round o)) c ∷ []) s.1) h.2 h.3)
  IsNotation-meant (bracket (plain tick_square o) ts c) n s h k =
      notations.bracket mark.TickBracket Brackets (template_of (only_notation (notation_meanings ts))) (template_of-Bracket o.at mark.TickBracket (only_notation (notation_meanings ts))) refl
      (only-notation tick_square o ts (front HasUpName (texts ts) (closing (closes (plain tick_square o)) c ∷ []) s.1) h.2 h.3)
  IsNotation-meant (bracket (plain tick_brace o) ts c) n s h k =
      notations.bracket mark.TickBrace Braces (template_of (only_notation (notation_meanings ts))) (template_of-Bracket o.at mark.TickBrace (only_notation (notation_meanings ts))) refl
      (only-notation tick_brace o ts (front HasUpName (texts ts) (closing (closes (plain tick_brace o)) c ∷ []) s.1) h.2 h.3)
  IsNotation-meant (bracket (plain square o) ts c) n s h k = let no : false ≡ true = h.1 in absurd (cc)
  IsNotation-meant (bracket (plain brace o) ts c) n s h k = let no : false ≡ true = h.1 in absurd (cc)
  IsNotation-meant (bracket (plain dollar o) ts c) n s h k = let no : false ≡ true = h.1 in absurd (cc)
  IsNotation-meant (bracket (trees.length o) ts c) n s h k = let no : false ≡ true = h.1 in absurd (cc)
  IsNotation-meant (bracket (arguments f o) ts c) n s h k = let no : false ≡ true = h.1.0 in absurd (cc)
  IsNotation-meant (bracket (index t o) ts c) n s h k = let no : false ≡ true = h.1.0 in absurd (cc)
  IsNotation-meant (bracket (segment p o) ts c) n s h k = let no : false ≡ true = h.0 in absurd (cc)
  IsNotation-meant (bracket (update p m x) ts c) n s h k = absurd (no_path p h.1.0)
  IsNotation-meant (bracket (below o i m x) ts c) n s h k = let no : false ≡ true = h.1.0 in absurd (cc)
  IsNotation-meant (led (left l m x) t) n s h k =
      divided (level_of m) (template_of (notation_meaning l)) m (template_of (notation_meaning t)) k (template_of-Infix (notation_place (notation_meaning l)) (notation_meaning l) m (notation_meaning t)) (role_of-notation m h.0.0)
      (IsNotation-meant l (left_of (level_of m)) (front HasUpName (text l) (sign m x ∷ []) (front HasUpName (text l ++ sign m x ∷ []) (text t) s)) h.0.1 h.0.2)
      (IsNotation-meant t (right_of (level_of m)) (behind HasUpName (text l ++ sign m x ∷ []) (text t) s) h.1 h.2)
  IsNotation-meant (led (ahead m x) t) n s h k = ahead-notation m x.at (notation_meaning t) n h.0 k (IsNotation-meant t (prefix_right m) s.1 h.1 h.2)
  IsNotation-meant (led (items ts) t) n s h k =
      let last : tight ≤ level t = h.2 in
      let some : 1 ≤ size ts = h.0.2 in
      let count = meanings-length ts in
      let all = length-behind (notation_meanings ts) (notation_meaning t) in
      let same = length-map (notation_meanings ts ++ notation_meaning t ∷ []) in
      sequence (map template_of (notation_meanings ts ++ notation_meaning t ∷ [])) k (template_of-Seq (notation_first (notation_meanings ts ++ notation_meaning t ∷ [])) (notation_meanings ts ++ notation_meaning t ∷ []))
      (subst AreElements (sym (map-behind (notation_meanings ts) (notation_meaning t)))
      (AreElements-append (AreElements-meant ts (front HasUpName (texts ts) (text t) s) h.0.1) (more (IsNotation-meant t 15 (behind HasUpName (texts ts) (text t) s) h.1 (omega (arith, last))) none)))
      (omega (arith, same, all, count, some))

  AreElements-meant : (ts : Trees) → HaveUpNames (texts ts) → EachFits of_notation in_run tight ts → AreElements (map template_of (notation_meanings ts))
  AreElements-meant trees.none s h = none
  AreElements-meant (trees.more ts pre t) s h =
      let last : tight ≤ level t = h.3 in
      let there = behind HasUpName (texts ts) (pre ++ text t) s in
      subst AreElements (sym (map-behind (notation_meanings ts) (notation_meaning t)))
      (AreElements-append (AreElements-meant ts (front HasUpName (texts ts) (pre ++ text t) s) h.0) (more (IsNotation-meant t 15 (behind HasUpName pre (text t) there) h.2 (omega (arith, last))) none))

  -- the one part of backquoted brackets
  only-notation : (b : Bracket) (o : Token) (ts : Trees) → HaveUpNames (texts ts) → EachFits of_notation lone 1 ts → IsFilled (plain b o) ts
      → IsNotation 7 (template_of (only_notation (notation_meanings ts)))
  only-notation b o trees.none s h filled = absurd filled
  only-notation b o (trees.more trees.none pre t) s h filled = IsNotation-meant t 7 (behind HasUpName pre (text t) s) h.2 (level-least t h.2)
  only-notation b o (trees.more (trees.more ts q u) pre t) s h filled = absurd h.1
