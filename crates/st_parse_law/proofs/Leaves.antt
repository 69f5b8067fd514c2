-- Operands of one token.
use Rattle.std.proofs.Common.{◌≡◌, ℕ, ◌≤◌, ◌<◌, ◌^◌, List, [], ◌∷◌, ◌++◌, codes, Bool, true, false, not, ◌==◌, refl, sym, ap, ◌∙◌, subst, arith, inl}
use Rattle.std.specs.Fmt.{decimal}
use Rattle.std.specs.Prelude.{IsTrue, if◌then◌else◌}
use Rattle.std.specs.List.{list_all}
use Rattle.std.specs.Char.{digit_value}
use Rattle.std.specs.Str.Parse.{IsNumeral}
use Rattle.std.proofs.lemmas.Bool.{and_parts, ne_eqb}
use Rattle.std.proofs.lemmas.List.{append-nil}
use Rattle.std.proofs.lemmas.Fmt.{decimal_is_IsNumeral_wide}
use Rattle.st_num.specs.declared.span.Span.{Span}
use Rattle.st_num.specs.declared.mark.Mark.{Mark}
use Rattle.st_num.specs.declared.mark.Mark.TheVariants as mark
use Rattle.st_scan.specs.Bytes.{is_letter, is_name_part}
use Rattle.st_scan.specs.Spelling.{Spells, is_name, has_lower}
use Rattle.st_num.specs.Texts.{quoted}
use Rattle.st_num.specs.Words.{word_spelling}
use Rattle.st_num.specs.declared.word.Word.{Word}
use Rattle.st_num.specs.declared.word.Word.TheVariants as word
use Rattle.st_num.specs.declared.token.Token.{Token}
use Rattle.st_num.specs.declared.token.TokenKind.{TokenKind}
use Rattle.st_num.specs.declared.token.TokenKind.TheVariants as kind
use Rattle.st_grammar.specs.declared.sort.Sort.{Sort}
use Rattle.st_grammar.specs.declared.sort.Sort.TheVariants.{Expression as expression, Arithmetic as arithmetic}
use Rattle.st_grammar.specs.declared.sort.Leaf.{Leaf}
use Rattle.st_grammar.specs.declared.sort.Leaf.TheVariants.{Low as low, Basic as basic, Variable as variable, Atom as atom, Number as number, Literal as literal, Function as function}
use Rattle.st_grammar.specs.Levels.{takes}
use Rattle.st_grammar.specs.Terminals.{Terminal, leaf, dot, other, kind_terminal, is_variable}
use Rattle.st_grammar.specs.Trees.{operand, text}
use Rattle.st_el.specs.declared.expression.Node.{out-Node}
use Rattle.st_el.specs.declared.expression.Node.TheVariants as node
use Rattle.st_el.specs.declared.expression.Count.TheOpen.{Node-F}
use Rattle.st_el.specs.declared.context.Around.{Around}
use Rattle.st_el.specs.declared.context.Around.TheVariants.{Brackets, Bars, Arithmetic, Caret}
use Rattle.st_el.specs.declared.context.Behind.TheVariants.{Dot}
use Rattle.st_el.specs.Wrappings.{Level, level_of, takes_in, is_arithmetic as of_arithmetic}
use Rattle.st_el.specs.SourceText.{front, postfix, parts_printed, opened as printed_parts}
use Rattle.st_el.specs.Plain.{nowhere, plain_exp, plain_node}
use Rattle.st_parse_builder.specs.Names.{leaf_node}
use Rattle.st_parse_builder.specs.Meaning.{exp, meaning, is_atom, opened}
use Rattle.st_parse_law.specs.Written.{token, bytes_of, IsAllowed}
use Rattle.st_parse_law.proofs.Cuts.{single, one_terminal}
use Rattle.st_parse_law.proofs.Ends.{Front, letter_front, is_word, word_ends}
use Rattle.st_parse_law.proofs.Plains.{plain-exp, node-of}
use Rattle.st_parse_law.proofs.Parts.{Traits, Part, is_arithmetic, part_as}
use Rattle.st_parse_law.proofs.Placed.{Home, sort_of, bare_traits, Printable, printable, normal}

-- which operand a token is, where these names are declared by `var`
pub data IsLeaf (names : List (List ℕ)) : Leaf → TokenKind → Type 0 where
  a_low : (n : List ℕ) → IsLeaf names low (kind.Low n)
  a_variable : (n : List ℕ) → is_variable names n ≡ true → IsLeaf names variable (kind.Up n)
  an_atom : (n : List ℕ) → is_variable names n ≡ false → IsLeaf names atom (kind.Up n)
  a_bool : IsLeaf names basic (kind.Reserved word.Bool)
  a_nat : IsLeaf names basic (kind.Reserved word.Nat)
  an_int : IsLeaf names basic (kind.Reserved word.Int)
  a_text_type : IsLeaf names basic (kind.Reserved word.Text)
  a_true : IsLeaf names literal (kind.Reserved word.True)
  a_false : IsLeaf names literal (kind.Reserved word.False)
  an_eps : IsLeaf names literal (kind.Reserved word.Eps)
  a_number : (n : ℕ) → IsLeaf names number (kind.Number n)
  a_text : (t : List ℕ) → IsLeaf names literal (kind.Text t)
  a_function : (n : List ℕ) → IsLeaf names function (kind.Fun n)

abbrev leaf_in : Terminal → Leaf
leaf_in (leaf k x) = k
leaf_in l = low

as_leaf : (names : List (List ℕ)) (k j : Leaf) (kd : TokenKind) (x : Token) → leaf k x ≡ leaf j x → IsLeaf names j kd → IsLeaf names k kd
as_leaf names k j kd x e h = subst (λ i. IsLeaf names i kd) (sym (ap leaf_in e)) h

up_leaf : (names : List (List ℕ)) (k : Leaf) (n : List ℕ) (x : Token) (v : Bool) → is_variable names n ≡ v
    → leaf k x ≡ (if v then leaf variable x else leaf atom x) → IsLeaf names k (kind.Up n)
up_leaf names k n x true v e = as_leaf names k variable (kind.Up n) x e (a_variable n v)
up_leaf names k n x false v e = as_leaf names k atom (kind.Up n) x e (an_atom n v)

dot_leaf : (names : List (List ℕ)) (k : Leaf) (n : List ℕ) (x : Token) (v : Bool)
    → leaf k x ≡ (if v then other x else dot x) → IsLeaf names k (kind.Dot n)
dot_leaf names k n x true e = absurd (cc)
dot_leaf names k n x false e = absurd (cc)

word_leaf : (names : List (List ℕ)) (k : Leaf) (w : Word) (x : Token) → leaf k x ≡ kind_terminal names (kind.Reserved w) x → IsLeaf names k (kind.Reserved w)
word_leaf names k word.Bool x e = as_leaf names k basic _ x e a_bool
word_leaf names k word.Nat x e = as_leaf names k basic _ x e a_nat
word_leaf names k word.Int x e = as_leaf names k basic _ x e an_int
word_leaf names k word.Text x e = as_leaf names k basic _ x e a_text_type
word_leaf names k word.True x e = as_leaf names k literal _ x e a_true
word_leaf names k word.False x e = as_leaf names k literal _ x e a_false
word_leaf names k word.Eps x e = as_leaf names k literal _ x e an_eps
word_leaf names k _ x e = absurd (cc)

sign_leaf : (names : List (List ℕ)) (k : Leaf) (m : Mark) (x : Token) → leaf k x ≡ kind_terminal names (kind.Sign m) x → ⊥
sign_leaf names k mark.OpenParen x e = cc
sign_leaf names k _ x e = cc

pub is_leaf : (names : List (List ℕ)) (k : Leaf) (kd : TokenKind) (x : Token) → leaf k x ≡ kind_terminal names kd x → IsLeaf names k kd
is_leaf names k (kind.Low n) x e = as_leaf names k low _ x e (a_low n)
is_leaf names k (kind.Up n) x e = up_leaf names k n x (is_variable names n) refl e
is_leaf names k (kind.Mix n) x e = absurd (cc)
is_leaf names k (kind.Reserved w) x e = word_leaf names k w x e
is_leaf names k (kind.Number n) x e = as_leaf names k number _ x e (a_number n)
is_leaf names k (kind.Text t) x e = as_leaf names k literal _ x e (a_text t)
is_leaf names k (kind.Dot n) x e = dot_leaf names k n x (has_lower n) e
is_leaf names k (kind.Fun n) x e = as_leaf names k function _ x e (a_function n)
is_leaf names k (kind.Sign m) x e = absurd (sign_leaf names k m x e)

-- ---- an operand is one piece

leaf_plain : (at : Span) (k : Leaf) (kd : TokenKind) (x : Token) → x.kind ≡ kd → plain_exp (meaning (operand k x)) ≡ plain_exp (exp at (leaf_node k kd))
leaf_plain at k kd x e =
    plain-exp x.at (leaf_node k x.kind) ∙ ap (λ j. exp nowhere (plain_node (leaf_node k j))) e ∙ sym (plain-exp at (leaf_node k kd))

leaf_no_atom : (k : Leaf) (kd : TokenKind) (x : Token) → x.kind ≡ kd → is_atom (out-Node (leaf_node k kd)) ≡ false → is_atom (opened (meaning (operand k x))) ≡ false
leaf_no_atom k kd x e h = ap (λ n. is_atom (out-Node n)) (node-of x.at (leaf_node k x.kind)) ∙ ap (λ j. is_atom (out-Node (leaf_node k j))) e ∙ h

-- the token of an operand, and its bytes
pub record OneWord (names : List (List ℕ)) (k : Leaf) (kd : TokenKind) (bytes : List ℕ) : Type 0 where
  pub spelled : Spells bytes kd
  pub allowed : IsAllowed kd
  pub word : is_word kd ≡ true
  pub front : (a : Bool) → Front a bytes
  pub seen : (x : Token) → kind_terminal names kd x ≡ leaf k x

pub leaf_part :
    (names : List (List ℕ)) (σ : Sort) (at : Span) (k : Leaf) (kd : TokenKind) (traits : Traits) (bytes : List ℕ) → OneWord names k kd bytes → takes σ k ≡ true
    → traits.level ≤ 20 → (traits.dots ≡ true → is_atom (out-Node (leaf_node k kd)) ≡ false)
    → Part names σ (exp at (leaf_node k kd)) traits bytes
leaf_part names σ at k kd traits bytes w taken under dots = record {
  pieces = token kd bytes ∷ [];
  same = append-nil bytes;
  ends = λ b. refl;
  front = w.front (is_arithmetic σ);
  apart = λ more c a. (w.spelled, w.allowed, word_ends kd traits.plus (bytes_of more) w.word c, a);
  reads = λ b xs s. let x = single xs kd b s in record {
    tree = operand k x.only;
    spelled = one_terminal names xs kd b x ∙ ap (λ l. l ∷ []) (w.seen x.only);
    fits = taken;
    plain = leaf_plain at k kd x.only x.kind;
    level = under;
    dots = λ h. leaf_no_atom k kd x.only x.kind (dots h);
    no_bar = λ h. refl;
  };
}

takes_home : (σ : Sort) (a : Around) (k : Leaf) → Home σ a → takes σ k ≡ true → takes (sort_of a) k ≡ true
takes_home (expression b) Brackets k h t = refl
takes_home (expression b) Bars k h t = refl
takes_home arithmetic Arithmetic k h t = t
takes_home (expression b) Arithmetic k h t = absurd h
takes_home (expression b) Caret k h t = absurd h
takes_home arithmetic Brackets k h t = absurd h
takes_home arithmetic Bars k h t = absurd h
takes_home arithmetic Caret k h t = absurd h
takes_home σ a k h t = absurd h

leaf_printable :
    (names : List (List ℕ)) (σ : Sort) (at : Span) (k : Leaf) (kd : TokenKind) (bytes : List ℕ) (l : Level) → printed_parts (leaf_node k kd) ≡ l
    → level_of l ≡ 20 → of_arithmetic l ≡ false → (not (takes_in Dot l) ≡ true → is_atom (out-Node (leaf_node k kd)) ≡ false)
    → ((a : Around) → front a l ++ postfix l ≡ bytes) → OneWord names k kd bytes → takes σ k ≡ true
    → Printable names σ (exp at (leaf_node k kd))
leaf_printable names σ at k kd bytes l is tight ok dots text w taken =
    printable names σ at (leaf_node k kd) l is (omega (arith, tight)) (normal σ l ok)
    (λ a home. part_as names (sort_of a) (exp at (leaf_node k kd)) (exp at (leaf_node k kd)) (bare_traits l) bytes (front a l ++ postfix l) refl (sym (text a))
    (leaf_part names (sort_of a) at k kd (bare_traits l) bytes w (takes_home σ a k home taken) (omega (arith, tight)) dots))

-- ---- each operand

-- some text spells the token, which a file may have
abbrev pub IsWritten : TokenKind → Type 0
IsWritten kd = (bytes : List ℕ) × Spells bytes kd × IsAllowed kd

name_front : (n : List ℕ) (a : Bool) → IsTrue (is_name n) → Front a n
name_front [] a h = absurd (cc)
name_front (b ∷ bs) a h = letter_front a b bs (and_parts (is_letter b) (list_all is_name_part bs) h).0

digit_byte : (b c : ℕ) → 10 ≤ digit_value c → digit_value b < 10 → (b == c) ≡ false
digit_byte b c h d = ne_eqb b c (λ e. let same : digit_value b ≡ digit_value c = ap digit_value e in omega (arith, h, d, same))

numeral_front : (ds : List ℕ) (a : Bool) → IsNumeral 10 ds → Front a ds
numeral_front [] a h = absurd (omega (arith, h.0))
numeral_front (b ∷ bs) a h = record {
  first = b;
  rest = bs;
  is = refl;
  no_semicolon = digit_byte b 59 (omega arith) h.1.0;
  no_minus = λ _. digit_byte b 45 (omega arith) h.1.0;
}

-- how an operand is printed
abbrev pub canonical : TokenKind → List ℕ
canonical (kind.Low n) = n
canonical (kind.Up n) = n
canonical (kind.Reserved w) = word_spelling w
canonical (kind.Number n) = decimal n
canonical (kind.Text t) = quoted t
canonical (kind.Fun n) = 36 ∷ n
canonical kd = []

pub number_written : (n : ℕ) → n < 2 ^ 128 → Spells (decimal n) (kind.Number n)
number_written n h =
    let is = decimal_is_IsNumeral_wide n (omega (arith, h)) in inl (is.0, sym is.1)

word_front : (w : List ℕ) (b : ℕ) (rest : List ℕ) (a : Bool) → w ≡ b ∷ rest → is_letter b ≡ true → Front a w
word_front w b rest a e h = subst (Front a) (sym e) (letter_front a b rest h)

pub leaf_word : (names : List (List ℕ)) (k : Leaf) (kd : TokenKind) → IsLeaf names k kd → IsWritten kd → OneWord names k kd (canonical kd)
leaf_word names _ _ (a_low n) w = record { spelled = (refl, w.1.1, w.1.2, w.1.3); allowed = tt; word = refl; front = λ a. name_front n a w.1.1; seen = λ x. refl }
leaf_word names _ _ (a_variable n v) w = record { spelled = (refl, w.1.1, w.1.2); allowed = tt; word = refl; front = λ a. name_front n a w.1.1; seen = λ x. ap (λ t. if t then leaf variable x else leaf atom x) v }
leaf_word names _ _ (an_atom n v) w = record { spelled = (refl, w.1.1, w.1.2); allowed = tt; word = refl; front = λ a. name_front n a w.1.1; seen = λ x. ap (λ t. if t then leaf variable x else leaf atom x) v }
leaf_word names _ _ a_bool w = record { spelled = refl; allowed = tt; word = refl; front = λ a. letter_front a 98 _ refl; seen = λ x. refl }
leaf_word names _ _ a_nat w = record { spelled = refl; allowed = tt; word = refl; front = λ a. letter_front a 110 _ refl; seen = λ x. refl }
leaf_word names _ _ an_int w = record { spelled = refl; allowed = tt; word = refl; front = λ a. letter_front a 105 _ refl; seen = λ x. refl }
leaf_word names _ _ a_text_type w = record { spelled = refl; allowed = tt; word = refl; front = λ a. letter_front a 116 _ refl; seen = λ x. refl }
leaf_word names _ _ a_true w = record { spelled = refl; allowed = tt; word = refl; front = λ a. letter_front a 116 _ refl; seen = λ x. refl }
leaf_word names _ _ a_false w = record { spelled = refl; allowed = tt; word = refl; front = λ a. letter_front a 102 _ refl; seen = λ x. refl }
leaf_word names _ _ an_eps w = record { spelled = refl; allowed = tt; word = refl; front = λ a. letter_front a 101 _ refl; seen = λ x. refl }
leaf_word names _ _ (a_number n) w = record { spelled = number_written n w.2; allowed = w.2; word = refl; front = λ a. numeral_front (decimal n) a (decimal_is_IsNumeral_wide n (omega (arith, w.2))).0; seen = λ x. refl }
leaf_word names _ _ (a_text t) w = record { spelled = (refl, w.1.1); allowed = w.2; word = refl; front = λ a. record { first = 34; rest = _; is = refl; no_semicolon = refl; no_minus = λ _. refl }; seen = λ x. refl }
leaf_word names _ _ (a_function n) w = record { spelled = (refl, w.1.1, w.1.2); allowed = tt; word = refl; front = λ a. record { first = 36; rest = _; is = refl; no_semicolon = refl; no_minus = λ _. refl }; seen = λ x. refl }

word_printed :
    (names : List (List ℕ)) (σ : Sort) (at : Span) (w : Word) → IsLeaf names basic (kind.Reserved w) → IsWritten (kind.Reserved w) → takes σ basic ≡ true
    → Printable names σ (exp at (leaf_node basic (kind.Reserved w)))
word_printed names σ at w l is t =
    leaf_printable names σ at basic (kind.Reserved w) (word_spelling w) (Node-F.Name (word_spelling w)) (ap parts_printed (node.outs-Name (word_spelling w))) refl refl
    (λ _. ap is_atom (node.outs-Name (word_spelling w))) (λ a. append-nil (word_spelling w)) (leaf_word names basic (kind.Reserved w) l is) t

pub leaf_printed :
    (names : List (List ℕ)) (σ : Sort) (at : Span) (k : Leaf) (kd : TokenKind) → IsLeaf names k kd → IsWritten kd → takes σ k ≡ true
    → Printable names σ (exp at (leaf_node k kd))
leaf_printed names σ at _ _ (a_low n) w t = leaf_printable names σ at low (kind.Low n) n (Node-F.Name n) (ap parts_printed (node.outs-Name n)) refl refl (λ _. ap is_atom (node.outs-Name n)) (λ a. append-nil n) (leaf_word names low (kind.Low n) (a_low n) w) t
leaf_printed names σ at k kd (a_variable n v) w t = leaf_printable names σ at variable (kind.Up n) n (Node-F.Name n) (ap parts_printed (node.outs-Name n)) refl refl (λ _. ap is_atom (node.outs-Name n)) (λ a. append-nil n) (leaf_word names variable (kind.Up n) (a_variable n v) w) t
leaf_printed names σ at k kd (an_atom n v) w t = leaf_printable names σ at atom (kind.Up n) n (Node-F.Atom n) (ap parts_printed (node.outs-Atom n)) refl refl (λ h. absurd (cc)) (λ a. append-nil n) (leaf_word names atom (kind.Up n) (an_atom n v) w) t
leaf_printed names σ at k kd a_bool w t = word_printed names σ at word.Bool a_bool w t
leaf_printed names σ at k kd a_nat w t = word_printed names σ at word.Nat a_nat w t
leaf_printed names σ at k kd an_int w t = word_printed names σ at word.Int an_int w t
leaf_printed names σ at k kd a_text_type w t = word_printed names σ at word.Text a_text_type w t
leaf_printed names σ at k kd a_true w t = leaf_printable names σ at literal (kind.Reserved word.True) (codes "true") (Node-F.Bool true) (ap parts_printed (node.outs-Bool true)) refl refl (λ _. ap is_atom (node.outs-Bool true)) (λ a. refl) (leaf_word names literal (kind.Reserved word.True) a_true w) t
leaf_printed names σ at k kd a_false w t = leaf_printable names σ at literal (kind.Reserved word.False) (codes "false") (Node-F.Bool false) (ap parts_printed (node.outs-Bool false)) refl refl (λ _. ap is_atom (node.outs-Bool false)) (λ a. refl) (leaf_word names literal (kind.Reserved word.False) a_false w) t
leaf_printed names σ at k kd an_eps w t = leaf_printable names σ at literal (kind.Reserved word.Eps) (codes "eps") Node-F.Eps (ap parts_printed node.outs-Eps) refl refl (λ _. ap is_atom node.outs-Eps) (λ a. refl) (leaf_word names literal (kind.Reserved word.Eps) an_eps w) t
leaf_printed names σ at k kd (a_number n) w t = leaf_printable names σ at number (kind.Number n) (decimal n) (Node-F.Number n) (ap parts_printed (node.outs-Number n)) refl refl (λ _. ap is_atom (node.outs-Number n)) (λ a. append-nil (decimal n)) (leaf_word names number (kind.Number n) (a_number n) w) t
leaf_printed names σ at k kd (a_text b) w t = leaf_printable names σ at literal (kind.Text b) (quoted b) (Node-F.Text b) (ap parts_printed (node.outs-Text b)) refl refl (λ _. ap is_atom (node.outs-Text b)) (λ a. append-nil (quoted b)) (leaf_word names literal (kind.Text b) (a_text b) w) t
leaf_printed names σ at k kd (a_function n) w t = leaf_printable names σ at function (kind.Fun n) (36 ∷ n) (Node-F.Call n []) (ap parts_printed (node.outs-Call n [])) refl refl (λ _. ap is_atom (node.outs-Call n [])) (λ a. append-nil (36 ∷ n)) (leaf_word names function (kind.Fun n) (a_function n) w) t
