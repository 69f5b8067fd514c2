-- Of tokens with texts that values want, expressions have such texts alone.
use Rattle.std.proofs.Common.{◌≡◌, ℕ, List, [], ◌∷◌, ◌++◌, map, flat_map, Bool, true, false, ◌==◌, ◌&&◌, All, refl, sym, ap, ◌∙◌, subst, arith, rules, inl, inr, nat_le, if◌then◌else◌}
use Rattle.std.specs.List.{list_all}
use Rattle.std.proofs.lemmas.Bool.{and_parts}
use Rattle.std.proofs.lemmas.Bool.Decides.{nat_tests}
use Rattle.std.proofs.lemmas.List.Elements.{All-nil, All-cons, All-head, All-tail, All-push, All-append, All-same}
use Rattle.std.proofs.lemmas.Str.{IsUtf8-append, IsUtf8-nil}
use Rattle.st_num.specs.Texts.{IsText, IsTextByte}
use Rattle.st_num.specs.Signs.{is_notation}
use Rattle.st_num.specs.Words.{word_spelling}
use Rattle.st_num.specs.declared.mark.Mark.{Mark}
use Rattle.st_num.specs.declared.span.Span.{Span}
use Rattle.st_num.specs.declared.word.Word.{Word}
use Rattle.st_num.specs.declared.word.Word.TheVariants as word
use Rattle.st_num.specs.declared.token.Token.{Token}
use Rattle.st_num.specs.declared.token.TokenKind.{TokenKind}
use Rattle.st_num.specs.declared.token.TokenKind.TheVariants as kind
use Rattle.st_scan.specs.Bytes.{is_name_part, is_text_byte}
use Rattle.st_scan.specs.Answers.{IsText as IsScanned, text_in, HaveTexts}
use Rattle.st_scan.specs.Tokens.{Run, Tokens}
use Rattle.st_scan.proofs.Answers.{tokens_texts}
use Rattle.st_scan.proofs.Spelled.{as_word}
use Rattle.st_grammar.specs.declared.sort.Leaf.{Leaf}
use Rattle.st_grammar.specs.declared.sort.Leaf.TheVariants.{Low as low, Basic as basic, Variable as variable, Atom as atom, Number as number_leaf, Literal as literal, Function as function}
use Rattle.st_grammar.specs.declared.sort.Bracket.{Bracket}
use Rattle.st_grammar.specs.declared.sort.Bracket.TheVariants.{Round as round, Square as square, Brace as brace, TickRound as tick_round, TickSquare as tick_square, TickBrace as tick_brace, Dollar as dollar}
use Rattle.st_grammar.specs.Terminals.{Terminal, leaf, dot, sign, opening, closing, other, terminal}
use Rattle.st_grammar.specs.Trees.{Tree, operand, post, times, bracket, led, Lead, left, ahead, items, Trees, none, more, Heading, plain, length, arguments, index, segment, update, below, Path, head, field, part, closes, text, texts, lead_text, heading_text, path_text}
use Rattle.st_grammar.specs.Definitions.{token_in, is_minus}
use Rattle.st_grammar.proofs.TerminalTokens.{terminal_token}
use Rattle.st_el.specs.declared.expression.Exp.{Exp, out-Exp, fold_out-Exp, the_lemmas}
use Rattle.st_el.specs.declared.expression.Node.{Node, out-Node, map-Node, fold_out-Node}
use Rattle.st_el.specs.declared.expression.Node.TheVariants as node
use Rattle.st_el.specs.declared.expression.Count.{Count}
use Rattle.st_el.specs.declared.expression.Count.TheOpen.{Node-F}
use Rattle.st_el.specs.declared.expression.Count.TheVariants as count
use Rattle.st_el.specs.declared.expression.Seg.{Seg}
use Rattle.st_el.specs.declared.expression.Seg.TheVariants as seg
use Rattle.st_el.specs.Plain.{nowhere}
use Rattle.st_parse_builder.specs.Names.{name_of, literal_node, leaf_node}
use Rattle.st_parse_builder.specs.Meaning.{exp, place, first_place, is_tilde, opened, atom_name, is_atom, posted, is_star, is_plus, mark_count, count_of, only, in_parens, enclosed, label, step_at, indexed_node, is_extension, meaning, led_by, meanings, field_meanings, bracketed, base, steps}
use Rattle.st_parse.specs.ExpressionSource.{ParseExps}
use Rattle.st_parse_law.specs.SourceTexts.{AreTexts, kind_texts, IsProper, AreProper, Found, all_of, count_texts_at, step_texts_at, node_texts_at, exp_texts_at, exp_texts, node_texts, count_texts, step_texts, HasTexts}
use Rattle.st_parse_law.proofs.Encodings.{parts_utf8, behind_ascii}
use Rattle.st_parse_law.proofs.Plains.{node-of}

-- ---- texts

pub empty_text : IsText []
empty_text = record { utf8 = IsUtf8-nil; printable = All-nil IsTextByte }

part_printable : (b : ℕ) → is_name_part b ≡ true → IsTextByte b
part_printable b e = inl (grind (arith, nat_tests))

parts_printable : (name : List ℕ) → list_all is_name_part name ≡ true → All IsTextByte name
parts_printable [] e = All-nil IsTextByte
parts_printable (b ∷ bs) e =
    let both = and_parts (is_name_part b) (list_all is_name_part bs) e in
    All-cons IsTextByte b bs (part_printable b both.0) (parts_printable bs both.1)

pub parts_text : (name : List ℕ) → list_all is_name_part name ≡ true → IsText name
parts_text name e = record { utf8 = parts_utf8 name e; printable = parts_printable name e }

pub word_text : (w : Word) → IsText (word_spelling w)
word_text w = parts_text (word_spelling w) (as_word (word_spelling w) (kind.Reserved w) refl refl)

pub named_on : (name behind : List ℕ) → IsText name → IsText behind → IsText (name ++ 46 ∷ behind)
named_on name behind h k = record {
  utf8 = IsUtf8-append name (46 ∷ behind) h.utf8 (behind_ascii 46 behind (omega arith) k.utf8);
  printable = All-append IsTextByte name (46 ∷ behind) h.printable (All-cons IsTextByte 46 behind (inl (omega arith)) k.printable);
}

pub no_texts : AreTexts []
no_texts = All-nil IsText

pub one_text : (name : List ℕ) → IsText name → AreTexts (name ∷ [])
one_text name h = All-cons IsText name [] h no_texts

pub first_text : (name : List ℕ) (names : List (List ℕ)) → IsText name → AreTexts names → AreTexts (name ∷ names)
first_text name names h k = All-cons IsText name names h k

pub both_texts : (xs ys : Found) → AreTexts xs → AreTexts ys → AreTexts (xs ++ ys)
both_texts xs ys h k = All-append IsText xs ys h k

pub same_texts : (xs ys : Found) → xs ≡ ys → AreTexts ys → AreTexts xs
same_texts xs ys e h = All-same IsText xs ys e h

-- ---- tokens

abbrev pub IsKnown : Terminal → Type 0
IsKnown l = IsProper (token_in l)

abbrev pub AreKnown : List Terminal → Type 0
AreKnown [] = Unit {0}
AreKnown (l ∷ ls) = IsKnown l × AreKnown ls

pub known_left : (us vs : List Terminal) → AreKnown (us ++ vs) → AreKnown us
known_left [] vs r = tt
known_left (l ∷ us) vs r = (r.0, known_left us vs r.1)

pub known_right : (us vs : List Terminal) → AreKnown (us ++ vs) → AreKnown vs
known_right [] vs r = r
known_right (l ∷ us) vs r = known_right us vs r.1

pub all_known : (names : List (List ℕ)) (xs : List Token) → AreProper xs → AreKnown (map (terminal names) xs)
all_known names [] h = tt
all_known names (x ∷ xs) h = (subst IsProper (sym (terminal_token names x)) (All-head IsProper x xs h), all_known names xs (All-tail IsProper x xs h))

pub named : (k : TokenKind) → AreTexts (kind_texts k) → IsText (name_of k)
named (kind.Low name) h = All-head IsText name [] h
named (kind.Up name) h = All-head IsText name [] h
named (kind.Mix name) h = All-head IsText name [] h
named (kind.Dot name) h = All-head IsText name [] h
named (kind.Fun name) h = All-head IsText name [] h
named (kind.Reserved w) h = word_text w
named (kind.Text text) h = empty_text
named (kind.Number n) h = empty_text
named (kind.Sign m) h = empty_text

-- the name of a known token
pub known_name : (l : Terminal) → IsKnown l → IsText (name_of (token_in l).kind)
known_name l h = named (token_in l).kind h.0

-- ---- tokens of files

text_byte : (b : ℕ) → is_text_byte b ≡ true → IsTextByte b
text_byte b h = go (nat_le 32 b) refl (b == 10) refl
  where
    go : (p : Bool) → nat_le 32 b ≡ p → (q : Bool) → (b == 10) ≡ q → IsTextByte b
    go true e q f = inl (grind (arith, nat_tests))
    go false e true f = inr (inl (grind (arith, nat_tests)))
    go false e false f = inr (inr (grind (arith, nat_tests)))

text_bytes : (bs : List ℕ) → list_all is_text_byte bs ≡ true → All IsTextByte bs
text_bytes [] h = All-nil IsTextByte
text_bytes (b ∷ bs) h =
    let both = and_parts (is_text_byte b) (list_all is_text_byte bs) h in
    All-cons IsTextByte b bs (text_byte b both.0) (text_bytes bs both.1)

scanned_text : (bs : List ℕ) → IsScanned bs → AreTexts (bs ∷ [])
scanned_text bs h = one_text bs (record { utf8 = h.utf8; printable = text_bytes bs h.printable })

scanned_kind : (k : TokenKind) → IsScanned (text_in k) → AreTexts (kind_texts k)
scanned_kind (kind.Low name) h = scanned_text name h
scanned_kind (kind.Up name) h = scanned_text name h
scanned_kind (kind.Mix name) h = scanned_text name h
scanned_kind (kind.Text text) h = scanned_text text h
scanned_kind (kind.Dot name) h = scanned_text name h
scanned_kind (kind.Fun name) h = scanned_text name h
scanned_kind (kind.Reserved w) h = no_texts
scanned_kind (kind.Number n) h = no_texts
scanned_kind (kind.Sign m) h = no_texts

run_proper : (number : ℕ) (file rest : List ℕ) (xs : List Token) (behind : List ℕ) → Run number file rest xs behind → HaveTexts xs → AreProper xs
run_proper number file rest [] behind r t = All-nil IsProper
run_proper number file rest (x ∷ xs) behind r t =
    let first = scanned_kind x.kind (All-head (λ y. IsScanned (text_in y.kind)) x xs t) in
    All-cons IsProper x xs (first, r.1.in_range) (run_proper number file r.0 xs behind r.2 (All-tail (λ y. IsScanned (text_in y.kind)) x xs t))

pub file_proper : (number : ℕ) (file : List ℕ) (xs : List Token) → Tokens number file xs → AreProper xs
file_proper number file xs t = run_proper number file file xs t.left t.run (tokens_texts number file xs t)

-- ---- expressions by their parts

abbrev pub texts_in : Node-F Count Node Seg Exp → Node-F Found Found Found Found
texts_in = map-Node Count Node Seg Exp Found Found Found Found count_texts node_texts step_texts exp_texts

pub texts-of : (e : Exp) → exp_texts e ≡ node_texts_at (texts_in (opened e))
texts-of e =
    fold_out-Exp Found Found Found Found count_texts_at node_texts_at step_texts_at exp_texts_at e
    ∙ fold_out-Node Found Found Found Found count_texts_at node_texts_at step_texts_at exp_texts_at (out-Exp e).node

kept : (at : Span) (n : Node) (l : Node-F Count Node Seg Exp) → out-Node n ≡ l → AreTexts (node_texts_at (texts_in l)) → HasTexts (exp at n)
kept at n l e h =
    same_texts (exp_texts (exp at n)) (node_texts_at (texts_in l))
    (texts-of (exp at n) ∙ ap (λ m. node_texts_at (texts_in (out-Node m))) (node-of at n) ∙ ap (λ k. node_texts_at (texts_in k)) e) h

all_texts : (es : List Exp) → All HasTexts es → AreTexts (all_of (map exp_texts es))
all_texts [] h = no_texts
all_texts (e ∷ es) h = both_texts (exp_texts e) (all_of (map exp_texts es)) (All-head HasTexts e es h) (all_texts es (All-tail HasTexts e es h))

abbrev FieldHas : List ℕ × Exp → Type 0
FieldHas f = IsText f.0 × HasTexts f.1

field_texts : (fs : List (List ℕ × Exp)) → All FieldHas fs → AreTexts (flat_map (λ (f : List ℕ × Found). f.0 ∷ f.1) (map (λ (f : List ℕ × Exp). (f.0, exp_texts f.1)) fs))
field_texts [] h = no_texts
field_texts (f ∷ fs) h =
    let own = All-head FieldHas f fs h in
    both_texts (f.0 ∷ exp_texts f.1) (flat_map (λ (g : List ℕ × Found). g.0 ∷ g.1) (map (λ (g : List ℕ × Exp). (g.0, exp_texts g.1)) fs))
    (first_text f.0 (exp_texts f.1) own.0 own.1) (field_texts fs (All-tail FieldHas f fs h))

abbrev StepHas : Seg → Type 0
StepHas s = AreTexts (step_texts s)

all_steps : (ps : List Seg) → All StepHas ps → AreTexts (all_of (map step_texts ps))
all_steps [] h = no_texts
all_steps (s ∷ ps) h = both_texts (step_texts s) (all_of (map step_texts ps)) (All-head StepHas s ps h) (all_steps ps (All-tail StepHas s ps h))

-- ---- forms

eps_kept : (at : Span) → HasTexts (exp at node.Eps)
eps_kept at = kept at node.Eps Node-F.Eps node.outs-Eps no_texts

seq_kept : (at : Span) (es : List Exp) → All HasTexts es → HasTexts (exp at (node.Seq es))
seq_kept at es h = kept at (node.Seq es) (Node-F.Seq es) (node.outs-Seq es) (all_texts es h)

word_literal : (at : Span) (w : Word) → HasTexts (exp at (literal_node (kind.Reserved w)))
word_literal at word.True = kept at (node.Bool true) (Node-F.Bool true) (node.outs-Bool true) no_texts
word_literal at word.False = kept at (node.Bool false) (Node-F.Bool false) (node.outs-Bool false) no_texts
word_literal at _ = eps_kept at

literal_kept : (at : Span) (k : TokenKind) → AreTexts (kind_texts k) → HasTexts (exp at (literal_node k))
literal_kept at (kind.Text text) h = kept at (node.Text text) (Node-F.Text text) (node.outs-Text text) h
literal_kept at (kind.Reserved w) h = word_literal at w
literal_kept at (kind.Low name) h = eps_kept at
literal_kept at (kind.Up name) h = eps_kept at
literal_kept at (kind.Mix name) h = eps_kept at
literal_kept at (kind.Number n) h = eps_kept at
literal_kept at (kind.Dot name) h = eps_kept at
literal_kept at (kind.Fun name) h = eps_kept at
literal_kept at (kind.Sign m) h = eps_kept at

name_kept : (at : Span) (name : List ℕ) → IsText name → HasTexts (exp at (node.Name name))
name_kept at name h = kept at (node.Name name) (Node-F.Name name) (node.outs-Name name) (one_text name h)

atom_kept : (at : Span) (name : List ℕ) → IsText name → HasTexts (exp at (node.Atom name))
atom_kept at name h = kept at (node.Atom name) (Node-F.Atom name) (node.outs-Atom name) (one_text name h)

call_kept : (at : Span) (name : List ℕ) (es : List Exp) → IsText name → All HasTexts es → HasTexts (exp at (node.Call name es))
call_kept at name es h k = kept at (node.Call name es) (Node-F.Call name es) (node.outs-Call name es) (first_text name (all_of (map exp_texts es)) h (all_texts es k))

leaf_kept : (at : Span) (k : Leaf) (kd : TokenKind) → AreTexts (kind_texts kd) → HasTexts (exp at (leaf_node k kd))
leaf_kept at low kd h = name_kept at (name_of kd) (named kd h)
leaf_kept at basic kd h = name_kept at (name_of kd) (named kd h)
leaf_kept at variable kd h = name_kept at (name_of kd) (named kd h)
leaf_kept at atom kd h = atom_kept at (name_of kd) (named kd h)
leaf_kept at number_leaf kd h = kept at (node.Number _) (Node-F.Number _) (node.outs-Number _) no_texts
leaf_kept at literal kd h = literal_kept at kd h
leaf_kept at function kd h = call_kept at (name_of kd) [] (named kd h) (All-nil HasTexts)

-- ---- postfixes

name_in_atom : (l : Node-F Count Node Seg Exp) → AreTexts (node_texts_at (texts_in l)) → IsText (atom_name l)
name_in_atom (Node-F.Atom name) h = All-head IsText name [] h
name_in_atom _ h = empty_text

dot_kept : (b : Bool) (at : Span) (e : Exp) (behind : List ℕ) → HasTexts e → IsText behind → HasTexts (exp at (if b then node.Atom (atom_name (opened e) ++ 46 ∷ behind) else node.Dot e behind))
dot_kept true at e behind h k =
    atom_kept at (atom_name (opened e) ++ 46 ∷ behind)
    (named_on (atom_name (opened e)) behind (name_in_atom (opened e) (same_texts (node_texts_at (texts_in (opened e))) (exp_texts e) (sym (texts-of e)) h)) k)
dot_kept false at e behind h k =
    kept at (node.Dot e behind) (Node-F.Dot e behind) (node.outs-Dot e behind) (both_texts (exp_texts e) (behind ∷ []) h (one_text behind k))

iter_kept : (at : Span) (e : Exp) (c : Count) → HasTexts e → AreTexts (count_texts c) → HasTexts (exp at (node.Iter e c))
iter_kept at e c h k = kept at (node.Iter e c) (Node-F.Iter e c) (node.outs-Iter e c) (both_texts (exp_texts e) (count_texts c) h k)

in_star : count_texts count.Star ≡ []
in_star = search (rules, the_lemmas)

in_plus : count_texts count.Plus ≡ []
in_plus = search (rules, the_lemmas)

in_quest : count_texts count.Quest ≡ []
in_quest = search (rules, the_lemmas)

pub in_times : (e : Exp) → count_texts (count.Times e) ≡ exp_texts e
in_times e = search (rules, the_lemmas)

pub in_below : (name : List ℕ) (e : Exp) → count_texts (count.Below name e) ≡ name ∷ exp_texts e
in_below name e = search (rules, the_lemmas)

sign_kept : (a b : Bool) → AreTexts (count_texts (if a then count.Star else if b then count.Plus else count.Quest))
sign_kept true b = same_texts (count_texts count.Star) [] in_star no_texts
sign_kept false true = same_texts (count_texts count.Plus) [] in_plus no_texts
sign_kept false false = same_texts (count_texts count.Quest) [] in_quest no_texts

pub mark_kept : (m : Mark) → AreTexts (count_texts (mark_count m))
mark_kept m = sign_kept (is_star m) (is_plus m)

posted_kept : (e : Exp) (l : Terminal) → HasTexts e → IsKnown l → HasTexts (posted e l)
posted_kept e (dot x) h k = dot_kept (x.touching && is_atom (opened e)) (place e) e (name_of x.kind) h (named x.kind k.0)
posted_kept e (sign m x) h k = iter_kept (place e) e (mark_count m) h (mark_kept m)
posted_kept e (leaf j x) h k = h
posted_kept e (opening j x) h k = h
posted_kept e (closing j x) h k = h
posted_kept e (other x) h k = h

times_kept : (e : Exp) → HasTexts e → AreTexts (count_texts (count.Times e))
times_kept e h = same_texts (count_texts (count.Times e)) (exp_texts e) (in_times e) h

pub count_kept : (t : Tree) (e : Exp) → AreKnown (text t) → HasTexts e → AreTexts (count_texts (count_of t e))
count_kept (bracket (below o i m x) ts c) e r h =
    same_texts (count_texts (count.Below (name_of i.kind) e)) (name_of i.kind ∷ exp_texts e) (in_below (name_of i.kind) e)
    (first_text (name_of i.kind) (exp_texts e) (named i.kind r.1.0.0) h)
count_kept (bracket (plain k o) ts c) e r h = times_kept e h
count_kept (bracket (length o) ts c) e r h = times_kept e h
count_kept (bracket (arguments f o) ts c) e r h = times_kept e h
count_kept (bracket (index t o) ts c) e r h = times_kept e h
count_kept (bracket (segment p o) ts c) e r h = times_kept e h
count_kept (bracket (update p m x) ts c) e r h = times_kept e h
count_kept (operand k x) e r h = times_kept e h
count_kept (post t l) e r h = times_kept e h
count_kept (times t m x c) e r h = times_kept e h
count_kept (led g t) e r h = times_kept e h

-- ---- signs

sides_kept : (b : Bool) (at : Span) (l : Exp) (m : Mark) (r : Exp) → HasTexts l → HasTexts r → HasTexts (exp at (if b then node.Infix l m r else node.Binary l m r))
sides_kept true at l m r h k = kept at (node.Infix l m r) (Node-F.Infix l m r) (node.outs-Infix l m r) (both_texts (exp_texts l) (exp_texts r) h k)
sides_kept false at l m r h k = kept at (node.Binary l m r) (Node-F.Binary l m r) (node.outs-Binary l m r) (both_texts (exp_texts l) (exp_texts r) h k)

prefix_kept : (a b : Bool) (at : Span) (m : Mark) (e : Exp) → HasTexts e → HasTexts (exp at (if a then node.Not e else if b then node.Neg e else node.Infix (exp at (node.Seq [])) m e))
prefix_kept true b at m e h = kept at (node.Not e) (Node-F.Not e) (node.outs-Not e) h
prefix_kept false true at m e h = kept at (node.Neg e) (Node-F.Neg e) (node.outs-Neg e) h
prefix_kept false false at m e h = sides_kept true at (exp at (node.Seq [])) m e (seq_kept at [] (All-nil HasTexts)) h

-- ---- brackets

only_kept : (es : List Exp) → All HasTexts es → HasTexts (only es)
only_kept [] h = eps_kept nowhere
only_kept (e ∷ []) h = All-head HasTexts e [] h
only_kept (e ∷ f ∷ es) h = eps_kept nowhere

tuple_kept : (at : Span) (es : List Exp) → All HasTexts es → HasTexts (exp at (node.Tuple es))
tuple_kept at es h = kept at (node.Tuple es) (Node-F.Tuple es) (node.outs-Tuple es) (all_texts es h)

parens_kept : (at : Span) (es : List Exp) → All HasTexts es → HasTexts (exp at (in_parens es))
parens_kept at [] h = tuple_kept at [] h
parens_kept at (e ∷ []) h = kept at (node.Paren e) (Node-F.Paren e) (node.outs-Paren e) (All-head HasTexts e [] h)
parens_kept at (e ∷ f ∷ es) h = tuple_kept at (e ∷ f ∷ es) h

arith_kept : (at : Span) (e : Exp) → HasTexts e → HasTexts (exp at (node.Arith e))
arith_kept at e h = kept at (node.Arith e) (Node-F.Arith e) (node.outs-Arith e) h

tick_kept : (at : Span) (m : Mark) (e : Exp) → HasTexts e → HasTexts (exp at (node.Bracket m e))
tick_kept at m e h = kept at (node.Bracket m e) (Node-F.Bracket m e) (node.outs-Bracket m e) h

enclosed_kept : (k : Bracket) (at : Span) (e : Exp) → HasTexts e → HasTexts (exp at (enclosed k e))
enclosed_kept tick_round at e h = tick_kept at _ e h
enclosed_kept tick_square at e h = tick_kept at _ e h
enclosed_kept tick_brace at e h = tick_kept at _ e h
enclosed_kept round at e h = arith_kept at e h
enclosed_kept square at e h = arith_kept at e h
enclosed_kept brace at e h = arith_kept at e h
enclosed_kept dollar at e h = arith_kept at e h

record_kept : (at : Span) (fs : List (List ℕ × Exp)) → All FieldHas fs → HasTexts (exp at (node.Fields fs))
record_kept at fs h = kept at (node.Fields fs) (Node-F.Fields fs) (node.outs-Fields fs) (field_texts fs h)

plain_kept : (k : Bracket) (o : Token) (es : List Exp) (fs : List (List ℕ × Exp)) → All HasTexts es → All FieldHas fs → HasTexts (bracketed (plain k o) es fs)
plain_kept round o es fs h k = parens_kept o.at es h
plain_kept brace o es fs h k = record_kept o.at fs k
plain_kept square o es fs h k = enclosed_kept square o.at (only es) (only_kept es h)
plain_kept tick_round o es fs h k = enclosed_kept tick_round o.at (only es) (only_kept es h)
plain_kept tick_square o es fs h k = enclosed_kept tick_square o.at (only es) (only_kept es h)
plain_kept tick_brace o es fs h k = enclosed_kept tick_brace o.at (only es) (only_kept es h)
plain_kept dollar o es fs h k = enclosed_kept dollar o.at (only es) (only_kept es h)

pub label_kept : (ls : List Terminal) → AreKnown ls → IsText (label ls)
label_kept [] r = empty_text
label_kept (l ∷ []) r = known_name l r.0
label_kept (k ∷ l ∷ ls) r = label_kept (l ∷ ls) r.1

-- ---- positions and paths

indexed_kept : (at : Span) (e : Exp) (es : List Exp) → HasTexts e → All HasTexts es → HasTexts (exp at (indexed_node e es))
indexed_kept at e [] h k = eps_kept at
indexed_kept at e (i ∷ []) h k =
    kept at (node.At e i) (Node-F.Node::At e i) (node.outs-At e i) (both_texts (exp_texts e) (exp_texts i) h (All-head HasTexts i [] k))
indexed_kept at e (i ∷ j ∷ []) h k =
    let rest = All-tail HasTexts i (j ∷ []) k in
    kept at (node.Slice e i j) (Node-F.Node::Slice e i j) (node.outs-Slice e i j)
    (both_texts (exp_texts e ++ exp_texts i) (exp_texts j)
    (both_texts (exp_texts e) (exp_texts i) h (All-head HasTexts i (j ∷ []) k)) (All-head HasTexts j [] rest))
indexed_kept at e (i ∷ j ∷ g ∷ es) h k = eps_kept at

in_field : (name : List ℕ) → step_texts (seg.Field name) ≡ name ∷ []
in_field name = search (rules, the_lemmas)

in_position : (e : Exp) → step_texts (seg.At e) ≡ exp_texts e
in_position e = search (rules, the_lemmas)

in_positions : (e f : Exp) → step_texts (seg.Slice e f) ≡ exp_texts e ++ exp_texts f
in_positions e f = search (rules, the_lemmas)

field_step : (name : List ℕ) → IsText name → StepHas (seg.Field name)
field_step name h = same_texts (step_texts (seg.Field name)) (name ∷ []) (in_field name) (one_text name h)

step_kept : (es : List Exp) → All HasTexts es → StepHas (step_at es)
step_kept [] h = field_step [] empty_text
step_kept (i ∷ []) h = same_texts (step_texts (seg.At i)) (exp_texts i) (in_position i) (All-head HasTexts i [] h)
step_kept (i ∷ j ∷ []) h =
    same_texts (step_texts (seg.Slice i j)) (exp_texts i ++ exp_texts j) (in_positions i j)
    (both_texts (exp_texts i) (exp_texts j) (All-head HasTexts i (j ∷ []) h) (All-head HasTexts j [] (All-tail HasTexts i (j ∷ []) h)))
step_kept (i ∷ j ∷ g ∷ es) h = field_step [] empty_text

change_texts : (e : Exp) (ps : List Seg) (f : Exp) → HasTexts e → All StepHas ps → HasTexts f → AreTexts ((exp_texts e ++ all_of (map step_texts ps)) ++ exp_texts f)
change_texts e ps f h k l = both_texts (exp_texts e ++ all_of (map step_texts ps)) (exp_texts f) (both_texts (exp_texts e) (all_of (map step_texts ps)) h (all_steps ps k)) l

change_kept : (b : Bool) (at : Span) (e : Exp) (ps : List Seg) (f : Exp) → HasTexts e → All StepHas ps → HasTexts f → HasTexts (exp at (if b then node.Extend e ps f else node.Update e ps f))
change_kept true at e ps f h k l = kept at (node.Extend e ps f) (Node-F.Extend e ps f) (node.outs-Extend e ps f) (change_texts e ps f h k l)
change_kept false at e ps f h k l = kept at (node.Update e ps f) (Node-F.Update e ps f) (node.outs-Update e ps f) (change_texts e ps f h k l)

-- ---- trees

mutual
  pub tree_kept : (t : Tree) → AreKnown (text t) → HasTexts (meaning t)
  tree_kept (operand k x) r = leaf_kept x.at k x.kind r.0.0
  tree_kept (post t l) r = posted_kept (meaning t) l (tree_kept t (known_left (text t) (l ∷ []) r)) (known_right (text t) (l ∷ []) r).0
  tree_kept (times t m x c) r =
      let rest : AreKnown (text c) = (known_right (text t) (sign m x ∷ text c) r).1 in
      iter_kept (place (meaning t)) (meaning t) (count_of c (meaning c)) (tree_kept t (known_left (text t) (sign m x ∷ text c) r)) (count_kept c (meaning c) rest (tree_kept c rest))
  tree_kept (bracket h ts c) r =
      let inner : AreKnown (texts ts) = known_left (texts ts) (closing (closes h) c ∷ []) (known_right (heading_text h) (texts ts ++ closing (closes h) c ∷ []) r) in
      heading_kept h (meanings ts) (field_meanings ts) (known_left (heading_text h) (texts ts ++ closing (closes h) c ∷ []) r) (trees_kept ts inner) (fields_kept ts inner)
  tree_kept (led g t) r = lead_kept g (meaning t) (known_left (lead_text g) (text t) r) (tree_kept t (known_right (lead_text g) (text t) r))

  lead_kept : (g : Lead) (e : Exp) → AreKnown (lead_text g) → HasTexts e → HasTexts (led_by g e)
  lead_kept (left l m x) e r h = sides_kept (is_notation m) (place (meaning l)) (meaning l) m e (tree_kept l (known_left (text l) (sign m x ∷ []) r)) h
  lead_kept (ahead m x) e r h = prefix_kept (is_tilde m) (is_minus m) x.at m e h
  lead_kept (items ts) e r h = seq_kept (first_place (meanings ts ++ e ∷ [])) (meanings ts ++ e ∷ []) (All-push HasTexts (meanings ts) e (trees_kept ts r) h)

  pub trees_kept : (ts : Trees) → AreKnown (texts ts) → All HasTexts (meanings ts)
  trees_kept none r = All-nil HasTexts
  trees_kept (more ts pre t) r =
      All-push HasTexts (meanings ts) (meaning t) (trees_kept ts (known_left (texts ts) (pre ++ text t) r))
      (tree_kept t (known_right pre (text t) (known_right (texts ts) (pre ++ text t) r)))

  fields_kept : (ts : Trees) → AreKnown (texts ts) → All FieldHas (field_meanings ts)
  fields_kept none r = All-nil FieldHas
  fields_kept (more ts pre t) r =
      let own : AreKnown (pre ++ text t) = known_right (texts ts) (pre ++ text t) r in
      All-push FieldHas (field_meanings ts) (label pre, meaning t) (fields_kept ts (known_left (texts ts) (pre ++ text t) r))
      (label_kept pre (known_left pre (text t) own), tree_kept t (known_right pre (text t) own))

  heading_kept : (h : Heading) (es : List Exp) (fs : List (List ℕ × Exp)) → AreKnown (heading_text h) → All HasTexts es → All FieldHas fs → HasTexts (bracketed h es fs)
  heading_kept (plain k o) es fs r a b = plain_kept k o es fs a b
  heading_kept (length o) es fs r a b = kept o.at (node.Len (only es)) (Node-F.Len (only es)) (node.outs-Len (only es)) (only_kept es a)
  heading_kept (arguments f o) es fs r a b = call_kept f.at (name_of f.kind) es (named f.kind r.0.0) a
  heading_kept (index t o) es fs r a b = indexed_kept (place (meaning t)) (meaning t) es (tree_kept t (known_left (text t) (opening square o ∷ []) r)) a
  heading_kept (segment p o) es fs r a b = eps_kept nowhere
  heading_kept (update p m x) es fs r a b =
      let path : AreKnown (path_text p) = known_left (path_text p) (sign m x ∷ []) r in
      change_kept (is_extension m) (place (base p)) (base p) (steps p) (only es) (base_kept p path) (steps_kept p path) (only_kept es a)
  heading_kept (below o i m x) es fs r a b = only_kept es a

  base_kept : (p : Path) → AreKnown (path_text p) → HasTexts (base p)
  base_kept (head t o) r = tree_kept t (known_left (text t) (opening square o ∷ []) r)
  base_kept (field p x) r = base_kept p (known_left (path_text p) (dot x ∷ []) r)
  base_kept (part p o ts c) r = base_kept p (known_left (path_text p) _ r)

  steps_kept : (p : Path) → AreKnown (path_text p) → All StepHas (steps p)
  steps_kept (head t o) r = All-nil StepHas
  steps_kept (field p x) r =
      All-push StepHas (steps p) (seg.Field (name_of x.kind)) (steps_kept p (known_left (path_text p) (dot x ∷ []) r))
      (field_step (name_of x.kind) (named x.kind (known_right (path_text p) (dot x ∷ []) r).0.0))
  steps_kept (part p o ts c) r =
      All-push StepHas (steps p) (step_at (meanings ts)) (steps_kept p (known_left (path_text p) _ r))
      (step_kept (meanings ts) (trees_kept ts (known_left (texts ts) _ (known_right (path_text p) _ r).1)))

pub expressions_kept : (names : List (List ℕ)) (xs : List Token) (es : List Exp) → AreProper xs → ParseExps names xs es → All HasTexts es
expressions_kept names xs es h p =
    let known : AreKnown (texts p.trees) = subst AreKnown p.grammar.spelled (all_known names xs h) in
    subst (All HasTexts) p.meant (trees_kept p.trees known)
