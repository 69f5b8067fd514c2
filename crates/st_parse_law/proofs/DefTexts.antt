-- Of tokens with texts that values want, definitions have such texts alone.
use Rattle.std.proofs.Common.{◌≡◌, ℕ, List, [], ◌∷◌, ◌++◌, map, flat_map, decimal, Bool, true, false, Option, All, sym, ap, ◌∙◌, subst, arith, rules, inl, if◌then◌else◌}
use Rattle.std.proofs.lemmas.List.Elements.{All-nil, All-cons, All-head, All-tail, All-push, All-append}
use Rattle.std.proofs.lemmas.Str.{IsUtf8-append, IsUtf8-nil}
use Rattle.st_num.specs.Texts.{IsText, IsTextByte}
use Rattle.st_num.specs.Words.{word_spelling}
use Rattle.st_num.specs.declared.mark.Mark.{Mark}
use Rattle.st_num.specs.declared.mark.Mark.TheVariants as mark
use Rattle.st_num.specs.declared.span.Span.{Span}
use Rattle.st_num.specs.declared.word.Word.{Word}
use Rattle.st_num.specs.declared.word.Word.TheVariants as word
use Rattle.st_num.specs.declared.token.Token.{Token}
use Rattle.st_num.specs.declared.token.TokenKind.{TokenKind}
use Rattle.st_num.specs.declared.token.TokenKind.TheVariants as kind
use Rattle.st_scan.specs.Tokens.{IsInRange}
use Rattle.st_grammar.specs.declared.sort.Leaf.{Leaf}
use Rattle.st_grammar.specs.declared.sort.Leaf.TheVariants.{Low as low, Basic as basic, Variable as variable, Atom as atom, Number as number_leaf, Literal as literal, Function as function}
use Rattle.st_grammar.specs.declared.sort.Bracket.TheVariants.{Round as round, Square as square, Brace as brace, TickRound as tick_round, TickSquare as tick_square, TickBrace as tick_brace, Dollar as dollar}
use Rattle.st_grammar.specs.Terminals.{Terminal, leaf, dot, sign, opening, closing, other}
use Rattle.st_grammar.specs.Grammar.{is_type}
use Rattle.st_grammar.specs.Trees.{Tree, operand, post, times, bracket, led, Lead, left, ahead, items, Trees, none, more, Heading, plain, length, arguments, index, segment, update, below, closes, text, texts, lead_text, heading_text}
use Rattle.st_grammar.specs.Definitions.{token_in, Hint as HintTokens, hint, hint_text, Hints, no_hints, more_hints, hints_text, Members, no_members, member, members_text, Body as BodyTokens, fields, cases, body_text, Iterations, no_iterations, closed, marked, counted, iterations_text, closings, Premise, default, given, premise_text, Premises, no_premises, more_premises, premises_text, Args, no_args, args, args_text, Def as DefTokens, syntax_def, var_def, relation_def, rule_def, fun_def, clause_def, def_text, Defs, no_defs, more_defs, defs_text}
use Rattle.st_el.specs.declared.expression.Exp.{Exp}
use Rattle.st_el.specs.declared.expression.Count.{Count}
use Rattle.st_el.specs.declared.ty.Typ.{Typ, the_lemmas as typ_lemmas}
use Rattle.st_el.specs.declared.ty.TypNode.TheVariants as typ_node
use Rattle.st_el.specs.declared.notation.Notation.{Notation, out-Notation, roll-out-Notation, the_lemmas as notation_lemmas}
use Rattle.st_el.specs.declared.notation.NotNode.{NotNode, out-NotNode, roll-NotNode, roll-out-NotNode}
use Rattle.st_el.specs.declared.notation.NotNode.TheOpen.{NotNode-F}
use Rattle.st_el.specs.declared.notation.NotNode.TheVariants as not_node
use Rattle.st_el.specs.declared.definition.Prem.{Prem, out-Prem, roll-out-Prem, the_lemmas}
use Rattle.st_el.specs.declared.definition.PremNode.{PremNode, fold-PremNode}
use Rattle.st_el.specs.declared.definition.PremNode.TheVariants as prem
use Rattle.st_el.specs.declared.definition.Hint.{Hint}
use Rattle.st_el.specs.declared.definition.Body.{Body}
use Rattle.st_el.specs.declared.definition.Body.TheVariants as body
use Rattle.st_el.specs.declared.definition.Def.{Def}
use Rattle.st_el.specs.declared.definition.DefNode.{DefNode}
use Rattle.st_el.specs.declared.definition.DefNode.TheVariants as def
use Rattle.st_el.specs.Plain.{nowhere}
use Rattle.st_parse_builder.specs.Names.{name_of}
use Rattle.st_parse_builder.specs.Meaning.{meaning, label, count_of}
use Rattle.st_parse_builder.specs.Notations.{typ_at, no_typ, typ_leaf, marked_node, marked_by, typ_start, typ_in_parens, typ_meaning, typ_meanings, notation_at, notation_place, no_notation, hole, notation_leaf, spelled_on, atom_on, notation_posted, tick, only_notation, notation_bracketed, notation_joined, notation_first, notation_meaning, notation_led, notation_meanings}
use Rattle.st_parse_builder.specs.Definitions.{name_in, piece_text, id_text, fragment_name, rule_name, hint_meaning, hints_meaning, fields_meaning, cases_meaning, variant, body_meaning, prem_at, condition, opened_at, sign_count, iterated, premise_meaning, premises_meaning, params, patterns, def_at, def_meaning, defs_meaning, Parse}
use Rattle.st_parse_law.specs.SourceTexts.{AreTexts, kind_texts, AreProper, Found, all_of, exp_texts, count_texts, HasTexts, typ_texts, notation_texts, prem_node_texts_at, prem_texts, hint_texts, fragment_texts, field_texts, body_texts, def_node_texts, DefHasTexts}
use Rattle.st_parse_law.proofs.Encodings.{behind_ascii}
use Rattle.st_parse_law.proofs.Longest.{number_parts}
use Rattle.st_parse_law.proofs.Leaves.{number_written}
use Rattle.st_parse_law.proofs.TextLaw.{empty_text, parts_text, word_text, named_on, no_texts, one_text, first_text, both_texts, same_texts, IsKnown, AreKnown, known_left, known_right, all_known, named, known_name, mark_kept, count_kept, label_kept, tree_kept, trees_kept}

-- ---- lists

flat_texts : {A : Type 0} (f : A → Found) (xs : List A) → All (λ x. AreTexts (f x)) xs → AreTexts (flat_map f xs)
flat_texts f [] h = no_texts
flat_texts f (x ∷ xs) h =
    both_texts (f x) (flat_map f xs) (All-head (λ y. AreTexts (f y)) x xs h) (flat_texts f xs (All-tail (λ y. AreTexts (f y)) x xs h))

all_flat : {A : Type 0} (f : A → Found) (xs : List A) → All (λ x. AreTexts (f x)) xs → AreTexts (all_of (map f xs))
all_flat f [] h = no_texts
all_flat f (x ∷ xs) h =
    both_texts (f x) (all_of (map f xs)) (All-head (λ y. AreTexts (f y)) x xs h) (all_flat f xs (All-tail (λ y. AreTexts (f y)) x xs h))

-- ---- types

abbrev TypHas : Typ → Type 0
TypHas t = AreTexts (typ_texts t)

in_typ_name : (at : Span) (name : List ℕ) → typ_texts (typ_at at (typ_node.Name name)) ≡ name ∷ []
in_typ_name at name = search (rules, typ_lemmas)

in_typ_bool : (at : Span) → typ_texts (typ_at at typ_node.Bool) ≡ []
in_typ_bool at = search (rules, typ_lemmas)

in_typ_nat : (at : Span) → typ_texts (typ_at at typ_node.Nat) ≡ []
in_typ_nat at = search (rules, typ_lemmas)

in_typ_int : (at : Span) → typ_texts (typ_at at typ_node.Int) ≡ []
in_typ_int at = search (rules, typ_lemmas)

in_typ_text : (at : Span) → typ_texts (typ_at at typ_node.Text) ≡ []
in_typ_text at = search (rules, typ_lemmas)

in_typ_star : (at : Span) (t : Typ) → typ_texts (typ_at at (typ_node.Star t)) ≡ typ_texts t
in_typ_star at t = search (rules, typ_lemmas)

in_typ_quest : (at : Span) (t : Typ) → typ_texts (typ_at at (typ_node.Quest t)) ≡ typ_texts t
in_typ_quest at t = search (rules, typ_lemmas)

in_typ_tuple : (at : Span) (ts : List Typ) → typ_texts (typ_at at (typ_node.Tuple ts)) ≡ all_of (map typ_texts ts)
in_typ_tuple at ts = search (rules, typ_lemmas)

typ_name_kept : (at : Span) (name : List ℕ) → IsText name → TypHas (typ_at at (typ_node.Name name))
typ_name_kept at name h = same_texts _ (name ∷ []) (in_typ_name at name) (one_text name h)

no_typ_kept : TypHas no_typ
no_typ_kept = typ_name_kept nowhere [] empty_text

typ_word_kept : (at : Span) (w : Word) → TypHas (typ_at at (typ_leaf (kind.Reserved w)))
typ_word_kept at word.Bool = same_texts _ [] (in_typ_bool at) no_texts
typ_word_kept at word.Nat = same_texts _ [] (in_typ_nat at) no_texts
typ_word_kept at word.Int = same_texts _ [] (in_typ_int at) no_texts
typ_word_kept at word.Text = same_texts _ [] (in_typ_text at) no_texts
typ_word_kept at w = typ_name_kept at (word_spelling w) (word_text w)

typ_leaf_kept : (at : Span) (k : TokenKind) → AreTexts (kind_texts k) → TypHas (typ_at at (typ_leaf k))
typ_leaf_kept at (kind.Reserved w) h = typ_word_kept at w
typ_leaf_kept at (kind.Low name) h = typ_name_kept at name (named (kind.Low name) h)
typ_leaf_kept at (kind.Up name) h = typ_name_kept at name (named (kind.Up name) h)
typ_leaf_kept at (kind.Mix name) h = typ_name_kept at name (named (kind.Mix name) h)
typ_leaf_kept at (kind.Dot name) h = typ_name_kept at name (named (kind.Dot name) h)
typ_leaf_kept at (kind.Fun name) h = typ_name_kept at name (named (kind.Fun name) h)
typ_leaf_kept at (kind.Text content) h = typ_name_kept at [] empty_text
typ_leaf_kept at (kind.Number n) h = typ_name_kept at [] empty_text
typ_leaf_kept at (kind.Sign m) h = typ_name_kept at [] empty_text

typ_star_kept : (at : Span) (t : Typ) → TypHas t → TypHas (typ_at at (typ_node.Star t))
typ_star_kept at t h = same_texts _ (typ_texts t) (in_typ_star at t) h

marked_kept : (at : Span) (m : Mark) (t : Typ) → TypHas t → TypHas (typ_at at (marked_node m t))
marked_kept at mark.Question t h = same_texts _ (typ_texts t) (in_typ_quest at t) h
marked_kept at _ t h = typ_star_kept at t h

marked_by_kept : (at : Span) (l : Terminal) (t : Typ) → TypHas t → TypHas (marked_by at l t)
marked_by_kept at (sign m x) t h = marked_kept at m t h
marked_by_kept at (leaf k x) t h = no_typ_kept
marked_by_kept at (dot x) t h = no_typ_kept
marked_by_kept at (opening k x) t h = no_typ_kept
marked_by_kept at (closing k x) t h = no_typ_kept
marked_by_kept at (other x) t h = no_typ_kept

typ_tuple_kept : (at : Span) (ts : List Typ) → All TypHas ts → TypHas (typ_at at (typ_node.Tuple ts))
typ_tuple_kept at ts h = same_texts _ (all_of (map typ_texts ts)) (in_typ_tuple at ts) (all_flat typ_texts ts h)

typ_parens_kept : (at : Span) (ts : List Typ) → All TypHas ts → TypHas (typ_in_parens at ts)
typ_parens_kept at [] h = typ_tuple_kept at [] h
typ_parens_kept at (t ∷ []) h = All-head TypHas t [] h
typ_parens_kept at (t ∷ u ∷ ts) h = typ_tuple_kept at (t ∷ u ∷ ts) h

mutual
  typ_kept : (t : Tree) → AreKnown (text t) → TypHas (typ_meaning t)
  typ_kept (operand k x) r = typ_leaf_kept x.at x.kind r.0.0
  typ_kept (post t l) r = marked_by_kept (typ_start t) l (typ_meaning t) (typ_kept t (known_left (text t) (l ∷ []) r))
  typ_kept (bracket (plain round o) ts c) r = typ_parens_kept o.at (typ_meanings ts) (typs_kept ts (known_left (texts ts) (closing (closes (plain round o)) c ∷ []) r.1))
  typ_kept (bracket (plain square o) ts c) r = no_typ_kept
  typ_kept (bracket (plain brace o) ts c) r = no_typ_kept
  typ_kept (bracket (plain tick_round o) ts c) r = no_typ_kept
  typ_kept (bracket (plain tick_square o) ts c) r = no_typ_kept
  typ_kept (bracket (plain tick_brace o) ts c) r = no_typ_kept
  typ_kept (bracket (plain dollar o) ts c) r = no_typ_kept
  typ_kept (bracket (length o) ts c) r = no_typ_kept
  typ_kept (bracket (arguments f o) ts c) r = no_typ_kept
  typ_kept (bracket (index t o) ts c) r = no_typ_kept
  typ_kept (bracket (segment p o) ts c) r = no_typ_kept
  typ_kept (bracket (update p m x) ts c) r = no_typ_kept
  typ_kept (bracket (below o i m x) ts c) r = no_typ_kept
  typ_kept (times t m x c) r = no_typ_kept
  typ_kept (led g t) r = no_typ_kept

  typs_kept : (ts : Trees) → AreKnown (texts ts) → All TypHas (typ_meanings ts)
  typs_kept none r = All-nil TypHas
  typs_kept (more ts pre t) r =
      All-push TypHas (typ_meanings ts) (typ_meaning t) (typs_kept ts (known_left (texts ts) (pre ++ text t) r))
      (typ_kept t (known_right pre (text t) (known_right (texts ts) (pre ++ text t) r)))

-- ---- notations

abbrev NotationHas : Notation → Type 0
NotationHas n = AreTexts (notation_texts n)

in_atom : (at : Span) (name : List ℕ) → notation_texts (notation_at at (not_node.Atom name)) ≡ name ∷ []
in_atom at name = search (rules, notation_lemmas)

in_hole : (at : Span) (t : Typ) → notation_texts (notation_at at (not_node.Hole t)) ≡ typ_texts t
in_hole at t = search (rules, notation_lemmas)

in_seq : (at : Span) (ns : List Notation) → notation_texts (notation_at at (not_node.Seq ns)) ≡ all_of (map notation_texts ns)
in_seq at ns = search (rules, notation_lemmas)

in_infix : (at : Span) (l : Notation) (m : Mark) (r : Notation) → notation_texts (notation_at at (not_node.Infix l m r)) ≡ notation_texts l ++ notation_texts r
in_infix at l m r = search (rules, notation_lemmas)

in_bracket : (at : Span) (m : Mark) (n : Notation) → notation_texts (notation_at at (not_node.Bracket m n)) ≡ notation_texts n
in_bracket at m n = search (rules, notation_lemmas)

atom_kept : (at : Span) (name : List ℕ) → IsText name → NotationHas (notation_at at (not_node.Atom name))
atom_kept at name h = same_texts _ (name ∷ []) (in_atom at name) (one_text name h)

hole_kept : (at : Span) (t : Typ) → TypHas t → NotationHas (hole at t)
hole_kept at t h = same_texts _ (typ_texts t) (in_hole at t) h

seq_kept : (at : Span) (ns : List Notation) → All NotationHas ns → NotationHas (notation_at at (not_node.Seq ns))
seq_kept at ns h = same_texts _ (all_of (map notation_texts ns)) (in_seq at ns) (all_flat notation_texts ns h)

no_notation_kept : NotationHas no_notation
no_notation_kept = seq_kept nowhere [] (All-nil NotationHas)

joined_kept : (l : Notation) (m : Mark) (r : Notation) → NotationHas l → NotationHas r → NotationHas (notation_joined l m r)
joined_kept l m r h k = same_texts _ (notation_texts l ++ notation_texts r) (in_infix (notation_place l) l m r) (both_texts (notation_texts l) (notation_texts r) h k)

notation_leaf_kept : (k : Leaf) (x : Token) → AreTexts (kind_texts x.kind) → NotationHas (notation_leaf k x)
notation_leaf_kept low x h = hole_kept x.at (typ_at x.at (typ_leaf x.kind)) (typ_leaf_kept x.at x.kind h)
notation_leaf_kept basic x h = hole_kept x.at (typ_at x.at (typ_leaf x.kind)) (typ_leaf_kept x.at x.kind h)
notation_leaf_kept variable x h = atom_kept x.at (name_of x.kind) (named x.kind h)
notation_leaf_kept atom x h = atom_kept x.at (name_of x.kind) (named x.kind h)
notation_leaf_kept number_leaf x h = atom_kept x.at (name_of x.kind) (named x.kind h)
notation_leaf_kept literal x h = atom_kept x.at (name_of x.kind) (named x.kind h)
notation_leaf_kept function x h = atom_kept x.at (name_of x.kind) (named x.kind h)

spelled_kept : (at : Span) (n : NotNode-F NotNode Notation) (behind : List ℕ) → IsText behind → NotationHas (notation_at at (roll-NotNode n)) → NotationHas (notation_at at (spelled_on n behind))
spelled_kept at (NotNode-F.Atom name) behind k h =
    let own : name ∷ [] ≡ notation_texts (notation_at at (roll-NotNode (NotNode-F.Atom name))) = sym (ap (λ m. notation_texts (notation_at at m)) (not_node.rolls-Atom name) ∙ in_atom at name) in
    atom_kept at (name ++ 46 ∷ behind) (named_on name behind (All-head IsText name [] (same_texts (name ∷ []) _ own h)) k)
spelled_kept at (NotNode-F.Hole t) behind k h = h
spelled_kept at (NotNode-F.Seq ns) behind k h = h
spelled_kept at (NotNode-F.Infix l m r) behind k h = h
spelled_kept at (NotNode-F.Bracket m n) behind k h = h

rolled : (n : Notation) → notation_at (notation_place n) (roll-NotNode (out-NotNode (out-Notation n).node)) ≡ n
rolled n = ap (λ m. notation_at (notation_place n) m) (roll-out-NotNode (out-Notation n).node) ∙ roll-out-Notation n

atom_on_kept : (n : Notation) (x : Token) → IsText (name_of x.kind) → NotationHas n → NotationHas (atom_on n x)
atom_on_kept n x k h = spelled_kept (notation_place n) (out-NotNode (out-Notation n).node) (name_of x.kind) k (subst NotationHas (sym (rolled n)) h)

posted_kept : (at : Span) (t : Typ) (n : Notation) (l : Terminal) → TypHas t → NotationHas n → IsKnown l → NotationHas (notation_posted at t n l)
posted_kept at t n (sign m x) h k r = hole_kept at (typ_at at (marked_node m t)) (marked_kept at m t h)
posted_kept at t n (dot x) h k r = atom_on_kept n x (named x.kind r.0) k
posted_kept at t n (leaf j x) h k r = no_notation_kept
posted_kept at t n (opening j x) h k r = no_notation_kept
posted_kept at t n (closing j x) h k r = no_notation_kept
posted_kept at t n (other x) h k r = no_notation_kept

only_kept : (ns : List Notation) → All NotationHas ns → NotationHas (only_notation ns)
only_kept [] h = no_notation_kept
only_kept (n ∷ []) h = All-head NotationHas n [] h
only_kept (n ∷ m ∷ ns) h = no_notation_kept

tick_kept : (at : Span) (m : Mark) (ns : List Notation) → All NotationHas ns → NotationHas (notation_at at (not_node.Bracket m (only_notation ns)))
tick_kept at m ns h = same_texts _ (notation_texts (only_notation ns)) (in_bracket at m (only_notation ns)) (only_kept ns h)

bracketed_kept : (h : Heading) (ts : List Typ) (ns : List Notation) → All TypHas ts → All NotationHas ns → NotationHas (notation_bracketed h ts ns)
bracketed_kept (plain round o) ts ns a b = hole_kept o.at (typ_in_parens o.at ts) (typ_parens_kept o.at ts a)
bracketed_kept (plain square o) ts ns a b = tick_kept o.at (tick square) ns b
bracketed_kept (plain brace o) ts ns a b = tick_kept o.at (tick brace) ns b
bracketed_kept (plain tick_round o) ts ns a b = tick_kept o.at (tick tick_round) ns b
bracketed_kept (plain tick_square o) ts ns a b = tick_kept o.at (tick tick_square) ns b
bracketed_kept (plain tick_brace o) ts ns a b = tick_kept o.at (tick tick_brace) ns b
bracketed_kept (plain dollar o) ts ns a b = tick_kept o.at (tick dollar) ns b
bracketed_kept (length o) ts ns a b = no_notation_kept
bracketed_kept (arguments f o) ts ns a b = no_notation_kept
bracketed_kept (index t o) ts ns a b = no_notation_kept
bracketed_kept (segment p o) ts ns a b = no_notation_kept
bracketed_kept (update p m x) ts ns a b = no_notation_kept
bracketed_kept (below o i m x) ts ns a b = no_notation_kept

mutual
  notation_kept : (t : Tree) → AreKnown (text t) → NotationHas (notation_meaning t)
  notation_kept (operand k x) r = notation_leaf_kept k x r.0.0
  notation_kept (post t l) r =
      let own : AreKnown (text t) = known_left (text t) (l ∷ []) r in
      posted_kept (typ_start t) (typ_meaning t) (notation_meaning t) l (typ_kept t own) (notation_kept t own) (known_right (text t) (l ∷ []) r).0
  notation_kept (bracket h ts c) r =
      let inner : AreKnown (texts ts) = known_left (texts ts) (closing (closes h) c ∷ []) (known_right (heading_text h) (texts ts ++ closing (closes h) c ∷ []) r) in
      bracketed_kept h (typ_meanings ts) (notation_meanings ts) (typs_kept ts inner) (notations_kept ts inner)
  notation_kept (led g t) r = led_kept g (notation_meaning t) (known_left (lead_text g) (text t) r) (notation_kept t (known_right (lead_text g) (text t) r))
  notation_kept (times t m x c) r = no_notation_kept

  led_kept : (g : Lead) (n : Notation) → AreKnown (lead_text g) → NotationHas n → NotationHas (notation_led g n)
  led_kept (left l m x) n r h = joined_kept (notation_meaning l) m n (notation_kept l (known_left (text l) (sign m x ∷ []) r)) h
  led_kept (ahead m x) n r h = joined_kept (notation_at x.at (not_node.Seq [])) m n (seq_kept x.at [] (All-nil NotationHas)) h
  led_kept (items ts) n r h = seq_kept (notation_first (notation_meanings ts ++ n ∷ [])) (notation_meanings ts ++ n ∷ []) (All-push NotationHas (notation_meanings ts) n (notations_kept ts r) h)

  notations_kept : (ts : Trees) → AreKnown (texts ts) → All NotationHas (notation_meanings ts)
  notations_kept none r = All-nil NotationHas
  notations_kept (more ts pre t) r =
      All-push NotationHas (notation_meanings ts) (notation_meaning t) (notations_kept ts (known_left (texts ts) (pre ++ text t) r))
      (notation_kept t (known_right pre (text t) (known_right (texts ts) (pre ++ text t) r)))

-- ---- names of rules and fragments

joined_text : (xs ys : List ℕ) → IsText xs → IsText ys → IsText (xs ++ ys)
joined_text xs ys h k = record { utf8 = IsUtf8-append xs ys h.utf8 k.utf8; printable = All-append IsTextByte xs ys h.printable k.printable }

sign_piece : (m : Mark) → IsText (piece_text (kind.Sign m))
sign_piece mark.Minus = record { utf8 = behind_ascii 45 [] (omega arith) IsUtf8-nil; printable = All-cons IsTextByte 45 [] (inl (omega arith)) (All-nil IsTextByte) }
sign_piece _ = empty_text

piece_kept : (k : TokenKind) → AreTexts (kind_texts k) → IsInRange k → IsText (piece_text k)
piece_kept (kind.Number n) h ranged = parts_text (decimal n) (number_parts (decimal n) n (number_written n ranged))
piece_kept (kind.Sign m) h ranged = sign_piece m
piece_kept (kind.Dot name) h ranged = named_on [] name empty_text (named (kind.Dot name) h)
piece_kept (kind.Low name) h ranged = named (kind.Low name) h
piece_kept (kind.Up name) h ranged = named (kind.Up name) h
piece_kept (kind.Mix name) h ranged = named (kind.Mix name) h
piece_kept (kind.Fun name) h ranged = named (kind.Fun name) h
piece_kept (kind.Reserved w) h ranged = word_text w
piece_kept (kind.Text content) h ranged = empty_text

id_kept : (ls : List Terminal) → AreKnown ls → IsText (id_text ls)
id_kept [] r = empty_text
id_kept (l ∷ ls) r = joined_text (piece_text (token_in l).kind) (id_text ls) (piece_kept (token_in l).kind r.0.0 r.0.1) (id_kept ls r.1)

fragment_kept : (ls : List Terminal) → AreKnown ls → AreTexts (fragment_texts (fragment_name ls))
fragment_kept [] r = no_texts
fragment_kept (s ∷ ls) r = one_text (id_text ls) (id_kept ls r.1)

rule_kept : (ls : List Terminal) → AreKnown ls → IsText (rule_name ls)
rule_kept [] r = empty_text
rule_kept (s ∷ ls) r = id_kept ls r.1

-- ---- hints

abbrev HintHas : Hint → Type 0
HintHas h = AreTexts (hint_texts h)

words_kept : (ws : List Terminal) → AreKnown ws → AreTexts (flat_map (λ (x : Token). kind_texts x.kind) (map token_in ws))
words_kept [] r = no_texts
words_kept (l ∷ ws) r = both_texts (kind_texts (token_in l).kind) (flat_map (λ (x : Token). kind_texts x.kind) (map token_in ws)) r.0.0 (words_kept ws r.1)

hint_kept : (h : HintTokens) → AreKnown (hint_text h) → HintHas (hint_meaning h)
hint_kept (hint w o n ws c) r =
    first_text (name_in n) (flat_map (λ (x : Token). kind_texts x.kind) (map token_in ws)) (known_name n r.1.1.0) (words_kept ws (known_left ws (c ∷ []) r.1.1.1))

hints_kept : (hs : Hints) → AreKnown (hints_text hs) → All HintHas (hints_meaning hs)
hints_kept no_hints r = All-nil HintHas
hints_kept (more_hints hs h) r =
    All-push HintHas (hints_meaning hs) (hint_meaning h) (hints_kept hs (known_left (hints_text hs) (hint_text h) r)) (hint_kept h (known_right (hints_text hs) (hint_text h) r))

-- ---- bodies

abbrev FieldHas : List ℕ × Typ → Type 0
FieldHas f = AreTexts (field_texts f)

-- the tokens of the type of a member
member_type : (ms : Members) (pre : List Terminal) (t : Tree) (hs : Hints) → AreKnown (members_text (member ms pre t hs)) → AreKnown (text t)
member_type ms pre t hs r = known_left (text t) (hints_text hs) (known_right pre (text t ++ hints_text hs) (known_right (members_text ms) (pre ++ (text t ++ hints_text hs)) r))

fields_kept : (ms : Members) → AreKnown (members_text ms) → All FieldHas (fields_meaning ms)
fields_kept no_members r = All-nil FieldHas
fields_kept (member ms pre t hs) r =
    let before : AreKnown pre = known_left pre (text t ++ hints_text hs) (known_right (members_text ms) (pre ++ (text t ++ hints_text hs)) r) in
    All-push FieldHas (fields_meaning ms) (label pre, typ_meaning t) (fields_kept ms (known_left (members_text ms) (pre ++ (text t ++ hints_text hs)) r))
    (first_text (label pre) (typ_texts (typ_meaning t)) (label_kept pre before) (typ_kept t (member_type ms pre t hs r)))

cases_kept : (ms : Members) → AreKnown (members_text ms) → All NotationHas (cases_meaning ms)
cases_kept no_members r = All-nil NotationHas
cases_kept (member ms pre t hs) r =
    All-push NotationHas (cases_meaning ms) (notation_meaning t) (cases_kept ms (known_left (members_text ms) (pre ++ (text t ++ hints_text hs)) r))
    (notation_kept t (member_type ms pre t hs r))

abbrev BodyHas : Body → Type 0
BodyHas b = AreTexts (body_texts b)

variant_kept : (ms : Members) (ls : List Terminal) → AreKnown (members_text ms) → BodyHas (variant ms ls)
variant_kept ms ls r = flat_texts notation_texts (cases_meaning ms) (cases_kept ms r)

alone_kept : (b : Bool) (pre : List Terminal) (t : Tree) (hs : Hints) → AreKnown (members_text (member no_members pre t hs)) → BodyHas (if b then body.Alias (typ_meaning t) else variant (member no_members pre t hs) [])
alone_kept true pre t hs r = typ_kept t (member_type no_members pre t hs r)
alone_kept false pre t hs r = variant_kept (member no_members pre t hs) [] r

cases_body : (ms : Members) (ls : List Terminal) → AreKnown (members_text ms) → BodyHas (body_meaning (cases ms ls))
cases_body no_members ls r = variant_kept no_members ls r
cases_body (member (member ms q u ks) pre t hs) ls r = variant_kept (member (member ms q u ks) pre t hs) ls r
cases_body (member no_members (d ∷ b ∷ []) t hs) ls r = variant_kept (member no_members (d ∷ b ∷ []) t hs) ls r
cases_body (member no_members [] t hs) [] r = alone_kept (is_type t) [] t hs r
cases_body (member no_members (b ∷ []) t hs) [] r = alone_kept (is_type t) (b ∷ []) t hs r
cases_body (member no_members (d ∷ b ∷ e ∷ pre) t hs) [] r = alone_kept (is_type t) (d ∷ b ∷ e ∷ pre) t hs r
cases_body (member no_members [] t hs) (l ∷ ls) r = variant_kept (member no_members [] t hs) (l ∷ ls) r
cases_body (member no_members (b ∷ []) t hs) (l ∷ ls) r = variant_kept (member no_members (b ∷ []) t hs) (l ∷ ls) r
cases_body (member no_members (d ∷ b ∷ e ∷ pre) t hs) (l ∷ ls) r = variant_kept (member no_members (d ∷ b ∷ e ∷ pre) t hs) (l ∷ ls) r

body_kept : (b : BodyTokens) → AreKnown (body_text b) → BodyHas (body_meaning b)
body_kept (fields o ms c) r = flat_texts field_texts (fields_meaning ms) (fields_kept ms (known_left (members_text ms) (c ∷ []) r.1))
body_kept (cases ms ls) r = cases_body ms ls (known_left (members_text ms) ls r)

-- ---- premises

abbrev PremHas : Prem → Type 0
PremHas p = AreTexts (prem_texts p)

in_if : (at : Span) (e : Exp) → prem_texts (prem_at at (prem.If e)) ≡ exp_texts e
in_if at e = search (rules, the_lemmas)

in_goal : (at : Span) (name : List ℕ) (e : Exp) → prem_texts (prem_at at (prem.Goal name e)) ≡ name ∷ exp_texts e
in_goal at name e = search (rules, the_lemmas)

in_otherwise : (at : Span) → prem_texts (prem_at at prem.Otherwise) ≡ []
in_otherwise at = search (rules, the_lemmas)

in_each : (at : Span) (p : Prem) (c : Count) → prem_texts (prem_at at (prem.Each p c)) ≡ prem_texts p ++ count_texts c
in_each at p c = search (rules, the_lemmas)

in_node : (at : Span) (n : PremNode) → prem_texts (prem_at at n) ≡ fold-PremNode Found Found prem_node_texts_at (λ p. p.node) n
in_node at n = search (rules, the_lemmas)

-- those of the premise at another place
at_place : (at : Span) (p : Prem) → prem_texts (prem_at at (out-Prem p).node) ≡ prem_texts p
at_place at p =
    let n : PremNode = (out-Prem p).node in
    in_node at n ∙ sym (in_node (out-Prem p).at n) ∙ ap prem_texts (roll-out-Prem p)

condition_kept : (ls : List Terminal) (e : Exp) → AreKnown ls → HasTexts e → PremHas (condition ls e)
condition_kept [] e r h = same_texts _ (exp_texts e) (in_if _ e) h
condition_kept (l ∷ []) e r h = same_texts _ (exp_texts e) (in_if _ e) h
condition_kept (q ∷ c ∷ ls) e r h = same_texts _ (name_in q ∷ exp_texts e) (in_goal _ (name_in q) e) (first_text (name_in q) (exp_texts e) (known_name q r.0) h)

sign_kept : (l : Terminal) → AreTexts (count_texts (sign_count l))
sign_kept (sign m x) = mark_kept m
sign_kept (leaf k x) = mark_kept mark.Question
sign_kept (dot x) = mark_kept mark.Question
sign_kept (opening k x) = mark_kept mark.Question
sign_kept (closing k x) = mark_kept mark.Question
sign_kept (other x) = mark_kept mark.Question

each_kept : (at : Span) (p : Prem) (c : Count) → PremHas p → AreTexts (count_texts c) → PremHas (prem_at at (prem.Each p c))
each_kept at p c h k = same_texts _ (prem_texts p ++ count_texts c) (in_each at p c) (both_texts (prem_texts p) (count_texts c) h k)

iterated_kept : (os : List Terminal) (p : Prem) (i : Iterations) → AreKnown (iterations_text i) → PremHas p → PremHas (iterated os p i)
iterated_kept os p no_iterations r h = h
iterated_kept os p (closed i l) r h = iterated_kept os p i (known_left (iterations_text i) (l ∷ []) r) h
iterated_kept os p (marked i l) r h =
    each_kept (opened_at os (closings i)) (iterated os p i) (sign_count l) (iterated_kept os p i (known_left (iterations_text i) (l ∷ []) r) h) (sign_kept l)
iterated_kept os p (counted i l t) r h =
    let count : AreKnown (text t) = (known_right (iterations_text i) (l ∷ text t) r).1 in
    each_kept (opened_at os (closings i)) (iterated os p i) (count_of t (meaning t)) (iterated_kept os p i (known_left (iterations_text i) (l ∷ text t) r) h)
    (count_kept t (meaning t) count (tree_kept t count))

premise_kept : (p : Premise) → AreKnown (premise_text p) → PremHas (premise_meaning p)
premise_kept (default d o) r = same_texts _ [] (in_otherwise _) no_texts
premise_kept (given d os ls t i) r =
    let words = known_right os (ls ++ (text t ++ iterations_text i)) r.1 in
    let rest = known_right ls (text t ++ iterations_text i) words in
    same_texts _ _ (at_place _ (iterated os (condition ls (meaning t)) i))
    (iterated_kept os (condition ls (meaning t)) i (known_right (text t) (iterations_text i) rest)
    (condition_kept ls (meaning t) (known_left ls (text t ++ iterations_text i) words) (tree_kept t (known_left (text t) (iterations_text i) rest))))

premises_kept : (ps : Premises) → AreKnown (premises_text ps) → All PremHas (premises_meaning ps)
premises_kept no_premises r = All-nil PremHas
premises_kept (more_premises ps p) r =
    All-push PremHas (premises_meaning ps) (premise_meaning p) (premises_kept ps (known_left (premises_text ps) (premise_text p) r)) (premise_kept p (known_right (premises_text ps) (premise_text p) r))

all_premises : (ps : Premises) → AreKnown (premises_text ps) → AreTexts (flat_map prem_texts (premises_meaning ps))
all_premises ps r = flat_texts prem_texts (premises_meaning ps) (premises_kept ps r)

-- ---- definitions

patterns_kept : (a : Args) → AreKnown (args_text a) → AreTexts (flat_map exp_texts (patterns a))
patterns_kept no_args r = no_texts
patterns_kept (args o ts c) r = flat_texts exp_texts (patterns (args o ts c)) (trees_kept ts (known_left (texts ts) (c ∷ []) r.1))

params_kept : (a : Args) → AreKnown (args_text a) → AreTexts (flat_map typ_texts (params a))
params_kept no_args r = no_texts
params_kept (args o ts c) r = flat_texts typ_texts (typ_meanings ts) (typs_kept ts (known_left (texts ts) (c ∷ []) r.1))

made_kept : (w : Terminal) (hs : List Hint) (n : DefNode) → All HintHas hs → AreTexts (def_node_texts n) → DefHasTexts (def_at w hs n)
made_kept w hs n h k = both_texts (flat_map hint_texts hs) (def_node_texts n) (flat_texts hint_texts hs h) k

def_kept : (d : DefTokens) → AreKnown (def_text d) → DefHasTexts (def_meaning d)
def_kept (syntax_def w x ls hs e b) r =
    let behind = known_right ls (hints_text hs ++ (e ∷ body_text b)) r.1.1 in
    let f : Option (List ℕ) = fragment_name ls in
    made_kept w (hints_meaning hs) (def.Syntax (name_in x) f (body_meaning b)) (hints_kept hs (known_left (hints_text hs) (e ∷ body_text b) behind))
    (first_text (name_in x) (fragment_texts f ++ body_texts (body_meaning b)) (known_name x r.1.0)
    (both_texts (fragment_texts f) (body_texts (body_meaning b)) (fragment_kept ls (known_left ls (hints_text hs ++ (e ∷ body_text b)) r.1.1)) (body_kept b (known_right (hints_text hs) (e ∷ body_text b) behind).1)))
def_kept (var_def w x c t hs) r =
    made_kept w (hints_meaning hs) (def.Var (name_in x) (typ_meaning t)) (hints_kept hs (known_right (text t) (hints_text hs) r.1.1.1))
    (first_text (name_in x) (typ_texts (typ_meaning t)) (known_name x r.1.0) (typ_kept t (known_left (text t) (hints_text hs) r.1.1.1)))
def_kept (relation_def w q hs c t ks) r =
    let behind = (known_right (hints_text hs) (c ∷ (text t ++ hints_text ks)) r.1.1).1 in
    made_kept w (hints_meaning hs ++ hints_meaning ks) (def.Relation (name_in q) (notation_meaning t))
    (All-append HintHas (hints_meaning hs) (hints_meaning ks) (hints_kept hs (known_left (hints_text hs) (c ∷ (text t ++ hints_text ks)) r.1.1)) (hints_kept ks (known_right (text t) (hints_text ks) behind)))
    (first_text (name_in q) (notation_texts (notation_meaning t)) (known_name q r.1.0) (notation_kept t (known_left (text t) (hints_text ks) behind)))
def_kept (rule_def w q ls c t ps) r =
    let behind = (known_right ls (c ∷ (text t ++ premises_text ps)) r.1.1).1 in
    let asked = flat_map prem_texts (premises_meaning ps) in
    made_kept w [] (def.Rule (name_in q) (rule_name ls) (meaning t) (premises_meaning ps)) (All-nil HintHas)
    (first_text (name_in q) (rule_name ls ∷ (exp_texts (meaning t) ++ asked)) (known_name q r.1.0)
    (first_text (rule_name ls) (exp_texts (meaning t) ++ asked) (rule_kept ls (known_left ls (c ∷ (text t ++ premises_text ps)) r.1.1))
    (both_texts (exp_texts (meaning t)) asked (tree_kept t (known_left (text t) (premises_text ps) behind)) (all_premises ps (known_right (text t) (premises_text ps) behind)))))
def_kept (fun_def w f a c t hs) r =
    let behind = (known_right (args_text a) (c ∷ (text t ++ hints_text hs)) r.1.1).1 in
    made_kept w (hints_meaning hs) (def.Fun (name_in f) (params a) (typ_meaning t)) (hints_kept hs (known_right (text t) (hints_text hs) behind))
    (first_text (name_in f) (flat_map typ_texts (params a) ++ typ_texts (typ_meaning t)) (known_name f r.1.0)
    (both_texts (flat_map typ_texts (params a)) (typ_texts (typ_meaning t)) (params_kept a (known_left (args_text a) (c ∷ (text t ++ hints_text hs)) r.1.1)) (typ_kept t (known_left (text t) (hints_text hs) behind))))
def_kept (clause_def w f a e t ps) r =
    let behind = (known_right (args_text a) (e ∷ (text t ++ premises_text ps)) r.1.1).1 in
    let asked = flat_map prem_texts (premises_meaning ps) in
    made_kept w [] (def.Clause (name_in f) (patterns a) (meaning t) (premises_meaning ps)) (All-nil HintHas)
    (first_text (name_in f) (flat_map exp_texts (patterns a) ++ (exp_texts (meaning t) ++ asked)) (known_name f r.1.0)
    (both_texts (flat_map exp_texts (patterns a)) (exp_texts (meaning t) ++ asked) (patterns_kept a (known_left (args_text a) (e ∷ (text t ++ premises_text ps)) r.1.1))
    (both_texts (exp_texts (meaning t)) asked (tree_kept t (known_left (text t) (premises_text ps) behind)) (all_premises ps (known_right (text t) (premises_text ps) behind)))))

defs_kept : (ds : Defs) → AreKnown (defs_text ds) → All DefHasTexts (defs_meaning ds)
defs_kept no_defs r = All-nil DefHasTexts
defs_kept (more_defs ds d) r =
    All-push DefHasTexts (defs_meaning ds) (def_meaning d) (defs_kept ds (known_left (defs_text ds) (def_text d) r)) (def_kept d (known_right (defs_text ds) (def_text d) r))

pub definitions_kept : (names : List (List ℕ)) (xs : List Token) (defs : List Def) → AreProper xs → Parse names xs defs → All DefHasTexts defs
definitions_kept names xs defs h p =
    let known : AreKnown (defs_text p.trees) = subst AreKnown p.grammar.spelled (all_known names xs h) in
    subst (All DefHasTexts) p.meant (defs_kept p.trees known)
