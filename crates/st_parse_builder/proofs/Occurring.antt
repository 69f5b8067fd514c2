-- The variables of expressions by their parts.
use Rattle.std.proofs.Common.{◌≡◌, ℕ, List, [], ◌∷◌, ◌++◌, map, flat_map, Bool, true, false, refl, sym, ap, ◌∙◌, rules, append-nil, append_assoc, if◌then◌else◌}
use Rattle.st_num.specs.declared.mark.Mark.{Mark}
use Rattle.st_num.specs.declared.span.Span.{Span}
use Rattle.st_num.specs.declared.token.TokenKind.{TokenKind}
use Rattle.st_num.specs.declared.token.TokenKind.TheVariants as kind
use Rattle.st_num.specs.declared.word.Word.TheVariants as word
use Rattle.st_el.specs.declared.expression.Exp.{Exp, the_lemmas}
use Rattle.st_el.specs.declared.expression.Node.TheVariants as node
use Rattle.st_el.specs.declared.expression.Count.TheVariants as count
use Rattle.st_el.specs.declared.expression.Seg.{Seg}
use Rattle.st_el.specs.declared.expression.Seg.TheVariants as seg
use Rattle.st_grammar.specs.declared.sort.Bracket.{Bracket}
use Rattle.st_grammar.specs.declared.sort.Bracket.TheVariants as bracket
use Rattle.st_grammar.specs.Definitions.{is_minus}
use Rattle.st_parse_builder.specs.Names.{literal_node}
use Rattle.st_num.specs.Signs.{is_notation}
use Rattle.st_parse_builder.specs.Meaning.{exp, joined, is_tilde, prefixed, is_star, is_plus, iterated, mark_count, in_parens, enclosed, is_extension, changed}
use Rattle.st_parse_builder.specs.Variables.{Occurrence, without, in_all, variables, seg_variables}
use Rattle.st_parse_builder.specs.inner.PieceVariables.{field_variables}

-- ---- lists

pub without-none : (xs : List Occurrence) → without [] xs ≡ xs
without-none [] = refl
without-none (x ∷ xs) = ap (λ ys. x ∷ ys) (without-none xs)

flat : {A : Type 0} (f : A → List Occurrence) (xs : List A) → in_all (map f xs) ≡ flat_map f xs
flat f [] = refl
flat f (x ∷ xs) = ap (λ ys. f x ++ ys) (flat f xs)

flat_fields : (fs : List (List ℕ × Exp)) → flat_map (λ (f : List ℕ × List Occurrence). f.1) (map (λ (f : List ℕ × Exp). (f.0, variables f.1)) fs) ≡ flat_map field_variables fs
flat_fields [] = refl
flat_fields (f ∷ fs) = ap (λ ys. variables f.1 ++ ys) (flat_fields fs)

-- one more is behind
pub one_behind : {A : Type 0} (f : A → List Occurrence) (xs : List A) (x : A) → flat_map f (xs ++ x ∷ []) ≡ flat_map f xs ++ f x
one_behind f [] x = append-nil (f x)
one_behind f (y ∷ ys) x = ap (λ zs. f y ++ zs) (one_behind f ys x) ∙ sym (append_assoc (f y) (flat_map f ys) (f x))

-- ---- signs

in_sides : (b : Bool) (at : Span) (l : Exp) (m : Mark) (r : Exp) → variables (exp at (if b then node.Infix l m r else node.Binary l m r)) ≡ variables l ++ variables r
in_sides true at l m r = search (rules, the_lemmas)
in_sides false at l m r = search (rules, the_lemmas)

pub in_joined : (l : Exp) (m : Mark) (r : Exp) → variables (joined l m r) ≡ variables l ++ variables r
in_joined l m r = in_sides (is_notation m) _ l m r

in_prefix : (a b : Bool) (at : Span) (m : Mark) (e : Exp) → variables (exp at (if a then node.Not e else if b then node.Neg e else node.Infix (exp at (node.Seq [])) m e)) ≡ variables e
in_prefix true b at m e = search (rules, the_lemmas)
in_prefix false true at m e = search (rules, the_lemmas)
in_prefix false false at m e = search (rules, the_lemmas)

pub in_prefixed : (m : Mark) (at : Span) (e : Exp) → variables (prefixed m at e) ≡ variables e
in_prefixed m at e = in_prefix (is_tilde m) (is_minus m) at m e

-- ---- iterations

times_in : (e c : Exp) → variables (iterated e (count.Times c)) ≡ without [] (variables e) ++ variables c
times_in e c = search (rules, the_lemmas)

pub in_iterated : (e c : Exp) → variables (iterated e (count.Times c)) ≡ variables e ++ variables c
in_iterated e c = times_in e c ∙ ap (λ xs. xs ++ variables c) (without-none (variables e))

pub in_below : (e : Exp) (name : List ℕ) (c : Exp) → variables (iterated e (count.Below name c)) ≡ without (name ∷ []) (variables e) ++ variables c
in_below e name c = search (rules, the_lemmas)

simple : (e : Exp) {xs : List Occurrence} → xs ≡ without [] (variables e) ++ [] → xs ≡ variables e
simple e h = h ∙ append-nil (without [] (variables e)) ∙ without-none (variables e)

in_mark : (a b : Bool) (e : Exp) → variables (iterated e (if a then count.Star else if b then count.Plus else count.Quest)) ≡ variables e
in_mark true b e = simple e (search (rules, the_lemmas))
in_mark false true e = simple e (search (rules, the_lemmas))
in_mark false false e = simple e (search (rules, the_lemmas))

pub in_marked : (m : Mark) (e : Exp) → variables (iterated e (mark_count m)) ≡ variables e
in_marked m e = in_mark (is_star m) (is_plus m) e

-- ---- brackets

pub in_enclosed : (k : Bracket) (at : Span) (e : Exp) → variables (exp at (enclosed k e)) ≡ variables e
in_enclosed bracket.Round at e = search (rules, the_lemmas)
in_enclosed bracket.Square at e = search (rules, the_lemmas)
in_enclosed bracket.Brace at e = search (rules, the_lemmas)
in_enclosed bracket.TickRound at e = search (rules, the_lemmas)
in_enclosed bracket.TickSquare at e = search (rules, the_lemmas)
in_enclosed bracket.TickBrace at e = search (rules, the_lemmas)
in_enclosed bracket.Dollar at e = search (rules, the_lemmas)

pub in_length : (at : Span) (e : Exp) → variables (exp at (node.Len e)) ≡ variables e
in_length at e = search (rules, the_lemmas)

in_paren : (at : Span) (e : Exp) → variables (exp at (node.Paren e)) ≡ variables e
in_paren at e = search (rules, the_lemmas)

tuple_in : (at : Span) (es : List Exp) → variables (exp at (node.Tuple es)) ≡ in_all (map variables es)
tuple_in at es = search (rules, the_lemmas)

seq_in : (at : Span) (es : List Exp) → variables (exp at (node.Seq es)) ≡ in_all (map variables es)
seq_in at es = search (rules, the_lemmas)

call_in : (at : Span) (name : List ℕ) (es : List Exp) → variables (exp at (node.Call name es)) ≡ in_all (map variables es)
call_in at name es = search (rules, the_lemmas)

in_tuple : (at : Span) (es : List Exp) → variables (exp at (node.Tuple es)) ≡ flat_map variables es
in_tuple at es = tuple_in at es ∙ flat variables es

pub in_seq : (at : Span) (es : List Exp) → variables (exp at (node.Seq es)) ≡ flat_map variables es
in_seq at es = seq_in at es ∙ flat variables es

pub in_call : (at : Span) (name : List ℕ) (es : List Exp) → variables (exp at (node.Call name es)) ≡ flat_map variables es
in_call at name es = call_in at name es ∙ flat variables es

pub in_round : (at : Span) (es : List Exp) → variables (exp at (in_parens es)) ≡ flat_map variables es
in_round at [] = in_tuple at []
in_round at (e ∷ []) = in_paren at e ∙ sym (append-nil (variables e))
in_round at (e ∷ f ∷ es) = in_tuple at (e ∷ f ∷ es)

fields_in : (at : Span) (fs : List (List ℕ × Exp)) → variables (exp at (node.Fields fs)) ≡ flat_map (λ (f : List ℕ × List Occurrence). f.1) (map (λ (f : List ℕ × Exp). (f.0, variables f.1)) fs)
fields_in at fs = search (rules, the_lemmas)

pub in_fields : (at : Span) (fs : List (List ℕ × Exp)) → variables (exp at (node.Fields fs)) ≡ flat_map field_variables fs
in_fields at fs = fields_in at fs ∙ flat_fields fs

-- ---- positions and paths

pub in_at : (at : Span) (e i : Exp) → variables (exp at (node.At e i)) ≡ variables e ++ variables i
in_at at e i = search (rules, the_lemmas)

pub in_slice : (at : Span) (e i j : Exp) → variables (exp at (node.Slice e i j)) ≡ (variables e ++ variables i) ++ variables j
in_slice at e i j = search (rules, the_lemmas)

pub in_step : (e : Exp) → seg_variables (seg.At e) ≡ variables e
in_step e = search (rules, the_lemmas)

pub in_steps : (e f : Exp) → seg_variables (seg.Slice e f) ≡ variables e ++ variables f
in_steps e f = search (rules, the_lemmas)

pub in_field_step : (name : List ℕ) → seg_variables (seg.Field name) ≡ []
in_field_step name = search (rules, the_lemmas)

extend_in : (at : Span) (e : Exp) (ps : List Seg) (f : Exp) → variables (exp at (node.Extend e ps f)) ≡ (variables e ++ in_all (map seg_variables ps)) ++ variables f
extend_in at e ps f = search (rules, the_lemmas)

update_in : (at : Span) (e : Exp) (ps : List Seg) (f : Exp) → variables (exp at (node.Update e ps f)) ≡ (variables e ++ in_all (map seg_variables ps)) ++ variables f
update_in at e ps f = search (rules, the_lemmas)

in_change : (b : Bool) (at : Span) (e : Exp) (ps : List Seg) (f : Exp) → variables (exp at (if b then node.Extend e ps f else node.Update e ps f)) ≡ (variables e ++ flat_map seg_variables ps) ++ variables f
in_change true at e ps f = extend_in at e ps f ∙ ap (λ xs. (variables e ++ xs) ++ variables f) (flat seg_variables ps)
in_change false at e ps f = update_in at e ps f ∙ ap (λ xs. (variables e ++ xs) ++ variables f) (flat seg_variables ps)

pub in_changed : (m : Mark) (e : Exp) (ps : List Seg) (f : Exp) → variables (changed m e ps f) ≡ (variables e ++ flat_map seg_variables ps) ++ variables f
in_changed m e ps f = in_change (is_extension m) _ e ps f

-- ---- operands and dots

pub in_name : (at : Span) (name : List ℕ) → variables (exp at (node.Name name)) ≡ (name, at) ∷ []
in_name at name = search (rules, the_lemmas)

pub in_atom : (at : Span) (name : List ℕ) → variables (exp at (node.Atom name)) ≡ []
in_atom at name = search (rules, the_lemmas)

pub in_dot : (at : Span) (e : Exp) (name : List ℕ) → variables (exp at (node.Dot e name)) ≡ variables e
in_dot at e name = search (rules, the_lemmas)

pub in_number : (at : Span) (n : ℕ) → variables (exp at (node.Number n)) ≡ []
in_number at n = search (rules, the_lemmas)

in_bool : (at : Span) (b : Bool) → variables (exp at (node.Bool b)) ≡ []
in_bool at b = search (rules, the_lemmas)

in_text : (at : Span) (text : List ℕ) → variables (exp at (node.Text text)) ≡ []
in_text at text = search (rules, the_lemmas)

in_eps : (at : Span) → variables (exp at node.Eps) ≡ []
in_eps at = search (rules, the_lemmas)

pub in_literal : (at : Span) (k : TokenKind) → variables (exp at (literal_node k)) ≡ []
in_literal at (kind.Low name) = in_eps at
in_literal at (kind.Up name) = in_eps at
in_literal at (kind.Mix name) = in_eps at
in_literal at (kind.Number n) = in_eps at
in_literal at (kind.Text text) = in_text at text
in_literal at (kind.Dot name) = in_eps at
in_literal at (kind.Fun name) = in_eps at
in_literal at (kind.Sign m) = in_eps at
in_literal at (kind.Reserved word.Syntax) = in_eps at
in_literal at (kind.Reserved word.Relation) = in_eps at
in_literal at (kind.Reserved word.Rule) = in_eps at
in_literal at (kind.Reserved word.Var) = in_eps at
in_literal at (kind.Reserved word.Def) = in_eps at
in_literal at (kind.Reserved word.Grammar) = in_eps at
in_literal at (kind.Reserved word.Hint) = in_eps at
in_literal at (kind.Reserved word.If) = in_eps at
in_literal at (kind.Reserved word.Otherwise) = in_eps at
in_literal at (kind.Reserved word.Eps) = in_eps at
in_literal at (kind.Reserved word.True) = in_bool at true
in_literal at (kind.Reserved word.False) = in_bool at false
in_literal at (kind.Reserved word.Bool) = in_eps at
in_literal at (kind.Reserved word.Nat) = in_eps at
in_literal at (kind.Reserved word.Int) = in_eps at
in_literal at (kind.Reserved word.Text) = in_eps at
in_literal at (kind.Reserved word.Rat) = in_eps at
in_literal at (kind.Reserved word.Real) = in_eps at
