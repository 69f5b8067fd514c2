-- Heights of expressions by their parts.
use Rattle.std.proofs.Common.{◌≡◌, ℕ, ◌+◌, ◌≤◌, List, [], ◌∷◌, ◌++◌, map, Bool, true, false, refl, sym, ap, subst, ◌∙◌, arith, rules, if◌then◌else◌}
use Rattle.std.specs.Prelude.{max}
use Rattle.std.proofs.Math.Nat.{max-zero, zero-max}
use Rattle.st_num.specs.declared.mark.Mark.{Mark}
use Rattle.st_num.specs.declared.span.Span.{Span}
use Rattle.st_el.specs.declared.expression.Exp.{Exp, out-Exp, roll-out-Exp, the_lemmas}
use Rattle.st_el.specs.declared.expression.Node.{Node, fold-Node}
use Rattle.st_el.specs.declared.expression.Node.TheVariants as node
use Rattle.st_el.specs.declared.expression.Count.TheVariants as count
use Rattle.st_el.specs.declared.expression.Seg.{Seg}
use Rattle.st_grammar.specs.declared.sort.Bracket.{Bracket}
use Rattle.st_grammar.specs.declared.sort.Bracket.TheVariants as bracket
use Rattle.st_num.specs.declared.token.TokenKind.{TokenKind}
use Rattle.st_num.specs.declared.token.TokenKind.TheVariants as kind
use Rattle.st_num.specs.declared.word.Word.TheVariants as word
use Rattle.st_grammar.specs.declared.sort.Leaf.{Leaf}
use Rattle.st_grammar.specs.declared.sort.Leaf.TheVariants as leaf
use Rattle.st_el.specs.declared.expression.Seg.TheVariants as seg
use Rattle.st_parse_builder.specs.Names.{name_of, number_of, literal_node, leaf_node}
use Rattle.st_num.specs.Signs.{is_notation}
use Rattle.st_parse_builder.specs.Meaning.{exp, place, joined, is_tilde, prefixed, is_star, is_plus, iterated, mark_count, in_parens, enclosed, is_extension, changed}
use Rattle.st_grammar.specs.Definitions.{is_minus}
use Rattle.st_parse_builder.specs.Heights.{height_count_at, height_node_at, height_seg_at, height_exp_at, highest, height, seg_height}
use Rattle.st_parse_builder.specs.inner.PieceHeights.{field_height}

tall_sides : (b : Bool) (at : Span) (l : Exp) (m : Mark) (r : Exp) → height (exp at (if b then node.Infix l m r else node.Binary l m r)) ≡ max (height l) (height r) + 1
tall_sides true at l m r = search (rules, the_lemmas)
tall_sides false at l m r = search (rules, the_lemmas)

pub tall_joined : (l : Exp) (m : Mark) (r : Exp) → height (joined l m r) ≡ max (height l) (height r) + 1
tall_joined l m r = tall_sides (is_notation m) _ l m r

pub tall_iterated : (e c : Exp) → height (iterated e (count.Times c)) ≡ max (height e) (height c) + 1
tall_iterated e c = search (rules, the_lemmas)

pub tall_below : (e : Exp) (name : List ℕ) (c : Exp) → height (iterated e (count.Below name c)) ≡ max (height e) (height c) + 1
tall_below e name c = search (rules, the_lemmas)

pub tall_enclosed : (k : Bracket) (at : Span) (e : Exp) → height (exp at (enclosed k e)) ≡ height e + 1
tall_enclosed bracket.Round at e = search (rules, the_lemmas)
tall_enclosed bracket.Square at e = search (rules, the_lemmas)
tall_enclosed bracket.Brace at e = search (rules, the_lemmas)
tall_enclosed bracket.TickRound at e = search (rules, the_lemmas)
tall_enclosed bracket.TickSquare at e = search (rules, the_lemmas)
tall_enclosed bracket.TickBrace at e = search (rules, the_lemmas)
tall_enclosed bracket.Dollar at e = search (rules, the_lemmas)

pub tall_seq : (at : Span) (es : List Exp) → height (exp at (node.Seq es)) ≡ highest (map height es) + 1
tall_seq at es = search (rules, the_lemmas)

pub tall_tuple : (at : Span) (es : List Exp) → height (exp at (node.Tuple es)) ≡ highest (map height es) + 1
tall_tuple at es = search (rules, the_lemmas)

pub tall_call : (at : Span) (name : List ℕ) (es : List Exp) → height (exp at (node.Call name es)) ≡ highest (map height es) + 1
tall_call at name es = search (rules, the_lemmas)

pub heights_of : (fs : List (List ℕ × Exp)) → map (λ (f : List ℕ × ℕ). f.1) (map (λ (f : List ℕ × Exp). (f.0, height f.1)) fs) ≡ map field_height fs
heights_of [] = refl
heights_of (f ∷ fs) = ap (λ hs. height f.1 ∷ hs) (heights_of fs)

pub tall_levels : (at : Span) (fs : List (List ℕ × Exp)) → height (exp at (node.Fields fs)) ≡ highest (map (λ (f : List ℕ × ℕ). f.1) (map (λ (f : List ℕ × Exp). (f.0, height f.1)) fs)) + 1
tall_levels at fs = search (rules, the_lemmas)

pub tall_fields : (at : Span) (fs : List (List ℕ × Exp)) → height (exp at (node.Fields fs)) ≡ highest (map field_height fs) + 1
tall_fields at fs = tall_levels at fs ∙ ap (λ hs. highest hs + 1) (heights_of fs)

pub max_assoc : (a b c : ℕ) → max (max a b) c ≡ max a (max b c)
max_assoc a b c = omega arith

-- one more is behind
pub highest_behind : {A : Type 0} (f : A → ℕ) (xs : List A) (x : A) → highest (map f (xs ++ x ∷ [])) ≡ max (highest (map f xs)) (f x)
highest_behind f [] x = max-zero (f x) ∙ sym (zero-max (f x))
highest_behind f (y ∷ ys) x = ap (max (f y)) (highest_behind f ys x) ∙ sym (max_assoc (f y) (highest (map f ys)) (f x))

pub tall_extended : (at : Span) (e : Exp) (ps : List Seg) (f : Exp) → height (exp at (node.Extend e ps f)) ≡ max (height e) (max (highest (map seg_height ps)) (height f)) + 1
tall_extended at e ps f = search (rules, the_lemmas)

pub tall_updated : (at : Span) (e : Exp) (ps : List Seg) (f : Exp) → height (exp at (node.Update e ps f)) ≡ max (height e) (max (highest (map seg_height ps)) (height f)) + 1
tall_updated at e ps f = search (rules, the_lemmas)

pub tall_negated : (at : Span) (e : Exp) → height (exp at (node.Not e)) ≡ height e + 1
tall_negated at e = search (rules, the_lemmas)

pub tall_paren : (at : Span) (e : Exp) → height (exp at (node.Paren e)) ≡ height e + 1
tall_paren at e = search (rules, the_lemmas)

pub tall_length : (at : Span) (e : Exp) → height (exp at (node.Len e)) ≡ height e + 1
tall_length at e = search (rules, the_lemmas)

pub tall_field_of : (at : Span) (e : Exp) (name : List ℕ) → height (exp at (node.Dot e name)) ≡ height e + 1
tall_field_of at e name = search (rules, the_lemmas)

pub tall_at : (at : Span) (e i : Exp) → height (exp at (node.At e i)) ≡ max (height e) (height i) + 1
tall_at at e i = search (rules, the_lemmas)

pub tall_slice : (at : Span) (e i j : Exp) → height (exp at (node.Slice e i j)) ≡ max (height e) (max (height i) (height j)) + 1
tall_slice at e i j = search (rules, the_lemmas)

pub tall_atom : (at : Span) (name : List ℕ) → height (exp at (node.Atom name)) ≡ 1
tall_atom at name = search (rules, the_lemmas)

tall_change : (b : Bool) (at : Span) (e : Exp) (ps : List Seg) (f : Exp) → height (exp at (if b then node.Extend e ps f else node.Update e ps f)) ≡ max (height e) (max (highest (map seg_height ps)) (height f)) + 1
tall_change true at e ps f = tall_extended at e ps f
tall_change false at e ps f = tall_updated at e ps f

pub tall_changed : (m : Mark) (e : Exp) (ps : List Seg) (f : Exp) → height (changed m e ps f) ≡ max (height e) (max (highest (map seg_height ps)) (height f)) + 1
tall_changed m e ps f = tall_change (is_extension m) _ e ps f

simple : (e : Exp) → {h : ℕ} → h ≡ max (height e) 0 + 1 → h ≡ height e + 1
simple e h = h ∙ ap (λ n. n + 1) (max-zero (height e))

tall_mark : (a b : Bool) (e : Exp) → height (iterated e (if a then count.Star else if b then count.Plus else count.Quest)) ≡ height e + 1
tall_mark true b e = simple e (search (rules, the_lemmas))
tall_mark false true e = simple e (search (rules, the_lemmas))
tall_mark false false e = simple e (search (rules, the_lemmas))

pub tall_marked : (m : Mark) (e : Exp) → height (iterated e (mark_count m)) ≡ height e + 1
tall_marked m e = tall_mark (is_star m) (is_plus m) e

pub tall_parens : (at : Span) (es : List Exp) → height (exp at (in_parens es)) ≡ highest (map height es) + 1
tall_parens at [] = tall_tuple at []
tall_parens at (e ∷ []) = tall_paren at e ∙ ap (λ h. h + 1) (sym (max-zero (height e)))
tall_parens at (e ∷ f ∷ es) = tall_tuple at (e ∷ f ∷ es)

tall_absent : (at : Span) (m : Mark) (e : Exp) → height (exp at (node.Infix (exp at (node.Seq [])) m e)) ≡ max 1 (height e) + 1
tall_absent at m e = search (rules, the_lemmas)

-- An expression is at least 1 high.
rolled_tall : (at : Span) (n : Node) → 1 ≤ height (exp at n)
rolled_tall at n = let is : height (exp at n) ≡ fold-Node ℕ ℕ ℕ ℕ height_count_at height_node_at height_seg_at height_exp_at n + 1 = search (rules, the_lemmas) in omega (arith, is)

some_height : (e : Exp) → max 1 (height e) ≡ height e
some_height e = let low : 1 ≤ height e = subst (λ d. 1 ≤ height d) (roll-out-Exp e) (rolled_tall (place e) (out-Exp e).node) in omega (arith, low)

-- the height of a prefix sign with what is behind it
tall_prefix : (a b : Bool) (at : Span) (m : Mark) (e : Exp) → height (exp at (if a then node.Not e else if b then node.Neg e else node.Infix (exp at (node.Seq [])) m e)) ≡ height e + 1
tall_prefix true b at m e = tall_negated at e
tall_prefix false true at m e = search (rules, the_lemmas)
tall_prefix false false at m e = tall_absent at m e ∙ ap (λ n. n + 1) (some_height e)

pub tall_prefixed : (m : Mark) (at : Span) (e : Exp) → height (prefixed m at e) ≡ height e + 1
tall_prefixed m at e = tall_prefix (is_tilde m) (is_minus m) at m e

pub tall_step : (e : Exp) → seg_height (seg.At e) ≡ height e
tall_step e = search (rules, the_lemmas)

pub tall_steps : (e f : Exp) → seg_height (seg.Slice e f) ≡ max (height e) (height f)
tall_steps e f = search (rules, the_lemmas)

pub tall_field_step : (name : List ℕ) → seg_height (seg.Field name) ≡ 0
tall_field_step name = search (rules, the_lemmas)

tall_name : (at : Span) (name : List ℕ) → height (exp at (node.Name name)) ≡ 1
tall_name at name = search (rules, the_lemmas)

tall_number : (at : Span) (n : ℕ) → height (exp at (node.Number n)) ≡ 1
tall_number at n = search (rules, the_lemmas)

tall_bool : (at : Span) (b : Bool) → height (exp at (node.Bool b)) ≡ 1
tall_bool at b = search (rules, the_lemmas)

tall_text : (at : Span) (text : List ℕ) → height (exp at (node.Text text)) ≡ 1
tall_text at text = search (rules, the_lemmas)

tall_eps : (at : Span) → height (exp at node.Eps) ≡ 1
tall_eps at = search (rules, the_lemmas)

tall_literal : (at : Span) (k : TokenKind) → height (exp at (literal_node k)) ≡ 1
tall_literal at (kind.Low name) = tall_eps at
tall_literal at (kind.Up name) = tall_eps at
tall_literal at (kind.Mix name) = tall_eps at
tall_literal at (kind.Number n) = tall_eps at
tall_literal at (kind.Text text) = tall_text at text
tall_literal at (kind.Dot name) = tall_eps at
tall_literal at (kind.Fun name) = tall_eps at
tall_literal at (kind.Sign m) = tall_eps at
tall_literal at (kind.Reserved word.Syntax) = tall_eps at
tall_literal at (kind.Reserved word.Relation) = tall_eps at
tall_literal at (kind.Reserved word.Rule) = tall_eps at
tall_literal at (kind.Reserved word.Var) = tall_eps at
tall_literal at (kind.Reserved word.Def) = tall_eps at
tall_literal at (kind.Reserved word.Grammar) = tall_eps at
tall_literal at (kind.Reserved word.Hint) = tall_eps at
tall_literal at (kind.Reserved word.If) = tall_eps at
tall_literal at (kind.Reserved word.Otherwise) = tall_eps at
tall_literal at (kind.Reserved word.Eps) = tall_eps at
tall_literal at (kind.Reserved word.True) = tall_bool at true
tall_literal at (kind.Reserved word.False) = tall_bool at false
tall_literal at (kind.Reserved word.Bool) = tall_eps at
tall_literal at (kind.Reserved word.Nat) = tall_eps at
tall_literal at (kind.Reserved word.Int) = tall_eps at
tall_literal at (kind.Reserved word.Text) = tall_eps at
tall_literal at (kind.Reserved word.Rat) = tall_eps at
tall_literal at (kind.Reserved word.Real) = tall_eps at

pub tall_leaf : (at : Span) (l : Leaf) (k : TokenKind) → height (exp at (leaf_node l k)) ≡ 1
tall_leaf at leaf.Low k = tall_name at (name_of k)
tall_leaf at leaf.Basic k = tall_name at (name_of k)
tall_leaf at leaf.Variable k = tall_name at (name_of k)
tall_leaf at leaf.Atom k = tall_atom at (name_of k)
tall_leaf at leaf.Number k = tall_number at (number_of k)
tall_leaf at leaf.Literal k = tall_literal at k
tall_leaf at leaf.Function k = tall_call at (name_of k) []
