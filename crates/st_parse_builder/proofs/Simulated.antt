-- The parts on the stack of the code stand for the pieces that the actions make.
use Rattle.std.proofs.Common.{arith, ◌≡◌, ℕ, ◌+◌, ◌≤◌, ◌<◌, List, [], ◌∷◌, ◌++◌, map, max, Bool, true, false, ◌&&◌, Some, option_and_then, refl, sym, ap, ◌∙◌, append-nil, if◌then◌else◌}
use Rattle.std.proofs.Math.Nat.{max-zero}
use Rattle.std.specs.Option.{option_map}
use Rattle.st_num.specs.declared.span.Span.{Span}
use Rattle.st_num.specs.declared.token.Token.{Token}
use Rattle.st_el.specs.declared.expression.Exp.{Exp}
use Rattle.st_el.specs.declared.expression.Node.TheVariants as node
use Rattle.st_el.specs.declared.expression.Count.TheVariants as count
use Rattle.st_el.specs.declared.expression.Seg.{Seg}
use Rattle.st_el.specs.declared.expression.Seg.TheVariants as seg
use Rattle.st_grammar.specs.declared.action.Action.{Action}
use Rattle.st_grammar.specs.declared.action.Action.TheVariants as action
use Rattle.st_parse_builder.specs.declared.built.Built.{Built}
use Rattle.st_parse_builder.specs.declared.piece.Piece.{Piece}
use Rattle.st_parse_builder.specs.declared.piece.Piece.TheVariants.{Done, Parts, Fields, Path, Label, Here}
use Rattle.st_parse_builder.specs.Names.{name_of, leaf_node}
use Rattle.st_parse_builder.specs.Meaning.{exp, place, opened, is_atom, atom_name, joined, prefixed, dotted, iterated, mark_count, in_parens, enclosed, changed}
use Rattle.st_parse_builder.specs.Heights.{highest, height, seg_height}
use Rattle.st_parse_builder.specs.inner.Building as pieces
use Rattle.st_parse_builder.specs.inner.PieceHeights.{field_height, piece_height}
use Rattle.st_parse_builder.specs.inner.PieceVariables.{stack_variables}
use Rattle.st_parse_builder.specs.inner.Parts.{built, over, raised, both}
use Rattle.st_parse_builder.specs.inner.Entries.{entries, with_label, with_fields, with_parts, with_path, with_place, with_whole, with_done, put, goes_on, behind, call_of, called, applied}
use Rattle.st_parse_builder.proofs.PartLemmas.{part, both_built, begun_built, by_tree, tree_built, moved_built}
use Rattle.st_parse_builder.proofs.Tops.{on_done, on_parts, on_fields, on_path, on_label, on_place, on_pair, on_whole, on_some, call_alone, atom_alone, second}
use Rattle.st_parse_builder.proofs.OnTop.{at, done_on, parts_on, fields_on, path_on, label_on, place_on, pair_on, whole_on, bare, same, higher}
use Rattle.st_parse_builder.proofs.Tallness.{tall_joined, tall_iterated, tall_below, tall_enclosed, tall_seq, tall_call, tall_fields, tall_changed, tall_marked, tall_parens, tall_prefixed, tall_length, tall_field_of, tall_at, tall_slice, tall_atom, tall_leaf, tall_step, tall_steps, tall_field_step, highest_behind}

-- ---- a piece that begins

begins : (before seen : ℕ) (s u : pieces.Stack) (p : Piece) (n : ℕ) → seen ≡ at before s → piece_height p ≡ n → n ≤ 100 → pieces.put p s ≡ Some u
    → put (part seen (Some p) n) (entries before s) ≡ Some (entries before u)
begins before seen s u p n k tall low h =
    let is : p ∷ s ≡ u = cc in
    ap (λ q. put q (entries before s)) (ap (λ m. part m (Some p) n) k ∙ begun_built (at before s) n p low ∙ ap (λ m. built (at before s) m p) (sym tall))
    ∙ ap (λ v. Some (entries before v)) is

-- ---- what stands round one expression

-- a part whose place stands below it
placed : (before : ℕ) (s u : pieces.Stack) (g : Span → Exp → Piece) (e : Exp) (b : Span) → piece_height (g b e) ≡ height e + 1 → pieces.put (g b e) s ≡ Some u
    → with_done (entries before (Done e ∷ Here b ∷ s)) (λ p r. with_place r (λ c. put (over (g c) (raised p)))) ≡ Some (entries before u)
placed before s u g e b tall h =
    ap (option_and_then (λ t. with_place t.1 (λ c. put (over (g c) (raised t.0))))) (done_on before e (Here b ∷ s))
    ∙ ap (option_and_then (λ t. put (over (g t.0) (raised (built (at before (Here b ∷ s)) (height e) e))) t.1)) (place_on before b s)
    ∙ ap (λ m. put (over (g b) (raised (built m (height e) e))) (entries before s)) (bare before (Here b) s (append-nil (stack_variables s)))
    ∙ higher before s u (g b) e (height e) tall h

-- ---- a dot

dotted_low : (b : Bool) (e : Exp) (x : Token) → x.touching && is_atom (opened e) ≡ b → (b ≡ true → height (dotted e x) ≡ 1)
dotted_low b e x i k = ap (λ c. height (exp (place e) (if c then node.Atom (atom_name (opened e) ++ 46 ∷ name_of x.kind) else node.Dot e (name_of x.kind)))) (i ∙ k) ∙ tall_atom (place e) (atom_name (opened e) ++ 46 ∷ name_of x.kind)

dotted_high : (e : Exp) (x : Token) → x.touching && is_atom (opened e) ≡ false → height (dotted e x) ≡ height e + 1
dotted_high e x i = ap (λ c. height (exp (place e) (if c then node.Atom (atom_name (opened e) ++ 46 ∷ name_of x.kind) else node.Dot e (name_of x.kind)))) i ∙ tall_field_of (place e) e (name_of x.kind)

atom_low : (e : Exp) → is_atom (opened e) ≡ true → height e ≡ 1
atom_low e h = ap height (atom_alone e h) ∙ tall_atom (place e) (atom_name (opened e))

goes : (from : ℕ) (e : Exp) (x : Token) → goes_on x (built from (height e) e).tree ≡ x.touching && is_atom (opened e)
goes from e x =
    by_tree from (height e) e
    (λ low i. ap (goes_on x) i)
    (λ tall i. ap (goes_on x) i ∙ sym (never (x.touching && is_atom (opened e)) refl tall))
  where
    never : (b : Bool) → x.touching && is_atom (opened e) ≡ b → 100 < height e → x.touching && is_atom (opened e) ≡ false
    never true i tall = let low : height e ≡ 1 = atom_low e (second x.touching (is_atom (opened e)) i) in absurd (omega (arith, low, tall))
    never false i tall = i

behind_dot : (before : ℕ) (s u : pieces.Stack) (e : Exp) (x : Token) → pieces.put (Done (dotted e x)) s ≡ Some u
    → put (over (λ e. Done (dotted e x)) (behind x (built (at before s) (height e) e))) (entries before s) ≡ Some (entries before u)
behind_dot before s u e x h = go (x.touching && is_atom (opened e)) refl
  where
    p : Built Exp
    p = built (at before s) (height e) e

    f : Exp → Piece
    f e = Done (dotted e x)

    go : (b : Bool) → x.touching && is_atom (opened e) ≡ b → put (over f (if goes_on x p.tree then p else raised p)) (entries before s) ≡ Some (entries before u)
    go true i =
        ap (λ c. put (over f (if c then p else raised p)) (entries before s)) (goes (at before s) e x ∙ i)
        ∙ same before s u f e (height e) (dotted_low true e x i refl ∙ sym (atom_low e (second x.touching (is_atom (opened e)) i))) h
    go false i =
        ap (λ c. put (over f (if c then p else raised p)) (entries before s)) (goes (at before s) e x ∙ i)
        ∙ higher before s u f e (height e) (dotted_high e x i) h

-- ---- a call

no_variables : (before : ℕ) (e : Exp) (name : List ℕ) (s : pieces.Stack) → pieces.call_name (opened e) ≡ Some name → height e ≡ 1
no_variables before e name s h = ap height (call_alone e name h) ∙ tall_call (place e) name []

function_called : (before : ℕ) (s u : pieces.Stack) (e : Exp) (b : Span) (es : List Exp) (from : ℕ) (name : List ℕ) → pieces.call_name (opened e) ≡ Some name
    → pieces.put (Done (exp (place e) (node.Call name es))) s ≡ Some u
    → called (built from (piece_height (Parts b es)) (b, es)) (built (at before s) (height e) e) (entries before s) ≡ Some (entries before u)
function_called before s u e b es from name is h =
    ap (option_and_then (λ d. option_map (λ c. c ∷ entries before s) (call_of d f.from p))) (tree_built (at before s) (height e) e (omega (arith, no_variables before e name s is)))
    ∙ ap (λ o. option_map (λ c. c ∷ entries before s) (option_map (λ n. over (g n) (raised (part f.from p.tree p.height))) o)) is
    ∙ ap (λ q. Some (over (g name) (raised q) ∷ entries before s)) moved
    ∙ higher before s u (g name) (b, es) (piece_height (Parts b es)) (tall_call (place e) name es) h
  where
    p : Built (Span × List Exp)
    p = built from (piece_height (Parts b es)) (b, es)

    f : Built Exp
    f = built (at before s) (height e) e

    g : List ℕ → Span × List Exp → Piece
    g n x = Done (exp (place e) (node.Call n x.1))

    moved : part f.from p.tree p.height ≡ built (at before s) (piece_height (Parts b es)) (b, es)
    moved = moved_built from (at before s) (height e) (piece_height (Parts b es)) e (b, es)

-- ---- actions

pub simulated : (before seen : ℕ) (a : Action) (s u : pieces.Stack) → seen ≡ at before s → pieces.applied a s ≡ Some u
    → applied seen a (entries before s) ≡ Some (entries before u)
simulated before seen (action.Operand k x) s u n h = begins before seen s u (Done (exp x.at (leaf_node k x.kind))) 1 n (tall_leaf x.at k x.kind) (omega arith) h
simulated before seen (action.Label x) s u n h = begins before seen s u (Label (name_of x.kind)) 0 n refl (omega arith) h
simulated before seen (action.Here b) s u n h = begins before seen s u (Here b) 0 n refl (omega arith) h
simulated before seen (action.Open b) s u n h = begins before seen s u (Parts b []) 0 n refl (omega arith) h
simulated before seen (action.OpenFields b) s u n h = begins before seen s u (Fields b []) 0 n refl (omega arith) h
simulated before seen action.OpenPath s u n h = begins before seen s u (Path []) 0 n refl (omega arith) h
simulated before seen (action.Mark m) s u n h = on_done s u _ h (λ e r i h.
    let f : Exp → Piece = λ e. Done (iterated e (mark_count m)) in
    ap (λ v. applied seen (action.Mark m) (entries before v)) i
    ∙ ap (option_and_then (λ t. put (over f (raised t.0)) t.1)) (done_on before e r)
    ∙ higher before r u f e (height e) (tall_marked m e) h)
simulated before seen action.First s u n h = on_done s u _ h (λ e r i h.
    let f : Exp → Piece = λ e. Parts (place e) (e ∷ []) in
    ap (λ v. applied seen action.First (entries before v)) i
    ∙ ap (option_and_then (λ t. put (over f (t.0)) t.1)) (done_on before e r)
    ∙ same before r u f e (height e) (max-zero (height e)) h)
simulated before seen (action.Dot x) s u n h = on_done s u _ h (λ e r i h.
    ap (λ v. applied seen (action.Dot x) (entries before v)) i
    ∙ ap (option_and_then (λ t. put (over (λ e. Done (dotted e x)) (behind x t.0)) t.1)) (done_on before e r)
    ∙ behind_dot before r u e x h)
simulated before seen (action.Prefix m) s u n h = on_done s u _ h (λ e r i h. on_place r u _ h (λ b q j h.
    ap (λ v. applied seen (action.Prefix m) (entries before v)) (i ∙ ap (λ v. Done e ∷ v) j)
    ∙ placed before q u (λ b e. Done (prefixed m b e)) e b (tall_prefixed m b e) h))
simulated before seen (action.Enclose k) s u n h = on_done s u _ h (λ e r i h. on_place r u _ h (λ b q j h.
    ap (λ v. applied seen (action.Enclose k) (entries before v)) (i ∙ ap (λ v. Done e ∷ v) j)
    ∙ placed before q u (λ b e. Done (exp b (enclosed k e))) e b (tall_enclosed k b e) h))
simulated before seen action.Length s u n h = on_done s u _ h (λ e r i h. on_place r u _ h (λ b q j h.
    ap (λ v. applied seen action.Length (entries before v)) (i ∙ ap (λ v. Done e ∷ v) j)
    ∙ placed before q u (λ b e. Done (exp b (node.Len e))) e b (tall_length b e) h))
simulated before seen action.Times s u n h = on_pair s u _ h (λ l r q i h.
    let f : Exp × Exp → Piece = λ x. Done (iterated x.0 (count.Times x.1)) in
    ap (λ v. applied seen action.Times (entries before v)) i
    ∙ ap (option_and_then (λ t. put (over f (raised t.0)) t.1)) (pair_on before l r q)
    ∙ higher before q u f (l, r) (max (height l) (height r)) (tall_iterated l r) h)
simulated before seen (action.Join m) s u n h = on_pair s u _ h (λ l r q i h.
    let f : Exp × Exp → Piece = λ x. Done (joined x.0 m x.1) in
    ap (λ v. applied seen (action.Join m) (entries before v)) i
    ∙ ap (option_and_then (λ t. put (over f (raised t.0)) t.1)) (pair_on before l r q)
    ∙ higher before q u f (l, r) (max (height l) (height r)) (tall_joined l m r) h)
simulated before seen action.EndParens s u n h = on_parts s u _ h (λ b es q i h.
    let f : Span × List Exp → Piece = λ x. Done (exp x.0 (in_parens x.1)) in
    ap (λ v. applied seen action.EndParens (entries before v)) i
    ∙ ap (option_and_then (λ t. put (over f (raised t.0)) t.1)) (parts_on before b es q)
    ∙ higher before q u f (b, es) (piece_height (Parts b es)) (tall_parens b es) h)
simulated before seen action.EndSequence s u n h = on_parts s u _ h (λ b es q i h.
    let f : Span × List Exp → Piece = λ x. Done (exp x.0 (node.Seq x.1)) in
    ap (λ v. applied seen action.EndSequence (entries before v)) i
    ∙ ap (option_and_then (λ t. put (over f (raised t.0)) t.1)) (parts_on before b es q)
    ∙ higher before q u f (b, es) (piece_height (Parts b es)) (tall_seq b es) h)
simulated before seen action.EndFields s u n h = on_fields s u _ h (λ b fs q i h.
    let f : Span × List (List ℕ × Exp) → Piece = λ x. Done (exp x.0 (node.Fields x.1)) in
    ap (λ v. applied seen action.EndFields (entries before v)) i
    ∙ ap (option_and_then (λ t. put (over f (raised t.0)) t.1)) (fields_on before b fs q)
    ∙ higher before q u f (b, fs) (piece_height (Fields b fs)) (tall_fields b fs) h)
simulated before seen (action.StepField x) s u n h = on_path s u _ h (λ ps q i h.
    let f : List Seg → Piece = λ ps. Path (ps ++ seg.Field (name_of x.kind) ∷ []) in
    ap (λ v. applied seen (action.StepField x) (entries before v)) i
    ∙ ap (option_and_then (λ t. put (over f t.0) t.1)) (path_on before ps q)
    ∙ same before q u f ps (piece_height (Path ps)) (highest_behind seg_height ps (seg.Field (name_of x.kind)) ∙ ap (max (highest (map seg_height ps))) (tall_field_step (name_of x.kind)) ∙ max-zero (highest (map seg_height ps))) h)
simulated before seen action.Part s u n h = on_done s u _ h (λ e r i h. on_parts r u _ h (λ b es q j h.
    let f : (Span × List Exp) × Exp → Piece = λ x. Parts x.0.0 (x.0.1 ++ x.1 ∷ []) in
    let d : Built Exp = built (at before (Parts b es ∷ q)) (height e) e in
    ap (λ v. applied seen action.Part (entries before v)) (i ∙ ap (λ v. Done e ∷ v) j)
    ∙ ap (option_and_then (λ t. with_parts t.1 (λ p. put (over f (both p t.0))))) (done_on before e (Parts b es ∷ q))
    ∙ ap (option_and_then (λ t. put (over f (both t.0 d)) t.1)) (parts_on before b es q)
    ∙ ap (λ p. put (over f p) (entries before q)) (both_built (at before q) (at before (Parts b es ∷ q)) (piece_height (Parts b es)) (height e) (b, es) e)
    ∙ same before q u f ((b, es), e) (max (piece_height (Parts b es)) (height e)) (highest_behind height es e) h))
simulated before seen action.StepAt s u n h = on_done s u _ h (λ e r i h. on_path r u _ h (λ ps q j h.
    let f : (List Seg) × Exp → Piece = λ x. Path (x.0 ++ seg.At x.1 ∷ []) in
    let d : Built Exp = built (at before (Path ps ∷ q)) (height e) e in
    ap (λ v. applied seen action.StepAt (entries before v)) (i ∙ ap (λ v. Done e ∷ v) j)
    ∙ ap (option_and_then (λ t. with_path t.1 (λ p. put (over f (both p t.0))))) (done_on before e (Path ps ∷ q))
    ∙ ap (option_and_then (λ t. put (over f (both t.0 d)) t.1)) (path_on before ps q)
    ∙ ap (λ p. put (over f p) (entries before q)) (both_built (at before q) (at before (Path ps ∷ q)) (piece_height (Path ps)) (height e) ps e)
    ∙ same before q u f (ps, e) (max (piece_height (Path ps)) (height e)) (highest_behind seg_height ps (seg.At e) ∙ ap (max (highest (map seg_height ps))) (tall_step e)) h))
simulated before seen action.StepSlice s u n h = on_pair s u _ h (λ l r t i h. on_path t u _ h (λ ps q j h.
    let f : List Seg × (Exp × Exp) → Piece = λ x. Path (x.0 ++ seg.Slice x.1.0 x.1.1 ∷ []) in
    let d : Built (Exp × Exp) = built (at before (Path ps ∷ q)) (max (height l) (height r)) (l, r) in
    ap (λ v. applied seen action.StepSlice (entries before v)) (i ∙ ap (λ v. Done r ∷ Done l ∷ v) j)
    ∙ ap (option_and_then (λ t. with_path t.1 (λ p. put (over f (both p t.0))))) (pair_on before l r (Path ps ∷ q))
    ∙ ap (option_and_then (λ t. put (over f (both t.0 d)) t.1)) (path_on before ps q)
    ∙ ap (λ p. put (over f p) (entries before q)) (both_built (at before q) (at before (Path ps ∷ q)) (piece_height (Path ps)) (max (height l) (height r)) ps (l, r))
    ∙ same before q u f (ps, (l, r)) (max (piece_height (Path ps)) (max (height l) (height r))) (highest_behind seg_height ps (seg.Slice l r) ∙ ap (max (highest (map seg_height ps))) (tall_steps l r)) h))
simulated before seen action.EndCall s u n h = on_parts s u _ h (λ b es r i h. on_done r u _ h (λ e q j h. on_some (pieces.call_name (opened e)) u _ h (λ name is h.
    ap (λ v. applied seen action.EndCall (entries before v)) (i ∙ ap (λ v. Parts b es ∷ v) j)
    ∙ ap (option_and_then (λ t. with_done t.1 (called t.0))) (parts_on before b es (Done e ∷ q))
    ∙ ap (option_and_then (λ t. called (built (at before (Done e ∷ q)) (piece_height (Parts b es)) (b, es)) t.0 t.1)) (done_on before e q)
    ∙ function_called before q u e b es (at before (Done e ∷ q)) name is h)))
simulated before seen action.Field s u n h = on_done s u _ h (λ e r i h. on_label r u _ h (λ name q j h. on_fields q u _ h (λ b fs t k h.
    let f : (Span × List (List ℕ × Exp)) × Exp → Piece = λ x. Fields x.0.0 (x.0.1 ++ (name, x.1) ∷ []) in
    let w : pieces.Stack = Label name ∷ Fields b fs ∷ t in
    let d : Built Exp = built (at before w) (height e) e in
    ap (λ v. applied seen action.Field (entries before v)) (i ∙ ap (λ v. Done e ∷ v) (j ∙ ap (λ v. Label name ∷ v) k))
    ∙ ap (option_and_then (λ o. with_label o.1 (λ c s. with_fields s (λ p. put (over (λ x. Fields x.0.0 (x.0.1 ++ (c, x.1) ∷ [])) (both p o.0)))))) (done_on before e w)
    ∙ ap (option_and_then (λ o. with_fields o.1 (λ p. put (over (λ x. Fields x.0.0 (x.0.1 ++ (o.0, x.1) ∷ [])) (both p d))))) (label_on before name (Fields b fs ∷ t))
    ∙ ap (option_and_then (λ o. put (over f (both o.0 d)) o.1)) (fields_on before b fs t)
    ∙ ap (λ p. put (over f p) (entries before t)) (both_built (at before t) (at before w) (piece_height (Fields b fs)) (height e) (b, fs) e)
    ∙ same before t u f ((b, fs), e) (max (piece_height (Fields b fs)) (height e)) (highest_behind field_height fs (name, e)) h)))
simulated before seen action.At s u n h = on_done s u _ h (λ d r i h. on_whole r u _ h (λ e q j h.
    let f : Exp × Exp → Piece = λ x. Done (exp (place x.0) (node.At x.0 x.1)) in
    let w : pieces.Stack = Path [] ∷ Done e ∷ q in
    let p : Built Exp = built (at before w) (height d) d in
    ap (λ v. applied seen action.At (entries before v)) (i ∙ ap (λ v. Done d ∷ v) j)
    ∙ ap (option_and_then (λ t. with_whole t.1 (λ o. put (over f (raised (both o t.0)))))) (done_on before d w)
    ∙ ap (option_and_then (λ t. put (over f (raised (both t.0 p))) t.1)) (whole_on before e q)
    ∙ ap (λ o. put (over f (raised o)) (entries before q)) (both_built (at before q) (at before w) (height e) (height d) e d)
    ∙ higher before q u f (e, d) (max (height e) (height d)) (tall_at (place e) e d) h))
simulated before seen action.Slice s u n h = on_pair s u _ h (λ l r t i h. on_whole t u _ h (λ e q j h.
    let f : Exp × (Exp × Exp) → Piece = λ x. Done (exp (place x.0) (node.Slice x.0 x.1.0 x.1.1)) in
    let w : pieces.Stack = Path [] ∷ Done e ∷ q in
    let p : Built (Exp × Exp) = built (at before w) (max (height l) (height r)) (l, r) in
    ap (λ v. applied seen action.Slice (entries before v)) (i ∙ ap (λ v. Done r ∷ Done l ∷ v) j)
    ∙ ap (option_and_then (λ t. with_whole t.1 (λ o. put (over f (raised (both o t.0)))))) (pair_on before l r w)
    ∙ ap (option_and_then (λ t. put (over f (raised (both t.0 p))) t.1)) (whole_on before e q)
    ∙ ap (λ o. put (over f (raised o)) (entries before q)) (both_built (at before q) (at before w) (height e) (max (height l) (height r)) e (l, r))
    ∙ higher before q u f (e, (l, r)) (max (height e) (max (height l) (height r))) (tall_slice (place e) e l r) h))
simulated before seen (action.Change m) s u n h = on_done s u _ h (λ d r i h. on_path r u _ h (λ ps t j h. on_done t u _ h (λ e q k h.
    let f : Exp × (List Seg × Exp) → Piece = λ x. Done (changed m x.0 x.1.0 x.1.1) in
    let w : pieces.Stack = Path ps ∷ Done e ∷ q in
    let c : Built Exp = built (at before w) (height d) d in
    let p : Built (List Seg) = built (at before (Done e ∷ q)) (piece_height (Path ps)) ps in
    ap (λ v. applied seen (action.Change m) (entries before v)) (i ∙ ap (λ v. Done d ∷ v) (j ∙ ap (λ v. Path ps ∷ v) k))
    ∙ ap (option_and_then (λ o. with_path o.1 (λ y s. with_done s (λ z. put (over f (raised (both z (both y o.0)))))))) (done_on before d w)
    ∙ ap (option_and_then (λ o. with_done o.1 (λ z. put (over f (raised (both z (both o.0 c))))))) (path_on before ps (Done e ∷ q))
    ∙ ap (option_and_then (λ o. put (over f (raised (both o.0 (both p c)))) o.1)) (done_on before e q)
    ∙ ap (λ o. put (over f (raised (both (built (at before q) (height e) e) o))) (entries before q)) (both_built (at before (Done e ∷ q)) (at before w) (piece_height (Path ps)) (height d) ps d)
    ∙ ap (λ o. put (over f (raised o)) (entries before q)) (both_built (at before q) (at before (Done e ∷ q)) (height e) (max (piece_height (Path ps)) (height d)) e (ps, d))
    ∙ higher before q u f (e, (ps, d)) (max (height e) (max (piece_height (Path ps)) (height d))) (tall_changed m e ps d) h)))
simulated before seen action.Below s u n h = on_done s u _ h (λ c r i h. on_label r u _ h (λ name q j h. on_done q u _ h (λ e t k h.
    let f : Exp × Exp → Piece = λ x. Done (iterated x.0 (count.Below name x.1)) in
    let w : pieces.Stack = Label name ∷ Done e ∷ t in
    let d : Built Exp = built (at before w) (height c) c in
    ap (λ v. applied seen action.Below (entries before v)) (i ∙ ap (λ v. Done c ∷ v) (j ∙ ap (λ v. Label name ∷ v) k))
    ∙ ap (option_and_then (λ o. with_label o.1 (λ y s. with_done s (λ z. put (over (λ x. Done (iterated x.0 (count.Below y x.1))) (raised (both z o.0))))))) (done_on before c w)
    ∙ ap (option_and_then (λ o. with_done o.1 (λ z. put (over (λ x. Done (iterated x.0 (count.Below o.0 x.1))) (raised (both z d)))))) (label_on before name (Done e ∷ t))
    ∙ ap (option_and_then (λ o. put (over f (raised (both o.0 d))) o.1)) (done_on before e t)
    ∙ ap (λ o. put (over f (raised o)) (entries before t)) (both_built (at before t) (at before w) (height e) (height c) e c)
    ∙ higher before t u f (e, c) (max (height e) (height c)) (tall_below e name c) h)))
