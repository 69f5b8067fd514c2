-- What is seen behind each action.
use Rattle.std.proofs.Common.{◌≡◌, ℕ, ◌+◌, List, [], ◌∷◌, ◌++◌, length, take, drop, flat_map, Bool, true, false, Some, option_and_then, ◌&&◌, refl, sym, ap, ◌∙◌, append-nil, append_assoc, length-append, if◌then◌else◌}
use Rattle.std.proofs.Math.Seq.{drop-append_seam, take-append_seam}
use Rattle.st_num.specs.declared.token.Token.{Token}
use Rattle.st_grammar.specs.declared.sort.Leaf.{Leaf}
use Rattle.st_grammar.specs.declared.sort.Leaf.TheVariants as leaf
use Rattle.st_el.specs.declared.expression.Exp.{Exp}
use Rattle.st_el.specs.declared.expression.Node.TheVariants as node
use Rattle.st_el.specs.declared.expression.Count.TheVariants as count
use Rattle.st_el.specs.declared.expression.Seg.TheVariants as seg
use Rattle.st_grammar.specs.declared.action.Action.{Action}
use Rattle.st_grammar.specs.declared.action.Action.TheVariants as action
use Rattle.st_parse_builder.specs.declared.piece.Piece.{Piece}
use Rattle.st_parse_builder.specs.declared.piece.Piece.TheVariants.{Done, Parts, Fields, Path, Label, Here}
use Rattle.st_parse_builder.specs.Names.{name_of, number_of, leaf_node}
use Rattle.st_parse_builder.specs.Meaning.{exp, place, opened, is_atom, atom_name, joined, prefixed, dotted, iterated, mark_count, in_parens, enclosed, changed}
use Rattle.st_parse_builder.specs.Heights.{height}
use Rattle.st_parse_builder.specs.Variables.{Occurrence, occurrences, without, variables, seg_variables}
use Rattle.st_parse_builder.specs.inner.Building.{Stack, put, call_name, applied}
use Rattle.st_parse_builder.specs.inner.PieceVariables.{field_variables, piece_variables, stack_variables}
use Rattle.st_parse_builder.specs.inner.Parts.{built}
use Rattle.st_parse_builder.specs.inner.Entries as entry
use Rattle.st_parse_builder.specs.inner.Entries.{entries, left_out, named, noted}
use Rattle.st_parse_builder.proofs.PartLemmas.{from_built}
use Rattle.st_parse_builder.proofs.Tops.{on_done, on_parts, on_fields, on_path, on_label, on_place, on_pair, on_whole, on_some, call_alone, atom_alone, second}
use Rattle.st_parse_builder.proofs.OnTop.{done_on, label_on}
use Rattle.st_parse_builder.proofs.Occurring.{one_behind, in_joined, in_prefixed, in_iterated, in_below, in_marked, in_enclosed, in_length, in_seq, in_call, in_round, in_fields, in_at, in_slice, in_step, in_steps, in_field_step, in_changed, in_name, in_atom, in_dot, in_number, in_literal}

-- ---- lists

stack-append : (xs ys : Stack) → stack_variables (xs ++ ys) ≡ stack_variables ys ++ stack_variables xs
stack-append [] ys = sym (append-nil (stack_variables ys))
stack-append (p ∷ xs) ys =
    ap (λ os. os ++ piece_variables p) (stack-append xs ys)
    ∙ append_assoc (stack_variables ys) (stack_variables xs) (piece_variables p)

-- what is done to the middle of three parts
middle : (f : List Occurrence → List Occurrence) (a b c o : List Occurrence) (from to : ℕ) → o ≡ (a ++ b) ++ c → from ≡ length a → to ≡ length (a ++ b)
    → (take from (take to o) ++ f (drop from (take to o))) ++ drop to o ≡ (a ++ f b) ++ c
middle f a b c o from to e g h =
    ap (λ n. (take from (take n o) ++ f (drop from (take n o))) ++ drop n o) h
    ∙ ap (λ n. (take n (take (length (a ++ b)) o) ++ f (drop n (take (length (a ++ b)) o))) ++ drop (length (a ++ b)) o) g
    ∙ ap (λ xs. (take (length a) (take (length (a ++ b)) xs) ++ f (drop (length a) (take (length (a ++ b)) xs))) ++ drop (length (a ++ b)) xs) e
    ∙ ap (λ xs. (take (length a) xs ++ f (drop (length a) xs)) ++ drop (length (a ++ b)) ((a ++ b) ++ c)) (take-append_seam (a ++ b) c)
    ∙ ap (λ xs. (take (length a) (a ++ b) ++ f (drop (length a) (a ++ b))) ++ xs) (drop-append_seam (a ++ b) c)
    ∙ ap (λ xs. (xs ++ f (drop (length a) (a ++ b))) ++ c) (take-append_seam a b)
    ∙ ap (λ xs. (a ++ f xs) ++ c) (drop-append_seam a b)

-- ---- a function alone, and an atom

function_alone : (e : Exp) (name : List ℕ) → call_name (opened e) ≡ Some name → variables e ≡ []
function_alone e name h = ap variables (call_alone e name h) ∙ in_call (place e) name []

dots : (b : Bool) (e : Exp) (behind : List ℕ) → (b ≡ true → variables e ≡ [])
    → variables (exp (place e) (if b then node.Atom (atom_name (opened e) ++ 46 ∷ behind) else node.Dot e behind)) ≡ variables e
dots true e behind k = in_atom (place e) (atom_name (opened e) ++ 46 ∷ behind) ∙ sym (k refl)
dots false e behind k = in_dot (place e) e behind

atomic : (e : Exp) → is_atom (opened e) ≡ true → variables e ≡ []
atomic e h = ap variables (atom_alone e h) ∙ in_atom (place e) (atom_name (opened e))

in_dotted : (e : Exp) (x : Token) → variables (dotted e x) ≡ variables e
in_dotted e x =
    dots (x.touching && is_atom (opened e)) e (name_of x.kind) (λ b. atomic e (second x.touching (is_atom (opened e)) b))

-- ---- what is put

-- Nothing more is seen.
abbrev Same : List Occurrence → Stack → Stack → Type 0
Same before s u = Some (before ++ stack_variables s) ≡ Some (before ++ stack_variables u)

taken : (before : List Occurrence) (s u above : Stack) (below : Piece) (rest : Stack) (made : Piece) → s ≡ above ++ below ∷ rest
    → piece_variables made ≡ stack_variables (above ++ below ∷ [])
    → put made rest ≡ Some u → Same before s u
taken before s u above below rest made was same h =
    let is : made ∷ rest ≡ u = cc in
    ap (λ os. Some (before ++ os))
    (ap stack_variables (was ∙ sym (append_assoc above (below ∷ []) rest))
    ∙ stack-append (above ++ below ∷ []) rest
    ∙ ap (λ os. stack_variables rest ++ os) (sym same)
    ∙ ap stack_variables is)

-- one piece alone
one : (before : List Occurrence) (s u : Stack) (p : Piece) (rest : Stack) (made : Piece) → s ≡ p ∷ rest → piece_variables made ≡ piece_variables p
    → put made rest ≡ Some u → Same before s u
one before s u p rest made was same h = taken before s u [] p rest made was same h

adds : (before : List Occurrence) (s u : Stack) (p : Piece) (more : List Occurrence) → piece_variables p ≡ more → put p s ≡ Some u
    → Some ((before ++ stack_variables s) ++ more) ≡ Some (before ++ stack_variables u)
adds before s u p more same h =
    let is : p ∷ s ≡ u = cc in
    ap Some (append_assoc before (stack_variables s) more ∙ ap (λ os. before ++ (stack_variables s ++ os)) (sym same) ∙ ap (λ v. before ++ stack_variables v) is)

begins : (before : List Occurrence) (s u : Stack) (p : Piece) → piece_variables p ≡ [] → put p s ≡ Some u → Same before s u
begins before s u p same h = ap Some (sym (append-nil (before ++ stack_variables s))) ∙ adds before s u p [] same h

-- the upper of two, the second of three
two : (s r q : Stack) (a b : Piece) → s ≡ a ∷ r → r ≡ b ∷ q → s ≡ a ∷ b ∷ q
two s r q a b i j = i ∙ ap (λ v. a ∷ v) j

three : (s r q t : Stack) (a b c : Piece) → s ≡ a ∷ r → r ≡ b ∷ q → q ≡ c ∷ t → s ≡ a ∷ b ∷ c ∷ t
three s r q t a b c i j k = two s r (c ∷ t) a b i (j ∙ ap (λ v. b ∷ v) k)

-- ---- an index

-- what is seen of a body and its count, where an index runs below that
indexed : (before : List Occurrence) (t u : Stack) (e c : Exp) (name : List ℕ) (from to : ℕ)
    → from ≡ length before + length (stack_variables t) → to ≡ length before + length (stack_variables (Label name ∷ Done e ∷ t))
    → put (Done (iterated e (count.Below name c))) t ≡ Some u
    → left_out from to name (before ++ stack_variables (Done c ∷ Label name ∷ Done e ∷ t)) ≡ before ++ stack_variables u
indexed before t u e c name from to f g h =
    let is : Done (iterated e (count.Below name c)) ∷ t ≡ u = cc in
    middle (without (name ∷ [])) front (variables e) (variables c) (before ++ stack_variables (Done c ∷ Label name ∷ Done e ∷ t)) from to parts first last
    ∙ append_assoc front (without (name ∷ []) (variables e)) (variables c)
    ∙ ap (λ os. front ++ os) (sym (in_below e name c))
    ∙ append_assoc before (stack_variables t) (variables (iterated e (count.Below name c)))
    ∙ ap (λ v. before ++ stack_variables v) is
  where
    front : List Occurrence
    front = before ++ stack_variables t

    parts : before ++ stack_variables (Done c ∷ Label name ∷ Done e ∷ t) ≡ (front ++ variables e) ++ variables c
    parts = ap (λ os. before ++ (os ++ variables c)) (append-nil (stack_variables t ++ variables e))
        ∙ sym (append_assoc before (stack_variables t ++ variables e) (variables c))
        ∙ ap (λ os. os ++ variables c) (sym (append_assoc before (stack_variables t) (variables e)))

    first : from ≡ length front
    first = f ∙ sym (length-append before (stack_variables t))

    last : to ≡ length (front ++ variables e)
    last = g ∙ ap (λ os. length before + length os) (append-nil (stack_variables t ++ variables e))
        ∙ sym (length-append before (stack_variables t ++ variables e))
        ∙ ap length (sym (append_assoc before (stack_variables t) (variables e)))

-- ---- actions

operand : (before : List Occurrence) (k : Leaf) (x : Token) (s u : Stack) → put (Done (exp x.at (leaf_node k x.kind))) s ≡ Some u
    → Some ((before ++ stack_variables s) ++ occurrences (named k x)) ≡ Some (before ++ stack_variables u)
operand before leaf.Low x s u h = adds before s u (Done (exp x.at (leaf_node leaf.Low x.kind))) _ (in_name x.at (name_of x.kind)) h
operand before leaf.Basic x s u h = adds before s u (Done (exp x.at (leaf_node leaf.Basic x.kind))) _ (in_name x.at (name_of x.kind)) h
operand before leaf.Variable x s u h = adds before s u (Done (exp x.at (leaf_node leaf.Variable x.kind))) _ (in_name x.at (name_of x.kind)) h
operand before leaf.Atom x s u h = adds before s u (Done (exp x.at (leaf_node leaf.Atom x.kind))) [] (in_atom x.at (name_of x.kind)) h
operand before leaf.Number x s u h = adds before s u (Done (exp x.at (leaf_node leaf.Number x.kind))) [] (in_number x.at (number_of x.kind)) h
operand before leaf.Literal x s u h = adds before s u (Done (exp x.at (leaf_node leaf.Literal x.kind))) [] (in_literal x.at x.kind) h
operand before leaf.Function x s u h = adds before s u (Done (exp x.at (leaf_node leaf.Function x.kind))) [] (in_call x.at (name_of x.kind) []) h

pub noted_is : (before : List Occurrence) (a : Action) (s u : Stack) → applied a s ≡ Some u
    → noted a (entries (length before) s) (before ++ stack_variables s) ≡ Some (before ++ stack_variables u)
noted_is before (action.Operand k x) s u h = operand before k x s u h
noted_is before (action.Label x) s u h = begins before s u (Label (name_of x.kind)) refl h
noted_is before (action.Here at) s u h = begins before s u (Here at) refl h
noted_is before (action.Open at) s u h = begins before s u (Parts at []) refl h
noted_is before (action.OpenFields at) s u h = begins before s u (Fields at []) refl h
noted_is before action.OpenPath s u h = begins before s u (Path []) refl h
noted_is before (action.Dot x) s u h = on_done s u _ h (λ e r i h. one before s u (Done e) r (Done (dotted e x)) i (in_dotted e x) h)
noted_is before (action.Mark m) s u h = on_done s u _ h (λ e r i h. one before s u (Done e) r (Done (iterated e (mark_count m))) i (in_marked m e) h)
noted_is before action.First s u h = on_done s u _ h (λ e r i h. one before s u (Done e) r (Parts (place e) (e ∷ [])) i (append-nil (variables e)) h)
noted_is before action.EndParens s u h = on_parts s u _ h (λ at es q i h. one before s u (Parts at es) q (Done (exp at (in_parens es))) i (in_round at es) h)
noted_is before action.EndSequence s u h = on_parts s u _ h (λ at es q i h. one before s u (Parts at es) q (Done (exp at (node.Seq es))) i (in_seq at es) h)
noted_is before action.EndFields s u h = on_fields s u _ h (λ at fs q i h. one before s u (Fields at fs) q (Done (exp at (node.Fields fs))) i (in_fields at fs) h)
noted_is before (action.StepField x) s u h = on_path s u _ h (λ ps q i h. one before s u (Path ps) q (Path (ps ++ seg.Field (name_of x.kind) ∷ [])) i (one_behind seg_variables ps (seg.Field (name_of x.kind)) ∙ ap (λ xs. flat_map seg_variables ps ++ xs) (in_field_step (name_of x.kind)) ∙ append-nil (flat_map seg_variables ps)) h)
noted_is before action.Times s u h = on_pair s u _ h (λ l r q i h. taken before s u (Done r ∷ []) (Done l) q (Done (iterated l (count.Times r))) i (in_iterated l r) h)
noted_is before (action.Prefix m) s u h = on_done s u _ h (λ e r i h. on_place r u _ h (λ at q j h. taken before s u (Done e ∷ []) (Here at) q (Done (prefixed m at e)) (two s r q _ _ i j) (in_prefixed m at e) h))
noted_is before (action.Enclose b) s u h = on_done s u _ h (λ e r i h. on_place r u _ h (λ at q j h. taken before s u (Done e ∷ []) (Here at) q (Done (exp at (enclosed b e))) (two s r q _ _ i j) (in_enclosed b at e) h))
noted_is before action.Length s u h = on_done s u _ h (λ e r i h. on_place r u _ h (λ at q j h. taken before s u (Done e ∷ []) (Here at) q (Done (exp at (node.Len e))) (two s r q _ _ i j) (in_length at e) h))
noted_is before (action.Join m) s u h = on_pair s u _ h (λ l r q i h. taken before s u (Done r ∷ []) (Done l) q (Done (joined l m r)) i (in_joined l m r) h)
noted_is before action.Part s u h = on_done s u _ h (λ e r i h. on_parts r u _ h (λ at es q j h. taken before s u (Done e ∷ []) (Parts at es) q (Parts at (es ++ e ∷ [])) (two s r q _ _ i j) (one_behind variables es e) h))
noted_is before action.EndCall s u h = on_parts s u _ h (λ at es r i h. on_done r u _ h (λ e q j h. on_some (call_name (opened e)) u _ h (λ name n h. taken before s u (Parts at es ∷ []) (Done e) q (Done (exp (place e) (node.Call name es))) (two s r q _ _ i j) (in_call (place e) name es ∙ sym (ap (λ xs. xs ++ flat_map variables es) (function_alone e name n))) h)))
noted_is before action.StepAt s u h = on_done s u _ h (λ e r i h. on_path r u _ h (λ ps q j h. taken before s u (Done e ∷ []) (Path ps) q (Path (ps ++ seg.At e ∷ [])) (two s r q _ _ i j) (one_behind seg_variables ps (seg.At e) ∙ ap (λ xs. flat_map seg_variables ps ++ xs) (in_step e)) h))
noted_is before action.Field s u h = on_done s u _ h (λ e r i h. on_label r u _ h (λ name q j h. on_fields q u _ h (λ at fs t k h. taken before s u (Done e ∷ Label name ∷ []) (Fields at fs) t (Fields at (fs ++ (name, e) ∷ [])) (three s r q t _ _ _ i j k) (one_behind field_variables fs (name, e) ∙ ap (λ xs. xs ++ variables e) (sym (append-nil (flat_map field_variables fs)))) h)))
noted_is before action.StepSlice s u h = on_pair s u _ h (λ l r t i h. on_path t u _ h (λ ps q j h. taken before s u (Done r ∷ Done l ∷ []) (Path ps) q (Path (ps ++ seg.Slice l r ∷ [])) (i ∙ ap (λ v. Done r ∷ Done l ∷ v) j) (one_behind seg_variables ps (seg.Slice l r) ∙ ap (λ xs. flat_map seg_variables ps ++ xs) (in_steps l r) ∙ sym (append_assoc (flat_map seg_variables ps) (variables l) (variables r))) h))
noted_is before action.At s u h = on_done s u _ h (λ f r i h. on_whole r u _ h (λ e q j h. taken before s u (Done f ∷ Path [] ∷ []) (Done e) q (Done (exp (place e) (node.At e f))) (i ∙ ap (λ v. Done f ∷ v) j) (in_at (place e) e f ∙ ap (λ xs. xs ++ variables f) (sym (append-nil (variables e)))) h))
noted_is before (action.Change m) s u h = on_done s u _ h (λ f r i h. on_path r u _ h (λ ps t j h. on_done t u _ h (λ e q k h. taken before s u (Done f ∷ Path ps ∷ []) (Done e) q (Done (changed m e ps f)) (three s r t q _ _ _ i j k) (in_changed m e ps f) h)))
noted_is before action.Slice s u h = on_pair s u _ h (λ l r t i h. on_whole t u _ h (λ e q j h. taken before s u (Done r ∷ Done l ∷ Path [] ∷ []) (Done e) q (Done (exp (place e) (node.Slice e l r))) (i ∙ ap (λ v. Done r ∷ Done l ∷ v) j) (in_slice (place e) e l r ∙ ap (λ xs. (xs ++ variables l) ++ variables r) (sym (append-nil (variables e)))) h))
noted_is before action.Below s u h = on_done s u _ h (λ c r i h. on_label r u _ h (λ name q j h. on_done q u _ h (λ e t k h.
    let n : ℕ = length before in
    let w : Stack = Done c ∷ Label name ∷ Done e ∷ t in
    ap (λ v. noted action.Below (entries n v) (before ++ stack_variables v)) (three s r q t _ _ _ i j k)
    ∙ ap (option_and_then (λ a. option_and_then (λ b. option_and_then (λ d. Some (left_out d.0.from a.0.from b.0 (before ++ stack_variables w))) (entry.top_done b.1)) (entry.top_label a.1))) (done_on n c (Label name ∷ Done e ∷ t))
    ∙ ap (option_and_then (λ b. option_and_then (λ d. Some (left_out d.0.from (built (n + length (stack_variables (Label name ∷ Done e ∷ t))) (height c) c).from b.0 (before ++ stack_variables w))) (entry.top_done b.1))) (label_on n name (Done e ∷ t))
    ∙ ap (option_and_then (λ d. Some (left_out d.0.from (built (n + length (stack_variables (Label name ∷ Done e ∷ t))) (height c) c).from name (before ++ stack_variables w)))) (done_on n e t)
    ∙ ap Some (indexed before t u e c name (built (n + length (stack_variables t)) (height e) e).from (built (n + length (stack_variables (Label name ∷ Done e ∷ t))) (height c) c).from (from_built _ _ e) (from_built _ _ c) h))))
