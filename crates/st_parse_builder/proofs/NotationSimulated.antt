-- The parts of types and notations on the stack of the code stand for the pieces that the actions
-- make.
use Rattle.std.proofs.Common.{arith, ◌≡◌, ℕ, ◌+◌, ◌≤◌, List, [], ◌∷◌, ◌++◌, map, max, false, Some, option_and_then, refl, sym, ap, ◌∙◌, if◌then◌else◌}
use Rattle.std.proofs.Math.Nat.{max-zero}
use Rattle.std.specs.Option.{option_map}
use Rattle.st_num.specs.declared.span.Span.{Span}
use Rattle.st_num.specs.declared.token.Token.{Token}
use Rattle.st_grammar.specs.declared.sort.Leaf.{Leaf}
use Rattle.st_grammar.specs.declared.sort.Leaf.TheVariants as leaf
use Rattle.st_el.specs.declared.ty.Typ.{Typ}
use Rattle.st_el.specs.declared.notation.Notation.{Notation}
use Rattle.st_el.specs.declared.notation.NotNode.TheVariants as not_node
use Rattle.st_grammar.specs.declared.action.Action.{Action}
use Rattle.st_grammar.specs.declared.action.Action.TheVariants as action
use Rattle.st_parse_builder.specs.declared.built.Built.{Built}
use Rattle.st_parse_builder.specs.declared.notation_piece.NotationPiece.{NotationPiece}
use Rattle.st_parse_builder.specs.declared.notation_piece.NotationPiece.TheVariants.{Hole as a_type, Whole as whole, Types as types, Elements as elements, From as from_place}
use Rattle.st_parse_builder.specs.Names.{name_of}
use Rattle.st_parse_builder.specs.Notations.{marked, typ_in_parens, notation_at, notation_place, hole, atom_on, tick, notation_joined}
use Rattle.st_parse_builder.specs.Heights.{highest, typ_height, notation_height}
use Rattle.st_parse_builder.specs.inner.NotationBuilding as pieces
use Rattle.st_parse_builder.specs.inner.NotationBuilding.{operand_piece}
use Rattle.st_parse_builder.specs.inner.PieceHeights.{notation_piece_height}
use Rattle.st_parse_builder.specs.inner.Parts.{built, over, raised, both}
use Rattle.st_parse_builder.specs.inner.NotationEntries.{entries, type_in, whole_in, types_in, elements_in, place_in, as_notation, top_notation, top_type, top_whole, top_types, top_elements, top_place, with_notation, with_place, put, more_types, more_elements, part_behind, put_part, is_one, enclosed_types, applied}
use Rattle.st_parse_builder.proofs.PartLemmas.{part, over_built, raised_built, both_built, read_built, known_built, by_tree, begun_built, untold_built, as_part, high_part, both_high}
use Rattle.st_parse_builder.proofs.NotationTops.{reads, on_notation, on_type, on_whole, on_place, on_part}
use Rattle.st_parse_builder.proofs.Tallness.{highest_behind}
use Rattle.st_parse_builder.proofs.NotationTallness.{tall_typ_leaf, tall_typ_marked, tall_tuple, tall_atom, tall_hole, tall_bracket, tall_sequence, tall_notation_joined, tall_absent, tall_atom_on}

-- ---- what is on top

type_on : (b : Span) (t : Typ) (s : pieces.Stack) → top_type (entries (a_type b t ∷ s)) ≡ Some (built 0 (typ_height t) (b, t), entries s)
type_on b t s = ap (option_map (λ q. (q, entries s))) (read_built type_in 0 (typ_height t) (a_type b t) (b, t) refl)

whole_on : (n : Notation) (s : pieces.Stack) → top_whole (entries (whole n ∷ s)) ≡ Some (built 0 (notation_height n) n, entries s)
whole_on n s = ap (option_map (λ q. (q, entries s))) (read_built whole_in 0 (notation_height n) (whole n) n refl)

types_on : (b : Span) (ts : List Typ) (s : pieces.Stack) → top_types (entries (types b ts ∷ s)) ≡ Some (built 0 (highest (map typ_height ts)) (b, ts), entries s)
types_on b ts s = ap (option_map (λ q. (q, entries s))) (read_built types_in 0 (highest (map typ_height ts)) (types b ts) (b, ts) refl)

elements_on : (b : Span) (ns : List Notation) (s : pieces.Stack) → top_elements (entries (elements b ns ∷ s)) ≡ Some (built 0 (highest (map notation_height ns)) (b, ns), entries s)
elements_on b ns s = ap (option_map (λ q. (q, entries s))) (read_built elements_in 0 (highest (map notation_height ns)) (elements b ns) (b, ns) refl)

place_on : (b : Span) (s : pieces.Stack) → top_place (entries (from_place b ∷ s)) ≡ Some (b, entries s)
place_on b s = ap (option_map (λ q. (q, entries s))) (known_built place_in 0 0 (from_place b) (omega arith))

-- what stands for this piece
abbrev stands : NotationPiece → Built NotationPiece
stands p = built 0 (notation_piece_height p) p

-- a part of a type as a notation
hole_read : (b : Span) (t : Typ) → as_notation (stands (a_type b t)).tree (stands (a_type b t)).height (stands (a_type b t)).from ≡ Some (built 0 (notation_height (hole b t)) (hole b t))
hole_read b t =
    by_tree 0 (typ_height t) (a_type b t)
    (λ low i.
    ap (λ o. as_notation o p.height p.from) i
    ∙ ap (λ q. Some (over (λ x. hole x.0 x.1) (raised q))) (as_part 0 (typ_height t) (a_type b t) (b, t) low)
    ∙ ap (λ q. Some (over (λ x. hole x.0 x.1) q)) (raised_built 0 (typ_height t) (b, t))
    ∙ ap Some (over_built (λ x. hole x.0 x.1) 0 (typ_height t + 1) (b, t))
    ∙ ap (λ m. Some (built 0 m (hole b t))) (sym (tall_hole b t)))
    (λ tall i. ap (λ o. as_notation o p.height p.from) i ∙ ap Some (high_part 0 (typ_height t) (notation_height (hole b t)) (a_type b t) (hole b t) tall (omega (arith, tall, tall_hole b t))))
  where
    p : Built NotationPiece
    p = built 0 (typ_height t) (a_type b t)

-- a part as a notation
notation_read : (p : NotationPiece) (n : Notation) → reads p ≡ Some n → as_notation (stands p).tree (stands p).height (stands p).from ≡ Some (built 0 (notation_height n) n)
notation_read (a_type b t) n h = let is : hole b t ≡ n = cc in hole_read b t ∙ ap (λ m. Some (built 0 (notation_height m) m)) is
notation_read (whole m) n h =
    let is : m ≡ n = cc in whole_read m ∙ ap (λ m. Some (built 0 (notation_height m) m)) is
  where
    whole_read : (m : Notation) → as_notation (built 0 (notation_height m) (whole m)).tree (built 0 (notation_height m) (whole m)).height (built 0 (notation_height m) (whole m)).from ≡ Some (built 0 (notation_height m) m)
    whole_read m =
        by_tree 0 (notation_height m) (whole m)
        (λ low i. ap (λ o. as_notation o (built 0 (notation_height m) (whole m)).height (built 0 (notation_height m) (whole m)).from) i ∙ ap Some (as_part 0 (notation_height m) (whole m) m low))
        (λ tall i. ap (λ o. as_notation o (built 0 (notation_height m) (whole m)).height (built 0 (notation_height m) (whole m)).from) i ∙ ap Some (high_part 0 (notation_height m) (notation_height m) (whole m) m tall tall))
notation_read p n h = absurd (cc)

notation_on : (p : NotationPiece) (n : Notation) (s : pieces.Stack) → reads p ≡ Some n → top_notation (entries (p ∷ s)) ≡ Some (built 0 (notation_height n) n, entries s)
notation_on p n s h = ap (option_map (λ q. (q, entries s))) (notation_read p n h)

-- ---- what is made

same : {A : Type 0} (s u : pieces.Stack) (f : A → NotationPiece) (a : A) (n : ℕ) → notation_piece_height (f a) ≡ n → pieces.put (f a) s ≡ Some u
    → put (over f (built 0 n a)) (entries s) ≡ Some (entries u)
same s u f a n tall h =
    let is : f a ∷ s ≡ u = cc in
    ap (λ p. put p (entries s)) (over_built f 0 n a ∙ ap (λ m. built 0 m (f a)) (sym tall))
    ∙ ap (λ v. Some (entries v)) is

higher : {A : Type 0} (s u : pieces.Stack) (f : A → NotationPiece) (a : A) (n : ℕ) → notation_piece_height (f a) ≡ n + 1 → pieces.put (f a) s ≡ Some u
    → put (over f (raised (built 0 n a))) (entries s) ≡ Some (entries u)
higher s u f a n tall h = ap (λ p. put (over f p) (entries s)) (raised_built 0 n a) ∙ same s u f a (n + 1) tall h

begins : (s u : pieces.Stack) (p : NotationPiece) (n : ℕ) → notation_piece_height p ≡ n → n ≤ 100 → pieces.put p s ≡ Some u
    → put (part 0 (Some p) n) (entries s) ≡ Some (entries u)
begins s u p n tall low h =
    let is : p ∷ s ≡ u = cc in
    ap (λ q. put q (entries s)) (begun_built 0 n p low ∙ ap (λ m. built 0 m p) (sym tall))
    ∙ ap (λ v. Some (entries v)) is

tall_operand : (k : Leaf) (x : Token) → notation_piece_height (operand_piece k x) ≡ 1
tall_operand leaf.Low x = tall_typ_leaf x.at x.kind
tall_operand leaf.Basic x = tall_typ_leaf x.at x.kind
tall_operand leaf.Variable x = tall_atom x.at (name_of x.kind)
tall_operand leaf.Atom x = tall_atom x.at (name_of x.kind)
tall_operand leaf.Number x = tall_atom x.at (name_of x.kind)
tall_operand leaf.Literal x = tall_atom x.at (name_of x.kind)
tall_operand leaf.Function x = tall_atom x.at (name_of x.kind)

-- a part whose place stands below it
placed : (s u : pieces.Stack) (g : Span → Notation → NotationPiece) (p : NotationPiece) (n : Notation) (b : Span) → reads p ≡ Some n → notation_piece_height (g b n) ≡ notation_height n + 1 → pieces.put (g b n) s ≡ Some u
    → with_notation (entries (p ∷ from_place b ∷ s)) (λ q r. with_place r (λ c. put (over (g c) (raised q)))) ≡ Some (entries u)
placed s u g p n b is tall h =
    ap (option_and_then (λ t. with_place t.1 (λ c. put (over (g c) (raised t.0))))) (notation_on p n (from_place b ∷ s) is)
    ∙ ap (option_and_then (λ t. put (over (g t.0) (raised (built 0 (notation_height n) n))) t.1)) (place_on b s)
    ∙ higher s u (g b) n (notation_height n) tall h

-- ---- one more part

part_put : (p : NotationPiece) (s u : pieces.Stack) → pieces.put_part p s ≡ Some u → put_part (entries (p ∷ s)) ≡ Some (entries u)
part_put p s u h = on_part p s u h
    (λ b c t ts r i j k.
    let f : List Typ × (Span × Typ) → NotationPiece = λ x. types c (x.0 ++ x.1.1 ∷ []) in
    ap (λ v. put_part (stands v ∷ entries s)) i ∙ ap (λ v. put_part (stands (a_type b t) ∷ entries v)) j
    ∙ by_tree 0 (highest (map typ_height ts)) (types c ts)
    (λ low e.
    ap (λ o. option_map (λ q. q ∷ entries r) (part_behind o (stands (types c ts)) (stands (a_type b t)))) e
    ∙ ap (λ o. option_map (λ q. q ∷ entries r) (option_map (more_types c (part (stands (types c ts)).from (Some ts) (stands (types c ts)).height)) o)) (read_built type_in 0 (typ_height t) (a_type b t) (b, t) refl)
    ∙ ap (λ q. Some (over f (both q (built 0 (typ_height t) (b, t))) ∷ entries r)) (as_part 0 (highest (map typ_height ts)) (types c ts) ts low)
    ∙ ap (λ q. Some (over f q ∷ entries r)) (both_built 0 0 (highest (map typ_height ts)) (typ_height t) ts (b, t))
    ∙ same r u f (ts, (b, t)) (max (highest (map typ_height ts)) (typ_height t)) (highest_behind typ_height ts t) k)
    (λ tall e.
    let is : types c (ts ++ t ∷ []) ∷ r ≡ u = cc in
    ap (λ o. option_map (λ q. q ∷ entries r) (part_behind o (stands (types c ts)) (stands (a_type b t)))) e
    ∙ ap (λ q. Some (q ∷ entries r)) (untold_built 0 (notation_piece_height (types c (ts ++ t ∷ []))) (types c (ts ++ t ∷ [])) (omega (arith, tall, highest_behind typ_height ts t)))
    ∙ ap (λ v. Some (entries v)) is))
    (λ c n ns r i j k.
    let f : List Notation × Notation → NotationPiece = λ x. elements c (x.0 ++ x.1 ∷ []) in
    ap (λ v. put_part (stands p ∷ entries v)) j
    ∙ by_tree 0 (highest (map notation_height ns)) (elements c ns)
    (λ low e.
    ap (λ o. option_map (λ q. q ∷ entries r) (part_behind o (stands (elements c ns)) (stands p))) e
    ∙ ap (λ o. option_map (λ q. q ∷ entries r) (option_map (more_elements c (part (stands (elements c ns)).from (Some ns) (stands (elements c ns)).height)) o)) (notation_read p n i)
    ∙ ap (λ q. Some (over f (both q (built 0 (notation_height n) n)) ∷ entries r)) (as_part 0 (highest (map notation_height ns)) (elements c ns) ns low)
    ∙ ap (λ q. Some (over f q ∷ entries r)) (both_built 0 0 (highest (map notation_height ns)) (notation_height n) ns n)
    ∙ same r u f (ns, n) (max (highest (map notation_height ns)) (notation_height n)) (highest_behind notation_height ns n) k)
    (λ tall e.
    let is : elements c (ns ++ n ∷ []) ∷ r ≡ u = cc in
    ap (λ o. option_map (λ q. q ∷ entries r) (part_behind o (stands (elements c ns)) (stands p))) e
    ∙ ap (λ q. Some (q ∷ entries r)) (untold_built 0 (notation_piece_height (elements c (ns ++ n ∷ []))) (elements c (ns ++ n ∷ [])) (omega (arith, tall, highest_behind notation_height ns n)))
    ∙ ap (λ v. Some (entries v)) is))

-- ---- types in parentheses

parens_put : (b : Span) (ts : List Typ) (s u : pieces.Stack) → pieces.put (a_type b (typ_in_parens b ts)) s ≡ Some u
    → put (over (λ x. a_type x.0 (typ_in_parens x.0 x.1)) (enclosed_types (built 0 (highest (map typ_height ts)) (b, ts)))) (entries s) ≡ Some (entries u)
parens_put b ts s u h = go ts h
  where
    f : Span × List Typ → NotationPiece
    f x = a_type x.0 (typ_in_parens x.0 x.1)

    more : (ts : List Typ) → is_one (built 0 (highest (map typ_height ts)) (b, ts)).tree ≡ false → typ_height (typ_in_parens b ts) ≡ highest (map typ_height ts) + 1
        → pieces.put (a_type b (typ_in_parens b ts)) s ≡ Some u
        → put (over f (enclosed_types (built 0 (highest (map typ_height ts)) (b, ts)))) (entries s) ≡ Some (entries u)
    more ts single tall h =
        ap (λ c. put (over f (if c then built 0 (highest (map typ_height ts)) (b, ts) else raised (built 0 (highest (map typ_height ts)) (b, ts)))) (entries s)) single
        ∙ higher s u f (b, ts) (highest (map typ_height ts)) tall h

    go : (ts : List Typ) → pieces.put (a_type b (typ_in_parens b ts)) s ≡ Some u
        → put (over f (enclosed_types (built 0 (highest (map typ_height ts)) (b, ts)))) (entries s) ≡ Some (entries u)
    go [] h = more [] (by_tree 0 0 (b, []) (λ low e. ap is_one e) (λ tall e. ap is_one e)) (tall_tuple b []) h
    go (t ∷ []) h =
        by_tree 0 (max (typ_height t) 0) (b, t ∷ [])
        (λ low e.
        ap (λ c. put (over f (if c then built 0 (max (typ_height t) 0) (b, t ∷ []) else raised (built 0 (max (typ_height t) 0) (b, t ∷ [])))) (entries s)) (ap is_one e)
        ∙ same s u f (b, t ∷ []) (max (typ_height t) 0) (sym (max-zero (typ_height t))) h)
        (λ tall e.
        let is : a_type b t ∷ s ≡ u = cc in
        ap (λ c. put (over f (if c then built 0 (max (typ_height t) 0) (b, t ∷ []) else raised (built 0 (max (typ_height t) 0) (b, t ∷ [])))) (entries s)) (ap is_one e)
        ∙ ap (λ q. put (over f q) (entries s)) (raised_built 0 (max (typ_height t) 0) (b, t ∷ []))
        ∙ ap (λ q. put q (entries s)) (over_built f 0 (max (typ_height t) 0 + 1) (b, t ∷ []) ∙ both_high 0 (max (typ_height t) 0 + 1) (typ_height t) (a_type b t) (omega (arith, tall)) (omega (arith, tall)))
        ∙ ap (λ v. Some (entries v)) is)
    go (t ∷ w ∷ ts) h = more (t ∷ w ∷ ts) (by_tree 0 (highest (map typ_height (t ∷ w ∷ ts))) (b, t ∷ w ∷ ts) (λ low e. ap is_one e) (λ tall e. ap is_one e)) (tall_tuple b (t ∷ w ∷ ts)) h

-- ---- actions

pub simulated : (a : Action) (s u : pieces.Stack) → pieces.applied a s ≡ Some u → applied a (entries s) ≡ Some (entries u)
simulated (action.Operand k x) s u h = begins s u (operand_piece k x) 1 (tall_operand k x) (omega arith) h
simulated (action.Dot x) s u h = on_whole s u _ h (λ n r i h.
    let f : Notation → NotationPiece = λ n. whole (atom_on n x) in
    ap (λ v. applied (action.Dot x) (entries v)) i
    ∙ ap (option_and_then (λ t. put (over f t.0) t.1)) (whole_on n r)
    ∙ same r u f n (notation_height n) (tall_atom_on n x) h)
simulated (action.Mark m) s u h = on_type s u _ h (λ b t r i h.
    let f : Span × Typ → NotationPiece = λ x. a_type x.0 (marked x.0 m x.1) in
    ap (λ v. applied (action.Mark m) (entries v)) i
    ∙ ap (option_and_then (λ q. put (over f (raised q.0)) q.1)) (type_on b t r)
    ∙ higher r u f (b, t) (typ_height t) (tall_typ_marked b m t) h)
simulated (action.Here b) s u h = begins s u (from_place b) 0 refl (omega arith) h
simulated (action.Prefix m) s u h = on_notation s u _ h (λ p n r i is h. on_place r u _ h (λ b q j h.
    ap (λ v. applied (action.Prefix m) (entries v)) (i ∙ ap (λ v. p ∷ v) j)
    ∙ placed q u (λ b n. whole (notation_joined (notation_at b (not_node.Seq [])) m n)) p n b is (tall_absent b m n) h))
simulated (action.Enclose k) s u h = on_notation s u _ h (λ p n r i is h. on_place r u _ h (λ b q j h.
    ap (λ v. applied (action.Enclose k) (entries v)) (i ∙ ap (λ v. p ∷ v) j)
    ∙ placed q u (λ b n. whole (notation_at b (not_node.Bracket (tick k) n))) p n b is (tall_bracket b (tick k) n) h))
simulated (action.Join m) s u h = on_notation s u _ h (λ p r t i is h. on_notation t u _ h (λ o l q j it h.
    let f : Notation × Notation → NotationPiece = λ x. whole (notation_joined x.0 m x.1) in
    ap (λ v. applied (action.Join m) (entries v)) (i ∙ ap (λ v. p ∷ v) j)
    ∙ ap (option_and_then (λ t. with_notation t.1 (λ y. put (over f (raised (both y t.0)))))) (notation_on p r (o ∷ q) is)
    ∙ ap (option_and_then (λ t. put (over f (raised (both t.0 (built 0 (notation_height r) r)))) t.1)) (notation_on o l q it)
    ∙ ap (λ y. put (over f (raised y)) (entries q)) (both_built 0 0 (notation_height l) (notation_height r) l r)
    ∙ higher q u f (l, r) (max (notation_height l) (notation_height r)) (tall_notation_joined l m r) h))
simulated (action.Open b) s u h = begins s u (types b []) 0 refl (omega arith) h
simulated action.First s u h = on_notation s u _ h (λ p n r i is h.
    let f : Notation → NotationPiece = λ n. elements (notation_place n) (n ∷ []) in
    ap (λ v. applied action.First (entries v)) i
    ∙ ap (option_and_then (λ t. put (over f t.0) t.1)) (notation_on p n r is)
    ∙ same r u f n (notation_height n) (max-zero (notation_height n)) h)
simulated action.Part (p ∷ s) u h = part_put p s u h
simulated action.EndParens (types b ts ∷ s) u h =
    ap (option_and_then (λ t. put (over (λ x. a_type x.0 (typ_in_parens x.0 x.1)) (enclosed_types t.0)) t.1)) (types_on b ts s)
    ∙ parens_put b ts s u h
simulated action.EndSequence (elements b ns ∷ s) u h =
    let f : Span × List Notation → NotationPiece = λ x. whole (notation_at x.0 (not_node.Seq x.1)) in
    ap (option_and_then (λ t. put (over f (raised t.0)) t.1)) (elements_on b ns s)
    ∙ higher s u f (b, ns) (highest (map notation_height ns)) (tall_sequence b ns) h
simulated a s u h = absurd (cc)
