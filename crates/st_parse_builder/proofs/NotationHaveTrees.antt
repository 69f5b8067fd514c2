-- Parts of types and notations that all have a tree behind an action were made of parts that all
-- had one.
use Rattle.std.proofs.Common.{◌≡◌, List, [], ◌∷◌, ◌++◌, Option, Some, None, option_and_then, refl, sym, ap, ◌∙◌}
use Rattle.std.specs.Option.{option_map}
use Rattle.st_num.specs.declared.span.Span.{Span}
use Rattle.st_el.specs.declared.ty.Typ.{Typ}
use Rattle.st_el.specs.declared.notation.Notation.{Notation}
use Rattle.st_el.specs.declared.notation.NotNode.TheVariants as not_node
use Rattle.st_grammar.specs.declared.action.Action.{Action}
use Rattle.st_grammar.specs.declared.action.Action.TheVariants as action
use Rattle.st_parse_builder.specs.declared.built.Built.{Built}
use Rattle.st_parse_builder.specs.declared.notation_piece.NotationPiece.{NotationPiece}
use Rattle.st_parse_builder.specs.declared.notation_piece.NotationPiece.TheVariants.{Hole as a_type, Whole as whole, Types as types, Elements as elements, From as from_place}
use Rattle.st_parse_builder.specs.Notations.{marked, typ_in_parens, notation_at, notation_place, hole, atom_on, tick, notation_joined}
use Rattle.st_parse_builder.specs.inner.NotationBuilding as pieces
use Rattle.st_parse_builder.specs.inner.NotationBuilding.{operand_piece}
use Rattle.st_parse_builder.specs.inner.Parts.{above, untold, over, raised, both, read_tree, made_or}
use Rattle.st_parse_builder.specs.inner.NotationEntries.{Stack, type_in, whole_in, types_in, elements_in, place_in, as_notation, top_notation, top_type, top_whole, top_types, top_elements, top_place, more_types, more_elements, part_behind, put_part, is_one, enclosed_types, applied, the_part, typ_in, open_notation, notation_in}
use Rattle.st_parse_builder.specs.inner.HaveTrees.{HaveTrees, NotationTreesCome}
use Rattle.st_parse_builder.proofs.PartLemmas.{part}
use Rattle.st_parse_builder.proofs.Tops.{on_some}
use Rattle.st_parse_builder.proofs.NotationTops.{reads}
use Rattle.st_parse_builder.proofs.HaveTrees.{kept_has, both_has, either_has, on_mapped, read_has, on_first, equal_have, top_has, known_has, same_has, higher_has, begun_has}

-- ---- parts on a stack

is_type : (t : NotationPiece) (x : Span × Typ) → type_in t ≡ Some x → t ≡ a_type x.0 x.1
is_type (a_type at t) x h = let is : (at, t) ≡ x = cc in ap (λ y. a_type y.0 y.1) is
is_type t x h = absurd (cc)

is_whole : (t : NotationPiece) (n : Notation) → whole_in t ≡ Some n → t ≡ whole n
is_whole (whole m) n h = let is : m ≡ n = cc in ap whole is
is_whole t n h = absurd (cc)

is_types : (t : NotationPiece) (x : Span × List Typ) → types_in t ≡ Some x → t ≡ types x.0 x.1
is_types (types at ts) x h = let is : (at, ts) ≡ x = cc in ap (λ y. types y.0 y.1) is
is_types t x h = absurd (cc)

is_elements : (t : NotationPiece) (x : Span × List Notation) → elements_in t ≡ Some x → t ≡ elements x.0 x.1
is_elements (elements at ns) x h = let is : (at, ns) ≡ x = cc in ap (λ y. elements y.0 y.1) is
is_elements t x h = absurd (cc)

is_place : (t : NotationPiece) (at : Span) → place_in t ≡ Some at → t ≡ from_place at
is_place (from_place other) at h = let is : other ≡ at = cc in ap from_place is
is_place t at h = absurd (cc)

type_has : (t : Stack) (x : Built (Span × Typ) × Stack) (a : Span × Typ) (s : pieces.Stack) → top_type t ≡ Some x → x.0.tree ≡ Some a → HaveTrees x.1 s → HaveTrees t (a_type a.0 a.1 ∷ s)
type_has [] x a s h i j = absurd (cc)
type_has (p ∷ t) x a s h i j = top_has type_in p t x a h i (λ y k l m. (k ∙ ap Some (is_type y a l), equal_have t x.1 s m j))

whole_has : (t : Stack) (x : Built Notation × Stack) (n : Notation) (s : pieces.Stack) → top_whole t ≡ Some x → x.0.tree ≡ Some n → HaveTrees x.1 s → HaveTrees t (whole n ∷ s)
whole_has [] x n s h i j = absurd (cc)
whole_has (p ∷ t) x n s h i j = top_has whole_in p t x n h i (λ y k l m. (k ∙ ap Some (is_whole y n l), equal_have t x.1 s m j))

types_has : (t : Stack) (x : Built (Span × List Typ) × Stack) (a : Span × List Typ) (s : pieces.Stack) → top_types t ≡ Some x → x.0.tree ≡ Some a → HaveTrees x.1 s → HaveTrees t (types a.0 a.1 ∷ s)
types_has [] x a s h i j = absurd (cc)
types_has (p ∷ t) x a s h i j = top_has types_in p t x a h i (λ y k l m. (k ∙ ap Some (is_types y a l), equal_have t x.1 s m j))

elements_has : (t : Stack) (x : Built (Span × List Notation) × Stack) (a : Span × List Notation) (s : pieces.Stack) → top_elements t ≡ Some x → x.0.tree ≡ Some a → HaveTrees x.1 s → HaveTrees t (elements a.0 a.1 ∷ s)
elements_has [] x a s h i j = absurd (cc)
elements_has (p ∷ t) x a s h i j = top_has elements_in p t x a h i (λ y k l m. (k ∙ ap Some (is_elements y a l), equal_have t x.1 s m j))

place_has : (t : Stack) (x : Span × Stack) (s : pieces.Stack) → top_place t ≡ Some x → HaveTrees x.1 s → HaveTrees t (from_place x.0 ∷ s)
place_has [] x s h j = absurd (cc)
place_has (p ∷ t) x s h j = known_has place_in p t x h (λ y k l m. (k ∙ ap Some (is_place y x.0 l), equal_have t x.1 s m j))

-- a part that is read as a notation, and has a tree
read_notation_has : (p : Built NotationPiece) (q : Built Notation) (n : Notation) {Q : Type 0} → as_notation p.tree p.height p.from ≡ Some q → q.tree ≡ Some n
    → ((y : NotationPiece) → p.tree ≡ Some y → reads y ≡ Some n → Q) → Q
read_notation_has p q n {Q} h e k = by p.tree refl h
  where
    by : (o : Option NotationPiece) → p.tree ≡ o → as_notation o p.height p.from ≡ Some q → Q
    by None i h = let is : part p.from None p.height ≡ q = cc in let none : None ≡ Some n = ap (λ r. r.tree) is ∙ e in absurd (cc)
    by (Some (a_type at t)) i h =
        let lifted : Built (Span × Typ) = raised (part p.from (Some (at, t)) p.height) in
        let is : over {A = Span × Typ} (λ x. hole x.0 x.1) lifted ≡ q = cc in
        on_mapped (λ (x : Span × Typ). hole x.0 x.1) lifted.tree n (ap (λ r. r.tree) is ∙ e)
        (λ x l m.
        let same : Some (at, t) ≡ Some x = kept_has (above p.height) (Some (at, t)) x l in
        let known : (at, t) ≡ x = cc in
        k (a_type at t) i (ap Some (ap (λ y. hole y.0 y.1) known ∙ m)))
    by (Some (whole m)) i h =
        let is : part p.from (Some m) p.height ≡ q = cc in
        k (whole m) i (ap (λ r. r.tree) is ∙ e)
    by (Some t) i h = absurd (cc)

on_notation : (t : Stack) (x : Built Notation × Stack) (n : Notation) (s : pieces.Stack) {Q : Type 0} → top_notation t ≡ Some x → x.0.tree ≡ Some n → HaveTrees x.1 s
    → ((y : NotationPiece) → reads y ≡ Some n → HaveTrees t (y ∷ s) → Q) → Q
on_notation [] x n s h i j k = absurd (cc)
on_notation (p ∷ t) x n s h i j k =
    on_mapped (λ q. (q, t)) (as_notation p.tree p.height p.from) x h
    (λ q l m. read_notation_has p q n l (ap (λ z. z.0.tree) m ∙ i) (λ y c d. k y d (c, equal_have t x.1 s (ap (λ z. z.1) m) j)))

-- what is on top is read as a notation
reads_top : (y : NotationPiece) (n : Notation) (s : pieces.Stack) → reads y ≡ Some n → pieces.top_notation (y ∷ s) ≡ Some (n, s)
reads_top (a_type at t) n s h = let is : hole at t ≡ n = cc in ap (λ m. Some (m, s)) is
reads_top (whole m) n s h = let is : m ≡ n = cc in ap (λ m. Some (m, s)) is
reads_top y n s h = absurd (cc)

-- ---- one more part

abbrev ComeOf : Action → Stack → pieces.Stack → Type 0
ComeOf a t u = (s : pieces.Stack) × HaveTrees t s × (pieces.applied a s ≡ Some u)

type_behind_comes : (p q : Built NotationPiece) (c : Span) (ts : List Typ) (r v : Stack) (u : pieces.Stack) → q.tree ≡ Some (types c ts)
    → option_map (λ d. d ∷ r) (option_map (more_types c (part q.from (Some ts) q.height)) (read_tree type_in p.tree p.height p.from)) ≡ Some v
    → HaveTrees v u → ComeOf action.Part (p ∷ q ∷ r) u
type_behind_comes p q c ts r v u e h j =
    on_mapped (λ d. d ∷ r) _ v h (λ d i m.
    on_mapped (more_types c before) (read_tree type_in p.tree p.height p.from) d i (λ w k n.
    same_has f (both before w) r v u (ap (λ x. Some (x ∷ r)) n ∙ ap Some m) j (λ x s l o z.
    let two : (before.tree ≡ Some x.0) × (w.tree ≡ Some x.1) = both_has before.tree w.tree x l in
    read_has type_in p w x.1 k two.1 (λ y g a.
    (a_type x.1.0 x.1.1 ∷ types c x.0 ∷ s, (g ∙ ap Some (is_type y x.1 a), (e ∙ ap (option_map (types c)) two.0, o)), ap Some z)))))
  where
    before : Built (List Typ)
    before = part q.from (Some ts) q.height

    f : List Typ × (Span × Typ) → NotationPiece
    f x = types c (x.0 ++ x.1.1 ∷ [])

-- a part behind elements
reads_part : (y : NotationPiece) (n : Notation) (c : Span) (ns : List Notation) (s : pieces.Stack) → reads y ≡ Some n → pieces.put_part y (elements c ns ∷ s) ≡ pieces.put (elements c (ns ++ n ∷ [])) s
reads_part (a_type at t) n c ns s h = let is : hole at t ≡ n = cc in ap (λ m. Some (elements c (ns ++ m ∷ []) ∷ s)) is
reads_part (whole m) n c ns s h = let is : m ≡ n = cc in ap (λ m. Some (elements c (ns ++ m ∷ []) ∷ s)) is
reads_part y n c ns s h = absurd (cc)

element_behind_comes : (p q : Built NotationPiece) (c : Span) (ns : List Notation) (r v : Stack) (u : pieces.Stack) → q.tree ≡ Some (elements c ns)
    → option_map (λ d. d ∷ r) (option_map (more_elements c (part q.from (Some ns) q.height)) (as_notation p.tree p.height p.from)) ≡ Some v
    → HaveTrees v u → ComeOf action.Part (p ∷ q ∷ r) u
element_behind_comes p q c ns r v u e h j =
    on_mapped (λ d. d ∷ r) _ v h (λ d i m.
    on_mapped (more_elements c before) (as_notation p.tree p.height p.from) d i (λ w k n.
    same_has f (both before w) r v u (ap (λ x. Some (x ∷ r)) n ∙ ap Some m) j (λ x s l o z.
    let two : (before.tree ≡ Some x.0) × (w.tree ≡ Some x.1) = both_has before.tree w.tree x l in
    read_notation_has p w x.1 k two.1 (λ y g a.
    (y ∷ elements c x.0 ∷ s, (g, (e ∙ ap (option_map (elements c)) two.0, o)), reads_part y x.1 c x.0 s a ∙ ap Some z)))))
  where
    before : Built (List Notation)
    before = part q.from (Some ns) q.height

    f : List Notation × Notation → NotationPiece
    f x = elements c (x.0 ++ x.1 ∷ [])

part_comes : (t v : Stack) (u : pieces.Stack) → put_part t ≡ Some v → HaveTrees v u → ComeOf action.Part t u
part_comes [] v u h j = absurd (cc)
part_comes (p ∷ []) v u h j = absurd (cc)
part_comes (p ∷ q ∷ r) v u h j = by q.tree refl h
  where
    by : (o : Option NotationPiece) → q.tree ≡ o → option_map (λ d. d ∷ r) (part_behind o q p) ≡ Some v → ComeOf action.Part (p ∷ q ∷ r) u
    by None e h =
        let is : untold 0 ∷ r ≡ v = cc in
        on_first (untold 0) r u (equal_have (untold 0 ∷ r) v u is j) (λ t s i none o. absurd (cc))
    by (Some (types c ts)) e h = type_behind_comes p q c ts r v u e h j
    by (Some (elements c ns)) e h = element_behind_comes p q c ns r v u e h j
    by (Some t) e h = absurd (cc)

-- ---- actions

pub notation_trees_come : (a : Action) (t v : Stack) → applied a t ≡ Some v → NotationTreesCome a t v
notation_trees_come (action.Operand k x) t v h u j = begun_has _ (operand_piece k x) t v u refl h j
notation_trees_come (action.Here b) t v h u j = begun_has _ (from_place b) t v u refl h j
notation_trees_come (action.Open b) t v h u j = begun_has _ (types b []) t v u refl h j
notation_trees_come (action.Dot x) t v h u j = on_some (top_whole t) v _ h (λ p i h.
    same_has (λ n. whole (atom_on n x)) p.0 p.1 v u h j (λ n s k l o.
    (whole n ∷ s, whole_has t p n s i k l, ap Some o)))
notation_trees_come (action.Mark m) t v h u j = on_some (top_type t) v _ h (λ p i h.
    higher_has (λ x. a_type x.0 (marked x.0 m x.1)) p.0 p.1 v u h j (λ x s k l o.
    (a_type x.0 x.1 ∷ s, type_has t p x s i k l, ap Some o)))
notation_trees_come (action.Prefix m) t v h u j = on_some (top_notation t) v _ h (λ p i h. on_some (top_place p.1) v _ h (λ b n h.
    higher_has (λ r. whole (notation_joined (notation_at b.0 (not_node.Seq [])) m r)) p.0 b.1 v u h j (λ r s k l o.
    on_notation t p r (from_place b.0 ∷ s) i k (place_has p.1 b s n l) (λ y c all.
    (y ∷ from_place b.0 ∷ s, all, ap (option_and_then (λ x. pieces.with_place x.1 (λ at. pieces.put (whole (notation_joined (notation_at at (not_node.Seq [])) m x.0))))) (reads_top y r (from_place b.0 ∷ s) c) ∙ ap Some o)))))
notation_trees_come (action.Enclose d) t v h u j = on_some (top_notation t) v _ h (λ p i h. on_some (top_place p.1) v _ h (λ b n h.
    higher_has (λ r. whole (notation_at b.0 (not_node.Bracket (tick d) r))) p.0 b.1 v u h j (λ r s k l o.
    on_notation t p r (from_place b.0 ∷ s) i k (place_has p.1 b s n l) (λ y c all.
    (y ∷ from_place b.0 ∷ s, all, ap (option_and_then (λ x. pieces.with_place x.1 (λ at. pieces.put (whole (notation_at at (not_node.Bracket (tick d) x.0)))))) (reads_top y r (from_place b.0 ∷ s) c) ∙ ap Some o)))))
notation_trees_come (action.Join m) t v h u j = on_some (top_notation t) v _ h (λ p i h. on_some (top_notation p.1) v _ h (λ q n h.
    higher_has (λ x. whole (notation_joined x.0 m x.1)) (both q.0 p.0) q.1 v u h j (λ x s k l o.
    let two : (q.0.tree ≡ Some x.0) × (p.0.tree ≡ Some x.1) = both_has q.0.tree p.0.tree x k in
    on_notation p.1 q x.0 s n two.0 l (λ left c all.
    on_notation t p x.1 (left ∷ s) i two.1 all (λ right d every. (
      right ∷ left ∷ s,
      every,
      ap (option_and_then (λ w. pieces.with_notation w.1 (λ y. pieces.put (whole (notation_joined y m w.0))))) (reads_top right x.1 (left ∷ s) d)
          ∙ ap (option_and_then (λ w. pieces.put (whole (notation_joined w.0 m x.1)) w.1)) (reads_top left x.0 s c)
          ∙ ap Some o,
    ))))))
notation_trees_come action.First t v h u j = on_some (top_notation t) v _ h (λ p i h.
    same_has (λ n. elements (notation_place n) (n ∷ [])) p.0 p.1 v u h j (λ n s k l o.
    on_notation t p n s i k l (λ y c all.
    (y ∷ s, all, ap (option_and_then (λ x. pieces.put (elements (notation_place x.0) (x.0 ∷ [])) x.1)) (reads_top y n s c) ∙ ap Some o))))
notation_trees_come action.Part t v h u j = part_comes t v u h j
notation_trees_come action.EndParens t v h u j = on_some (top_types t) v _ h (λ p i h.
    same_has (λ x. a_type x.0 (typ_in_parens x.0 x.1)) (enclosed_types p.0) p.1 v u h j (λ x s k l o.
    (types x.0 x.1 ∷ s, types_has t p x s i (either_has (is_one p.0.tree) p.0 x k) l, ap Some o)))
notation_trees_come action.EndSequence t v h u j = on_some (top_elements t) v _ h (λ p i h.
    higher_has (λ x. whole (notation_at x.0 (not_node.Seq x.1))) p.0 p.1 v u h j (λ x s k l o.
    (elements x.0 x.1 ∷ s, elements_has t p x s i k l, ap Some o)))
notation_trees_come a t v h u j = absurd (cc)

-- ---- what is alone

-- the one part on the stack, where it has a tree
pub part_has : (s : Stack) (p : Built NotationPiece) (y : NotationPiece) → p ≡ made_or (the_part s) (untold 0) → p.tree ≡ Some y → HaveTrees s (y ∷ [])
part_has [] p y h e = let none : None ≡ Some y = sym (ap (λ q. q.tree) h) ∙ e in absurd (cc)
part_has (x ∷ []) p y h e = (sym (ap (λ q. q.tree) h) ∙ e, tt)
part_has (x ∷ w ∷ s) p y h e = let none : None ≡ Some y = sym (ap (λ q. q.tree) h) ∙ e in absurd (cc)

-- the type that a part is, where it has a tree
pub typ_has : (s : Stack) (p : Built NotationPiece) (q : Built Typ) (t : Typ) → p ≡ made_or (the_part s) (untold 0) → q ≡ made_or (typ_in p) (untold 0) → q.tree ≡ Some t
    → (y : NotationPiece) × HaveTrees s (y ∷ []) × (pieces.the_typ (y ∷ []) ≡ Some t)
typ_has s p q t f h e = by (read_tree type_in p.tree p.height p.from) refl h
  where
    by : (o : Option (Built (Span × Typ))) → read_tree type_in p.tree p.height p.from ≡ o → q ≡ made_or (option_map (over (λ x. x.1)) o) (untold 0)
        → (y : NotationPiece) × HaveTrees s (y ∷ []) × (pieces.the_typ (y ∷ []) ≡ Some t)
    by None i h = let none : None ≡ Some t = sym (ap (λ r. r.tree) h) ∙ e in absurd (cc)
    by (Some r) i h =
        on_mapped (λ (x : Span × Typ). x.1) r.tree t (sym (ap (λ w. w.tree) h) ∙ e)
        (λ x l m. read_has type_in p r x i l (λ y g a.
        (a_type x.0 x.1, part_has s p (a_type x.0 x.1) f (g ∙ ap Some (is_type y x a)), ap Some m)))

-- the notation that a part is, where it has a tree
pub notation_has : (s : Stack) (p : Built NotationPiece) (q : Built Notation) (n : Notation) → p ≡ made_or (the_part s) (untold 0) → q ≡ made_or (notation_in p) (untold 0) → q.tree ≡ Some n
    → (y : NotationPiece) × HaveTrees s (y ∷ []) × (pieces.the_notation (y ∷ []) ≡ Some n)
notation_has s p q n f h e = by p.tree refl h
  where
    by : (o : Option NotationPiece) → p.tree ≡ o → q ≡ made_or (open_notation o p.height p.from) (untold 0)
        → (y : NotationPiece) × HaveTrees s (y ∷ []) × (pieces.the_notation (y ∷ []) ≡ Some n)
    by (Some (a_type at t)) i h = (a_type at t, part_has s p (a_type at t) f i, sym (ap (λ r. r.tree) h) ∙ e)
    by (Some (whole m)) i h = (whole m, part_has s p (whole m) f i, sym (ap (λ r. r.tree) h) ∙ e)
    by None i h = let none : None ≡ Some n = sym (ap (λ r. r.tree) h) ∙ e in absurd (cc)
    by (Some t) i h = let none : None ≡ Some n = sym (ap (λ r. r.tree) h) ∙ e in absurd (cc)
