-- The actions of a type or a notation build its meaning.
use Rattle.std.proofs.Common.{◌≡◌, ℕ, List, [], ◌∷◌, ◌++◌, Bool, true, false, ◌&&◌, Option, Some, None, option_and_then, refl, sym, ap, subst, ◌∙◌, append_assoc, append-nil, if◌then◌else◌}
use Rattle.st_num.specs.declared.span.Span.{Span}
use Rattle.st_grammar.specs.declared.sort.Style.{Style}
use Rattle.st_grammar.specs.declared.sort.Style.TheVariants.{Lone as lone, Parts as parts}
use Rattle.st_grammar.specs.declared.sort.Leaf.TheVariants.{Low as low, Basic as basic, Variable as variable, Atom as atom, Number as number, Literal as literal, Function as function}
use Rattle.st_grammar.specs.declared.sort.Bracket.TheVariants.{Round as round, Square as square, Brace as brace, TickRound as tick_round, TickSquare as tick_square, TickBrace as tick_brace, Dollar as dollar}
use Rattle.st_grammar.specs.declared.sort.Sort.{Sort}
use Rattle.st_grammar.specs.declared.sort.Sort.TheVariants.{Notation as notation, Typ as typ}
use Rattle.st_grammar.specs.Terminals.{leaf, dot, sign, opening, closing, other}
use Rattle.st_grammar.specs.Levels.{is_expression, is_type_iteration_sign}
use Rattle.st_grammar.specs.Trees.{Tree, operand, post, times, bracket, led, left, ahead, items, Trees, none, more, plain, length, arguments, index, segment, update, below, Path, head, field, part}
use Rattle.st_grammar.specs.Grammar.{is_type, is_atom, Fits, EachFits, PathFits}
use Rattle.st_el.specs.declared.ty.Typ.{Typ}
use Rattle.st_el.specs.declared.notation.Notation.{Notation}
use Rattle.st_grammar.specs.declared.action.Action.{Action}
use Rattle.st_grammar.specs.declared.action.Action.TheVariants as action
use Rattle.st_el.specs.declared.notation.NotNode.TheVariants as not_node
use Rattle.st_parse_builder.specs.declared.notation_piece.NotationPiece.TheVariants.{Hole as a_type, Whole as whole, Types as types, Elements as elements, From as from_place}
use Rattle.st_parse_builder.specs.Notations.{hole, tick, notation_at, notation_joined, marked, notation_place, notation_first, typ_start, typ_meaning, typ_meanings, notation_meaning, notation_meanings, only_notation}
use Rattle.st_grammar.specs.inner.Actions.{acts, each_acts, part_acts, item_acts}
use Rattle.st_parse_builder.specs.inner.NotationBuilding.{Stack, put, with_place, with_notation, with_type, put_part, the_notation, applied, run, piece_of}
use Rattle.st_parse_builder.proofs.Builds.{some_parts, filled, some_items}

no : {P : Type 0} → false ≡ true → P
no h = absurd (cc)

behind : (f g : Stack → Option Stack) (p : Option Stack) (u : Stack) (o : Option Stack) → ((v : Stack) → f v ≡ Some u → g v ≡ o) → option_and_then f p ≡ Some u → option_and_then g p ≡ o
behind f g None u o h e = absurd (cc)
behind f g (Some v) u o h e = h v e

pub chain : (front back : List Action) (s u : Stack) (o : Option Stack) → run front s ≡ Some u → run back u ≡ o → run (front ++ back) s ≡ o
chain [] back s u o e f = let is : s ≡ u = cc in subst (λ v. run back v ≡ o) (sym is) f
chain (a ∷ front) back s u o e f = behind (run front) (run (front ++ back)) (applied a s) u o (λ v h. chain front back v u o h f) e

no_path : (σ : Sort) (p : Path) → PathFits σ p → is_expression σ ≡ true
no_path σ (head t o) f = f.0
no_path σ (field p x) f = no_path σ p f
no_path σ (part p o ts c) f = no_path σ p f.0

-- ---- types

mutual
  pub typ_builds : (t : Tree) → Fits typ t → (s : Stack) → run (acts t) s ≡ Some (a_type (typ_start t) (typ_meaning t) ∷ s)
  typ_builds (operand low x) f s = refl
  typ_builds (operand basic x) f s = refl
  typ_builds (operand variable x) f s = no f
  typ_builds (operand atom x) f s = no f
  typ_builds (operand number x) f s = no f
  typ_builds (operand literal x) f s = no f
  typ_builds (operand function x) f s = no f
  typ_builds (post t (sign m x)) f s = chain (acts t) _ _ _ _ (typ_builds t f.1 s) refl
  typ_builds (post t (leaf k x)) f s = no f.0
  typ_builds (post t (dot x)) f s = no f.0
  typ_builds (post t (opening k x)) f s = no f.0
  typ_builds (post t (closing c x)) f s = no f.0
  typ_builds (post t (other x)) f s = no f.0
  typ_builds (times t m x c) f s = no f.1
  typ_builds (bracket (plain round o) ts c) f s = chain (part_acts ts) _ _ _ _ (types_build ts f.2 o.at [] s) refl
  typ_builds (bracket (plain square o) ts c) f s = no f.1
  typ_builds (bracket (plain brace o) ts c) f s = no f.1
  typ_builds (bracket (plain tick_round o) ts c) f s = no f.1
  typ_builds (bracket (plain tick_square o) ts c) f s = no f.1
  typ_builds (bracket (plain tick_brace o) ts c) f s = no f.1
  typ_builds (bracket (plain dollar o) ts c) f s = no f.1
  typ_builds (bracket (length o) ts c) f s = no f.1
  typ_builds (bracket (arguments g o) ts c) f s = no f.1.0
  typ_builds (bracket (index t o) ts c) f s = no f.1.0
  typ_builds (bracket (segment p o) ts c) f s = no f.0
  typ_builds (bracket (update p m x) ts c) f s = no (no_path typ p f.1.0)
  typ_builds (bracket (below o i m x) ts c) f s = no f.1.0
  typ_builds (led (left l m x) t) f s = no f.0.0
  typ_builds (led (ahead m x) t) f s = no f.0
  typ_builds (led (items ts) t) f s = no f.0.0

  types_build : (ts : Trees) → EachFits typ parts 1 ts → (at : Span) (us : List Typ) (s : Stack)
      → run (part_acts ts) (types at us ∷ s) ≡ Some (types at (us ++ typ_meanings ts) ∷ s)
  types_build none f at us s = ap (λ vs. Some (types at vs ∷ s)) (sym (append-nil us))
  types_build (more ts pre t) f at us s =
      chain (part_acts ts) _ _ _ _ (types_build ts f.0 at us s)
      (chain (acts t) _ _ _ _ (typ_builds t f.2 _) (ap (λ vs. Some (types at vs ∷ s)) (append_assoc us (typ_meanings ts) (typ_meaning t ∷ []))))

-- ---- what a notation is built as

-- a type is a hole of that type
pub type_hole : (t : Tree) → is_type t ≡ true → hole (typ_start t) (typ_meaning t) ≡ notation_meaning t
type_hole (operand low x) h = refl
type_hole (operand basic x) h = refl
type_hole (operand variable x) h = no h
type_hole (operand atom x) h = no h
type_hole (operand number x) h = no h
type_hole (operand literal x) h = no h
type_hole (operand function x) h = no h
type_hole (post t (sign m x)) h = refl
type_hole (post t (leaf k x)) h = no h
type_hole (post t (dot x)) h = no h
type_hole (post t (opening k x)) h = no h
type_hole (post t (closing c x)) h = no h
type_hole (post t (other x)) h = no h
type_hole (times t m x c) h = no h
type_hole (bracket (plain round o) ts c) h = refl
type_hole (bracket (plain square o) ts c) h = no h
type_hole (bracket (plain brace o) ts c) h = no h
type_hole (bracket (plain tick_round o) ts c) h = no h
type_hole (bracket (plain tick_square o) ts c) h = no h
type_hole (bracket (plain tick_brace o) ts c) h = no h
type_hole (bracket (plain dollar o) ts c) h = no h
type_hole (bracket (length o) ts c) h = no h
type_hole (bracket (arguments g o) ts c) h = no h
type_hole (bracket (index t o) ts c) h = no h
type_hole (bracket (segment p o) ts c) h = no h
type_hole (bracket (update p m x) ts c) h = no h
type_hole (bracket (below o i m x) ts c) h = no h
type_hole (led g t) h = no h

shows : (b : Bool) (t : Tree) (s : Stack) (f : Notation → Stack → Option Stack) → (b ≡ true → hole (typ_start t) (typ_meaning t) ≡ notation_meaning t)
    → with_notation ((if b then a_type (typ_start t) (typ_meaning t) else whole (notation_meaning t)) ∷ s) f ≡ f (notation_meaning t) s
shows true t s f k = ap (λ n. f n s) (k refl)
shows false t s f k = refl

as_notation : (t : Tree) (s : Stack) (f : Notation → Stack → Option Stack) → with_notation (piece_of t ∷ s) f ≡ f (notation_meaning t) s
as_notation t s f = shows (is_type t) t s f (type_hole t)

one_of : (b : Bool) (t : Tree) → (b ≡ true → hole (typ_start t) (typ_meaning t) ≡ notation_meaning t)
    → the_notation ((if b then a_type (typ_start t) (typ_meaning t) else whole (notation_meaning t)) ∷ []) ≡ Some (notation_meaning t)
one_of true t k = ap (λ n. Some n) (k refl)
one_of false t k = refl

pub one_notation : (t : Tree) → the_notation (piece_of t ∷ []) ≡ Some (notation_meaning t)
one_notation t = one_of (is_type t) t (type_hole t)

puts : (b : Bool) (t : Tree) (at : Span) (ns : List Notation) (s : Stack) → (b ≡ true → hole (typ_start t) (typ_meaning t) ≡ notation_meaning t)
    → put_part (if b then a_type (typ_start t) (typ_meaning t) else whole (notation_meaning t)) (elements at ns ∷ s) ≡ Some (elements at (ns ++ notation_meaning t ∷ []) ∷ s)
puts true t at ns s k = ap (λ n. Some (elements at (ns ++ n ∷ []) ∷ s)) (k refl)
puts false t at ns s k = refl

put_element : (t : Tree) (at : Span) (ns : List Notation) (s : Stack) → put_part (piece_of t) (elements at ns ∷ s) ≡ Some (elements at (ns ++ notation_meaning t ∷ []) ∷ s)
put_element t at ns s = puts (is_type t) t at ns s (type_hole t)

-- an atom is no type
atom_whole : (t : Tree) → is_atom t ≡ true → piece_of t ≡ whole (notation_meaning t)
atom_whole (operand low x) h = no h
atom_whole (operand basic x) h = no h
atom_whole (operand variable x) h = refl
atom_whole (operand atom x) h = refl
atom_whole (operand number x) h = no h
atom_whole (operand literal x) h = no h
atom_whole (operand function x) h = no h
atom_whole (post t (sign m x)) h = no h
atom_whole (post t (leaf k x)) h = no h
atom_whole (post t (dot x)) h = refl
atom_whole (post t (opening k x)) h = no h
atom_whole (post t (closing c x)) h = no h
atom_whole (post t (other x)) h = no h
atom_whole (times t m x c) h = no h
atom_whole (bracket g ts c) h = no h
atom_whole (led g t) h = no h

first_of : (a b : Bool) → (a && b) ≡ true → a ≡ true
first_of true b h = refl
first_of false b h = no h

second_of : (a b : Bool) → (a && b) ≡ true → b ≡ true
second_of true b h = h
second_of false b h = no h

marks : (b : Bool) (t : Tree) (m : _) (n : Notation) (s : Stack) → b ≡ true
    → with_type ((if b then a_type (typ_start t) (typ_meaning t) else whole (notation_meaning t)) ∷ s) (λ at u. put (a_type at (marked at m u))) ≡ Some ((if b then a_type (typ_start t) (marked (typ_start t) m (typ_meaning t)) else whole n) ∷ s)
marks true t m n s h = refl
marks false t m n s h = no h

-- ---- notations

-- trees whose actions build their meaning
abbrev pub Built : Tree → Type 0
Built t = (s : Stack) → run (acts t) s ≡ Some (piece_of t ∷ s)

abbrev pub AllBuilt : Trees → Type 0
AllBuilt none = Unit {0}
AllBuilt (more ts pre t) = AllBuilt ts × Built t

done : (o : Option Stack) → option_and_then (λ x. Some x) o ≡ o
done None = refl
done (Some s) = refl

-- one part in a bracket
alone : (n : ℕ) (ts : Trees) → AllBuilt ts → EachFits notation lone n ts → some_parts ts → (s : Stack) (f : Notation → Stack → Option Stack) (a : Action)
    → ((t : Tree) → applied a (piece_of t ∷ s) ≡ with_notation (piece_of t ∷ s) f)
    → run (each_acts ts ++ a ∷ []) s ≡ f (only_notation (notation_meanings ts)) s
alone n none b f p s g a k = absurd p
alone n (more none pre t) b f p s g a k = chain (acts t) (a ∷ []) s _ _ (b.1 s) (done (applied a (piece_of t ∷ s)) ∙ k t ∙ as_notation t s g)
alone n (more (more ts q u) pre t) b f p s g a k = absurd f.1

first_stays : (ns : List Notation) (n : Notation) (ms : List Notation) → notation_first (ns ++ n ∷ []) ≡ notation_first ((ns ++ n ∷ []) ++ ms)
first_stays [] n ms = refl
first_stays (m ∷ ns) n ms = refl

same_first : (ts : Trees) → some_parts ts → (n : Notation) → notation_first (notation_meanings ts) ≡ notation_first (notation_meanings ts ++ n ∷ [])
same_first none p n = absurd p
same_first (more ts pre t) p n = first_stays (notation_meanings ts) (notation_meaning t) (n ∷ [])

-- the elements before the last one
put_items : (ts : Trees) → AllBuilt ts → some_parts ts → (s : Stack)
    → run (item_acts ts) s ≡ Some (elements (notation_first (notation_meanings ts)) (notation_meanings ts) ∷ s)
put_items none b p s = absurd p
put_items (more none pre t) b p s =
    chain (acts t) _ _ _ _ (b.1 s) (done (applied action.First (piece_of t ∷ s)) ∙ as_notation t s (λ n. put (elements (notation_place n) (n ∷ []))))
put_items (more (more ts q u) pre t) b p s =
    chain (item_acts (more ts q u)) _ _ _ _ (put_items (more ts q u) b.0 tt s)
    (chain (acts t) _ _ _ _ (b.1 _)
    (done (applied action.Part (piece_of t ∷ elements (notation_first (notation_meanings (more ts q u))) (notation_meanings (more ts q u)) ∷ s))
    ∙ put_element t (notation_first (notation_meanings (more ts q u))) (notation_meanings (more ts q u)) s
    ∙ ap (λ at. Some (elements at (notation_meanings (more ts q u) ++ notation_meaning t ∷ []) ∷ s)) (first_stays (notation_meanings ts) (notation_meaning u) (notation_meaning t ∷ []))))

mutual
  pub notation_builds : (t : Tree) → Fits notation t → (s : Stack) → run (acts t) s ≡ Some (piece_of t ∷ s)
  notation_builds (operand low x) f s = refl
  notation_builds (operand basic x) f s = refl
  notation_builds (operand variable x) f s = refl
  notation_builds (operand atom x) f s = refl
  notation_builds (operand number x) f s = no f
  notation_builds (operand literal x) f s = no f
  notation_builds (operand function x) f s = no f
  notation_builds (post t (sign m x)) f s =
      chain (acts t) _ _ _ _ (notation_builds t f.1 s) (done (applied (action.Mark m) (piece_of t ∷ s)) ∙ marks (is_type t) t m (hole (typ_start t) (marked (typ_start t) m (typ_meaning t))) s (second_of (is_type_iteration_sign m) (is_type t) f.0))
  notation_builds (post t (dot x)) f s =
      chain (acts t) _ _ _ _ (notation_builds t f.1 s) (ap (λ p. run (action.Dot x ∷ []) (p ∷ s)) (atom_whole t (first_of (is_atom t) x.touching f.0)))
  notation_builds (post t (leaf k x)) f s = no f.0
  notation_builds (post t (opening k x)) f s = no f.0
  notation_builds (post t (closing c x)) f s = no f.0
  notation_builds (post t (other x)) f s = no f.0
  notation_builds (times t m x c) f s = no f.1
  notation_builds (bracket (plain round o) ts c) f s = chain (part_acts ts) _ _ _ _ (types_build ts f.2 o.at [] s) refl
  notation_builds (bracket (plain square o) ts c) f s = no f.1
  notation_builds (bracket (plain brace o) ts c) f s = no f.1
  notation_builds (bracket (plain dollar o) ts c) f s = no f.1
  notation_builds (bracket (plain tick_round o) ts c) f s =
      alone _ ts (each_builds _ _ ts f.2) f.2 (filled (plain tick_round o) (λ e. e) ts f.3) (from_place o.at ∷ s) (λ n r. with_place r (λ at. put (whole (notation_at at (not_node.Bracket (tick tick_round) n))))) (action.Enclose tick_round) (λ t. refl)
  notation_builds (bracket (plain tick_square o) ts c) f s =
      alone _ ts (each_builds _ _ ts f.2) f.2 (filled (plain tick_square o) (λ e. e) ts f.3) (from_place o.at ∷ s) (λ n r. with_place r (λ at. put (whole (notation_at at (not_node.Bracket (tick tick_square) n))))) (action.Enclose tick_square) (λ t. refl)
  notation_builds (bracket (plain tick_brace o) ts c) f s =
      alone _ ts (each_builds _ _ ts f.2) f.2 (filled (plain tick_brace o) (λ e. e) ts f.3) (from_place o.at ∷ s) (λ n r. with_place r (λ at. put (whole (notation_at at (not_node.Bracket (tick tick_brace) n))))) (action.Enclose tick_brace) (λ t. refl)
  notation_builds (bracket (length o) ts c) f s = no f.1
  notation_builds (bracket (arguments g o) ts c) f s = no f.1.0
  notation_builds (bracket (index t o) ts c) f s = no f.1.0
  notation_builds (bracket (segment p o) ts c) f s = no f.0
  notation_builds (bracket (update p m x) ts c) f s = no (no_path notation p f.1.0)
  notation_builds (bracket (below o i m x) ts c) f s = no f.1.0
  notation_builds (led (left l m x) t) f s =
      chain (acts l) _ _ _ _ (notation_builds l f.0.1 s)
      (chain (acts t) _ _ _ _ (notation_builds t f.1 _)
      (done (applied (action.Join m) (piece_of t ∷ piece_of l ∷ s))
      ∙ as_notation t (piece_of l ∷ s) (λ r u. with_notation u (λ n. put (whole (notation_joined n m r))))
      ∙ as_notation l s (λ n. put (whole (notation_joined n m (notation_meaning t))))))
  notation_builds (led (ahead m x) t) f s =
      chain (acts t) _ _ _ _ (notation_builds t f.1 _)
      (done (applied (action.Prefix m) (piece_of t ∷ from_place x.at ∷ s))
      ∙ as_notation t (from_place x.at ∷ s) (λ n r. with_place r (λ at. put (whole (notation_joined (notation_at at (not_node.Seq [])) m n)))))
  notation_builds (led (items ts) t) f s =
      chain (item_acts ts) _ _ _ _ (put_items ts (each_builds _ _ ts f.0.1) (some_items ts f.0.2) s)
      (chain (acts t) _ _ _ _ (notation_builds t f.1 _)
      (ap (option_and_then (run (action.EndSequence ∷ []))) (put_element t (notation_first (notation_meanings ts)) (notation_meanings ts) s)
      ∙ ap (λ at. Some (whole (notation_at at (not_node.Seq (notation_meanings ts ++ notation_meaning t ∷ []))) ∷ s)) (same_first ts (some_items ts f.0.2) (notation_meaning t))))

  each_builds : (y : Style) (n : ℕ) (ts : Trees) → EachFits notation y n ts → AllBuilt ts
  each_builds y n none f = tt
  each_builds y n (more ts pre t) f = (each_builds y n ts f.0, λ s. notation_builds t f.2 s)
