-- The actions of a tree build its meaning.
use Rattle.std.proofs.Common.{arith, ◌≡◌, ℕ, ◌≤◌, List, [], ◌∷◌, ◌++◌, Option, Some, None, option_and_then, refl, sym, ap, subst, ◌∙◌, append_assoc}
use Rattle.std.proofs.lemmas.List.{append-nil}
use Rattle.st_num.specs.declared.span.Span.{Span}
use Rattle.st_grammar.specs.declared.sort.Style.{Style}
use Rattle.st_grammar.specs.declared.sort.Style.TheVariants.{Lone as lone, Fields as fields, Ends as ends}
use Rattle.st_grammar.specs.declared.sort.Bracket.TheVariants.{Round as round, Square as square, Brace as brace, TickRound as tick_round, TickSquare as tick_square, TickBrace as tick_brace, Dollar as dollar}
use Rattle.st_grammar.specs.declared.sort.Sort.{Sort}
use Rattle.st_grammar.specs.declared.sort.Sort.TheVariants.{Expression as expression, Arithmetic as arithmetic, Notation as notation, Typ as typ, Count as count, Bound as bound}
use Rattle.st_grammar.specs.Terminals.{Terminal, leaf, dot, sign, opening, closing, other}
use Rattle.st_grammar.specs.Trees.{Tree, operand, post, times, bracket, led, left, ahead, items, Trees, none, more, Heading, plain, length, arguments, index, segment, update, below, Path, head, field, part}
use Rattle.st_grammar.specs.Grammar.{index_style, size, IsFilled, SetsOff, Fits, EachFits, PathFits}
use Rattle.st_el.specs.declared.expression.Exp.{Exp}
use Rattle.st_el.specs.declared.expression.Node.TheVariants as node
use Rattle.st_grammar.specs.declared.action.Action.{Action}
use Rattle.st_grammar.specs.declared.action.Action.TheVariants as action
use Rattle.st_parse_builder.specs.declared.piece.Piece.TheVariants.{Done, Parts, Fields, Path as path_piece, Label}
use Rattle.st_parse_builder.specs.Names.{name_of}
use Rattle.st_parse_builder.specs.Meaning.{exp, first_place, posted, count_of, iterated, only, step_at, indexed, label, meaning, meanings, field_meanings, base, steps}
use Rattle.st_grammar.specs.inner.Actions.{post_acts, index_acts, count_act, label_acts, at_act, step_act, acts, path_acts, each_acts, part_acts, field_acts, item_acts}
use Rattle.st_parse_builder.specs.inner.Building.{Stack, put, call_name, called, applied, run}

-- ---- one list of actions behind another

behind : (f g : Stack → Option Stack) (p : Option Stack) (u : Stack) (o : Option Stack) → ((v : Stack) → f v ≡ Some u → g v ≡ o) → option_and_then f p ≡ Some u → option_and_then g p ≡ o
behind f g None u o h e = absurd (cc)
behind f g (Some v) u o h e = h v e

pub chain : (front back : List Action) (s u : Stack) (o : Option Stack) → run front s ≡ Some u → run back u ≡ o → run (front ++ back) s ≡ o
chain [] back s u o e f = let is : s ≡ u = cc in subst (λ v. run back v ≡ o) (sym is) f
chain (a ∷ front) back s u o e f = behind (run front) (run (front ++ back)) (applied a s) u o (λ v h. chain front back v u o h f) e

-- ---- trees whose actions build their meaning

abbrev pub Built : Tree → Type 0
Built t = (s : Stack) → run (acts t) s ≡ Some (Done (meaning t) ∷ s)

abbrev pub AllBuilt : Trees → Type 0
AllBuilt none = Unit {0}
AllBuilt (more ts pre t) = AllBuilt ts × Built t

posts : (l : Terminal) (e : Exp) (s : Stack) → run (post_acts l) (Done e ∷ s) ≡ Some (Done (posted e l) ∷ s)
posts (leaf k x) e s = refl
posts (dot x) e s = refl
posts (sign m x) e s = refl
posts (opening k x) e s = refl
posts (closing c x) e s = refl
posts (other x) e s = refl

counts : (c : Tree) (e : Exp) (s : Stack) → Built c
    → run (index_acts c ++ (acts c ++ count_act c ∷ [])) (Done e ∷ s) ≡ Some (Done (iterated e (count_of c (meaning c))) ∷ s)
counts (operand k x) e s b = refl
counts (post t l) e s b = chain (acts (post t l)) _ _ _ _ (b _) refl
counts (times t m x d) e s b = chain (acts (times t m x d)) _ _ _ _ (b _) refl
counts (led g t) e s b = chain (acts (led g t)) _ _ _ _ (b _) refl
counts (bracket (plain k o) ts c) e s b = chain (acts (bracket (plain k o) ts c)) _ _ _ _ (b _) refl
counts (bracket (length o) ts c) e s b = chain (acts (bracket (length o) ts c)) _ _ _ _ (b _) refl
counts (bracket (arguments f o) ts c) e s b = chain (acts (bracket (arguments f o) ts c)) _ _ _ _ (b _) refl
counts (bracket (index t o) ts c) e s b = chain (acts (bracket (index t o) ts c)) _ _ _ _ (b _) refl
counts (bracket (segment p o) ts c) e s b = chain (acts (bracket (segment p o) ts c)) _ _ _ _ (b _) refl
counts (bracket (update p m x) ts c) e s b = chain (acts (bracket (update p m x) ts c)) _ _ _ _ (b _) refl
counts (bracket (below o i m x) ts c) e s b = chain (acts (bracket (below o i m x) ts c)) _ _ _ _ (b _) refl

-- ---- parts

abbrev pub some_parts : Trees → Type 0
some_parts none = ⊥
some_parts (more ts pre t) = Unit {0}

pub filled : (h : Heading) → (IsFilled h none → ⊥) → (ts : Trees) → IsFilled h ts → some_parts ts
filled h never none f = never f
filled h never (more ts pre t) f = tt

alone : (σ : Sort) (n : ℕ) (ts : Trees) → AllBuilt ts → EachFits σ lone n ts → some_parts ts → (s : Stack)
    → run (each_acts ts) s ≡ Some (Done (only (meanings ts)) ∷ s)
alone σ n none b f p s = absurd p
alone σ n (more none pre t) b f p s = b.1 s
alone σ n (more (more ts q u) pre t) b f p s = absurd f.1

put_parts : (ts : Trees) → AllBuilt ts → (at : Span) (es : List Exp) (s : Stack)
    → run (part_acts ts) (Parts at es ∷ s) ≡ Some (Parts at (es ++ meanings ts) ∷ s)
put_parts none b at es s = ap (λ fs. Some (Parts at fs ∷ s)) (sym (append-nil es))
put_parts (more ts pre t) b at es s =
    chain (part_acts ts) _ _ _ _ (put_parts ts b.0 at es s)
    (chain (acts t) _ _ _ _ (b.1 _) (ap (λ fs. Some (Parts at fs ∷ s)) (append_assoc es (meanings ts) (meaning t ∷ []))))

labels : (ts : Trees) (pre : List Terminal) → SetsOff fields ts pre → (s : Stack) → run (label_acts pre) s ≡ Some (Label (label pre) ∷ s)
labels none pre f s = subst (λ ls. run (label_acts ls) s ≡ Some (Label (label ls) ∷ s)) (sym f.1) refl
labels (more ts q u) pre f s = subst (λ ls. run (label_acts ls) s ≡ Some (Label (label ls) ∷ s)) (sym f.3) refl

put_fields : (σ : Sort) (n : ℕ) (ts : Trees) → AllBuilt ts → EachFits σ fields n ts → (at : Span) (fs : List (List ℕ × Exp)) (s : Stack)
    → run (field_acts ts) (Fields at fs ∷ s) ≡ Some (Fields at (fs ++ field_meanings ts) ∷ s)
put_fields σ n none b f at fs s = ap (λ gs. Some (Fields at gs ∷ s)) (sym (append-nil fs))
put_fields σ n (more ts pre t) b f at fs s =
    chain (field_acts ts) _ _ _ _ (put_fields σ n ts b.0 f.0 at fs s)
    (chain (label_acts pre) _ _ _ _ (labels ts pre f.1 _)
    (chain (acts t) _ _ _ _ (b.1 _) (ap (λ gs. Some (Fields at gs ∷ s)) (append_assoc fs (field_meanings ts) ((label pre, meaning t) ∷ [])))))

-- One part, or two.
abbrev one_or_two : Trees → Type 0
one_or_two none = ⊥
one_or_two (more none pre t) = Unit {0}
one_or_two (more (more none q u) pre t) = Unit {0}
one_or_two (more (more (more ts r v) q u) pre t) = ⊥

few : (σ : Sort) (n : ℕ) (ts : Trees) → EachFits σ ends n ts → some_parts ts → one_or_two ts
few σ n none f p = p
few σ n (more none pre t) f p = tt
few σ n (more (more none q u) pre t) f p = tt
few σ n (more (more (more ts r v) q u) pre t) f p = f.1

fewer : (σ : Sort) (n : ℕ) (ts : Trees) → EachFits σ lone n ts → some_parts ts → one_or_two ts
fewer σ n none f p = p
fewer σ n (more none pre t) f p = tt
fewer σ n (more (more none q u) pre t) f p = tt
fewer σ n (more (more (more ts r v) q u) pre t) f p = f.1

few_in : (σ τ : Sort) (n : ℕ) (ts : Trees) → EachFits τ (index_style σ) n ts → some_parts ts → one_or_two ts
few_in (expression b) τ n ts f p = few τ n ts f p
few_in arithmetic τ n ts f p = fewer τ n ts f p
few_in notation τ n ts f p = few τ n ts f p
few_in typ τ n ts f p = few τ n ts f p
few_in count τ n ts f p = few τ n ts f p
few_in bound τ n ts f p = few τ n ts f p

at_positions : (ts : Trees) → AllBuilt ts → one_or_two ts → (e : Exp) (s : Stack)
    → run (each_acts ts ++ at_act ts ∷ []) (path_piece [] ∷ Done e ∷ s) ≡ Some (Done (indexed e (meanings ts)) ∷ s)
at_positions none b p e s = absurd p
at_positions (more none pre t) b p e s = chain (acts t) _ _ _ _ (b.1 _) refl
at_positions (more (more none q u) pre t) b p e s =
    chain (acts u ++ acts t) _ _ _ _ (chain (acts u) _ _ _ _ (b.0.1 _) (b.1 _)) refl
at_positions (more (more (more ts r v) q u) pre t) b p e s = absurd p

step_positions : (ts : Trees) → AllBuilt ts → one_or_two ts → (ps : _) (s : Stack)
    → run (each_acts ts ++ step_act ts ∷ []) (path_piece ps ∷ s) ≡ Some (path_piece (ps ++ step_at (meanings ts) ∷ []) ∷ s)
step_positions none b p ps s = absurd p
step_positions (more none pre t) b p ps s = chain (acts t) _ _ _ _ (b.1 _) refl
step_positions (more (more none q u) pre t) b p ps s =
    chain (acts u ++ acts t) _ _ _ _ (chain (acts u) _ _ _ _ (b.0.1 _) (b.1 _)) refl
step_positions (more (more (more ts r v) q u) pre t) b p ps s = absurd p

first_stays : (es : List Exp) (e : Exp) (fs : List Exp) → first_place (es ++ e ∷ []) ≡ first_place ((es ++ e ∷ []) ++ fs)
first_stays [] e fs = refl
first_stays (d ∷ es) e fs = refl

-- the elements before the last one
put_items : (ts : Trees) → AllBuilt ts → some_parts ts → (s : Stack)
    → run (item_acts ts) s ≡ Some (Parts (first_place (meanings ts)) (meanings ts) ∷ s)
put_items none b p s = absurd p
put_items (more none pre t) b p s = chain (acts t) _ _ _ _ (b.1 s) refl
put_items (more (more ts q u) pre t) b p s =
    chain (item_acts (more ts q u)) _ _ _ _ (put_items (more ts q u) b.0 tt s)
    (chain (acts t) _ _ _ _ (b.1 _) (ap (λ at. Some (Parts at (meanings (more ts q u) ++ meaning t ∷ []) ∷ s)) (first_stays (meanings ts) (meaning u) (meaning t ∷ []))))

pub some_items : (ts : Trees) → 1 ≤ size ts → some_parts ts
some_items none p = omega arith
some_items (more ts pre t) p = tt

same_first : (ts : Trees) → some_parts ts → (e : Exp) → first_place (meanings ts) ≡ first_place (meanings ts ++ e ∷ [])
same_first none p e = absurd p
same_first (more ts pre t) p e = first_stays (meanings ts) (meaning t) (e ∷ [])

calls : (at : Span) (name : List ℕ) (es : List Exp) (s : Stack) → called (exp at (node.Call name [])) es s ≡ Some (Done (exp at (node.Call name es)) ∷ s)
calls at name es s = ap (λ n. option_and_then (λ given. put (Done (exp at (node.Call given es))) s) (call_name n)) (node.outs-Call name [])

done : (o : Option Stack) → option_and_then (λ x. Some x) o ≡ o
done None = refl
done (Some s) = refl

-- ---- trees

mutual
  pub builds : (σ : Sort) (t : Tree) → Fits σ t → (s : Stack) → run (acts t) s ≡ Some (Done (meaning t) ∷ s)
  builds σ (operand k x) f s = refl
  builds σ (post t l) f s = chain (acts t) _ _ _ _ (builds σ t f.1 s) (posts l (meaning t) s)
  builds σ (times t m x c) f s = chain (acts t) _ _ _ _ (builds σ t f.2 s) (counts c (meaning t) s (builds count c f.4))
  builds σ (bracket (plain round o) ts c) f s = chain (part_acts ts) _ _ _ _ (put_parts ts (each_builds _ _ _ ts f.2) o.at [] s) refl
  builds σ (bracket (plain brace o) ts c) f s = chain (field_acts ts) _ _ _ _ (put_fields _ _ ts (each_builds _ _ _ ts f.2) f.2 o.at [] s) refl
  builds σ (bracket (plain square o) ts c) f s = chain (each_acts ts) _ _ _ _ (alone _ _ ts (each_builds _ _ _ ts f.2) f.2 (filled (plain square o) (λ e. e) ts f.3) _) refl
  builds σ (bracket (plain tick_round o) ts c) f s = chain (each_acts ts) _ _ _ _ (alone _ _ ts (each_builds _ _ _ ts f.2) f.2 (filled (plain tick_round o) (λ e. e) ts f.3) _) refl
  builds σ (bracket (plain tick_square o) ts c) f s = chain (each_acts ts) _ _ _ _ (alone _ _ ts (each_builds _ _ _ ts f.2) f.2 (filled (plain tick_square o) (λ e. e) ts f.3) _) refl
  builds σ (bracket (plain tick_brace o) ts c) f s = chain (each_acts ts) _ _ _ _ (alone _ _ ts (each_builds _ _ _ ts f.2) f.2 (filled (plain tick_brace o) (λ e. e) ts f.3) _) refl
  builds σ (bracket (plain dollar o) ts c) f s = chain (each_acts ts) _ _ _ _ (alone _ _ ts (each_builds _ _ _ ts f.2) f.2 (filled (plain dollar o) (λ e. e) ts f.3) _) refl
  builds σ (bracket (length o) ts c) f s = chain (each_acts ts) _ _ _ _ (alone _ _ ts (each_builds _ _ _ ts f.2) f.2 (filled (length o) (λ e. e) ts f.3) _) refl
  builds σ (bracket (arguments g o) ts c) f s = chain (part_acts ts) _ _ _ _ (put_parts ts (each_builds _ _ _ ts f.2) o.at [] _) (done (called _ (meanings ts) s) ∙ calls g.at (name_of g.kind) (meanings ts) s)
  builds σ (bracket (index t o) ts c) f s =
      chain (acts t ++ action.OpenPath ∷ []) _ _ _ _ (chain (acts t) _ _ _ _ (builds σ t f.1.1 s) refl)
      (at_positions ts (each_builds _ _ _ ts f.2) (few_in σ _ _ ts f.2 (filled (index t o) (λ e. e) ts f.3)) (meaning t) s)
  builds σ (bracket (segment p o) ts c) f s = absurd (cc)
  builds σ (bracket (update p m x) ts c) f s =
      chain (path_acts p) _ _ _ _ (path_builds σ p f.1.0 s)
      (chain (each_acts ts) _ _ _ _ (alone _ _ ts (each_builds _ _ _ ts f.2) f.2 (filled (update p m x) (λ e. e) ts f.3) _) refl)
  builds σ (bracket (below o i m x) ts c) f s = chain (each_acts ts) _ _ _ _ (alone _ _ ts (each_builds _ _ _ ts f.2) f.2 (filled (below o i m x) (λ e. e) ts f.3) _) refl
  builds σ (led (left l m x) t) f s = chain (acts l) _ _ _ _ (builds σ l f.0.1 s) (chain (acts t) _ _ _ _ (builds σ t f.1 _) refl)
  builds σ (led (ahead m x) t) f s = chain (acts t) _ _ _ _ (builds σ t f.1 _) refl
  builds σ (led (items ts) t) f s =
      chain (item_acts ts) _ _ _ _ (put_items ts (each_builds _ _ _ ts f.0.1) (some_items ts f.0.2) s)
      (chain (acts t) _ _ _ _ (builds σ t f.1 _) (ap (λ at. Some (Done (exp at (node.Seq (meanings ts ++ meaning t ∷ []))) ∷ s)) (same_first ts (some_items ts f.0.2) (meaning t))))

  each_builds : (σ : Sort) (y : Style) (n : ℕ) (ts : Trees) → EachFits σ y n ts → AllBuilt ts
  each_builds σ y n none f = tt
  each_builds σ y n (more ts pre t) f = (each_builds σ y n ts f.0, λ s. builds σ t f.2 s)

  path_builds : (σ : Sort) (p : Path) → PathFits σ p → (s : Stack) → run (path_acts p) s ≡ Some (path_piece (steps p) ∷ Done (base p) ∷ s)
  path_builds σ (head t o) f s = chain (acts t) _ _ _ _ (builds σ t f.1 s) refl
  path_builds σ (field p x) f s = chain (path_acts p) _ _ _ _ (path_builds σ p f s) refl
  path_builds σ (part p o ts c) f s =
      chain (path_acts p) _ _ _ _ (path_builds σ p f.0 s)
      (step_positions ts (each_builds _ _ _ ts f.1) (few _ _ ts f.1 (some_items ts f.2)) (steps p) _)
