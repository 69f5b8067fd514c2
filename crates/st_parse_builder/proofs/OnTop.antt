-- What is on top of the parts that stand for pieces.
use Rattle.std.proofs.Common.{arith, ◌≡◌, ℕ, ◌+◌, List, [], ◌∷◌, length, max, Some, None, option_and_then, refl, sym, ap, ◌∙◌, if◌then◌else◌}
use Rattle.std.specs.Option.{option_map}
use Rattle.st_num.specs.declared.span.Span.{Span}
use Rattle.st_el.specs.declared.expression.Exp.{Exp}
use Rattle.st_el.specs.declared.expression.Seg.{Seg}
use Rattle.st_parse_builder.specs.declared.piece.Piece.{Piece}
use Rattle.st_parse_builder.specs.declared.piece.Piece.TheVariants.{Done, Parts, Fields, Path, Label, Here}
use Rattle.st_parse_builder.specs.Heights.{height}
use Rattle.st_parse_builder.specs.inner.Building as pieces
use Rattle.st_parse_builder.specs.inner.PieceHeights.{piece_height}
use Rattle.st_parse_builder.specs.inner.PieceVariables.{stack_variables}
use Rattle.st_parse_builder.specs.inner.Parts.{built, over, raised, both}
use Rattle.st_parse_builder.specs.inner.Entries.{entries, done_in, parts_in, fields_in, path_in, label_in, place_in, top_done, top_parts, top_fields, top_path, top_label, top_place, top_pair, top_whole, starts, put}
use Rattle.st_parse_builder.proofs.PartLemmas.{over_built, raised_built, both_built, read_built, known_built, tree_built}

-- how many variables are seen before a piece on these
abbrev pub at : ℕ → pieces.Stack → ℕ
at before s = before + length (stack_variables s)

-- ---- one part

pub done_on : (before : ℕ) (e : Exp) (s : pieces.Stack) → top_done (entries before (Done e ∷ s)) ≡ Some (built (at before s) (height e) e, entries before s)
done_on before e s = ap (option_map (λ q. (q, entries before s))) (read_built done_in (at before s) (height e) (Done e) e refl)

pub parts_on : (before : ℕ) (b : Span) (es : List Exp) (s : pieces.Stack) → top_parts (entries before (Parts b es ∷ s)) ≡ Some (built (at before s) (piece_height (Parts b es)) (b, es), entries before s)
parts_on before b es s = ap (option_map (λ q. (q, entries before s))) (read_built parts_in (at before s) (piece_height (Parts b es)) (Parts b es) (b, es) refl)

pub fields_on : (before : ℕ) (b : Span) (fs : List (List ℕ × Exp)) (s : pieces.Stack) → top_fields (entries before (Fields b fs ∷ s)) ≡ Some (built (at before s) (piece_height (Fields b fs)) (b, fs), entries before s)
fields_on before b fs s = ap (option_map (λ q. (q, entries before s))) (read_built fields_in (at before s) (piece_height (Fields b fs)) (Fields b fs) (b, fs) refl)

pub path_on : (before : ℕ) (ps : List Seg) (s : pieces.Stack) → top_path (entries before (Path ps ∷ s)) ≡ Some (built (at before s) (piece_height (Path ps)) ps, entries before s)
path_on before ps s = ap (option_map (λ q. (q, entries before s))) (read_built path_in (at before s) (piece_height (Path ps)) (Path ps) ps refl)

pub label_on : (before : ℕ) (name : List ℕ) (s : pieces.Stack) → top_label (entries before (Label name ∷ s)) ≡ Some (name, entries before s)
label_on before name s = ap (option_map (λ q. (q, entries before s))) (known_built label_in (at before s) 0 (Label name) (omega arith))

pub place_on : (before : ℕ) (b : Span) (s : pieces.Stack) → top_place (entries before (Here b ∷ s)) ≡ Some (b, entries before s)
place_on before b s = ap (option_map (λ q. (q, entries before s))) (known_built place_in (at before s) 0 (Here b) (omega arith))

-- ---- several parts

pub pair_on : (before : ℕ) (l r : Exp) (s : pieces.Stack) → top_pair (entries before (Done r ∷ Done l ∷ s)) ≡ Some (built (at before s) (max (height l) (height r)) (l, r), entries before s)
pair_on before l r s =
    ap (option_and_then (λ t. option_and_then (λ u. Some (both u.0 t.0, u.1)) (top_done t.1))) (done_on before r (Done l ∷ s))
    ∙ ap (option_and_then (λ u. Some (both u.0 (built (at before (Done l ∷ s)) (height r) r), u.1))) (done_on before l s)
    ∙ ap (λ p. Some (p, entries before s)) (both_built (at before s) (at before (Done l ∷ s)) (height l) (height r) l r)

-- a piece without variables stands between
pub bare : (before : ℕ) (p : Piece) (s : pieces.Stack) → stack_variables (p ∷ s) ≡ stack_variables s → at before (p ∷ s) ≡ at before s
bare before p s e = ap (λ os. before + length os) e

pub whole_on : (before : ℕ) (e : Exp) (s : pieces.Stack) → top_whole (entries before (Path [] ∷ Done e ∷ s)) ≡ Some (built (at before s) (height e) e, entries before s)
whole_on before e s =
    ap (option_and_then (λ p. if starts p.0.tree then top_done p.1 else None)) (path_on before [] (Done e ∷ s))
    ∙ ap (λ t. if starts t then top_done (entries before (Done e ∷ s)) else None) (tree_built (at before (Done e ∷ s)) 0 [] (omega arith))
    ∙ done_on before e s

-- ---- what is made

-- what is as high as its parts
pub same : {A : Type 0} (before : ℕ) (s u : pieces.Stack) (f : A → Piece) (a : A) (n : ℕ) → piece_height (f a) ≡ n → pieces.put (f a) s ≡ Some u
    → put (over f (built (at before s) n a)) (entries before s) ≡ Some (entries before u)
same before s u f a n tall h =
    let is : f a ∷ s ≡ u = cc in
    ap (λ p. put p (entries before s)) (over_built f (at before s) n a ∙ ap (λ m. built (at before s) m (f a)) (sym tall))
    ∙ ap (λ v. Some (entries before v)) is

-- what is one higher
pub higher : {A : Type 0} (before : ℕ) (s u : pieces.Stack) (f : A → Piece) (a : A) (n : ℕ) → piece_height (f a) ≡ n + 1 → pieces.put (f a) s ≡ Some u
    → put (over f (raised (built (at before s) n a))) (entries before s) ≡ Some (entries before u)
higher before s u f a n tall h =
    ap (λ p. put (over f p) (entries before s)) (raised_built (at before s) n a)
    ∙ same before s u f a (n + 1) tall h
