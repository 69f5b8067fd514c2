-- The lines that children refer to.
use Rattle.std.proofs.Common.{◌≡◌, ℕ, zero, suc, ◌+◌, ◌<◌, List, [], ◌∷◌, ◌++◌, length, get_or, take, ◌∙◌, sym, ap, subst, arith}
use Rattle.std.specs.Prelude.{All, flat_map}
use Rattle.std.proofs.lemmas.Grind.{flat_map-append}
use Rattle.std.proofs.lemmas.List.{take_more}
use Rattle.std.proofs.lemmas.List.Elements.{All-append, All-nil, All-take, All-drop}
use Rattle.std.proofs.Math.Seq.{take-append_seam, drop-append_seam}
use Rattle.std.proofs.lemmas.List.Folds.{flat_map-map}
use Rattle.st_deriv.specs.declared.line.Ref.{Ref, map-Ref, fold_out-Ref}
use Rattle.st_deriv.specs.declared.line.Ref.TheVariants as ref
use Rattle.st_semantics.specs.Verdict.{lines_cited_at}
use Rattle.st_verify.specs.SmallVerdict.{child_lines}

pub child_lines-many : (children : List Ref) → child_lines (ref.Many children) ≡ flat_map child_lines children
child_lines-many children =
    fold_out-Ref (List ℕ) lines_cited_at (ref.Many children)
    ∙ ap (λ layer. lines_cited_at (map-Ref Ref (List ℕ) child_lines layer)) (ref.outs-Many children)
    ∙ flat_map-map (λ lines. lines) child_lines children

-- what holds of each element of two lists, one behind the other, holds of those of each list
All-first : {A : Type 0} (P : A → Type 0) (xs ys : List A) → All P (xs ++ ys) → All P xs
All-first P xs ys all = subst (All P) (take-append_seam xs ys) (All-take P (length xs) (xs ++ ys) all)

All-last : {A : Type 0} (P : A → Type 0) (xs ys : List A) → All P (xs ++ ys) → All P ys
All-last P xs ys all = subst (All P) (drop-append_seam xs ys) (All-drop P (length xs) (xs ++ ys) all)

-- what holds of the lines of all children holds of those of each
pub All-child : {X A : Type 0} (P : A → Type 0) (f : X → List A) (xs : List X) (i : ℕ) (x : X) → i < length xs → x ≡ get_or xs i x
    → All P (flat_map f xs) → All P (f x)
All-child P f [] i x at is all = absurd (omega arith)
All-child P f (y ∷ ys) zero x at is all = subst (λ z. All P (f z)) (sym is) (All-first P (f y) (flat_map f ys) all)
All-child P f (y ∷ ys) (suc i) x at is all = All-child P f ys i x (omega arith) is (All-last P (f y) (flat_map f ys) all)

-- one child more
pub All-more_children : {X A : Type 0} (P : A → Type 0) (f : X → List A) (xs : List X) (i : ℕ) (x : X) → i < length xs → x ≡ get_or xs i x
    → All P (flat_map f (take i xs)) → All P (f x) → All P (flat_map f (take (i + 1) xs))
All-more_children P f xs i x at is all here =
    let front : take (i + 1) xs ≡ take i xs ++ x ∷ [] = take_more xs i x at ∙ ap (λ z. take i xs ++ z ∷ []) (sym is) in
    let lines = ap (flat_map f) front ∙ flat_map-append f (take i xs) (x ∷ []) in
    subst (All P) (sym lines) (All-append P (flat_map f (take i xs)) (f x ++ []) all (All-append P (f x) [] here (All-nil P)))
