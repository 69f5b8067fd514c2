-- How heavy expressions are: an expression is heavier than its operands, and an iteration than its count and its body.
use Rattle.std.proofs.Common.{◌≡◌, ℕ, zero, ◌+◌, ◌<◌, ◌≤◌, suc, max, refl, sym, ◌∙◌, ap, ap₂, List, [], ◌∷◌, ◌++◌, map, length, get_or, arith}
use Rattle.std.proofs.lemmas.List.{map-append}
use Rattle.std.specs.Borrow.{Bor}
use Rattle.st_il.specs.declared.expression.IlExp.{IlExp, out-IlExp, fold_out-IlExp, map-IlExp}
use Rattle.st_il.specs.declared.expression.IlExp.TheOpen.{IlExp-F, Iteration-F, ListItem-F, PathSeg-F}
use Rattle.st_il.specs.declared.expression.Iteration.{Iteration, out-Iteration, fold-Iteration, fold_out-Iteration, map-Iteration}
use Rattle.st_il.specs.declared.expression.ListItem.{ListItem, out-ListItem, fold-ListItem, fold_out-ListItem, map-ListItem}
use Rattle.st_il.specs.declared.expression.PathSeg.{PathSeg, out-PathSeg, fold-PathSeg, fold_out-PathSeg, map-PathSeg}
use Rattle.st_il.specs.Height.{highest}
use Rattle.st_il.specs.Names.{flattened}
use Rattle.st_semantics.specs.Operands.{operands_at, item_at, segment_at, item_exp, segment_exps}
use Rattle.st_semantics.specs.Iterations.{count_of, count_at}
use Rattle.st_semantics.proofs.Names.{map-same}
use Rattle.st_semantics.specs.References.{exps_now}
use Rattle.st_semantics.specs.inner.Weight.{weight, weight_at, count_weight_at, heaviest}

abbrev item_weight : ListItem → ℕ
item_weight = fold-ListItem ℕ ℕ ℕ (List ℕ) weight_at count_weight_at item_at segment_at

abbrev segment_weights : PathSeg → List ℕ
segment_weights = fold-PathSeg ℕ ℕ ℕ (List ℕ) weight_at count_weight_at item_at segment_at

abbrev count_weight : Iteration → ℕ
count_weight = fold-Iteration ℕ ℕ ℕ (List ℕ) weight_at count_weight_at item_at segment_at

-- a level whose parts are replaced by their weights
abbrev weighed : IlExp-F IlExp Iteration ListItem PathSeg → IlExp-F ℕ ℕ ℕ (List ℕ)
weighed y = map-IlExp IlExp Iteration ListItem PathSeg ℕ ℕ ℕ (List ℕ) weight count_weight item_weight segment_weights y

item_weight-exp : (i : ListItem) → item_weight i ≡ weight (item_exp i)
item_weight-exp i = fold_out-ListItem ℕ ℕ ℕ (List ℕ) weight_at count_weight_at item_at segment_at i ∙ at (out-ListItem i)
  where
    at : (y : ListItem-F IlExp Iteration ListItem PathSeg)
        → item_at (map-ListItem IlExp Iteration ListItem PathSeg ℕ ℕ ℕ (List ℕ) weight count_weight item_weight segment_weights y) ≡ weight (item_at y)
    at (ListItem-F.One e) = refl
    at (ListItem-F.All e) = refl

item_weights : (is : List ListItem) → map item_weight is ≡ map weight (map item_exp is)
item_weights [] = refl
item_weights (i ∷ is) = ap₂ (λ a b. a ∷ b) (item_weight-exp i) (item_weights is)

segment_weights-exps : (s : PathSeg) → segment_weights s ≡ map weight (segment_exps s)
segment_weights-exps s = fold_out-PathSeg ℕ ℕ ℕ (List ℕ) weight_at count_weight_at item_at segment_at s ∙ at (out-PathSeg s)
  where
    at : (y : PathSeg-F IlExp Iteration ListItem PathSeg)
        → segment_at (map-PathSeg IlExp Iteration ListItem PathSeg ℕ ℕ ℕ (List ℕ) weight count_weight item_weight segment_weights y) ≡ map weight (segment_at y)
    at (PathSeg-F.Field name) = refl
    at (PathSeg-F.PathSeg::At e) = refl
    at (PathSeg-F.PathSeg::Slice e g) = refl

path_weights : (path : List PathSeg) (last : IlExp)
    → flattened (map (λ ns. ns) (map segment_weights path)) ++ weight last ∷ [] ≡ map weight (flattened (map segment_exps path) ++ last ∷ [])
path_weights path last = ap (λ z. z ++ weight last ∷ []) (at path) ∙ sym (map-append weight (flattened (map segment_exps path)) (last ∷ []))
  where
    at : (path : List PathSeg) → flattened (map (λ ns. ns) (map segment_weights path)) ≡ map weight (flattened (map segment_exps path))
    at [] = refl
    at (s ∷ ss) = ap₂ (λ a b. a ++ b) (segment_weights-exps s) (at ss) ∙ sym (map-append weight (segment_exps s) (flattened (map segment_exps ss)))

weight-level : (e : IlExp) → weight e ≡ weight_at (weighed (out-IlExp e))
weight-level e = fold_out-IlExp ℕ ℕ ℕ (List ℕ) weight_at count_weight_at item_at segment_at e

least_three : (m n : ℕ) → 3 ≤ 3 + max m n
least_three m n = omega arith

same_most : (m n : ℕ) → m ≡ n → m ≤ n
same_most m n e = omega arith

-- what the operands of a level weigh, and 3 more, is what the level weighs at most
operands_weigh : (y : IlExp-F IlExp Iteration ListItem PathSeg) → 3 + heaviest (operands_at item_exp segment_exps y) ≤ weight_at (weighed y)
operands_weigh (IlExp-F.Bool truth) = same_most _ _ refl
operands_weigh (IlExp-F.Number n) = same_most _ _ refl
operands_weigh (IlExp-F.Text text) = same_most _ _ refl
operands_weigh (IlExp-F.Var x) = same_most _ _ refl
operands_weigh (IlExp-F.Not e) = same_most _ _ refl
operands_weigh (IlExp-F.And e g) = same_most _ _ refl
operands_weigh (IlExp-F.Or e g) = same_most _ _ refl
operands_weigh (IlExp-F.Imp e g) = same_most _ _ refl
operands_weigh (IlExp-F.Iff e g) = same_most _ _ refl
operands_weigh (IlExp-F.Neg e) = same_most _ _ refl
operands_weigh (IlExp-F.Add type e g) = same_most _ _ refl
operands_weigh (IlExp-F.Sub type e g) = same_most _ _ refl
operands_weigh (IlExp-F.Mul type e g) = same_most _ _ refl
operands_weigh (IlExp-F.Div type e g) = same_most _ _ refl
operands_weigh (IlExp-F.Rem type e g) = same_most _ _ refl
operands_weigh (IlExp-F.Pow type e g) = same_most _ _ refl
operands_weigh (IlExp-F.Eq e g) = same_most _ _ refl
operands_weigh (IlExp-F.Ne e g) = same_most _ _ refl
operands_weigh (IlExp-F.Lt e g) = same_most _ _ refl
operands_weigh (IlExp-F.Gt e g) = same_most _ _ refl
operands_weigh (IlExp-F.Le e g) = same_most _ _ refl
operands_weigh (IlExp-F.Ge e g) = same_most _ _ refl
operands_weigh (IlExp-F.Member e g) = same_most _ _ refl
operands_weigh (IlExp-F.Case type tag es) = same_most _ _ refl
operands_weigh (IlExp-F.Fields type es) = same_most _ _ refl
operands_weigh (IlExp-F.Dot e name) = same_most _ _ refl
operands_weigh (IlExp-F.Set e path g) = same_most _ _ (ap (λ ns. 3 + highest (weight e ∷ ns)) (sym (path_weights path g)))
operands_weigh (IlExp-F.Extend e path g) = same_most _ _ (ap (λ ns. 3 + highest (weight e ∷ ns)) (sym (path_weights path g)))
operands_weigh (IlExp-F.Tuple es) = same_most _ _ refl
operands_weigh (IlExp-F.List type items) = same_most _ _ (ap (λ ns. 3 + highest ns) (sym (map-same (map item_weight items) ∙ item_weights items)))
operands_weigh (IlExp-F.Cat e g) = same_most _ _ refl
operands_weigh (IlExp-F.Join e g) = same_most _ _ refl
operands_weigh (IlExp-F.Empty type) = same_most _ _ refl
operands_weigh (IlExp-F.Present e) = same_most _ _ refl
operands_weigh (IlExp-F.Absent type) = same_most _ _ refl
operands_weigh (IlExp-F.Len e) = same_most _ _ refl
operands_weigh (IlExp-F.IlExp::At e g) = same_most _ _ refl
operands_weigh (IlExp-F.IlExp::Slice e g h) = same_most _ _ refl
operands_weigh (IlExp-F.Call fun es) = same_most _ _ refl
operands_weigh (IlExp-F.Up type e) = same_most _ _ refl
operands_weigh (IlExp-F.Iter how names body) = least_three (count_weight how) (weight body)

-- an expression is heavier than each of its operands
pub weight-operands : (e : IlExp) → 3 + heaviest (operands_at item_exp segment_exps (out-IlExp e)) ≤ weight e
weight-operands e = let h = operands_weigh (out-IlExp e) in let k = weight-level e in omega (arith, h, k)

count_weight-exps : (how : Iteration) → count_weight how ≡ heaviest (count_of how)
count_weight-exps how = fold_out-Iteration ℕ ℕ ℕ (List ℕ) weight_at count_weight_at item_at segment_at how ∙ at (out-Iteration how)
  where
    at : (y : Iteration-F IlExp Iteration ListItem PathSeg)
        → count_weight_at (map-Iteration IlExp Iteration ListItem PathSeg ℕ ℕ ℕ (List ℕ) weight count_weight item_weight segment_weights y) ≡ highest (map weight (count_at y))
    at Iteration-F.Star = refl
    at Iteration-F.Plus = refl
    at Iteration-F.Quest = refl
    at (Iteration-F.Times e) = refl
    at (Iteration-F.Below index e) = refl

-- an iteration is heavier than its count and its body
pub weight-iteration : (e : IlExp) (how : Iteration) (names : List (List ℕ)) (body : IlExp) → out-IlExp e ≡ IlExp-F.Iter how names body
    → weight e ≡ 3 + max (heaviest (count_of how)) (weight body)
weight-iteration e how names body is =
    weight-level e ∙ (ap (λ y. weight_at (weighed y)) is ∙ ap (λ n. 3 + max n (weight body)) (count_weight-exps how))

-- an element is no heavier than all
pub heaviest-element : (es : List (Bor IlExp)) (i : ℕ) (x : Bor IlExp) → i < length es → x ≡ get_or es i x → weight x.now ≤ heaviest (exps_now es)
heaviest-element [] i x h is = absurd (omega (arith, h))
heaviest-element (e ∷ es) zero x h is = let w : weight x.now ≡ weight e.now = ap (λ (z : Bor IlExp). weight z.now) is in omega (arith, w)
heaviest-element (e ∷ es) (suc i) x h is = let r = heaviest-element es i x (omega (arith, h)) is in omega (arith, r)
