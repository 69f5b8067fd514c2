-- What is collected from an expression is what is collected from its parts.
use Rattle.std.proofs.Common.{◌≡◌, refl, sym, ap, ap₂, ◌∙◌, List, [], ◌∷◌, ◌++◌, map}
use Rattle.std.proofs.lemmas.List.{map-append}
use Rattle.st_il.specs.declared.expression.IlExp.{IlExp, out-IlExp, fold-IlExp, fold_out-IlExp, map-IlExp}
use Rattle.st_il.specs.declared.expression.IlExp.TheOpen.{IlExp-F, Iteration-F, ListItem-F, PathSeg-F}
use Rattle.st_il.specs.declared.expression.Iteration.{Iteration, out-Iteration, fold-Iteration, fold_out-Iteration, map-Iteration}
use Rattle.st_il.specs.declared.expression.ListItem.{ListItem, out-ListItem, fold-ListItem, fold_out-ListItem, map-ListItem}
use Rattle.st_il.specs.declared.expression.PathSeg.{PathSeg, out-PathSeg, fold-PathSeg, fold_out-PathSeg, map-PathSeg}
use Rattle.st_il.specs.Names.{flattened}
use Rattle.st_semantics.specs.Iterations.{count_at, index_at, kind_at}
use Rattle.st_semantics.specs.Operands.{operands_at, item_at, segment_at, item_exp, segment_exps}
use Rattle.st_elab_typed.proofs.ExpInduction.{Level}

module _ {X K : Type 0} (at : IlExp-F (List X) K (List X) (List (List X)) → List X) (count : Iteration-F (List X) K (List X) (List (List X)) → K) where
  abbrev all_in : IlExp → List X
  all_in = fold-IlExp (List X) K (List X) (List (List X)) at count item_at segment_at

  abbrev of_item : ListItem → List X
  of_item = fold-ListItem (List X) K (List X) (List (List X)) at count item_at segment_at

  abbrev of_segment : PathSeg → List (List X)
  of_segment = fold-PathSeg (List X) K (List X) (List (List X)) at count item_at segment_at

  abbrev pub of_count : Iteration → K
  of_count = fold-Iteration (List X) K (List X) (List (List X)) at count item_at segment_at

  abbrev pub mapped : Level → IlExp-F (List X) K (List X) (List (List X))
  mapped y = map-IlExp IlExp Iteration ListItem PathSeg (List X) K (List X) (List (List X)) all_in of_count of_item of_segment y

  abbrev pub mapped_count : Iteration-F IlExp Iteration ListItem PathSeg → Iteration-F (List X) K (List X) (List (List X))
  mapped_count y = map-Iteration IlExp Iteration ListItem PathSeg (List X) K (List X) (List (List X)) all_in of_count of_item of_segment y

  item-is : (i : ListItem) → of_item i ≡ all_in (item_exp i)
  item-is i = fold_out-ListItem (List X) K (List X) (List (List X)) at count item_at segment_at i ∙ by (out-ListItem i)
    where
      by : (y : ListItem-F IlExp Iteration ListItem PathSeg)
          → item_at (map-ListItem IlExp Iteration ListItem PathSeg (List X) K (List X) (List (List X)) all_in of_count of_item of_segment y) ≡ all_in (item_at y)
      by (ListItem-F.One e) = refl
      by (ListItem-F.All e) = refl

  pub items-are : (is : List ListItem) → map of_item is ≡ map all_in (map item_exp is)
  items-are [] = refl
  items-are (i ∷ is) = ap₂ (λ a b. a ∷ b) (item-is i) (items-are is)

  same-map : {A : Type 0} (xs : List A) → map (λ (x : A). x) xs ≡ xs
  same-map [] = refl
  same-map (x ∷ xs) = ap (λ z. x ∷ z) (same-map xs)

  segment-is : (s : PathSeg) → of_segment s ≡ map all_in (segment_exps s)
  segment-is s = fold_out-PathSeg (List X) K (List X) (List (List X)) at count item_at segment_at s ∙ by (out-PathSeg s)
    where
      by : (y : PathSeg-F IlExp Iteration ListItem PathSeg)
          → segment_at (map-PathSeg IlExp Iteration ListItem PathSeg (List X) K (List X) (List (List X)) all_in of_count of_item of_segment y) ≡ map all_in (segment_at y)
      by (PathSeg-F.Field name) = refl
      by (PathSeg-F.PathSeg::At e) = refl
      by (PathSeg-F.PathSeg::Slice e g) = refl

  path-is : (path : List PathSeg) (last : IlExp) → flattened (map (λ (s : List (List X)). s) (map of_segment path)) ++ all_in last ∷ [] ≡ map all_in (flattened (map segment_exps path) ++ last ∷ [])
  path-is path last = ap (λ z. z ++ all_in last ∷ []) (by path) ∙ sym (map-append all_in (flattened (map segment_exps path)) (last ∷ []))
    where
      by : (path : List PathSeg) → flattened (map (λ (s : List (List X)). s) (map of_segment path)) ≡ map all_in (flattened (map segment_exps path))
      by [] = refl
      by (s ∷ ss) = ap₂ (λ a b. a ++ b) (segment-is s) (by ss) ∙ sym (map-append all_in (segment_exps s) (flattened (map segment_exps ss)))

  -- what is collected from the operands of a level
  pub operands-are : (y : Level) → operands_at (λ (z : List X). z) (λ (z : List (List X)). z) (mapped y) ≡ map all_in (operands_at item_exp segment_exps y)
  operands-are (IlExp-F.Set e path g) = ap (λ z. all_in e ∷ z) (path-is path g)
  operands-are (IlExp-F.Extend e path g) = ap (λ z. all_in e ∷ z) (path-is path g)
  operands-are (IlExp-F.List t items) = same-map (map of_item items) ∙ items-are items
  operands-are _ = refl

  pub opened : (e : IlExp) → all_in e ≡ at (mapped (out-IlExp e))
  opened e = fold_out-IlExp (List X) K (List X) (List (List X)) at count item_at segment_at e

  pub opened-count : (how : Iteration) → of_count how ≡ count (mapped_count (out-Iteration how))
  opened-count how = fold_out-Iteration (List X) K (List X) (List (List X)) at count item_at segment_at how

  pub counted-are : (y : Iteration-F IlExp Iteration ListItem PathSeg) → flattened (count_at (mapped_count y)) ≡ flattened (map all_in (count_at y))
  counted-are Iteration-F.Star = refl
  counted-are Iteration-F.Plus = refl
  counted-are Iteration-F.Quest = refl
  counted-are (Iteration-F.Times e) = refl
  counted-are (Iteration-F.Below index e) = refl

  pub index-is : (y : Iteration-F IlExp Iteration ListItem PathSeg) → index_at (mapped_count y) ≡ index_at y
  index-is Iteration-F.Star = refl
  index-is Iteration-F.Plus = refl
  index-is Iteration-F.Quest = refl
  index-is (Iteration-F.Times e) = refl
  index-is (Iteration-F.Below index e) = refl

  pub kind-is : (y : Iteration-F IlExp Iteration ListItem PathSeg) → kind_at (mapped_count y) ≡ kind_at y
  kind-is Iteration-F.Star = refl
  kind-is Iteration-F.Plus = refl
  kind-is Iteration-F.Quest = refl
  kind-is (Iteration-F.Times e) = refl
  kind-is (Iteration-F.Below index e) = refl
