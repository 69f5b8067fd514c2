-- The parts of a list make its elements one after another.
use Rattle.std.proofs.Common.{◌≡◌, ℕ, suc, ◌+◌, ◌<◌, refl, sym, ◌∙◌, ap, List, [], ◌∷◌, ◌++◌, drop, length, get_or, Option, Some, None, option_map, append_assoc, append-nil, add-one, drop-cons}
use Rattle.std.specs.Prelude.{option_and_then}
use Rattle.st_il.specs.declared.expression.IlExp.{IlExp}
use Rattle.st_il.specs.declared.expression.IlExp.TheOpen.{ListItem-F}
use Rattle.st_il.specs.declared.expression.Iteration.{Iteration}
use Rattle.st_il.specs.declared.expression.ListItem.{ListItem, out-ListItem}
use Rattle.st_il.specs.declared.expression.PathSeg.{PathSeg}
use Rattle.st_il.specs.declared.value.Value.{Value}
use Rattle.st_semantics.specs.Parts.{elements}
use Rattle.st_semantics.specs.Forms.{spliced_at, spliced}
use Rattle.st_match.specs.inner.Joined.{list_of}

all_parts : (xs ys r : List Value) (o : Option (List Value)) → Some ys ≡ list_of xs (option_map (λ (us : List Value). us ++ []) o)
    → list_of xs (option_map (λ (us : List Value). us ++ r) o) ≡ Some (ys ++ r)
all_parts xs ys r None k = cc
all_parts xs ys r (Some us) k =
    let same : ys ≡ xs ++ (us ++ []) = cc in
    ap Some (sym (append_assoc xs us r) ∙ (ap (λ z. (xs ++ z) ++ r) (sym (append-nil us)) ∙ ap (λ z. z ++ r) (sym same)))

one_part : (y : ListItem-F IlExp Iteration ListItem PathSeg) (xs ys : List Value) (v : Value) (s : Option (List Value)) → Some ys ≡ list_of xs (option_and_then (spliced_at y v) (Some []))
    → list_of xs (option_and_then (spliced_at y v) s) ≡ list_of ys s
one_part (ListItem-F.One e) xs ys v None k = refl
one_part (ListItem-F.One e) xs ys v (Some r) k = let same : ys ≡ xs ++ v ∷ [] = cc in ap Some (sym (append_assoc xs (v ∷ []) r) ∙ ap (λ z. z ++ r) (sym same))
one_part (ListItem-F.All e) xs ys v None k = refl
one_part (ListItem-F.All e) xs ys v (Some r) k = all_parts xs ys r (elements v) k

left : (items : List ListItem) (i : ℕ) (item : ListItem) → i < length items → item ≡ get_or items i item → drop i items ≡ item ∷ drop (i + 1) items
left items i item h is = drop-cons items i item h ∙ (ap (λ z. z ∷ drop (suc i) items) (sym is) ∙ ap (λ n. item ∷ drop n items) (sym (add-one i)))

pub spliced-next : (items : List ListItem) (i : ℕ) (item : ListItem) (xs ys : List Value) (v : Value) (vs ws : List Value) → i < length items → item ≡ get_or items i item → vs ≡ v ∷ ws
    → Some ys ≡ list_of xs (spliced (item ∷ []) (v ∷ [])) → list_of xs (spliced (drop i items) vs) ≡ list_of ys (spliced (drop (i + 1) items) ws)
spliced-next items i item xs ys v vs ws h is taken k =
    ap (λ z. list_of xs (spliced z vs)) (left items i item h is)
    ∙ (ap (λ z. list_of xs (spliced (item ∷ drop (i + 1) items) z)) taken ∙ one_part (out-ListItem item) xs ys v (spliced (drop (i + 1) items) ws) k)
