-- What a search answers, said of what is derivable.
use Rattle.std.proofs.Common.{◌≡◌, refl, sym, ◌∙◌, ap, subst, ℕ, zero, suc, true, false, List, [], ◌∷◌, arith}
use Rattle.std.specs.Prelude.{AllPairs, Contains, Some, None, slice_get}
use Rattle.std.specs.Ordering.{is_gt, is_lt}
use Rattle.std.specs.declared.cmp.Ordering.{Ordering}
use Rattle.std.specs.declared.cmp.Ordering.TheVariants.{Less, Equal, Greater}
use Rattle.std.proofs.lemmas.List.Elements.{All-head, All-map, All-weaker}
use Rattle.st_il.specs.declared.definition.Il.{Il}
use Rattle.st_il.specs.Order.{values_cmp}
use Rattle.st_il.proofs.OrderLaws.{values_cmp_order}
use Rattle.st_search.specs.declared.answer.Output.{Output}
use Rattle.st_search.specs.Answers.{goal_of, IsOutput, AreOutputs, values_in}
use Rattle.st_il.specs.Names.{Name}
use Rattle.st_semantics.specs.Derivation.{Derivable}
use Rattle.st_semantics.specs.Laws.{LawOfDepthOfTrees}
use Rattle.st_semantics.specs.Transcript.{Term, IsNext, GoesOn}
use Rattle.st_runs.specs.Runs.{AreAllNext}

lesser_is_not_greater : (o : Ordering) → is_lt o ≡ true → is_gt o ≡ false
lesser_is_not_greater Less e = refl
lesser_is_not_greater Equal e = refl
lesser_is_not_greater Greater e = cc

-- the first of terms that rise is at most each of them
first_is_least : (first : Term) (rest : List Term) (other : Term) → AllPairs (λ (a b : Term). is_lt (values_cmp a b) ≡ true) (first ∷ rest) → Contains (first ∷ rest) other
    → is_gt (values_cmp first other) ≡ false
first_is_least first rest other sorted (zero, within, is) = ap is_gt ((values_cmp_order.equal first other).1 is)
first_is_least first rest other sorted (suc k, within, is) =
    let rises = sorted 0 (suc k) other (omega arith) within in
    lesser_is_not_greater (values_cmp first other) (ap (λ z. is_lt (values_cmp first z)) (sym is) ∙ rises)

module _ (law : LawOfDepthOfTrees) (il : Il) (relation : Name) (depth : ℕ) (term : Term) where
  is_derivable : (o : Output) → IsOutput il depth (goal_of relation term) o → Derivable il relation term o.values
  is_derivable o is = record {
    values = o.tree.values;
    is_derived = record { tree = o.tree; valid = law il depth o.tree is.valid; relation_is = is.relation_is; values_are = refl };
    inputs_are = is.inputs_are;
    outputs_are = is.outputs_are;
  }

  pub are_all_next : (found : List Output) → AreOutputs il depth (goal_of relation term) found → AreAllNext il relation term (values_in found)
  are_all_next found are = record {
    sound = All-map (Derivable il relation term) (λ (o : Output). o.values) found
        (All-weaker (IsOutput il depth (goal_of relation term)) (λ (o : Output). Derivable il relation term o.values) is_derivable found are.sound);
    complete = are.complete;
    sorted = are.sorted;
  }

  first_is_next : (o : Output) (rest : List Output) → AreOutputs il depth (goal_of relation term) (o ∷ rest) → IsNext il relation term o.values
  first_is_next o rest are = record {
    derivable = is_derivable o (All-head (IsOutput il depth (goal_of relation term)) o rest are.sound);
    least = λ other derivable. first_is_least o.values (values_in rest) other are.sorted (are.complete other derivable);
  }

  -- a run goes to the first output
  pub next_is : (found : List Output) (o : Output) (next : Term) → Some o ≡ slice_get found 0 → next ≡ o.values → AreOutputs il depth (goal_of relation term) found → IsNext il relation term next
  next_is [] o next is same are = absurd (cc)
  next_is (first ∷ rest) o next is same are =
      let here : first ≡ o = cc in
      subst (IsNext il relation term) (ap (λ (z : Output). z.values) here ∙ sym same) (first_is_next first rest are)

  -- without outputs it is stuck
  pub nothing_follows : (found : List Output) → None ≡ slice_get found 0 → AreOutputs il depth (goal_of relation term) found → GoesOn il relation term → ⊥
  nothing_follows [] is are (next, derivable) =
      let (k, within, there) = are.complete next derivable in
      omega arith
  nothing_follows (first ∷ rest) is are goes = absurd (cc)
