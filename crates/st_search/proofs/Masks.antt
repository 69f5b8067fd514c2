-- Values that stand at inputs and at outputs, and how many values a judgement has.
use Rattle.std.proofs.Common.{arith, ◌≡◌, refl, sym, ◌∙◌, ap, subst, ℕ, zero, suc, Bool, true, false, List, [], ◌∷◌, length, if◌then◌else◌, Some, slice_get, bytes_eq, All}
use Rattle.std.proofs.lemmas.List.Elements.{All-head, All-tail}
use Rattle.st_il.specs.declared.definition.Il.{Il}
use Rattle.st_il.specs.declared.definition.RuleDef.{RuleDef}
use Rattle.st_il.specs.declared.expression.IlExp.{IlExp}
use Rattle.st_il.specs.declared.tree.Tree.{Tree}
use Rattle.st_il.specs.declared.value.Env.{Env}
use Rattle.st_il.specs.declared.value.Value.{Value}
use Rattle.st_il.specs.Names.{Name}
use Rattle.st_il.specs.Definitions.{IsRelation, rules_in, rules_from, rules_of}
use Rattle.st_semantics.specs.Directions.{mask, inputs_by, outputs_by}
use Rattle.st_semantics.specs.Evaluation.{tasks}
use Rattle.st_semantics.specs.Holding.{Meaning, HaveValues}
use Rattle.st_semantics.specs.Derivation.{Exclusion, Valid, node}
use Rattle.st_semantics.proofs.Nodes.{rule_of, relation_single}
use Rattle.st_search.specs.Searchable.{CanBeRun}
use Rattle.st_search.specs.inner.Trees.{merged}

module _ (V : Meaning) (env : Env) where
  -- as many values as expressions
  pub have_long : (es : List IlExp) (vs : List Value) → HaveValues V (tasks env es) vs → length vs ≡ length es
  have_long [] [] have = refl
  have_long [] (v ∷ vs) have = absurd have
  have_long (e ∷ es) [] have = absurd have
  have_long (e ∷ es) (v ∷ vs) have = ap suc (have_long es vs have.1)

  -- the values of those at inputs
  pub values_at_inputs : (m : List Bool) (es : List IlExp) (vs : List Value) → HaveValues V (tasks env es) vs → HaveValues V (tasks env (inputs_by m es)) (inputs_by m vs)
  values_at_inputs [] es vs have = tt
  values_at_inputs (b ∷ m) [] [] have = tt
  values_at_inputs (b ∷ m) [] (v ∷ vs) have = absurd have
  values_at_inputs (b ∷ m) (e ∷ es) [] have = absurd have
  values_at_inputs (true ∷ m) (e ∷ es) (v ∷ vs) have = (have.0, values_at_inputs m es vs have.1)
  values_at_inputs (false ∷ m) (e ∷ es) (v ∷ vs) have = values_at_inputs m es vs have.1

  -- the values of all, by those at inputs and at outputs
  pub values_of_both : (m : List Bool) (es : List IlExp) (vs : List Value) → length es ≡ length m → length vs ≡ length m
      → HaveValues V (tasks env (inputs_by m es)) (inputs_by m vs) → HaveValues V (tasks env (outputs_by m es)) (outputs_by m vs) → HaveValues V (tasks env es) vs
  values_of_both [] [] [] n k ins outs = tt
  values_of_both [] [] (v ∷ vs) n k ins outs = absurd (omega (arith, k))
  values_of_both [] (e ∷ es) vs n k ins outs = absurd (omega (arith, n))
  values_of_both (b ∷ m) [] vs n k ins outs = absurd (omega (arith, n))
  values_of_both (b ∷ m) (e ∷ es) [] n k ins outs = absurd (omega (arith, k))
  values_of_both (true ∷ m) (e ∷ es) (v ∷ vs) n k ins outs = (ins.0, values_of_both m es vs (omega (arith, n)) (omega (arith, k)) ins.1 outs)
  values_of_both (false ∷ m) (e ∷ es) (v ∷ vs) n k ins outs = (outs.0, values_of_both m es vs (omega (arith, n)) (omega (arith, k)) ins outs.1)

  -- values that are put together from those of inputs and of outputs
  pub values_merged : (m : List Bool) (es : List IlExp) (ins outs : List Value) → length es ≡ length m → HaveValues V (tasks env (inputs_by m es)) ins → HaveValues V (tasks env (outputs_by m es)) outs
      → HaveValues V (tasks env es) (merged m ins outs) × (inputs_by m (merged m ins outs) ≡ ins) × (outputs_by m (merged m ins outs) ≡ outs)
  values_merged [] [] [] [] n h k = (tt, refl, refl)
  values_merged [] [] [] (o ∷ outs) n h k = absurd k
  values_merged [] [] (i ∷ ins) outs n h k = absurd h
  values_merged [] (e ∷ es) ins outs n h k = absurd (omega (arith, n))
  values_merged (b ∷ m) [] ins outs n h k = absurd (omega (arith, n))
  values_merged (true ∷ m) (e ∷ es) [] outs n h k = absurd h
  values_merged (true ∷ m) (e ∷ es) (i ∷ ins) outs n h k =
      let rest = values_merged m es ins outs (omega (arith, n)) h.1 k in
      ((h.0, rest.0), ap (λ z. i ∷ z) rest.1, rest.2)
  values_merged (false ∷ m) (e ∷ es) ins [] n h k = absurd k
  values_merged (false ∷ m) (e ∷ es) ins (o ∷ outs) n h k =
      let rest = values_merged m es ins outs (omega (arith, n)) h k.1 in
      ((k.0, rest.0), rest.1, ap (λ z. o ∷ z) rest.2)

-- ---- rules

-- what holds of all rules holds of the rule of a number
pub rule_with : (P : RuleDef → Type 0) (name : Name) (rs : List RuleDef) (k : ℕ) (r : RuleDef) → All P rs → slice_get (rules_from name rs) k ≡ Some r → P r
rule_with P name [] k r all e = cc
rule_with P name (x ∷ xs) k r all e = at (bytes_eq name x.relation) k e (λ j. rule_with P name xs j r (All-tail P x xs all))
  where
    at : (b : Bool) (k : ℕ) → slice_get (if b then x ∷ rules_from name xs else rules_from name xs) k ≡ Some r → ((j : ℕ) → slice_get (rules_from name xs) j ≡ Some r → P r) → P r
    at true zero e later = let same : x ≡ r = cc in subst P same (All-head P x xs all)
    at true (suc k) e later = later k e
    at false k e later = later k e

module _ (il : Il) (rules : All (CanBeRun il) (rules_in il.defs)) where
  pub rule_can : (name : Name) (k : ℕ) (r : RuleDef) → slice_get (rules_of il name) k ≡ Some r → CanBeRun il r
  rule_can name k r e = rule_with (CanBeRun il) name (rules_in il.defs) k r rules e

  -- a rule of a relation has an expression for each of its holes
  pub conclusion_long : (name : Name) (k : ℕ) (r : RuleDef) → slice_get (rules_of il name) k ≡ Some r → (name ≡ r.relation) × (length r.conclusion ≡ length (mask il name))
  conclusion_long name k r e =
      let name_is : name ≡ r.relation = (rule_of name (rules_in il.defs) k r e).0 in
      (name_is, (rule_can name k r e).long ∙ ap (λ z. length (mask il z)) (sym name_is))

  -- a valid tree has a value for each hole of its relation
  pub values_long : (V : Meaning) (O : Exclusion) (tree : Tree) (relation : Name) → Valid il V O tree → IsRelation il tree.relation relation → length tree.values ≡ length (mask il relation)
  values_long V O tree relation (node name rule is at ok gives proved) found =
      let same : name ≡ relation = relation_single il tree.relation name relation is found in
      have_long V tree.env rule.conclusion tree.values gives ∙ ((conclusion_long name tree.rule rule at).1 ∙ ap (λ z. length (mask il z)) same)
