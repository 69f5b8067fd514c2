-- What the rule of a number finds: in its order, or nothing where it has none; and relations and rules by their numbers.
use Rattle.std.proofs.Common.{arith, ◌≡◌, refl, sym, ◌∙◌, ap, subst, ℕ, ◌<◌, ◌≤◌, ◌^◌, Bool, true, false, if◌then◌else◌, List, [], ◌∷◌, length, Some, None, Ok, slice_get, bytes_eq, All, inl}
use Rattle.std.proofs.lemmas.Option.{slice_get_within}
use Rattle.st_il.specs.declared.definition.Il.{Il}
use Rattle.st_il.specs.declared.definition.IlDef.{IlDef}
use Rattle.st_il.specs.declared.definition.IlDef.TheVariants.{Syntax, Var, Relation, Rule, Fun, Clause}
use Rattle.st_il.specs.declared.definition.RelationDef.{RelationDef}
use Rattle.st_il.specs.declared.definition.RuleDef.{RuleDef}
use Rattle.st_il.specs.declared.definition.SyntaxDef.{SyntaxDef}
use Rattle.st_il.specs.declared.value.Value.{Value}
use Rattle.st_il.specs.Names.{Name}
use Rattle.st_il.specs.Definitions.{IsRelation, relations, relations_in, relation_named, rules_in, rules_from, rules_of}
use Rattle.st_semantics.specs.Derivation.{Derivable}
use Rattle.st_semantics.specs.Directions.{direction}
use Rattle.st_semantics.specs.OrderOf.{order_of}
use Rattle.st_semantics.specs.Goals.{Goal}
use Rattle.st_index.specs.Numbers.{IsFirstRelation}
use Rattle.st_order.specs.Modes.{HasFew}
use Rattle.st_algo.specs.declared.algorithm.Algorithm.{Algorithm}
use Rattle.st_algo.specs.declared.algorithm.Algos.{Algos}
use Rattle.st_search.specs.declared.answer.Output.{Output}
use Rattle.st_search.specs.Searchable.{CanBeRun, IsSearchable}
use Rattle.st_search.specs.inner.Rules.{CanBeSearched, IsRuledBy, algorithm_at, rule_seeks, numbered_seeks}
use Rattle.st_search.specs.inner.Running.{IsRuleOf}
use Rattle.st_search.specs.inner.Sought.{Finds}
use Rattle.st_search.proofs.Derived.{derives_all}
use Rattle.st_search.proofs.Ruled.{ruled_by, none_ordered}
use Rattle.st_search.proofs.RunRules.{relation_same}

-- ---- numbers

relations_few : (ds : List IlDef) → length (relations_in ds) ≤ length ds
relations_few [] = omega arith
relations_few (Syntax s ∷ ds) = let h = relations_few ds in omega (arith, h)
relations_few (Var x t ∷ ds) = let h = relations_few ds in omega (arith, h)
relations_few (Relation r ∷ ds) = let h = relations_few ds in omega (arith, h)
relations_few (Rule r ∷ ds) = let h = relations_few ds in omega (arith, h)
relations_few (Fun f ∷ ds) = let h = relations_few ds in omega (arith, h)
relations_few (Clause c ∷ ds) = let h = relations_few ds in omega (arith, h)

rules_few : (ds : List IlDef) → length (rules_in ds) ≤ length ds
rules_few [] = omega arith
rules_few (Syntax s ∷ ds) = let h = rules_few ds in omega (arith, h)
rules_few (Var x t ∷ ds) = let h = rules_few ds in omega (arith, h)
rules_few (Relation r ∷ ds) = let h = rules_few ds in omega (arith, h)
rules_few (Rule r ∷ ds) = let h = rules_few ds in omega (arith, h)
rules_few (Fun f ∷ ds) = let h = rules_few ds in omega (arith, h)
rules_few (Clause c ∷ ds) = let h = rules_few ds in omega (arith, h)

from_few : (name : Name) (rs : List RuleDef) → length (rules_from name rs) ≤ length rs
from_few name [] = omega arith
from_few name (r ∷ rs) = by (bytes_eq name r.relation) (from_few name rs)
  where
    by : (b : Bool) → length (rules_from name rs) ≤ length rs → length (if b then r ∷ rules_from name rs else rules_from name rs) ≤ length (r ∷ rs)
    by true h = omega (arith, h)
    by false h = omega (arith, h)

-- the number of a relation is small
pub relation_small : (il : Il) (k : ℕ) (r : RelationDef) → HasFew il → slice_get (relations il) k ≡ Some r → k < 2 ^ 32
relation_small il k r few is =
    let within = slice_get_within (relations il) k r is in
    let all = relations_few il.defs in
    let small = few.0 in
    omega (arith, within, all, small)

-- so is that of a rule
pub rule_small : (il : Il) (name : Name) (k : ℕ) (r : RuleDef) → HasFew il → slice_get (rules_of il name) k ≡ Some r → k < 2 ^ 32
rule_small il name k r few is =
    let within = slice_get_within (rules_of il name) k r is in
    let some = from_few name (rules_in il.defs) in
    let all = rules_few il.defs in
    let small = few.0 in
    omega (arith, within, some, all, small)

-- ---- the first relation of a name

pub first_is : (il : Il) (k : ℕ) (name : Name) → IsFirstRelation il k name → IsRelation il k name
first_is il k name f = (f.declared, f.is, f.named)

-- a relation that is not declared cannot be searched
pub undeclared : (il : Il) (name : Name) → relation_named il name ≡ None → CanBeSearched il name → ⊥
undeclared il name missing can =
    let ready = can name (inl refl) in
    let bad : None ≡ Some ready.declared = sym missing ∙ ready.found in cc

-- ---- a rule in its order

module _ (il : Il) (n : ℕ) (g : Goal) (number : ℕ) (rule : RuleDef) where
  pub numbered_finds : (order : List ℕ) → order_of il rule ≡ Ok order → (longest : ℕ) (found : List Output) → Finds il n longest (rule_seeks il n g number rule order) found → Finds il n longest (numbered_seeks il n g number rule) found
  numbered_finds order is longest found f = record {
    sound = f.sound;
    complete = λ vs (other, k, derives). f.complete vs (let same : other ≡ order = cc in subst (λ z. (rule_seeks il n g number rule z).Wanted vs) same derives);
    calm = λ next (other, k, asks). f.calm next (let same : other ≡ order = cc in subst (λ z. (rule_seeks il n g number rule z).Asked next) same asks);
    shallow = λ (other, premise, k, meets). f.shallow (let same : other ≡ order = cc in subst (λ z. (rule_seeks il n g number rule z).Deep) same (premise, meets));
  }

  pub unordered_finds : ((order : List ℕ) → order_of il rule ≡ Ok order → ⊥) → (longest : ℕ) (found : List Output) → found ≡ [] → Finds il n longest (numbered_seeks il n g number rule) found
  unordered_finds none longest found are = subst (Finds il n longest (numbered_seeks il n g number rule)) (sym are) (record {
    sound = tt;
    complete = λ vs (order, k, derives). absurd (none order k);
    calm = λ next (order, k, asks). absurd (none order k);
    shallow = λ (order, premise, k, meets). none order k;
  })

-- ---- a rule of a relation, by their numbers

module _ (il : Il) (types : List SyntaxDef) (algos : Algos) (s : IsSearchable il types algos) (relation number : ℕ) (rule : RuleDef) (name : Name) (first : IsFirstRelation il relation name) (at : slice_get (rules_of il name) number ≡ Some rule) where
  at_declared : slice_get (rules_of il first.declared.name) number ≡ Some rule
  at_declared = subst (λ z. slice_get (rules_of il z) number ≡ Some rule) (sym first.named) at

  pub numbered_ruled : (a : Algorithm) → algorithm_at algos relation number ≡ Some a → (name : Name) × IsRuledBy il name number rule a
  numbered_ruled a e = (first.declared.name, ruled_by il s.modes algos s.are_modes s.are_algorithms relation first.declared first.is number rule at_declared a e)

  pub numbered_of : (g : Goal) → IsRelation il relation g.relation → (order : List ℕ) → order_of il rule ≡ Ok order → IsRuleOf il g.relation number rule order
  numbered_of g is order e = record { is_rule = subst (λ z. slice_get (rules_of il z) number ≡ Some rule) (relation_same il relation name g.relation (first_is il relation name first) is) at; is_order = e }

  pub numbered_none : algorithm_at algos relation number ≡ None → (g : Goal) → CanBeSearched il g.relation → IsRelation il relation g.relation → (order : List ℕ) → order_of il rule ≡ Ok order → ⊥
  numbered_none e g can is order ordered =
      let same : g.relation ≡ name = sym (relation_same il relation name g.relation (first_is il relation name first) is) in
      let ready = can g.relation (inl refl) in
      let both : Some ready.declared ≡ Some first.declared = sym ready.found ∙ (ap (relation_named il) same ∙ first.found) in
      let one : ready.declared ≡ first.declared = cc in
      none_ordered il s.modes algos s.are_modes s.are_algorithms relation first.declared first.is number rule at_declared e ready.inputs (ap direction (sym one) ∙ ready.directed) order ordered

-- what is derivable is wanted of a rule
pub derived_numbered : (il : Il) (n : ℕ) → All (CanBeRun il) (rules_in il.defs) → (g : Goal) → CanBeSearched il g.relation → (outputs : List Value) → Derivable il g.relation g.inputs outputs
    → (number : ℕ) × (rule : RuleDef) × (slice_get (rules_of il g.relation) number ≡ Some rule) × (numbered_seeks il n g number rule).Wanted outputs
derived_numbered il n all_can g can outputs d = let w = derives_all il all_can g can outputs d in (w.0, w.1, w.3.is_rule, (w.2, w.3.is_order, w.4))
