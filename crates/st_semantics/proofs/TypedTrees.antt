-- The values of a valid tree have the types of its relation.
use Rattle.std.proofs.Common.{◌≡◌, ℕ, zero, suc, refl, sym, ◌∙◌, ap, subst, List, [], ◌∷◌, Bool, true, false, if◌then◌else◌, Some, slice_get, bytes_eq, All}
use Rattle.std.proofs.lemmas.List.Elements.{All-nil, All-cons, All-head, All-tail}
use Rattle.st_il.specs.declared.definition.Il.{Il}
use Rattle.st_il.specs.declared.definition.Listed.{Listed}
use Rattle.st_il.specs.declared.definition.RelationDef.{RelationDef}
use Rattle.st_il.specs.declared.definition.RuleDef.{RuleDef}
use Rattle.st_il.specs.declared.expression.IlExp.{IlExp}
use Rattle.st_il.specs.declared.tree.Tree.{Tree}
use Rattle.st_il.specs.declared.ty.Ty.{Ty}
use Rattle.st_il.specs.declared.value.Env.{Env}
use Rattle.st_il.specs.declared.value.Value.{Value}
use Rattle.st_il.specs.Names.{Name}
use Rattle.st_il.specs.Definitions.{syntaxes, IsRelation, relation_named, rules_in, rules_from, rules_of}
use Rattle.st_semantics.specs.Environments.{EnvOk, AreTypedValues}
use Rattle.st_semantics.specs.Evaluation.{tasks}
use Rattle.st_semantics.specs.Holding.{HaveValues}
use Rattle.st_semantics.specs.Calls.{has_value}
use Rattle.st_semantics.specs.Derivation as d
use Rattle.st_semantics.specs.Derivation.{Valid, IsValid, HasTree, excluded}
use Rattle.st_semantics.specs.Typing as typing
use Rattle.st_semantics.specs.Typing.{ExpsHaveTypes, ResultsAreTyped, ConclusionsAreTyped}
use Rattle.st_semantics.specs.Laws.{LawOfJudgements}
use Rattle.st_semantics.proofs.Names.{bytes-path}
use Rattle.st_semantics.proofs.Nodes.{relation_single}
use Rattle.st_semantics.proofs.TypedValues.{law_of_types}

all_at : {A : Type 0} (P : A → Type 0) (xs : List A) (k : ℕ) (x : A) → All P xs → slice_get xs k ≡ Some x → P x
all_at P [] k x h e = cc
all_at P (y ∷ ys) zero x h e = let same : y ≡ x = cc in subst P same (All-head P y ys h)
all_at P (y ∷ ys) (suc k) x h e = all_at P ys k x (All-tail P y ys h) e

module _ (il : Il) where
  abbrev Concludes : RuleDef → Type 0
  Concludes r = (declared : RelationDef) → relation_named il r.relation ≡ Some declared → ExpsHaveTypes il r.variables r.conclusion declared.holes

  abbrev Gives : RelationDef → RuleDef → Type 0
  Gives declared r = ExpsHaveTypes il r.variables r.conclusion declared.holes

  of_relation : (name : Name) (declared : RelationDef) → relation_named il name ≡ Some declared → (rs : List RuleDef) → All Concludes rs → All (Gives declared) (rules_from name rs)
  of_relation name declared e [] h = All-nil (Gives declared)
  of_relation name declared e (r ∷ rs) h = at (bytes_eq name r.relation) refl (of_relation name declared e rs (All-tail Concludes r rs h))
    where
      at : (b : Bool) → bytes_eq name r.relation ≡ b → All (Gives declared) (rules_from name rs) → All (Gives declared) (if b then r ∷ rules_from name rs else rules_from name rs)
      at true k ih = All-cons (Gives declared) r (rules_from name rs) (All-head Concludes r rs h declared (ap (relation_named il) (sym (bytes-path name r.relation k)) ∙ e)) ih
      at false k ih = ih

  values_have_types : (results : ResultsAreTyped il) (ls : List Listed) (env : Env) → EnvOk (syntaxes il) ls env → (es : List IlExp) (ts : List Ty) (vs : List Value) → ExpsHaveTypes il ls es ts → HaveValues (has_value il) (tasks env es) vs
      → AreTypedValues (syntaxes il) ts vs
  values_have_types results ls env ok es ts [] typing.none h = tt
  values_have_types results ls env ok es ts (v ∷ vs) typing.none h = absurd h
  values_have_types results ls env ok es ts [] (typing.more x xs) h = absurd h
  values_have_types results ls env ok es ts (v ∷ vs) (typing.more {e = e} {es = es'} {t = t} {ts = ts'} x xs) h =
      (law_of_types il results h.0.0 ls env e t v x ok h.0.1, values_have_types results ls env ok es' ts' vs xs h.1)

  tree_typed : ResultsAreTyped il → ConclusionsAreTyped il → (tree : Tree) → IsValid il tree → (name : Name) → IsRelation il tree.relation name → (declared : RelationDef) → relation_named il name ≡ Some declared
      → AreTypedValues (syntaxes il) declared.holes tree.values
  tree_typed results conclusions tree (d.node other rule is get ok gives proved) name rel declared found =
      let same : other ≡ name = relation_single il tree.relation other name is rel in
      let here : slice_get (rules_of il name) tree.rule ≡ Some rule = subst (λ z. slice_get (rules_of il z) tree.rule ≡ Some rule) same get in
      values_have_types results rule.variables tree.env ok rule.conclusion declared.holes tree.values
      (all_at (Gives declared) (rules_of il name) tree.rule rule (of_relation name declared found (rules_in il.defs) conclusions) here) gives

pub law_of_judgements : LawOfJudgements
law_of_judgements il results conclusions name values tree declared found =
    subst (AreTypedValues (syntaxes il) declared.holes) tree.values_are (tree_typed il results conclusions tree.tree tree.valid name tree.relation_is declared found)
