-- What is derivable in the internal language of a small specification is what its rules give.
use Rattle.std.proofs.Common.{◌≡◌, ℕ, List, [], ◌∷◌, Option, Some, None, ap, ◌∙◌, sym, refl, subst}
use Rattle.std.specs.Prelude.{slice_get, option_map}
use Rattle.std.proofs.lemmas.Option.{slice_get-map}
use Rattle.st_il.specs.declared.definition.RuleDef.{RuleDef}
use Rattle.st_il.specs.declared.small.Small.{Small}
use Rattle.st_il.specs.declared.small.SmallRule.{SmallRule}
use Rattle.st_il.specs.declared.tree.Tree.{Tree}
use Rattle.st_il.specs.declared.value.Env.{Env}
use Rattle.st_il.specs.declared.value.Value.{Value}
use Rattle.st_il.specs.declared.value.Value.TheVariants.{Case as CaseOf}
use Rattle.st_il.specs.Small.{atom_exp, il_of}
use Rattle.st_semantics.specs.declared.outcome.Outcome.TheVariants.{Val}
use Rattle.st_il.specs.Names.{Name}
use Rattle.st_il.specs.Definitions.{syntaxes, IsRelation, rules_of}
use Rattle.st_semantics.specs.Directions.{inputs_of, outputs_of, inputs_by, outputs_by}
use Rattle.st_semantics.specs.Evaluation.{tasks}
use Rattle.st_semantics.specs.Holding.{HaveValues}
use Rattle.st_semantics.specs.Calls.{CallAt, has_value}
use Rattle.st_semantics.specs.Derivation.{Exclusion, Valid, IsValid, HasTree, Derivable, node, done, excluded}
use Rattle.st_verify.specs.SmallMeaning.{IsSmallJudgement, IsSmallStep}
use Rattle.st_verify.proofs.SmallIl.{rule_of, is_relation, relation_zero, mask-small, rules-small}
use Rattle.st_verify.proofs.SmallValues.{atom_given, atom_only, empty_env}

-- the values of the judgement of a rule
abbrev pub values_of : SmallRule → List Value
values_of rule = CaseOf rule.from [] ∷ CaseOf rule.to [] ∷ []

abbrev no_env : Env
no_env = record { entries = [] }

-- its tree
abbrev pub tree_of_rule : ℕ → SmallRule → Tree
tree_of_rule k rule = record { relation = 0; rule = k; env = no_env; values = values_of rule; children = [] }

rule_at : (s : Small) (k : ℕ) → slice_get (rules_of (il_of s) s.relation) k ≡ option_map (rule_of s.relation s.syntax) (slice_get s.rules k)
rule_at s k = ap (λ all. slice_get all k) (rules-small s) ∙ slice_get-map (rule_of s.relation s.syntax) s.rules k

pub is_rule_at : (s : Small) (k : ℕ) (rule : SmallRule) → slice_get s.rules k ≡ Some rule
    → slice_get (rules_of (il_of s) s.relation) k ≡ Some (rule_of s.relation s.syntax rule)
is_rule_at s k rule at = rule_at s k ∙ ap (option_map (rule_of s.relation s.syntax)) at

atom_value : (s : Small) (env : Env) (atom : List ℕ) → has_value (il_of s) env (atom_exp s.syntax atom) (CaseOf atom [])
atom_value s env atom = (0, atom_given (syntaxes (il_of s)) (CallAt (il_of s) 0) env s.syntax atom)

pub rule_is_valid : (s : Small) (k : ℕ) (rule : SmallRule) → slice_get s.rules k ≡ Some rule → IsValid (il_of s) (tree_of_rule k rule)
rule_is_valid s k rule at =
    node s.relation (rule_of s.relation s.syntax rule) (is_relation s) (is_rule_at s k rule at) (empty_env (syntaxes (il_of s)) no_env refl)
    (atom_value s no_env rule.from, (atom_value s no_env rule.to, tt)) done

pub rule_has_tree : (s : Small) (k : ℕ) (rule : SmallRule) → slice_get s.rules k ≡ Some rule → HasTree (il_of s) s.relation (values_of rule)
rule_has_tree s k rule at =
    record { tree = tree_of_rule k rule; valid = rule_is_valid s k rule at; relation_is = is_relation s; values_are = refl }

-- ---- a valid tree is that of a rule

-- a rule of the specification, where there is one at this place
found : (s : Small) (k : ℕ) (rule : RuleDef) (one : Option SmallRule) → slice_get s.rules k ≡ one → option_map (rule_of s.relation s.syntax) one ≡ Some rule
    → (r : SmallRule) × (slice_get s.rules k ≡ Some r) × (rule ≡ rule_of s.relation s.syntax r)
found s k rule None at e = cc
found s k rule (Some r) at e = (r, at, cc)

pub small_rule_at : (s : Small) (name : Name) (k : ℕ) (rule : RuleDef) → name ≡ s.relation → slice_get (rules_of (il_of s) name) k ≡ Some rule
    → (r : SmallRule) × (slice_get s.rules k ≡ Some r) × (rule ≡ rule_of s.relation s.syntax r)
small_rule_at s name k rule named at =
    let here = subst (λ n. slice_get (rules_of (il_of s) n) k ≡ Some rule) named at in
    found s k rule (slice_get s.rules k) refl (sym (rule_at s k) ∙ here)

value_of_atom : (s : Small) (env : Env) (atom : List ℕ) (v : Value) → has_value (il_of s) env (atom_exp s.syntax atom) v → v ≡ CaseOf atom []
value_of_atom s env atom v (n, given) =
    let same = atom_only (syntaxes (il_of s)) (CallAt (il_of s) n) env s.syntax atom (Val v) given in cc

atoms_have : (s : Small) (env : Env) (one other : List ℕ) (values : List Value)
    → HaveValues (has_value (il_of s)) (tasks env (atom_exp s.syntax one ∷ atom_exp s.syntax other ∷ [])) values
    → values ≡ CaseOf one [] ∷ CaseOf other [] ∷ []
atoms_have s env one other [] have = absurd have
atoms_have s env one other (x ∷ []) have = absurd have.1
atoms_have s env one other (x ∷ y ∷ []) have =
    let first = value_of_atom s env one x have.0 in
    let second = value_of_atom s env other y have.1.0 in
    cc
atoms_have s env one other (x ∷ y ∷ z ∷ values) have = absurd have.1.1

tree_rule : (s : Small) (O : Exclusion) (name : Name) (tree : Tree) → Valid (il_of s) (has_value (il_of s)) O tree → IsRelation (il_of s) tree.relation name
    → IsSmallJudgement s name tree.values
tree_rule s O name tree (node other rule is_relation at env have proved) relation =
    let named = (relation_zero s tree.relation name relation).1 in
    let other_named = (relation_zero s tree.relation other is_relation).1 in
    let r = small_rule_at s other tree.rule rule other_named at in
    let values = subst (λ (x : RuleDef). HaveValues (has_value (il_of s)) (tasks tree.env x.conclusion) tree.values) r.2 have in
    record { relation_is = named; number = tree.rule; rule = r.0; is_rule = r.1; values_are = atoms_have s tree.env r.0.from r.0.to tree.values values }

pub has_tree_rule : (s : Small) (name : Name) (values : List Value) → HasTree (il_of s) name values → IsSmallJudgement s name values
has_tree_rule s name values has =
    subst (IsSmallJudgement s name) has.values_are (tree_rule s (excluded (il_of s)) name has.tree has.valid has.relation_is)

pub rule_tree : (s : Small) (name : Name) (values : List Value) → IsSmallJudgement s name values → HasTree (il_of s) name values
rule_tree s name values says =
    subst (λ n. HasTree (il_of s) n values) (sym says.relation_is)
    (subst (HasTree (il_of s) s.relation) (sym says.values_are) (rule_has_tree s says.number says.rule says.is_rule))

-- ---- inputs and outputs

pub inputs-small : (s : Small) (one other : Value) → inputs_of (il_of s) s.relation (one ∷ other ∷ []) ≡ one ∷ []
inputs-small s one other = ap (λ inputs. inputs_by inputs (one ∷ other ∷ [])) (mask-small s)

pub outputs-small : (s : Small) (one other : Value) → outputs_of (il_of s) s.relation (one ∷ other ∷ []) ≡ other ∷ []
outputs-small s one other = ap (λ inputs. outputs_by inputs (one ∷ other ∷ [])) (mask-small s)

pub derivable_step : (s : Small) (term next : List Value) → Derivable (il_of s) s.relation term next → IsSmallStep s term next
derivable_step s term next derivable =
    let t = has_tree_rule s s.relation derivable.values derivable.is_derived in
    record {
      number = t.number;
      rule = t.rule;
      is_rule = t.is_rule;
      term_is = sym derivable.inputs_are ∙ ap (inputs_of (il_of s) s.relation) t.values_are ∙ inputs-small s (CaseOf t.rule.from []) (CaseOf t.rule.to []);
      next_is = sym derivable.outputs_are ∙ ap (outputs_of (il_of s) s.relation) t.values_are ∙ outputs-small s (CaseOf t.rule.from []) (CaseOf t.rule.to []);
    }

pub step_derivable : (s : Small) (term next : List Value) → IsSmallStep s term next → Derivable (il_of s) s.relation term next
step_derivable s term next step = record {
  values = values_of step.rule;
  is_derived = rule_has_tree s step.number step.rule step.is_rule;
  inputs_are = inputs-small s (CaseOf step.rule.from []) (CaseOf step.rule.to []) ∙ sym step.term_is;
  outputs_are = outputs-small s (CaseOf step.rule.from []) (CaseOf step.rule.to []) ∙ sym step.next_is;
}
