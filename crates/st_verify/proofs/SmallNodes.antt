-- What the code asks of a node of a small specification.
use Rattle.std.proofs.Common.{◌≡◌, ℕ, zero, suc, ◌+◌, ◌<◌, List, [], ◌∷◌, Option, Some, None, Bool, true, false, map, ap, ◌∙◌, sym, refl, subst, arith, ◌⊎◌, inl, inr, cond, length, get_or, take}
use Rattle.std.specs.Prelude.{slice_get, bytes_eq, Any, is_some}
use Rattle.std.specs.List.{enumerate_from}
use Rattle.std.specs.Cmp.Lexicographic.{same_text}
use Rattle.std.specs.declared.cmp.Ordering.{Ordering}
use Rattle.std.specs.declared.cmp.Ordering.TheVariants.{Less, Equal, Greater}
use Rattle.st_deriv.specs.declared.line.NodeLine.{NodeLine}
use Rattle.st_deriv.specs.declared.line.Ref.{Ref}
use Rattle.st_il.specs.declared.definition.Il.{Il}
use Rattle.st_il.specs.declared.definition.RuleDef.{RuleDef}
use Rattle.st_il.specs.declared.expression.IlExp.{IlExp}
use Rattle.st_il.specs.declared.small.Small.{Small}
use Rattle.st_il.specs.declared.small.SmallRule.{SmallRule}
use Rattle.st_il.specs.declared.value.Env.{Env}
use Rattle.st_il.specs.declared.value.Value.{Value}
use Rattle.st_il.specs.declared.value.Value.TheVariants as value
use Rattle.st_il.specs.Order.{value_cmp}
use Rattle.st_il.specs.Small.{il_of, atom_exp, rule_def, syntax_def, relation_def, rule_names, AreDistinct, IsSmall}
use Rattle.st_il.proofs.OrderLaws.{value_cmp_order}
use Rattle.st_semantics.specs.declared.outcome.Outcome.TheVariants.{Val}
use Rattle.st_semantics.specs.declared.notes.Notes.{Notes}
use Rattle.st_semantics.specs.declared.verify_rule.VerifyRule.TheVariants.{V7, V9, V10}
use Rattle.st_il.specs.Definitions.{relation_named, rules_of, syntaxes}
use Rattle.st_semantics.specs.Directions.{inputs_of}
use Rattle.st_semantics.specs.Calls.{CallAt}
use Rattle.st_semantics.specs.Checks.{Answer, and_then, asks, evaluates, evaluate_each, checking_depth}
use Rattle.st_semantics.specs.Evidence.{HasShape, try_all, excludes}
use Rattle.st_semantics.specs.Verdict.{Found, find_rule, rule_named}
use Rattle.st_semantics.specs.Walks as walks
use Rattle.st_semantics.specs.Walks.{Walks}
use Rattle.st_verify.specs.SmallValues.{AreCaseValues}
use Rattle.st_verify.specs.SmallVerdict.{IsRelationNamed, IsRuleNamed, Concludes}
use Rattle.st_verify.proofs.SmallDefinitions.{RuleWith, any_def, rule_def_there, named_relation, relation_there, named_rule}
use Rattle.st_verify.proofs.SmallIl.{rule_of, itself, relation-named, relation-here, rules-small}
use Rattle.st_verify.proofs.SmallTrees.{values_of}
use Rattle.st_verify.proofs.SmallValues.{atom_given}
use Rattle.st_verify.proofs.Values.{atom_exp_value, value_of_atom_exp}

-- ---- the rule that a node names

abbrev Knows : Small → NodeLine → Type 0
Knows s node = Any (IsRelationNamed node.relation) (il_of s).defs × Any (IsRuleNamed node.relation node.rule) (il_of s).defs

-- the node names the rule of this number
pub record Names (s : Small) (node : NodeLine) : Type 0 where
  pub relation : node.relation ≡ s.relation
  pub number : ℕ
  pub rule : SmallRule
  pub is_rule : slice_get s.rules number ≡ Some rule
  pub name : rule.name ≡ node.rule
  pub found : rule_named (il_of s) node ≡ Some (number, rule_of s.relation s.syntax rule)

-- a rule of that name, or none
abbrev FindsFrom : List ℕ → List ℕ → ℕ → List SmallRule → List ℕ → Type 0
FindsFrom relation syntax n some name =
    ((k : ℕ) × (rule : SmallRule) × (slice_get some k ≡ Some rule) × (rule.name ≡ name)
    × (find_rule name (enumerate_from n (map (rule_of relation syntax) some)) ≡ Some (n + k, rule_of relation syntax rule)))
    ⊎ ((find_rule name (enumerate_from n (map (rule_of relation syntax) some)) ≡ None) × (RuleWith some (λ rule. rule.name ≡ name) → ⊥))

finds_later : (relation syntax : List ℕ) (n : ℕ) (rule : SmallRule) (some : List SmallRule) (name : List ℕ) → bytes_eq name rule.name ≡ false
    → FindsFrom relation syntax (n + 1) some name → FindsFrom relation syntax n (rule ∷ some) name
finds_later relation syntax n rule some name other (inl (k, one, at, named, found)) =
    let place : n + 1 + k ≡ n + suc k = omega arith in
    inl (suc k, one, at, named, rw other (found ∙ ap (λ p. Some (p, rule_of relation syntax one)) place))
finds_later relation syntax n rule some name other (inr (none, never)) = inr (rw other none, not_here)
  where
    not_here : RuleWith (rule ∷ some) (λ r. r.name ≡ name) → ⊥
    not_here (zero, one, at, named) =
        let same : rule ≡ one = cc in
        let same_name : bytes_eq name rule.name ≡ true = subst (λ r. bytes_eq name r ≡ true) (sym named ∙ ap (λ (r : SmallRule). r.name) (sym same)) (itself name) in
        let never : true ≡ false = sym same_name ∙ other in cc
    not_here (suc k, one, at, named) = never (k, one, at, named)

finds_here : (relation syntax : List ℕ) (n : ℕ) (rule : SmallRule) (some : List SmallRule) (name : List ℕ) (b : Bool) → bytes_eq name rule.name ≡ b
    → FindsFrom relation syntax (n + 1) some name → FindsFrom relation syntax n (rule ∷ some) name
finds_here relation syntax n rule some name true same later =
    let place : n ≡ n + 0 = omega arith in
    inl (0, rule, refl, sym (same_text name rule.name (sym same)), rw same (ap (λ p. Some (p, rule_of relation syntax rule)) place))
finds_here relation syntax n rule some name false other later = finds_later relation syntax n rule some name other later

finds : (relation syntax : List ℕ) (n : ℕ) (some : List SmallRule) (name : List ℕ) → FindsFrom relation syntax n some name
finds relation syntax n [] name = inr (refl, λ none. never none)
  where
    never : RuleWith [] (λ rule. rule.name ≡ name) → ⊥
    never (k, rule, at, named) = cc
finds relation syntax n (rule ∷ some) name =
    finds_here relation syntax n rule some name (bytes_eq name rule.name) refl (finds relation syntax (n + 1) some name)

abbrev FoundIn : Small → NodeLine → Option Found
FoundIn s node = find_rule node.rule (enumerate_from 0 (map (rule_of s.relation s.syntax) s.rules))

rule_named-here : (s : Small) (node : NodeLine) → node.relation ≡ s.relation → rule_named (il_of s) node ≡ FoundIn s node
rule_named-here s node named =
    ap (λ r. if_there (is_some (relation_named (il_of s) r)) (rules_of (il_of s) r)) named
    ∙ ap (λ found. if_there (is_some found) (rules_of (il_of s) s.relation)) (relation-here s)
    ∙ ap (λ all. find_rule node.rule (enumerate_from 0 all)) (rules-small s)
  where
    if_there : Bool → List RuleDef → Option Found
    if_there b all = cond b (find_rule node.rule (enumerate_from 0 all)) None

rule_named-other : (s : Small) (node : NodeLine) → bytes_eq node.relation s.relation ≡ false → rule_named (il_of s) node ≡ None
rule_named-other s node other =
    ap (λ found. cond (is_some found) (find_rule node.rule (enumerate_from 0 (rules_of (il_of s) node.relation))) None) (relation-named s node.relation false other)

abbrev NamedOrNot : Small → NodeLine → Type 0
NamedOrNot s node = Names s node ⊎ ((rule_named (il_of s) node ≡ None) × (Knows s node → ⊥))

named_among : (s : Small) (node : NodeLine) → node.relation ≡ s.relation → FindsFrom s.relation s.syntax 0 s.rules node.rule → NamedOrNot s node
named_among s node named (inl (k, rule, at, name, found)) =
    let place : 0 + k ≡ k = omega arith in
    inl (record {
      relation = named;
      number = k;
      rule = rule;
      is_rule = at;
      name = name;
      found = rule_named-here s node named ∙ found ∙ ap (λ p. Some (p, rule_of s.relation s.syntax rule)) place;
    })
named_among s node named (inr (none, never)) = inr (rule_named-here s node named ∙ none, λ knows. never (named_rule s node.relation node.rule knows.1))

named_by : (s : Small) (node : NodeLine) (b : Bool) → bytes_eq node.relation s.relation ≡ b → NamedOrNot s node
named_by s node true same = named_among s node (same_text node.relation s.relation (sym same)) (finds s.relation s.syntax 0 s.rules node.rule)
named_by s node false other =
    inr (
      rule_named-other s node other,
      λ knows.
          let same : bytes_eq node.relation s.relation ≡ true = subst (λ n. bytes_eq n s.relation ≡ true) (sym (named_relation s node.relation knows.0)) (itself s.relation) in
          let never : true ≡ false = sym same ∙ other in cc,
    )

pub named_or_not : (s : Small) (node : NodeLine) → NamedOrNot s node
named_or_not s node = named_by s node (bytes_eq node.relation s.relation) refl

pub names_known : (s : Small) (node : NodeLine) → Names s node → Knows s node
names_known s node names = (
  subst (λ n. Any (IsRelationNamed n) (il_of s).defs) (sym names.relation) (relation_there s),
  rule_def_there s (IsRuleNamed node.relation node.rule) names.number names.rule names.is_rule (sym names.relation, names.name),
)

-- ---- its values

-- the name of a rule among the names
name_at : (some : List SmallRule) (k : ℕ) (rule : SmallRule) → slice_get some k ≡ Some rule → (k < length (rule_names some)) × (get_or (rule_names some) k [] ≡ rule.name)
name_at [] k rule at = cc
name_at (one ∷ some) zero rule at = let same : one ≡ rule = cc in (omega arith, ap (λ (r : SmallRule). r.name) same)
name_at (one ∷ some) (suc k) rule at = let later = name_at some k rule at in (omega (arith, later.0), later.1)

apart : (rule : SmallRule) (some : List SmallRule) → AreDistinct (rule_names (rule ∷ some)) → (k : ℕ) (other : SmallRule) → slice_get some k ≡ Some other → rule.name ≡ other.name → ⊥
apart rule some distinct k other there same =
    let at = name_at some k other there in
    distinct 0 (suc k) [] (omega arith) (omega (arith, at.0)) (same ∙ sym at.1)

-- rules of one name are the same
one_name : (some : List SmallRule) → AreDistinct (rule_names some) → (j k : ℕ) (one other : SmallRule) → slice_get some j ≡ Some one → slice_get some k ≡ Some other
    → one.name ≡ other.name → one ≡ other
one_name [] distinct j k one other at there same = cc
one_name (rule ∷ some) distinct zero zero one other at there same = cc
one_name (rule ∷ some) distinct zero (suc k) one other at there same =
    let here : rule ≡ one = cc in
    absurd (apart rule some distinct k other there (ap (λ (r : SmallRule). r.name) here ∙ same))
one_name (rule ∷ some) distinct (suc j) zero one other at there same =
    let here : rule ≡ other = cc in
    absurd (apart rule some distinct j one at (ap (λ (r : SmallRule). r.name) here ∙ sym same))
one_name (rule ∷ some) distinct (suc j) (suc k) one other at there same =
    one_name some (λ a b d less below. distinct (suc a) (suc b) d (omega arith) (omega arith)) j k one other at there same

pub concluded : (s : Small) (node : NodeLine) → IsSmall s → (names : Names s node) → Any (Concludes node) (il_of s).defs → node.values ≡ values_of names.rule
concluded s node small names any = of_one (any_def s (Concludes node) any)
  where
    of_one : Concludes node (syntax_def s.syntax s.atoms) ⊎ Concludes node (relation_def s.relation s.syntax)
        ⊎ RuleWith s.rules (λ rule. Concludes node (rule_def s.relation s.syntax rule)) → node.values ≡ values_of names.rule
    of_one (inl never) = absurd never
    of_one (inr (inl never)) = absurd never
    of_one (inr (inr (k, rule, at, (named, have)))) =
        let same : rule ≡ names.rule = one_name s.rules small.distinct_rules k names.number rule names.rule at names.is_rule (named.1 ∙ sym names.name) in
        value_of_atom_exp s.syntax rule.from rule.to node.values have ∙ ap values_of same

pub concludes : (s : Small) (node : NodeLine) (names : Names s node) → node.values ≡ values_of names.rule → Any (Concludes node) (il_of s).defs
concludes s node names is =
    rule_def_there s (Concludes node) names.number names.rule names.is_rule (
      (sym names.relation, names.name),
      subst (AreCaseValues (atom_exp s.syntax names.rule.from ∷ atom_exp s.syntax names.rule.to ∷ [])) (sym is)
          (atom_exp_value s.syntax names.rule.from, (atom_exp_value s.syntax names.rule.to, tt)),
    )

-- ---- the conclusion is evaluated

-- values are equal or not
decided : (a b : Value) (o : Ordering) → value_cmp a b ≡ o → (a ≡ b) ⊎ (a ≡ b → ⊥)
decided a b Equal is = inl ((value_cmp_order.equal a b).0 is)
decided a b Less is = inr (λ same. let never = (value_cmp_order.equal a b).1 same in cc)
decided a b Greater is = inr (λ same. let never = (value_cmp_order.equal a b).1 same in cc)

same_or_not : (a b : Value) → (a ≡ b) ⊎ (a ≡ b → ⊥)
same_or_not a b = decided a b (value_cmp a b) refl

module _ (s : Small) (env : Env) where
  evaluated : (atom : List ℕ) → evaluates (il_of s) V7 env (atom_exp s.syntax atom) (value.Case atom []) None
  evaluated atom = inl (atom_given (syntaxes (il_of s)) (CallAt (il_of s) checking_depth) env s.syntax atom, refl)

  refused : (atom : List ℕ) (v : Value) → (v ≡ value.Case atom [] → ⊥) → evaluates (il_of s) V7 env (atom_exp s.syntax atom) v (Some V7)
  refused atom v differs =
      inr (Val (value.Case atom []), atom_given (syntaxes (il_of s)) (CallAt (il_of s) checking_depth) env s.syntax atom, (λ same. differs (let is : value.Case atom [] ≡ v = cc in sym is)), refl)

  abbrev TwoAtoms : List ℕ → List ℕ → List IlExp
  TwoAtoms one other = atom_exp s.syntax one ∷ atom_exp s.syntax other ∷ []

  pub each_evaluated : (one other : List ℕ) (values : List Value) → values ≡ value.Case one [] ∷ value.Case other [] ∷ []
      → evaluate_each (il_of s) env (TwoAtoms one other) values None
  each_evaluated one other values is =
      subst (λ vs. evaluate_each (il_of s) env (TwoAtoms one other) vs None) (sym is) (inl (evaluated one, inl (evaluated other, refl)))

  each_refused : (one other : List ℕ) (x y : Value) → (x ≡ value.Case one []) ⊎ (x ≡ value.Case one [] → ⊥) → (x ∷ y ∷ [] ≡ value.Case one [] ∷ value.Case other [] ∷ [] → ⊥)
      → evaluate_each (il_of s) env (TwoAtoms one other) (x ∷ y ∷ []) (Some V7)
  each_refused one other x y (inr never) differ = inr (V7, refused one x never, refl)
  each_refused one other x y (inl is) differ =
      inl (
        subst (λ v. evaluates (il_of s) V7 env (atom_exp s.syntax one) v None) (sym is) (evaluated one),
        inr (V7, refused other y (λ same. differ (let all : x ∷ y ∷ [] ≡ value.Case one [] ∷ value.Case other [] ∷ [] = cc in all)), refl),
      )

  -- where the values are not those of the conclusion, V7 is the answer
  pub values_refused : (one other : List ℕ) (values : List Value) (T : Answer → Type 0) (broken : Answer) → broken ≡ Some V7
      → (values ≡ value.Case one [] ∷ value.Case other [] ∷ [] → ⊥)
      → and_then (asks (length values ≡ 2) V7) (and_then (evaluate_each (il_of s) env (TwoAtoms one other) values) T) broken
  values_refused one other [] T broken is differ = inr (V7, inr ((λ two. omega (arith, two)), refl), is)
  values_refused one other (x ∷ []) T broken is differ = inr (V7, inr ((λ two. omega (arith, two)), refl), is)
  values_refused one other (x ∷ y ∷ z ∷ values) T broken is differ = inr (V7, inr ((λ two. omega (arith, two)), refl), is)
  values_refused one other (x ∷ y ∷ []) T broken is differ =
      inl (inl (refl, refl), inr (V7, each_refused one other x y (same_or_not x (value.Case one [])) differ, is))

-- ---- its children and its evidence

pub no_children : (il : Il) (notes : Notes) (children : List Ref) → children ≡ [] → Walks il notes [] children None
no_children il notes children is = subst (λ cs. Walks il notes [] cs None) (sym is) (walks.done refl)

pub some_children : (il : Il) (notes : Notes) (children : List Ref) → (children ≡ [] → ⊥) → Walks il notes [] children (Some V9)
some_children il notes [] some = absurd (some refl)
some_children il notes (child ∷ children) some = walks.left_over refl

shape_of_none : (number : ℕ) (evidence : Option (List (List ℕ))) → evidence ≡ None → HasShape false number evidence
shape_of_none number evidence none = subst (HasShape false number) (sym none) tt

no_shape : (number : ℕ) (evidence : Option (List (List ℕ))) → (evidence ≡ None → ⊥) → HasShape false number evidence → ⊥
no_shape number None some shape = some refl
no_shape number (Some orders) some shape = shape

pub no_evidence : (il : Il) (node : NodeLine) (number : ℕ) (relation syntax : List ℕ) (rule : SmallRule) (broken : Answer) → broken ≡ None → node.evidence ≡ None
    → excludes il node number (rule_of relation syntax rule) broken
no_evidence il node number relation syntax rule broken is none =
    inl (
      inl (shape_of_none number node.evidence none, refl),
      subst (λ e. try_all il (inputs_of il node.relation node.values) (take number (rules_of il node.relation)) e broken) (sym none) is,
    )

pub some_evidence : (il : Il) (node : NodeLine) (number : ℕ) (relation syntax : List ℕ) (rule : SmallRule) (broken : Answer) → broken ≡ Some V10 → (node.evidence ≡ None → ⊥)
    → excludes il node number (rule_of relation syntax rule) broken
some_evidence il node number relation syntax rule broken is some =
    inr (V10, inr (no_shape number node.evidence some, refl), is)
