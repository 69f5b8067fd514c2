-- The rules of a relation that are run, one after another.
use Rattle.std.proofs.Common.{arith, ◌≡◌, sym, ◌∙◌, ap, subst, ℕ, zero, suc, ◌+◌, ◌<◌, ◌≤◌, List, [], ◌∷◌, length, take, get_or, Some, slice_get, ◌⊎◌}
use Rattle.std.specs.Borrow.{Bor}
use Rattle.st_il.specs.declared.definition.Il.{Il}
use Rattle.st_il.specs.declared.definition.RelationDef.{RelationDef}
use Rattle.st_il.specs.declared.definition.RuleDef.{RuleDef}
use Rattle.st_il.specs.declared.value.Value.{Value}
use Rattle.st_il.specs.Names.{Name}
use Rattle.st_il.specs.Definitions.{IsRelation, rules_of}
use Rattle.st_semantics.specs.Derivation.{Derivable}
use Rattle.st_semantics.specs.Goals.{Goal}
use Rattle.st_semantics.specs.Chains.{Follows}
use Rattle.st_index.specs.Names.{all_now}
use Rattle.st_index.specs.Numbers.{IsFirstRelation}
use Rattle.st_search.specs.declared.answer.Output.{Output}
use Rattle.st_search.specs.declared.answer.SearchFault.{SearchFault}
use Rattle.st_search.specs.Answers.{AreSorted}
use Rattle.st_search.specs.inner.Chains.{EndsBehind}
use Rattle.st_search.specs.inner.Contracts.{IsShort}
use Rattle.st_search.specs.inner.Ordered.{AreAdded}
use Rattle.st_search.specs.inner.Rules.{CanBeSearched, numbered_seeks, goal_seeks}
use Rattle.st_search.specs.inner.Search.{Solvings, AnswersGoals}
use Rattle.st_search.specs.inner.Sought.{Finds}
use Rattle.st_search.proofs.FromRules.{rules_seek, rules_start, rules_step, goal_finds}
use Rattle.st_search.proofs.Solved.{short_none, short_greater}

-- ---- what is referred to at a number

pub now_within : {A : Type 0} (xs : List (Bor A)) (i : ℕ) → i < length xs → i < length (all_now xs)
now_within [] i h = absurd (omega (arith, h))
now_within (x ∷ xs) zero h = omega arith
now_within (x ∷ xs) (suc i) h = let inner = now_within xs i (omega (arith, h)) in omega (arith, inner)

pub now_at : {A : Type 0} (xs : List (Bor A)) (i : ℕ) (x : Bor A) → i < length xs → x ≡ get_or xs i x → x.now ≡ get_or (all_now xs) i x.now
now_at [] i x h is = absurd (omega (arith, h))
now_at (y ∷ ys) zero x h is = ap (λ z. z.now) is
now_at (y ∷ ys) (suc i) x h is = now_at ys i x (omega (arith, h)) is

pub now_end : {A : Type 0} (xs : List (Bor A)) (i : ℕ) → length xs ≤ i → length (all_now xs) ≤ i
now_end [] i h = h
now_end (x ∷ xs) zero h = absurd (omega (arith, h))
now_end (x ∷ xs) (suc i) h = let inner = now_end xs i (omega (arith, h)) in omega (arith, inner)

-- a number is that of one relation
pub relation_same : (il : Il) (k : ℕ) (a b : Name) → IsRelation il k a → IsRelation il k b → a ≡ b
relation_same il k a b (r, is, name) (s, is', name') =
    let same : r ≡ s = cc in
    sym name ∙ ap (λ (z : RelationDef). z.name) same ∙ name'

module _ (il : Il) (n : ℕ) (A : Solvings) (relation : ℕ) (inputs : List Value) where
  -- what the rule of a number derives, whatever goal is meant
  abbrev pub FromRule : ℕ → RuleDef → ℕ → List Output → Type 0
  FromRule number rule longest found =
      (left : ℕ) (g : Goal) → AnswersGoals il n left A → CanBeSearched il g.relation → g.inputs ≡ inputs → IsRelation il relation g.relation → Finds il n longest (numbered_seeks il n g number rule) found

  -- by what a rule ends, whatever goal is meant
  abbrev pub Ended : SearchFault → Type 0
  Ended fault = (left : ℕ) (g : Goal) → AnswersGoals il n left A → CanBeSearched il g.relation → g.inputs ≡ inputs → IsRelation il relation g.relation → EndsBehind il n left g fault

  -- what the first rules derive
  pub record AreRun (rules : List (Bor RuleDef)) (i longest : ℕ) (found : List Output) : Type 0 where
    pub sorted : AreSorted found
    pub short : IsShort il n A longest
    pub finds : (left : ℕ) (g : Goal) → AnswersGoals il n left A → CanBeSearched il g.relation → g.inputs ≡ inputs → IsRelation il relation g.relation → Finds il n longest (rules_seek il n g (take i (all_now rules))) found

  pub run_start : (rules : List (Bor RuleDef)) (found : List Output) → found ≡ [] → AreRun rules 0 0 found
  run_start rules found none = record {
    sorted = subst AreSorted (sym none) (λ i j d less within. absurd (omega (arith, within)));
    short = short_none il n A;
    finds = λ left g answers can same is. rules_start il n g (all_now rules) found none;
  }

  pub run_step : (rules : List (Bor RuleDef)) (i : ℕ) (rule : Bor RuleDef) (l m k : ℕ) (found others more : List Output) → i < length rules → rule ≡ get_or rules i rule
      → AreRun rules i l found → IsShort il n A m → FromRule i rule.now m others → AreAdded others found more → l ≤ k → m ≤ k → (k ≡ l) ⊎ (k ≡ m) → AreRun rules (i + 1) k more
  run_step rules i rule l m k found others more h is f short finds added less lesser one = record {
    sorted = added.sorted f.sorted;
    short = short_greater il n A l m k one f.short short;
    finds = λ left g answers can same at.
        rules_step il n g (all_now rules) i rule.now l m k found others more (now_within rules i h) (now_at rules i rule h is) (f.finds left g answers can same at) (finds left g answers can same at) less lesser added;
  }

  -- a goal that follows is asked by a rule
  asked_by : (g next : Goal) → Follows il g next → (number : ℕ) × (rule : RuleDef) × (slice_get (rules_of il g.relation) number ≡ Some rule) × (numbered_seeks il n g number rule).Asked next
  asked_by g next f = (
    f.number,
    f.at.rule,
    f.at.is_rule,
    (
      f.at.order,
      f.at.is_order,
      record {
        before = f.before;
        premise = f.premise;
        after = f.after;
        split = f.split;
        env = f.env;
        reached = f.reached;
        asks = record { one = f.one; goal = f.goal; inside = f.inside; holes = f.holes; is_goal = f.is_goal; values = f.values };
      },
    ),
  )

  pub run_all : (rules : List (Bor RuleDef)) (i longest : ℕ) (found : List Output) → length rules ≤ i → ((name : Name) × IsFirstRelation il relation name × (all_now rules ≡ rules_of il name)) → AreRun rules i longest found
      → ((g : Goal) → CanBeSearched il g.relation → (outputs : List Value) → Derivable il g.relation g.inputs outputs → (number : ℕ) × (rule : RuleDef) × (slice_get (rules_of il g.relation) number ≡ Some rule) × (numbered_seeks il n g number rule).Wanted outputs)
      → (left : ℕ) (g : Goal) → AnswersGoals il n left A → CanBeSearched il g.relation → g.inputs ≡ inputs → IsRelation il relation g.relation → Finds il n longest (goal_seeks il n g) found
  run_all rules i longest found end (name, first, are) f derived left g answers can same at =
      goal_finds il n g (all_now rules) i longest found (now_end rules i end) (are ∙ ap (rules_of il) (relation_same il relation name g.relation (first.declared, first.is, first.named) at)) (derived g can) (asked_by g) (f.finds left g answers can same at)
