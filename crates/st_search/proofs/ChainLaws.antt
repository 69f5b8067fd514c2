-- Goals that lead on, and chains.
use Rattle.std.proofs.Common.{arith, ◌≡◌, refl, ap, ℕ, suc, ◌<◌, ◌≤◌, List, [], ◌∷◌, length, Option, Some, None, slice_get}
use Rattle.std.proofs.lemmas.List.Elements.{All-cons, All-nil}
use Rattle.st_il.specs.declared.definition.Il.{Il}
use Rattle.st_il.specs.declared.definition.RuleDef.{RuleDef}
use Rattle.st_il.specs.Definitions.{rules_of}
use Rattle.st_semantics.specs.Marks.{full_name}
use Rattle.st_semantics.specs.Goals.{Goal, IsGoal}
use Rattle.st_semantics.specs.Chains.{Follows, Linked, last_of, RuleMeets, IsCut, DeepAt}
use Rattle.st_search.specs.declared.answer.Chain.{Chain}
use Rattle.st_search.specs.Answers.{told, IsChainOf}
use Rattle.st_search.specs.inner.Chains.{IsCalm, IsCutBy, IsChainBy, led}

module _ (il : Il) (n : ℕ) where
  -- a goal leads one goal further than those that follow it
  pub IsCalm-next : (l : ℕ) (g : Goal) → ((next : Goal) → Follows il g next → IsCalm il n l next)
      → ((number premise : ℕ) → RuleMeets il n g number premise → ⊥) → IsCalm il n (suc l) g
  IsCalm-next l g follows meets = record { short = short; quiet = quiet }
    where
      short : (more : List Goal) → Linked il g more → suc (length more) ≤ suc l
      short [] linked = omega arith
      short (next ∷ more) linked = let few = (follows next linked.0).short more linked.1 in omega (arith, few)

      quiet : (more : List Goal) → Linked il g more → (number premise : ℕ) → RuleMeets il n (last_of g more) number premise → ⊥
      quiet [] linked = meets
      quiet (next ∷ more) linked = (follows next linked.0).quiet more linked.1

  -- from a goal that leads less far than the depth no chain begins
  pub calm_shallow : (l : ℕ) (g : Goal) → IsCalm il n l g → l < n → DeepAt il n g → ⊥
  calm_shallow l g calm less (more, at, chain) = cut_at at chain.cut
    where
      cut_at : (at : Option (ℕ × ℕ)) → IsCut il n g more at → ⊥
      cut_at None as_many = let few = calm.short more chain.linked in absurd (omega (arith, few, less, as_many))
      cut_at (Some at) cut = calm.quiet more chain.linked at.0 at.1 cut.1

  -- a chain from a goal that follows this one, with this one before it
  pub ends_asked : (left : ℕ) (g next : Goal) (chain : Chain) → Follows il g next → IsGoal il g → IsChainBy il n left next chain → IsChainBy il n (suc left) g (led g chain)
  ends_asked left g next chain follows typed c = record {
    more = next ∷ c.more;
    at = c.at;
    typed = All-cons (IsGoal il) g (next ∷ c.more) typed c.typed;
    linked = (follows, c.linked);
    cut = longer c.at c.cut;
    goals_are = ap (λ z. told g ∷ z) c.goals_are;
    at_is = c.at_is;
  }
    where
      longer : (at : Option (ℕ × ℕ)) → IsCutBy il n left next c.more at → IsCutBy il n (suc left) g (next ∷ c.more) at
      longer None as_many = ap suc as_many
      longer (Some at) cut = (let few = cut.0 in omega (arith, few), cut.1)

  -- a goal at which a rule meets Deep
  pub ends_met : (left : ℕ) (g : Goal) (rule : RuleDef) (number premise : ℕ) → RuleMeets il n g number premise → slice_get (rules_of il g.relation) number ≡ Some rule → IsGoal il g
      → IsChainBy il n (suc left) g (led g (record { goals = []; at = Some (full_name rule, premise) }))
  ends_met left g rule number premise meets is typed = record {
    more = [];
    at = Some (number, premise);
    typed = All-cons (IsGoal il) g [] typed (All-nil (IsGoal il));
    linked = tt;
    cut = (omega arith, meets);
    goals_are = refl;
    at_is = (rule, is, refl, refl);
  }

  -- a chain where all goals are left
  pub chain_is : (g : Goal) (chain : Chain) → IsChainBy il n n g chain → IsChainOf il n g chain
  chain_is g chain c = record {
    more = c.more;
    at = c.at;
    is_chain = record { typed = c.typed; linked = c.linked; cut = cut_at c.at c.cut };
    goals_are = c.goals_are;
    at_is = c.at_is;
  }
    where
      cut_at : (at : Option (ℕ × ℕ)) → IsCutBy il n n g c.more at → IsCut il n g c.more at
      cut_at None h = h
      cut_at (Some at) h = h
