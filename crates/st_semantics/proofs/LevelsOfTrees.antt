-- The level at which an `otherwise` is decided makes no difference to which trees are valid, once
-- it is at least the number of all rules.
use Rattle.std.proofs.Common.{◌≡◌, ℕ, ◌<◌, ◌≤◌, ◌∙◌, List, [], ◌∷◌, Some, arith, length}
use Rattle.std.specs.Prelude.{true, slice_get}
use Rattle.std.proofs.lemmas.Option.{slice_get_within}
use Rattle.st_il.specs.declared.definition.Il.{Il}
use Rattle.st_il.specs.declared.definition.RuleDef.{RuleDef}
use Rattle.st_il.specs.declared.expression.Iteration.{Iteration}
use Rattle.st_il.specs.declared.expression.IlPrem.{IlPrem, out-IlPrem}
use Rattle.st_il.specs.declared.expression.IlPrem.TheOpen.{IlPrem-F}
use Rattle.st_il.specs.declared.tree.Child.{Child}
use Rattle.st_il.specs.declared.tree.Tree.{Tree}
use Rattle.st_il.specs.declared.value.Env.{Env}
use Rattle.st_il.specs.declared.value.Value.{Value}
use Rattle.st_il.specs.Names.{Name}
use Rattle.st_il.specs.Definitions.{rules_in, rules_of, count_of_rules}
use Rattle.st_semantics.specs.Directions.{inputs_of}
use Rattle.st_semantics.specs.Variables.{has_otherwise, have_otherwise}
use Rattle.st_semantics.specs.Breaches.{KeepModes}
use Rattle.st_semantics.specs.Holding as h
use Rattle.st_semantics.specs.Holding.{Instance, instances, each_instance, Holds, HoldAll}
use Rattle.st_semantics.specs.Calls.{has_value, no_goal}
use Rattle.st_semantics.specs.Derivation as d
use Rattle.st_semantics.specs.Derivation.{Root, Exclusion, Valid, Proved, exclusion_to, root_of}
use Rattle.st_semantics.specs.Laws.{LawOfLevels}
use Rattle.st_semantics.proofs.Modes.{modes_by_name}
use Rattle.st_semantics.proofs.Acceptance.{otherwise-level}
use Rattle.st_semantics.proofs.Nodes.{or_left, or_right}
use Rattle.st_semantics.proofs.Levels.{level, few_rules}

-- ---- a premise holds as well by another meaning of its `otherwise`

-- where the premise has an `otherwise`, the second follows from the first
abbrev Moves : Type 0 → Type 0 → IlPrem → Type 0
Moves P Q p = has_otherwise p ≡ true → P → Q

abbrev AllMove : Type 0 → Type 0 → List Instance → Type 0
AllMove P Q [] = Unit {0}
AllMove P Q (at ∷ rest) = Moves P Q at.1 × AllMove P Q rest

each_moves : (P Q : Type 0) (envs : List Env) (body : IlPrem) → Moves P Q body → AllMove P Q (each_instance envs body)
each_moves P Q [] body m = tt
each_moves P Q (env ∷ envs) body m = (m, each_moves P Q envs body m)

all_move : (P Q : Type 0) (env : Env) (ps : List IlPrem) → (have_otherwise ps ≡ true → P → Q) → AllMove P Q (instances env ps)
all_move P Q env [] m = tt
all_move P Q env (p ∷ ps) m =
    (λ has. m (or_left (has_otherwise p) (have_otherwise ps) has), all_move P Q env ps (λ has. m (or_right (has_otherwise p) (have_otherwise ps) has)))

inner_moves : (P Q : Type 0) (p : IlPrem) (how : Iteration) (xs : List Name) (body : IlPrem) → out-IlPrem p ≡ IlPrem-F.Each how xs body → Moves P Q p → Moves P Q body
inner_moves P Q p how xs body is m has = m (otherwise-level p (IlPrem-F.Each how xs body) is ∙ has)

module _ (il : Il) (P Q : Type 0) where
  mutual
    holds_moved : {env : Env} {p : IlPrem} → Holds (has_value il) P no_goal env p → Moves P Q p → Holds (has_value il) Q no_goal env p
    holds_moved (h.condition e is v) m = h.condition e is v
    holds_moved {p = p} (h.otherwise is o) m = h.otherwise is (m (otherwise-level p IlPrem-F.Otherwise is) o)
    holds_moved (h.goal r es vs is have g) m = absurd g
    holds_moved {p = p} (h.each how xs body envs is are all) m =
        h.each how xs body envs is are (all_moved all (each_moves P Q envs body (inner_moves P Q p how xs body is m)))

    all_moved : {ps : List Instance} → HoldAll (has_value il) P no_goal ps → AllMove P Q ps → HoldAll (has_value il) Q no_goal ps
    all_moved h.done m = h.done
    all_moved (h.more x xs) m = h.more (holds_moved x m.0) (all_moved xs m.1)

-- ---- trees

-- the rules of a relation are no more than all
rule_below : (il : Il) (name : Name) (k : ℕ) (rule : RuleDef) → slice_get (rules_of il name) k ≡ Some rule → k < count_of_rules il
rule_below il name k rule is =
    let within : k < length (rules_of il name) = slice_get_within (rules_of il name) k rule is in
    let few : length (rules_of il name) ≤ count_of_rules il = few_rules name (rules_in il.defs) in
    omega (arith, within, few)

module _ (il : Il) (modes : KeepModes il) (n m : ℕ) (high : count_of_rules il ≤ n) (tall : count_of_rules il ≤ m) where
  abbrev At : ℕ → Exclusion
  At k = exclusion_to il (has_value il) k

  -- what the `otherwise` of a rule says at one level, it says at the other
  moves : (name : Name) (k : ℕ) (rule : RuleDef) (inputs : List Value) → slice_get (rules_of il name) k ≡ Some rule → have_otherwise rule.premises ≡ true
      → At n (record { relation = name; rule = k; inputs = inputs }) → At m (record { relation = name; rule = k; inputs = inputs })
  moves name k rule inputs is has =
      let early = ((modes_by_name il modes).rules name k rule (record { is_rule = is; has = has })).m5 in
      let below : k < count_of_rules il = rule_below il name k rule is in
      level il name k early (count_of_rules il) k below n m (omega (arith, below, high)) (omega (arith, below, tall)) (omega arith) inputs

  mutual
    valid_moved : {tree : Tree} → Valid il (has_value il) (At n) tree → Valid il (has_value il) (At m) tree
    valid_moved {tree = tree} (d.node name rule is at ok gives proved) =
        let root = root_of il name tree in
        d.node name rule is at ok gives
        (proved_moved root proved (all_move (At n root) (At m root) tree.env rule.premises (moves name tree.rule rule (inputs_of il name tree.values) at)))

    proved_moved : (root : Root) {ps : List Instance} {cs : List Child} → Proved il (has_value il) (At n) root ps cs → AllMove (At n root) (At m root) ps
        → Proved il (has_value il) (At m) root ps cs
    proved_moved root d.done move = d.done
    proved_moved root (d.plain c x rest) move = d.plain c (holds_moved il (At n root) (At m root) x move.0) (proved_moved root rest move.1)
    proved_moved root (d.goal name es below is one valid relation have rest) move =
        d.goal name es below is one (valid_moved valid) relation have (proved_moved root rest move.1)
    proved_moved root (d.each {at = at} how xs body envs inner c is many are all rest) move =
        d.each how xs body envs inner c is many are
        (proved_moved root all (each_moves (At n root) (At m root) envs body (inner_moves (At n root) (At m root) at.1 how xs body is move.0)))
        (proved_moved root rest move.1)

pub law_of_levels : LawOfLevels
law_of_levels il modes n high tree =
    (valid_moved il modes n (count_of_rules il) high (omega arith), valid_moved il modes (count_of_rules il) n (omega arith) high)
