-- Children that stand for premises: of environments that agree, of some premises and others, and that the
-- premises hold for which they stand.
use Rattle.std.proofs.Common.{◌≡◌, refl, subst, ℕ, true, false, List, [], ◌∷◌, ◌++◌}
use Rattle.st_il.specs.declared.definition.Il.{Il}
use Rattle.st_il.specs.declared.expression.IlPrem.{out-IlPrem}
use Rattle.st_il.specs.declared.expression.IlPrem.TheOpen.{IlPrem-F}
use Rattle.st_il.specs.declared.tree.Child.{Child}
use Rattle.st_il.specs.declared.value.Env.{Env}
use Rattle.st_il.specs.Names.{without}
use Rattle.st_semantics.specs.Environments.{AgreeOn}
use Rattle.st_semantics.specs.Iterations.{count_of, index_of, spread, Over}
use Rattle.st_semantics.specs.Evaluation.{tasks}
use Rattle.st_semantics.specs.Variables.{vars_of, prem_vars, cites}
use Rattle.st_semantics.specs.Holding as h
use Rattle.st_semantics.specs.Holding.{Meaning, Instance, each_instance, Holds, HoldAll}
use Rattle.st_semantics.specs.Calls.{has_value, has_value_at, no_goal}
use Rattle.st_semantics.specs.Derivation.{Root, Exclusion, Proved, done, plain, goal, each, derived, excluded}
use Rattle.st_semantics.specs.Chains.{excluded_at}
use Rattle.st_semantics.proofs.Agree.{Local, EnvsAgree, InstancesAgree, HaveValues-agree, Holds-agree, prem_agree, over_agree, spread-agree, each_instance-agree}
use Rattle.st_semantics.proofs.Names.{agree-left, agree-right}
use Rattle.st_semantics.proofs.Holding.{AreElements-map, Holds-map}
use Rattle.st_semantics.proofs.Maps.{law_of_depth_of_trees}
use Rattle.st_search.proofs.Values.{value_up, values_up}

module _ (il : Il) (V : Meaning) (local : Local V) (O : Exclusion) where
  -- they stand for premises in environments that agree on what occurs
  pub Proved-agree : {root : Root} {as' : List Instance} {cs : List Child} → Proved il V O root as' cs → (bs : List Instance) → InstancesAgree as' bs → Proved il V O root bs cs
  Proved-agree done [] g = done
  Proved-agree done (b ∷ bs) g = absurd g
  Proved-agree (plain c x rest) [] g = absurd g
  Proved-agree {root = root} (plain c x rest) (b ∷ bs) g =
      plain (subst (λ z. cites z ≡ false) g.0 c) (subst (λ z. Holds V (O root) no_goal b.0 z) g.0 (Holds-agree V local (O root) no_goal x b.0 g.1)) (Proved-agree rest bs g.2)
  Proved-agree (goal name es below is one valid relation have rest) [] g = absurd g
  Proved-agree (goal {at = at} name es below is one valid relation have rest) (b ∷ bs) g =
      goal name es below (subst (λ z. out-IlPrem z ≡ IlPrem-F.Goal name es) g.0 is) one valid relation
      (HaveValues-agree V local es below.values at.0 b.0 (prem_agree at.1 (IlPrem-F.Goal name es) is at.0 b.0 g.1) have) (Proved-agree rest bs g.2)
  Proved-agree (each how xs body envs inner c is many are all rest) [] g = absurd g
  Proved-agree (each {at = at} how xs body envs inner c is many (cs, have, over) all rest) (b ∷ bs) g =
      let names : AgreeOn (vars_of (count_of how) ++ xs ++ without (index_of how) (prem_vars body)) at.0 b.0 = prem_agree at.1 (IlPrem-F.Each how xs body) is at.0 b.0 g.1 in
      let first : AgreeOn (vars_of (count_of how) ++ xs) at.0 b.0 = agree-left (vars_of (count_of how) ++ xs) (without (index_of how) (prem_vars body)) at.0 b.0 names in
      let others : AgreeOn (without (index_of how) (prem_vars body)) at.0 b.0 = agree-right (vars_of (count_of how) ++ xs) (without (index_of how) (prem_vars body)) at.0 b.0 names in
      let other : (es : List Env) × (spread how xs b.0 cs ≡ Over es) × EnvsAgree (prem_vars body) envs es =
      over_agree (prem_vars body) (spread how xs at.0 cs) (spread how xs b.0 cs) envs
      (spread-agree how (prem_vars body) xs at.0 b.0 cs (agree-right (vars_of (count_of how)) xs at.0 b.0 first) others) over in
      each how xs body other.0 inner (subst (λ z. cites z ≡ true) g.0 c) (subst (λ z. out-IlPrem z ≡ IlPrem-F.Each how xs body) g.0 is) many
      (cs, HaveValues-agree V local (count_of how) cs at.0 b.0 (agree-left (vars_of (count_of how)) xs at.0 b.0 first) have, other.1)
      (Proved-agree all (each_instance other.0 body) (each_instance-agree body envs other.0 other.2)) (Proved-agree rest bs g.2)

module _ (il : Il) (V : Meaning) (O : Exclusion) where
  -- those of some premises and those of others
  pub Proved-append : {root : Root} {as' : List Instance} {cs : List Child} → Proved il V O root as' cs → (bs : List Instance) (ds : List Child) → Proved il V O root bs ds → Proved il V O root (as' ++ bs) (cs ++ ds)
  Proved-append done bs ds g = g
  Proved-append (plain c x rest) bs ds g = plain c x (Proved-append rest bs ds g)
  Proved-append (goal name es below is one valid relation have rest) bs ds g = goal name es below is one valid relation have (Proved-append rest bs ds g)
  Proved-append (each how xs body envs inner c is many are all rest) bs ds g = each how xs body envs inner c is many are all (Proved-append rest bs ds g)

module _ (il : Il) (n : ℕ) where
  -- premises hold for which children stand, where values are taken at n
  pub Proved-holds : {root : Root} {as' : List Instance} {cs : List Child} → Proved il (has_value_at il n) (excluded_at il n) root as' cs → HoldAll (has_value il) (excluded il root) (derived il) as'
  Proved-holds done = h.done
  Proved-holds (plain c x rest) =
      h.more (Holds-map (has_value_at il n) (has_value il) (value_up il n) no_goal (derived il) (λ r vs d. absurd d) (λ both. both.0) x) (Proved-holds rest)
  Proved-holds (goal {at = at} name es below is one valid relation have rest) =
      h.more (h.goal name es below.values is (values_up il n (tasks at.0 es) below.values have)
      (record { tree = below; valid = law_of_depth_of_trees il n below valid; relation_is = relation; values_are = refl })) (Proved-holds rest)
  Proved-holds (each {at = at} how xs body envs inner c is many are all rest) =
      h.more (h.each how xs body envs is (AreElements-map (has_value_at il n) (has_value il) (value_up il n) how xs at.0 envs are) (Proved-holds all)) (Proved-holds rest)
