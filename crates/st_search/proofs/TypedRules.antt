-- What typing says of rules and results of clauses; so a typed language whose numbers and texts are proper can be searched.
use Rattle.std.proofs.Common.{◌≡◌, refl, sym, ◌∙◌, subst, List, [], ◌∷◌, ◌++◌, map, length, true, not, All, Option, Some, inl, inr}
use Rattle.std.specs.Prelude.{Contains}
use Rattle.std.specs.List.{AllByRecursion}
use Rattle.std.proofs.lemmas.List.Elements.{All-from_recursion, recursion_from_All, All-contains}
use Rattle.st_num.specs.declared.rule.RuleId.TheVariants.{M3, M4, M6, M7}
use Rattle.st_il.specs.declared.definition.ClauseDef.{ClauseDef}
use Rattle.st_il.specs.declared.definition.FunDef.{FunDef}
use Rattle.st_il.specs.declared.definition.Il.{Il}
use Rattle.st_il.specs.declared.definition.IlDef.{IlDef}
use Rattle.st_il.specs.declared.definition.IlDef.TheVariants.{Syntax, Var, Relation, Rule, Fun, Clause}
use Rattle.st_il.specs.declared.definition.Listed.{Listed}
use Rattle.st_il.specs.declared.definition.RelationDef.{RelationDef}
use Rattle.st_il.specs.declared.definition.RuleDef.{RuleDef}
use Rattle.st_il.specs.declared.expression.IlExp.{IlExp}
use Rattle.st_il.specs.declared.expression.IlPrem.{IlPrem, out-IlPrem}
use Rattle.st_il.specs.declared.expression.IlPrem.TheOpen.{IlPrem-F}
use Rattle.st_il.specs.declared.expression.Iteration.{Iteration}
use Rattle.st_il.specs.declared.ty.Ty.{Ty}
use Rattle.st_il.specs.declared.type_rule.TypeRule.{TypeRule}
use Rattle.st_il.specs.Occurrences.{occurs_in_prem}
use Rattle.st_il.specs.Names.{Name, has_name, all_known, flattened}
use Rattle.st_il.specs.Definitions.{syntaxes, relation_named, rules_in, clauses_in}
use Rattle.st_semantics.specs.Directions.{mask}
use Rattle.st_semantics.specs.Environments.{listed_as, listed_names}
use Rattle.st_semantics.specs.Formed.{PremIsFormed}
use Rattle.st_semantics.specs.Iterations.{count_of, index_of, kind_of}
use Rattle.st_semantics.specs.Kinds.{NamesOccurring, IsKinded, ClausesAreKinded}
use Rattle.st_semantics.specs.Scopes.{listed_inside}
use Rattle.st_semantics.specs.Typing.{ExpHasType, ExpsHaveTypes, function_named, ResultsAreTyped, ConclusionsAreTyped}
use Rattle.st_semantics.specs.Variables.{vars_of, prems_vars, has_otherwise}
use Rattle.st_semantics.specs.Breaches.{KeepModes}
use Rattle.st_semantics.proofs.Modes.{clauses_keep}
use Rattle.st_semantics.proofs.Names.{Within, within-left, within-right, within-both, or-cases, and-both}
use Rattle.st_semantics.proofs.Stability.{law_of_depths}
use Rattle.st_ilcheck.specs.Definitions.{RuleBreaks, ClauseBreaks}
use Rattle.st_ilcheck.specs.Naming.{names_exactly}
use Rattle.st_ilcheck.specs.Parts.{standing}
use Rattle.st_ilcheck.specs.Premises as premise
use Rattle.st_ilcheck.specs.Premises.{PremBreaks, PremsBreak, IsJudgementOf}
use Rattle.st_ilcheck.specs.Typed.{Typed, AllKeep, Breaks}
use Rattle.st_ilcheck.specs.Variables.{Occurrence, occurrences, occurrences_in, prem_occurrences, all_occurrences, inside, names_of, IsListed, AreListed}
use Rattle.st_ilcheck.proofs.Each.{AreEach-length}
use Rattle.st_order.specs.declared.relation_modes.Modes.{Modes}
use Rattle.st_order.specs.Modes.{HasFew, AreModes}
use Rattle.st_algo.specs.declared.algorithm.Algos.{Algos}
use Rattle.st_algo.specs.Lowered.{AreLowered}
use Rattle.st_eval.specs.CanBeMet.{CountsAreApart}
use Rattle.st_eval.proofs.IsFormedLemmas.{Told-holds, none-left, none-right, AreFormed-standing}
use Rattle.st_eval.proofs.NamesKept.{PremKeepsNames, AllKeepNames, AllKeepNames-occurs, AllKeepNames-vars, AllKeepNames-typed, PremKeepsNames-occurs, PremKeepsNames-typed, names_of-append, Each-split}
use Rattle.st_eval.proofs.Occurring.{prem_occurrences-Goal, prem_occurrences-Each}
use Rattle.st_eval.proofs.Standing.{Each-weaken, body_listed, own_names, names_listed}
use Rattle.st_eval.proofs.Trying.{known_all}
use Rattle.st_eval.proofs.TypedClauses.{PremTyped, prems_typed, prems_listed, prems_named, once_found, occurs_somewhere, IsEvaluable-typed}
use Rattle.st_search.specs.Proper as properly
use Rattle.st_search.specs.Proper.{AreProperExps, IsProperPrem, IsProperRule, IsProperClause, IsProper}
use Rattle.st_search.specs.Searchable as goals
use Rattle.st_search.specs.Searchable.{GoalsAreTyped, CanBeRun, IsSearchable}
use Rattle.st_search.proofs.DeclaredRelations.{HasLongMasks, masks_long, AreProper, proper_parts, fields_proper}
use Rattle.st_search.proofs.TypedExps.{AreTexts, AllHave, AllHave-length, has_as, have_as, exp_has, exps_have}

-- ---- goals of premises

goal_proper : (p : IlPrem) (relation : Name) (es : List IlExp) → out-IlPrem p ≡ IlPrem-F.Goal relation es → IsProperPrem p → AreProperExps es
goal_proper p relation es is (properly.condition e k h) = absurd (cc)
goal_proper p relation es is (properly.goal other gs k h) = let same : gs ≡ es = cc in subst AreProperExps same h
goal_proper p relation es is (properly.otherwise k) = absurd (cc)
goal_proper p relation es is (properly.each how xs body k h b) = absurd (cc)

body_proper : (p : IlPrem) (how : Iteration) (xs : List Name) (body : IlPrem) → out-IlPrem p ≡ IlPrem-F.Each how xs body → IsProperPrem p → IsProperPrem body
body_proper p how xs body is (properly.condition e k h) = absurd (cc)
body_proper p how xs body is (properly.goal other gs k h) = absurd (cc)
body_proper p how xs body is (properly.otherwise k) = absurd (cc)
body_proper p how xs body is (properly.each way names inner k h b) = let same : inner ≡ body = cc in subst IsProperPrem same b

-- what is repeated, inside of the iteration
inner_listed : (ls : List Listed) (how : Iteration) (xs : List Name) (body : IlPrem) → names_exactly how xs ls (λ x. occurs_in_prem x body) ≡ true → PremKeepsNames (listed_inside how xs ls) body
    → AllByRecursion (IsListed ls) (inside (index_of how) (kind_of how) (prem_occurrences body)) → AllByRecursion (IsListed (listed_inside how xs ls)) (prem_occurrences body)
inner_listed ls how xs body exact keeps listed =
    body_listed how xs ls (λ z. occurs_in_prem z body) exact (prem_occurrences body)
    (Each-weaken (λ (o : Occurrence). has_name (names_of (prem_occurrences body)) o.0 ≡ true) (λ (o : Occurrence). occurs_in_prem o.0 body ≡ true) (prem_occurrences body) (λ o i. PremKeepsNames-occurs keeps o.0 ∙ i) (own_names (prem_occurrences body))) listed

module _ (il : Il) (texts : AreTexts il) (long : HasLongMasks il) where
  -- the parts of a judgement have the types of its relation's holes, one each
  judged : (ls : List Listed) (relation : Name) (es : List IlExp) (os : List (Option Ty)) → AllHave il (standing ls es) os → (j : IsJudgementOf il relation os) → ExpsHaveTypes il ls es j.declared.holes × (length es ≡ length (mask il relation))
  judged ls relation es os have j = (
    have_as il ls es os j.declared.holes have j.typed,
    AllHave-length il ls es os have ∙ (sym (AreEach-length _ j.declared.holes os j.typed) ∙ sym (long relation j.declared j.found)),
  )

  goals_typed : {ls : List Listed} {p : IlPrem} {bs : List TypeRule} → PremBreaks il ls p bs → bs ≡ [] → AllByRecursion (IsListed ls) (prem_occurrences p) → IsProperPrem p → GoalsAreTyped il ls p
  goals_typed (premise.PremBreaks.condition e o inside' here is h t whole) clean listed p = goals.GoalsAreTyped.condition e is
  goals_typed {ls = ls} {p = p} (premise.PremBreaks.goal relation es os inside' here is h t whole) clean listed q =
      let j = Told-holds _ _ here t (none-right inside' here _ whole clean) in
      let have = exps_have il texts ls es h (none-left inside' here _ whole clean) (subst (AllByRecursion (IsListed ls)) (prem_occurrences-Goal p relation es is) listed) (goal_proper p relation es is q) in
      let both = judged ls relation es os have j in
      goals.GoalsAreTyped.goal relation es is (record { declared = j.declared; found = j.found; types = both.0; long = both.1 })
  goals_typed (premise.PremBreaks.otherwise is whole) clean listed p = goals.GoalsAreTyped.otherwise is
  goals_typed {ls = ls} {p = p} (premise.PremBreaks.each how xs body os counted here named inside' is hs t n h whole) clean listed q =
      let rest = none-right counted (here ++ (named ++ inside')) _ whole clean in
      let last = none-right here (named ++ inside') _ refl rest in
      let inner = none-right named inside' _ refl last in
      let exact = (and-both (names_exactly how xs ls (λ x. occurs_in_prem x body)) (not (has_otherwise body)) (Told-holds _ _ named n (none-left named inside' _ refl last))).0 in
      let parts = Each-split (IsListed ls) (occurrences_in (count_of how)) (inside (index_of how) (kind_of how) (prem_occurrences body)) (subst (AllByRecursion (IsListed ls)) (prem_occurrences-Each p how xs body is) listed) in
      goals.GoalsAreTyped.each how xs body is (goals_typed h inner (inner_listed ls how xs body exact (PremKeepsNames-typed il h inner) parts.1) (body_proper p how xs body is q))

  all_goals : {ls : List Listed} {ps : List IlPrem} {bs : List TypeRule} → PremsBreak il ls ps bs → bs ≡ [] → AllByRecursion (IsListed ls) (flattened (map prem_occurrences ps)) → AllByRecursion IsProperPrem ps → AllByRecursion (GoalsAreTyped il ls) ps
  all_goals premise.PremsBreak.none clean listed p = tt
  all_goals {ls = ls} (premise.PremsBreak.more {p = p} {ps = ps} first rest b bs whole) clean listed q =
      let parts = Each-split (IsListed ls) (prem_occurrences p) (flattened (map prem_occurrences ps)) listed in
      (goals_typed b (none-left first rest _ whole clean) parts.0 q.0, all_goals bs (none-right first rest _ whole clean) parts.1 q.1)

-- ---- rules

-- what typing says of a rule
record RuleTyped (il : Il) (r : RuleDef) : Type 0 where
  variables : AreListed r.variables (all_occurrences r.conclusion r.premises)
  types : RuleBreaks il r []

module _ (il : Il) (texts : AreTexts il) (long : HasLongMasks il) (r : RuleDef) (typed : RuleTyped il r) (proper : IsProperRule r) where
  abbrev in_premises : List Occurrence
  in_premises = flattened (map prem_occurrences r.premises)

  -- what is broken in each part, which is nothing
  abbrev b : RuleBreaks il r []
  b = typed.types

  clean_conclusion : b.inside ≡ []
  clean_conclusion = none-left b.inside (b.here ++ b.premises) [] b.whole refl

  behind_conclusion : b.here ++ b.premises ≡ []
  behind_conclusion = none-right b.inside (b.here ++ b.premises) [] b.whole refl

  clean_premises : b.premises ≡ []
  clean_premises = none-right b.here b.premises _ refl behind_conclusion

  listed_parts : AllByRecursion (IsListed r.variables) (occurrences_in r.conclusion) × AllByRecursion (IsListed r.variables) in_premises
  listed_parts = Each-split (IsListed r.variables) (occurrences_in r.conclusion) in_premises (recursion_from_All (IsListed r.variables) (occurrences_in r.conclusion ++ in_premises) (typed.variables).listed)

  conclusion_keeps : AllKeepNames r.variables r.conclusion
  conclusion_keeps = AllKeepNames-typed il r.variables r.conclusion b.conclusion clean_conclusion

  premises_typed : AllByRecursion (PremTyped il r.variables) r.premises
  premises_typed = prems_typed il b.met clean_premises listed_parts.1

  conclusion_listed : Within (vars_of r.conclusion) (listed_names r.variables)
  conclusion_listed x i = names_listed r.variables (occurrences_in r.conclusion) listed_parts.0 x (sym (AllKeepNames-occurs conclusion_keeps x) ∙ (sym (AllKeepNames-vars conclusion_keeps x) ∙ i))

  -- a name that occurs is a variable of the conclusion or the premises
  all_named : Within (names_of (all_occurrences r.conclusion r.premises)) (vars_of r.conclusion ++ prems_vars r.premises)
  all_named x i = elim (or-cases (has_name (names_of (occurrences_in r.conclusion)) x) (has_name (names_of in_premises) x) (sym (names_of-append (occurrences_in r.conclusion) in_premises x) ∙ i)) [
    | inl k ↦ within-left (vars_of r.conclusion) (prems_vars r.premises) x (AllKeepNames-vars conclusion_keeps x ∙ (AllKeepNames-occurs conclusion_keeps x ∙ k))
    | inr k ↦ within-right (vars_of r.conclusion) (prems_vars r.premises) x (prems_named il r.variables r.premises premises_typed x k)
  ]

  lists_occurring : all_known (vars_of r.conclusion ++ prems_vars r.premises) (listed_names r.variables) ≡ true
  lists_occurring = known_all (vars_of r.conclusion ++ prems_vars r.premises) (listed_names r.variables) (λ x i.
      let found = occurs_somewhere (all_occurrences r.conclusion r.premises) r.variables (recursion_from_All (λ (l : Listed). Contains (all_occurrences r.conclusion r.premises) (l.name, l.dim)) r.variables (typed.variables).occur) x i in
      all_named x (All-contains (λ (o : Occurrence). has_name (names_of (all_occurrences r.conclusion r.premises)) o.0 ≡ true) (all_occurrences r.conclusion r.premises) (x, found.0)
      (All-from_recursion (λ (o : Occurrence). has_name (names_of (all_occurrences r.conclusion r.premises)) o.0 ≡ true) (all_occurrences r.conclusion r.premises) (own_names (all_occurrences r.conclusion r.premises))) found.1))

  concluded : IsJudgementOf il r.relation b.os
  concluded = Told-holds _ _ b.here b.concluded (none-left b.here b.premises _ refl behind_conclusion)

  conclusion_judged : ExpsHaveTypes il r.variables r.conclusion concluded.declared.holes × (length r.conclusion ≡ length (mask il r.relation))
  conclusion_judged = judged il texts long r.variables r.relation r.conclusion b.os (exps_have il texts r.variables r.conclusion b.conclusion clean_conclusion listed_parts.0 proper.0) concluded

  of_premises : (P : IlPrem → Type 0) → ((p : IlPrem) → PremTyped il r.variables p → P p) → All P r.premises
  of_premises P h = All-from_recursion P r.premises (Each-weaken (PremTyped il r.variables) P r.premises h premises_typed)

  can_be_run : CanBeRun il r
  can_be_run = record {
    formed = (AreFormed-standing il r.variables r.conclusion b.conclusion clean_conclusion, of_premises (PremIsFormed (syntaxes il)) (λ p h. h.formed));
    once = All-from_recursion (λ (l : Listed). listed_as l.name r.variables ≡ Some l) r.variables (once_found r.variables (typed.variables).once);
    listed = known_all (listed_names r.variables) (vars_of r.conclusion ++ prems_vars r.premises)
        (within-both (vars_of r.conclusion) (prems_vars r.premises) (listed_names r.variables) conclusion_listed (prems_listed il r.variables r.premises premises_typed));
    occurring = lists_occurring;
    names_occurring = of_premises NamesOccurring (λ p h. (h.stands).occurring);
    kinded = of_premises (IsKinded r.variables) (λ p h. (h.stands).kinded);
    apart = of_premises CountsAreApart (λ p h. (h.stands).apart);
    goals = All-from_recursion (GoalsAreTyped il r.variables) r.premises (all_goals il texts long b.met clean_premises listed_parts.1 proper.1);
    long = conclusion_judged.1;
  }

  conclusion_typed : (declared : RelationDef) → relation_named il r.relation ≡ Some declared → ExpsHaveTypes il r.variables r.conclusion declared.holes
  conclusion_typed declared found =
      let both : Some concluded.declared ≡ Some declared = sym concluded.found ∙ found in
      let same : concluded.declared ≡ declared = cc in
      subst (λ (z : RelationDef). ExpsHaveTypes il r.variables r.conclusion z.holes) same conclusion_judged.0

-- ---- clauses

-- what typing says of a clause
record ClauseTyped (il : Il) (c : ClauseDef) : Type 0 where
  variables : AreListed c.variables (all_occurrences (c.args ++ c.result ∷ []) c.premises)
  types : ClauseBreaks il c []

last_listed : (ls : List Listed) (es : List IlExp) (g : IlExp) → AllByRecursion (IsListed ls) (occurrences_in (es ++ g ∷ [])) → AllByRecursion (IsListed ls) (occurrences g)
last_listed ls [] g h = (Each-split (IsListed ls) (occurrences g) [] h).0
last_listed ls (e ∷ es) g h = last_listed ls es g (Each-split (IsListed ls) (occurrences e) (occurrences_in (es ++ g ∷ [])) h).1

module _ (il : Il) (texts : AreTexts il) (c : ClauseDef) (typed : ClauseTyped il c) (proper : IsProperClause c) where
  abbrev d : ClauseBreaks il c []
  d = typed.types

  behind_arguments : d.in_result ++ (d.by_result ++ d.premises) ≡ []
  behind_arguments = none-right d.by_arguments (d.in_result ++ (d.by_result ++ d.premises)) _ refl (none-right d.in_arguments (d.by_arguments ++ (d.in_result ++ (d.by_result ++ d.premises))) [] d.whole refl)

  behind_result : d.by_result ++ d.premises ≡ []
  behind_result = none-right d.in_result (d.by_result ++ d.premises) _ refl behind_arguments

  listed_clause : AllByRecursion (IsListed c.variables) (occurrences_in (c.args ++ c.result ∷ [])) × AllByRecursion (IsListed c.variables) (flattened (map prem_occurrences c.premises))
  listed_clause = Each-split (IsListed c.variables) (occurrences_in (c.args ++ c.result ∷ [])) (flattened (map prem_occurrences c.premises))
      (recursion_from_All (IsListed c.variables) (occurrences_in (c.args ++ c.result ∷ []) ++ flattened (map prem_occurrences c.premises)) (typed.variables).listed)

  premises_kinded : All (IsKinded c.variables) c.premises
  premises_kinded = All-from_recursion (IsKinded c.variables) c.premises
      (Each-weaken (PremTyped il c.variables) (IsKinded c.variables) c.premises (λ p h. (h.stands).kinded) (prems_typed il d.met (none-right d.by_result d.premises _ refl behind_result) listed_clause.1))

  result_typed : (declared : FunDef) → function_named il c.fun ≡ Some declared → ExpHasType il c.variables c.result declared.result
  result_typed declared found =
      let given = Told-holds _ _ d.by_result d.given (none-left d.by_result d.premises _ refl behind_result) in
      let both : Some given.declared ≡ Some declared = sym given.found ∙ found in
      let same : given.declared ≡ declared = cc in
      let have = exp_has il texts d.result (none-left d.in_result (d.by_result ++ d.premises) _ refl behind_arguments) (last_listed c.variables c.args c.result listed_clause.0) proper.1 in
      subst (λ (z : FunDef). ExpHasType il c.variables c.result z.result) same (has_as il c.variables c.result d.o given.declared.result have given.typed)

-- ---- languages

rule_typed : (il : Il) (before : List IlDef) (r : RuleDef) → Breaks il before (Rule r) [] → RuleTyped il r
rule_typed il before r h =
    let behind = none-right h.by_names (h.by_variables ++ (h.by_indices ++ h.by_types)) [] h.whole refl in
    let last = none-right h.by_variables (h.by_indices ++ h.by_types) _ refl behind in
    record {
      variables = Told-holds _ _ h.by_variables h.variables (none-left h.by_variables (h.by_indices ++ h.by_types) _ refl behind);
      types = subst (RuleBreaks il r) (none-right h.by_indices h.by_types _ refl last) h.types;
    }

clause_typed : (il : Il) (before : List IlDef) (c : ClauseDef) → Breaks il before (Clause c) [] → ClauseTyped il c
clause_typed il before c h =
    let behind = none-right h.by_names (h.by_variables ++ (h.by_indices ++ h.by_types)) [] h.whole refl in
    let last = none-right h.by_variables (h.by_indices ++ h.by_types) _ refl behind in
    record {
      variables = Told-holds _ _ h.by_variables h.variables (none-left h.by_variables (h.by_indices ++ h.by_types) _ refl behind);
      types = subst (ClauseBreaks il c) (none-right h.by_indices h.by_types _ refl last) h.types;
    }

rules_typed : (il : Il) (before ds : List IlDef) → AllKeep il before ds → AllByRecursion (RuleTyped il) (rules_in ds) × AllByRecursion (ClauseTyped il) (clauses_in ds)
rules_typed il before [] h = (tt, tt)
rules_typed il before (Syntax s ∷ ds) h = rules_typed il (before ++ Syntax s ∷ []) ds h.1
rules_typed il before (Var x t ∷ ds) h = rules_typed il (before ++ Var x t ∷ []) ds h.1
rules_typed il before (Relation r ∷ ds) h = rules_typed il (before ++ Relation r ∷ []) ds h.1
rules_typed il before (Rule r ∷ ds) h = let rest = rules_typed il (before ++ Rule r ∷ []) ds h.1 in ((rule_typed il before r h.0, rest.0), rest.1)
rules_typed il before (Fun f ∷ ds) h = rules_typed il (before ++ Fun f ∷ []) ds h.1
rules_typed il before (Clause c ∷ ds) h = let rest = rules_typed il (before ++ Clause c ∷ []) ds h.1 in (rest.0, (clause_typed il before c h.0, rest.1))

-- what follows of each member from two facts
of_both : {X : Type 0} (P Q R : X → Type 0) (xs : List X) → ((x : X) → P x → Q x → R x) → AllByRecursion P xs → AllByRecursion Q xs → All R xs
of_both {X} P Q R xs h p q = All-from_recursion R xs (by xs p q)
  where
    by : (ys : List X) → AllByRecursion P ys → AllByRecursion Q ys → AllByRecursion R ys
    by [] p q = tt
    by (y ∷ ys) p q = (h y p.0 q.0, by ys p.1 q.1)

module _ (il : Il) (typed : Typed il) (proper : IsProper il) where
  abbrev parts : AreProper il.defs
  parts = proper_parts il.defs proper

  rules_run : All (CanBeRun il) (rules_in il.defs)
  rules_run = of_both (RuleTyped il) IsProperRule (CanBeRun il) (rules_in il.defs) (can_be_run il (fields_proper il proper) (masks_long il typed)) (rules_typed il [] il.defs typed).0 parts.rules

  pub results_typed : ResultsAreTyped il
  results_typed = of_both (ClauseTyped il) IsProperClause (λ (c : ClauseDef). (declared : FunDef) → function_named il c.fun ≡ Some declared → ExpHasType il c.variables c.result declared.result) (clauses_in il.defs)
      (result_typed il (fields_proper il proper)) (rules_typed il [] il.defs typed).1 parts.clauses

  pub conclusions_typed : ConclusionsAreTyped il
  conclusions_typed = of_both (RuleTyped il) IsProperRule (λ (r : RuleDef). (declared : RelationDef) → relation_named il r.relation ≡ Some declared → ExpsHaveTypes il r.variables r.conclusion declared.holes) (rules_in il.defs)
      (conclusion_typed il (fields_proper il proper) (masks_long il typed)) (rules_typed il [] il.defs typed).0 parts.rules

  clauses_kinded : ClausesAreKinded il
  clauses_kinded = of_both (ClauseTyped il) IsProperClause (λ (c : ClauseDef). All (IsKinded c.variables) c.premises) (clauses_in il.defs) (premises_kinded il (fields_proper il proper)) (rules_typed il [] il.defs typed).1 parts.clauses

  pub IsSearchable-typed : KeepModes il → HasFew il → (modes : Modes) (algos : Algos) → AreModes il modes → AreLowered il modes algos → IsSearchable il (syntaxes il) algos
  IsSearchable-typed keep few modes algos are_modes lowered = record {
    evaluable = IsEvaluable-typed il typed (clauses_keep il (M3 ∷ M4 ∷ M6 ∷ M7 ∷ []) keep);
    stable = (law_of_depths il (clauses_keep il (M3 ∷ M4 ∷ []) keep) clauses_kinded).0;
    results = results_typed;
    few = few;
    rules = rules_run;
    modes = modes;
    are_modes = are_modes;
    are_algorithms = lowered;
  }
