-- A clause that breaks no rule on types and keeps the rules M3, M4, M6 and M7 can be tried; so a
-- language of such clauses can be evaluated.
use Rattle.std.proofs.Common.{◌≡◌, refl, sym, ap, ◌∙◌, subst, List, [], ◌∷◌, ◌++◌, map, Bool, true, false, ◌&&◌, not, Some, inl, inr, bytes_eq, append_assoc, append-nil, All}
use Rattle.std.specs.Prelude.{Contains, if◌then◌else◌}
use Rattle.std.specs.List.{AllByRecursion, list_all}
use Rattle.std.proofs.lemmas.List.Elements.{All-from_recursion, recursion_from_All, All-contains, All-cons, All-nil, All-head, All-tail}
use Rattle.st_num.specs.declared.dim.Kind.{Kind}
use Rattle.st_num.specs.declared.rule.RuleId.{RuleId}
use Rattle.st_num.specs.declared.rule.RuleId.TheVariants.{M3, M4, M6, M7}
use Rattle.st_il.specs.declared.definition.ClauseDef.{ClauseDef}
use Rattle.st_il.specs.declared.definition.Il.{Il}
use Rattle.st_il.specs.declared.definition.IlDef.{IlDef}
use Rattle.st_il.specs.declared.definition.IlDef.TheVariants.{Syntax, Var, Relation, Rule, Fun, Clause}
use Rattle.st_il.specs.declared.definition.Listed.{Listed}
use Rattle.st_il.specs.declared.expression.IlExp.{IlExp}
use Rattle.st_il.specs.declared.expression.IlPrem.{IlPrem}
use Rattle.st_il.specs.declared.type_rule.TypeRule.{TypeRule}
use Rattle.st_il.specs.Names.{Name, has_name, all_known, flattened}
use Rattle.st_il.specs.Definitions.{syntaxes, clauses_in}
use Rattle.st_semantics.specs.Environments.{listed_as, listed_names}
use Rattle.st_semantics.specs.Executable.{class_of}
use Rattle.st_semantics.specs.Formed.{PremIsFormed}
use Rattle.st_semantics.specs.Kinds.{NamesOccurring, ListsOccurring, ClausesNameOccurring}
use Rattle.st_semantics.specs.Laws.{CallsAreSingle}
use Rattle.st_semantics.specs.Variables.{vars, vars_of, prem_vars, prems_vars, cites}
use Rattle.st_semantics.specs.Orders.{run_on}
use Rattle.st_semantics.specs.OpenParts.{is_doubly_open}
use Rattle.st_semantics.specs.Patterns.{is_pattern, bound_by}
use Rattle.st_semantics.specs.ModeRules.{keeps_m3, keeps_m4, keeps_m7, bound_in_clause, has_one_open, patterns_have_one_open}
use Rattle.st_semantics.specs.Breaches.{ClauseKeeps, ClausesKeep}
use Rattle.st_semantics.specs.Breaches as breach
use Rattle.st_semantics.proofs.CanRun.{run_split}
use Rattle.st_semantics.proofs.Choices.{law_of_choice}
use Rattle.st_semantics.proofs.Names.{Within, within-left, within-right, within-cases, within-both, and-both, or-cases, bytes-path, bytes-same, true_false, vars_of-append}
use Rattle.st_ilcheck.specs.Definitions.{ClauseBreaks}
use Rattle.st_ilcheck.specs.Naming.{is_once}
use Rattle.st_ilcheck.specs.Premises as premise
use Rattle.st_ilcheck.specs.Premises.{PremsBreak}
use Rattle.st_ilcheck.specs.Typed.{Typed, AllKeep, Breaks}
use Rattle.st_ilcheck.specs.Variables.{Occurrence, occurrences, occurrences_in, prem_occurrences, all_occurrences, names_of, IsListed, AreListed}
use Rattle.st_eval.specs.CanBeMet.{CanBeMet}
use Rattle.st_eval.specs.Steps.{IsRunnable}
use Rattle.st_eval.specs.Evaluable.{CanBeTried, IsEvaluable}
use Rattle.st_eval.proofs.CanMeet.{law_of_meeting}
use Rattle.st_eval.proofs.IsFormedLemmas.{Told-holds, none-left, none-right, IsFormed-typed, AreFormed-standing, PremIsFormed-typed}
use Rattle.st_eval.proofs.NamesKept.{KeepsNames, AllKeepNames, PremKeepsNames, none, more, AllKeepNames-occurs, AllKeepNames-vars, PremKeepsNames-occurs, PremKeepsNames-vars, KeepsNames-typed, AllKeepNames-typed, PremKeepsNames-typed, names_of-append, Each-split}
use Rattle.st_eval.proofs.Standing.{Each-weaken, Stands, Stands-kept, PremKeepsNames-listed, own_names, names_listed, listed_as-named}
use Rattle.st_eval.proofs.Trying.{known_all}

-- ---- premises

-- what typing says of a premise
pub record PremTyped (il : Il) (ls : List Listed) (p : IlPrem) : Type 0 where
  pub formed : PremIsFormed (syntaxes il) p
  pub keeps : PremKeepsNames ls p
  pub listed : AllByRecursion (IsListed ls) (prem_occurrences p)
  pub stands : Stands ls p

pub prems_typed : (il : Il) {ls : List Listed} {ps : List IlPrem} {bs : List TypeRule} → PremsBreak il ls ps bs → bs ≡ [] → AllByRecursion (IsListed ls) (flattened (map prem_occurrences ps)) → AllByRecursion (PremTyped il ls) ps
prems_typed il premise.PremsBreak.none clean h = tt
prems_typed il {ls = ls} (premise.PremsBreak.more {p = p} {ps = ps} first rest b bs whole) clean h =
    let parts = Each-split (IsListed ls) (prem_occurrences p) (flattened (map prem_occurrences ps)) h in
    let keeps = PremKeepsNames-typed il b (none-left first rest _ whole clean) in (
      record { formed = PremIsFormed-typed il b (none-left first rest _ whole clean); keeps = keeps; listed = parts.0; stands = Stands-kept keeps parts.0 },
      prems_typed il bs (none-right first rest _ whole clean) parts.1,
    )

pub prems_listed : (il : Il) (ls : List Listed) (ps : List IlPrem) → AllByRecursion (PremTyped il ls) ps → Within (prems_vars ps) (listed_names ls)
prems_listed il ls [] h x i = absurd (cc)
prems_listed il ls (p ∷ ps) h x i = elim (within-cases (prem_vars p) (prems_vars ps) x i) [
  | inl k ↦ PremKeepsNames-listed (h.0).keeps (h.0).listed x k
  | inr k ↦ prems_listed il ls ps h.1 x k
]

-- a name that occurs in premises is a variable of them
pub prems_named : (il : Il) (ls : List Listed) (ps : List IlPrem) → AllByRecursion (PremTyped il ls) ps → Within (names_of (flattened (map prem_occurrences ps))) (prems_vars ps)
prems_named il ls [] h x i = absurd (cc)
prems_named il ls (p ∷ ps) h x i =
    elim (or-cases (has_name (names_of (prem_occurrences p)) x) (has_name (names_of (flattened (map prem_occurrences ps))) x) (sym (names_of-append (prem_occurrences p) (flattened (map prem_occurrences ps)) x) ∙ i)) [
      | inl k ↦ within-left (prem_vars p) (prems_vars ps) x (PremKeepsNames-vars (h.0).keeps x ∙ (PremKeepsNames-occurs (h.0).keeps x ∙ k))
      | inr k ↦ within-right (prem_vars p) (prems_vars ps) x (prems_named il ls ps h.1 x k)
    ]

-- ---- lists of variables

pub once_found : (ls : List Listed) → is_once (listed_names ls) ≡ true → AllByRecursion (λ (l : Listed). listed_as l.name ls ≡ Some l) ls
once_found [] h = tt
once_found (m ∷ ls) h =
    let both = and-both (not (has_name (listed_names ls) m.name)) (is_once (listed_names ls)) h in (
      ap (λ b. if b then Some m else listed_as m.name ls) (bytes-same m.name),
      Each-weaken (λ (l : Listed). listed_as l.name ls ≡ Some l) (λ (l : Listed). listed_as l.name (m ∷ ls) ≡ Some l) ls (later both.0) (once_found ls both.1),
    )
  where
    untrue : (b : Bool) → not b ≡ true → b ≡ true → ⊥
    untrue true n i = true_false (sym n)
    untrue false n i = true_false (sym i)

    later : not (has_name (listed_names ls) m.name) ≡ true → (l : Listed) → listed_as l.name ls ≡ Some l → listed_as l.name (m ∷ ls) ≡ Some l
    later n l e = by (bytes_eq l.name m.name) refl
      where
        by : (b : Bool) → bytes_eq l.name m.name ≡ b → (if b then Some m else listed_as l.name ls) ≡ Some l
        by true f = absurd (untrue (has_name (listed_names ls) m.name) n (subst (λ z. has_name (listed_names ls) z ≡ true) (bytes-path l.name m.name f) (listed_as-named ls l.name l e)))
        by false f = e

-- a variable that is listed occurs
pub occurs_somewhere : (os : List Occurrence) (ls : List Listed) → AllByRecursion (λ (l : Listed). Contains os (l.name, l.dim)) ls → (x : Name) → has_name (listed_names ls) x ≡ true → (ks : List Kind) × Contains os (x, ks)
occurs_somewhere os [] h x i = absurd (cc)
occurs_somewhere os (l ∷ ls) h x i = elim (or-cases (bytes_eq x l.name) (has_name (listed_names ls) x) i) [
  | inl e ↦ (l.dim, subst (λ z. Contains os (z, l.dim)) (sym (bytes-path x l.name e)) h.0)
  | inr e ↦ occurs_somewhere os ls h.1 x e
]

occurrences_in-append : (es gs : List IlExp) → occurrences_in (es ++ gs) ≡ occurrences_in es ++ occurrences_in gs
occurrences_in-append [] gs = refl
occurrences_in-append (e ∷ es) gs = ap (λ z. occurrences e ++ z) (occurrences_in-append es gs) ∙ sym (append_assoc (occurrences e) (occurrences_in es) (occurrences_in gs))

AllKeepNames-append : {ls : List Listed} {es : List IlExp} → AllKeepNames ls es → (gs : List IlExp) → AllKeepNames ls gs → AllKeepNames ls (es ++ gs)
AllKeepNames-append none gs k = k
AllKeepNames-append (more h hs) gs k = more h (AllKeepNames-append hs gs k)

-- ---- clauses

-- what typing says of a clause
record ClauseTyped (il : Il) (c : ClauseDef) : Type 0 where
  variables : AreListed c.variables (all_occurrences (c.args ++ c.result ∷ []) c.premises)
  types : ClauseBreaks il c []

not_false : (b : Bool) → (b ≡ false → ⊥) → b ≡ true
not_false true n = refl
not_false false n = absurd (n refl)

-- the rules on clauses, one by one
record ClauseRuns (il : Il) (c : ClauseDef) : Type 0 where
  some : ClauseKeeps il (M3 ∷ M4 ∷ M6 ∷ []) c
  m3 : keeps_m3 il c ≡ true
  m4 : keeps_m4 il c ≡ true
  m7 : keeps_m7 c ≡ true

-- the clause does not break the rule
abbrev Kept : Il → ClauseDef → RuleId → Type 0
Kept il c m = breach.ClauseBreaks il c m → ⊥

clause_runs : (il : Il) (c : ClauseDef) → ClauseKeeps il (M3 ∷ M4 ∷ M6 ∷ M7 ∷ []) c → ClauseRuns il c
clause_runs il c h =
    let h4 = All-tail (Kept il c) M3 (M4 ∷ M6 ∷ M7 ∷ []) h in
    let h6 = All-tail (Kept il c) M4 (M6 ∷ M7 ∷ []) h4 in
    let h7 = All-tail (Kept il c) M6 (M7 ∷ []) h6 in
    let k3 = All-head (Kept il c) M3 (M4 ∷ M6 ∷ M7 ∷ []) h in
    let k4 = All-head (Kept il c) M4 (M6 ∷ M7 ∷ []) h4 in
    let k6 = All-head (Kept il c) M6 (M7 ∷ []) h6 in
    record {
      some = All-cons (Kept il c) M3 (M4 ∷ M6 ∷ []) k3 (All-cons (Kept il c) M4 (M6 ∷ []) k4 (All-cons (Kept il c) M6 [] k6 (All-nil (Kept il c))));
      m3 = not_false (keeps_m3 il c) k3;
      m4 = not_false (keeps_m4 il c) k4;
      m7 = not_false (keeps_m7 c) (All-head (Kept il c) M7 [] h7);
    }

one_open_split : (il : Il) (before : List IlPrem) (bound : List Name) (p : IlPrem) (after : List IlPrem) → patterns_have_one_open il bound (before ++ p ∷ after) ≡ true → has_one_open (class_of il (bound ++ prems_vars before) p) ≡ true
one_open_split il [] bound p after h = subst (λ z. has_one_open (class_of il z p) ≡ true) (sym (append-nil bound)) (and-both (has_one_open (class_of il bound p)) (patterns_have_one_open il (bound ++ prem_vars p) after) h).0
one_open_split il (q ∷ before) bound p after h =
    subst (λ z. has_one_open (class_of il z p) ≡ true) (append_assoc bound (prem_vars q) (prems_vars before))
    (one_open_split il before (bound ++ prem_vars q) p after (and-both (has_one_open (class_of il bound q)) (patterns_have_one_open il (bound ++ prem_vars q) (before ++ p ∷ after)) h).1)

not_cited : (before : List IlPrem) (p : IlPrem) (after : List IlPrem) → list_all (λ (q : IlPrem). not (cites q)) (before ++ p ∷ after) ≡ true → cites p ≡ false
not_cited [] p after h = untrue (cites p) (and-both (not (cites p)) _ h).0
  where
    untrue : (a : Bool) → not a ≡ true → a ≡ false
    untrue true e = absurd (cc)
    untrue false e = refl
not_cited (q ∷ before) p after h = not_cited before p after (and-both (not (cites q)) _ h).1

module _ (il : Il) (c : ClauseDef) (typed : ClauseTyped il c) (runs : ClauseRuns il c) where
  abbrev Args : List IlExp
  Args = c.args ++ c.result ∷ []

  abbrev in_premises : List Occurrence
  in_premises = flattened (map prem_occurrences c.premises)

  -- what is broken in each part, which is nothing
  abbrev b : ClauseBreaks il c []
  b = typed.types

  clean_arguments : b.in_arguments ≡ []
  clean_arguments = none-left b.in_arguments (b.by_arguments ++ (b.in_result ++ (b.by_result ++ b.premises))) [] b.whole refl

  behind_arguments : b.in_result ++ (b.by_result ++ b.premises) ≡ []
  behind_arguments = none-right b.by_arguments (b.in_result ++ (b.by_result ++ b.premises)) _ refl (none-right b.in_arguments (b.by_arguments ++ (b.in_result ++ (b.by_result ++ b.premises))) [] b.whole refl)

  clean_result : b.in_result ≡ []
  clean_result = none-left b.in_result (b.by_result ++ b.premises) _ refl behind_arguments

  clean_premises : b.premises ≡ []
  clean_premises = none-right b.by_result b.premises _ refl (none-right b.in_result (b.by_result ++ b.premises) _ refl behind_arguments)

  listed_parts : AllByRecursion (IsListed c.variables) (occurrences_in Args) × AllByRecursion (IsListed c.variables) in_premises
  listed_parts = Each-split (IsListed c.variables) (occurrences_in Args) in_premises (recursion_from_All (IsListed c.variables) (occurrences_in Args ++ in_premises) (typed.variables).listed)

  listed_arguments : AllByRecursion (IsListed c.variables) (occurrences_in c.args)
  listed_arguments = (Each-split (IsListed c.variables) (occurrences_in c.args) (occurrences_in (c.result ∷ [])) (subst (AllByRecursion (IsListed c.variables)) (occurrences_in-append c.args (c.result ∷ [])) listed_parts.0)).0

  arguments_keep : AllKeepNames c.variables c.args
  arguments_keep = AllKeepNames-typed il c.variables c.args b.arguments clean_arguments

  result_keeps : KeepsNames c.variables c.result
  result_keeps = KeepsNames-typed il b.result clean_result

  premises_typed : AllByRecursion (PremTyped il c.variables) c.premises
  premises_typed = prems_typed il b.met clean_premises listed_parts.1

  arguments_listed : Within (vars_of c.args) (listed_names c.variables)
  arguments_listed x i = names_listed c.variables (occurrences_in c.args) listed_arguments x (sym (AllKeepNames-occurs arguments_keep x) ∙ (sym (AllKeepNames-vars arguments_keep x) ∙ i))

  some_listed : (ps : List IlPrem) → AllByRecursion (PremTyped il c.variables) ps → Within (bound_in_clause c ps) (listed_names c.variables)
  some_listed ps h = within-both (vars_of c.args) (prems_vars ps) (listed_names c.variables) arguments_listed (prems_listed il c.variables ps h)

  -- a name that occurs in the arguments or the result is a variable there
  head_named : Within (names_of (occurrences_in Args)) (vars_of c.args ++ vars c.result)
  head_named x i =
      let keep = AllKeepNames-append arguments_keep (c.result ∷ []) (more result_keeps none) in
      let there : has_name (vars_of Args) x ≡ true = AllKeepNames-vars keep x ∙ (AllKeepNames-occurs keep x ∙ i) in
      subst (λ z. has_name z x ≡ true) (vars_of-append c.args (c.result ∷ []) ∙ ap (λ z. vars_of c.args ++ z) (append-nil (vars c.result))) there

  all_named : Within (names_of (all_occurrences Args c.premises)) (bound_in_clause c c.premises ++ vars c.result)
  all_named x i = elim (or-cases (has_name (names_of (occurrences_in Args)) x) (has_name (names_of in_premises) x) (sym (names_of-append (occurrences_in Args) in_premises x) ∙ i)) [
    | inl k ↦ elim (within-cases (vars_of c.args) (vars c.result) x (head_named x k)) [
      | inl a ↦ within-left (bound_in_clause c c.premises) (vars c.result) x (within-left (vars_of c.args) (prems_vars c.premises) x a)
      | inr r ↦ within-right (bound_in_clause c c.premises) (vars c.result) x r
    ]
    | inr k ↦ within-left (bound_in_clause c c.premises) (vars c.result) x (within-right (vars_of c.args) (prems_vars c.premises) x (prems_named il c.variables c.premises premises_typed x k))
  ]

  lists_occurring : ListsOccurring c
  lists_occurring = known_all (bound_in_clause c c.premises ++ vars c.result) (listed_names c.variables) (λ x i.
      let found = occurs_somewhere (all_occurrences Args c.premises) c.variables (recursion_from_All (λ (l : Listed). Contains (all_occurrences Args c.premises) (l.name, l.dim)) c.variables (typed.variables).occur) x i in
      all_named x (All-contains (λ (o : Occurrence). has_name (names_of (all_occurrences Args c.premises)) o.0 ≡ true) (all_occurrences Args c.premises) (x, found.0)
      (All-from_recursion (λ (o : Occurrence). has_name (names_of (all_occurrences Args c.premises)) o.0 ≡ true) (all_occurrences Args c.premises) (own_names (all_occurrences Args c.premises))) found.1))

  names_occurring : All NamesOccurring c.premises
  names_occurring = All-from_recursion NamesOccurring c.premises (Each-weaken (PremTyped il c.variables) NamesOccurring c.premises (λ p h. (h.stands).occurring) premises_typed)

  runnable : IsRunnable il c
  runnable = record {
    modes = runs.some;
    without_goals = runs.m7;
    names_occurring = names_occurring;
    listed = known_all (listed_names c.variables) (bound_in_clause c c.premises) (some_listed c.premises premises_typed);
    occurring = lists_occurring;
    once = All-from_recursion (λ (l : Listed). listed_as l.name c.variables ≡ Some l) c.variables (once_found c.variables (typed.variables).once);
  }

  premise_met : CallsAreSingle il → (before : List IlPrem) (p : IlPrem) (after : List IlPrem) → c.premises ≡ before ++ p ∷ after → CanBeMet il (bound_in_clause c before) c.variables p
  premise_met single before p after is =
      let parts = Each-split (PremTyped il c.variables) before (p ∷ after) (subst (AllByRecursion (PremTyped il c.variables)) is premises_typed) in
      let here : PremTyped il c.variables p = parts.1.0 in
      let found = run_split il [] before (vars_of c.args) p after (subst (λ (z : List IlPrem). run_on il (vars_of c.args) z [] ≡ true) is runs.m3) in
      let single_open = one_open_split il before (vars_of c.args) p after (subst (λ z. patterns_have_one_open il (vars_of c.args) z ≡ true) is (and-both (list_all is_pattern c.args && all_known (bound_by c.args) (vars_of c.args) && list_all (λ (e : IlExp). not (is_doubly_open e)) c.args) (patterns_have_one_open il (vars_of c.args) c.premises) runs.m4).1) in
      law_of_meeting il single (bound_in_clause c before) c.variables p (bound_in_clause c before) found.0
      (known_all (bound_in_clause c before) (bound_in_clause c before) (λ x i. i)) found.1 (subst (λ z. has_one_open z ≡ true) found.1 single_open)
      here.formed (here.stands).occurring (here.stands).kinded (here.stands).apart
      (not_cited before p after (subst (λ z. list_all (λ (q : IlPrem). not (cites q)) z ≡ true) is runs.m7))
      (known_all (listed_names c.variables) (bound_in_clause c before ++ prem_vars p)
      (within-both (bound_in_clause c before) (prem_vars p) (listed_names c.variables) (some_listed before parts.0) (PremKeepsNames-listed here.keeps here.listed)))

  can_be_tried : CallsAreSingle il → CanBeTried il c
  can_be_tried single = record {
    runnable = runnable;
    arguments = AreFormed-standing il c.variables c.args b.arguments clean_arguments;
    result = IsFormed-typed il b.result clean_result;
    premises = premise_met single;
  }

-- ---- languages

clause_typed : (il : Il) (before : List IlDef) (c : ClauseDef) → Breaks il before (Clause c) [] → ClauseTyped il c
clause_typed il before c h =
    let behind = none-right h.by_names (h.by_variables ++ (h.by_indices ++ h.by_types)) [] h.whole refl in
    let last = none-right h.by_variables (h.by_indices ++ h.by_types) _ refl behind in
    record {
      variables = Told-holds _ _ h.by_variables h.variables (none-left h.by_variables (h.by_indices ++ h.by_types) _ refl behind);
      types = subst (ClauseBreaks il c) (none-right h.by_indices h.by_types _ refl last) h.types;
    }

clauses_typed : (il : Il) (before ds : List IlDef) → AllKeep il before ds → AllByRecursion (ClauseTyped il) (clauses_in ds)
clauses_typed il before [] h = tt
clauses_typed il before (Syntax s ∷ ds) h = clauses_typed il (before ++ Syntax s ∷ []) ds h.1
clauses_typed il before (Var x t ∷ ds) h = clauses_typed il (before ++ Var x t ∷ []) ds h.1
clauses_typed il before (Relation r ∷ ds) h = clauses_typed il (before ++ Relation r ∷ []) ds h.1
clauses_typed il before (Rule r ∷ ds) h = clauses_typed il (before ++ Rule r ∷ []) ds h.1
clauses_typed il before (Fun f ∷ ds) h = clauses_typed il (before ++ Fun f ∷ []) ds h.1
clauses_typed il before (Clause c ∷ ds) h = (clause_typed il before c h.0, clauses_typed il (before ++ Clause c ∷ []) ds h.1)

-- what typing and the rules say of each clause
both_hold : (il : Il) (cs : List ClauseDef) → AllByRecursion (ClauseTyped il) cs → All (ClauseKeeps il (M3 ∷ M4 ∷ M6 ∷ M7 ∷ [])) cs → AllByRecursion (λ (c : ClauseDef). ClauseTyped il c × ClauseRuns il c) cs
both_hold il [] h k = tt
both_hold il (c ∷ cs) h k = (
  (h.0, clause_runs il c (All-head (ClauseKeeps il (M3 ∷ M4 ∷ M6 ∷ M7 ∷ [])) c cs k)),
  both_hold il cs h.1 (All-tail (ClauseKeeps il (M3 ∷ M4 ∷ M6 ∷ M7 ∷ [])) c cs k),
)

pub IsEvaluable-typed : (il : Il) → Typed il → ClausesKeep il (M3 ∷ M4 ∷ M6 ∷ M7 ∷ []) → IsEvaluable il (syntaxes il)
IsEvaluable-typed il typed keep =
    let each = both_hold il (clauses_in il.defs) (clauses_typed il [] il.defs typed) keep in
    let some : ClausesKeep il (M3 ∷ M4 ∷ M6 ∷ []) = All-from_recursion (ClauseKeeps il (M3 ∷ M4 ∷ M6 ∷ [])) (clauses_in il.defs) (Each-weaken (λ (c : ClauseDef). ClauseTyped il c × ClauseRuns il c) (ClauseKeeps il (M3 ∷ M4 ∷ M6 ∷ [])) (clauses_in il.defs) (λ c h. (h.1).some) each) in
    let named : ClausesNameOccurring il = All-from_recursion (λ (c : ClauseDef). All NamesOccurring c.premises) (clauses_in il.defs) (Each-weaken (λ (c : ClauseDef). ClauseTyped il c × ClauseRuns il c) (λ (c : ClauseDef). All NamesOccurring c.premises) (clauses_in il.defs) (λ c h. names_occurring il c h.0 h.1) each) in
    let single : CallsAreSingle il = (law_of_choice il some named).2 in
    record {
      types_are = refl;
      single = single;
      clauses = All-from_recursion (CanBeTried il) (clauses_in il.defs) (Each-weaken (λ (c : ClauseDef). ClauseTyped il c × ClauseRuns il c) (CanBeTried il) (clauses_in il.defs) (λ c h. can_be_tried il c h.0 h.1 single) each);
    }
