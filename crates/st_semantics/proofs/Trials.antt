-- What a trial of an earlier rule gives at some depth, it gives at 500.
use Rattle.std.proofs.Common.{◌≡◌, ℕ, zero, suc, ◌+◌, ◌≤◌, ◌<◌, refl, sym, ◌∙◌, ap, subst, List, [], ◌∷◌, ◌++◌, length, ◌⊎◌, inl, inr, Bool, true, false, not, ◌&&◌, Option, Some, None, slice_get, nat_eq, arith, append_assoc, append-nil, bytes_eq, if◌then◌else◌, All, Contains}
use Rattle.std.specs.List.{list_all, list_any}
use Rattle.std.proofs.lemmas.Bool.{eqb-true}
use Rattle.std.proofs.lemmas.List.Folds.{list_all-append}
use Rattle.std.proofs.lemmas.List.Elements.{All-head, All-tail, All-nil, All-cons, All-contains_itself}
use Rattle.st_il.specs.declared.definition.Il.{Il}
use Rattle.st_il.specs.declared.definition.RuleDef.{RuleDef}
use Rattle.st_il.specs.declared.expression.IlExp.{IlExp}
use Rattle.st_il.specs.declared.expression.IlPrem.{IlPrem}
use Rattle.st_il.specs.declared.value.Env.{Env}
use Rattle.st_il.specs.declared.value.Value.{Value}
use Rattle.st_num.specs.declared.rule.RuleId.TheVariants.{M3, M4}
use Rattle.st_semantics.specs.declared.outcome.Outcome.TheVariants.{Val}
use Rattle.st_il.specs.Names.{Name, has_name, all_known}
use Rattle.st_il.specs.Definitions.{syntaxes, rules_in, rules_from}
use Rattle.st_semantics.specs.Environments.{AgreeOn}
use Rattle.st_semantics.specs.Parts.{binary, option_list}
use Rattle.st_semantics.specs.Operators.{equality}
use Rattle.st_semantics.specs.Evaluation.{tasks, Gives}
use Rattle.st_semantics.specs.Variables.{vars, vars_of, prem_vars, prems_vars, cites}
use Rattle.st_semantics.specs.Patterns.{is_pattern}
use Rattle.st_semantics.specs.Holding as h
use Rattle.st_semantics.specs.Holding.{Meaning, value_by, HaveValues, Instance, instances, Derives, Holds, HoldAll}
use Rattle.st_semantics.specs.Reaching.{Reached, MeetsAmong, bound_behind, listed_behind}
use Rattle.st_semantics.specs.Calls.{no_goal, CallAt, has_value, has_value_at}
use Rattle.st_semantics.specs.Derivation.{derived}
use Rattle.st_semantics.specs.Orders.{inputs_of_rule, outputs_of_rule, is_input, are_inputs, premise_at, in_order, run_on, numbers_from, are_all, is_order}
use Rattle.st_semantics.specs.ModeRules.{cites_nothing}
use Rattle.st_semantics.specs.Breaches.{KeepModes}
use Rattle.st_semantics.specs.Kinds.{IsKinded, AreKinded}
use Rattle.st_semantics.specs.RuleDepth.{at_premise, at_input, at_output, no_variables}
use Rattle.st_semantics.specs.Checks.{checking_depth}
use Rattle.st_semantics.specs.Evidence.{IsDeepTrial, GivesOutputs, in_trial, in_trial_at}
use Rattle.st_semantics.specs.inner.Trials.{TrialsAreStable}
use Rattle.st_semantics.proofs.Names.{known-within, and-both, or-cases, within-left, within-right}
use Rattle.st_semantics.proofs.Agree.{Local, Gives-agree, HaveValues-agree, HoldAll-agree, instances-agree}
use Rattle.st_semantics.proofs.Depths.{Likely, likely, likely_then, likely_map, Gives-up, Gives-down, value_not_deep}
use Rattle.st_semantics.proofs.PatternParts.{Gives-pattern}
use Rattle.st_semantics.proofs.Holding.{HoldAll-map}
use Rattle.st_semantics.proofs.Values.{two_values, equation_form}
use Rattle.st_semantics.proofs.Premises.{Falls}
use Rattle.st_semantics.proofs.Restrict.{restricted, agree_picked, ok_restricted}
use Rattle.st_semantics.proofs.Clauses.{CanRun, AllCanRun, up_to, down_to, body_down, fits_all}
use Rattle.st_semantics.proofs.CanRun.{can_run, clauses_can_be_run}
use Rattle.st_semantics.proofs.Modes.{clauses_keep}
use Rattle.st_il.specs.Definitions.{clauses_in}

pub le_or : (n m : ℕ) → (n ≤ m) ⊎ (m ≤ n)
le_or zero m = inl (omega arith)
le_or (suc n) zero = inr (omega arith)
le_or (suc n) (suc m) = elim (le_or n m) [ inl a ↦ inl (omega (arith, a)) | inr a ↦ inr (omega (arith, a)) ]

-- ---- premises in another order

abbrev pub Each : {A : Type 0} → (A → Type 0) → List A → Type 0
Each P [] = Unit {0}
Each P (x ∷ xs) = P x × Each P xs

Each-back : {A : Type 0} (P : A → Type 0) (xs ys : List A) → Each P (xs ++ ys) → Each P ys
Each-back P [] ys h = h
Each-back P (x ∷ xs) ys h = Each-back P xs ys h.1

Each-append : {A : Type 0} (P : A → Type 0) (xs ys : List A) → Each P xs → Each P ys → Each P (xs ++ ys)
Each-append P [] ys a b = b
Each-append P (x ∷ xs) ys a b = (a.0, Each-append P xs ys a.1 b)

each_at : {A : Type 0} (P : A → Type 0) (xs : List A) (k : ℕ) (x : A) → Each P xs → slice_get xs k ≡ Some x → P x
each_at P [] k x h e = cc
each_at P (y ∷ ys) zero x h e = let same : y ≡ x = cc in subst P same h.0
each_at P (y ∷ ys) (suc k) x h e = each_at P ys k x h.1 e

each_in_order : (P : IlPrem → Type 0) (ps : List IlPrem) (order : List ℕ) → Each P ps → Each P (in_order ps order)
each_in_order P ps [] h = tt
each_in_order P ps (k ∷ ks) h = Each-append P (option_list (premise_at ps k)) (in_order ps ks) (one k (premise_at ps k) refl) (each_in_order P ps ks h)
  where
    one : (k : ℕ) (o : Option IlPrem) → premise_at ps k ≡ o → Each P (option_list o)
    one k None e = tt
    one zero (Some p) e = cc
    one (suc n) (Some p) e = (each_at P ps n p h e, tt)

-- a premise whose number stands in the order
member_of : (P : IlPrem → Type 0) (ps : List IlPrem) (order : List ℕ) (k : ℕ) (p : IlPrem) → list_any (nat_eq k) order ≡ true → premise_at ps k ≡ Some p → Each P (in_order ps order) → P p
member_of P ps [] k p m e h = cc
member_of P ps (j ∷ js) k p m e h = elim (or-cases (nat_eq k j) (list_any (nat_eq k) js) m) [
  | inl same ↦ first (premise_at ps j) (ap (premise_at ps) (sym (eqb-true k j same)) ∙ e) h
  | inr later ↦ member_of P ps js k p later e (Each-back P (option_list (premise_at ps j)) (in_order ps js) h)
]
  where
    first : (o : Option IlPrem) → o ≡ Some p → Each P (option_list o ++ in_order ps js) → P p
    first None e h = cc
    first (Some q) e h = let same : q ≡ p = cc in subst P same h.0

pub get_behind : {A : Type 0} (front : List A) (x : A) (rest : List A) → slice_get (front ++ x ∷ rest) (length front) ≡ Some x
get_behind [] x rest = refl
get_behind (y ∷ ys) x rest = get_behind ys x rest

all_of : (P : IlPrem → Type 0) (ps : List IlPrem) (order : List ℕ) → Each P (in_order ps order) → (front back : List IlPrem) → ps ≡ front ++ back
    → list_all (λ (k : ℕ). list_any (nat_eq k) order) (numbers_from (suc (length front)) (length back)) ≡ true → Each P back
all_of P ps order h front [] e a = tt
all_of P ps order h front (p ∷ back) e a =
    let b = and-both (list_any (nat_eq (suc (length front))) order) (list_all (λ (k : ℕ). list_any (nat_eq k) order) (numbers_from (suc (length front) + 1) (length back))) a in (
      member_of P ps order (suc (length front)) p b.0 (ap (λ z. slice_get z (length front)) e ∙ get_behind front p back) h,
      all_of P ps order h (front ++ p ∷ []) back (e ∙ sym (append_assoc front (p ∷ []) back))
          (subst (λ n. list_all (λ (k : ℕ). list_any (nat_eq k) order) (numbers_from n (length back)) ≡ true) (number front p) b.1),
    )
  where
    number : (front : List IlPrem) (p : IlPrem) → suc (length front) + 1 ≡ suc (length (front ++ p ∷ []))
    number [] p = refl
    number (q ∷ qs) p = let more = number qs p in omega (arith, more)

-- an order has all premises, and so what each in it has, each written one has
written : (P : IlPrem → Type 0) (ps : List IlPrem) (order : List ℕ) → are_all ps order ≡ true → Each P (in_order ps order) → Each P ps
written P ps order a h = all_of P ps order h [] ps refl (and-both (nat_eq (length order) (length ps)) (list_all (λ (k : ℕ). list_any (nat_eq k) order) (numbers_from 1 (length ps))) a).1

in_order_length : (ps : List IlPrem) (order : List ℕ) → length (in_order ps order) ≤ length order
in_order_length ps [] = omega arith
in_order_length ps (k ∷ ks) = at (premise_at ps k) (in_order_length ps ks)
  where
    at : (o : Option IlPrem) → length (in_order ps ks) ≤ length ks → length (option_list o ++ in_order ps ks) ≤ suc (length ks)
    at None h = omega (arith, h)
    at (Some p) h = omega (arith, h)

number_at : {A : Type 0} (xs : List A) (k : ℕ) → k < length xs → (x : A) × (slice_get xs k ≡ Some x)
number_at [] k l = absurd (omega (arith, l))
number_at (x ∷ xs) zero l = (x, refl)
number_at (x ∷ xs) (suc k) l = number_at xs k (omega (arith, l))

length_split : {A : Type 0} (before : List A) (x : A) (after : List A) → length before < length (before ++ x ∷ after)
length_split [] x after = omega arith
length_split (y ∷ ys) x after = let more = length_split ys x after in omega (arith, more)

module _ {V : Meaning} {O : Type 0} {D : Derives} (env : Env) where
  hold_each : (ps : List IlPrem) → HoldAll V O D (instances env ps) → Each (λ (p : IlPrem). Holds V O D env p) ps
  hold_each [] all = tt
  hold_each (p ∷ ps) (h.more x xs) = (x, hold_each ps xs)

  each_hold : (ps : List IlPrem) → Each (λ (p : IlPrem). Holds V O D env p) ps → HoldAll V O D (instances env ps)
  each_hold [] all = h.done
  each_hold (p ∷ ps) (x, xs) = h.more x (each_hold ps xs)

all_each : {A : Type 0} (P : A → Type 0) (xs : List A) → All P xs → Each P xs
all_each P [] h = tt
all_each P (x ∷ xs) h = (All-head P x xs h, all_each P xs (All-tail P x xs h))

each_all : {A : Type 0} (P : A → Type 0) (xs : List A) → Each P xs → All P xs
each_all P [] h = All-nil P
each_all P (x ∷ xs) h = All-cons P x xs h.0 (each_all P xs h.1)

each_true : {A : Type 0} (test : A → Bool) (xs : List A) → list_all test xs ≡ true → Each (λ (x : A). test x ≡ true) xs
each_true test [] h = tt
each_true test (x ∷ xs) h = let b = and-both (test x) (list_all test xs) h in (b.0, each_true test xs b.1)

true_each : {A : Type 0} (test : A → Bool) (xs : List A) → Each (λ (x : A). test x ≡ true) xs → list_all test xs ≡ true
true_each test [] h = refl
true_each test (x ∷ xs) h = both (test x) (list_all test xs) h.0 (true_each test xs h.1)
  where
    both : (a b : Bool) → a ≡ true → b ≡ true → (a && b) ≡ true
    both true b p q = q
    both false b p q = cc

pub run_end : (il : Il) (asked : List Name) (ps : List IlPrem) (bound : List Name) → run_on il bound ps asked ≡ true → all_known (bound ++ prems_vars ps) asked ≡ true
run_end il asked [] bound h = subst (λ z. all_known z asked ≡ true) (sym (append-nil bound)) h
run_end il asked (p ∷ ps) bound h =
    subst (λ z. all_known z asked ≡ true) (append_assoc bound (prem_vars p) (prems_vars ps))
    (run_end il asked ps (bound ++ prem_vars p) (and-both _ (run_on il (bound ++ prem_vars p) ps asked) h).1)

three : (a b c : Bool) → (a && b && c) ≡ true → (a ≡ true) × (b ≡ true) × (c ≡ true)
three true true true h = (refl, refl, refl)
three true true false h = cc
three true false c h = cc
three false b c h = cc

no_names_left : (names : List Name) → nat_eq (length names) 0 ≡ true → names ≡ []
no_names_left [] h = refl
no_names_left (x ∷ xs) h = let e : length (x ∷ xs) ≡ 0 = eqb-true (length (x ∷ xs)) 0 h in absurd (omega (arith, e))

no_name : (names : List Name) (x : Name) → names ≡ [] → has_name names x ≡ true → ⊥
no_name names x none i = let bad : has_name [] x ≡ true = subst (λ z. has_name z x ≡ true) none i in cc

-- ---- the trial

module _ (il : Il) (runs : AllCanRun (clauses_in il.defs)) where
  some_falls : Falls (syntaxes il) (CallAt il checking_depth) (has_value il)
  some_falls = record {
    down = λ env e v g. elim (le_or g.0 checking_depth) [
      | inl low ↦ likely (inl (Gives-up (syntaxes il) (CallAt il g.0) (CallAt il checking_depth) (up_to il runs g.0 checking_depth low) (value_not_deep v) g.1))
      | inr high ↦ Gives-down (syntaxes il) (CallAt il checking_depth) (CallAt il g.0) (down_to il runs checking_depth g.0 high) g.1
    ];
    pattern = λ env e v p g. Gives-pattern (syntaxes il) (CallAt il checking_depth) (CallAt il g.0) p g.1;
    sides = λ env e a b v is g.
        let t = two_values (syntaxes il) (CallAt il g.0) env e a b (binary equality) v (equation_form (syntaxes il) e a b is) g.1 in
        (t.0, t.1, (g.0, t.2), (g.0, t.3), t.4);
  }

  pub some_local : Local (has_value il)
  some_local a b e v g have = (have.0, Gives-agree (syntaxes il) (CallAt il have.0) have.1 b g)

  module _ (rule : RuleDef) (kinds : All (IsKinded rule.variables) rule.premises) (order : List ℕ) (inputs : List Value) (plain : cites_nothing rule ≡ true)
      (is : is_order il rule order ≡ true) (not_deep : IsDeepTrial il rule order inputs → ⊥) (gives : GivesOutputs (in_trial il) rule inputs) where
    abbrev ins : List IlExp
    ins = inputs_of_rule il rule

    abbrev outs : List IlExp
    outs = outputs_of_rule il rule

    abbrev ordered : List IlPrem
    ordered = in_order rule.premises order

    parts : (are_all rule.premises order ≡ true) × (are_inputs (inputs_of_rule il rule) ≡ true) × (run_on il (vars_of (inputs_of_rule il rule)) (in_order rule.premises order) (vars_of (outputs_of_rule il rule)) ≡ true)
    parts = three (are_all rule.premises order) (are_inputs (inputs_of_rule il rule)) _ is

    can : CanRun (derived il) rule.variables (inputs_of_rule il rule) (in_order rule.premises order)
    can = can_run il (derived il) rule.variables (inputs_of_rule il rule) (in_order rule.premises order) (vars_of (outputs_of_rule il rule)) parts.2
        (each_all (IsKinded rule.variables) (in_order rule.premises order) (each_in_order (IsKinded rule.variables) rule.premises order (all_each (IsKinded rule.variables) rule.premises kinds)))
        (inl (ap not (true_each (λ (q : IlPrem). not (cites q)) (in_order rule.premises order)
        (each_in_order (λ (q : IlPrem). not (cites q) ≡ true) rule.premises order (each_true (λ (q : IlPrem). not (cites q)) rule.premises plain)))))

    in_ordered : HoldAll (has_value il) (Unit {0}) (derived il) (instances gives.env (in_order rule.premises order))
    in_ordered = each_hold gives.env (in_order rule.premises order)
        (each_in_order (λ (p : IlPrem). Holds (has_value il) (Unit {0}) (derived il) gives.env p) rule.premises order (hold_each gives.env rule.premises gives.reached.hold))

    no_meeting : MeetsAmong (in_trial il) rule.variables (inputs_of_rule il rule) inputs (in_order rule.premises order) → ⊥
    no_meeting m =
        let short = in_order_length rule.premises order in
        let here = length_split m.before m.premise m.after in
        let long : length (in_order rule.premises order) ≡ length (m.before ++ m.premise ∷ m.after) = ap length m.split in
        let number = number_at order (length m.before) (omega (arith, short, here, long)) in
        not_deep (number.0, at_premise m number.1)

    lift : (env : Env) (e : IlExp) (v : Value) → Gives (syntaxes il) (CallAt il checking_depth) env e (Val v) → has_value il env e v
    lift env e v g = (checking_depth, g)

    premises_at : Likely (HoldAll (value_by (syntaxes il) (CallAt il checking_depth)) (Unit {0}) no_goal (instances gives.env (in_order rule.premises order)))
    premises_at = likely_map (elim [ inl a ↦ a | inr m ↦ absurd (no_meeting m) ])
        (body_down (in_trial il) (has_value il) some_falls lift tt some_local (derived il) rule.variables (inputs_of_rule il rule) (in_order rule.premises order) can inputs
        gives.env gives.reached.heads_are (in_order rule.premises order) [] (sym (append-nil (in_order rule.premises order)))
        (fits_all (in_trial il) (has_value il) some_falls lift tt some_local (derived il) rule.variables (inputs_of_rule il rule) (in_order rule.premises order) can inputs gives.env gives.reached.typed
        (bound_behind (inputs_of_rule il rule) (in_order rule.premises order))) in_ordered)

    -- ---- inputs

    closed_agree : (e : IlExp) → vars e ≡ [] → AgreeOn (vars e) gives.env no_variables
    closed_agree e none x i = absurd (no_name (vars e) x none i)

    input_at : (e : IlExp) (v : Value) → Contains (inputs_of_rule il rule) e → is_input e ≡ true → has_value il gives.env e v → Likely (has_value_at il checking_depth gives.env e v)
    input_at e v c i g = elim (or-cases (is_pattern e) (nat_eq (length (vars e)) 0) i) [
      | inl p ↦ likely (some_falls.pattern gives.env e v p g)
      | inr n ↦
          let none = no_names_left (vars e) n in
          likely_map (elim [
            | inl a ↦ a
            | inr deep ↦ absurd (not_deep (0, at_input e refl c none (Gives-agree (syntaxes il) (CallAt il checking_depth) deep no_variables (closed_agree e none))))
          ]) (some_falls.down gives.env e v g)
    ]

    inputs_at : (es : List IlExp) (vs : List Value) → All (Contains (inputs_of_rule il rule)) es → list_all is_input es ≡ true → HaveValues (has_value il) (tasks gives.env es) vs
        → Likely (HaveValues (has_value_at il checking_depth) (tasks gives.env es) vs)
    inputs_at [] [] c i have = likely tt
    inputs_at [] (v ∷ vs) c i have = absurd have
    inputs_at (e ∷ es) [] c i have = absurd have
    inputs_at (e ∷ es) (v ∷ vs) c i have =
        let b = and-both (is_input e) (list_all is_input es) i in
        likely_then (input_at e v (All-head (Contains (inputs_of_rule il rule)) e es c) b.0 have.0) (λ one.
        likely_map (λ rest. (one, rest)) (inputs_at es vs (All-tail (Contains (inputs_of_rule il rule)) e es c) b.1 have.1))

    -- ---- outputs

    abbrev bound : List Name
    bound = bound_behind (inputs_of_rule il rule) (in_order rule.premises order)

    abbrev less : Env
    less = restricted (bound_behind (inputs_of_rule il rule) (in_order rule.premises order)) gives.env

    to_less : AgreeOn (bound_behind (inputs_of_rule il rule) (in_order rule.premises order)) gives.env less
    to_less x i = sym (agree_picked (bound_behind (inputs_of_rule il rule) (in_order rule.premises order)) gives.env x i)

    reached_all : Reached (in_trial il) (listed_behind rule.variables (inputs_of_rule il rule) (in_order rule.premises order)) (inputs_of_rule il rule) inputs (in_order rule.premises order) less
    reached_all = record {
      typed = ok_restricted (syntaxes il) (bound_behind (inputs_of_rule il rule) (in_order rule.premises order)) rule.variables gives.env gives.reached.typed;
      heads_are = HaveValues-agree (has_value il) some_local (inputs_of_rule il rule) inputs gives.env less
          (λ x i. to_less x (within-left (vars_of (inputs_of_rule il rule)) (prems_vars (in_order rule.premises order)) x i)) gives.reached.heads_are;
      hold = HoldAll-agree (has_value il) some_local (Unit {0}) (derived il) in_ordered (instances less (in_order rule.premises order))
          (instances-agree (in_order rule.premises order) gives.env less (λ x i. to_less x (within-right (vars_of (inputs_of_rule il rule)) (prems_vars (in_order rule.premises order)) x i)));
    }

    outputs_at : (es : List IlExp) (vs : List Value) → All (Contains (outputs_of_rule il rule)) es
        → all_known (bound_behind (inputs_of_rule il rule) (in_order rule.premises order)) (vars_of es) ≡ true → HaveValues (has_value il) (tasks gives.env es) vs
        → Likely (HaveValues (has_value_at il checking_depth) (tasks gives.env es) vs)
    outputs_at [] [] c k have = likely tt
    outputs_at [] (v ∷ vs) c k have = absurd have
    outputs_at (e ∷ es) [] c k have = absurd have
    outputs_at (e ∷ es) (v ∷ vs) c k have =
        let b = and-both (all_known bound (vars e)) (all_known bound (vars_of es)) (sym (list_all-append (has_name bound) (vars e) (vars_of es)) ∙ k) in
        likely_then (likely_map (elim [
          | inl a ↦ a
          | inr deep ↦ absurd (not_deep (
            0,
            at_output less e refl reached_all (All-head (Contains (outputs_of_rule il rule)) e es c)
                (Gives-agree (syntaxes il) (CallAt il checking_depth) deep less (λ x i. to_less x (known-within bound (vars e) b.0 x i))),
          ))
        ]) (some_falls.down gives.env e v have.0)) (λ one.
        likely_map (λ rest. (one, rest)) (outputs_at es vs (All-tail (Contains (outputs_of_rule il rule)) e es c) b.1 have.1))

    pub trial_at : Likely (GivesOutputs (in_trial_at il) rule inputs)
    trial_at =
        likely_then premises_at (λ low.
        likely_then (inputs_at (inputs_of_rule il rule) inputs (All-contains_itself (inputs_of_rule il rule)) (and-both (list_all is_input (inputs_of_rule il rule)) _ parts.1).0 gives.reached.heads_are) (λ heads.
        likely_map (λ values. record {
          env = gives.env;
          reached = record {
            typed = gives.reached.typed;
            heads_are = heads;
            hold = HoldAll-map (value_by (syntaxes il) (CallAt il checking_depth)) (has_value_at il checking_depth) (λ env e v g. g) no_goal (derived il) (λ r vs bad. absurd bad) (λ o. o)
                (each_hold gives.env rule.premises
                (written (λ (p : IlPrem). Holds (value_by (syntaxes il) (CallAt il checking_depth)) (Unit {0}) no_goal gives.env p) rule.premises order parts.0 (hold_each gives.env (in_order rule.premises order) low)));
          };
          outputs = gives.outputs;
          values = values;
        }) (outputs_at (outputs_of_rule il rule) gives.outputs (All-contains_itself (outputs_of_rule il rule)) (run_end il (vars_of (outputs_of_rule il rule)) (in_order rule.premises order) (vars_of (inputs_of_rule il rule)) parts.2) gives.values)))

-- a rule of a relation is one of all rules
rule_kinds : (name : Name) (rs : List RuleDef) (number : ℕ) (rule : RuleDef) → slice_get (rules_from name rs) number ≡ Some rule
    → All (λ (r : RuleDef). All (IsKinded r.variables) r.premises) rs → All (IsKinded rule.variables) rule.premises
rule_kinds name [] number rule e kinds = cc
rule_kinds name (r ∷ rs) number rule e kinds =
    at (bytes_eq name r.relation) number e (λ k f. rule_kinds name rs k rule f (All-tail (λ (r : RuleDef). All (IsKinded r.variables) r.premises) r rs kinds))
  where
    at : (b : Bool) (number : ℕ) → slice_get (if b then r ∷ rules_from name rs else rules_from name rs) number ≡ Some rule
        → ((k : ℕ) → slice_get (rules_from name rs) k ≡ Some rule → All (IsKinded rule.variables) rule.premises) → All (IsKinded rule.variables) rule.premises
    at true zero e more =
        let same : r ≡ rule = cc in
        subst (λ (z : RuleDef). All (IsKinded z.variables) z.premises) same (All-head (λ (r : RuleDef). All (IsKinded r.variables) r.premises) r rs kinds)
    at true (suc k) e more = more k e
    at false k e more = more k e

pub trials_are_stable : (il : Il) → KeepModes il → AreKinded il → TrialsAreStable il
trials_are_stable il modes kinds name number rule at order inputs plain is not_deep gives =
    trial_at il (clauses_can_be_run il (clauses_keep il (M3 ∷ M4 ∷ []) modes) kinds.clauses) rule (rule_kinds name (rules_in il.defs) number rule at kinds.rules) order inputs plain is not_deep gives
