-- A condition that is met: a test by its value, and an equation by the value of its bound side and by
-- what matches the other one.
use Rattle.std.proofs.Common.{◌≡◌, ℕ, ◌≤◌, refl, sym, ◌∙◌, ap, ap₂, subst, List, [], ◌∷◌, ◌++◌, ◌⊎◌, inl, inr, Bool, true, false, if◌then◌else◌, Option, Some, None, bytes_eq, arith}
use Rattle.std.specs.Ordering.{is_eq}
use Rattle.std.proofs.lemmas.Bool.{le-leb}
use Rattle.st_num.specs.declared.limit.TheConstants.{HIGHEST_VALUE}
use Rattle.st_il.specs.declared.definition.Il.{Il}
use Rattle.st_il.specs.declared.definition.Listed.{Listed}
use Rattle.st_il.specs.declared.definition.SyntaxDef.{SyntaxDef}
use Rattle.st_il.specs.declared.expression.IlExp.{IlExp, out-IlExp}
use Rattle.st_il.specs.declared.expression.IlExp.TheOpen.{IlExp-F}
use Rattle.st_il.specs.declared.expression.IlPrem.{IlPrem, out-IlPrem}
use Rattle.st_il.specs.declared.expression.IlPrem.TheOpen.{IlPrem-F}
use Rattle.st_il.specs.declared.value.Env.{Env}
use Rattle.st_il.specs.declared.value.Value.{Value}
use Rattle.st_il.specs.declared.value.Value.TheOpen.{Value-F}
use Rattle.st_il.specs.declared.value.Value.TheVariants as value
use Rattle.st_il.specs.Height.{height}
use Rattle.st_il.proofs.OrderLaws.{value_cmp_order}
use Rattle.st_semantics.specs.declared.outcome.Outcome.{Outcome}
use Rattle.st_semantics.specs.declared.outcome.Outcome.TheVariants.{Val, NoValue, Deep}
use Rattle.st_il.specs.Names.{Name, has_name, all_known, without}
use Rattle.st_il.specs.Definitions.{syntaxes}
use Rattle.st_semantics.specs.Environments.{Entry, names_of, value_in, type_of, listed_as, listed_names, AgreeOn, TypedIn, IsSomeTyped}
use Rattle.st_semantics.specs.Parts.{limited, binary}
use Rattle.st_semantics.specs.Operators.{equality, is_same}
use Rattle.st_semantics.specs.Evaluation.{Answers, Gives}
use Rattle.st_semantics.specs.Variables.{vars, prem_vars}
use Rattle.st_semantics.specs.Patterns.{is_pattern}
use Rattle.st_semantics.specs.Matching.{no_answers, IsMatch}
use Rattle.st_semantics.specs.Holding as h
use Rattle.st_semantics.specs.Depth as d
use Rattle.st_semantics.specs.Depth.{evaluated, side_at, bound_side, Meets, MeetsHere}
use Rattle.st_semantics.specs.Forms.{Strict}
use Rattle.st_semantics.specs.Calls.{no_goal, in_clause, CallAt, ValueAt}
use Rattle.st_semantics.specs.Laws.{CallsAreSingle}
use Rattle.st_semantics.proofs.Names.{Within, within-cases, within-left, within-right, known-within, or-cases, bytes-path, true_false, vars-form, prem-level, without-other}
use Rattle.st_semantics.proofs.Agree.{Gives-agree}
use Rattle.st_semantics.proofs.Singles.{Gives-single}
use Rattle.st_semantics.proofs.PatternParts.{Gives-pattern}
use Rattle.st_semantics.proofs.Restrict.{picked, restricted, agree_picked}
use Rattle.st_semantics.proofs.Runs.{evaluated_whole, evaluated_side}
use Rattle.st_semantics.proofs.Values.{Two, two_values, gives_two, equation_form}
use Rattle.st_semantics.proofs.Low.{name_there, height-level, listed_there}
use Rattle.st_semantics.proofs.Inverse.{holds_condition}
use Rattle.st_semantics.proofs.Choice.{equal_sides}
use Rattle.st_semantics.proofs.Depths.{value_not_deep}
use Rattle.st_eval.specs.Steps.{value_at, HoldsAt, MeetsAt, HasOnly, HoldsWith, Fails, AreSides, LawOfTests, LawOfEquations, LawOfSides}
use Rattle.st_eval.proofs.InByteOrder.{names_in, in_byte_order, is_in_order, in_order_value, in_order_names, name_has_value}
use Rattle.st_eval.proofs.Trying.{known_all}

pub same_truth : (a b : Bool) → (a ≡ true → b ≡ true) → (b ≡ true → a ≡ true) → a ≡ b
same_truth true true f g = refl
same_truth true false f g = sym (f refl)
same_truth false true f g = g refl
same_truth false false f g = refl

-- names that are there already add none
pub absorbed : (bound xs : List Name) → Within xs bound → (x : Name) → has_name bound x ≡ has_name (bound ++ xs) x
absorbed bound xs w x = same_truth (has_name bound x) (has_name (bound ++ xs) x) (λ k. within-left bound xs x k) (λ k. elim (within-cases bound xs x k) [ inl i ↦ i | inr i ↦ w x i ])

-- ---- equal values

bool_low : (b : Bool) → height (value.Bool b) ≤ HIGHEST_VALUE
bool_low b = let e = height-level (value.Bool b) (Value-F.Bool b) (value.outs-Bool b) in omega (arith, e)

low_limited : (v : Value) → height v ≤ HIGHEST_VALUE → limited v ≡ Val v
low_limited v low = ap (λ z. if z then Val v else Deep) (le-leb (height v) HIGHEST_VALUE low)

-- a value is equal to itself
equal_itself : (v : Value) → binary equality (v ∷ v ∷ []) ≡ Val (value.Bool true)
equal_itself v =
    let same : is_same v v ≡ true = ap is_eq ((value_cmp_order.equal v v).1 refl) in
    ap (λ z. limited (value.Bool z)) same ∙ low_limited (value.Bool true) (bool_low true)

-- ---- a condition meets Deep only by what is evaluated

abbrev IsEvaluatedDeep : Il → Answers → List Name → Env → IlExp → Type 0
IsEvaluatedDeep il C bound env e = (part : IlExp) × (evaluated bound e ≡ Some part) × Gives (syntaxes il) C env part Deep

here_evaluated : (il : Il) (C : Answers) (bound : List Name) (env : Env) (p : IlPrem) (e : IlExp) → MeetsHere (in_clause il C) bound env p → out-IlPrem p ≡ IlPrem-F.If e → IsEvaluatedDeep il C bound env e
here_evaluated il C bound env p e (d.condition e' part eq ev deep) is = let same : e' ≡ e = cc in subst (IsEvaluatedDeep il C bound env) same (part, ev, deep)
here_evaluated il C bound env p e (d.input relation es eq deep) is = cc
here_evaluated il C bound env p e (d.output relation es vs g eq have contains deep) is = cc
here_evaluated il C bound env p e (d.count how xs body eq deep) is = cc

meets_evaluated : (il : Il) (C : Answers) {bound : List Name} {ls : List Listed} {env : Env} {p : IlPrem} → Meets (in_clause il C) bound ls env p → (e : IlExp) → out-IlPrem p ≡ IlPrem-F.If e → IsEvaluatedDeep il C bound env e
meets_evaluated il C {bound = bound} {env = env} {p = p} (d.here m) e is = here_evaluated il C bound env p e m is
meets_evaluated il C (d.element how xs body before at after eq u passed m) e is = cc
meets_evaluated il C (d.height how xs body eq t) e is = cc

some_same : (a b : IlExp) → Some a ≡ Some b → a ≡ b
some_same a b e = cc

none_val : (v : Value) → NoValue ≡ Val v → ⊥
none_val v e = cc

none_deep : NoValue ≡ Deep → ⊥
none_deep e = cc

vals_same : (v w : Value) → Val v ≡ Val w → v ≡ w
vals_same v w e = cc

-- ---- tests

pub law_of_tests : (il : Il) → CallsAreSingle il → LawOfTests il
law_of_tests il single n bound ls env p e o is known gives = (
  λ holds only. record {
    agrees = λ x i. refl;
    variables = record {
      names_are = λ x. only.names_are x ∙ absorbed bound (prem_vars p) within x;
      typed = λ x i. only.typed x (absorbed bound (prem_vars p) within x ∙ i);
    };
    holds = h.condition e is (subst (Gives (syntaxes il) (CallAt il n) env e) holds gives);
  },
  λ deep. d.here (d.condition e e is (evaluated_whole bound e known) (subst (Gives (syntaxes il) (CallAt il n) env e) deep gives)),
  λ untrue fine. record {
    never = λ more g typed hold.
        untrue (Gives-single (syntaxes il) (CallAt il n) (single n) env e o (Val (value.Bool true)) gives
        (Gives-agree (syntaxes il) (CallAt il n) (holds_condition (value_at il n) (Unit {0}) no_goal more p e hold is) env (λ x i. sym (g x (known-within bound (vars e) known x i)))));
    not_deep = λ m.
        let w = meets_evaluated il (CallAt il n) m e is in
        let same : e ≡ w.0 = some_same e w.0 (sym (evaluated_whole bound e known) ∙ w.1) in
        fine (Gives-single (syntaxes il) (CallAt il n) (single n) env e o Deep gives (subst (λ z. Gives (syntaxes il) (CallAt il n) env z Deep) (sym same) w.2));
  },
)
  where
    within : Within (prem_vars p) bound
    within x i = known-within bound (vars e) known x (subst (λ z. has_name z x ≡ true) (prem-level p (IlPrem-F.If e) is) i)

-- ---- equations

-- the names of some entries that were picked
pub picked_named : (names : List Name) (x : Name) (es : List Entry) → has_name (names_in (picked names es)) x ≡ true → has_name names x ≡ true
picked_named names x [] k = cc
picked_named names x (e ∷ es) k = at (has_name names e.0) refl k (picked_named names x es)
  where
    at : (b : Bool) → has_name names e.0 ≡ b → has_name (names_in (if b then e ∷ picked names es else picked names es)) x ≡ true → (has_name (names_in (picked names es)) x ≡ true → has_name names x ≡ true) → has_name names x ≡ true
    at true j k ih = elim (or-cases (bytes_eq x e.0) (has_name (names_in (picked names es)) x) k) [ inl same ↦ ap (has_name names) (bytes-path x e.0 same) ∙ j | inr later ↦ ih later ]
    at false j k ih = ih k

pub typed_there : (defs : List SyntaxDef) (l : Listed) (o : Option Value) → IsSomeTyped defs (type_of l) o → (v : Value) × (o ≡ Some v)
typed_there defs l None t = absurd t
typed_there defs l (Some v) t = (v, refl)

module _ (il : Il) (single : CallsAreSingle il) (n : ℕ) (bound : List Name) (ls : List Listed) (env : Env) (p : IlPrem) (e side pattern : IlExp) (is : out-IlPrem p ≡ IlPrem-F.If e) (sides : AreSides bound e side pattern) where
  -- the variables of the equation are those of both sides
  names_in_both : (a b : IlExp) → out-IlExp e ≡ IlExp-F.Eq a b → (x : Name) → has_name (prem_vars p) x ≡ has_name (vars a ++ (vars b ++ [])) x
  names_in_both a b eq x = ap (λ z. has_name z x) (prem-level p (IlPrem-F.If e) is ∙ vars-form (syntaxes il) e (Strict (a ∷ b ∷ []) (binary equality)) (equation_form (syntaxes il) e a b eq))

  behind : (b : IlExp) → Within (vars b) (vars b ++ [])
  behind b x i = within-left (vars b) [] x i

  back : (b : IlExp) (x : Name) → has_name (vars b ++ []) x ≡ true → has_name (vars b) x ≡ true
  back b x i = elim (within-cases (vars b) [] x i) [ inl j ↦ j | inr j ↦ cc ]

  pattern_within : Within (vars pattern) (prem_vars p)
  pattern_within x i = elim (sides.0) [
    | inl eq ↦ names_in_both side pattern eq x ∙ within-right (vars side) (vars pattern ++ []) x (behind pattern x i)
    | inr eq ↦ names_in_both pattern side eq x ∙ within-left (vars pattern) (vars side ++ []) x i
  ]

  either_side : (x : Name) → has_name (prem_vars p) x ≡ true → (has_name (vars side) x ≡ true) ⊎ (has_name (vars pattern) x ≡ true)
  either_side x i = elim (sides.0) [
    | inl eq ↦ elim (within-cases (vars side) (vars pattern ++ []) x (sym (names_in_both side pattern eq x) ∙ i)) [ inl j ↦ inl j | inr j ↦ inr (back pattern x j) ]
    | inr eq ↦ elim (within-cases (vars pattern) (vars side ++ []) x (sym (names_in_both pattern side eq x) ∙ i)) [ inl j ↦ inr j | inr j ↦ inl (back side x j) ]
  ]

  side_within : Within (vars side) bound
  side_within = known-within bound (vars side) sides.1

  not_whole : all_known bound (vars e) ≡ false
  not_whole = at (all_known bound (vars e)) refl
    where
      at : (b : Bool) → all_known bound (vars e) ≡ b → all_known bound (vars e) ≡ false
      at false k = k
      at true k = absurd (true_false (sym (known_all bound (vars pattern) (λ x i. known-within bound (vars e) k x (subst (λ z. has_name z x ≡ true) (prem-level p (IlPrem-F.If e) is) (pattern_within x i)))) ∙ sides.2))

  -- the bound side is what is evaluated
  evaluates : evaluated bound e ≡ Some side
  evaluates = evaluated_side bound e not_whole ∙ by_side sides.0
    where
      by_side : (out-IlExp e ≡ IlExp-F.Eq side pattern) ⊎ (out-IlExp e ≡ IlExp-F.Eq pattern side) → side_at bound (out-IlExp e) ≡ Some side
      by_side (inl eq) = ap (side_at bound) eq ∙ ap (λ z. bound_side z (all_known bound (vars pattern)) side pattern) sides.1
      by_side (inr eq) = ap (side_at bound) eq ∙ ap₂ (λ y z. bound_side y z pattern side) sides.2 sides.1

  -- where it holds, both sides have one value
  abbrev OneValue : Env → Type 0
  OneValue more = (v : Value) × Gives (syntaxes il) (CallAt il n) more side (Val v) × Gives (syntaxes il) (CallAt il n) more pattern (Val v)

  one_value : (more : Env) → HoldsAt il n more p → OneValue more
  one_value more hold = elim (sides.0) [
    | inl eq ↦
        let t : Two (syntaxes il) (CallAt il n) more side pattern (binary equality) (value.Bool true) = two_values (syntaxes il) (CallAt il n) more e side pattern (binary equality) (value.Bool true) (equation_form (syntaxes il) e side pattern eq) (holds_condition (value_at il n) (Unit {0}) no_goal more p e hold is) in
        (t.0, t.2, subst (λ z. Gives (syntaxes il) (CallAt il n) more pattern (Val z)) (sym (equal_sides t.0 t.1 t.4)) t.3)
    | inr eq ↦
        let t : Two (syntaxes il) (CallAt il n) more pattern side (binary equality) (value.Bool true) = two_values (syntaxes il) (CallAt il n) more e pattern side (binary equality) (value.Bool true) (equation_form (syntaxes il) e pattern side eq) (holds_condition (value_at il n) (Unit {0}) no_goal more p e hold is) in
        (t.1, t.3, subst (λ z. Gives (syntaxes il) (CallAt il n) more pattern (Val z)) (equal_sides t.0 t.1 t.4) t.2)
  ]

  -- the value of the bound side is that of before
  side_value : (more : Env) (o : Outcome) (v : Value) → AgreeOn bound env more → ValueAt il n env side o → Gives (syntaxes il) (CallAt il n) more side (Val v) → o ≡ Val v
  side_value more o v g gives there =
      Gives-single (syntaxes il) (CallAt il n) (single n) env side o (Val v) gives (Gives-agree (syntaxes il) (CallAt il n) there env (λ x i. sym (g x (side_within x i))))

  -- it meets Deep only where its bound side is Deep
  side_deep : (o : Outcome) → ValueAt il n env side o → MeetsAt il n bound ls env p → o ≡ Deep
  side_deep o gives m =
      let w = meets_evaluated il (CallAt il n) m e is in
      let same : side ≡ w.0 = some_same side w.0 (sym evaluates ∙ w.1) in
      Gives-single (syntaxes il) (CallAt il n) (single n) env side o Deep gives (subst (λ z. Gives (syntaxes il) (CallAt il n) env z Deep) (sym same) w.2)

  pub sides_deep : ValueAt il n env side Deep → MeetsAt il n bound ls env p
  sides_deep gives = d.here (d.condition e side is evaluates gives)

  pub sides_none : ValueAt il n env side NoValue → Fails il n bound ls env p
  sides_none gives = record {
    never = λ more g typed hold. let w = one_value more hold in none_val w.0 (side_value more NoValue w.0 g gives w.1);
    not_deep = λ m. none_deep (side_deep NoValue gives m);
  }

  module _ (v : Value) (pat : is_pattern pattern ≡ true) (listed : all_known (listed_names ls) (prem_vars p) ≡ true) (only : HasOnly il ls bound env) (gives : ValueAt il n env side (Val v)) where
    -- what matches makes it hold
    pub match_holds : (more : Env) → IsMatch (syntaxes il) ls pattern v env more → HoldsWith il n bound ls env p more
    match_holds more m = record {
      agrees = g;
      variables = record { names_are = λ x. m.names x ∙ same_names x; typed = typed };
      holds = h.condition e is (whole sides.0);
    }
      where
        g : AgreeOn bound env more
        g x i = m.extends x (only.names_are x ∙ i)

        same_names : (x : Name) → has_name (names_of env ++ vars pattern) x ≡ has_name (bound ++ prem_vars p) x
        same_names x = same_truth (has_name (names_of env ++ vars pattern) x) (has_name (bound ++ prem_vars p) x)
            (λ k. elim (within-cases (names_of env) (vars pattern) x k) [
              | inl i ↦ within-left bound (prem_vars p) x (sym (only.names_are x) ∙ i)
              | inr i ↦ within-right bound (prem_vars p) x (pattern_within x i)
            ])
            (λ k. elim (within-cases bound (prem_vars p) x k) [
              | inl i ↦ within-left (names_of env) (vars pattern) x (only.names_are x ∙ i)
              | inr i ↦ elim (either_side x i) [
                | inl j ↦ within-left (names_of env) (vars pattern) x (only.names_are x ∙ side_within x j)
                | inr j ↦ within-right (names_of env) (vars pattern) x j
              ]
            ])

        old_typed : (x : Name) → has_name bound x ≡ true → (l : Listed) → listed_as x ls ≡ Some l → IsSomeTyped (syntaxes il) (type_of l) (value_in more x)
        old_typed x i l at = subst (IsSomeTyped (syntaxes il) (type_of l)) (g x i) (only.typed x i l at)

        typed : TypedIn (syntaxes il) ls (bound ++ prem_vars p) more
        typed x k l at = elim (within-cases bound (prem_vars p) x k) [
          | inl i ↦ old_typed x i l at
          | inr i ↦ elim (either_side x i) [ inl j ↦ old_typed x (side_within x j) l at | inr j ↦ m.typed x j l at ]
        ]

        side_there : Gives (syntaxes il) (CallAt il n) more side (Val v)
        side_there = Gives-agree (syntaxes il) (CallAt il n) gives more (λ x i. g x (side_within x i))

        pattern_there : Gives (syntaxes il) (CallAt il n) more pattern (Val v)
        pattern_there = Gives-pattern (syntaxes il) (CallAt il n) no_answers pat m.value

        whole : (out-IlExp e ≡ IlExp-F.Eq side pattern) ⊎ (out-IlExp e ≡ IlExp-F.Eq pattern side) → Gives (syntaxes il) (CallAt il n) more e (Val (value.Bool true))
        whole (inl eq) = gives_two (syntaxes il) (CallAt il n) more e side pattern (binary equality) v v (value.Bool true) (equation_form (syntaxes il) e side pattern eq) side_there pattern_there (equal_itself v)
        whole (inr eq) = gives_two (syntaxes il) (CallAt il n) more e pattern side (binary equality) v v (value.Bool true) (equation_form (syntaxes il) e pattern side eq) pattern_there side_there (equal_itself v)

    -- an environment under which it holds, with what is bound and the variables of the pattern alone
    module _ (more : Env) (g : AgreeOn bound env more) (typed : TypedIn (syntaxes il) ls (without bound (prem_vars p)) more) (hold : HoldsAt il n more p) where
      abbrev kept : List Name
      kept = names_of env ++ vars pattern

      abbrev less : Env
      less = in_byte_order (restricted kept more)

      less_value : (x : Name) → has_name kept x ≡ true → value_in less x ≡ value_in more x
      less_value x i = in_order_value (restricted kept more) x ∙ agree_picked kept more x i

      pattern_typed : (x : Name) → has_name (vars pattern) x ≡ true → (l : Listed) → listed_as x ls ≡ Some l → IsSomeTyped (syntaxes il) (type_of l) (value_in more x)
      pattern_typed x i l at = by_bound (has_name bound x) refl
        where
          by_bound : (b : Bool) → has_name bound x ≡ b → IsSomeTyped (syntaxes il) (type_of l) (value_in more x)
          by_bound true k = subst (IsSomeTyped (syntaxes il) (type_of l)) (g x k) (only.typed x k l at)
          by_bound false k = typed x (without-other bound (prem_vars p) x k (pattern_within x i)) l at

      has_value : (x : Name) → has_name kept x ≡ true → (w : Value) × (value_in more x ≡ Some w)
      has_value x i = elim (within-cases (names_of env) (vars pattern) x i) [
        | inl j ↦ (let w = name_has_value x env.entries j in (w.0, sym (g x (sym (only.names_are x) ∙ j)) ∙ w.1))
        | inr j ↦ (let l = listed_there x ls (known-within (listed_names ls) (prem_vars p) listed x (pattern_within x j)) in typed_there (syntaxes il) l.0 (value_in more x) (pattern_typed x j l.0 l.1))
      ]

      less_matches : IsMatch (syntaxes il) ls pattern v env less
      less_matches = record {
        ordered = is_in_order (restricted kept more);
        names = λ x. same_truth (has_name (names_of less) x) (has_name kept x)
            (λ k. picked_named kept x more.entries (in_order_names (restricted kept more) x k))
            (λ k. let w = has_value x k in name_there x w.0 less.entries (less_value x k ∙ w.1));
        extends = λ x i. g x (sym (only.names_are x) ∙ i) ∙ sym (less_value x (within-left (names_of env) (vars pattern) x i));
        typed = λ x i l at. subst (IsSomeTyped (syntaxes il) (type_of l)) (sym (less_value x (within-right (names_of env) (vars pattern) x i))) (pattern_typed x i l at);
        value = fits;
      }
        where
          both : OneValue more
          both = one_value more hold

          same : both.0 ≡ v
          same = sym (vals_same v both.0 (side_value more (Val v) both.0 g gives both.1))

          fits : Gives (syntaxes il) no_answers less pattern (Val v)
          fits = Gives-agree (syntaxes il) no_answers (Gives-pattern (syntaxes il) no_answers (CallAt il n) pat (subst (λ z. Gives (syntaxes il) (CallAt il n) more pattern (Val z)) same both.2)) less
              (λ x i. sym (less_value x (within-right (names_of env) (vars pattern) x i)))

    -- where nothing matches, it fails
    pub unmatched_fails : ((more : Env) → IsMatch (syntaxes il) ls pattern v env more → ⊥) → Fails il n bound ls env p
    unmatched_fails none = record {
      never = λ more g typed hold. none (less more g typed hold) (less_matches more g typed hold);
      not_deep = λ m. value_not_deep v (side_deep (Val v) gives m);
    }

pub law_of_equations : (il : Il) → CallsAreSingle il → LawOfEquations il
law_of_equations il single n bound ls env p e side pattern v is sides pat listed only gives = (
  match_holds il single n bound ls env p e side pattern is sides v pat listed only gives,
  unmatched_fails il single n bound ls env p e side pattern is sides v pat listed only gives,
)

pub law_of_sides : (il : Il) → CallsAreSingle il → LawOfSides il
law_of_sides il single n bound ls env p e side pattern is sides = (sides_deep il single n bound ls env p e side pattern is sides, sides_none il single n bound ls env p e side pattern is sides)
