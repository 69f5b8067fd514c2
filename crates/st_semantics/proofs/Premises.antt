-- A premise that holds where calls come to more holds where they come to less, or else it meets Deep
-- there.
use Rattle.std.proofs.Common.{append_assoc, append-nil, bytes_eq, if◌then◌else◌, ◌≡◌, refl, sym, ◌∙◌, ap, ap₂, subst, List, [], ◌∷◌, ◌++◌, ◌⊎◌, inl, inr, Bool, true, false, Some, not, ◌||◌}
use Rattle.std.specs.List.{list_all}
use Rattle.st_il.specs.declared.definition.Il.{Il}
use Rattle.st_il.specs.declared.definition.Listed.{Listed}
use Rattle.st_il.specs.declared.definition.SyntaxDef.{SyntaxDef}
use Rattle.st_il.specs.declared.expression.IlExp.{IlExp, out-IlExp}
use Rattle.st_il.specs.declared.expression.IlExp.TheOpen.{IlExp-F}
use Rattle.st_il.specs.declared.expression.IlPrem.{IlPrem, out-IlPrem}
use Rattle.st_il.specs.declared.expression.IlPrem.TheOpen.{IlPrem-F}
use Rattle.st_il.specs.declared.expression.Iteration.{Iteration}
use Rattle.st_il.specs.declared.value.Env.{Env}
use Rattle.st_il.specs.declared.value.Value.{Value}
use Rattle.st_il.specs.declared.value.Value.TheVariants as value
use Rattle.st_semantics.specs.declared.outcome.Outcome.TheVariants.{Val, Deep}
use Rattle.st_semantics.specs.declared.outcome.Outcomes.TheVariants.{Stopped}
use Rattle.st_il.specs.Names.{Name, has_name, all_known, without}
use Rattle.st_il.specs.Definitions.{syntaxes}
use Rattle.st_semantics.specs.Directions.{inputs_of}
use Rattle.st_semantics.specs.Environments.{AgreeOn, TypedIn}
use Rattle.st_semantics.specs.Parts.{binary}
use Rattle.st_semantics.specs.Operators.{equality}
use Rattle.st_semantics.specs.Forms.{Strict, HasForm}
use Rattle.st_semantics.specs.Iterations.{count_of, index_of, spread, Over}
use Rattle.st_semantics.specs.Scopes.{listed_inside}
use Rattle.st_semantics.specs.Evaluation.{Answers, Task, tasks, Gives, GivesAll, stop, next}
use Rattle.st_semantics.specs.Variables.{vars, vars_of, prem_vars}
use Rattle.st_semantics.specs.Patterns.{is_pattern}
use Rattle.st_semantics.specs.Holding as h
use Rattle.st_semantics.specs.Holding.{Meaning, value_by, HaveValues, Instance, each_instance, Derives, Holds, HoldAll}
use Rattle.st_semantics.specs.Depth as d
use Rattle.st_semantics.specs.Depth.{Setting, HoldIn, IsDeep, AreDeep, evaluated, side_at, bound_side, bound_count, AllTypedIn, Passed, Unfolds, MeetsHere, Meets}
use Rattle.st_semantics.specs.Kinds.{AreOfItsKind}
use Rattle.st_semantics.specs.Calls.{no_goal, in_clause}
use Rattle.st_semantics.proofs.Names.{or-cases, or-left, bytes-path, and-both, known-within, within-right, within-left, or-right, prem-level, without-other}
use Rattle.st_semantics.proofs.Agree.{Gives-agree, tasks_agree}
use Rattle.st_semantics.proofs.Depths.{Likely, likely, likely_then, likely_map, Lowers, Gives-down, Gives-deep, GivesAll-deep}
use Rattle.st_semantics.proofs.PatternParts.{Gives-pattern}
use Rattle.st_semantics.proofs.Elements.{elements_typed}
use Rattle.st_semantics.proofs.Holding.{HaveValues-map, HoldAll-map}
use Rattle.st_semantics.proofs.Values.{gives_two, two_values, equation_form}
use Rattle.st_semantics.proofs.Runs.{CountRuns, Runs, ConditionRuns, condition_runs, no_goal_runs, EachRuns, each_runs, evaluated_whole, evaluated_side, known_both, known_count}

-- what has a value there has it where calls come to those of C, or else it is Deep
pub record Falls (defs : List SyntaxDef) (C : Answers) (V : Meaning) : Type 0 where
  pub down : (env : Env) (e : IlExp) (v : Value) → V env e v → Likely (Gives defs C env e (Val v) ⊎ Gives defs C env e Deep)
  pub pattern : (env : Env) (e : IlExp) (v : Value) → is_pattern e ≡ true → V env e v → Gives defs C env e (Val v)
  pub sides : (env : Env) (e a b : IlExp) (v : Value) → out-IlExp e ≡ IlExp-F.Eq a b → V env e v
      → (y : Value) × (z : Value) × V env a y × V env b z × (binary equality (y ∷ z ∷ []) ≡ Val v)

pub falls_by : (defs : List SyntaxDef) (C D : Answers) → Lowers C D → Falls defs C (value_by defs D)
falls_by defs C D low = record {
  down = λ env e v g. Gives-down defs C D low g;
  pattern = λ env e v p g. Gives-pattern defs C D p g;
  sides = λ env e a b v is g. two_values defs D env e a b (binary equality) v (equation_form defs e a b is) g;
}

pub agree_known : (bound xs : List Name) (a b : Env) → all_known bound xs ≡ true → AgreeOn bound a b → AgreeOn xs b a
agree_known bound xs a b k g y i = sym (g y (known-within bound xs k y i))

-- a name that is left in is no other one
left_in : (x y : Name) (rest : List Name) (c : Bool) (P : Type 0) → has_name (if c then y ∷ rest else rest) x ≡ true → (bytes_eq x y ≡ true → c ≡ true → P) → (has_name rest x ≡ true → P) → P
left_in x y rest true P h first later = elim (or-cases (bytes_eq x y) (has_name rest x) h) [ inl a ↦ first a refl | inr a ↦ later a ]
left_in x y rest false P h first later = later h

pub without-parts : (some xs : List Name) (x : Name) → has_name (without some xs) x ≡ true → (has_name some x ≡ false) × (has_name xs x ≡ true)
without-parts some [] x h = cc
without-parts some (y ∷ ys) x h =
    left_in x y (without some ys) (not (has_name some y)) ((has_name some x ≡ false) × ((bytes_eq x y || has_name ys x) ≡ true)) h
    (λ same free. (ap (has_name some) (bytes-path x y same) ∙ not_true (has_name some y) free, or-left (bytes_eq x y) (has_name ys x) same))
    (λ later. let b = without-parts some ys x later in (b.0, or-right (bytes_eq x y) (has_name ys x) b.1))
  where
    not_true : (a : Bool) → not a ≡ true → a ≡ false
    not_true true e = cc
    not_true false e = refl

not-both : (a : Bool) → a ≡ true → a ≡ false → ⊥
not-both true p q = cc
not-both false p q = cc

none-of : (a b : Bool) → (a ≡ true → ⊥) → (b ≡ true → ⊥) → (a || b) ≡ false
none-of true b p q = absurd (p refl)
none-of false true p q = absurd (q refl)
none-of false false p q = refl

-- what a premise binds inside of an iteration, it binds outside too
module _ (bound : List Name) (p : IlPrem) (how : Iteration) (xs : List Name) (body : IlPrem) (is : out-IlPrem p ≡ IlPrem-F.Each how xs body) where
  abbrev inner_names : List Name
  inner_names = without (index_of how ++ bound) (prem_vars body)

  inner_apart : (x : Name) → has_name inner_names x ≡ true → has_name (index_of how) x ≡ false
  inner_apart x h = absent (has_name (index_of how) x) (λ i. not-both (has_name (index_of how ++ bound) x) (within-left (index_of how) bound x i) (without-parts (index_of how ++ bound) (prem_vars body) x h).0)
    where
      absent : (a : Bool) → (a ≡ true → ⊥) → a ≡ false
      absent true n = absurd (n refl)
      absent false n = refl

  pub inner-outer : (x : Name) → has_name inner_names x ≡ true → has_name (without bound (prem_vars p)) x ≡ true
  inner-outer x h =
      let b = without-parts (index_of how ++ bound) (prem_vars body) x h in
      let free : has_name bound x ≡ false = absent (has_name bound x) (λ i. not-both (has_name (index_of how ++ bound) x) (within-right (index_of how) bound x i) b.0) in
      without-other bound (prem_vars p) x free
      (subst (λ z. has_name z x ≡ true) (sym (prem-level p (IlPrem-F.Each how xs body) is))
      (within-right (vars_of (count_of how) ++ xs) (without (index_of how) (prem_vars body)) x (without-other (index_of how) (prem_vars body) x (inner_apart x h) b.1)))
    where
      absent : (a : Bool) → (a ≡ true → ⊥) → a ≡ false
      absent true n = absurd (n refl)
      absent false n = refl

  pub inner_typed : (il : Il) (ls : List Listed) (env : Env) (count : List Value) (envs : List Env) → AreOfItsKind how xs ls → TypedIn (syntaxes il) ls (without bound (prem_vars p)) env
      → spread how xs env count ≡ Over envs → AllTypedIn il (listed_inside how xs ls) inner_names envs
  inner_typed il ls env count envs kinded t e =
      elements_typed il how xs inner_names ls env count envs kinded inner_apart (λ x i l at. t x (inner-outer x i) l at) e

module _ (s : Setting) (V : Meaning) (falls : Falls (syntaxes s.il) s.calls V) where
  defs : List SyntaxDef
  defs = syntaxes s.il

  abbrev HoldsLow : Env → IlPrem → Type 0
  HoldsLow env p = Holds (value_by (syntaxes s.il) s.calls) (Unit {0}) no_goal env p

  abbrev AllHoldLow : List Instance → Type 0
  AllHoldLow ps = HoldAll (value_by (syntaxes s.il) s.calls) (Unit {0}) no_goal ps

  -- values stay values, or one of the evaluations is Deep
  pub HaveValues-down : (ts : List Task) (xs : List Value) → HaveValues V ts xs → Likely (HaveValues (value_by (syntaxes s.il) s.calls) ts xs ⊎ GivesAll (syntaxes s.il) s.calls ts (Stopped Deep))
  HaveValues-down [] [] h = likely (inl tt)
  HaveValues-down [] (x ∷ xs) h = absurd h
  HaveValues-down (t ∷ ts) [] h = absurd h
  HaveValues-down (t ∷ ts) (x ∷ xs) h = likely_then (falls.down t.0 t.1 x h.0) (elim [
    | inl a ↦ likely_map (elim [ inl b ↦ inl (a, b) | inr b ↦ inr (next x (Stopped Deep) a b refl) ]) (HaveValues-down ts xs h.1)
    | inr a ↦ likely (inr (stop Deep a tt refl))
  ])

  pub HaveValues-pattern : (env : Env) (es : List IlExp) (xs : List Value) → list_all is_pattern es ≡ true → HaveValues V (tasks env es) xs → HaveValues (value_by (syntaxes s.il) s.calls) (tasks env es) xs
  HaveValues-pattern env [] [] w h = h
  HaveValues-pattern env [] (x ∷ xs) w h = h
  HaveValues-pattern env (e ∷ es) [] w h = h
  HaveValues-pattern env (e ∷ es) (x ∷ xs) w h =
      let b = and-both (is_pattern e) (list_all is_pattern es) w in
      (falls.pattern env e x b.0 h.0, HaveValues-pattern env es xs b.1 h.1)

  whole_down : (bound : List Name) (ls : List Listed) (less env : Env) (p : IlPrem) (e : IlExp) → AgreeOn bound less env → out-IlPrem p ≡ IlPrem-F.If e → all_known bound (vars e) ≡ true
      → V env e (value.Bool true) → Likely (HoldsLow env p ⊎ Meets s bound ls less p)
  whole_down bound ls less env p e g eq k gv = likely_map (elim [
    | inl a ↦ inl (h.condition e eq a)
    | inr a ↦ inr (d.here (d.condition e e eq (evaluated_whole bound e k) (Gives-agree (syntaxes s.il) s.calls a less (agree_known bound (vars e) less env k g))))
  ]) (falls.down env e (value.Bool true) gv)

  left_down : (bound : List Name) (ls : List Listed) (less env : Env) (p : IlPrem) (e a b : IlExp) (y z : Value) → AgreeOn bound less env → out-IlPrem p ≡ IlPrem-F.If e
      → HasForm (syntaxes s.il) e (Strict (a ∷ b ∷ []) (binary equality)) → evaluated bound e ≡ Some a → all_known bound (vars a) ≡ true → is_pattern b ≡ true
      → V env a y → V env b z → binary equality (y ∷ z ∷ []) ≡ Val (value.Bool true) → Likely (HoldsLow env p ⊎ Meets s bound ls less p)
  left_down bound ls less env p e a b y z g eq fe ev k f va vb t = likely_map (elim [
    | inl x ↦ inl (h.condition e eq (gives_two (syntaxes s.il) s.calls env e a b (binary equality) y z (value.Bool true) fe x (falls.pattern env b z f vb) t))
    | inr x ↦ inr (d.here (d.condition e a eq ev (Gives-agree (syntaxes s.il) s.calls x less (agree_known bound (vars a) less env k g))))
  ]) (falls.down env a y va)

  right_down : (bound : List Name) (ls : List Listed) (less env : Env) (p : IlPrem) (e a b : IlExp) (y z : Value) → AgreeOn bound less env → out-IlPrem p ≡ IlPrem-F.If e
      → HasForm (syntaxes s.il) e (Strict (a ∷ b ∷ []) (binary equality)) → evaluated bound e ≡ Some b → all_known bound (vars b) ≡ true → is_pattern a ≡ true
      → V env a y → V env b z → binary equality (y ∷ z ∷ []) ≡ Val (value.Bool true) → Likely (HoldsLow env p ⊎ Meets s bound ls less p)
  right_down bound ls less env p e a b y z g eq fe ev k f va vb t = likely_map (elim [
    | inl x ↦ inl (h.condition e eq (gives_two (syntaxes s.il) s.calls env e a b (binary equality) y z (value.Bool true) fe (falls.pattern env a y f va) x t))
    | inr x ↦ inr (d.here (d.condition e b eq ev (Gives-agree (syntaxes s.il) s.calls x less (agree_known bound (vars b) less env k g))))
  ]) (falls.down env b z vb)

  condition_down : (bound : List Name) (ls : List Listed) (less env : Env) (p : IlPrem) (e : IlExp) → AgreeOn bound less env → out-IlPrem p ≡ IlPrem-F.If e → ConditionRuns bound e
      → V env e (value.Bool true) → Likely (HoldsLow env p ⊎ Meets s bound ls less p)
  condition_down bound ls less env p e g eq (inl k) gv = whole_down bound ls less env p e g eq k gv
  condition_down bound ls less env p e g eq (inr (inl w)) gv = go (all_known bound (vars e)) refl
    where
      fe : HasForm (syntaxes s.il) e (Strict (w.0 ∷ w.1 ∷ []) (binary equality))
      fe = equation_form (syntaxes s.il) e w.0 w.1 w.2

      go : (c : Bool) → all_known bound (vars e) ≡ c → Likely (HoldsLow env p ⊎ Meets s bound ls less p)
      go true k = whole_down bound ls less env p e g eq k gv
      go false k =
          let t = falls.sides env e w.0 w.1 (value.Bool true) w.2 gv in
          left_down bound ls less env p e w.0 w.1 t.0 t.1 g eq fe
          (evaluated_side bound e k ∙ (ap (side_at bound) w.2 ∙ ap (λ z. bound_side z (all_known bound (vars w.1)) w.0 w.1) w.3)) w.3 w.4 t.2 t.3 t.4
  condition_down bound ls less env p e g eq (inr (inr w)) gv = go (all_known bound (vars e)) refl (all_known bound (vars w.0)) refl
    where
      fe : HasForm (syntaxes s.il) e (Strict (w.0 ∷ w.1 ∷ []) (binary equality))
      fe = equation_form (syntaxes s.il) e w.0 w.1 w.2

      go : (c : Bool) → all_known bound (vars e) ≡ c → (a : Bool) → all_known bound (vars w.0) ≡ a → Likely (HoldsLow env p ⊎ Meets s bound ls less p)
      go true k a ka = whole_down bound ls less env p e g eq k gv
      go false k true ka = whole_down bound ls less env p e g eq (known_both (syntaxes s.il) bound e w.0 w.1 (binary equality) fe ka w.3) gv
      go false k false ka =
          let t = falls.sides env e w.0 w.1 (value.Bool true) w.2 gv in
          right_down bound ls less env p e w.0 w.1 t.0 t.1 g eq fe
          (evaluated_side bound e k ∙ (ap (side_at bound) w.2 ∙ ap₂ (λ y z. bound_side y z w.0 w.1) ka w.3)) w.3 w.4 t.2 t.3 t.4

  -- the count of an iteration
  pub counts_down : (bound : List Name) (less env : Env) (k : Iteration) (cs : List Value) → CountRuns bound k → AgreeOn bound less env → HaveValues V (tasks env (count_of k)) cs
      → Likely (HaveValues (value_by (syntaxes s.il) s.calls) (tasks env (count_of k)) cs ⊎ AreDeep s less (bound_count bound k))
  counts_down bound less env k cs (inl known) g hv = likely_map (elim [
    | inl a ↦ inl a
    | inr a ↦ inr (subst (λ z. GivesAll (syntaxes s.il) s.calls (tasks less z) (Stopped Deep)) (sym (known_count bound (count_of k) known))
        (tasks_agree (syntaxes s.il) s.calls (count_of k) env less (agree_known bound (vars_of (count_of k)) less env known g) a))
  ]) (HaveValues-down (tasks env (count_of k)) cs hv)
  counts_down bound less env k cs (inr free) g hv = likely (inl (HaveValues-pattern env (count_of k) cs free hv))

  -- several instances, of which each can be met
  abbrev InstancesRun : Derives → List Name → List Listed → List Instance → Type 0
  InstancesRun D bound ls [] = Unit {0}
  InstancesRun D bound ls (at ∷ rest) = Runs D bound ls at.1 × TypedIn (syntaxes s.il) ls (without bound (prem_vars at.1)) at.0 × InstancesRun D bound ls rest

  pub instances_run : (D : Derives) (bound : List Name) (ls : List Listed) (envs : List Env) (p : IlPrem) → Runs D bound ls p → AllTypedIn s.il ls (without bound (prem_vars p)) envs → InstancesRun D bound ls (each_instance envs p)
  instances_run D bound ls [] p r t = tt
  instances_run D bound ls (env ∷ envs) p r t = (r, t.0, instances_run D bound ls envs p r t.1)

  -- the first of them meets Deep, and those before it hold
  abbrev FirstDeep : List Name → List Listed → List Instance → Type 0
  FirstDeep bound ls [] = ⊥
  FirstDeep bound ls (at ∷ rest) = Meets s bound ls at.0 at.1 ⊎ (HoldsLow at.0 at.1 × FirstDeep bound ls rest)

  abbrev DeepElement : List Name → List Listed → List Env → IlPrem → Type 0
  DeepElement bound ls envs p =
      (before : List Env) × (at : Env) × (after : List Env) × (envs ≡ before ++ at ∷ after) × AllTypedIn s.il ls (without bound (prem_vars p)) before × AllHoldLow (each_instance before p) × Meets s bound ls at p

  pub deep_element : (bound : List Name) (ls : List Listed) (envs : List Env) (p : IlPrem) → AllTypedIn s.il ls (without bound (prem_vars p)) envs → FirstDeep bound ls (each_instance envs p) → DeepElement bound ls envs p
  deep_element bound ls [] p t f = absurd f
  deep_element bound ls (env ∷ envs) p t (inl m) = ([], env, envs, refl, tt, h.done, m)
  deep_element bound ls (env ∷ envs) p t (inr f) =
      let w : DeepElement bound ls envs p = deep_element bound ls envs p t.1 f.1 in
      (env ∷ w.0, w.1, w.2, ap (λ z. env ∷ z) w.3, (t.0, w.4), h.more f.0 w.5, w.6)

  module _ (lift : (env : Env) (e : IlExp) (v : Value) → Gives (syntaxes s.il) s.calls env e (Val v) → s.meaning env e v) (allowed : s.otherwise) where
    pub hold_in : (ps : List Instance) → AllHoldLow ps → HoldIn s ps
    hold_in ps all = HoldAll-map (value_by (syntaxes s.il) s.calls) s.meaning lift no_goal s.derives (λ r vs bad. absurd bad) (λ o. allowed) all

    mutual
      pub Holds-down : {O : Type 0} {D : Derives} {env : Env} {p : IlPrem} → Holds V O D env p → (bound : List Name) (ls : List Listed) → Runs D bound ls p
          → TypedIn (syntaxes s.il) ls (without bound (prem_vars p)) env → (less : Env) → AgreeOn bound less env → Likely (HoldsLow env p ⊎ Meets s bound ls less p)
      Holds-down {env = env} {p = p} (h.condition e eq gv) bound ls r t less g = condition_down bound ls less env p e g eq (condition_runs r e eq) gv
      Holds-down (h.otherwise eq o) bound ls r t less g = likely (inl (h.otherwise eq tt))
      Holds-down (h.goal relation es xs eq hv d) bound ls run t less g = absurd (no_goal_runs run relation es eq xs d)
      Holds-down {D = D} {env = env} {p = p} (h.each k xs body envs eq (cs, hv, sp) all) bound ls r t less g =
          let w : EachRuns D bound ls k xs body = each_runs r k xs body eq in
          let elements = inner_typed bound p k xs body eq s.il ls env cs envs w.1 t sp in
          likely_then (counts_down bound less env k cs w.0 g hv) (elim [
            | inl hvc ↦ likely_map (elim [
              | inl a ↦ inl (h.each k xs body envs eq (cs, hvc, sp) a)
              | inr f ↦
                  let y : DeepElement (index_of k ++ bound) (listed_inside k xs ls) envs body = deep_element (index_of k ++ bound) (listed_inside k xs ls) envs body elements f in
                  inr (d.element k xs body y.0 y.1 y.2 eq
                  (record { more = env; agrees = g; elements = (cs, HaveValues-map (value_by (syntaxes s.il) s.calls) s.meaning lift (tasks env (count_of k)) cs hvc, sp ∙ ap Over y.3) })
                  (record { typed = y.4; hold = hold_in (each_instance y.0 body) y.5 }) y.6)
            ]) (HoldAll-down all (index_of k ++ bound) (listed_inside k xs ls) (instances_run D (index_of k ++ bound) (listed_inside k xs ls) envs body w.2 elements))
            | inr deep ↦ likely (inr (d.here (d.count k xs body eq deep)))
          ])

      pub HoldAll-down : {O : Type 0} {D : Derives} {ps : List Instance} → HoldAll V O D ps → (bound : List Name) (ls : List Listed) → InstancesRun D bound ls ps → Likely (AllHoldLow ps ⊎ FirstDeep bound ls ps)
      HoldAll-down h.done bound ls w = likely (inl h.done)
      HoldAll-down (h.more {at = at} x xs) bound ls w = likely_then (Holds-down x bound ls w.0 w.1 at.0 (λ y i. refl)) (elim [
        | inl a ↦ likely_map (elim [ inl b ↦ inl (h.more a b) | inr f ↦ inr (inr (a, f)) ]) (HoldAll-down xs bound ls w.2)
        | inr m ↦ likely (inr (inl m))
      ])

-- Deep that is met where calls come to more is met where they come to less.
module _ (il : Il) (C D : Answers) (low : Lowers C D) where
  abbrev low_falls : Falls (syntaxes il) C (value_by (syntaxes il) D)
  low_falls = falls_by (syntaxes il) C D low

  here_down : {bound : List Name} {env : Env} {p : IlPrem} → MeetsHere (in_clause il D) bound env p → Likely (MeetsHere (in_clause il C) bound env p)
  here_down (d.condition e part eq ev g) = likely_map (d.condition e part eq ev) (Gives-deep (syntaxes il) C D low g)
  here_down (d.input relation es eq g) = likely_map (d.input relation es eq) (GivesAll-deep (syntaxes il) C D low g)
  here_down {env = env} (d.output relation es vs e eq hv c g) =
      likely_then (HaveValues-down (in_clause il C) (value_by (syntaxes il) D) low_falls (tasks env (inputs_of il relation es)) vs hv) (elim [
        | inl a ↦ likely_map (d.output relation es vs e eq a c) (Gives-deep (syntaxes il) C D low g)
        | inr deep ↦ likely (d.input relation es eq deep)
      ])
  here_down (d.count k xs body eq g) = likely_map (d.count k xs body eq) (GivesAll-deep (syntaxes il) C D low g)

  module _ (k : Iteration) (xs : List Name) (body : IlPrem) (bound : List Name) (ls : List Listed) (env : Env) (p : IlPrem) (eq : out-IlPrem p ≡ IlPrem-F.Each k xs body) (w : EachRuns no_goal bound ls k xs body) where
    -- the elements that were passed are passed there too, or something before is Deep
    passed_down : (envs rest : List Env) → Unfolds (in_clause il D) bound k xs env (envs ++ rest) → Passed (in_clause il D) bound ls k xs body envs
        → Likely ((Unfolds (in_clause il C) bound k xs env (envs ++ rest) × Passed (in_clause il C) bound ls k xs body envs) ⊎ Meets (in_clause il C) bound ls env p)
    passed_down envs rest u done =
        likely_then (counts_down (in_clause il C) (value_by (syntaxes il) D) low_falls bound env u.more k u.elements.0 w.0 u.agrees u.elements.1) (elim [
          | inl hvc ↦ likely_map (elim [
            | inl a ↦ inl (record { more = u.more; agrees = u.agrees; elements = (u.elements.0, hvc, u.elements.2) }, record { typed = done.typed; hold = a })
            | inr f ↦
                let y = deep_element (in_clause il C) (value_by (syntaxes il) D) low_falls (index_of k ++ bound) (listed_inside k xs ls) envs body done.typed f in
                inr (d.element k xs body y.0 y.1 (y.2 ++ rest) eq
                (record { more = u.more; agrees = u.agrees; elements = (u.elements.0, hvc, u.elements.2 ∙ ap Over (ap (λ z. z ++ rest) y.3 ∙ append_assoc y.0 (y.1 ∷ y.2) rest)) })
                (record { typed = y.4; hold = y.5 }) y.6)
          ]) (HoldAll-down (in_clause il C) (value_by (syntaxes il) D) low_falls (λ env e v g. g) tt done.hold (index_of k ++ bound) (listed_inside k xs ls)
              (instances_run (in_clause il C) (value_by (syntaxes il) D) low_falls no_goal (index_of k ++ bound) (listed_inside k xs ls) envs body w.2 done.typed))
          | inr deep ↦ likely (inr (d.here (d.count k xs body eq deep)))
        ])

  pub Meets-down : {bound : List Name} {ls : List Listed} {env : Env} {p : IlPrem} → Meets (in_clause il D) bound ls env p → Runs no_goal bound ls p → Likely (Meets (in_clause il C) bound ls env p)
  Meets-down (d.here m) r = likely_map d.here (here_down m)
  Meets-down {bound = bound} {ls = ls} {env = env} {p = p} (d.element k xs body before at after eq u passed m) r =
      let w : EachRuns no_goal bound ls k xs body = each_runs r k xs body eq in
      likely_then (passed_down k xs body bound ls env p eq w before (at ∷ after) u passed) (elim [
        | inl b ↦ likely_map (d.element k xs body before at after eq b.0 b.1) (Meets-down m w.2)
        | inr deep ↦ likely deep
      ])
  Meets-down {bound = bound} {ls = ls} {env = env} {p = p} (d.height k xs body eq t) r =
      let w : EachRuns no_goal bound ls k xs body = each_runs r k xs body eq in
      likely_map (elim [
        | inl b ↦ d.height k xs body eq (record {
          envs = t.envs;
          unfolds = subst (Unfolds (in_clause il C) bound k xs env) (append-nil t.envs) b.0;
          passed = b.1;
          x = t.x;
          iterated = t.iterated;
          unbound = t.unbound;
          values = t.values;
          values_are = t.values_are;
          high = t.high;
        })
        | inr deep ↦ deep
      ]) (passed_down k xs body bound ls env p eq w t.envs [] (subst (Unfolds (in_clause il D) bound k xs env) (sym (append-nil t.envs)) t.unfolds) t.passed)
