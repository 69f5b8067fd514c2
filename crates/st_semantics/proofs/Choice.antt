-- At most one environment chooses a clause, a clause that is chosen does not meet Deep, and so a call
-- comes to one outcome at most.
use Rattle.std.proofs.Common.{◌≡◌, refl, sym, ◌∙◌, ap, subst, List, [], ◌∷◌, ◌++◌, filter, ◌⊎◌, inl, inr, Bool, true, false, if◌then◌else◌, Some, append-nil}
use Rattle.std.specs.List.{list_all}
use Rattle.std.specs.Cmp.{Equal-is}
use Rattle.st_il.specs.declared.definition.Il.{Il}
use Rattle.st_il.specs.declared.definition.Listed.{Listed}
use Rattle.st_il.specs.declared.definition.SyntaxDef.{SyntaxDef}
use Rattle.st_il.specs.declared.expression.IlExp.{IlExp, out-IlExp}
use Rattle.st_il.specs.declared.expression.IlExp.TheOpen.{IlExp-F}
use Rattle.st_il.specs.declared.expression.IlPrem.{IlPrem, out-IlPrem}
use Rattle.st_il.specs.declared.expression.IlPrem.TheOpen.{IlPrem-F}
use Rattle.st_il.specs.declared.expression.Iteration.{Iteration}
use Rattle.st_il.specs.declared.expression.ListItem.{ListItem}
use Rattle.st_il.specs.declared.expression.PathSeg.{PathSeg}
use Rattle.st_il.specs.declared.value.Env.{Env}
use Rattle.st_il.specs.declared.value.Value.{Value, out-Value}
use Rattle.st_il.specs.declared.value.Value.TheOpen.{Value-F}
use Rattle.st_il.specs.declared.value.Value.TheVariants as value
use Rattle.st_il.specs.Order.{value_cmp}
use Rattle.st_il.proofs.OrderLaws.{value_cmp-exact}
use Rattle.st_semantics.specs.declared.outcome.Outcome.TheVariants.{Val, Deep}
use Rattle.st_semantics.specs.declared.outcome.Outcomes.TheVariants.{Values, Stopped}
use Rattle.st_il.specs.Names.{Name, has_name, all_known, without}
use Rattle.st_il.specs.Definitions.{syntaxes}
use Rattle.st_semantics.specs.Environments.{AgreeOn, value_in}
use Rattle.st_semantics.specs.Parts.{binary}
use Rattle.st_semantics.specs.Operators.{equality, is_same}
use Rattle.st_semantics.specs.Forms.{form_at, HasForm, Strict, Variable, by_itself}
use Rattle.st_semantics.specs.Iterations.{count_of, index_of, kind_of, spread, Over}
use Rattle.st_semantics.specs.Evaluation.{Answers, tasks, Gives, GivesAll}
use Rattle.st_semantics.specs.Variables.{vars, vars_of, prem_vars}
use Rattle.st_semantics.specs.Patterns.{binds}
use Rattle.st_semantics.specs.Holding.{value_by, HaveValues, Instance, each_instance, Holds, HoldAll}
use Rattle.st_semantics.specs.Depth as d
use Rattle.st_semantics.specs.Depth.{evaluated, side_at, bound_side, bound_count, ValuesAt, Meets, MeetsHere}
use Rattle.st_semantics.specs.Executable.{is_countable, is_variable_at}
use Rattle.st_semantics.specs.Calls.{no_goal, in_clause}
use Rattle.st_semantics.specs.Kinds.{AreOfItsBody}
use Rattle.st_semantics.proofs.Names.{within-cases, and-both, or-cases, known-within, prem-level, vars-form, without-other}
use Rattle.st_semantics.proofs.Agree.{EnvsAgree, Gives-agree}
use Rattle.st_semantics.proofs.Singles.{IsSingle, Gives-single, GivesAll-single}
use Rattle.st_semantics.proofs.Values.{two_values, gives_values, equation_form}
use Rattle.st_semantics.proofs.Premises.{without-parts}
use Rattle.st_semantics.proofs.Runs.{evaluated_side}
use Rattle.st_semantics.proofs.Clauses.{hold_first}
use Rattle.st_semantics.proofs.Inverse.{variable_value, holds_condition, holds_goal, EachHolds, holds_each}
use Rattle.st_semantics.proofs.Columns.{SameSize, elements_agree, list_agrees, counts_same, values_at}
use Rattle.st_semantics.proofs.Lengths.{made_is}
use Rattle.st_semantics.proofs.PatternValues.{pattern_agrees, one_count, one_name}
use Rattle.st_semantics.proofs.Low.{AreLow, AllAreLow, elements_low, not_high}
use Rattle.st_semantics.proofs.CanRun.{IsShort, count_short}
use Rattle.st_semantics.proofs.Bindings.{IsBinding, IsReached, EachBinds, Binds, BindsInside, binds_inside}
use Rattle.st_semantics.proofs.Bindings as b

pub agree_both : (xs ys : List Name) (a b : Env) → AgreeOn xs a b → AgreeOn ys a b → AgreeOn (xs ++ ys) a b
agree_both xs ys a b p q x h = elim (within-cases xs ys x h) [ inl i ↦ p x i | inr i ↦ q x i ]

-- names that are bound
agree_bound : (bound xs : List Name) (a b : Env) → all_known bound xs ≡ true → AgreeOn bound a b → AgreeOn xs a b
agree_bound bound xs a b k g x i = g x (known-within bound xs k x i)

agree_sym : (xs : List Name) (a b : Env) → AgreeOn xs a b → AgreeOn xs b a
agree_sym xs a b g x i = sym (g x i)

-- two sides that are equal
pub equal_sides : (y z : Value) → binary equality (y ∷ z ∷ []) ≡ Val (value.Bool true) → y ≡ z
equal_sides y z e =
    let made = made_is (equality y z) (value.Bool true) e in
    let bools : value.Bool (is_same y z) ≡ value.Bool true = cc in
    let opened : Value-F.Bool (is_same y z) ≡ Value-F.Bool true = sym (value.outs-Bool (is_same y z)) ∙ (ap out-Value bools ∙ value.outs-Bool true) in
    let is : is_same y z ≡ true = cc in
    value_cmp-exact y z ((Equal-is (value_cmp y z)).0 is)

val_deep : {v : Value} → Val v ≡ Deep → ⊥
val_deep e = cc

module _ (defs : List SyntaxDef) (C : Answers) (one : IsSingle C) where
  abbrev HoldsAt : Env → IlPrem → Type 0
  HoldsAt env p = Holds (value_by defs C) (Unit {0}) no_goal env p

  abbrev EachAt : Env → Iteration → List Name → IlPrem → Type 0
  EachAt env how xs body = EachHolds (value_by defs C) (Unit {0}) no_goal env how xs body

  abbrev AllHoldAt : List Instance → Type 0
  AllHoldAt ps = HoldAll (value_by defs C) (Unit {0}) no_goal ps

  -- an expression whose variables agree has one value
  value_single : (a b : Env) (e : IlExp) (v w : Value) → AgreeOn (vars e) a b → Gives defs C a e (Val v) → Gives defs C b e (Val w) → v ≡ w
  value_single a b e v w g p q = let both : Val v ≡ Val w = Gives-single defs C one b e (Val v) (Val w) (Gives-agree defs C p b g) q in cc

  -- a pattern that binds its variables agrees on them
  binding_agrees : (bound : List Name) (a b : Env) (e : IlExp) (v : Value) → IsBinding bound e → AgreeOn bound a b → Gives defs C a e (Val v) → Gives defs C b e (Val v) → AgreeOn (vars e) a b
  binding_agrees bound a b e v (is, open_ok, known) g p q =
      agree_bound (bound ++ binds e) (vars e) a b known (agree_both bound (binds e) a b g (pattern_agrees defs C p v refl is open_ok b q))

  -- one side is bound, and the other a pattern
  side_agrees : (bound : List Name) (a b : Env) (x y : IlExp) (u w u' w' : Value) → AgreeOn bound a b → all_known bound (vars x) ≡ true → IsBinding bound y
      → Gives defs C a x (Val u) → Gives defs C b x (Val u') → u ≡ w → u' ≡ w' → Gives defs C a y (Val w) → Gives defs C b y (Val w') → AgreeOn (vars y) a b
  side_agrees bound a b x y u w u' w' g k pat gx gx' e e' gy gy' =
      let uu : u ≡ u' = value_single a b x u u' (agree_bound bound (vars x) a b k g) gx gx' in
      let ww : w' ≡ w = sym e' ∙ (sym uu ∙ e) in
      binding_agrees bound a b y w pat g gy (subst (λ z. Gives defs C b y (Val z)) ww gy')

  equation_names : (a b : Env) (e x y : IlExp) → out-IlExp e ≡ IlExp-F.Eq x y → AgreeOn (vars x) a b → AgreeOn (vars y) a b → AgreeOn (vars e) a b
  equation_names a b e x y eq gx gy =
      subst (λ z. AgreeOn z a b) (sym (vars-form defs e (Strict (x ∷ y ∷ []) (binary equality)) (equation_form defs e x y eq)))
      (agree_both (vars x) (vars y ++ []) a b gx (subst (λ z. AgreeOn z a b) (sym (append-nil (vars y))) gy))

  condition_names : (p : IlPrem) (e : IlExp) (a b : Env) → out-IlPrem p ≡ IlPrem-F.If e → AgreeOn (vars e) a b → AgreeOn (prem_vars p) a b
  condition_names p e a b eq g = subst (λ z. AgreeOn z a b) (sym (prem-level p (IlPrem-F.If e) eq)) g

  equation_agrees : (bound : List Name) (p : IlPrem) (e x y : IlExp) (a b : Env) → out-IlPrem p ≡ IlPrem-F.If e → out-IlExp e ≡ IlExp-F.Eq x y → AgreeOn bound a b
      → ((all_known bound (vars x) ≡ true) × IsBinding bound y) ⊎ ((all_known bound (vars y) ≡ true) × IsBinding bound x) → HoldsAt a p → HoldsAt b p → AgreeOn (prem_vars p) a b
  equation_agrees bound p e x y a b eq o g way ha hb =
      let s = two_values defs C a e x y (binary equality) (value.Bool true) (equation_form defs e x y o) (holds_condition (value_by defs C) (Unit {0}) no_goal a p e ha eq) in
      let t = two_values defs C b e x y (binary equality) (value.Bool true) (equation_form defs e x y o) (holds_condition (value_by defs C) (Unit {0}) no_goal b p e hb eq) in
      condition_names p e a b eq (elim way [
        | inl w ↦ equation_names a b e x y o (agree_bound bound (vars x) a b w.0 g)
            (side_agrees bound a b x y s.0 s.1 t.0 t.1 g w.0 w.1 s.2 t.2 (equal_sides s.0 s.1 s.4) (equal_sides t.0 t.1 t.4) s.3 t.3)
        | inr w ↦ equation_names a b e x y o
            (side_agrees bound a b y x s.1 s.0 t.1 t.0 g w.0 w.1 s.3 t.3 (sym (equal_sides s.0 s.1 s.4)) (sym (equal_sides t.0 t.1 t.4)) s.2 t.2)
            (agree_bound bound (vars y) a b w.0 g)
      ])

  -- ---- iterations

  -- two iterations have one size
  same_size : (bound : List Name) (how : Iteration) (xs : List Name) (a b : Env) (cs ds : List Value) → IsReached bound how xs → AgreeOn bound a b → HaveValues (value_by defs C) (tasks a (count_of how)) cs
      → HaveValues (value_by defs C) (tasks b (count_of how)) ds → SameSize bound xs cs ds
  same_size bound how xs a b cs ds (inl w) g p q = inl w
  same_size bound how xs a b cs ds (inr (e, is, known)) g p q =
      let c = one_count defs C a (count_of how) e cs is p in
      let t = one_count defs C b (count_of how) e ds is q in
      inr (c.0, c.1, t.1 ∙ ap (λ z. z ∷ []) (sym (value_single a b e c.0 t.0 (agree_bound bound (vars e) a b known g) c.2 t.2)))

  -- the variables of a count
  count_agrees : (bound : List Name) (how : Iteration) (names xs : List Name) (a b : Env) (cs ds : List Value) (as' bs : List Env) → list_all (is_countable bound) (count_of how) ≡ true → AgreeOn bound a b
      → HaveValues (value_by defs C) (tasks a (count_of how)) cs → HaveValues (value_by defs C) (tasks b (count_of how)) ds → spread how xs a cs ≡ Over as' → spread how xs b ds ≡ Over bs → EnvsAgree names as' bs
      → AgreeOn (vars_of (count_of how)) a b
  count_agrees bound how names xs a b cs ds as' bs countable g p q ea eb rows = at (count_of how) refl (count_short how) countable
    where
      variable : (e : IlExp) (y : IlExp-F IlExp Iteration ListItem PathSeg) → out-IlExp e ≡ y → is_variable_at y ≡ true → count_of how ≡ e ∷ [] → AgreeOn (vars e) a b
      variable e (IlExp-F.Var x) is v one =
          let form : HasForm defs e (Variable x) = by_itself (ap form_at is) in
          let c = one_count defs C a (count_of how) e cs one p in
          let t = one_count defs C b (count_of how) e ds one q in
          let same : c.0 ≡ t.0 = counts_same how names xs a b cs ds as' bs ea eb rows c.0 t.0 c.1 t.1 in
          subst (λ z. AgreeOn z a b) (sym (vars-form defs e (Variable x) form))
          (λ y i. subst (λ z. value_in a z ≡ value_in b z) (sym (one_name y x i)) (variable_value defs C a e x c.0 form c.2 ∙ (ap Some same ∙ sym (variable_value defs C b e x t.0 form t.2))))
      variable e _ is v one = cc

      at : (es : List IlExp) → count_of how ≡ es → IsShort es → list_all (is_countable bound) es ≡ true → AgreeOn (vars_of es) a b
      at [] is s h = λ x i. cc
      at (e ∷ e' ∷ more) is s h = absurd s
      at (e ∷ []) is s h = subst (λ z. AgreeOn z a b) (sym (append-nil (vars e))) (elim (or-cases (all_known bound (vars e)) (is_variable_at (out-IlExp e)) (and-both (is_countable bound e) true h).0) [
        | inl known ↦ agree_bound bound (vars e) a b known g
        | inr v ↦ variable e (out-IlExp e) refl v is
      ])

  bodies_agree : (bound : List Name) (body : IlPrem) → ((a b : Env) → AgreeOn bound a b → HoldsAt a body → HoldsAt b body → AgreeOn (prem_vars body) a b)
      → (as' bs : List Env) → EnvsAgree bound as' bs → AllHoldAt (each_instance as' body) → AllHoldAt (each_instance bs body) → EnvsAgree (prem_vars body) as' bs
  bodies_agree bound body f [] [] g p q = tt
  bodies_agree bound body f [] (b ∷ bs) g p q = absurd g
  bodies_agree bound body f (a ∷ as') [] g p q = absurd g
  bodies_agree bound body f (a ∷ as') (b ∷ bs) g p q =
      let x = hold_first (a, body) (each_instance as' body) p in
      let y = hold_first (b, body) (each_instance bs body) q in
      (f a b g.0 x.0 y.0, bodies_agree bound body f as' bs g.1 x.1 y.1)

  -- a name of an iteration stands in its body, and is not its index
  own_name : (how : Iteration) (xs : List Name) (body : IlPrem) (x : Name) → AreOfItsBody how xs body → has_name xs x ≡ true → (has_name (index_of how) x ≡ false) × (has_name (prem_vars body) x ≡ true)
  own_name how xs body x own h = without-parts (index_of how) (prem_vars body) x (known-within (without (index_of how) (prem_vars body)) xs own x h)

  known_or : (xs names : List Name) (x : Name) → has_name names x ≡ true → (has_name xs x ≡ true) ⊎ (has_name (without xs names) x ≡ true)
  known_or xs names x h = at (has_name xs x) refl
    where
      at : (c : Bool) → has_name xs x ≡ c → (has_name xs x ≡ true) ⊎ (has_name (without xs names) x ≡ true)
      at true k = inl k
      at false k = inr (without-other xs names x k h)

  each_agrees : (bound : List Name) (p : IlPrem) (how : Iteration) (xs : List Name) (body : IlPrem) (a b : Env) → out-IlPrem p ≡ IlPrem-F.Each how xs body → EachBinds bound how xs body
      → ((a b : Env) → AgreeOn (index_of how ++ bound) a b → HoldsAt a body → HoldsAt b body → AgreeOn (prem_vars body) a b) → AgreeOn bound a b → HoldsAt a p → HoldsAt b p → AgreeOn (prem_vars p) a b
  each_agrees bound p how xs body a b eq n f g ha hb =
      let s : EachAt a how xs body = holds_each (value_by defs C) (Unit {0}) no_goal a p how xs body ha eq in
      let t : EachAt b how xs body = holds_each (value_by defs C) (Unit {0}) no_goal b p how xs body hb eq in
      let pairs : EnvsAgree (index_of how ++ bound) s.0 t.0 =
      elements_agree how bound xs a b s.1.0 t.1.0 s.0 t.0 g s.1.2 t.1.2 (same_size bound how xs a b s.1.0 t.1.0 n.reached g s.1.1 t.1.1) in
      let bodies : EnvsAgree (prem_vars body) s.0 t.0 = bodies_agree (index_of how ++ bound) body f s.0 t.0 pairs s.2 t.2 in
      let lists : AgreeOn xs a b = λ x i. let w = own_name how xs body x n.own i in list_agrees how (prem_vars body) xs a b s.1.0 t.1.0 s.0 t.0 s.1.2 t.1.2 bodies x i w.1 w.0 in
      let counts : AgreeOn (vars_of (count_of how)) a b = count_agrees bound how (prem_vars body) xs a b s.1.0 t.1.0 s.0 t.0 n.counted g s.1.1 t.1.1 s.1.2 t.1.2 bodies in
      let inner : AgreeOn (without (index_of how) (prem_vars body)) a b = λ x i. elim (known_or xs (without (index_of how) (prem_vars body)) x i) [
        | inl named ↦ lists x named
        | inr other ↦ g x (known-within bound (without xs (without (index_of how) (prem_vars body))) n.others x other)
      ] in
      subst (λ z. AgreeOn z a b) (sym (prem-level p (IlPrem-F.Each how xs body) eq))
      (agree_both (vars_of (count_of how) ++ xs) (without (index_of how) (prem_vars body)) a b (agree_both (vars_of (count_of how)) xs a b counts lists) inner)

  -- What a premise binds is the same in both environments.
  pub binds_agree : {bound : List Name} {p : IlPrem} → Binds bound p → (a b : Env) → AgreeOn bound a b → HoldsAt a p → HoldsAt b p → AgreeOn (prem_vars p) a b
  binds_agree {bound = bound} {p = p} (b.test e eq k) a b g ha hb = condition_names p e a b eq (agree_bound bound (vars e) a b k g)
  binds_agree {bound = bound} {p = p} (b.left e x y eq o k pat) a b g ha hb = equation_agrees bound p e x y a b eq o g (inl (k, pat)) ha hb
  binds_agree {bound = bound} {p = p} (b.right e x y eq o k pat) a b g ha hb = equation_agrees bound p e x y a b eq o g (inr (k, pat)) ha hb
  binds_agree {p = p} (b.otherwise eq) a b g ha hb = subst (λ z. AgreeOn z a b) (sym (prem-level p IlPrem-F.Otherwise eq)) (λ x i. cc)
  binds_agree {p = p} (b.goal relation es eq) a b g ha hb = absurd (holds_goal (value_by defs C) (Unit {0}) no_goal a p relation es ha eq).1
  binds_agree {bound = bound} {p = p} (b.each how xs body eq n inside) a b g ha hb = each_agrees bound p how xs body a b eq n (binds_agree inside) g ha hb

  -- ---- a premise that holds does not meet Deep

  -- the side that is evaluated has a value, where the condition is true
  abbrev SideValue : List Name → Env → IlExp → Type 0
  SideValue bound env side = (v : Value) × Gives defs C env side (Val v) × (all_known bound (vars side) ≡ true)

  side_value : (bound : List Name) (env : Env) (e side : IlExp) → evaluated bound e ≡ Some side → Gives defs C env e (Val (value.Bool true)) → SideValue bound env side
  side_value bound env e side ev g = whole (all_known bound (vars e)) refl
    where
      equation : (x y : IlExp) → out-IlExp e ≡ IlExp-F.Eq x y → (k l : Bool) → all_known bound (vars x) ≡ k → all_known bound (vars y) ≡ l → bound_side k l x y ≡ Some side → SideValue bound env side
      equation x y o true l kx ky s =
          let two = two_values defs C env e x y (binary equality) (value.Bool true) (equation_form defs e x y o) g in
          let is : x ≡ side = cc in
          subst (SideValue bound env) is (two.0, two.2, kx)
      equation x y o false true kx ky s =
          let two = two_values defs C env e x y (binary equality) (value.Bool true) (equation_form defs e x y o) g in
          let is : y ≡ side = cc in
          subst (SideValue bound env) is (two.1, two.3, ky)
      equation x y o false false kx ky s = cc

      sides : (z : IlExp-F IlExp Iteration ListItem PathSeg) → out-IlExp e ≡ z → side_at bound z ≡ Some side → SideValue bound env side
      sides (IlExp-F.Eq x y) o s = equation x y o (all_known bound (vars x)) (all_known bound (vars y)) refl refl s
      sides _ o s = cc

      whole : (k : Bool) → all_known bound (vars e) ≡ k → SideValue bound env side
      whole true k =
          let both : Some e ≡ Some side = sym (ap (λ z. if z then Some e else side_at bound (out-IlExp e)) k) ∙ ev in
          let is : e ≡ side = cc in
          subst (SideValue bound env) is (value.Bool true, g, k)
      whole false k = sides (out-IlExp e) refl (sym (evaluated_side bound e k) ∙ ev)

  condition_not_deep : (bound : List Name) (a b : Env) (e side : IlExp) → evaluated bound e ≡ Some side → AgreeOn bound b a → Gives defs C a e (Val (value.Bool true)) → Gives defs C b side Deep → ⊥
  condition_not_deep bound a b e side ev g holds deep =
      let s = side_value bound a e side ev holds in
      val_deep (Gives-single defs C one b side (Val s.0) Deep (Gives-agree defs C s.1 b (agree_bound bound (vars side) a b s.2 (agree_sym bound b a g))) deep)

  -- the bound ones of some expressions that have values have them
  bound_values : (bound : List Name) (a b : Env) (es : List IlExp) (cs : List Value) → AgreeOn bound a b → HaveValues (value_by defs C) (tasks a es) cs
      → (ds : List Value) × HaveValues (value_by defs C) (tasks b (filter (λ (e : IlExp). all_known bound (vars e)) es)) ds
  bound_values bound a b [] cs g h = ([], tt)
  bound_values bound a b (e ∷ es) [] g h = absurd h
  bound_values bound a b (e ∷ es) (c ∷ cs) g h = at (all_known bound (vars e)) refl (bound_values bound a b es cs g h.1)
    where
      at : (k : Bool) → all_known bound (vars e) ≡ k → (ds : List Value) × HaveValues (value_by defs C) (tasks b (filter (λ (e : IlExp). all_known bound (vars e)) es)) ds
          → (ds : List Value) × HaveValues (value_by defs C) (tasks b (if k then e ∷ filter (λ (e : IlExp). all_known bound (vars e)) es else filter (λ (e : IlExp). all_known bound (vars e)) es)) ds
      at true k ih = (c ∷ ih.0, (Gives-agree defs C h.0 b (agree_bound bound (vars e) a b k g), ih.1))
      at false k ih = ih

  count_not_deep : (bound : List Name) (a b : Env) (how : Iteration) (cs : List Value) → AgreeOn bound b a → HaveValues (value_by defs C) (tasks a (count_of how)) cs → GivesAll defs C (tasks b (bound_count bound how)) (Stopped Deep) → ⊥
  count_not_deep bound a b how cs g have deep =
      let w = bound_values bound a b (count_of how) cs (agree_sym bound b a g) have in
      let bad : Values w.0 ≡ Stopped Deep = GivesAll-single defs C one (tasks b (bound_count bound how)) (Values w.0) (Stopped Deep) (gives_values defs C (tasks b (bound_count bound how)) w.0 w.1) deep in cc

  -- the partner of an element
  abbrev Partner : List Name → IlPrem → Env → Type 0
  Partner names body at = (a : Env) × AgreeOn names at a × HoldsAt a body × AreLow a

  partner : (names : List Name) (body : IlPrem) (as' before : List Env) (at : Env) (after : List Env) → EnvsAgree names as' (before ++ at ∷ after) → AllHoldAt (each_instance as' body) → AllAreLow as' → Partner names body at
  partner names body [] [] at after g hold low = absurd g
  partner names body [] (b ∷ before) at after g hold low = absurd g
  partner names body (a ∷ as') [] at after g hold low = (a, agree_sym names a at g.0, (hold_first (a, body) (each_instance as' body) hold).0, low.0)
  partner names body (a ∷ as') (b ∷ before) at after g hold low = partner names body as' before at after g.1 (hold_first (a, body) (each_instance as' body) hold).1 low.1

  -- the values of a variable at elements that agree on it
  values_moved : (names : List Name) (x : Name) → has_name names x ≡ true → (as' bs : List Env) (vs : List Value) → EnvsAgree names as' bs → ValuesAt x bs vs → ValuesAt x as' vs
  values_moved names x i [] [] vs g h = h
  values_moved names x i [] (b ∷ bs) vs g h = absurd g
  values_moved names x i (a ∷ as') [] vs g h = absurd g
  values_moved names x i (a ∷ as') (b ∷ bs) [] g h = h
  values_moved names x i (a ∷ as') (b ∷ bs) (v ∷ vs) g h = (g.0 x i ∙ h.0, values_moved names x i as' bs vs g.1 h.1)

module _ (il : Il) (C : Answers) (one : IsSingle C) where
  here_not_deep : {bound : List Name} {b : Env} {p : IlPrem} → MeetsHere (in_clause il C) bound b p → (a : Env) → Binds bound p → AgreeOn bound b a → HoldsAt (syntaxes il) C one a p → ⊥
  here_not_deep {bound = bound} {b = b} {p = p} (d.condition e part eq ev deep) a run g hold = condition_not_deep (syntaxes il) C one bound a b e part ev g (holds_condition (value_by (syntaxes il) C) (Unit {0}) no_goal a p e hold eq) deep
  here_not_deep {p = p} (d.input relation es eq deep) a run g hold = absurd (holds_goal (value_by (syntaxes il) C) (Unit {0}) no_goal a p relation es hold eq).1
  here_not_deep {p = p} (d.output relation es vs e eq have contains deep) a run g hold = absurd (holds_goal (value_by (syntaxes il) C) (Unit {0}) no_goal a p relation es hold eq).1
  here_not_deep {bound = bound} {b = b} {p = p} (d.count how xs body eq deep) a run g hold =
      let s : EachAt (syntaxes il) C one a how xs body = holds_each (value_by (syntaxes il) C) (Unit {0}) no_goal a p how xs body hold eq in
      count_not_deep (syntaxes il) C one bound a b how s.1.0 g s.1.1 deep

  -- A premise that holds does not meet Deep where the same is bound.
  pub holds_not_deep : {bound : List Name} {ls : List Listed} {b : Env} {p : IlPrem} → Meets (in_clause il C) bound ls b p → (a : Env) → Binds bound p → AreLow a → AgreeOn bound b a → HoldsAt (syntaxes il) C one a p → ⊥
  holds_not_deep (d.here m) a run low g hold = here_not_deep m a run g hold
  holds_not_deep {bound = bound} {b = b} {p = p} (d.element how xs body before at after eq u passed m) a run low g hold =
      let w : BindsInside bound how xs body = binds_inside run how xs body eq in
      let s : EachAt (syntaxes il) C one a how xs body = holds_each (value_by (syntaxes il) C) (Unit {0}) no_goal a p how xs body hold eq in
      let known : AgreeOn bound a u.more = λ x i. sym (g x i) ∙ u.agrees x i in
      let pairs = elements_agree how bound xs a u.more s.1.0 u.elements.0 s.0 (before ++ at ∷ after) known s.1.2 u.elements.2
      (same_size (syntaxes il) C one bound how xs a u.more s.1.0 u.elements.0 w.0.reached known s.1.1 u.elements.1) in
      let other = partner (syntaxes il) C one (index_of how ++ bound) body s.0 before at after pairs s.2 (elements_low how xs a s.1.0 s.0 low s.1.2) in
      holds_not_deep m other.0 w.1 other.3 other.1 other.2
  holds_not_deep {bound = bound} {b = b} {p = p} (d.height how xs body eq t) a run low g hold =
      let w : BindsInside bound how xs body = binds_inside run how xs body eq in
      let s : EachAt (syntaxes il) C one a how xs body = holds_each (value_by (syntaxes il) C) (Unit {0}) no_goal a p how xs body hold eq in
      let u = t.unfolds in
      let known : AgreeOn bound a u.more = λ x i. sym (g x i) ∙ u.agrees x i in
      let pairs = elements_agree how bound xs a u.more s.1.0 u.elements.0 s.0 t.envs known s.1.2 u.elements.2
      (same_size (syntaxes il) C one bound how xs a u.more s.1.0 u.elements.0 w.0.reached known s.1.1 u.elements.1) in
      let bodies = bodies_agree (syntaxes il) C one (index_of how ++ bound) body (binds_agree (syntaxes il) C one w.1) s.0 t.envs pairs s.2 t.passed.hold in
      let own = own_name (syntaxes il) C one how xs body t.x w.0.own t.iterated in
      let values = values_moved (syntaxes il) C one (prem_vars body) t.x own.1 s.0 t.envs t.values bodies t.values_are in
      not_high (kind_of how) (value_in a t.x) t.values (low t.x) (values_at how xs a s.1.0 s.0 t.x t.values s.1.2 t.iterated own.0 values) t.high
