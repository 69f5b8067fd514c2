-- A node that is accepted stands for a valid tree.
use Rattle.std.proofs.Common.{◌≡◌, refl, ℕ, sym, ◌∙◌, ap, subst, List, [], ◌∷◌, Some, None, inl, inr}
use Rattle.std.specs.Prelude.{Bool, true, false}
use Rattle.st_deriv.specs.declared.line.Ref.{Ref}
use Rattle.st_il.specs.declared.definition.Il.{Il}
use Rattle.st_il.specs.declared.expression.IlExp.{IlExp}
use Rattle.st_il.specs.declared.expression.Iteration.{Iteration}
use Rattle.st_il.specs.declared.expression.IlPrem.{IlPrem, out-IlPrem, map-IlPrem, fold_out-IlPrem}
use Rattle.st_il.specs.declared.expression.IlPrem.TheOpen.{IlPrem-F}
use Rattle.st_il.specs.declared.tree.Child.{Child}
use Rattle.st_il.specs.declared.tree.Child.TheVariants as child
use Rattle.st_il.specs.declared.value.Env.{Env}
use Rattle.st_il.specs.declared.value.Value.{Value}
use Rattle.st_semantics.specs.declared.verify_rule.VerifyRule.{VerifyRule}
use Rattle.st_semantics.specs.declared.notes.Notes.{Notes}
use Rattle.st_semantics.specs.declared.outcome.Outcome.TheVariants.{Val}
use Rattle.st_semantics.specs.declared.outcome.Outcomes.{Outcomes}
use Rattle.st_semantics.specs.declared.outcome.Outcomes.TheVariants.{Values, Stopped}
use Rattle.st_il.specs.Names.{Name}
use Rattle.st_il.specs.Definitions.{syntaxes}
use Rattle.st_semantics.specs.Iterations.{count_of, spread, Spread, Misfit, Over}
use Rattle.st_semantics.specs.Evaluation.{Task, tasks, GivesAll, way, way_over, Ends, Goes, none, stop, next}
use Rattle.st_semantics.specs.Variables.{cites, cites_at, has_otherwise, has_otherwise_at}
use Rattle.st_semantics.specs.Holding as h
use Rattle.st_semantics.specs.Holding.{Meaning, HaveValues, Instance, each_instance, AreElements, Holds, HoldAll}
use Rattle.st_semantics.specs.Calls.{CallAt, ValueAt, has_value, no_goal}
use Rattle.st_semantics.specs.Derivation as d
use Rattle.st_semantics.specs.Derivation.{Root, Exclusion, Proved, HasTree, IsValid, excluded}
use Rattle.st_semantics.specs.Checks.{Answer, checking_depth}
use Rattle.st_semantics.specs.Walks.{TakenChild, ComeTo, Judges, judged, Tests, Walks, otherwise, condition, goal, on_line, of_many, each_refused, of_one, ends, at_once, each, done, left_over, missing, goes, stops}

pub no_refusal : {a : Answer} (rule : VerifyRule) → a ≡ Some rule → a ≡ None → ⊥
no_refusal rule p q = let bad : Some rule ≡ None = sym p ∙ q in cc

-- ---- what a premise is, by its level

cites-out : (p : IlPrem) → cites p ≡ cites_at (map-IlPrem IlPrem Bool cites (out-IlPrem p))
cites-out p = fold_out-IlPrem Bool cites_at p

otherwise-out : (p : IlPrem) → has_otherwise p ≡ has_otherwise_at (map-IlPrem IlPrem Bool has_otherwise (out-IlPrem p))
otherwise-out p = fold_out-IlPrem Bool has_otherwise_at p

pub cites-level : (p : IlPrem) (x : IlPrem-F IlPrem) → out-IlPrem p ≡ x → cites p ≡ cites_at (map-IlPrem IlPrem Bool cites x)
cites-level p x is = cites-out p ∙ ap (λ z. cites_at (map-IlPrem IlPrem Bool cites z)) is

pub otherwise-level : (p : IlPrem) (x : IlPrem-F IlPrem) → out-IlPrem p ≡ x → has_otherwise p ≡ has_otherwise_at (map-IlPrem IlPrem Bool has_otherwise x)
otherwise-level p x is = otherwise-out p ∙ ap (λ z. has_otherwise_at (map-IlPrem IlPrem Bool has_otherwise z)) is

-- ---- values and elements at 500 are values and elements

over : (s : Spread) (envs : List Env) → way_over s ≡ Goes envs → s ≡ Over envs
over Misfit envs w = cc
over (Over es) envs w = let same : es ≡ envs = cc in ap Over same

module _ (il : Il) where
  V : Meaning
  V = has_value il

  all_values : (ts : List Task) (vs : List Value) (r : Outcomes) → GivesAll (syntaxes il) (CallAt il checking_depth) ts r → r ≡ Values vs → HaveValues (has_value il) ts vs
  all_values [] [] r (none e) q = tt
  all_values [] (v ∷ vs) r (none e) q = let bad : Values (v ∷ vs) ≡ Values [] = sym q ∙ e in cc
  all_values (t ∷ ts) vs r (stop o g s e) q = let bad : Values vs ≡ Stopped o = sym q ∙ e in cc
  all_values (t ∷ ts) vs r (next v (Stopped o) g all e) q = let bad : Values vs ≡ Stopped o = sym q ∙ e in cc
  all_values (t ∷ ts) [] r (next v (Values ws) g all e) q = let bad : Values [] ≡ Values (v ∷ ws) = sym q ∙ e in cc
  all_values (t ∷ ts) (w ∷ vs) r (next v (Values ws) g all e) q =
      let both : Values (w ∷ vs) ≡ Values (v ∷ ws) = sym q ∙ e in
      let head : v ≡ w = cc in
      let tail : ws ≡ vs = cc in
      ((checking_depth, subst (λ z. ValueAt il checking_depth t.0 t.1 (Val z)) head g), all_values ts vs (Values ws) all (ap Values tail))

  elements_of : (how : Iteration) (xs : List Name) (env : Env) (r : Outcomes) (envs : List Env) → ComeTo il env (count_of how) r → way how xs env r ≡ Goes envs → AreElements (has_value il) how xs env envs
  elements_of how xs env (Values count) envs come w = (count, all_values (tasks env (count_of how)) count (Values count) come refl, over (spread how xs env count) envs w)
  elements_of how xs env (Stopped o) envs come w = let bad : Ends o ≡ Goes envs = w in cc

  module _ (notes : Notes) (trees : (line : ℕ) (relation : Name) (vs : List Value) → Judges notes line relation vs → HasTree il relation vs) (root : Root) where
    -- what an `otherwise` among these premises says
    abbrev pub Allowed : IlPrem → Type 0
    Allowed p = has_otherwise p ≡ true → excluded il root

    abbrev pub AllAllowed : List Instance → Type 0
    AllAllowed [] = Unit {0}
    AllAllowed (at ∷ rest) = Allowed at.1 × AllAllowed rest

    abbrev AllPlain : List Instance → Type 0
    AllPlain [] = Unit {0}
    AllPlain (at ∷ rest) = (cites at.1 ≡ false) × AllPlain rest

    each_allowed : (envs : List Env) (body : IlPrem) → Allowed body → AllAllowed (each_instance envs body)
    each_allowed [] body a = tt
    each_allowed (env ∷ envs) body a = (a, each_allowed envs body a)

    each_plain : (envs : List Env) (body : IlPrem) → cites body ≡ false → AllPlain (each_instance envs body)
    each_plain [] body c = tt
    each_plain (env ∷ envs) body c = (c, each_plain envs body c)

    inner_allowed : (p : IlPrem) (how : Iteration) (xs : List Name) (body : IlPrem) → out-IlPrem p ≡ IlPrem-F.Each how xs body → Allowed p → Allowed body
    inner_allowed p how xs body is a has = a (otherwise-level p (IlPrem-F.Each how xs body) is ∙ has)

    inner_cites : (p : IlPrem) (how : Iteration) (xs : List Name) (body : IlPrem) → out-IlPrem p ≡ IlPrem-F.Each how xs body → cites p ≡ cites body
    inner_cites p how xs body is = cites-level p (IlPrem-F.Each how xs body) is

    mutual
      holds_of : {at : Instance} {taken : TakenChild} {a : Answer} → Tests il notes at taken a → a ≡ None → cites at.1 ≡ false → Allowed at.1 → Holds (has_value il) (excluded il root) no_goal at.0 at.1
      holds_of {at = at} (at_once (otherwise is p)) n c w = h.otherwise is (w (otherwise-level at.1 IlPrem-F.Otherwise is))
      holds_of (at_once (condition e is (inl p))) n c w = h.condition e is (checking_depth, p.0)
      holds_of (at_once (condition e is (inr p))) n c w = absurd (no_refusal _ p.3 n)
      holds_of {at = at} (at_once (goal rel es ch is t (on_line line r l come p))) n c w = let bad : true ≡ false = sym (cites-level at.1 (IlPrem-F.Goal rel es) is) ∙ c in cc
      holds_of (at_once (goal rel es ch is t (of_many m p))) n c w = absurd (no_refusal _ p n)
      holds_of (at_once (each_refused how xs body is (of_one ch t m p))) n c w = absurd (no_refusal _ p n)
      holds_of (at_once (each_refused how xs body is (ends inner r o t come g p))) n c w = absurd (no_refusal _ p n)
      holds_of {at = at} (each how xs body inner r envs is t come g walk) n c w =
          h.each how xs body envs is (elements_of how xs at.0 r envs come g)
          (hold_all_of walk n (each_plain envs body (sym (inner_cites at.1 how xs body is) ∙ c)) (each_allowed envs body (inner_allowed at.1 how xs body is w)))

      hold_all_of : {ps : List Instance} {cs : List Ref} {a : Answer} → Walks il notes ps cs a → a ≡ None → AllPlain ps → AllAllowed ps → HoldAll (has_value il) (excluded il root) no_goal ps
      hold_all_of (done p) n c w = h.done
      hold_all_of (left_over p) n c w = absurd (no_refusal _ p n)
      hold_all_of (missing k p) n c w = absurd (no_refusal _ p n)
      hold_all_of (goes None others t x rest) n c w = h.more (holds_of x refl (c.0) (w.0)) (hold_all_of rest n (c.1) (w.1))
      hold_all_of (goes (Some child) others t x rest) n c w = let bad : true ≡ false = sym t.0 ∙ c.0 in cc
      hold_all_of (stops taken others rule t x p) n c w = absurd (no_refusal _ p n)

    -- a child, and what it adds to the premises that hold
    abbrev Grown : Instance → Type 0
    Grown at = (one : Child) × ((rest : List Instance) (children : List Child) → Proved il (has_value il) (excluded il) root rest children → Proved il (has_value il) (excluded il) root (at ∷ rest) (one ∷ children))

    abbrev pub HasChildren : List Instance → Type 0
    HasChildren ps = (children : List Child) × Proved il (has_value il) (excluded il) root ps children

    judged_tree : (line : ℕ) (rel : Name) (r : Outcomes) (a : Answer) → judged notes line rel r a → a ≡ None → (vs : List Value) × (r ≡ Values vs) × HasTree il rel vs
    judged_tree line rel (Values vs) a (inl p) n = (vs, refl, trees line rel vs p.0)
    judged_tree line rel (Values vs) a (inr p) n = absurd (no_refusal _ p.1 n)
    judged_tree line rel (Stopped o) a p n = absurd (no_refusal _ p n)

    grown_goal : (at : Instance) (rel : Name) (es : List IlExp) (r : Outcomes) → out-IlPrem at.1 ≡ IlPrem-F.Goal rel es → ComeTo il at.0 es r → (vs : List Value) → r ≡ Values vs → HasTree il rel vs → Grown at
    grown_goal at rel es r is come vs rv tree = (
      child.One tree.tree,
      λ rest children proved.
          d.goal rel es tree.tree is (child.outs-One tree.tree) tree.valid tree.relation_is
          (subst (HaveValues (has_value il) (tasks at.0 es)) (sym tree.values_are) (all_values (tasks at.0 es) vs r come rv)) proved,
    )

    mutual
      child_of : {at : Instance} {taken : TakenChild} {a : Answer} → Tests il notes at taken a → a ≡ None → cites at.1 ≡ true → Allowed at.1 → Grown at
      child_of {at = at} (at_once (otherwise is p)) n c w = let bad : false ≡ true = sym (cites-level at.1 IlPrem-F.Otherwise is) ∙ c in cc
      child_of {at = at} (at_once (condition e is p)) n c w = let bad : false ≡ true = sym (cites-level at.1 (IlPrem-F.If e) is) ∙ c in cc
      child_of {at = at} {a = a} (at_once (goal rel es ch is t (on_line line r l come p))) n c w =
          let found = judged_tree line rel r a p n in
          grown_goal at rel es r is come found.0 found.1 found.2
      child_of (at_once (goal rel es ch is t (of_many m p))) n c w = absurd (no_refusal _ p n)
      child_of (at_once (each_refused how xs body is (of_one ch t m p))) n c w = absurd (no_refusal _ p n)
      child_of (at_once (each_refused how xs body is (ends inner r o t come g p))) n c w = absurd (no_refusal _ p n)
      child_of {at = at} (each how xs body inner r envs is t come g walk) n c w =
          let below = proved_of walk n (each_allowed envs body (inner_allowed at.1 how xs body is w)) in (
            child.Many below.0,
            λ rest children proved.
                d.each how xs body envs below.0 c is (child.outs-Many below.0) (elements_of how xs at.0 r envs come g) below.1 proved,
          )

      pub proved_of : {ps : List Instance} {cs : List Ref} {a : Answer} → Walks il notes ps cs a → a ≡ None → AllAllowed ps → HasChildren ps
      proved_of (done p) n w = ([], d.done)
      proved_of (left_over p) n w = absurd (no_refusal _ p n)
      proved_of (missing k p) n w = absurd (no_refusal _ p n)
      proved_of (goes None others t x rest) n w =
          let more = proved_of rest n (w.1) in (more.0, d.plain t.0 (holds_of x refl t.0 (w.0)) more.1)
      proved_of (goes {rest = ps} (Some child) others t x rest) n w =
          let more = proved_of rest n (w.1) in
          let one = child_of x refl t.0 (w.0) in
          (one.0 ∷ more.0, one.1 ps more.0 more.1)
      proved_of (stops taken others rule t x p) n w = absurd (no_refusal _ p n)
