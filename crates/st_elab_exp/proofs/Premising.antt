-- A premise has one outcome at most.
use Rattle.std.proofs.Common.{◌≡◌, refl, sym, ap, ◌∙◌, subst, ℕ, List, [], ◌∷◌, inl, inr, Option, Some, None, true}
use Rattle.st_num.specs.declared.rule.RuleId.TheVariants.{Y2, B2}
use Rattle.st_el.specs.declared.expression.Exp.{Exp}
use Rattle.st_el.specs.declared.expression.Count.{Count, out-Count}
use Rattle.st_el.specs.declared.definition.Prem.{Prem, roll-Prem, out-roll-Prem, ind-Prem, Prem-F}
use Rattle.st_el.specs.declared.definition.PremNode.{PremNode, out-PremNode, out-roll-PremNode, map-PremNode}
use Rattle.st_el.specs.declared.definition.PremNode.TheOpen.{PremNode-F}
use Rattle.st_il.specs.declared.ty.Ty.TheVariants as ty
use Rattle.st_il.specs.declared.expression.IlExp.{IlExp, out-IlExp}
use Rattle.st_il.specs.declared.expression.IlExp.TheOpen.{IlExp-F}
use Rattle.st_il.specs.declared.expression.IlExp.TheVariants as il
use Rattle.st_il.specs.declared.expression.ListItem.{ListItem}
use Rattle.st_il.specs.declared.expression.PathSeg.{PathSeg}
use Rattle.st_il.specs.Occurrences.{occurs_in_prem}
use Rattle.st_il.specs.declared.expression.IlPrem.{IlPrem}
use Rattle.st_il.specs.declared.expression.IlPrem.TheVariants as premise
use Rattle.st_il.specs.declared.expression.Iteration.{Iteration}
use Rattle.st_il.specs.declared.expression.Iteration.TheVariants as times
use Rattle.st_il.specs.declared.definition.RelationDef.{RelationDef}
use Rattle.st_notation.specs.Fits.{Filling}
use Rattle.st_elab_table.specs.declared.decls.Decls.{Decls}
use Rattle.st_elab_table.specs.declared.decls.Scope.{Scope}
use Rattle.st_dims.specs.declared.within.Within.{Within}
use Rattle.st_elab_table.specs.Forms.{place}
use Rattle.st_dims.specs.Around.{inside}
use Rattle.st_elab_table.specs.Iterations.{iterated}
use Rattle.st_elab_table.specs.Questions.{Breach, Answer, Gives, Fails, Step}
use Rattle.st_elab_table.specs.Steps.{exp_of, made, give}
use Rattle.st_elab_table.specs.Collections.{counted_at}
use Rattle.st_elab_table.specs.Elaboration.{Leads, ends, Reached, Stopped}
use Rattle.st_elab_table.proofs.Single.{Leads-single}
use Rattle.st_elab_table.specs.Choice.{FillsCase}
use Rattle.st_elab_table.proofs.ChoiceLemmas.{FillsCase-single}
use Rattle.st_elab_table.specs.Parts.{AskedAs, Breaks}
use Rattle.st_elab_table.specs.Inside.{ElabInside, InsideBreach}
use Rattle.st_elab_exp.specs.Single.{HasOneOutcome}
use Rattle.st_elab_table.specs.Judgements.{broken, relation_named, case_of, judgement_questions, Judged, JudgedBreach, unfit, filling}
use Rattle.st_elab_table.specs.Premises.{place_of, node_of, ElabPrem, condition, judgement, otherwise, each, PremBreach, in_condition, undeclared, in_judgement, in_premise, in_count, ElabPrems, PremsBreach}
use Rattle.st_elab_exp.proofs.Outcomes.{Then, Or, then_one, one_by, this_one, this_breach, inside_one, asked_one}

module _ (D : Decls) (S : Scope) where
  -- ---- counts

  -- an expression that shows how often an iteration goes
  abbrev shown : Iteration → Step
  shown k = give (il.Iter k [] (il.Bool true)) ty.Bool

  abbrev times_at : IlExp-F IlExp Iteration ListItem PathSeg → Iteration
  times_at (IlExp-F.Iter k names x) = k
  times_at x = times.Star

  abbrev times_in : Answer → Iteration
  times_in (Gives m) = times_at (out-IlExp m.exp)
  times_in (Fails b) = times.Star

  shown_gives : (k : Iteration) → Leads D S (shown k) (Gives (made (il.Iter k [] (il.Bool true)) ty.Bool))
  shown_gives k = ends

  shown_times : (k : Iteration) → times_in (Gives (made (il.Iter k [] (il.Bool true)) ty.Bool)) ≡ k
  shown_times k = ap times_at (il.outs-Iter k [] (il.Bool true))

  reached_one : (steps : (Iteration → Step) → Step) → HasOneOutcome (Reached D S steps) (Stopped D S steps)
  reached_one steps = record { one = one; one_breach = one_breach; not_both = not_both }
    where
      one : (k l : Iteration) → Reached D S steps k → Reached D S steps l → k ≡ l
      one k l h i =
          sym (shown_times k) ∙ ap times_in (Leads-single D S (steps shown) _ _ (h shown _ (shown_gives k)) (i shown _ (shown_gives l))) ∙ shown_times l

      one_breach : (b c : Breach) → Stopped D S steps b → Stopped D S steps c → b ≡ c
      one_breach b c h i = let e : Fails b ≡ Fails c = Leads-single D S (steps shown) (Fails b) (Fails c) (h shown) (i shown) in cc

      not_both : (k : Iteration) (b : Breach) → Reached D S steps k → Stopped D S steps b → ⊥
      not_both k b h i =
          let e : Gives (made (il.Iter k [] (il.Bool true)) ty.Bool) ≡ Fails b = Leads-single D S (steps shown) _ (Fails b) (h shown _ (shown_gives k)) (i shown) in cc

  -- ---- judgements

  fillings_one : (R : RelationDef) (e : Exp)
      → HasOneOutcome (FillsCase D.types (case_of R) e) (λ b. (b ≡ broken (place e) Y2) × ((fs : List Filling) → FillsCase D.types (case_of R) e fs → ⊥))
  fillings_one R e = record {
    one = FillsCase-single D.types (case_of R) e;
    one_breach = λ b c h k. h.0 ∙ sym k.0;
    not_both = λ fs b h k. k.1 fs h;
  }

  module _ (w : Within) (R : RelationDef) (e : Exp) where
    abbrev Unfit : Breach → Type 0
    Unfit b = (b ≡ broken (place e) Y2) × ((fs : List Filling) → FillsCase D.types (case_of R) e fs → ⊥)

    abbrev Filled : List Filling → List IlExp → Type 0
    Filled fs xs = AskedAs D S (judgement_questions w e fs R) IlExp exp_of xs

    abbrev FilledBreach : List Filling → Breach → Type 0
    FilledBreach fs b = Breaks D S (judgement_questions w e fs R) b

    judged_open : (xs : List IlExp) → Judged D S w R e xs → Then (FillsCase D.types (case_of R) e) Filled xs
    judged_open xs h = (h.fillings, h.fits, h.filled)

    breach_open : (b : Breach) → JudgedBreach D S w R e b → Or Unfit (FillsCase D.types (case_of R) e) FilledBreach b
    breach_open b (unfit n) = inl (refl, n)
    breach_open b (filling fs h k) = inr (fs, h, k)

    pub judged_one : HasOneOutcome (Judged D S w R e) (JudgedBreach D S w R e)
    judged_one = one_by (Judged D S w R e) (Then (FillsCase D.types (case_of R) e) Filled) (JudgedBreach D S w R e) (Or Unfit (FillsCase D.types (case_of R) e) FilledBreach)
        judged_open breach_open
        (then_one (FillsCase D.types (case_of R) e) Unfit Filled FilledBreach (fillings_one R e) (λ fs h. asked_one D S (judgement_questions w e fs R) exp_of))

  -- ---- premises, by what they are

  abbrev Condition : Within → Exp → IlPrem → Type 0
  Condition w e x = Then (ElabInside D S w e ty.Bool) (λ y x. x ≡ premise.If y) x

  abbrev Goal : Within → List ℕ → Exp → Option RelationDef → IlPrem → Type 0
  Goal w name e None x = ⊥
  Goal w name e (Some R) x = Then (Judged D S w R e) (λ xs x. x ≡ premise.Goal name xs) x

  abbrev GoalBreach : Within → Prem → Exp → Option RelationDef → Breach → Type 0
  GoalBreach w p e None b = b ≡ broken (place_of p) B2
  GoalBreach w p e (Some R) b = JudgedBreach D S w R e b

  abbrev Iterated : Within → Count → IlPrem → IlPrem → Type 0
  Iterated w c y x = Then (Reached D S (counted_at w (out-Count c))) (λ k x. x ≡ premise.Each k (iterated S w c (λ name. occurs_in_prem name y)) y) x

  abbrev At : Within → PremNode-F PremNode Prem → IlPrem → Type 0
  At w (PremNode-F.If e) x = Condition w e x
  At w (PremNode-F.Goal name e) x = Goal w name e (relation_named D.relations name) x
  At w PremNode-F.Otherwise x = x ≡ premise.Otherwise
  At w (PremNode-F.Each q c) x = Then (ElabPrem D S (inside w c) q) (Iterated w c) x

  abbrev BreachAt : Within → Prem → PremNode-F PremNode Prem → Breach → Type 0
  BreachAt w p (PremNode-F.If e) b = InsideBreach D S w e ty.Bool b
  BreachAt w p (PremNode-F.Goal name e) b = GoalBreach w p e (relation_named D.relations name) b
  BreachAt w p PremNode-F.Otherwise b = ⊥
  BreachAt w p (PremNode-F.Each q c) b = Or (PremBreach D S (inside w c) q) (ElabPrem D S (inside w c) q) (λ x. Stopped D S (counted_at w (out-Count c))) b

  prem_open : (w : Within) (p : Prem) (x : IlPrem) → ElabPrem D S w p x → At w (node_of p) x
  prem_open w p x (condition e y is h) = subst (λ n. At w n (premise.If y)) (sym is) (y, h, refl)
  prem_open w p x (judgement name e R xs is r h) =
      subst (λ n. At w n (premise.Goal name xs)) (sym is) (subst (λ z. Goal w name e z (premise.Goal name xs)) (sym r) (xs, h, refl))
  prem_open w p x (otherwise is) = subst (λ n. At w n premise.Otherwise) (sym is) refl
  prem_open w p x (each q c y k is h n) = subst (λ z. At w z (premise.Each k (iterated S w c (λ name. occurs_in_prem name y)) y)) (sym is) (y, h, (k, n, refl))

  prem_breach_open : (w : Within) (p : Prem) (b : Breach) → PremBreach D S w p b → BreachAt w p (node_of p) b
  prem_breach_open w p b (in_condition e is h) = subst (λ n. BreachAt w p n b) (sym is) h
  prem_breach_open w p b (undeclared name e is r) =
      subst (λ n. BreachAt w p n (broken (place_of p) B2)) (sym is) (subst (λ z. GoalBreach w p e z (broken (place_of p) B2)) (sym r) refl)
  prem_breach_open w p b (in_judgement name e R is r h) =
      subst (λ n. BreachAt w p n b) (sym is) (subst (λ z. GoalBreach w p e z b) (sym r) h)
  prem_breach_open w p b (in_premise q c is h) = subst (λ n. BreachAt w p n b) (sym is) (inl h)
  prem_breach_open w p b (in_count q c x is h k) = subst (λ n. BreachAt w p n b) (sym is) (inr (x, h, k))

  -- ---- one outcome

  condition_one : (w : Within) (e : Exp) → HasOneOutcome (Condition w e) (InsideBreach D S w e ty.Bool)
  condition_one w e =
      one_by (Condition w e) (Condition w e) (InsideBreach D S w e ty.Bool) (Or (InsideBreach D S w e ty.Bool) (ElabInside D S w e ty.Bool) (λ x b. ⊥)) (λ x h. h) (λ b h. inl h)
      (then_one (ElabInside D S w e ty.Bool) (InsideBreach D S w e ty.Bool) (λ y x. x ≡ premise.If y) (λ x b. ⊥) (inside_one D S w e ty.Bool) (λ y h. this_one (premise.If y)))

  goal_one : (w : Within) (p : Prem) (name : List ℕ) (e : Exp) (R : Option RelationDef) → HasOneOutcome (Goal w name e R) (GoalBreach w p e R)
  goal_one w p name e None = this_breach (broken (place_of p) B2)
  goal_one w p name e (Some R) =
      one_by (Goal w name e (Some R)) (Goal w name e (Some R)) (JudgedBreach D S w R e) (Or (JudgedBreach D S w R e) (Judged D S w R e) (λ xs b. ⊥)) (λ x h. h) (λ b h. inl h)
      (then_one (Judged D S w R e) (JudgedBreach D S w R e) (λ xs x. x ≡ premise.Goal name xs) (λ xs b. ⊥) (judged_one w R e) (λ xs h. this_one (premise.Goal name xs)))

  iterated_one : (w : Within) (c : Count) (y : IlPrem) → HasOneOutcome (Iterated w c y) (Stopped D S (counted_at w (out-Count c)))
  iterated_one w c y =
      one_by (Iterated w c y) (Iterated w c y) (Stopped D S (counted_at w (out-Count c))) (Or (Stopped D S (counted_at w (out-Count c))) (Reached D S (counted_at w (out-Count c))) (λ k b. ⊥)) (λ x h. h) (λ b h. inl h)
      (then_one (Reached D S (counted_at w (out-Count c))) (Stopped D S (counted_at w (out-Count c))) (λ k x. x ≡ premise.Each k (iterated S w c (λ name. occurs_in_prem name y)) y) (λ k b. ⊥)
      (reached_one (counted_at w (out-Count c))) (λ k h. this_one (premise.Each k (iterated S w c (λ name. occurs_in_prem name y)) y)))

  -- the premise has one outcome at most, whatever is round it
  abbrev One : Prem → Type 0
  One p = (w : Within) → HasOneOutcome (ElabPrem D S w p) (PremBreach D S w p)

  -- the premise of an iteration has one outcome at most
  abbrev PartsOne : PremNode-F PremNode Prem → Type 0
  PartsOne (PremNode-F.Each q c) = One q
  PartsOne n = Unit {0}

  at_one : (w : Within) (p : Prem) (n : PremNode-F PremNode Prem) → PartsOne n → HasOneOutcome (At w n) (BreachAt w p n)
  at_one w p (PremNode-F.If e) one = condition_one w e
  at_one w p (PremNode-F.Goal name e) one = goal_one w p name e (relation_named D.relations name)
  at_one w p PremNode-F.Otherwise one = this_one premise.Otherwise
  at_one w p (PremNode-F.Each q c) one =
      then_one (ElabPrem D S (inside w c) q) (PremBreach D S (inside w c) q) (Iterated w c) (λ x. Stopped D S (counted_at w (out-Count c))) (one (inside w c)) (λ x h. iterated_one w c x)

  prem_level : (p : Prem) → PartsOne (node_of p) → One p
  prem_level p one w = one_by (ElabPrem D S w p) (At w (node_of p)) (PremBreach D S w p) (BreachAt w p (node_of p)) (prem_open w p) (prem_breach_open w p) (at_one w p (node_of p) one)

  abbrev NodeOne : PremNode → Type 0
  NodeOne n = PartsOne (out-PremNode n)

  abbrev Such : Type 0
  Such = (p : Prem) × One p

  abbrev SuchNode : Type 0
  SuchNode = (n : PremNode) × NodeOne n

  parts_one : (y : PremNode-F SuchNode Such) → PartsOne (map-PremNode SuchNode Such PremNode Prem (λ e. e.0) (λ e. e.0) y)
  parts_one (PremNode-F.If e) = tt
  parts_one (PremNode-F.Goal name e) = tt
  parts_one PremNode-F.Otherwise = tt
  parts_one (PremNode-F.Each q c) = q.1

  pub prem_one : (p : Prem) → One p
  prem_one = ind-Prem NodeOne One
      (λ x y e. subst PartsOne (sym (out-roll-PremNode x)) (subst PartsOne e (parts_one y)))
      (λ x y e. prem_level (roll-Prem x) (subst PartsOne (ap (λ (z : Prem-F PremNode Prem). out-PremNode z.node) (sym (out-roll-Prem x))) (subst NodeOne (ap (λ z. z.node) e) y.node.1)))

  -- ---- several premises

  one_prems : (w : Within) (ps : List Prem) (xs ys : List IlPrem) → ElabPrems D S w ps xs → ElabPrems D S w ps ys → xs ≡ ys
  one_prems w [] [] [] h k = refl
  one_prems w [] [] (y ∷ ys) h k = absurd k
  one_prems w [] (x ∷ xs) ys h k = absurd h
  one_prems w (p ∷ ps) [] ys h k = absurd h
  one_prems w (p ∷ ps) (x ∷ xs) [] h k = absurd k
  one_prems w (p ∷ ps) (x ∷ xs) (y ∷ ys) (h, hs) (k, ks) =
      let e = (prem_one p w).one x y h k in
      let f = one_prems w ps xs ys hs ks in
      λ i. e i ∷ f i

  one_prems_breach : (w : Within) (ps : List Prem) (b c : Breach) → PremsBreach D S w ps b → PremsBreach D S w ps c → b ≡ c
  one_prems_breach w [] b c h k = absurd h
  one_prems_breach w (p ∷ ps) b c (inl h) (inl k) = (prem_one p w).one_breach b c h k
  one_prems_breach w (p ∷ ps) b c (inl h) (inr (x, k, ks)) = absurd ((prem_one p w).not_both x b k h)
  one_prems_breach w (p ∷ ps) b c (inr (x, h, hs)) (inl k) = absurd ((prem_one p w).not_both x c h k)
  one_prems_breach w (p ∷ ps) b c (inr (x, h, hs)) (inr (y, k, ks)) = one_prems_breach w ps b c hs ks

  prems_no_breach : (w : Within) (ps : List Prem) (xs : List IlPrem) (b : Breach) → ElabPrems D S w ps xs → PremsBreach D S w ps b → ⊥
  prems_no_breach w [] xs b h k = k
  prems_no_breach w (p ∷ ps) [] b h k = h
  prems_no_breach w (p ∷ ps) (x ∷ xs) b (h, hs) (inl k) = (prem_one p w).not_both x b h k
  prems_no_breach w (p ∷ ps) (x ∷ xs) b (h, hs) (inr (y, k, ks)) = prems_no_breach w ps xs b hs ks

  pub prems_one : (w : Within) (ps : List Prem) → HasOneOutcome (ElabPrems D S w ps) (PremsBreach D S w ps)
  prems_one w ps = record { one = one_prems w ps; one_breach = one_prems_breach w ps; not_both = prems_no_breach w ps }
