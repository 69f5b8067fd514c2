-- A rule or clause has one outcome at most.
use Rattle.std.proofs.Common.{◌≡◌, refl, sym, ◌∙◌, ℕ, List, [], ◌∷◌, map, inl, inr}
use Rattle.st_num.specs.declared.span.Span.{Span}
use Rattle.st_num.specs.declared.rule.RuleId.TheVariants.{Y6}
use Rattle.st_el.specs.declared.expression.Exp.{Exp}
use Rattle.st_el.specs.declared.definition.Prem.{Prem}
use Rattle.st_il.specs.declared.expression.IlExp.{IlExp}
use Rattle.st_il.specs.declared.expression.IlPrem.{IlPrem}
use Rattle.st_il.specs.declared.definition.FunDef.{FunDef}
use Rattle.st_il.specs.declared.definition.RelationDef.{RelationDef}
use Rattle.st_il.specs.declared.definition.RuleDef.{RuleDef}
use Rattle.st_il.specs.declared.definition.ClauseDef.{ClauseDef}
use Rattle.st_dims.specs.Mentions.{mentions_in}
use Rattle.st_elab_table.specs.declared.decls.Decls.{Decls}
use Rattle.st_elab_table.specs.declared.decls.Scope.{Scope}
use Rattle.st_elab_table.specs.Questions.{Breach}
use Rattle.st_elab_table.specs.Steps.{exp_of}
use Rattle.st_elab_table.specs.Elaboration.{around}
use Rattle.st_elab_table.specs.Parts.{AskedAs, Breaks}
use Rattle.st_elab_table.specs.Inside.{ElabInside, InsideBreach}
use Rattle.st_elab_exp.specs.Single.{HasOneOutcome}
use Rattle.st_elab_table.specs.Judgements.{broken, Judged, JudgedBreach}
use Rattle.st_elab_table.specs.Premises.{ElabPrems, PremsBreach}
use Rattle.st_elab_table.specs.Scopes.{IsScope, VariableBreach, listed}
use Rattle.st_elab_table.specs.Rules.{IsRuleScope, ElabRule, RuleBreach, at_variable, in_conclusion, in_premises}
use Rattle.st_elab_table.specs.Clauses.{ClauseParts, mentions_of, HasArguments, argument_questions, ElabClause, ClauseBreach, in_number, at_variable as at_a_variable, in_arguments, in_result, in_premises as in_its_premises}
use Rattle.st_elab_exp.proofs.Outcomes.{Then, Or, then_one, one_by, this_one, inside_one, asked_one}
use Rattle.st_elab_exp.proofs.Premising.{judged_one, prems_one}
use Rattle.st_elab_exp.proofs.Scoping.{scope_one}

-- ---- rules

module _ (D : Decls) (R : RelationDef) (name : List ℕ) (conclusion : Exp) (premises : List Prem) where
  abbrev rule_of : Scope → List IlExp → List IlPrem → RuleDef
  rule_of S xs ys = record { relation = R.name; name = name; variables = map listed S.variables; conclusion = xs; premises = ys }

  abbrev IsIt : Scope → List IlExp → List IlPrem → RuleDef → Type 0
  IsIt S xs ys rule = rule ≡ rule_of S xs ys

  abbrev Holding : Scope → List IlExp → RuleDef → Type 0
  Holding S xs rule = Then (ElabPrems D S (around S) premises) (IsIt S xs) rule

  abbrev HoldingBreach : Scope → Breach → Type 0
  HoldingBreach S b = PremsBreach D S (around S) premises b

  abbrev Concluding : Scope → RuleDef → Type 0
  Concluding S rule = Then (Judged D S (around S) R conclusion) (Holding S) rule

  abbrev ConcludingBreach : Scope → Breach → Type 0
  ConcludingBreach S b = Or (JudgedBreach D S (around S) R conclusion) (Judged D S (around S) R conclusion) (λ xs. HoldingBreach S) b

  rule_open : (rule : RuleDef) → ElabRule D R name conclusion premises rule → Then (IsRuleScope D conclusion premises) Concluding rule
  rule_open rule h =
      let relation = h.relation_is in
      let named = h.name_is in
      let variables = h.variables_are in
      let is : IsIt h.scope rule.conclusion rule.premises rule =
      λ i. record { relation = relation i; name = named i; variables = variables i; conclusion = rule.conclusion; premises = rule.premises } in
      (h.scope, h.is_scope, (rule.conclusion, h.judged, (rule.premises, h.holding, is)))

  rule_breach_open : (b : Breach) → RuleBreach D R conclusion premises b
      → Or (VariableBreach D (mentions_in (conclusion ∷ []) premises)) (IsRuleScope D conclusion premises) ConcludingBreach b
  rule_breach_open b (at_variable h) = inl h
  rule_breach_open b (in_conclusion S is h) = inr (S, is, inl h)
  rule_breach_open b (in_premises S xs is j h) = inr (S, is, inr (xs, j, h))

  holding_one : (S : Scope) (xs : List IlExp) → HasOneOutcome (Holding S xs) (HoldingBreach S)
  holding_one S xs =
      one_by (Holding S xs) (Holding S xs) (HoldingBreach S) (Or (HoldingBreach S) (ElabPrems D S (around S) premises) (λ ys b. ⊥)) (λ x h. h) (λ b h. inl h)
      (then_one (ElabPrems D S (around S) premises) (HoldingBreach S) (IsIt S xs) (λ ys b. ⊥) (prems_one D S (around S) premises) (λ ys h. this_one (rule_of S xs ys)))

  concluding_one : (S : Scope) → HasOneOutcome (Concluding S) (ConcludingBreach S)
  concluding_one S =
      then_one (Judged D S (around S) R conclusion) (JudgedBreach D S (around S) R conclusion) (Holding S) (λ xs. HoldingBreach S) (judged_one D S (around S) R conclusion) (λ xs h. holding_one S xs)

  pub rule_one : HasOneOutcome (ElabRule D R name conclusion premises) (RuleBreach D R conclusion premises)
  rule_one =
      one_by (ElabRule D R name conclusion premises) (Then (IsRuleScope D conclusion premises) Concluding) (RuleBreach D R conclusion premises)
      (Or (VariableBreach D (mentions_in (conclusion ∷ []) premises)) (IsRuleScope D conclusion premises) ConcludingBreach) rule_open rule_breach_open
      (then_one (IsRuleScope D conclusion premises) (VariableBreach D (mentions_in (conclusion ∷ []) premises)) Concluding ConcludingBreach
      (scope_one D (mentions_in (conclusion ∷ []) premises)) (λ S h. concluding_one S))

-- ---- clauses

module _ (D : Decls) (f : FunDef) (at : Span) (c : ClauseParts) where
  abbrev clause_of : Scope → List IlExp → IlExp → List IlPrem → ClauseDef
  clause_of S xs x ys = record { fun = f.name; variables = map listed S.variables; args = xs; result = x; premises = ys }

  abbrev IsClause : Scope → List IlExp → IlExp → List IlPrem → ClauseDef → Type 0
  IsClause S xs x ys clause = clause ≡ clause_of S xs x ys

  abbrev Ending : Scope → List IlExp → IlExp → ClauseDef → Type 0
  Ending S xs x clause = Then (ElabPrems D S (around S) c.premises) (IsClause S xs x) clause

  abbrev EndingBreach : Scope → Breach → Type 0
  EndingBreach S b = PremsBreach D S (around S) c.premises b

  abbrev Resulting : Scope → List IlExp → ClauseDef → Type 0
  Resulting S xs clause = Then (ElabInside D S (around S) c.result f.result) (Ending S xs) clause

  abbrev ResultingBreach : Scope → Breach → Type 0
  ResultingBreach S b = Or (InsideBreach D S (around S) c.result f.result) (ElabInside D S (around S) c.result f.result) (λ x. EndingBreach S) b

  abbrev Arguing : Scope → ClauseDef → Type 0
  Arguing S clause = Then (AskedAs D S (argument_questions S f c) IlExp exp_of) (Resulting S) clause

  abbrev ArguingBreach : Scope → Breach → Type 0
  ArguingBreach S b = Or (Breaks D S (argument_questions S f c)) (AskedAs D S (argument_questions S f c) IlExp exp_of) (λ xs. ResultingBreach S) b

  abbrev Scoped : ClauseDef → Type 0
  Scoped clause = Then (IsScope D (mentions_of c)) Arguing clause

  abbrev ScopedBreach : Breach → Type 0
  ScopedBreach b = Or (VariableBreach D (mentions_of c)) (IsScope D (mentions_of c)) ArguingBreach b

  abbrev Numbered : Unit {0} → Type 0
  Numbered one = HasArguments f c

  abbrev NumberBreach : Breach → Type 0
  NumberBreach b = (b ≡ broken at Y6) × (HasArguments f c → ⊥)

  clause_open : (clause : ClauseDef) → ElabClause D f c clause → Then Numbered (λ one. Scoped) clause
  clause_open clause h =
      let fun = h.fun_is in
      let variables = h.variables_are in
      let is : IsClause h.scope clause.args clause.result clause.premises clause =
      λ i. record { fun = fun i; variables = variables i; args = clause.args; result = clause.result; premises = clause.premises } in
      (tt, h.number, (h.scope, h.is_scope, (clause.args, h.arguments, (clause.result, h.result_is, (clause.premises, h.holding, is)))))

  clause_breach_open : (b : Breach) → ClauseBreach D f at c b → Or NumberBreach Numbered (λ one. ScopedBreach) b
  clause_breach_open b (in_number n) = inl (refl, n)
  clause_breach_open b (at_a_variable n h) = inr (tt, n, inl h)
  clause_breach_open b (in_arguments S n is h) = inr (tt, n, inr (S, is, inl h))
  clause_breach_open b (in_result S xs n is a h) = inr (tt, n, inr (S, is, inr (xs, a, inl h)))
  clause_breach_open b (in_its_premises S xs x n is a r h) = inr (tt, n, inr (S, is, inr (xs, a, inr (x, r, h))))

  ending_one : (S : Scope) (xs : List IlExp) (x : IlExp) → HasOneOutcome (Ending S xs x) (EndingBreach S)
  ending_one S xs x =
      one_by (Ending S xs x) (Ending S xs x) (EndingBreach S) (Or (EndingBreach S) (ElabPrems D S (around S) c.premises) (λ ys b. ⊥)) (λ z h. h) (λ b h. inl h)
      (then_one (ElabPrems D S (around S) c.premises) (EndingBreach S) (IsClause S xs x) (λ ys b. ⊥) (prems_one D S (around S) c.premises) (λ ys h. this_one (clause_of S xs x ys)))

  resulting_one : (S : Scope) (xs : List IlExp) → HasOneOutcome (Resulting S xs) (ResultingBreach S)
  resulting_one S xs =
      then_one (ElabInside D S (around S) c.result f.result) (InsideBreach D S (around S) c.result f.result) (Ending S xs) (λ x. EndingBreach S)
      (inside_one D S (around S) c.result f.result) (λ x h. ending_one S xs x)

  arguing_one : (S : Scope) → HasOneOutcome (Arguing S) (ArguingBreach S)
  arguing_one S =
      then_one (AskedAs D S (argument_questions S f c) IlExp exp_of) (Breaks D S (argument_questions S f c)) (Resulting S) (λ xs. ResultingBreach S)
      (asked_one D S (argument_questions S f c) exp_of) (λ xs h. resulting_one S xs)

  scoped_one : HasOneOutcome Scoped ScopedBreach
  scoped_one = then_one (IsScope D (mentions_of c)) (VariableBreach D (mentions_of c)) Arguing ArguingBreach (scope_one D (mentions_of c)) (λ S h. arguing_one S)

  number_one : HasOneOutcome Numbered NumberBreach
  number_one = record { one = λ x y h k. refl; one_breach = λ b d h k. h.0 ∙ sym k.0; not_both = λ x b h k. k.1 h }

  pub clause_one : HasOneOutcome (ElabClause D f c) (ClauseBreach D f at c)
  clause_one =
      one_by (ElabClause D f c) (Then Numbered (λ one. Scoped)) (ClauseBreach D f at c) (Or NumberBreach Numbered (λ one. ScopedBreach)) clause_open clause_breach_open
      (then_one Numbered NumberBreach (λ one. Scoped) (λ one. ScopedBreach) number_one (λ one h. scoped_one))
