-- Heads of rules and clauses, and what follows them.
use Rattle.std.proofs.Common.{◌≡◌, refl, sym, ap, ◌∙◌, ℕ, Bool, true, false, true≢false, ◌||◌, ◌&&◌, Some, None, inl, inr, List, [], ◌∷◌, ◌++◌}
use Rattle.std.specs.Prelude.{Option}
use Rattle.std.specs.Borrow.{Bor}
use Rattle.std.specs.Option.{option_copied}
use Rattle.st_num.specs.Names.{same_name}
use Rattle.st_num.specs.declared.rule.RuleId.TheVariants.{B2, B6}
use Rattle.st_num.specs.declared.span.Span.{Span}
use Rattle.st_el.specs.declared.definition.Def.{Def}
use Rattle.st_el.specs.declared.definition.DefNode.{DefNode}
use Rattle.st_el.specs.declared.definition.DefNode.TheVariants.{Rule}
use Rattle.st_el.specs.declared.definition.Prem.{Prem}
use Rattle.st_el.specs.declared.expression.Exp.{Exp}
use Rattle.st_il.specs.declared.definition.ClauseDef.{ClauseDef}
use Rattle.st_il.specs.declared.definition.FunDef.{FunDef}
use Rattle.st_il.specs.declared.definition.IlDef.TheVariants as il
use Rattle.st_il.specs.declared.definition.RelationDef.{RelationDef}
use Rattle.st_il.specs.declared.definition.RuleDef.{RuleDef}
use Rattle.st_elab_table.specs.declared.decls.Decls.{Decls}
use Rattle.st_elab_table.specs.Inferred.{fun_named}
use Rattle.st_elab_table.specs.Questions.{Breach as PartBreach}
use Rattle.st_elab_table.specs.Clauses.{ClauseParts, ElabClause, ClauseBreach}
use Rattle.st_elab_table.specs.Judgements.{relation_named, broken}
use Rattle.st_elab_table.specs.Rules.{ElabRule, RuleBreach}
use Rattle.st_elab_def.specs.Conditions.{has_rule, is_rule}
use Rattle.st_elab_def.specs.Phases.{Placed, on_rule, on_clause}
use Rattle.st_elab_def.specs.inner.Contents.{MakesRule, MakesClause}
use Rattle.st_elab_def.specs.inner.Heads.{KnowsRules, HasHead, on_head, on_function}
use Rattle.st_ilcheck.specs.Index.{has_pair}
use Rattle.st_elab_def.specs.inner.Walk.{FirstBreachAt}
use Rattle.st_type_table.proofs.InsertionLemmas.{any-more}

-- ---- the relation or the function of a name

-- what stands under a name is what was found
pub found-is : {A : Type 0} (o : Option (Bor A)) (found : Option A) (x : Bor A) → o ≡ Some x → option_copied o ≡ found → found ≡ Some x.now
found-is o found x is e = sym e ∙ ap option_copied is

pub none-found : {A : Type 0} (o : Option (Bor A)) (found : Option A) → o ≡ None → option_copied o ≡ found → found ≡ None
none-found o found is e = sym e ∙ ap option_copied is

module _ (D : Decls) where
  pub head-unknown : (before : List Def) (place : Span) (r name : List ℕ) (rest : List Placed) → relation_named D.relations r ≡ None
      → FirstBreachAt D (on_head before place r name rest) (broken place B2)
  head-unknown before place r name rest none = inl ((λ h. differ h.0 h.1), refl)
    where
      differ : (R : RelationDef) → relation_named D.relations r ≡ Some R → ⊥
      differ R is = cc

  pub head-again : (before : List Def) (place : Span) (r name : List ℕ) (rest : List Placed) (R : RelationDef) → relation_named D.relations r ≡ Some R
      → has_rule r name before ≡ true → FirstBreachAt D (on_head before place r name rest) (broken place B6)
  head-again before place r name rest R is again = inr ((R, is), inl ((λ new. true≢false (sym again ∙ new)), refl))

  pub function-unknown : (place : Span) (name : List ℕ) (rest : List Placed) → fun_named D.funs name ≡ None
      → FirstBreachAt D (on_function place name rest) (broken place B2)
  function-unknown place name rest none = inl ((λ h. differ h.0 h.1), refl)
    where
      differ : (f : FunDef) → fun_named D.funs name ≡ Some f → ⊥
      differ f is = cc

  -- ---- behind the head

  pub rule_breach : (before : List Def) (place : Span) (r name : List ℕ) (e : Exp) (ps : List Prem) (R : RelationDef) (b : PartBreach)
      → HasHead D before r name R → RuleBreach D R e ps b → FirstBreachAt D (on_rule before place r name e ps) b
  rule_breach before place r name e ps R b head h =
      inr ((R, head.declared), inr (head.new, inl (record { relation = R; declared = head.declared; broken = h })))

  pub makes_rule : (before : List Def) (place : Span) (r name : List ℕ) (e : Exp) (ps : List Prem) (R : RelationDef) (y : RuleDef)
      → HasHead D before r name R → ElabRule D R name e ps y → MakesRule D before place r name e ps (il.Rule y)
  makes_rule before place r name e ps R y head h = record {
    passes = ((R, head.declared), (head.new, ((y, record { relation = R; declared = head.declared; elaborated = h }), tt)));
    rule = y;
    elaborated = record { relation = R; declared = head.declared; elaborated = h };
    is = refl;
  }

  pub clause_breach : (place : Span) (name : List ℕ) (c : ClauseParts) (f : FunDef) (b : PartBreach) → fun_named D.funs name ≡ Some f
      → ClauseBreach D f place c b → FirstBreachAt D (on_clause place name c) b
  clause_breach place name c f b is h = inr ((f, is), inl (record { fun = f; declared = is; broken = h }))

  pub makes_clause : (place : Span) (name : List ℕ) (c : ClauseParts) (f : FunDef) (y : ClauseDef) → fun_named D.funs name ≡ Some f
      → ElabClause D f c y → MakesClause D place name c (il.Clause y)
  makes_clause place name c f y is h = record {
    passes = ((f, is), ((y, record { fun = f; declared = is; elaborated = h }), tt));
    clause = y;
    elaborated = record { fun = f; declared = is; elaborated = h };
    is = refl;
  }

-- ---- the rules so far

or-false : (a : Bool) → (a || false) ≡ a
or-false true = refl
or-false false = refl

pub more_rules : (before : List Def) (def : Def) (r name : List ℕ) (e : Exp) (ps : List Prem) (old new : List (Bor (List ℕ) × Bor (List ℕ)))
    → def.node ≡ Rule r name e ps → KnowsRules before old
    → ((p q : List ℕ) → has_pair new p q ≡ (has_pair old p q || (same_name p r && same_name q name))) → KnowsRules (before ++ def ∷ []) new
more_rules before def r name e ps old new is h more p q =
    more p q ∙ ap (λ b. b || (same_name p r && same_name q name)) (h p q) ∙ ap (λ n. has_rule p q before || is_rule p q n) (sym is) ∙ sym (any-more (λ (other : Def). is_rule p q other.node) before def)

pub same_rules : (before : List Def) (def : Def) (node : DefNode) (pairs : List (Bor (List ℕ) × Bor (List ℕ))) → def.node ≡ node
    → ((p q : List ℕ) → is_rule p q node ≡ false) → KnowsRules before pairs → KnowsRules (before ++ def ∷ []) pairs
same_rules before def node pairs is none h p q =
    h p q ∙ sym (or-false (has_rule p q before)) ∙ ap (λ b. has_rule p q before || b) (sym (none p q)) ∙ ap (λ n. has_rule p q before || is_rule p q n) (sym is)
    ∙ sym (any-more (λ (other : Def). is_rule p q other.node) before def)
